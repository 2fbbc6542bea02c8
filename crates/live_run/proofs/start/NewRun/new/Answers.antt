use Rattle.std.proofs.Common.{◌≡◌, ◌≤◌, ℕ, ◌+◌, List, ◌∷◌, map, length, sum, replicate, sym, ap, subst, ◌∙◌, arith}
use Rattle.std.proofs.lemmas.List.{length-map, length-replicate}
use Rattle.ctss_types.specs.declared.script.Account.{Account}
use Rattle.live_run.proofs.start.NewRun.new.Goals as goal

-- the accounts' blocks fit the drum
pub new-requires-2 : goal.new-requires-2
new-requires-2 c =
    let quotas : c.deref.result.now ≡ map (λ (a : Account). a.blocks) c.args.script.now.accounts =
    c.deref.ensures.value ∙ c.in_ok-quotas.ensures ∙ ap (map (λ (a : Account). a.blocks)) c.as_slice-accounts.ensures in
    subst (λ (ns : List ℕ). sum ns ≤ c.args.script.now.params.drum) (sym quotas) c.requires.lawful.range.fits

pub returns : goal.returns
returns c =
    let blocks = map (λ (a : Account). a.blocks) c.args.script.now.accounts in
    let accounts = c.as_slice-accounts.ensures in
    let quotas = c.in_ok-new-2.ensures.quotas ∙ ap (λ (ns : List ℕ). 0 ∷ ns) (c.deref.ensures.value ∙ c.in_ok-quotas.ensures ∙ ap (map (λ (a : Account). a.blocks)) accounts) in
    let many : length c.in_ok-new-2.field-0.quotas.items ≡ length c.args.script.now.accounts + 1 =
    (let l = length-map c.args.script.now.accounts (λ (a : Account). a.blocks) in let q = ap (λ (ns : List ℕ). length ns) quotas in omega (arith, l, q)) in
    record {
      run = c.in_ok-new.ensures.run;
      texts = c.in_ok-new.ensures.texts;
      begun = c.in_ok-new.ensures.begun;
      none = c.in_ok-new-2.ensures.none;
      records = ap (λ xs. length xs) c.in_ok-new-2.ensures.free ∙ length-replicate _ _;
      quotas = quotas;
      words = c.in_ok-new-3.ensures.words;
      sizes = c.in_ok-no_sizes.ensures ∙ ap (λ (n : ℕ). replicate n 0) (let a = ap (λ xs. length xs) accounts in omega (arith, many, a));
      directories = record {
        tracks = c.in_ok-new-4.ensures.tracks;
        quotas = c.in_ok-new-4.ensures.quotas ∙ ap (λ (all : List Account). c.args.script.now.params.common ∷ map (λ (a : Account). a.tracks) all) accounts;
      };
    }
