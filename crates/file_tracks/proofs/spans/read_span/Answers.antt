use Rattle.std.specs.Prelude.{Option, slice_index}
use Rattle.std.proofs.Common.{◌≡◌, ℕ, List, ◌<◌, ◌^◌, ◌++◌, length, length-append, refl, ap, subst, sym, ◌∙◌, arith, rules}
use Rattle.std.proofs.lemmas.List.Elements.{All-same, All-nil, All-append, All-replicate}
use Rattle.std.proofs.lemmas.List.{length-replicate}
use Rattle.faults.specs.Faults.{WhereTold}
use Rattle.medium.specs.Medium.{CallList}
use Rattle.track_store.specs.Words.{Gave, record_at, tracks_joined}
use Rattle.file_tracks.proofs.Gives.{gave_none, gave_read, gave_more}
use Rattle.file_tracks.proofs.Told.{told_all, told_map, told_both, joined_more, joined_end}
use Rattle.file_tracks.proofs.spans.read_span.Goals as goal

pub reading-init : goal.reading-init
reading-init g c =
    let w = c.in_ok-words.ensures.items in
    let zero = c.as_mut_slice-buffer.ensures.value ∙ c.in_ok-track_words.ensures.items in
    let was = g.F.Medium.calls c.args.store.now.disk.now in
    record {
      keeps = search rules;
      contents = refl;
      buffer = All-same (λ (n : ℕ). n < 2 ^ 36) _ _ zero (All-replicate (λ (n : ℕ). n < 2 ^ 36) 432 0 (omega arith));
      whole = ap length zero ∙ length-replicate {A = ℕ} 432 0;
      words = All-same (λ (n : ℕ). n < 2 ^ 36) _ _ w (All-nil (λ (n : ℕ). n < 2 ^ 36));
      len = ap length w;
      given = told_all _ _ (λ contents. ap (λ (ws : List ℕ). ws ++ tracks_joined contents c.args.tracks.now) (sym w));
      gave = subst (λ (ws : List ℕ). Gave was was ws) (sym w) (gave_none was);
    }

pub reading-preserved : goal.reading-preserved
reading-preserved g c =
    let r = c.in-Ok.ensures in
    let inv = c.reading.invariant in
    let ts = c.args.tracks.now in
    let into = c.read_track.new.into in
    let words = c.reading.words.items in
    let new = c.push_all.new.words.items in
    let was = g.F.Medium.calls c.reading.store.disk.now in
    let now = g.F.Medium.calls c.read_track.new.self.disk.now in
    let t = slice_index ts c.reading.track-index in
    let more : new ≡ words ++ into = c.in_ok-push_all.ensures.items in
    let gives : Gave was now into =
    subst (λ (calls : Option CallList). Gave was calls into) (sym r.calls) (gave_read was t into) in
    record {
      keeps = search rules;
      contents = r.contents ∙ inv.contents;
      buffer = r.words;
      whole = r.len;
      words = All-same (λ (w : ℕ). w < 2 ^ 36) _ _ more (All-append (λ (w : ℕ). w < 2 ^ 36) _ _ inv.words r.words);
      len = (let a = ap length more ∙ length-append words into in let b = inv.len in let d = r.len in omega (arith, a, b, d));
      given =
          told_both _ _ _ _ (λ contents is here. joined_more contents ts c.reading.track-index words new (c.reading-test.true) (more ∙ ap (λ (ws : List ℕ). words ++ ws) (sym here)) is)
          inv.given (subst (λ (o : Option (List (List ℕ))). WhereTold o (λ contents. record_at contents t ≡ into)) inv.contents r.given);
      gave = subst (λ (ws : List ℕ). Gave (g.F.Medium.calls c.args.store.now.disk.now) now ws) (sym more) (gave_more _ _ _ words into inv.gave gives);
    }

pub returns-clause-given : goal.returns-clause-given
returns-clause-given g c =
    told_map _ _ _ (λ contents is. joined_end contents c.args.tracks.now c.reading.track-index c.reading.words.items (omega (arith, c.reading-test.false)) is) c.reading.invariant.given
