use Rattle.std.proofs.Common.{◌≡◌, suc, Some, None, ap, sym, ◌∙◌, arith, rules, tests}
use Rattle.std.specs.Prelude.{position}
use Rattle.std.specs.Option.{option_map}
use Rattle.std.proofs.lemmas.Iterator.{YieldsList-from_slice}
use Rattle.std.proofs.lemmas.Iterator.Search.{position_from_yields_List}
use Rattle.program_trace.specs.Texts.{covers}
use Rattle.program_trace.proofs.text.card_at.Goals as goal

pub returns : goal.returns
returns c =
    let found : c.position.result ≡ position (covers c.args.place) c.args.rows.now =
    position_from_yields_List (covers c.args.place) _ _ c.position.result c.position.ensures.ran (YieldsList-from_slice _ c.iter.ensures.rest) (λ x b q k. search (rules, tests)) in
    ap Some (omega arith) ∙ ap (option_map suc) (sym c.in_ok-index.was ∙ found)

pub returns-in_err-index : goal.returns-in_err-index
returns-in_err-index c =
    let found : c.position.result ≡ position (covers c.args.place) c.args.rows.now =
    position_from_yields_List (covers c.args.place) _ _ c.position.result c.position.ensures.ran (YieldsList-from_slice _ c.iter.ensures.rest) (λ x b q k. search (rules, tests)) in
    let none : c.from_residual.result ≡ None = search rules in
    none ∙ ap (option_map suc) (sym c.in_err-index.was ∙ found)
