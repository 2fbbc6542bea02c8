use Rattle.std.proofs.Common.{◌+◌, ◌-◌, ◌<◌, ◌++◌, ◌∷◌, [], List, append_assoc, sym, ap, ◌∙◌, arith}
use Rattle.console_texts.specs.Parts.{Shown, Kept}
use Rattle.console_texts.specs.Following.{fresh}
use Rattle.console_texts.proofs.Rows.{shown_all, ok_map, fresh_more}
use Rattle.console_texts.proofs.texts.+add_rows.Goals as goal
use Rattle.std.proofs.lemmas.List.{map-append}

pub returns : goal.returns
returns t c =
    let more : 0 < c.args.count = let e = c.if-count-eq0.false in omega (arith, e) in
    ok_map c.add_rows.result _ _
    (λ e. e ∙ ap (λ (xs : List Shown). xs ++ fresh (c.args.number + 1) (c.args.count - 1)) (ap shown_all c.in_ok-push.ensures.items ∙ map-append (λ (k : Kept). k.shown) c.args.rows.now.items (c.new.result ∷ []))
    ∙ append_assoc (shown_all c.args.rows.now.items) (c.new.result.shown ∷ []) (fresh (c.args.number + 1) (c.args.count - 1))
    ∙ ap (λ (s : Shown). shown_all c.args.rows.now.items ++ s ∷ fresh (c.args.number + 1) (c.args.count - 1)) c.new.ensures
    ∙ ap (λ (xs : List Shown). shown_all c.args.rows.now.items ++ xs) (sym (fresh_more c.args.number c.args.count more)))
    c.add_rows.ensures
