use Rattle.std.proofs.Common.{◌≡◌, ◌∙◌, true, ◌&&◌, ◌++◌, ◌∷◌, [], List, Option, map, take, length, sym, ap, subst, arith}
use Rattle.std.specs.Prelude.{nat_le, nat_lt, option_map}
use Rattle.ctss_types.specs.Words.{words_of}
use Rattle.program_model.specs.CommandLines.{Line, with_arguments, all_of, fitting}
use Rattle.dialogue.proofs.LinesMade.{IsMade, line_missing, lines_more, made_more, after_all}
use Rattle.dialogue.proofs.runcom.made.substitute.Goals.{then-fits+in_ok-push, else-fits}
use Rattle.dialogue.proofs.runcom.made.substitute.Goals as goal

pub returns-in_default-clause-err : goal.returns-in_default-clause-err
returns-in_default-clause-err c =
    let f = λ (line : Line). with_arguments (words_of c.args.arguments.now) line in
    ap (fitting c.args.room) (line_missing f c.args.lines.now c.lines.line-index c.line-item.result (omega arith)
    (ap f (sym c.line-item.is ∙ sym c.as_slice.ensures.value) ∙ sym c.in_ok-text.ensures.value ∙ ap (option_map (λ t. t.items)) c.in_default.is))

pub lines-preserved : goal.lines-preserved
lines-preserved c =
    let f = λ (line : Line). with_arguments (words_of c.args.arguments.now) line in
    let told : Option (List Line) = all_of (map f (take c.lines.line-index c.args.lines.now)) in
    let put : (c.lines.fits && c.is_fitting-fits.result) ≡ true → c.if-fits.made ≡ c.lines.made ++ c.in-Some.text.items ∷ [] =
    elim c.if-fits.branch [
      | then-fits+in_ok-push w ↦ λ b. w.made-is ∙ w.in_ok-push.ensures.ok ∙ ap (λ (l : Line). c.lines.made ++ l ∷ []) (w.of.ensures ∙ w.deref-then-fits.ensures.value)
      | else-fits w ↦ λ b. cc (b, w.if-fits.false)
    ] in
    record {
      made = subst (λ (o : Option (List Line)). IsMade (c.lines.fits && c.is_fitting-fits.result) c.args.room c.if-fits.made o)
          (sym (lines_more f c.args.lines.now c.lines.line-index c.line-item.result (omega arith) c.line-item.is
          ∙ ap (after_all told) (ap f (sym c.as_slice.ensures.value) ∙ sym c.in_ok-text.ensures.value ∙ ap (option_map (λ t. t.items)) c.in-Some.is)))
          (made_more c.lines.fits c.is_fitting-fits.result c.args.room c.lines.made c.if-fits.made told c.in-Some.text.items c.lines.invariant.made
          (c.is_fitting-fits.ensures ∙ (λ j. nat_le (length (c.deref.ensures.value j)) 84 && nat_lt (c.len.ensures j) c.args.room)) put);
    }
