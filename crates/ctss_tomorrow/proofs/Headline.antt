-- What an answer to no word says of the text that was written.
use Rattle.std.proofs.Common.{◌≡◌, ℕ, List, [], Option, ap, subst, ◌∙◌}
use Rattle.ctss_modes.specs.declared.outcome.Outcome.{Outcome}
use Rattle.ctss_tomorrow.specs.Laws.{HoldsWords}
use Rattle.ctss_tomorrow.proofs.Bases.{next_bases_are_lawful}
use Rattle.ctss_tomorrow.proofs.Read.{next_bases_are_read}
use Rattle.script_show.specs.Shown.{ShownText, StreamsSeen, IsShown, IsShowing}
use Rattle.script_show.specs.Asked.{IsAnswer}
use Rattle.ctss_tomorrow.specs.Next.{IsNextBase, asked, next_text}

pub is_next : (words : List (List ℕ)) (text : Option ShownText) (old new : StreamsSeen) (o : Outcome) → text ≡ asked words → words ≡ []
    → IsAnswer text old new o → o.status ≡ 0 → HoldsWords o.run → IsNextBase old new
is_next words text old new o is none answer done held =
    let shows : IsShowing next_text old new o = subst (λ (x : Option ShownText). IsAnswer x old new o) (is ∙ ap asked none) answer in
    let shown : IsShown next_text old new o = shows.shown done in
    let holds = subst HoldsWords shown.run held in
    record {
      script = shown.script;
      spelled = shown.spelled;
      written = shown.written;
      lawful = next_bases_are_lawful shown.script shown.lawful holds;
      reads = λ h. next_bases_are_read shown.script shown.lawful holds h;
    }
