use Rattle.ctss_tomorrow.proofs.Headline.{is_next}
use Rattle.ctss_tomorrow.proofs.base.write_next_base.Goals as goal

pub returns-clause-headline : goal.returns-clause-headline
returns-clause-headline g c none done =
    is_next c.args.words.now _ _ _ c.show_asked-outcome.result c.asked.ensures none c.show_asked-outcome.ensures done c.hold_words.ensures
