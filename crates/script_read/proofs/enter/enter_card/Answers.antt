use Rattle.std.proofs.Common.{◌≡◌, ℕ, List, Option, Some, None, Result, refl, ap, subst, ◌∙◌}
use Rattle.ctss_types.specs.Words.{word_in, behind_word}
use Rattle.ctss_types.specs.declared.script.Params.{Params}
use Rattle.text_model.specs.declared.cause.ScriptCause.{ScriptCause}
use Rattle.text_model.specs.Drafts.{Draft, more_entered, entered_by}
use Rattle.script_read.specs.Drafts.{draft_of, Enters}
use Rattle.script_read.proofs.enter.enter_card.Goals as goal

-- a card behind PARAM
by_more : (params : Option Params) (d : Draft) (p : Params) (word text : List ℕ) → params ≡ Some p → more_entered d p word text ≡ entered_by params d word text
by_more None d p word text set = cc
by_more (Some q) d p word text set = let same : p ≡ q = cc in ap (λ (r : Params). more_entered d r word text) same

-- a card that is to be PARAM
by_first : (params : Option Params) (d : Draft) (word text : List ℕ) → params ≡ None → entered_by None d word text ≡ entered_by params d word text
by_first None d word text none = refl
by_first (Some p) d word text none = cc

pub returns-in-None : goal.returns-in-None
returns-in-None c =
    let d : Draft = draft_of c.args.draft.now in
    let word = ap (λ (w : List ℕ). entered_by None d w c.first_word.result.1.now) c.first_word.ensures.word in
    let text = ap (entered_by None d (word_in c.args.card.now)) c.first_word.ensures.behind in
    let first = by_first d.params d (word_in c.args.card.now) (behind_word c.args.card.now) c.in-None.is in
    subst (λ (said : Result Draft ScriptCause). Enters c.enter_first.result said (draft_of c.enter_first.new.draft)) (word ∙ text ∙ first) c.enter_first.ensures

pub returns-in-Some : goal.returns-in-Some
returns-in-Some c =
    let d : Draft = draft_of c.args.draft.now in
    let word = ap (λ (w : List ℕ). more_entered d c.in-Some.params w c.first_word.result.1.now) c.first_word.ensures.word in
    let text = ap (more_entered d c.in-Some.params (word_in c.args.card.now)) c.first_word.ensures.behind in
    let more = by_more d.params d c.in-Some.params (word_in c.args.card.now) (behind_word c.args.card.now) c.in-Some.is in
    subst (λ (said : Result Draft ScriptCause). Enters c.enter_more.result said (draft_of c.enter_more.new.draft)) (word ∙ text ∙ more) c.enter_more.ensures
