use Rattle.std.proofs.Common.{ap, map, string_bytes, sym, ◌≡◌, ◌∙◌}
use Rattle.std.specs.Prelude.{option_to_list}
use Rattle.std.specs.Option.{option_map}
use Rattle.text_model.specs.Words.{mode_by, mode_of}
use Rattle.clap.proofs.WalkLemmas.{list_any-map}
use Rattle.command_line.specs.Places.{is_other_option, values_found, words_at}
use Rattle.command_line.proofs.Asked.{asked_at, other_refused, unplaced}
use Rattle.command_line.proofs.words.ArgList.mode.Goals as goal

pub returns-then-has_other_option : goal.returns-then-has_other_option
returns-then-has_other_option c =
    let words = map string_bytes c.as_slice-words.result.now in
    let words_are : words ≡ c.args.self.now = ap (map string_bytes) c.as_slice-words.ensures.value ∙ c.self.view_is in
    other_refused words
    (sym (list_any-map is_other_option string_bytes c.as_slice-words.result.now) ∙ (sym c.has_other_option.ensures ∙ c.if-has_other_option.true))
    ∙ ap mode_of words_are

pub matches_of-requires : goal.matches_of-requires
matches_of-requires c =
    sym (list_any-map is_other_option string_bytes c.as_slice-words.result.now) ∙ (sym c.has_other_option.ensures ∙ c.if-has_other_option.false)

pub returns-in-None : goal.returns-in-None
returns-in-None c =
    let words = map string_bytes c.as_slice-words.result.now in
    let words_are : words ≡ c.args.self.now = ap (map string_bytes) c.as_slice-words.ensures.value ∙ c.self.view_is in
    unplaced words (ap (option_map values_found) (sym c.in-None.is) ∙ c.in_ok-matches.ensures) ∙ ap mode_of words_are

pub returns-in-Some : goal.returns-in-Some
returns-in-Some c =
    let words = map string_bytes c.as_slice-words.result.now in
    let words_are : words ≡ c.args.self.now = ap (map string_bytes) c.as_slice-words.ensures.value ∙ c.self.view_is in
    c.mode_at.ensures
    ∙ ((λ i. mode_by (words_at (c.get_str.ensures i) (c.get_str-in-Some.ensures i)) (option_to_list (c.get_str-in-Some-2.ensures i)) (option_to_list (c.get_str-in-Some-3.ensures i)))
    ∙ (asked_at words _ _ _ _ (ap (option_map values_found) (sym c.in-Some.is) ∙ c.in_ok-matches.ensures) ∙ ap mode_of words_are))
