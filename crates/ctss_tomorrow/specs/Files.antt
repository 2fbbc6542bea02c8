-- proof: the cards of a file, if it is kept, and files of words.
use Rattle.std.specs.Prelude.{ℕ, ◌<◌, ◌^◌, List, [], if◌then◌else◌}
use Rattle.std.specs.List.{All}
use Rattle.ctss_types.specs.declared.file.FileBody.{FileBody}
use Rattle.text_model.specs.Canonical.{file_cards}
use Rattle.ctss_tomorrow.specs.Tomorrow.{is_kept}

abbrev pub kept_text : ℕ → FileBody → List ℕ
kept_text owner f = if is_kept f then file_cards (record { owner = owner; body = f }) else []

-- files hold words of the machine
abbrev pub HaveWords : List FileBody → Type 0
HaveWords files = All (λ (f : FileBody). All (λ w. w < 2 ^ 36) f.words) files
