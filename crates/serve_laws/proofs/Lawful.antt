-- A live script keeps the rules of cards.
use Rattle.std.proofs.Common.{ℕ, ◌+◌, ◌*◌, ◌≤◌, List, [], map, replicate, length, refl, sym, subst, arith}
use Rattle.std.specs.List.{All}
use Rattle.std.specs.List.Sorted.{IsNonDecreasing}
use Rattle.std.proofs.lemmas.List.Elements.{All-weaker}
use Rattle.ctss_types.specs.declared.script.Script.{Script}
use Rattle.ctss_types.specs.declared.script.Timed.{Timed}
use Rattle.text_model.specs.Lawful.{IsLawful, IsLawfulEvent}
use Rattle.text_model.proofs.LawfulLaws.{scripts_are_lawful}
use Rattle.script_read.proofs.Bases.{bases_are_scripts}
use Rattle.script_laws.proofs.RoundTrip.{canonical_texts_are_read}
use Rattle.live_run.specs.Parts.{live_script}
use Rattle.live_serve.specs.Talks.{empty_desk}
use Rattle.serve_laws.specs.Laws.{LiveScriptsAreRead}
use Rattle.serve_laws.proofs.Fine.{IsWhole}
use Rattle.serve_laws.proofs.Rising.{IsGood, tick_of, all_good, ticks_rise}

abbrev blank : List (List ℕ)
blank = replicate 32 []

whole : IsWhole empty_desk
whole = record { seats = refl; failed = refl }

live_is_lawful : (base : Script) (turns : ℕ) (events : List Timed) → IsLawful base → turns ≤ 100000 → All (IsGood (1000 * turns)) events → IsNonDecreasing (map tick_of events) → IsLawful (live_script base events (1000 * turns))
live_is_lawful base turns events b few good rise =
    record {
      range = record {
        level = b.range.level;
        quantum = b.range.quantum;
        swap = b.range.swap;
        few = b.range.few;
        blocks = b.range.blocks;
        fits = b.range.fits;
        drum = b.range.drum;
        owners = b.range.owners;
        modes = b.range.modes;
        names = b.range.names;
        tracks = b.range.tracks;
        seats = All-weaker (IsGood (1000 * turns)) (λ (e : Timed). (1 ≤ e.console) × (e.console ≤ 32)) (λ e g. (g.some, g.few)) events good;
        ticks = omega (arith, few);
      };
      params = b.params;
      fits = b.fits;
      accounts = b.accounts;
      differ = b.differ;
      files = b.files;
      events = All-weaker (IsGood (1000 * turns)) (λ (e : Timed). IsLawfulEvent e.event) (λ e g. g.lawful) events good;
      order = rise;
      ends = All-weaker (IsGood (1000 * turns)) (λ (e : Timed). e.tick ≤ 1000 * turns) (λ e g. g.ends) events good;
    }

pub live_scripts_are_read : LiveScriptsAreRead
live_scripts_are_read bytes base told port turns events a b read few talk short =
    let end : 1000 * (0 + length talk.turns) ≤ 1000 * turns = let many = talk.many in omega (arith, many) in
    let good : All (IsGood (1000 * turns)) events = subst (All (IsGood (1000 * turns))) (sym talk.events_are) (all_good 0 (1000 * turns) blank empty_desk talk.turns end whole talk.lawful) in
    let rise : IsNonDecreasing (map tick_of events) = subst (λ (es : List Timed). IsNonDecreasing (map tick_of es)) (sym talk.events_are) (ticks_rise blank empty_desk talk.turns whole talk.lawful) in
    canonical_texts_are_read (live_script base events (1000 * turns)) (live_is_lawful base turns events (scripts_are_lawful bytes base (bases_are_scripts bytes base read)) few good rise) short
