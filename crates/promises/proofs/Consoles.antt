-- The sentences of live consoles, and of two runs.
use Rattle.std.proofs.Common.{◌≡◌, ◌≤◌, ◌<◌, ℕ, true, false, List, [], ◌++◌, length, take, drop, Option, Ok, sym, ap, ◌∙◌, subst, arith}
use Rattle.faults.specs.Faults.{WhereTold}
use Rattle.ctss_types.specs.declared.script.Script.{Script}
use Rattle.ctss_types.specs.declared.history.Record.{Record}
use Rattle.time_sharing.specs.Feeds.{feed_of}
use Rattle.time_sharing.specs.Private.{alone}
use Rattle.time_sharing.specs.Rows.{machine}
use Rattle.text_model.specs.declared.mode.Mode.TheVariants.{Serve}
use Rattle.text_model.specs.Canonical.{script_text_of}
use Rattle.text_model.specs.declared.cause.ScriptRefusal.{ScriptRefusal}
use Rattle.std.specs.declared.result.Result.{Result}
use Rattle.text_model.specs.Reading.{script_of}
use Rattle.text_model.specs.Report.{report_of}
use Rattle.script_read.specs.Bases.{base_of}
use Rattle.user_model.specs.Session.{user_rows}
use Rattle.system_model.specs.Record.{record_of, first_of_user, EachIsAlone}
use Rattle.console_link.specs.Memory.{memory_seen}
use Rattle.live_serve.specs.Talks.{IsTalk}
use Rattle.file_tracks.specs.Lying.{LieOn}
use Rattle.ctss_modes.specs.Top.{IsRun}
use Rattle.promises.specs.Machines.{IsReady}
use Rattle.serve_laws.specs.Laws.{LiveScriptsAreRead}
use Rattle.serve_laws.specs.VisitLaws.{EventsAreVisits}
use Rattle.promises.proofs.Sent.{served_at}
use Rattle.promises.specs.Sentences.{IsReplayed, AgreesOf, IsServed, IsServedAt, WritesItsReplay}
use Rattle.promises.specs.declared.machine.Machine.{Machine}
use Rattle.promises.specs.declared.replaying.Answered.{Answered}
use Rattle.ctss_io.specs.Memory.{SourceState, SinkState}
use Rattle.std.specs.Prelude.{min}
use Rattle.std.proofs.lemmas.List.{take_min}
use Rattle.std.proofs.Math.Seq.{take-append_seam, drop-append_seam}
use Rattle.promises.proofs.Devices.{seen, source, sink, shows, all_read, written, of_made}

pub is_served : EventsAreVisits → (base : List ℕ) (room port turns : ℕ) (old new : Machine) (a : Answered) → IsReady old
    → IsRun (Serve port turns) (seen (source base []) (sink room []) old) (seen a.input a.output new) a.outcome → IsServed base port turns old new a
is_served law base room port turns old new a ready run =
    let open_records = shows old ready in
    let is = run.run open_records in
    let c = run.comes in
    record {
      first = c.base;
      read = ap base_of (sym (all_read base c.spelled.bytes a.input.left c.spelled.came c.spelled.whole)) ∙ c.spelled.spelled;
      events = c.events;
      script = run.script;
      script_is = c.script_is;
      talk = subst (λ told. IsTalk c.base told port turns c.events (memory_seen old.link) (memory_seen new.link)) open_records c.talk;
      people = λ console lowest.
          subst (λ (s : Script). IsServedAt s turns console (memory_seen new.link)) (sym c.script_is)
          (served_at law c.base port turns c.events (memory_seen old.link) (memory_seen new.link)
          (subst (λ told. IsTalk c.base told port turns c.events (memory_seen old.link) (memory_seen new.link)) open_records c.talk) console lowest);
      run =
          record {
            record_is = is;
            alone = run.alone open_records;
            shared = run.shared open_records;
            counted = run.counted;
            lie = λ contents e. subst (λ (told : Option (List (List ℕ))). WhereTold told (λ c. LieOn c a.outcome.run.files a.outcome.run.common)) e run.lie;
          };
      text = written a.output.held (script_text_of run.script ++ report_of run.script a.outcome.run false) run.written
          ∙ ap (λ (r : Record). script_text_of run.script ++ report_of run.script r false) is;
    }

pub serve_done : EventsAreVisits → (base : List ℕ) (room port turns : ℕ) (old new : Machine) (a : Answered) (input : SourceState) (output : SinkState) → input ≡ source base [] → output ≡ sink room [] → IsReady old
    → IsRun (Serve port turns) (seen input output old) (seen a.input a.output new) a.outcome → IsServed base port turns old new a
serve_done law base room port turns old new a input output input_is output_is ready run =
    is_served law base room port turns old new a ready
    (of_made input (source base []) output (sink room []) (λ i o. IsRun (Serve port turns) (seen i o old) (seen a.input a.output new) a.outcome) input_is output_is run)

same_ok : (s t : Script) → ◌≡◌ {A = Result Script ScriptRefusal} (Ok s) (Ok t) → s ≡ t
same_ok s t e = cc

-- the script of bytes is one
pub same_script : (bytes : List ℕ) (s t : Script) → script_of bytes ≡ Ok s → script_of bytes ≡ Ok t → s ≡ t
same_script bytes s t one other = same_ok s t (sym one ∙ other)

pub same_text : (bytes : List ℕ) (old new before after : Machine) (a b : Answered) → IsReplayed bytes old new a → IsReplayed bytes before after b → a.output.held ≡ b.output.held
same_text bytes old new before after a b one other =
    one.text ∙ ap (λ (s : Script). report_of s (record_of s) false) (same_script bytes one.script other.script one.read other.read) ∙ sym other.text

agree : (u v : ℕ) (s t : Script) (first second : Record) → 0 < u → u ≤ length s.accounts → 0 < v → v ≤ length t.accounts → EachIsAlone s first → EachIsAlone t second
    → AgreesOf u v s t first second
agree u v s t first second u_is u_has v_is v_has one other same feed =
    let a = one u u_is u_has in
    let b = other v v_is v_has in
    let both = ap (λ p. alone (machine user_rows) p (feed_of u s.events first.entries)) same ∙ ap (λ f. alone (machine user_rows) (first_of_user t v) f) feed in
    (a.transcript ∙ ap (λ z. z.state.transcript) both ∙ sym b.transcript, a.files ∙ ap (λ z. z.state.inner.files) both ∙ sym b.files)

pub runs_agree : (bytes other : List ℕ) (old new before after : Machine) (a b : Answered) → IsReplayed bytes old new a → IsReplayed other before after b
    → (s t : Script) → script_of bytes ≡ Ok s → script_of other ≡ Ok t
    → (u v : ℕ) → 0 < u → u ≤ length s.accounts → 0 < v → v ≤ length t.accounts → AgreesOf u v s t a.outcome.run b.outcome.run
runs_agree bytes other old new before after a b one two s t read_s read_t u v u_is u_has v_is v_has =
    agree u v s t a.outcome.run b.outcome.run u_is u_has v_is v_has
    (subst (λ (x : Script). EachIsAlone x a.outcome.run) (same_script bytes one.script s one.read read_s) one.run.alone)
    (subst (λ (x : Script). EachIsAlone x b.outcome.run) (same_script other two.script t two.read read_t) two.run.alone)

-- as much of a text as there is
pub cut_to : (n len : ℕ) (xs ys : List ℕ) → n ≡ min len (length xs) → xs ≡ ys → take n xs ≡ take len ys
cut_to n len xs ys is same = ap (λ (k : ℕ). take k xs) is ∙ take_min len xs ∙ ap (take len) same

-- what is written behind the text of the script is what its replay writes
cut_text : (text report : List ℕ) → take (length text) (text ++ report) ≡ text
cut_text text report = take-append_seam text report

pub repeats : LiveScriptsAreRead → (base : List ℕ) (port turns len : ℕ) (old new before after : Machine) (first second : Answered) (bytes : List ℕ) → turns ≤ 100000
    → bytes ≡ take len first.output.held → IsReplayed bytes before after second → WritesItsReplay base port turns len old new first second
repeats law base port turns len old new before after first second bytes few bytes_are again s len_is small =
    let text = script_text_of s.script in
    let report = report_of s.script (record_of s.script) false in
    let is_live = ap script_text_of s.script_is in
    let read : script_of text ≡ Ok s.script =
    subst (λ (x : Script). script_of (script_text_of x) ≡ Ok x) (sym s.script_is)
    (law base s.first true port turns s.events (memory_seen old.link) (memory_seen new.link) s.read few s.talk (omega (arith, small, len_is, ap length is_live))) in
    let part : bytes ≡ text = bytes_are ∙ ap (take len) s.text ∙ ap (λ (n : ℕ). take n (text ++ report)) (sym len_is) ∙ cut_text text report in
    let same = same_script bytes again.script s.script again.read (ap script_of part ∙ read) in
    again.text ∙ ap (λ (x : Script). report_of x (record_of x) false) same ∙ sym (ap (drop len) s.text ∙ ap (λ (n : ℕ). drop n (text ++ report)) (sym len_is) ∙ drop-append_seam text report)
