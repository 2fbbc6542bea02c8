-- Under the debugger a program does what it does without it.
use Rattle.std.proofs.Common.{◌≡◌, ℕ, suc, ◌-◌, Bool, true, false, not, ◌&&◌, ◌||◌, List, [], ◌∷◌, ◌++◌, Option, Some, None, is_some, fold, refl, sym, ap, subst, ◌∙◌, append_assoc}
use Rattle.std.specs.Prelude.{if◌then◌else◌, option_to_list, nat_lt, length}
use Rattle.std.proofs.lemmas.List.Sums.{fold-append}
use Rattle.time_sharing.specs.Machine.{Laws, Line, Item, In, Out, Quitted, Hung, CommonOp, Reply}
use Rattle.time_sharing.specs.Rows.{Outcome, machine, line_of, own_at_command_of, result_of, done, one_less, first_line, some_line, behind, in_line, out_all}
use Rattle.time_sharing.specs.Private.{Alone, next_alone, when, with_clock, with_reply}
use Rattle.time_sharing.specs.Reach.{Reaches}
use Rattle.time_sharing.specs.System.{clock_for}
use Rattle.time_sharing.proofs.RowsLaws.{rows_laws}
use Rattle.time_sharing.proofs.Runs as runs
use Rattle.machine_model.specs.Machine.{step_of}
use Rattle.program_model.specs.declared.Fill.{Fill}
use Rattle.program_model.specs.declared.ProgramState.{ProgramState}
use Rattle.program_model.specs.declared.ProgramState.TheVariants.{Dead, Dormant, Working}
use Rattle.program_model.specs.declared.DebugLine.{DebugLine}
use Rattle.program_model.specs.declared.DebugLine.TheVariants.{Break, Clear, Go, Look, Regs as Registers, Set, End, Bad}
use Rattle.program_model.specs.DebugLines.{debug_of}
use Rattle.program_model.specs.Stops.{Stops, is_full, with_break, without_break}
use Rattle.user_model.specs.Inner.{Inner}
use Rattle.user_model.specs.Debugger.{debug_row, if_inside, with_breaks, is_debugged, stores, line_stores}
use Rattle.user_model.specs.Session.{user_rows, works_in, Next, AtDebugger, AtInstruction, instruction_next, program_next, next_in, next_of, takes_line_at, asks_clock_at, asks_common_at, act_by}
use Rattle.user_model.specs.User.{User}
use Rattle.user_model.specs.Plain.{woken, plain_machine, with_typed, plain, Move, Comes, Does, Course, reply_in, replies_in, clocks_in, breaks_in, is_own, step_at, written_at, with_own, moved, Allowed, AllAllowed, begun, AreSameLines, outs, DebuggerIsPlain}
use Rattle.user_model.proofs.StepLaws.{at_debugger}
use Rattle.user_model.proofs.PlainRows.{quiet, AreSame, same_marked, same_step, same_replied, same_asks, same_reads, same_times}

-- the machine that goes on owes what a machine owes

pub plain_laws : Laws plain_machine
plain_laws =
    let l = rows_laws user_rows in
    record {
      rises = λ p t r can. l.rises (woken p) t r can;
      typed_own = λ p x. l.typed_own p x;
      opened_own = λ p. l.opened_own p;
      cut_own = λ kind p. l.cut_own kind p;
      typed_can = λ p x can. l.typed_can (woken p) x can;
      typed_clock = λ p x can. l.typed_clock (woken p) x can;
      typed_common = λ p x can. l.typed_common (woken p) x can;
      commutes = λ p x t r can up. l.commutes (woken p) x t r can up;
      can_open = λ p can. l.can_open (woken p) can;
      typed_open = λ p x. l.typed_open p x;
      opened_open = λ p. l.opened_open p;
      quit_open = λ p. l.quit_open p;
      step_open = λ p t r can ne. l.step_open (woken p) t r can ne;
      at_end = λ p. l.at_end p;
    }

-- a program that works

works_is : (s : ProgramState) → works_in s ≡ true → s ≡ Working
works_is Dead h = cc
works_is Dormant h = cc
works_is Working h = refl

true_parts : (a b : Bool) → (a && not b) ≡ true → (a ≡ true) × (b ≡ false)
true_parts true true h = cc
true_parts true false h = (refl, refl)
true_parts false b h = cc

both : (a b : Bool) → (a && b) ≡ true → (a ≡ true) × (b ≡ true)
both true true h = (refl, refl)
both true false h = cc
both false b h = cc

-- what comes next of it
abbrev own_next : User → Next
own_next q = program_next q.inner.fill q.inner

next_is : (q : User) → q.inner.state ≡ Working → next_of q.inner ≡ own_next q
next_is q e = λ j. next_in (e j) q.inner

abbrev line_at : User → Option Line
line_at q = first_line (takes_line_at (own_next q) q.inner) q.unread

line_is : (q : User) → q.inner.state ≡ Working → line_of user_rows q ≡ line_at q
line_is q e = λ j. first_line (takes_line_at (next_is q e j) q.inner) q.unread

common_is : (q : User) → q.inner.state ≡ Working → (machine user_rows).asks_common q ≡ asks_common_at (own_next q) q.inner (line_at q)
common_is q e = λ j. asks_common_at (next_is q e j) q.inner (line_is q e j)

clock_is : (q : User) → q.inner.state ≡ Working → (machine user_rows).asks_clock q ≡ asks_clock_at (own_next q) q.inner (line_at q)
clock_is q e = λ j. asks_clock_at (next_is q e j) q.inner (line_is q e j)

takes_is : (q : User) → q.inner.state ≡ Working → takes_line_at (next_of q.inner) q.inner ≡ takes_line_at (own_next q) q.inner
takes_is q e = λ j. takes_line_at (next_is q e j) q.inner

-- the number of R n
abbrev count_at : User → ℕ
count_at q = suc q.own - own_at_command_of user_rows q

abbrev fed_at : User → ℕ
fed_at q = one_less (line_of user_rows q) q.fed

result_is : (q : User) (t : ℕ) (r : Reply) → q.inner.state ≡ Working →
    result_of user_rows q t r ≡ act_by (asks_common_at (own_next q) q.inner (line_at q)) (own_next q) q.inner (line_at q) (count_at q) (fed_at q) t r
result_is q t r e = λ j. act_by (common_is q e j) (next_is q e j) q.inner (line_is q e j) (count_at q) (fed_at q) t r

-- without the debugger it asks and does the same

quiet_asks : (f : Option Fill) (i : Inner) (line : Option Line) → breaks_in f i ≡ false → asks_common_at (program_next f (quiet i)) (quiet i) line ≡ asks_common_at (program_next f i) i line
quiet_asks (Some f) i line at = refl
quiet_asks None i line at = same_asks (step_of i.regs i.core) i ∙ (λ j. asks_common_at (instruction_next (sym at j) (step_of i.regs i.core)) i line)

quiet_reads : (f : Option Fill) (i : Inner) → breaks_in f i ≡ false → takes_line_at (program_next f (quiet i)) (quiet i) ≡ takes_line_at (program_next f i) i
quiet_reads (Some f) i at = refl
quiet_reads None i at = same_reads (step_of i.regs i.core) i ∙ (λ j. takes_line_at (instruction_next (sym at j) (step_of i.regs i.core)) i)

quiet_times : (f : Option Fill) (i : Inner) (line : Option Line) → breaks_in f i ≡ false → asks_clock_at (program_next f (quiet i)) (quiet i) line ≡ asks_clock_at (program_next f i) i line
quiet_times (Some f) i line at = refl
quiet_times None i line at = same_times (step_of i.regs i.core) i ∙ (λ j. asks_clock_at (instruction_next (sym at j) (step_of i.regs i.core)) i line)

quiet_work : (f : Option Fill) (made : Option CommonOp) (i : Inner) (line : Option Line) (m n k h t : ℕ) (r : Reply) → breaks_in f i ≡ false →
    AreSame (act_by made (program_next f i) i line n k t r) (act_by made (program_next f (quiet i)) (quiet i) line m h t r)
quiet_work (Some f) None i line m n k h t r at = record { inner = refl; alone = refl; written = tt; stays = refl; other = refl; front = refl }
quiet_work (Some f) (Some op) i line m n k h t r at = record { inner = refl; alone = refl; written = tt; stays = refl; other = refl; front = refl }
quiet_work None made i line m n k h t r at =
    subst (λ (b : Bool). AreSame (act_by made (instruction_next b (step_of i.regs i.core)) i line n k t r) (act_by made (program_next None (quiet i)) (quiet i) line m h t r)) (sym at) (by_made made)
  where
    by_made : (made : Option CommonOp) → AreSame (act_by made (AtInstruction (step_of i.regs i.core)) i line n k t r) (act_by made (program_next None (quiet i)) (quiet i) line m h t r)
    by_made None = same_marked _ _ (same_step (step_of i.regs i.core) i line m n t)
    by_made (Some op) = same_marked _ _ (same_replied (step_of i.regs i.core) i r)

-- lines

outs_append : (xs ys : List Item) → outs (xs ++ ys) ≡ outs xs ++ outs ys
outs_append [] ys = refl
outs_append (In l ∷ xs) ys = outs_append xs ys
outs_append (Out l ∷ xs) ys = ap (λ (ls : List Line). l ∷ ls) (outs_append xs ys)
outs_append (Quitted ∷ xs) ys = outs_append xs ys
outs_append (Hung ∷ xs) ys = outs_append xs ys

outs_written : (ls : List Line) → outs (out_all ls) ≡ ls
outs_written [] = refl
outs_written (l ∷ ls) = ap (λ (xs : List Line). l ∷ xs) (outs_written ls)

outs_step : (line : Option Line) (ls : List Line) → outs (in_line line ++ out_all ls) ≡ ls
outs_step None ls = outs_written ls
outs_step (Some l) ls = outs_written ls

same_append : (xs ys us vs : List Line) → AreSameLines xs ys → AreSameLines us vs → AreSameLines (xs ++ us) (ys ++ vs)
same_append [] [] us vs one other = other
same_append [] (y ∷ ys) us vs one other = absurd one
same_append (x ∷ xs) [] us vs one other = absurd one
same_append (x ∷ xs) (y ∷ ys) us vs one other = (one.0, same_append xs ys us vs one.1 other)

append_none : {A : Type 0} (xs : List A) → xs ++ [] ≡ xs
append_none [] = refl
append_none (x ∷ xs) = ap (λ (ys : List _). x ∷ ys) (append_none xs)

-- the line that is taken, where it is the only one
first_again : (b : Bool) (ls : List Line) → first_line b (option_to_list (first_line b ls)) ≡ first_line b ls
first_again false ls = refl
first_again true [] = refl
first_again true (l ∷ ls) = refl

can_again : (b : Bool) (ls : List Line) → (not b || some_line ls) ≡ true → (not b || some_line (option_to_list (first_line b ls))) ≡ true
can_again false ls h = refl
can_again true [] h = cc
can_again true (l ∷ ls) h = refl

behind_first : (line : Option Line) → behind line (option_to_list line) ≡ []
behind_first None = refl
behind_first (Some l) = refl

clock_taken : {X : Type 0} (b : Bool) (t : ℕ) (k : ℕ → List ℕ → Option X) → with_clock b (clocks_in b t) k ≡ k (clock_for b t) []
clock_taken false t k = refl
clock_taken true t k = refl

reply_taken : {X : Type 0} (op : Option CommonOp) (r : Reply) (k : Reply → List Reply → Option X) → with_reply (is_some op) (replies_in op r) k ≡ k (reply_in op r) []
reply_taken None r k = refl
reply_taken (Some op) r k = refl

-- What is true of a run under the debugger: the program alone is there too.
record Follows (p : User) (c : Course) : Type 0 where
  pub alone : User
  pub reaches : Reaches plain_machine c.count (record { state = with_typed p c.lines; clocks = c.clocks; replies = c.replies }) (record { state = alone; clocks = []; replies = [] })
  pub same : quiet alone.inner ≡ quiet c.state.inner
  pub shut : alone.inner.debugger ≡ None
  pub unread : alone.unread ≡ []
  pub on : alone.on ≡ true
  pub said : List Item
  pub transcript : alone.transcript ≡ p.transcript ++ said
  pub written : AreSameLines (outs said) c.written

-- One step under the debugger and one alone, from a state of the program alone with just the line that the step takes.
record Together (q s : User) (t : ℕ) (r : Reply) : Type 0 where
  pub after : User
  pub goes : next_alone plain_machine (record { state = s; clocks = clocks_in ((machine user_rows).asks_clock q) t; replies = replies_in ((machine user_rows).asks_common q) r }) ≡ Some (record { state = after; clocks = []; replies = [] })
  pub same : quiet after.inner ≡ quiet (step_at t r q).inner
  pub shut : after.inner.debugger ≡ None
  pub unread : after.unread ≡ []
  pub on : after.on ≡ true
  pub said : List Item
  pub transcript : after.transcript ≡ s.transcript ++ said
  pub written : AreSameLines (outs said) (written_at t r q)

together : (q s : User) (t : ℕ) (r : Reply) → q.inner.state ≡ Working → breaks_in q.inner.fill q.inner ≡ false → (machine user_rows).can_step q ≡ true
    → quiet s.inner ≡ quiet q.inner → s.inner.debugger ≡ None → s.unread ≡ option_to_list (line_of user_rows q) → s.on ≡ true → Together q s t r
together q s t r e at can same shut unread on =
    let m = machine user_rows in
    let line : Option Line = line_of user_rows q in
    let there : User = woken s in
    let inner_is : there.inner ≡ quiet q.inner = (λ j. record s.inner { state = Working; debugger = shut j }) ∙ same in
    let reads_is : takes_line_at (own_next there) there.inner ≡ takes_line_at (own_next q) q.inner =
    (λ j. takes_line_at (program_next (inner_is j).fill (inner_is j)) (inner_is j)) ∙ quiet_reads q.inner.fill q.inner at in
    let there_line : line_at there ≡ line_at q =
    (λ j. first_line (reads_is j) ((unread ∙ ap option_to_list (line_is q e)) j)) ∙ first_again (takes_line_at (own_next q) q.inner) q.unread in
    let asks_is : asks_common_at (own_next there) there.inner (line_at there) ≡ asks_common_at (own_next q) q.inner (line_at q) =
    (λ j. asks_common_at (program_next (inner_is j).fill (inner_is j)) (inner_is j) (there_line j)) ∙ quiet_asks q.inner.fill q.inner (line_at q) at in
    let times_is : asks_clock_at (own_next there) there.inner (line_at there) ≡ asks_clock_at (own_next q) q.inner (line_at q) =
    (λ j. asks_clock_at (program_next (inner_is j).fill (inner_is j)) (inner_is j) (there_line j)) ∙ quiet_times q.inner.fill q.inner (line_at q) at in
    let there_can : m.can_step there ≡ true =
    (λ j. on j && (not (reads_is j) || some_line ((unread ∙ ap option_to_list (line_is q e)) j)))
    ∙ can_again (takes_line_at (own_next q) q.inner) q.unread (ap (λ (b : Bool). not b || some_line q.unread) (sym (takes_is q e)) ∙ (both q.on _ can).1) in
    let there_clock : m.asks_clock there ≡ m.asks_clock q = clock_is there refl ∙ times_is ∙ sym (clock_is q e) in
    let there_common : m.asks_common there ≡ m.asks_common q = common_is there refl ∙ asks_is ∙ sym (common_is q e) in
    let tick : ℕ = clock_for (m.asks_clock q) t in
    let answer : Reply = reply_in (m.asks_common q) r in
    let o : Outcome Inner = result_of user_rows q tick answer in
    let a : Outcome Inner = result_of user_rows there tick answer in
    let made : Option CommonOp = asks_common_at (own_next q) q.inner (line_at q) in
    let here : o ≡ act_by made (own_next q) q.inner (line_at q) (count_at q) (fed_at q) tick answer = result_is q tick answer e in
    let other : a ≡ act_by made (program_next q.inner.fill (quiet q.inner)) (quiet q.inner) (line_at q) (count_at there) (fed_at there) tick answer =
    result_is there tick answer refl ∙ (λ j. act_by (asks_is j) (program_next (inner_is j).fill (inner_is j)) (inner_is j) (there_line j) (count_at there) (fed_at there) tick answer) in
    let has : AreSame o a =
    subst (λ (x : Outcome Inner). AreSame x a) (sym here)
    (subst (λ (x : Outcome Inner). AreSame (act_by made (own_next q) q.inner (line_at q) (count_at q) (fed_at q) tick answer) x) (sym other)
    (quiet_work q.inner.fill made q.inner (line_at q) (count_at there) (count_at q) (fed_at q) (fed_at there) tick answer at)) in
    record {
      after = done user_rows there a;
      goes = (λ j. when (there_can j) (with_clock (there_clock j) (clocks_in (m.asks_clock q) t) (λ u ts. with_reply (is_some (there_common j)) (replies_in (m.asks_common q) r) (λ x rs.
          Some (record { state = m.step there u x; clocks = ts; replies = rs })))))
          ∙ clock_taken (m.asks_clock q) t (λ u ts. with_reply (is_some (m.asks_common q)) (replies_in (m.asks_common q) r) (λ x rs. Some (record { state = m.step there u x; clocks = ts; replies = rs })))
          ∙ reply_taken (m.asks_common q) r (λ x rs. Some (record { state = m.step there tick x; clocks = []; replies = rs }));
      same = has.inner;
      shut = has.alone;
      unread = (λ j. if has.other j then [] else has.front j ++ behind ((line_is there refl ∙ there_line ∙ sym (line_is q e)) j) (unread j)) ∙ behind_first line;
      on = ap not has.other;
      said = in_line (line_of user_rows there) ++ out_all a.written;
      transcript = refl;
      written = subst (λ (ls : List Line). AreSameLines ls o.written) (sym (outs_step (line_of user_rows there) a.written)) has.written;
    }

-- with a line that the step takes

abbrev typed_on : User → Option Line → User
typed_on s line = fold (machine user_rows).typed s (option_to_list line)

typed_inner : (s : User) (line : Option Line) → (typed_on s line).inner ≡ s.inner
typed_inner s None = refl
typed_inner s (Some l) = refl

typed_said : (s : User) (line : Option Line) → (typed_on s line).transcript ≡ s.transcript
typed_said s None = refl
typed_said s (Some l) = refl

typed_stays : (s : User) (line : Option Line) → (typed_on s line).on ≡ s.on
typed_stays s None = refl
typed_stays s (Some l) = refl

typed_unread : (s : User) (line : Option Line) → s.unread ≡ [] → (typed_on s line).unread ≡ option_to_list line
typed_unread s None h = h
typed_unread s (Some l) h = ap (λ (ls : List Line). ls ++ l ∷ []) h

reaches_typed : (n : ℕ) (s e : User) (line : Option Line) (xs xs' : List ℕ) (ys ys' : List Reply) → e.on ≡ true →
    Reaches plain_machine n (record { state = s; clocks = xs; replies = ys }) (record { state = e; clocks = xs'; replies = ys' }) →
    Reaches plain_machine n (record { state = typed_on s line; clocks = xs; replies = ys }) (record { state = typed_on e line; clocks = xs'; replies = ys' })
reaches_typed n s e None xs xs' ys ys' on h = h
reaches_typed n s e (Some l) xs xs' ys ys' on h = runs.reaches_line plain_machine plain_laws l n (record { state = s; clocks = xs; replies = ys }) (record { state = e; clocks = xs'; replies = ys' }) on h

-- an own step of the program

own_follows : (p : User) (c : Course) (t : ℕ) (r : Reply) → is_own c.state ≡ true → (machine user_rows).can_step c.state ≡ true → Follows p c → Follows p (with_own c t r)
own_follows p c t r own can h =
    let q : User = c.state in
    let line : Option Line = line_of user_rows q in
    let s : User = typed_on h.alone line in
    let parts = true_parts (works_in q.inner.state) (breaks_in q.inner.fill q.inner) own in
    let xs : List ℕ = clocks_in ((machine user_rows).asks_clock q) t in
    let ys : List Reply = replies_in ((machine user_rows).asks_common q) r in
    let one : Together q s t r =
    together q s t r (works_is q.inner.state parts.0) parts.1 can (ap quiet (typed_inner h.alone line) ∙ h.same) (ap (λ (i : Inner). i.debugger) (typed_inner h.alone line) ∙ h.shut)
    (typed_unread h.alone line h.unread) (typed_stays h.alone line ∙ h.on) in
    let before : Reaches plain_machine c.count (record { state = typed_on (with_typed p c.lines) line; clocks = c.clocks ++ xs; replies = c.replies ++ ys }) (record { state = s; clocks = xs; replies = ys }) =
    reaches_typed c.count (with_typed p c.lines) h.alone line (c.clocks ++ xs) xs (c.replies ++ ys) ys h.on
    (runs.reaches_more plain_machine plain_laws xs ys c.count (record { state = with_typed p c.lines; clocks = c.clocks; replies = c.replies }) (record { state = h.alone; clocks = []; replies = [] }) h.reaches) in
    record {
      alone = one.after;
      reaches = runs.reaches_step plain_machine plain_laws c.count (record { state = with_typed p (c.lines ++ option_to_list line); clocks = c.clocks ++ xs; replies = c.replies ++ ys }) (record { state = s; clocks = xs; replies = ys }) (record { state = one.after; clocks = []; replies = [] })
          (subst (λ (u : User). Reaches plain_machine c.count (record { state = u; clocks = c.clocks ++ xs; replies = c.replies ++ ys }) (record { state = s; clocks = xs; replies = ys }))
          (sym (fold-append (machine user_rows).typed (record p { unread = []; fed = 0 }) c.lines (option_to_list line))) before)
          one.goes;
      same = one.same;
      shut = one.shut;
      unread = one.unread;
      on = one.on;
      said = h.said ++ one.said;
      transcript = one.transcript ∙ ap (λ (items : List Item). items ++ one.said) (typed_said h.alone line ∙ h.transcript) ∙ append_assoc p.transcript h.said one.said;
      written = subst (λ (ls : List Line). AreSameLines ls (c.written ++ written_at t r q)) (sym (outs_append h.said one.said)) (same_append (outs h.said) c.written (outs one.said) (written_at t r q) h.written one.written);
    }

-- a step that isn't the program's own leaves the program

abbrev Leaves : Inner → Outcome Inner → Type 0
Leaves i o = quiet o.inner ≡ quiet i

leaves_if : (b : Bool) (i : Inner) (x y : Outcome Inner) → Leaves i x → Leaves i y → Leaves i (if b then x else y)
leaves_if true i x y one other = one
leaves_if false i x y one other = other

leaves_inside : (a : ℕ) (done i : Inner) → quiet done ≡ quiet i → Leaves i (if_inside a done i)
leaves_inside a done i h = leaves_if (nat_lt a (length i.core)) i _ _ h refl

debug_leaves : (s : Stops) (l : DebugLine) (i : Inner) (n : ℕ) → stores l ≡ false → Leaves i (debug_row s l i n)
debug_leaves s (Break a) i n h = leaves_if (is_full s.breaks a) i _ _ refl (leaves_inside a (with_breaks s (with_break s.breaks a) i) i refl)
debug_leaves s (Clear a) i n h = leaves_inside a (with_breaks s (without_break s.breaks a) i) i refl
debug_leaves s Go i n h = refl
debug_leaves s (Look a) i n h = refl
debug_leaves s Registers i n h = refl
debug_leaves s (Set a w) i n h = cc
debug_leaves s End i n h = refl
debug_leaves s Bad i n h = refl

not_own : (a b : Bool) → a ≡ true → (a && not b) ≡ false → b ≡ true
not_own true true w h = refl
not_own true false w h = cc
not_own false b w h = cc

not_both : (a b : Bool) → (a || not b) ≡ true → a ≡ false → b ≡ false
not_both true b h e = cc
not_both false true h e = cc
not_both false false h e = refl

-- a line of the debugger
idle_leaves : (s : Stops) (i : Inner) (line : Option Line) (n k t : ℕ) (r : Reply) → line_stores line ≡ false →
    Leaves i (act_by (asks_common_at (AtDebugger s) i line) (AtDebugger s) i line n k t r)
idle_leaves s i None n k t r h = refl
idle_leaves s i (Some l) n k t r h = debug_leaves s (debug_of l) i n h

-- a break
break_leaves : (f : Option Fill) (i : Inner) (line : Option Line) (n k t : ℕ) (r : Reply) → breaks_in f i ≡ true →
    Leaves i (act_by (asks_common_at (program_next f i) i line) (program_next f i) i line n k t r)
break_leaves (Some f) i line n k t r at = cc
break_leaves None i line n k t r at =
    subst (λ (b : Bool). Leaves i (act_by (asks_common_at (instruction_next b (step_of i.regs i.core)) i line) (instruction_next b (step_of i.regs i.core)) i line n k t r)) (sym at) refl

other_leaves : (q : User) (t : ℕ) (r : Reply) → is_own q ≡ false → is_debugged q.inner.debugger ≡ true → (works_in q.inner.state || not (line_stores (line_of user_rows q))) ≡ true →
    quiet (step_at t r q).inner ≡ quiet q.inner
other_leaves q t r other open_ allowed = by_work (works_in q.inner.state) refl
  where
    tick : ℕ
    tick = clock_for ((machine user_rows).asks_clock q) t

    answer : Reply
    answer = reply_in ((machine user_rows).asks_common q) r

    by_work : (b : Bool) → works_in q.inner.state ≡ b → Leaves q.inner (result_of user_rows q tick answer)
    by_work true w =
        subst (λ (o : Outcome Inner). Leaves q.inner o) (sym (result_is q tick answer (works_is q.inner.state w)))
        (break_leaves q.inner.fill q.inner (line_at q) (count_at q) (fed_at q) tick answer (not_own (works_in q.inner.state) (breaks_in q.inner.fill q.inner) w other))
    by_work false w = by_debugger q.inner.debugger refl open_
      where
        by_debugger : (d : Option Stops) → q.inner.debugger ≡ d → is_debugged d ≡ true → Leaves q.inner (result_of user_rows q tick answer)
        by_debugger None is o = cc
        by_debugger (Some s) is o =
            subst (λ (x : Next). Leaves q.inner (act_by (asks_common_at x q.inner (line_of user_rows q)) x q.inner (line_of user_rows q) (count_at q) (fed_at q) tick answer)) (sym (at_debugger q.inner s w is))
            (idle_leaves s q.inner (line_of user_rows q) (count_at q) (fed_at q) tick answer (not_both (works_in q.inner.state) (line_stores (line_of user_rows q)) allowed w))

-- a move

moves : (p : User) (c : Course) (m : Move) → Allowed c m → Follows p c → Follows p (moved c m)
moves p c (Comes l) allowed h =
    record { alone = h.alone; reaches = h.reaches; same = h.same; shut = h.shut; unread = h.unread; on = h.on; said = h.said; transcript = h.transcript; written = h.written }
moves p c (Does t r) allowed h = by_own (is_own c.state) refl
  where
    by_own : (b : Bool) → is_own c.state ≡ b → Follows p (if b then with_own c t r else record c { state = step_at t r c.state })
    by_own true own = own_follows p c t r own allowed.0 h
    by_own false other =
        record {
          alone = h.alone;
          reaches = h.reaches;
          same = h.same ∙ sym (other_leaves c.state t r other allowed.1 allowed.2);
          shut = h.shut;
          unread = h.unread;
          on = h.on;
          said = h.said;
          transcript = h.transcript;
          written = h.written;
        }

all_moves : (p : User) (ms : List Move) (c : Course) → AllAllowed c ms → Follows p c → Follows p (fold moved c ms)
all_moves p [] c allowed h = h
all_moves p (m ∷ ms) c allowed h = all_moves p ms (moved c m) allowed.1 (moves p c m allowed.0 h)

pub debugger_is_plain : DebuggerIsPlain
debugger_is_plain p s ms on dormant shut allowed =
    let c : Course = fold moved (begun p s) ms in
    let first : Follows p (begun p s) =
    record { alone = record p { unread = []; fed = 0 }; reaches = refl; same = refl; shut = shut; unread = refl; on = on; said = []; transcript = sym (append_none p.transcript); written = tt } in
    let h : Follows p c = all_moves p ms (begun p s) allowed first in
    let there : plain p c.lines c.clocks c.replies c.count ≡ h.alone =
    ap (λ (z : Alone User). z.state) (runs.steps_reach plain_machine plain_laws c.count (record { state = with_typed p c.lines; clocks = c.clocks; replies = c.replies }) (record { state = h.alone; clocks = []; replies = [] }) h.reaches) in
    record {
      regs = sym (ap (λ (i : Inner). i.regs) h.same) ∙ sym (ap (λ (u : User). u.inner.regs) there);
      blocks = sym (ap (λ (i : Inner). i.blocks) h.same) ∙ sym (ap (λ (u : User). u.inner.blocks) there);
      core = sym (ap (λ (i : Inner). i.core) h.same) ∙ sym (ap (λ (u : User). u.inner.core) there);
      files = sym (ap (λ (i : Inner). i.files) h.same) ∙ sym (ap (λ (u : User). u.inner.files) there);
      said = h.said;
      transcript = ap (λ (u : User). u.transcript) there ∙ h.transcript;
      lines = h.written;
    }
