-- What comes to a sink of texts that are added one after another.
use Rattle.std.specs.Prelude.{Option, None, Some, Ok, Err, OnOk, OnErr, true, false, is_err}
use Rattle.std.specs.declared.result.Result.{Result}
use Rattle.std.proofs.Common.{◌≡◌, ℕ, ◌+◌, ◌<◌, ◌≤◌, nat_eq, Bool, List, [], ◌∷◌, ◌++◌, get_or, length, take, drop, refl, sym, ◌∙◌, ap, arith, subst, append_assoc, append-nil, length-append, length-drop, take-append-drop}
use Rattle.std.proofs.lemmas.Grind.{flat_map-append}
use Rattle.std.proofs.lemmas.List.{take_more, take_all, take_at}
use Rattle.std.specs.List.{flat_map}
use Rattle.faults.specs.Faults.{Rose}
use Rattle.faults.proofs.Rises.{rose_later}
use Rattle.ctss_io.specs.Outside.{after}
use Rattle.ctss_io.specs.Whole.{GrewByProperPrefix}
use Rattle.ctss_io.specs.declared.whole.WriteFault.{WriteFault}
use Rattle.ctss_io.specs.declared.outside.Sink.{Ghosts}
use Rattle.std.proofs.lemmas.Bool.Decides.{nat_tests}
use Rattle.text_model.specs.Canonical.{typed_text}
use Rattle.text_model.specs.Parts.{number, blank}
use Rattle.text_writer.specs.Lines.{spaced}
use Rattle.text_writer.specs.declared.writer.TextWriter.{TextWriter}
use Rattle.text_writer.specs.Writing.{WriterSeen, Added, Adds, writer_seen}

-- what comes behind what has come
pub after_both : (held : Option (List ℕ)) (xs ys : List ℕ) → after (after held xs) ys ≡ after held (xs ++ ys)
after_both None xs ys = refl
after_both (Some hs) xs ys = ap (λ (l : List ℕ). Some l) (append_assoc hs xs ys)

after_none : (held : Option (List ℕ)) → after held [] ≡ held
after_none None = refl
after_none (Some hs) = ap (λ (l : List ℕ). Some l) (append-nil hs)

-- the texts of one more element of a list
more : {X : Type 0} (f : X → List ℕ) (xs : List X) (i : ℕ) (e : X) → i < length xs
    → flat_map f (take i xs) ++ f (get_or xs i e) ≡ flat_map f (take (i + 1) xs)
more f xs i e within = rw (take_more xs i e within, flat_map-append f (take i xs) (get_or xs i e ∷ [])) (simp append-nil)

-- what two texts leave of what was due, behind what each of them put
both_due : (was is now a b put more : List ℕ) → was ++ a ≡ put ++ is → is ++ b ≡ more ++ now → was ++ (a ++ b) ≡ (put ++ more) ++ now
both_due was is now a b put more first then =
    sym (append_assoc was a b)
    ∙ ap (λ (l : List ℕ). l ++ b) first
    ∙ append_assoc put is b
    ∙ ap (λ (l : List ℕ). put ++ l) then
    ∙ sym (append_assoc put more now)

-- two texts, one after the other, are one
pub both : (a b : List ℕ) (x y z : WriterSeen) → Added a x y → Added b y z → Added (a ++ b) x z
both a b x y z (Added.Passed p) (Added.Passed q) = Added.Passed (record {
  before = p.before;
  now = q.now;
  put = p.put ++ q.put;
  due = both_due x.waiting y.waiting z.waiting a b p.put q.put p.due q.due;
  held = q.held ∙ ap (λ (o : Option (List ℕ)). after o q.put) p.held ∙ after_both x.held p.put q.put;
  faults_grow = omega (arith, p.faults_grow, q.faults_grow);
})
both a b x y z (Added.Passed p) (Added.Lost q) = Added.Lost (record {
  before = p.before;
  now = q.now;
  put = p.put ++ q.put;
  rest = q.rest;
  due = both_due x.waiting y.waiting q.rest a b p.put q.put p.due q.due;
  lost = q.lost;
  held = q.held ∙ ap (λ (o : Option (List ℕ)). after o q.put) p.held ∙ after_both x.held p.put q.put;
  cause = rose_later x.faults y.faults z.faults p.faults_grow q.cause;
})
both a b x y z (Added.Passed p) (Added.Dropped q) = absurd (grind (arith, q.before, p.now))
both a b x y z (Added.Lost p) (Added.Passed q) = absurd (grind (arith, q.before, p.now))
both a b x y z (Added.Lost p) (Added.Lost q) = absurd (grind (arith, q.before, p.now))
both a b x y z (Added.Lost p) (Added.Dropped q) = Added.Lost (record {
  before = p.before;
  now = q.now;
  put = p.put;
  rest = p.rest ++ b;
  due = sym (append_assoc x.waiting a b) ∙ ap (λ (l : List ℕ). l ++ b) p.due ∙ append_assoc p.put p.rest b;
  lost = omega (arith, p.lost, length-append p.rest b);
  held = q.held ∙ p.held;
  cause = subst (λ (n : ℕ). Rose x.faults n) (sym q.faults) p.cause;
})
both a b x y z (Added.Dropped p) (Added.Passed q) = absurd (grind (arith, q.before, p.now))
both a b x y z (Added.Dropped p) (Added.Lost q) = absurd (grind (arith, q.before, p.now))
both a b x y z (Added.Dropped p) (Added.Dropped q) = Added.Dropped (record {
  before = p.before;
  now = q.now;
  held = q.held ∙ p.held;
  faults = q.faults ∙ p.faults;
})

-- all that waited and a text were written at once, or a part of it
pub written : (text due : List ℕ) (old new : WriterSeen) (r : Result Unit WriteFault) → old.failed ≡ false → old.waiting ++ text ≡ due → new.waiting ≡ []
    → new.failed ≡ is_err r → OnOk r (new.held ≡ after old.held due) → OnErr r (GrewByProperPrefix old.held due new.held)
    → OnErr r (Rose old.faults new.faults) → old.faults ≤ new.faults → Added text old new
written text due old new (Ok u) well is empty failed done short fault kept = Added.Passed (record {
  before = well;
  now = failed;
  put = due;
  due = is ∙ sym (append-nil due) ∙ ap (λ (l : List ℕ). due ++ l) (sym empty);
  held = done;
  faults_grow = kept;
})
written text due old new (Err e) well is empty failed done short fault kept = Added.Lost (record {
  before = well;
  now = failed;
  put = take short.0 due;
  rest = drop short.0 due;
  due = is ∙ sym (take-append-drop short.0 due);
  lost = simp length-drop (omega (arith, short.1));
  held = short.2;
  cause = fault;
})

-- the same of one writer
pub adds_both : {K : Type 0} (g : Ghosts K) (a b : List ℕ) (x y z : TextWriter K) → Adds g a x y → Adds g b y z → Adds g (a ++ b) x z
adds_both g a b x y z first then = record {
  same = first.same ∙ then.same;
  added = both a b (writer_seen g x) (writer_seen g y) (writer_seen g z) first.added then.added;
}

infixr 30 ◌⨾◌
pub ◌⨾◌ : {K : Type 0} {g : Ghosts K} {a b : List ℕ} {x y z : TextWriter K} → Adds g a x y → Adds g b y z → Adds g (a ++ b) x z
◌⨾◌ {g = g} {a = a} {b = b} {x = x} {y = y} {z = z} first then = adds_both g a b x y z first then

-- the same text, written another way
pub adds_is : {K : Type 0} {g : Ghosts K} {a b : List ℕ} {x y : TextWriter K} → a ≡ b → Adds g a x y → Adds g b x y
adds_is {g = g} {x = x} {y = y} same adds = subst (λ (t : List ℕ). Adds g t x y) same adds

none_by : (b : Bool) (x : WriterSeen) → x.failed ≡ b → Added [] x x
none_by false x is = Added.Passed (record {
  before = is;
  now = is;
  put = [];
  due = append-nil x.waiting;
  held = sym (after_none x.held);
  faults_grow = omega arith;
})
none_by true x is = Added.Dropped (record { before = is; now = is; held = refl; faults = refl })

-- nothing was added
pub adds_none : {K : Type 0} (g : Ghosts K) (x : TextWriter K) → Adds g [] x x
adds_none g x = record { same = refl; added = none_by x.has_failed (writer_seen g x) refl }

-- one more of a list, in a loop that adds the texts of its elements
pub adds_next : {K X : Type 0} (g : Ghosts K) (f : X → List ℕ) (xs : List X) (i : ℕ) (e : X) (x y z : TextWriter K) → i < length xs
    → Adds g (flat_map f (take i xs)) x y → Adds g (f (get_or xs i e)) y z → Adds g (flat_map f (take (i + 1) xs)) x z
adds_next g f xs i e x y z within first then = subst (λ (t : List ℕ). Adds g t x z) (more f xs i e within) (first ⨾ then)

pub adds_more : {K X : Type 0} (g : Ghosts K) (f : X → List ℕ) (xs : List X) (i : ℕ) (e : X) (x y z : TextWriter K) → i < length xs → e ≡ get_or xs i e
    → Adds g (flat_map f (take i xs)) x y → Adds g (f e) y z → Adds g (flat_map f (take (i + 1) xs)) x z
adds_more g f xs i e x y z within is first then =
    adds_next g f xs i e x y z within first (subst (λ (d : _). Adds g (f d) y z) is then)

-- all of a list, behind the loop
pub adds_all : {K X : Type 0} (g : Ghosts K) (f : X → List ℕ) (xs : List X) (i : ℕ) (x y : TextWriter K) → length xs ≤ i
    → Adds g (flat_map f (take i xs)) x y → Adds g (flat_map f xs) x y
adds_all g f xs i x y all adds = subst (λ (l : List _). Adds g (flat_map f l) x y) (take_all i xs all) adds

pub spaced_all : (ns : List ℕ) → flat_map number ns ≡ spaced ns
spaced_all [] = refl
spaced_all (n ∷ []) = append-nil (number n)
spaced_all (n ∷ m ∷ ns) = ap (λ (l : List ℕ). number n ++ l) (spaced_all (m ∷ ns))

-- all numbers, behind the loop
pub adds_numbers : {K : Type 0} (g : Ghosts K) (ns : List ℕ) (i : ℕ) (x y : TextWriter K) → length ns ≤ i
    → Adds g (flat_map number (take i ns)) x y → Adds g (spaced ns) x y
adds_numbers g ns i x y all adds = subst (λ (t : List ℕ). Adds g t x y) (spaced_all ns) (adds_all g number ns i x y all adds)

-- what is typed, by whether it is empty
pub typed_some : (text : List ℕ) → nat_eq (length text) 0 ≡ false → blank text ≡ typed_text text
typed_some [] is = absurd (grind (arith, is, nat_tests))
typed_some (c ∷ cs) is = refl

pub typed_none : (text : List ℕ) → nat_eq (length text) 0 ≡ true → [] ≡ typed_text text
typed_none [] is = refl
typed_none (c ∷ cs) is = absurd (grind (arith, is, nat_tests))

-- a text that was added from the start on, once nothing waits: all of it has come, or the put that failed left a part

pub all_came : (text : List ℕ) (x z : WriterSeen) → x.failed ≡ false → x.waiting ≡ [] → z.waiting ≡ [] → z.failed ≡ false → Added text x z
    → z.held ≡ after x.held text
all_came text x z well none empty good (Added.Passed p) =
    let is : text ≡ p.put = ap (λ (l : List ℕ). l ++ text) (sym none) ∙ p.due ∙ ap (λ (l : List ℕ). p.put ++ l) empty ∙ append-nil p.put in
    p.held ∙ ap (λ (l : List ℕ). after x.held l) (sym is)
all_came text x z well none empty good (Added.Lost p) = absurd (grind (arith, good, p.now))
all_came text x z well none empty good (Added.Dropped p) = absurd (grind (arith, well, p.before))

pub part_came : (text : List ℕ) (x z : WriterSeen) → x.failed ≡ false → x.waiting ≡ [] → z.failed ≡ true → Added text x z
    → GrewByProperPrefix x.held text z.held
part_came text x z well none bad (Added.Passed p) = absurd (grind (arith, bad, p.now))
part_came text x z well none bad (Added.Lost p) =
    let is : text ≡ p.put ++ p.rest = ap (λ (l : List ℕ). l ++ text) (sym none) ∙ p.due in
    let front : take (length p.put) text ≡ p.put = ap (λ (l : List ℕ). take (length p.put) l) is ∙ take_at p.put p.rest (length p.put) refl in
    let size : length text ≡ length p.put + length p.rest = ap length is ∙ length-append p.put p.rest in
    (length p.put, omega (arith, size, p.lost), p.held ∙ ap (λ (l : List ℕ). after x.held l) (sym front))
part_came text x z well none bad (Added.Dropped p) = absurd (grind (arith, well, p.before))
