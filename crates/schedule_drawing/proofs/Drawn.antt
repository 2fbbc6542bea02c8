-- What is drawn of entries and of users, one after another.
use Rattle.std.proofs.Common.{◌≡◌, ℕ, suc, ◌+◌, ◌-◌, ◌*◌, ◌/◌, ◌<◌, ◌≤◌, List, [], ◌++◌, length, drop, get_or, refl, ap, ◌∙◌, arith}
use Rattle.std.specs.Fmt.{decimal}
use Rattle.std.proofs.lemmas.List.{drop_all}
use Rattle.schedule_figures.proofs.Visits.{one_less}
use Rattle.ctss_types.specs.declared.history.Entry.{Entry}
use Rattle.ctss_types.specs.declared.script.Account.{Account}
use Rattle.picture_model.specs.declared.request.Track.{Track}
use Rattle.picture_model.specs.Requests.{track_after}
use Rattle.picture_model.specs.Folds.{cut_of}
use Rattle.picture_model.specs.Drawing.{drawn, wait_drawn, waits_drawn, user_row, user_rows, ruler, ruler_mark, ruler_drawn, attribute, bar, bar_label, idle_label, level_label, plain_box, text_begun, words_at}

-- what is drawn of the entries from one on

pub drawn_next : (what : ℕ → Entry → List ℕ) (cut : ℕ) (es : List Entry) (i : ℕ) (e : Entry) → i < length es → e ≡ get_or es i e
    → drawn what cut (drop i es) ≡ what cut e ++ drawn what (cut + cut_of e) (drop (i + 1) es)
drawn_next what cut es i e within is = ap (drawn what cut) (one_less es i e within is)

pub drawn_none : (what : ℕ → Entry → List ℕ) (cut : ℕ) (es : List Entry) (i : ℕ) → length es ≤ i → drawn what cut (drop i es) ≡ []
drawn_none what cut es i behind = ap (drawn what cut) (drop_all i es behind)

pub waits_next : (scale zoom u cut : ℕ) (t : Track) (es : List Entry) (i : ℕ) (e : Entry) → i < length es → e ≡ get_or es i e
    → waits_drawn scale zoom u cut t (drop i es)
    ≡ wait_drawn scale zoom u cut t e ++ waits_drawn scale zoom u (cut + cut_of e) (track_after u t e) (drop (i + 1) es)
waits_next scale zoom u cut t es i e within is = ap (waits_drawn scale zoom u cut t) (one_less es i e within is)

pub waits_none : (scale zoom u cut : ℕ) (t : Track) (es : List Entry) (i : ℕ) → length es ≤ i → waits_drawn scale zoom u cut t (drop i es) ≡ []
waits_none scale zoom u cut t es i behind = ap (waits_drawn scale zoom u cut t) (drop_all i es behind)

-- the rows of the users from one on

pub users_next : (scale zoom : ℕ) (accounts : List Account) (es : List Entry) (i : ℕ) (a : Account) → i < length accounts → a ≡ get_or accounts i a
    → user_rows scale zoom (i + 1) (drop i accounts) es ≡ user_row scale zoom (i + 1) a es ++ user_rows scale zoom (i + 1 + 1) (drop (i + 1) accounts) es
users_next scale zoom accounts es i a within is =
    let next : suc (i + 1) ≡ i + 1 + 1 = omega arith in
    ap (λ (l : List Account). user_rows scale zoom (i + 1) l es) (one_less accounts i a within is)
    ∙ ap (λ (k : ℕ). user_row scale zoom (i + 1) a es ++ user_rows scale zoom k (drop (i + 1) accounts) es) next

pub users_none : (scale zoom u : ℕ) (accounts : List Account) (es : List Entry) (i : ℕ) → length accounts ≤ i
    → user_rows scale zoom u (drop i accounts) es ≡ []
users_none scale zoom u accounts es i behind = ap (λ (l : List Account). user_rows scale zoom u l es) (drop_all i accounts behind)

-- the marks of the ruler from one on

pub ruler_next : (scale zoom users each mark count : ℕ) (es : List Entry) → mark < count
    → ruler_drawn scale zoom users each mark (count - mark) es
    ≡ ruler_mark scale zoom users (each * mark) es ++ ruler_drawn scale zoom users each (mark + 1) (count - (mark + 1)) es
ruler_next scale zoom users each mark count es within =
    let more : count - mark ≡ suc (count - (mark + 1)) = omega (arith, within) in
    let next : suc mark ≡ mark + 1 = omega arith in
    ap (λ (n : ℕ). ruler_drawn scale zoom users each mark n es) more
    ∙ ap (λ (k : ℕ). ruler_mark scale zoom users (each * mark) es ++ ruler_drawn scale zoom users each k (count - (mark + 1)) es) next

pub ruler_none : (scale zoom users each mark count : ℕ) (es : List Entry) → count ≤ mark
    → ruler_drawn scale zoom users each mark (count - mark) es ≡ []
ruler_none scale zoom users each mark count es behind =
    let none : count - mark ≡ 0 = omega (arith, behind) in
    ap (λ (n : ℕ). ruler_drawn scale zoom users each mark n es) none

-- equal numbers make equal shapes

pub plus_is : {a b c d : ℕ} → a ≡ b → c ≡ d → a + c ≡ b + d
plus_is p q = rw (p, q) refl

pub minus_is : {a b c d : ℕ} → a ≡ b → c ≡ d → a - c ≡ b - d
minus_is p q = rw (p, q) refl

pub box_is : (class : List ℕ) {x y w h x2 y2 w2 h2 : ℕ} → x ≡ x2 → y ≡ y2 → w ≡ w2 → h ≡ h2
    → plain_box class x y w h ≡ plain_box class x2 y2 w2 h2
box_is class p q r s = rw (p, q, r, s) refl

pub bar_is : (class : List ℕ) (n : ℕ) (e : Entry) {x y w h x2 y2 w2 h2 : ℕ} → x ≡ x2 → y ≡ y2 → w ≡ w2 → h ≡ h2
    → bar class n x y w h e ≡ bar class n x2 y2 w2 h2 e
bar_is class n e p q r s = rw (p, q, r, s) refl

pub begun_is : (class : List ℕ) {x y x2 y2 : ℕ} → x ≡ x2 → y ≡ y2 → text_begun class x y ≡ text_begun class x2 y2
begun_is class p q = rw (p, q) refl

pub number_is : (class : List ℕ) {x y n x2 y2 n2 : ℕ} → x ≡ x2 → y ≡ y2 → n ≡ n2
    → words_at class x y (decimal n) ≡ words_at class x2 y2 (decimal n2)
number_is class p q r = rw (p, q, r) refl

pub label_is : (scale n : ℕ) {x y w l x2 y2 w2 l2 : ℕ} → x ≡ x2 → y ≡ y2 → w ≡ w2 → l ≡ l2
    → bar_label scale x y w n l ≡ bar_label scale x2 y2 w2 n l2
label_is scale n p q r s = rw (p, q, r, s) refl

pub level_label_is : (scale n : ℕ) {x y w x2 y2 w2 : ℕ} → x ≡ x2 → y ≡ y2 → w ≡ w2
    → level_label scale x y w n ≡ level_label scale x2 y2 w2 n
level_label_is scale n p q r = rw (p, q, r) refl

pub attribute_is : (name : List ℕ) {n m : ℕ} → n ≡ m → attribute name n ≡ attribute name m
attribute_is name p = ap (attribute name) p

pub ratio_is : {a b c d : ℕ} → a ≡ b → c ≡ d → a / c ≡ b / d
ratio_is p q = rw (p, q) refl

pub words_are : (class text : List ℕ) {x y x2 y2 : ℕ} → x ≡ x2 → y ≡ y2 → words_at class x y text ≡ words_at class x2 y2 text
words_are class text p q = rw (p, q) refl

pub idle_label_is : (scale zoom : ℕ) {p t q u : ℕ} → p ≡ q → t ≡ u → idle_label scale zoom p t ≡ idle_label scale zoom q u
idle_label_is scale zoom one two = rw (one, two) refl

pub ruler_is : (scale zoom users places : ℕ) {each between : ℕ} {es fs : List Entry} → each ≡ between → es ≡ fs
    → ruler scale zoom users each places es ≡ ruler scale zoom users between places fs
ruler_is scale zoom users places {between = between} {es = es} one two =
    ap (λ (n : ℕ). ruler scale zoom users n places es) one ∙ ap (λ (l : List Entry). ruler scale zoom users between places l) two
