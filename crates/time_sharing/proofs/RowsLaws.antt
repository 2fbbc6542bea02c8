-- Every machine made of rows keeps the laws of a machine.
use Rattle.std.proofs.Common.{◌≡◌, ◌≢◌, suc, ◌-◌, Bool, true, false, not, ◌&&◌, ◌||◌, cond, List, [], ◌∷◌, ◌++◌, refl, sym, ap, ◌∙◌, append_assoc}
use Rattle.time_sharing.specs.Machine.{Laws, CutKind, Quit, Hang, Spent, End, Ending, Went, Stopped, Resized, Replaced, LoggedOut, Line}
use Rattle.time_sharing.specs.Rows.{Rows, Private, Outcome, machine, line_of, first_line, some_line, done, result_of, is_logout, behind, cut_all, own_at_command_of, one_less}

both : (a b : Bool) → (a && b) ≡ true → (a ≡ true) × (b ≡ true)
both true true e = (refl, refl)
both true false e = cc
both false b e = cc

-- a line more behind an unread one
can_more : (b : Bool) (ls : List Line) (l : Line) → (not b || some_line ls) ≡ true → (not b || some_line (ls ++ l ∷ [])) ≡ true
can_more false ls l e = refl
can_more true [] l e = cc
can_more true (x ∷ ls) l e = refl

first_more : (b : Bool) (ls : List Line) (l : Line) → (not b || some_line ls) ≡ true → first_line b (ls ++ l ∷ []) ≡ first_line b ls
first_more false ls l e = refl
first_more true [] l e = cc
first_more true (x ∷ ls) l e = refl

behind_more : (b : Bool) (ls : List Line) (l : Line) → (not b || some_line ls) ≡ true → behind (first_line b ls) (ls ++ l ∷ []) ≡ behind (first_line b ls) ls ++ l ∷ []
behind_more false ls l e = refl
behind_more true [] l e = cc
behind_more true (x ∷ ls) l e = refl

unread_more : (b : Bool) (front rest more : List Line) (l : Line) → not b ≡ true → more ≡ rest ++ l ∷ [] → cond b [] (front ++ more) ≡ cond b [] (front ++ rest) ++ l ∷ []
unread_more true front rest more l up e = cc
unread_more false front rest more l up e = ap (λ z. front ++ z) e ∙ sym (append_assoc front rest (l ∷ []))

logout_only : (t : Ending) → t ≢ LoggedOut → not (is_logout t) ≡ true
logout_only LoggedOut ne = absurd (ne refl)
logout_only Went ne = refl
logout_only Stopped ne = refl
logout_only Resized ne = refl
logout_only Replaced ne = refl

module _ {A : Type 0} (rows : Rows A) where
  line_more : Private A → Line → Private A
  line_more p l = record p { unread = p.unread ++ l ∷ []; lines = suc p.lines }

  -- a line of the same kind, so the same outcome
  done_more : (p : Private A) (l : Line) (o : Outcome A) → (not (rows.takes_line p.inner) || some_line p.unread) ≡ true → not (is_logout o.ending) ≡ true →
      done rows (line_more p l) o ≡ line_more (done rows p o) l
  unfolding line_more
  done_more p l o can up =
      rw first_more (λ i. record (done rows p o) { lines = suc p.lines; unread = unread_more (is_logout o.ending) o.front (behind (line_of rows p) p.unread) (behind (line_of rows p) (p.unread ++ l ∷ [])) l up (behind_more (rows.takes_line p.inner) p.unread l can) i })

  cut_own : (kind : CutKind) (p : Private A) → (cut_all rows kind p).own ≡ p.own
  cut_own Quit p = refl
  cut_own Hang p = refl
  cut_own Spent p = refl
  cut_own End p = refl

  pub rows_laws : Laws (machine rows)
  unfolding line_more
  rows_laws =
      record {
        rises = λ p t r can. refl;
        typed_own = λ p l. refl;
        opened_own = λ p. refl;
        cut_own = cut_own;
        typed_can = λ p l can. let h = both p.on _ can in rw (h.0, can_more (rows.takes_line p.inner) p.unread l h.1) refl;
        typed_clock = λ p l can. ap (rows.asks_clock p.inner) (first_more (rows.takes_line p.inner) p.unread l (both p.on _ can).1);
        typed_common = λ p l can. ap (rows.asks_common p.inner) (first_more (rows.takes_line p.inner) p.unread l (both p.on _ can).1);
        commutes = λ p l t r can up.
            let h = (both p.on _ can).1 in
            ap (done rows (line_more p l)) (ap (λ z. rows.act p.inner z (suc p.own - own_at_command_of rows p) (one_less z p.fed) t r) (first_more (rows.takes_line p.inner) p.unread l h))
            ∙ done_more p l (result_of rows p t r) h up;
        can_open = λ p can. (both p.on _ can).0;
        typed_open = λ p l. refl;
        opened_open = λ p. refl;
        quit_open = λ p. refl;
        step_open = λ p t r can ne. logout_only _ ne;
        at_end = λ p. refl;
      }
