-- Users whose program stopped, told in another way.
use Rattle.std.proofs.Common.{◌≡◌, ℕ, suc, ◌+◌, ◌-◌, [], ◌∷◌, ◌++◌, ap, ◌∙◌, add-one}
use Rattle.time_sharing.specs.Machine.{Line, Out}
use Rattle.cpu_regs.specs.declared.regs.Regs.{Regs}
use Rattle.program_model.specs.declared.ProgramState.TheVariants.{Dormant}
use Rattle.user_model.specs.Texts.{ready_text, stop_text}
use Rattle.user_model.specs.User.{User}
use Rattle.dialogue.specs.Said.{Said}

-- a program that stopped, with the reason
abbrev stopped : User → Regs → Line → ℕ → User
stopped u r why n =
    record u {
      inner = record u.inner { state = Dormant; regs = r };
      transcript = u.transcript ++ Out (stop_text why u.inner.regs.ic) ∷ Out (ready_text n) ∷ [];
      own = suc u.own;
    }

-- what was said behind room for it: the stop, and nothing else
pub record SaysStop (why : Line) (place n : ℕ) (room said : Said) : Type 0 where
  pub unread : said.unread ≡ room.unread
  pub lines : said.lines ≡ room.lines
  pub fed : said.fed ≡ room.fed
  pub items : said.transcript ≡ room.transcript ++ Out (stop_text why place) ∷ Out (ready_text n) ∷ []

pub says_stop : (why : Line) (place n : ℕ) (talk room said : Said) → room ≡ record talk { capacity = room.capacity }
    → said ≡ record room { transcript = room.transcript ++ Out (stop_text why place) ∷ Out (ready_text n) ∷ []; capacity = said.capacity }
    → SaysStop why place n talk said
says_stop why place n talk room said same is = record {
  unread = ap (λ (d : Said). d.unread) is ∙ ap (λ (d : Said). d.unread) same;
  lines = ap (λ (d : Said). d.lines) is ∙ ap (λ (d : Said). d.lines) same;
  fed = ap (λ (d : Said). d.fed) is ∙ ap (λ (d : Said). d.fed) same;
  items = ap (λ (d : Said). d.transcript) is ∙ ap (λ (d : Said). d.transcript ++ Out (stop_text why place) ∷ Out (ready_text n) ∷ []) same;
}

pub stopped_so : (p v q : User) (r : Regs) (talk said : Said) (why : Line) → v ≡ p → talk.unread ≡ v.unread → talk.lines ≡ v.lines → talk.fed ≡ v.fed → talk.transcript ≡ v.transcript →
    SaysStop why v.inner.regs.ic (v.own + 1 - v.own_at_command) talk said →
    q ≡ record v { inner = record v.inner { state = Dormant; regs = r }; unread = said.unread; lines = said.lines; fed = said.fed; transcript = said.transcript; own = suc v.own } →
    q ≡ record p { inner = record p.inner { state = Dormant; regs = r }; transcript = p.transcript ++ Out (stop_text why p.inner.regs.ic) ∷ Out (ready_text (suc p.own - p.own_at_command)) ∷ []; own = suc p.own }
stopped_so p v q r talk said why is unread lines fed items says left =
    left
    ∙ (λ j. record v { inner = record v.inner { state = Dormant; regs = r }; unread = says.unread j; lines = says.lines j; fed = says.fed j; transcript = says.items j; own = suc v.own })
    ∙ (λ j. record v { inner = record v.inner { state = Dormant; regs = r }; unread = unread j; lines = lines j; fed = fed j; transcript = items j ++ Out (stop_text why v.inner.regs.ic) ∷ Out (ready_text (v.own + 1 - v.own_at_command)) ∷ []; own = suc v.own })
    ∙ ap (λ (n : ℕ). stopped v r why (n - v.own_at_command)) (add-one v.own)
    ∙ ap (λ (u : User). stopped u r why (suc u.own - u.own_at_command)) is

-- and nothing else happened
pub refused_so : (p v q : User) (r : Regs) (talk said : Said) (why : Line) → v ≡ p → talk.unread ≡ v.unread → talk.lines ≡ v.lines → talk.fed ≡ v.fed → talk.transcript ≡ v.transcript →
    SaysStop why v.inner.regs.ic (v.own + 1 - v.own_at_command) talk said →
    q ≡ record v { inner = record v.inner { state = Dormant; regs = r }; unread = said.unread; lines = said.lines; fed = said.fed; transcript = said.transcript; own = suc v.own } → r ≡ v.inner.regs →
    q ≡ record p { inner = record p.inner { state = Dormant }; transcript = p.transcript ++ Out (stop_text why p.inner.regs.ic) ∷ Out (ready_text (suc p.own - p.own_at_command)) ∷ []; own = suc p.own }
refused_so p v q r talk said why is unread lines fed items says left stays =
    stopped_so p v q r talk said why is unread lines fed items says left
    ∙ ap (λ (s : Regs). stopped p s why (suc p.own - p.own_at_command)) (stays ∙ ap (λ (u : User). u.inner.regs) is)
