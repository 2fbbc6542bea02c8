-- What a turn of a session comes to beside common files.
use Rattle.std.proofs.Common.{◌≡◌, ℕ, ◌*◌, true, false, List, length, Option, Some, None, refl, sym, ap, subst, ◌∙◌}
use Rattle.user_session.specs.declared.turn.Turn.{Turn}
use Rattle.user_session.specs.declared.turn.Turn.TheVariants as turn
use Rattle.ctss_types.specs.declared.file.FileBody.{FileBody}
use Rattle.ctss_types.specs.declared.file.CommonOp.{CommonOp}
use Rattle.ctss_types.specs.declared.file.Reply.{Reply}
use Rattle.ctss_types.specs.declared.file.Reply.TheVariants.{Done}
use Rattle.file_map.specs.Known.{whole_is_known}
use Rattle.file_model.specs.Commons.{reply_to, files_after}
use Rattle.user_model.specs.Inner.{Stored}
use Rattle.user_model.specs.User.{User, core_after, can_step, asks_common, in_store, store_after, IsStep}
use Rattle.user_session.specs.declared.turn.Step.{Step}
use Rattle.user_session.specs.Stores.{stored, Over, IsToMake}
use Rattle.user_session.specs.Turns.{IsWait, IsAsked, IsReplied, IsTurn}
use Rattle.program_trace.specs.Lone.{TracedUser, track_quota, common_reply, common_after, stepped}
use Rattle.program_trace.specs.Steps.{IsStepBeside, IsWaitBeside, IsTurnBeside, alone_with}

-- where the disk tells its records, what is known of a store is the store
module _ {R : Stored → Stored → Type 0} where
  pub told : (core core' : List ℕ) (files files' : List FileBody) → Over true (stored core files) (stored core' files') R
      → R (stored core files) (stored core' files')
  told core core' files files' o =
      subst (λ (fs : List FileBody). R (stored core fs) (stored core' files')) (sym (whole_is_known o.had) ∙ o.was)
      (subst (λ (gs : List FileBody). R (stored core o.had) (stored core' gs)) (sym (whole_is_known o.has) ∙ o.now) o.does)

-- a turn that waits
pub waits : (now : ℕ) (old new : User) (before after : Stored) (had : List FileBody) → IsWait old new before after → IsTurnBeside None now old new before after had had
waits now old new before after had w = record { cannot = w.cannot; same = w.same; store = w.store; common = refl }

-- a step that asked nothing of the common files
pub goes : (s : Step) (now : ℕ) (old new : User) (before after : Stored) (had : List FileBody) → IsStep s.ending s.clock None now Done old new before after
    → IsTurnBeside (Some s) now old new before after had had
goes s now old new before after had d =
    record {
      does = subst (λ (made : Option CommonOp). IsStep s.ending s.clock made now (common_reply made had) old new before after) d.makes d;
      common = ap (λ (made : Option CommonOp). common_after made had) d.makes;
    }

-- and one that made an operation
pub replies : (s : Step) (op : CommonOp) (now : ℕ) (old new : User) (before after : Stored) (had : List FileBody)
    → IsReplied s op (reply_to track_quota had op) now old new before after
    → IsTurnBeside (Some s) now old new before after had (files_after track_quota had op)
replies s op now old new before after had d =
    record {
      does = subst (λ (made : Option CommonOp). IsStep s.ending s.clock made now (common_reply made had) old new before after) d.makes d;
      common = ap (λ (made : Option CommonOp). common_after made had) d.makes;
    }

-- what asked has to be made, of the same user
pub to_make : (op : CommonOp) (old new : User) (core core' : List ℕ) (files files' : List FileBody)
    → IsAsked op old new (stored core files) (stored core' files') → IsToMake true (stored core' files') op new
to_make op old new core core' files files' a =
    let same : in_store (stored core' files') new ≡ in_store (stored core files) old = λ j. in_store (a.store j) (a.same j) in
    record {
      had = files';
      was = whole_is_known files';
      can = ap can_step same ∙ a.can;
      makes = ap asks_common same ∙ a.makes;
    }

-- the user and the common files behind a step are those of the definition
pub is_stepped : (s : Step) (old new : User) (core core' : List ℕ) (files files' had has : List FileBody)
    → IsStepBeside s old.own old new (stored core files) (stored core' files') had has
    → record { user = in_store (store_after s.ending new.inner.blocks (stored core' files')) new; common = has } ≡ stepped (alone_with old core files had)
unfolding stepped
is_stepped s old new core core' files files' had has b = λ j. record { user = b.does.left j; common = b.common j }

-- what a turn of a session over a directory in memory came to, by what it was

abbrev pub TurnTold : Turn → ℕ → (old new : User) → (core core' : List ℕ) → (files files' : List FileBody) → Type 0
TurnTold t now old new core core' files files' = Over true (stored core files) (stored core' files') (IsTurn t now old new)

pub waits_by : (t : Turn) (now : ℕ) (old new : User) (core core' : List ℕ) (files files' had : List FileBody)
    → TurnTold t now old new core core' files files' → t ≡ turn.Waits
    → IsTurnBeside None now old new (stored core files) (stored core' files') had had
waits_by t now old new core core' files files' had h is =
    waits now old new (stored core files) (stored core' files') had
    (told core core' files files' (subst (λ (x : Turn). TurnTold x now old new core core' files files') is h))

pub goes_by : (t : Turn) (s : Step) (now : ℕ) (old new : User) (core core' : List ℕ) (files files' had : List FileBody)
    → TurnTold t now old new core core' files files' → t ≡ turn.Done s
    → IsTurnBeside (Some s) now old new (stored core files) (stored core' files') had had
goes_by t s now old new core core' files files' had h is =
    goes s now old new (stored core files) (stored core' files') had
    (told core core' files files' (subst (λ (x : Turn). TurnTold x now old new core core' files files') is h))

-- what was asked for, of the session as it was before
pub asked_by : (t : Turn) (op : CommonOp) (now : ℕ) (old new : User) (core core' : List ℕ) (files files' : List FileBody)
    → TurnTold t now old new core core' files files' → t ≡ turn.Asks op → IsAsked op old new (stored core files) (stored core' files')
asked_by t op now old new core core' files files' h is =
    told core core' files files' (subst (λ (x : Turn). TurnTold x now old new core core' files files') is h)

-- the step behind it, of the session as it was before
pub replies_by : (op : CommonOp) (s : Step) (reply : Reply) (now : ℕ) (old mid new : User) (core core' core'' : List ℕ) (files files' files'' had has : List FileBody)
    → IsAsked op old mid (stored core files) (stored core' files')
    → reply ≡ reply_to track_quota had op → has ≡ files_after track_quota had op
    → Over true (stored core' files') (stored core'' files'') (IsReplied s op reply now mid new)
    → IsTurnBeside (Some s) now old new (stored core files) (stored core'' files'') had has
replies_by op s reply now old mid new core core' core'' files files' files'' had has a is left o =
    let first : IsReplied s op reply now mid new (stored core' files') (stored core'' files'') = told core' core'' files' files'' o in
    let of_old : IsReplied s op reply now old new (stored core files) (stored core'' files'') =
    subst (λ (p : User). IsReplied s op reply now p new (stored core files) (stored core'' files'')) a.same
    (subst (λ (c : Stored). IsReplied s op reply now mid new c (stored core'' files'')) a.store first) in
    subst (λ (fs : List FileBody). IsTurnBeside (Some s) now old new (stored core files) (stored core'' files'') had fs) (sym left)
    (replies s op now old new (stored core files) (stored core'' files'') had
    (subst (λ (r : Reply). IsReplied s op r now old new (stored core files) (stored core'' files'')) is of_old))

-- the user behind a step is that of the definition
pub went_by : (s : Step) (now : ℕ) (old new : User) (core core' settled : List ℕ) (files files' had has : List FileBody) (self : TracedUser)
    → IsTurnBeside (Some s) now old new (stored core files) (stored core' files') had has → now ≡ old.own
    → settled ≡ core_after s.ending new.inner.blocks core' → alone_with old core files had ≡ self
    → (can_step self.user ≡ true) × (alone_with new settled files' has ≡ stepped self)
went_by s now old new core core' settled files files' had has self b tick is view =
    let on_time : IsStepBeside s old.own old new (stored core files) (stored core' files') had has =
    subst (λ (t : ℕ). IsStepBeside s t old new (stored core files) (stored core' files') had has) tick b in
    subst (λ (a : TracedUser). (can_step a.user ≡ true) × (alone_with new settled files' has ≡ stepped a)) view
    (b.does.can, ap (λ (c : List ℕ). alone_with new c files' has) is ∙ is_stepped s old new core core' files files' had has on_time)

-- and that of a turn that waits is the same
pub waited_by : (old new : User) (core core' : List ℕ) (files files' had has : List FileBody) (self : TracedUser)
    → IsWaitBeside old new (stored core files) (stored core' files') had has → alone_with old core files had ≡ self
    → (can_step self.user ≡ false) × (alone_with new core' files' has ≡ self)
waited_by old new core core' files files' had has self w view =
    subst (λ (a : TracedUser). (can_step a.user ≡ false) × (alone_with new core' files' has ≡ a)) view
    (w.cannot, λ j. record { user = in_store (w.store j) (w.same j); common = w.common j })

-- whose core is as large as before
pub waited_length : (old new : User) (core core' : List ℕ) (files files' had has : List FileBody)
    → IsWaitBeside old new (stored core files) (stored core' files') had has → length core' ≡ length core → length core ≡ 256 * old.inner.blocks
    → length core' ≡ 256 * new.inner.blocks
waited_length old new core core' files files' had has w kept size = kept ∙ size ∙ ap (λ (p : User). 256 * p.inner.blocks) (sym w.same)
