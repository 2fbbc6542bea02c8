-- What many steps of the user that is served keep, over users joined with words and files.
use Rattle.std.proofs.Common.{◌≡◌, ◌≢◌, ℕ, ◌+◌, ◌<◌, ◌≤◌, true, false, List, length, map, Some, None, refl, sym, ◌∙◌, ap, subst, arith}
use Rattle.time_sharing.specs.System.{Service, next_tick, served_of}
use Rattle.ctss_types.specs.declared.session.Waiting.{Waiting}
use Rattle.user_model.specs.Inner.{Stored, blocks_of}
use Rattle.user_model.specs.User.{User}
use Rattle.user_model.specs.Runs.{HaveGone}
use Rattle.plan_model.specs.Levels.{chosen, goes_up}
use Rattle.plan_model.specs.Loads.{is_loaded}
use Rattle.plan_model.proofs.SpentLaws.{still_chosen, still_none}
use Rattle.image_map.specs.Images.{size_of}
use Rattle.plan_model.specs.Spent.{NobodyRises}
use Rattle.plan_model.specs.Plan.{must_load}
use Rattle.system_model.specs.Run.{Run, next, run_to, measure, AfterSteps, due_of}
use Rattle.system_model.specs.Cases.{user_at}
use Rattle.system_model.specs.Joined.{joined, with_store}
use Rattle.system_model.specs.Runs.{Passes, passed}
use Rattle.system_model.specs.Sound.{Sound, IsUser}
use Rattle.system_model.proofs.JoinedLaws.{joined_same, with_own, with_other, sound_joined, sound_unjoined, measure_joined}
use Rattle.system_model.proofs.PassLaws.{passes_joined, passes_keep, quiet_until}
use Rattle.system_model.proofs.RunLaws.{measure_next, run_to_next, after_next}
use Rattle.system_model.proofs.SoundLaws.{sound_next}
use Rattle.console_texts.specs.Parts.{Shown, text_of}
use Rattle.console_texts.specs.Following.{AreShown}
use Rattle.console_texts.specs.Watching.{transcripts_of, texts_to, AfterShown}
use Rattle.console_texts.proofs.Watched.{shown_still, texts_on, shown_on}
use Rattle.user_cores.specs.Backing.{Held}
use Rattle.supervisor.specs.Runs.{DoesMany}
use Rattle.supervisor.specs.Steps.{Does, IsTied, IsHeld, IsServedNext, HasRunOnce}
use Rattle.supervisor.specs.Shows.{TextsGrow, HasTextsPart}
use Rattle.supervisor.proofs.Growing.{grow_none, grow_trans, next_grow}
use Rattle.supervisor.proofs.Doing.{same_but}
use Rattle.supervisor.proofs.Running.{HasRunSteps, Leads, joined_next, next_common, joined_common}
use Rattle.supervisor.proofs.Watching.{TextsLead, texts_same, told_joined, told_apart}

-- no step
pub does_none_at_all : (limit : ℕ) (old new : Run) (had has : Held) → new ≡ old → (had.tells ≡ true → (u : ℕ) → has.stores u ≡ had.stores u) → has.tells ≡ had.tells → has.common ≡ had.common → DoesMany limit old new had has
does_none_at_all limit old new had has is words tells common =
    record { steps = 0; before = had.stores; after = had.stores; passes = ap (joined had.stores) is; was = λ t u. refl; now = λ t u. sym (words t u); tells = tells; common = common }

pub stands_still : (limit : ℕ) (old : Run) (had : Held) → DoesMany limit old old had had
stands_still limit old had = does_none_at_all limit old old had had refl (λ t u. refl) refl refl

-- instructions of the user of the service
pub does_many : (limit n l : ℕ) (w : Waiting) (v : Service) (p : User) (old new : Run) (had has : Held) (window : Stored) (after : List ℕ) → IsUser v.user old → old.system.service ≡ Some v
    → chosen old.system.plan.levels ≡ Some (l, w) → w.user ≡ v.user → (0 < n → n < w.left)
    → old.system.clock + n ≤ limit → old.system.clock + n ≤ next_tick limit old.system.events
    → (until : ℕ) → NobodyRises (Some v.user) until old.system.plan.levels → old.system.clock + n ≤ until
    → must_load old.system.plan v.user (blocks_of (user_at v.user old.system.users).inner) ≡ false
    → HaveGone n (user_at v.user old.system.users) p window.core after
    → new ≡ passed n v p old
    → (had.tells ≡ true → had.stores v.user ≡ window)
    → (had.tells ≡ true → has.stores v.user ≡ record window { core = after })
    → ((u : ℕ) → u ≢ v.user → has.stores u ≡ had.stores u) → has.tells ≡ had.tells → has.common ≡ had.common → DoesMany limit old new had has
does_many limit n l w v p old new had has window after who serves first mine left up quiet until low early loaded gone is was here others tells common =
    record {
      steps = n;
      before = f;
      after = with_store v.user (record window { core = after }) f;
      passes = subst (λ (r : Run). Passes limit n (joined f old) (joined (with_store v.user (record window { core = after }) f) r)) (sym is)
          (passes_joined limit n l w v f window after p old who serves first mine left up quiet until low early loaded (with_own v.user window had.stores) gone);
      was = λ told u. same_but v.user window had.stores had.stores (was told) (λ x n. refl) u;
      now = λ told u. same_but v.user (record window { core = after }) f has.stores (here told) (λ x n. others x n ∙ sym (with_other v.user x window had.stores n)) u;
      tells = tells;
      common = common;
    }
  where
    f : ℕ → Stored
    f = with_store v.user window had.stores

-- after fewer of them than could have been done the next step is that user's too
pub served_next : (limit most n l : ℕ) (w : Waiting) (v : Service) (p : User) (until : ℕ) (old new : Run) (has : Held) → new ≡ passed n v p old → n < most
    → chosen old.system.plan.levels ≡ Some (l, w) → w.user ≡ v.user → old.system.clock + most ≤ next_tick limit old.system.events
    → NobodyRises (Some v.user) until old.system.plan.levels → old.system.clock + most ≤ until
    → is_loaded has.places v.user (size_of has.sizes v.user) ≡ true → IsServedNext new has
unfolding passed NobodyRises
served_next limit most n l w v p until old new has is few first mine quiet low still loaded =
    subst (λ (r : Run). IsServedNext r has) (sym is)
    (record {
      quiet = quiet_until old.system.events limit old.system.clock most n quiet few;
      low = ap goes_up (still_none n v.user (old.system.clock + n) (Some v.user) old.system.plan.levels (low (old.system.clock + n) (omega (arith, still, few))));
      first = λ s serves. still_chosen n v.user l w old.system.plan.levels first mine ∙ ap served_of serves;
      loaded = λ s serves. (let e : Some v.user ≡ Some s.user = ap served_of serves in let same : v.user ≡ s.user = cc in subst (λ (k : ℕ). is_loaded has.places k (size_of has.sizes k) ≡ true) same loaded);
    })

-- what the loop over steps keeps

module _ (limit : ℕ) (mid new : Run) (had has : Held) (d : DoesMany limit mid new had has) where
  abbrev from : Run
  from = joined d.before mid

  abbrev to : Run
  to = joined d.after new

  pub was_joined : had.tells ≡ true → joined had.stores mid ≡ from
  was_joined told = joined_same had.stores d.before mid (λ u. sym (d.was told u))

  pub now_joined : had.tells ≡ true → joined has.stores new ≡ to
  now_joined told = joined_same has.stores d.after new (λ u. sym (d.now told u))

  pub pass_sound : Sound mid → Sound new
  pass_sound sound = sound_unjoined d.after new (passes_keep Sound limit d.steps from to (λ r up quiet same h. sound_next limit r up h) d.passes (sound_joined d.before mid sound))

  -- such steps leave the quota of the common files
  same_common : mid.common ≡ new.common
  same_common = sym (joined_common d.before mid) ∙ sym (passes_keep (λ (r : Run). r.common ≡ from.common) limit d.steps from to (λ r up quiet same h. next_common limit r ∙ h) d.passes refl) ∙ joined_common d.after new

  pub pass_held : IsHeld mid had → IsTied new.system.users has → IsHeld new has
  pass_held held tied = record { sound = pass_sound held.sound; tied = tied; common = d.common ∙ held.common ∙ same_common }

  falls : measure limit to ≤ measure limit from
  falls = passes_keep (λ r. measure limit r ≤ measure limit from) limit d.steps from to (λ r up quiet same h. let k = measure_next limit r up in omega (arith, h, k)) d.passes (omega arith)

  pub pass_falls : measure limit new ≤ measure limit mid
  pass_falls = let a = measure_joined limit d.before mid in let b = measure_joined limit d.after new in let f = falls in omega (arith, a, b, f)

  runs : run_to limit to ≡ run_to limit from
  runs = passes_keep (λ r. run_to limit r ≡ run_to limit from) limit d.steps from to (λ r up quiet same h. run_to_next limit r up ∙ h) d.passes refl

  pub pass_leads : (start : Run) (first : Held) → had.tells ≡ first.tells → Leads limit start mid first had → Leads limit start new first has
  pass_leads start first tells leads = λ told.
      let t = tells ∙ told in ap (run_to limit) (now_joined t) ∙ runs ∙ ap (run_to limit) (sym (was_joined t)) ∙ leads told

  pub pass_part : (start : Run) (first : Held) → had.tells ≡ first.tells → HasRunSteps limit start mid first had → HasRunSteps limit start new first has
  pass_part start first tells part = λ told.
      let t = tells ∙ told in
      subst (AfterSteps limit (joined first.stores start)) (sym (now_joined t))
      (passes_keep (AfterSteps limit (joined first.stores start)) limit d.steps from to (λ r up quiet same h. after_next limit (joined first.stores start) r h up) d.passes (subst (AfterSteps limit (joined first.stores start)) (was_joined t) (part told)))

  -- with what the consoles show

  module _ (rows : List Shown) where
    abbrev shows : Run → List (List ℕ)
    shows r = map (text_of (transcripts_of r.system.users)) rows

    abbrev Told : Run → Type 0
    Told r = AreShown r.system.consoles (transcripts_of r.system.users) rows

    abbrev Quiet : Run → Type 0
    Quiet r = Sound r × Told r

    quietly : (r : Run) → r.system.clock < limit → due_of r.system.events r.system.clock ≡ None → length (next limit r).system.entries ≡ length r.system.entries → Quiet r → Quiet (next limit r)
    quietly r up quiet same h = (sound_next limit r up h.0, (shown_still limit r rows quiet h.0 same h.1).1)

    quiet_from : Sound mid → Told mid → Quiet from
    quiet_from sound told = (sound_joined d.before mid sound, told_joined d.before mid rows told)

    pub pass_told : Sound mid → Told mid → Told new
    pass_told sound told = told_apart d.after new rows (passes_keep Quiet limit d.steps from to quietly d.passes (quiet_from sound told)).1

    texts_from : Sound mid → Told mid → texts_to limit to (shows to) ≡ texts_to limit from (shows from)
    texts_from sound told =
        (passes_keep (λ r. Quiet r × (texts_to limit r (shows r) ≡ texts_to limit from (shows from))) limit d.steps from to
        (λ r up quiet same h. (quietly r up quiet same h.0, ap (texts_to limit (next limit r)) (sym (shown_still limit r rows quiet (h.0).0 same (h.0).1).0) ∙ texts_on limit r (shows r) up ∙ h.1))
        d.passes (quiet_from sound told, refl)).1

    shown_from : Sound mid → Told mid → (start : Run) (x : List (List ℕ)) → AfterShown limit start from x (shows from) → AfterShown limit start to x (shows to)
    shown_from sound told start x begun =
        (passes_keep (λ r. Quiet r × AfterShown limit start r x (shows r)) limit d.steps from to
        (λ r up quiet same h. (quietly r up quiet same h.0, subst (AfterShown limit start (next limit r) x) (shown_still limit r rows quiet (h.0).0 same (h.0).1).0 (shown_on limit start r x (shows r) h.1 up)))
        d.passes (quiet_from sound told, begun)).1

    pub pass_texts_lead : Sound mid → Told mid → (start : Run) (first : Held) (x : List (List ℕ)) → had.tells ≡ first.tells → TextsLead limit start mid first had x (shows mid) → TextsLead limit start new first has x (shows new)
    pass_texts_lead sound told start first x tells lead = λ t.
        let k = tells ∙ t in
        (λ j. texts_to limit (now_joined k j) (texts_same d.after new rows j))
        ∙ texts_from sound told
        ∙ (λ j. texts_to limit (sym (was_joined k) j) (sym (texts_same d.before mid rows) j))
        ∙ lead t

    pub pass_texts_part : Sound mid → Told mid → (start : Run) (first : Held) (x : List (List ℕ)) → had.tells ≡ first.tells → HasTextsPart limit start mid first had x (shows mid) → HasTextsPart limit start new first has x (shows new)
    pass_texts_part sound told start first x tells part = λ t.
        let k = tells ∙ t in
        subst (λ (q : Run). AfterShown limit (joined first.stores start) q x (shows new)) (sym (now_joined k))
        (subst (AfterShown limit (joined first.stores start) to x) (sym (texts_same d.after new rows))
        (shown_from sound told (joined first.stores start) x
        (subst (AfterShown limit (joined first.stores start) from x) (texts_same d.before mid rows)
        (subst (λ (q : Run). AfterShown limit (joined first.stores start) q x (shows mid)) (was_joined k) (part t)))))

    pub pass_grow : Sound mid → Told mid → TextsGrow (shows mid) (shows new)
    pass_grow sound told =
        let g : TextsGrow (shows from) (shows to) =
        (passes_keep (λ r. Quiet r × TextsGrow (shows from) (shows r)) limit d.steps from to
        (λ r up quiet same h. (quietly r up quiet same h.0, grow_trans _ _ _ h.1 (subst (TextsGrow (shows r)) (shown_still limit r rows quiet (h.0).0 same (h.0).1).0 (next_grow limit r (shows r)))))
        d.passes (quiet_from sound told, grow_none (shows from))).1 in
        subst (λ (x : List (List ℕ)). TextsGrow x (shows new)) (sym (texts_same d.before mid rows)) (subst (TextsGrow (shows from)) (sym (texts_same d.after new rows)) g)

-- one step, and such steps after it
pub once_run : (limit : ℕ) (old mid new : Run) (had midway has : Held) → Does (next limit) old mid had midway → DoesMany limit mid new midway has → HasRunOnce limit old new had has
once_run limit old mid new had midway has d many = λ told.
    let t : midway.tells ≡ true = d.tells ∙ told in
    let first : joined many.before mid ≡ next limit (joined had.stores old) =
    sym (was_joined limit mid new midway has many t) ∙ joined_next limit old mid had midway d told in (
      many.steps,
      subst (λ (r : Run). Passes limit many.steps (next limit (joined had.stores old)) r) (sym (now_joined limit mid new midway has many t))
          (subst (λ (r : Run). Passes limit many.steps r (joined many.after new)) first many.passes),
    )
