use Rattle.std.specs.Prelude.{Err, Result}
use Rattle.std.proofs.Common.{◌≡◌, ◌≤◌, ◌+◌, ◌*◌, ℕ, Bool, List, refl, sym, ◌∙◌, ap, subst, take, drop, arith}
use Rattle.file_map.specs.Applied.{IsApplied}
use Rattle.ctss_types.specs.declared.fault.StepFault.{StepFault}
use Rattle.ctss_types.specs.declared.fault.StepFault.TheVariants.{Disk, NoMemory}
use Rattle.ctss_types.specs.declared.file.FileBody.{FileBody}
use Rattle.faults.proofs.Rises.{rose_later}
use Rattle.image_map.specs.State.{size, base}
use Rattle.image_map.specs.Image.{state}
use Rattle.image_map.specs.Windows.{window}
use Rattle.track_directories.specs.Tables.{shown}
use Rattle.user_model.specs.Inner.{Stored}
use Rattle.user_session.specs.Stores.{stored, Over, IsToMake}
use Rattle.user_session.specs.Turns.{IsReplied}
use Rattle.user_session.specs.declared.turn.Step.{Step}
use Rattle.user_cores.proofs.Working.{disk_fails, failed_so, fault_same, not_ok, others_shared, reply_left, same_fault, turned_whole, users_both, works_in}
use Rattle.user_cores.proofs.behind.BehindBacking.share.Goals as goal

pub reply_in-requires-clause-directory : goal.reply_in-requires-clause-directory
reply_in-requires-clause-directory g c =
    let users = c.in_ok-reply.ensures.shares.users in
    record {
      sound = c.in_ok-reply.ensures.sound (λ x. cc);
      within = subst (λ (k : ℕ). c.args.user ≤ k) (sym users.count) c.requires.can.directory;
      tracks = users.may c.args.user ∙ c.requires.can.tracks;
    }

pub reply_in-requires-clause-asks : goal.reply_in-requires-clause-asks
reply_in-requires-clause-asks g c =
    let u = c.args.user in
    let s = state c.args.self.now.cores in
    let d = shown g.F.Medium c.args.self.now.files in
    let e = shown g.F.Medium c.share.new.self in
    let shares = c.in_ok-reply.ensures.shares in
    let n = c.size-blocks.ensures.value in
    let b = c.base-base.ensures.value in
    let some : 1 ≤ u = omega (arith, c.number-number.ensures.range.0, c.number-number.ensures.value) in
    let p = c.args.session.now in
    let own : e.own u ≡ d.own u = shares.own (λ x. cc) u some in
    let store : stored (window c.bank_mut.result.now c.base-base.result c.size-blocks.result) (e.own u) ≡ stored (window s.words (base s u) (size s u)) (d.own u) =
    λ j. stored (window (c.bank_mut.ensures.now j) (b j) (n j)) (own j) in (
      c.args.op.now,
      subst (λ (t : Bool). IsToMake t (stored (window c.bank_mut.result.now c.base-base.result c.size-blocks.result) (e.own u)) c.args.op.now p) (sym (shares.tells (λ x. cc)))
          (subst (λ (w : Stored). IsToMake d.tells w c.args.op.now p) (sym store) c.requires.asks),
    )

pub returns-clause-made : goal.returns-clause-made
returns-clause-made g c =
    let u = c.args.user in
    let op = c.args.op.now in
    let s = state c.args.self.now.cores in
    let d = shown g.F.Medium c.args.self.now.files in
    let e = shown g.F.Medium c.share.new.self in
    let f = shown g.F.Medium c.reply_in.new.files in
    let shares = c.in_ok-reply.ensures.shares in
    let left = c.in_ok-step.ensures.served.serves.rest (λ x. cc) in
    let n = c.size-blocks.ensures.value in
    let b = c.base-base.ensures.value in
    let some : 1 ≤ u = omega (arith, c.number-number.ensures.range.0, c.number-number.ensures.value) in
    let p = c.args.session.now in
    let own : e.own u ≡ d.own u = shares.own (λ x. cc) u some in
    let here = stored (window c.bank_mut.result.now c.base-base.result c.size-blocks.result) (e.own u) in
    let there = stored (window c.reply_in.new.bank c.base-base.result c.size-blocks.result) (f.own u) in
    let store : here ≡ stored (window s.words (base s u) (size s u)) (d.own u) = λ j. stored (window (c.bank_mut.ensures.now j) (b j) (n j)) (own j) in
    let after : there ≡ stored (window c.reply_in.new.bank (base s u) (size s u)) (f.own u) = λ j. stored (window c.reply_in.new.bank (b j) (n j)) (f.own u) in
    let asks : IsToMake e.tells here op p =
    subst (λ (t : Bool). IsToMake t here op p) (sym (shares.tells (λ x. cc))) (subst (λ (w : Stored). IsToMake d.tells w op p) (sym store) c.requires.asks) in
    let R = IsReplied c.in_ok-step.step op c.in_ok-reply.reply c.args.now p c.reply_in.new.session in
    record {
      common = subst (λ (fs : List FileBody). IsApplied d.tells d.common_may op c.in_ok-reply.reply d.common fs) (sym left.common) shares.done;
      step =
          subst (λ (w : Stored). Over d.tells (stored (window s.words (base s u) (size s u)) (d.own u)) w R) after
          (subst (λ (w : Stored). Over d.tells w there R) store
          (subst (λ (t : Bool). Over t here there R) (shares.tells (λ x. cc)) (c.in_ok-step.ensures.step op asks)));
    }

pub returns-clause-shared : goal.returns-clause-shared
returns-clause-shared g c =
    let u = c.args.user in
    let s = state c.args.self.now.cores in
    let d = shown g.F.Medium c.args.self.now.files in
    let e = shown g.F.Medium c.share.new.self in
    let f = shown g.F.Medium c.reply_in.new.files in
    let shares = c.in_ok-reply.ensures.shares in
    let serves = c.in_ok-step.ensures.served.serves in
    let left = serves.rest (λ x. cc) in
    let is = c.requires.can.core.loaded in
    let n = c.size-blocks.ensures.value in
    let b = c.base-base.ensures.value in
    let new : List ℕ = c.reply_in.new.bank in
    let around = c.in_ok-step.ensures.core.around in
    let some : 1 ≤ u = omega (arith, c.number-number.ensures.range.0, c.number-number.ensures.value) in
    let most : base s u + size s u ≤ 128 = subst (λ (k : ℕ). k + size s u ≤ 128) b (c.base-base.ensures.inside is) in
    let front : take (256 * base s u) new ≡ take (256 * base s u) s.words =
    (λ j. take (256 * sym b j) new) ∙ around.front ∙ (λ j. take (256 * b j) (c.bank_mut.ensures.now j)) in
    let rest : drop (256 * (base s u + size s u)) new ≡ drop (256 * (base s u + size s u)) s.words =
    (λ j. drop (256 * (sym b j + sym n j)) new) ∙ around.rest ∙ (λ j. drop (256 * (b j + n j)) (c.bank_mut.ensures.now j)) in
    record {
      left = λ m. cc;
      worked =
          works_in s u some new most is around.len front rest 1 d f (users_both d e f shares.users serves.users) (left.tells ∙ shares.tells (λ x. cc))
          (others_shared s u some new most is around.len front rest d e f (shares.own (λ x. cc)) left);
      disk = (let one = shares.faults in let two = serves.faults in omega (arith, one, two));
      fails = λ m. cc;
    }

pub returns-clause-usable : goal.returns-clause-usable
returns-clause-usable g c = λ usable.
    let s = state c.args.self.now.cores in
    let u = c.args.user in
    let is = c.requires.can.core.loaded in
    let n = c.size-blocks.ensures.value in
    let b = c.base-base.ensures.value in
    let new : List ℕ = c.reply_in.new.bank in
    let around = c.in_ok-step.ensures.core.around in
    let some : 1 ≤ u = omega (arith, c.number-number.ensures.range.0, c.number-number.ensures.value) in
    let most : base s u + size s u ≤ 128 = subst (λ (k : ℕ). k + size s u ≤ 128) b (c.base-base.ensures.inside is) in
    let front : take (256 * base s u) new ≡ take (256 * base s u) s.words =
    (λ j. take (256 * sym b j) new) ∙ around.front ∙ (λ j. take (256 * b j) (c.bank_mut.ensures.now j)) in
    let rest : drop (256 * (base s u + size s u)) new ≡ drop (256 * (base s u + size s u)) s.words =
    (λ j. drop (256 * (sym b j + sym n j)) new) ∙ around.rest ∙ (λ j. drop (256 * (b j + n j)) (c.bank_mut.ensures.now j)) in
    (turned_whole s u some new most is around.len front rest c.requires.usable.0 around.words, c.in_ok-step.ensures.served.sound (λ x. cc))

pub returns-in_err-step-clause-shared : goal.returns-in_err-step-clause-shared
returns-in_err-step-clause-shared g c =
    let u = c.args.user in
    let s = state c.args.self.now.cores in
    let d = shown g.F.Medium c.args.self.now.files in
    let e = shown g.F.Medium c.share.new.self in
    let f = shown g.F.Medium c.reply_in.new.files in
    let shares = c.in_ok-reply.ensures.shares in
    let serves = c.in_err-step.ensures.served.serves in
    let is = c.requires.can.core.loaded in
    let n = c.size-blocks.ensures.value in
    let b = c.base-base.ensures.value in
    let new : List ℕ = c.reply_in.new.bank in
    let core = c.in_err-step.ensures.core in
    let around = core.around in
    let some : 1 ≤ u = omega (arith, c.number-number.ensures.range.0, c.number-number.ensures.value) in
    let most : base s u + size s u ≤ 128 = subst (λ (k : ℕ). k + size s u ≤ 128) b (c.base-base.ensures.inside is) in
    let front : take (256 * base s u) new ≡ take (256 * base s u) s.words =
    (λ j. take (256 * sym b j) new) ∙ around.front ∙ (λ j. take (256 * b j) (c.bank_mut.ensures.now j)) in
    let rest : drop (256 * (base s u + size s u)) new ≡ drop (256 * (base s u + size s u)) s.words =
    (λ j. drop (256 * (sym b j + sym n j)) new) ∙ around.rest ∙ (λ j. drop (256 * (b j + n j)) (c.bank_mut.ensures.now j)) in
    let result = c.from_residual-in_err-step.result in
    let said = c.from_residual-in_err-step.ensures.1 in
    let fault = c.in_err-step.field-0.0 in
    let users = users_both d e f shares.users serves.users in
    let answer : Result Step StepFault = Err fault in
    record {
      left = λ memory.
          let none = same_fault {B = Step} result fault NoMemory said memory in
          let left = serves.rest (λ x. (let k = none in cc)) in
          let same : window new (base s u) (size s u) ≡ window s.words (base s u) (size s u) =
          (λ j. window new (sym b j) (sym n j)) ∙ failed_so answer NoMemory _ core.err none ∙ (λ j. window (c.bank_mut.ensures.now j) (b j) (n j)) in
          reply_left s u some new most is around.len front rest d e f users (shares.own (λ x. cc)) left (serves.left none) (left.tells ∙ shares.tells (λ x. cc)) same;
      worked = not_ok result _ _ said;
      disk = (let one = shares.faults in let two = serves.faults in omega (arith, one, two));
      fails = λ failed. disk_fails s new d f users (rose_later _ _ _ shares.faults (serves.cause (same_fault {B = Step} result fault Disk said failed)));
    }

pub returns-in_err-step-clause-usable : goal.returns-in_err-step-clause-usable
returns-in_err-step-clause-usable g c = λ usable.
    let u = c.args.user in
    let s = state c.args.self.now.cores in
    let d = shown g.F.Medium c.args.self.now.files in
    let e = shown g.F.Medium c.share.new.self in
    let f = shown g.F.Medium c.reply_in.new.files in
    let shares = c.in_ok-reply.ensures.shares in
    let serves = c.in_err-step.ensures.served.serves in
    let is = c.requires.can.core.loaded in
    let n = c.size-blocks.ensures.value in
    let b = c.base-base.ensures.value in
    let new : List ℕ = c.reply_in.new.bank in
    let core = c.in_err-step.ensures.core in
    let around = core.around in
    let some : 1 ≤ u = omega (arith, c.number-number.ensures.range.0, c.number-number.ensures.value) in
    let most : base s u + size s u ≤ 128 = subst (λ (k : ℕ). k + size s u ≤ 128) b (c.base-base.ensures.inside is) in
    let front : take (256 * base s u) new ≡ take (256 * base s u) s.words =
    (λ j. take (256 * sym b j) new) ∙ around.front ∙ (λ j. take (256 * b j) (c.bank_mut.ensures.now j)) in
    let rest : drop (256 * (base s u + size s u)) new ≡ drop (256 * (base s u + size s u)) s.words =
    (λ j. drop (256 * (sym b j + sym n j)) new) ∙ around.rest ∙ (λ j. drop (256 * (b j + n j)) (c.bank_mut.ensures.now j)) in
    let result = c.from_residual-in_err-step.result in
    let said = c.from_residual-in_err-step.ensures.1 in
    let fault = c.in_err-step.field-0.0 in
    (turned_whole s u some new most is around.len front rest c.requires.usable.0 around.words, c.in_err-step.ensures.served.sound (λ x. usable (fault_same {B = Step} result fault Disk said x)))
