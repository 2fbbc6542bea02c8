use Rattle.std.proofs.Common.{◌≡◌, ◌≤◌, ◌+◌, ◌*◌, ℕ, List, sym, ◌∙◌, ap, subst, take, drop, arith}
use Rattle.ctss_types.specs.declared.fault.StepFault.TheVariants.{NoMemory}
use Rattle.image_map.specs.State.{size, base}
use Rattle.image_map.specs.Image.{state}
use Rattle.image_map.specs.Windows.{window}
use Rattle.track_directories.specs.Tables.{shown}
use Rattle.user_session.specs.Stores.{stored}
use Rattle.user_cores.proofs.Working.{disk_fails, failed_so, others_turned, turned_whole, works_in}
use Rattle.user_cores.proofs.behind.BehindBacking.turn.Goals as goal

pub returns-clause-turned : goal.returns-clause-turned
returns-clause-turned g c =
    let s = state c.args.self.now.cores in
    let d = shown g.F.Medium c.args.self.now.files in
    let e = shown g.F.Medium c.turn_in.new.files in
    let u = c.args.user in
    let is = c.requires.can.core.loaded in
    let n = c.size-blocks.ensures.value in
    let b = c.base-base.ensures.value in
    let new : List ℕ = c.turn_in.new.bank in
    let core = c.turn_in.ensures.core in
    let serves = c.turn_in.ensures.served.serves in
    let some : 1 ≤ u = omega (arith, c.number-number.ensures.range.0, c.number-number.ensures.value) in
    let most : base s u + size s u ≤ 128 = subst (λ (k : ℕ). k + size s u ≤ 128) b (c.base-base.ensures.inside is) in
    let front : take (256 * base s u) new ≡ take (256 * base s u) s.words =
    (λ j. take (256 * sym b j) new) ∙ core.around.front ∙ (λ j. take (256 * b j) (c.bank_mut.ensures.now j)) in
    let rest : drop (256 * (base s u + size s u)) new ≡ drop (256 * (base s u + size s u)) s.words =
    (λ j. drop (256 * (sym b j + sym n j)) new) ∙ core.around.rest ∙ (λ j. drop (256 * (b j + n j)) (c.bank_mut.ensures.now j)) in
    record {
      left = λ memory.
          let same : window new (base s u) (size s u) ≡ window s.words (base s u) (size s u) =
          (λ j. window new (sym b j) (sym n j)) ∙ failed_so c.turn_in.result NoMemory _ core.err memory ∙ (λ j. window (c.bank_mut.ensures.now j) (b j) (n j)) in
          λ j. stored (same j) (serves.left memory j);
      worked = λ usable.
          let left = serves.rest usable in
          works_in s u some new most is core.around.len front rest 0 d e serves.users left.tells (others_turned s u some new most is core.around.len front rest d e left);
      disk = serves.faults;
      fails = λ failed. disk_fails s new d e serves.users (serves.cause failed);
    }

pub returns-clause-usable : goal.returns-clause-usable
returns-clause-usable g c = λ usable.
    let s = state c.args.self.now.cores in
    let u = c.args.user in
    let n = c.size-blocks.ensures.value in
    let b = c.base-base.ensures.value in
    let new : List ℕ = c.turn_in.new.bank in
    let core = c.turn_in.ensures.core in
    let some : 1 ≤ u = omega (arith, c.number-number.ensures.range.0, c.number-number.ensures.value) in
    let most : base s u + size s u ≤ 128 = subst (λ (k : ℕ). k + size s u ≤ 128) b (c.base-base.ensures.inside c.requires.can.core.loaded) in
    let front : take (256 * base s u) new ≡ take (256 * base s u) s.words =
    (λ j. take (256 * sym b j) new) ∙ core.around.front ∙ (λ j. take (256 * b j) (c.bank_mut.ensures.now j)) in
    let rest : drop (256 * (base s u + size s u)) new ≡ drop (256 * (base s u + size s u)) s.words =
    (λ j. drop (256 * (sym b j + sym n j)) new) ∙ core.around.rest ∙ (λ j. drop (256 * (b j + n j)) (c.bank_mut.ensures.now j)) in
    (turned_whole s u some new most c.requires.can.core.loaded core.around.len front rest c.requires.usable.0 core.around.words, c.turn_in.ensures.served.sound usable)
