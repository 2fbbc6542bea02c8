use Rattle.std.proofs.Common.{◌≡◌, ◌≢◌, ◌⊎◌, inl, inr, ℕ, ◌+◌, ◌<◌, ◌≤◌, List, length, sym, ◌∙◌, ap, arith, add-one, rules}
use Rattle.std.proofs.lemmas.Bool.{cases_eq}
use Rattle.onion_swap.specs.Places.{owner_of, base_of}
use Rattle.image_map.specs.Loads.{BlockMap, block_map_of, load_one, load_to}
use Rattle.image_map.proofs.Calls.{calls_step, failed_step, load_one_mine, load_one_other}
use Rattle.image_map.proofs.Moved.{holds_both, stops_in}
use Rattle.core_bank.specs.Bank.{block_at}
use Rattle.image_map.proofs.image.Image.load_blocks.Goals as goal

pub returns-in_err-load_block-clause-moves : goal.returns-in_err-load_block-clause-moves
returns-in_err-load_block-clause-moves g c =
    let inv = c.loading.invariant in
    let quotas = c.args.self.now.tables.kept.slots.quotas.items in
    let bases = c.args.self.now.tables.owners.bases in
    let h : BlockMap = block_map_of c.args.self.now.tables.owners.owners c.args.self.now.tables.kept.slots in
    let now = c.loading.self in
    let at : base_of now.tables.owners.bases c.args.user ≡ base_of bases c.args.user = ap (λ (l : List ℕ). base_of l c.args.user) inv.bases in
    let fault = c.in_err-load_block.ensures.moves.fails in
    record {
      holds = holds_both inv.holds c.load_block.ensures.moves.holds;
      done = search rules;
      fails = stops_in _ _ _ _ (failed_step quotas bases h c.args.user c.loading.b c.args.blocks (block_at now.bank) (block_at c.load_block.new.self.bank)
          (g.D.Medium.calls c.args.self.now.tables.kept.drum.now) (g.D.Medium.calls now.tables.kept.drum.now) (g.D.Medium.calls c.load_block.new.self.tables.kept.drum.now)
          now.tables.kept.slots.quotas.items now.tables.owners.bases (block_map_of now.tables.owners.owners now.tables.kept.slots)
          (λ j. (inv.holds.quotas j).items) inv.bases inv.moved.block_map inv.moved.calls
          (λ k below. let other : base_of bases c.args.user + k ≢ base_of now.tables.owners.bases c.args.user + c.loading.b = λ e. absurd (omega arith) in c.load_block.ensures.others (base_of bases c.args.user + k) other)
          (omega arith) fault.failed) (omega (arith, fault.cause, inv.holds.faults_grow));
    }

pub loading-preserved : goal.loading-preserved
loading-preserved g c =
    let inv = c.loading.invariant in
    let quotas = c.args.self.now.tables.kept.slots.quotas.items in
    let bases = c.args.self.now.tables.owners.bases in
    let user = c.args.user in
    let h : BlockMap = block_map_of c.args.self.now.tables.owners.owners c.args.self.now.tables.kept.slots in
    let now = c.loading.self in
    let new = c.load_block.new.self in
    let b = c.loading.b in
    let say = c.in_ok-load_block.ensures in
    let s = c.args.self.now.tables.sound in
    let at : base_of now.tables.owners.bases c.args.user ≡ base_of bases c.args.user = ap (λ (l : List ℕ). base_of l c.args.user) inv.bases in
    let to : base_of new.tables.owners.bases c.args.user ≡ base_of now.tables.owners.bases c.args.user = ap (λ (l : List ℕ). base_of l c.args.user) say.bases in
    let below : base_of now.tables.owners.bases c.args.user + c.loading.b < length now.tables.owners.owners = omega (arith, at, c.requires.room, now.tables.sound.places) in
    record {
      holds = holds_both inv.holds say.moves.holds;
      moved = record {
        block_map = say.moves.done.block_map ∙ (λ j. load_one (inv.holds.quotas j).items (inv.bases j) (inv.moved.block_map j) c.args.user b) ∙ ap (λ (n : ℕ). load_to quotas bases h c.args.user n) (sym (add-one b));
        images = λ u some. say.moves.done.images u some ∙ inv.moved.images u some;
        calls = calls_step quotas bases h c.args.user b (block_at now.bank) (block_at new.bank)
            (g.D.Medium.calls c.args.self.now.tables.kept.drum.now) (g.D.Medium.calls now.tables.kept.drum.now) (g.D.Medium.calls new.tables.kept.drum.now)
            now.tables.kept.slots.quotas.items now.tables.owners.bases (block_map_of now.tables.owners.owners now.tables.kept.slots)
            (λ j. (inv.holds.quotas j).items) inv.bases inv.moved.block_map inv.moved.calls
            (λ k under. let other : base_of bases c.args.user + k ≢ base_of now.tables.owners.bases c.args.user + c.loading.b = λ e. absurd (omega arith) in say.others (base_of bases c.args.user + k) other) say.moves.done.calls;
      };
      bases = say.bases ∙ inv.bases;
      others = λ q away.
          let other : q ≢ base_of now.tables.owners.bases c.args.user + c.loading.b = λ e. elim away [ inl low ↦ absurd (omega arith) | inr high ↦ absurd (omega arith) ] in
          let before : (q < base_of bases c.args.user) ⊎ (base_of bases c.args.user + c.loading.b ≤ q) = elim away [ inl low ↦ inl low | inr high ↦ inr (omega arith) ] in
          say.others q other ∙ inv.others q before;
      resident = λ k under. elim (cases_eq k b) [
        | inl here ↦
            let there : base_of new.tables.owners.bases c.args.user + k ≡ base_of now.tables.owners.bases c.args.user + c.loading.b = omega arith in
            ap (λ (n : ℕ). owner_of new.tables.owners.owners n) there ∙ ap (λ (i : BlockMap). owner_of i.owners (base_of now.tables.owners.bases c.args.user + c.loading.b)) say.moves.done.block_map
            ∙ load_one_mine now.tables.kept.slots.quotas.items now.tables.owners.bases (block_map_of now.tables.owners.owners now.tables.kept.slots) c.args.user b below
        | inr there ↦
            let less : k < c.loading.b = omega arith in
            let same : base_of new.tables.owners.bases c.args.user + k ≡ base_of now.tables.owners.bases c.args.user + k = omega arith in
            let away : base_of now.tables.owners.bases c.args.user + k ≢ base_of now.tables.owners.bases c.args.user + c.loading.b = λ e. absurd (omega arith) in
            ap (λ (n : ℕ). owner_of new.tables.owners.owners n) same ∙ ap (λ (i : BlockMap). owner_of i.owners (base_of now.tables.owners.bases c.args.user + k)) say.moves.done.block_map
            ∙ load_one_other now.tables.kept.slots.quotas.items now.tables.owners.bases (block_map_of now.tables.owners.owners now.tables.kept.slots) c.args.user b (base_of now.tables.owners.bases c.args.user + k) away ∙ inv.resident k less
      ];
    }
