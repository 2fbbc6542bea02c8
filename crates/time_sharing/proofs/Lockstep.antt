-- Two states of one machine of rows that differ in their counts and in what was transcript before step alike.
use Rattle.std.proofs.Common.{◌≡◌, ℕ, suc, ◌+◌, ◌-◌, true, false, cond, List, ◌++◌, refl, ap, ◌∙◌, arith}
use Rattle.time_sharing.specs.Machine.{Item, Reply}
use Rattle.time_sharing.specs.Rows.{Rows, Private, machine, done, result_of, own_at_command_of, line_of, one_less, in_line, out_all}

module _ {A : Type 0} (rows : Rows A) where
  -- q with d more own steps, and with xs transcript
  pub shifted : ℕ → List Item → Private A → Private A
  shifted d xs q = record q { own = q.own + d; own_at_command = q.own_at_command + d; transcript = xs }

  -- what a step shows
  pub newly : Private A → ℕ → Reply → List Item
  newly q t r = in_line (line_of rows q) ++ out_all (result_of rows q t r).written

  before_shifted : (d : ℕ) (xs : List Item) (q : Private A) → own_at_command_of rows (shifted d xs q) ≡ own_at_command_of rows q + d
  unfolding shifted
  before_shifted d xs q = elim (rows.is_command q.inner) as (λ b. cond b (q.own + d) (q.own_at_command + d) ≡ cond b q.own q.own_at_command + d) [ true ↦ refl | false ↦ refl ]

  same_result : (d : ℕ) (xs : List Item) (q : Private A) (t : ℕ) (r : Reply) → result_of rows (shifted d xs q) t r ≡ result_of rows q t r
  unfolding shifted
  same_result d xs q t r =
      let n : suc (q.own + d) - own_at_command_of rows (shifted d xs q) ≡ suc q.own - own_at_command_of rows q = omega (arith, before_shifted d xs q) in
      ap (λ n. rows.act q.inner (line_of rows q) n (one_less (line_of rows q) q.fed) t r) n

  -- a step of the one is the step of the other, shifted as before
  pub step_shifted : (d : ℕ) (xs : List Item) (q : Private A) (t : ℕ) (r : Reply) →
      (machine rows).step (shifted d xs q) t r ≡ shifted d (xs ++ newly q t r) ((machine rows).step q t r)
  unfolding shifted newly
  step_shifted d xs q t r =
      ap (done rows (shifted d xs q)) (same_result d xs q t r)
      ∙ (let own : suc (q.own + d) ≡ suc q.own + d = omega arith in
      λ i. record (done rows q (result_of rows q t r)) { own = own i; own_at_command = before_shifted d xs q i; transcript = xs ++ (in_line (line_of rows q) ++ out_all (result_of rows q t r).written) })
