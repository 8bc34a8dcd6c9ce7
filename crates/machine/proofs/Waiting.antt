-- Which tasks wait to be picked, and which is next. Others cite: `waits_open`, `waits_unpicked` and `open_waits`, that a waiting task is open and
-- not picked; and `some_next`, that where fewer are picked than are open there is a next runner.
use Prim.Native.Nat.{ℕ, zero, suc, ◌≤◌, ◌<◌}
use mathlib.Core.Path.{◌≡◌}
use mathlib.Core.Bool.{Bool, true, false}
use mathlib.Core.List.{List}
use native.Mathlib.Omega.{arith}
use lib.ListN.{get_or}
use borrow.Author.Tests.{not-true}
use Rattle.laws.proofs.CaseSplits.{by_test, not_both}
use Rattle.laws.proofs.Booleans.{and_left, and_right}
use Rattle.laws.specs.Sums.{sum_to, bit}
use Rattle.laws.proofs.SumLaws.{bit_monotone}
use Rattle.job.proofs.Order.{precedes_not_self, precedes_trans}
use Rattle.job.proofs.Next.{Strict, Found, next_runner_lem}
use Rattle.machine.specs.Machine.{job_at}
use Rattle.machine.specs.Pick.{open_count, waiting, precedes, candidates}
use Rattle.machine.specs.declared.machine.Machine.{Machine}

module _ (m : Machine) (picked : List Bool) where
  module _ (i : ℕ) where
    pub waits_open : waiting m picked i ≡ true → (job_at m i).«open» ≡ true
    unfolding waiting
    waits_open w = and_left _ _ w

    pub waits_unpicked : waiting m picked i ≡ true → get_or picked i false ≡ false
    unfolding waiting
    waits_unpicked w = not-true _ (and_right (job_at m i).«open» _ w)

    pub open_waits : (job_at m i).«open» ≡ true → get_or picked i false ≡ false → waiting m picked i ≡ true
    unfolding waiting
    open_waits o p = rw (o, p)

    bits_apart : waiting m picked i ≡ false → bit (job_at m i).«open» ≤ bit (get_or picked i false)
    bits_apart idle =
        bit_monotone (job_at m i).«open» (get_or picked i false) λ o.
        by_test (get_or picked i false) (λ p. p) (λ p. not_both (waiting m picked i) (open_waits o p) idle)

  -- Where fewer are picked than are open, one waits.
  some_waits :
      (n : ℕ) → sum_to n (λ i. bit (get_or picked i false)) < sum_to n (λ i. bit (job_at m i).«open»)
      → (i : ℕ) × (i < n) × (waiting m picked i ≡ true)
  unfolding sum_to
  some_waits zero h = absurd (omega arith)
  some_waits (suc n) h =
      by_test (waiting m picked n)
      (λ w. (n, omega arith, w))
      (λ c.
      let (i, inside, w) = some_waits n (omega (arith, bits_apart n c)) in
      (i, omega arith, w))

  strict : Strict (candidates m picked)
  unfolding candidates precedes
  strict =
      record {
        not_self = λ i. precedes_not_self (job_at m i) i;
        trans = λ i j k. precedes_trans (job_at m i) i (job_at m j) j (job_at m k) k;
      }

  pub some_next : sum_to m.table.count (λ i. bit (get_or picked i false)) < open_count m → Found (candidates m picked)
  unfolding candidates open_count
  some_next few =
      let (i, inside, waits) = some_waits m.table.count few in
      next_runner_lem (candidates m picked) strict i inside waits
