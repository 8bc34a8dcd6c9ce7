-- What a table's tasks show, task by task: `turns_none`, of none, and with one more `opened_or_closed`, `turns_ran` and `turns_idle`; and `table_fits`, that a
-- sound machine's table has 32 at most.
use Prim.Native.Nat.{ℕ, ◌+◌, min, max, ◌≤◌, ◌<◌}
use native.Mathlib.Nat.{add-zero}
use native.Mathlib.Numerals.{add-one}
use native.Mathlib.Omega.{arith}
use mathlib.Core.Path.{◌≡◌, refl, ap, ◌∙◌}
use mathlib.Core.Bool.{Bool, true, false}
use mathlib.Core.List.{List}
use borrow.Author.Tests.{lt-ltb, le-ltb}
use lib.ListN.{get_or}
use Rattle.laws.specs.Sums.{sum_to, bit}
use Rattle.laws.proofs.CaseSplits.{by_order}
use Rattle.laws.proofs.SumLaws.{bit_true, bit_false, count_bound}
use Rattle.tasks.specs.Limits.{max_tasks}
use Rattle.machine.specs.Machine.{job_at}
use Rattle.machine.specs.Sound.{sound}
use Rattle.machine.specs.declared.machine.Machine.{Machine}
use Rattle.machine.proofs.SoundLaws.{sound_passes}
use Rattle.auditing.specs.Turn.{never, turn, last_to, first_to, turns_to}
use Rattle.auditing.specs.declared.running.Turns.{Turns}
use Rattle.auditing.proofs.AllowedByTurns.{open_by_turn}

pub table_fits : (m : Machine) → sound m ≡ true → m.table.count ≤ max_tasks
table_fits m ok = (sound_passes m ok).count_fits

module _ (m : Machine) (ran : List Bool) where
  pub turns_none : record { open_tasks = 0; runners = 0; last = 0; first = never } ≡ turns_to m ran 0
  unfolding turns_to sum_to last_to first_to
  turns_none = refl

  module _ (i : ℕ) where
    abbrev before : Turns
    before = turns_to m ran i

    abbrev later : Turns
    later = turns_to m ran (i + 1)

    -- the task at i has this turn, by which it is open
    pub opened_or_closed :
        sound m ≡ true → i < m.table.count → (t o : ℕ) → t ≡ turn (job_at m i) → (t < never → o ≡ before.open_tasks + 1) → (never ≤ t → o ≡ before.open_tasks)
        → o ≡ later.open_tasks
    unfolding turns_to sum_to
    opened_or_closed ok h t o e more same =
        let test = open_by_turn m ok i h in
        by_order never t
        (λ closed.
        let c = bit_false _ (test ∙ le-ltb _ _ (rw e at closed)) in
        rw (add-one i) (omega (arith, same closed)))
        (λ opened.
        let c = bit_true _ (test ∙ lt-ltb _ _ (rw e at opened)) in
        rw (add-one i) (omega (arith, more opened)))

    -- what is seen where it is settled whether that task is open
    module _ (t : Turns) (opened : t.open_tasks ≡ later.open_tasks) (others : t ≡ record before { open_tasks = t.open_tasks }) where
      same_runners : t.runners ≡ before.runners
      same_runners = ap (λ (x : Turns). x.runners) others

      same_last : t.last ≡ before.last
      same_last = ap (λ (x : Turns). x.last) others

      same_first : t.first ≡ before.first
      same_first = ap (λ (x : Turns). x.first) others

      pub turns_ran :
          get_or ran i false ≡ true → (l : ℕ) → l ≡ max t.last (turn (job_at m i))
          → record { open_tasks = t.open_tasks; runners = t.runners + 1; last = l; first = t.first } ≡ later
      unfolding turns_to sum_to bit last_to first_to
      turns_ran r l e = rw (opened, same_runners, e, same_last, same_first, add-one i, r)

      pub turns_idle :
          get_or ran i false ≡ false → (f : ℕ) → f ≡ min t.first (turn (job_at m i))
          → record { open_tasks = t.open_tasks; runners = t.runners; last = t.last; first = f } ≡ later
      unfolding turns_to sum_to bit last_to first_to
      turns_idle r f e = rw (opened, same_runners, same_last, e, same_first, add-one i, r, add-zero)

    pub few_open : before.open_tasks ≤ i
    unfolding turns_to
    few_open = count_bound (λ k. (job_at m k).«open») i

    pub few_runners : before.runners ≤ i
    unfolding turns_to
    few_runners = count_bound (λ k. get_or ran k false) i
