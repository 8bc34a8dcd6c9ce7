-- A choice of runners that the rules of a log allow, task by task: `Legal`, with `legal_means` and `legal_run_lem`, and `legal_same`, that it goes by the table,
-- the cores and the jobs.
use Prim.Native.Nat.{ℕ, zero, suc, min, ◌<◌}
use native.Mathlib.Omega.{arith}
use mathlib.Core.Path.{◌≡◌, refl, ap, ◌∙◌}
use mathlib.Core.Bool.{Bool, true, false, not, ◌&&◌, ◌||◌}
use mathlib.Core.List.{List}
use borrow.Author.Tests.{eqb-true, eq-eqb, ltb-true, lt-ltb, not-true}
use lib.Dec.{eqb, ltb}
use lib.ListN.{get_or}
use Rattle.laws.specs.Sums.{sum_to, bit}
use Rattle.laws.proofs.SumLaws.{sum_same}
use Rattle.laws.proofs.CaseSplits.{by_equal, by_test, not_both}
use Rattle.laws.proofs.Booleans.{and_left, and_right}
use Rattle.tasks.specs.declared.table.Table.{Table}
use Rattle.tasks.specs.Limits.{max_tasks}
use Rattle.job.specs.declared.job.Job.{Job}
use Rattle.job.specs.Precedence.{job_beats}
use Rattle.machine.specs.Machine.{job_at}
use Rattle.machine.specs.Pick.{open_count}
use Rattle.machine.specs.Slot.{ran_count}
use Rattle.machine.specs.declared.machine.Machine.{Machine}
use Rattle.auditing.specs.Line.{is_open_at, ran_open, unbeaten, none_beaten, legal_run}

pub record Legal (m : Machine) (ran : List Bool) : Type 0 where
  pub inside : (i : ℕ) → i < max_tasks → get_or ran i false ≡ true → i < m.table.count
  pub opened : (i : ℕ) → i < max_tasks → get_or ran i false ≡ true → (job_at m i).«open» ≡ true
  pub number : ran_count m ran ≡ min m.cores (open_count m)
  pub not_beaten :
      (x y : ℕ) → x < m.table.count → y < m.table.count → (job_at m x).«open» ≡ true → get_or ran x false ≡ false → get_or ran y false ≡ true
      → job_beats (job_at m x) (job_at m y) ≡ false

-- an implication of Booleans
implied : (a b : Bool) → (not a || b) ≡ true → a ≡ true → b ≡ true
implied true b h e = h
implied false b h e = not_both false e refl

implies : (a b : Bool) → (a ≡ true → b ≡ true) → (not a || b) ≡ true
implies true b h = h refl
implies false b h = refl

-- a test of all indexes below a bound, by recursion on it, says that each passes, and the other way round
each_below : (all each : ℕ → Bool) → ((n : ℕ) → all (suc n) ≡ (all n && each n)) → (n : ℕ) → all n ≡ true → (i : ℕ) → i < n → each i ≡ true
each_below all each more zero h i l = absurd (omega arith)
each_below all each more (suc n) h i l =
    let both : (all n && each n) ≡ true = rw (more n) at h in
    by_equal i n
    (λ e. rw e (and_right (all n) _ both))
    (λ ne. each_below all each more n (and_left _ _ both) i (omega arith))

all_below :
    (all each : ℕ → Bool) → all 0 ≡ true → ((n : ℕ) → all (suc n) ≡ (all n && each n)) → (n : ℕ) → ((i : ℕ) → i < n → each i ≡ true) → all n ≡ true
all_below all each none more zero h = none
all_below all each none more (suc n) h = rw (more n, all_below all each none more n (λ i l. h i (omega arith))) (h n (omega arith))

module _ (m : Machine) (ran : List Bool) where
  -- one task of each of the three tests
  abbrev open_if_ran : ℕ → Bool
  open_if_ran i = not (get_or ran i false) || is_open_at m i

  abbrev idle_beats : Job → ℕ → Bool
  idle_beats y x = (job_at m x).«open» && not (get_or ran x false) && job_beats (job_at m x) y

  abbrev unbeaten_if_ran : ℕ → Bool
  unbeaten_if_ran y = not (get_or ran y false) || unbeaten m ran (job_at m y) m.table.count

  beats_not : (x : ℕ) (y : Job) → idle_beats y x ≡ false → (job_at m x).«open» ≡ true → get_or ran x false ≡ false → job_beats (job_at m x) y ≡ false
  unfolding job_at
  beats_not x y e o idle = rw (o, idle) at e

  idle_not : (x : ℕ) (y : Job) → ((job_at m x).«open» ≡ true → get_or ran x false ≡ false → job_beats (job_at m x) y ≡ false) → idle_beats y x ≡ false
  unfolding job_at
  idle_not x y f =
      by_test (job_at m x).«open»
      (λ o. by_test (get_or ran x false) (λ r. rw (o, r)) (λ r. rw (o, r) (f o r)))
      (λ c. rw c)

  -- the three parts of the rule
  abbrev numbered : Bool
  numbered = eqb (ran_count m ran) (min m.cores (open_count m))

  pub legal_means : legal_run m ran ≡ true → Legal m ran
  unfolding legal_run is_open_at ran_open none_beaten unbeaten
  legal_means e =
      let n = m.table.count in
      let first = and_left (ran_open m ran max_tasks && numbered) _ e in
      let opens = each_below (ran_open m ran) open_if_ran (λ k. refl) max_tasks (and_left (ran_open m ran max_tasks) _ first) in
      let at : (i : ℕ) → i < max_tasks → get_or ran i false ≡ true → (ltb i n && (job_at m i).«open») ≡ true = λ i h r. implied _ _ (opens i h) r in
      let runners = each_below (none_beaten m ran) unbeaten_if_ran (λ k. refl) n (and_right (ran_open m ran max_tasks && numbered) _ e) in
      record {
        inside = λ i h r. ltb-true i n (and_left (ltb i n) _ (at i h r));
        opened = λ i h r. and_right (ltb i n) _ (at i h r);
        number = eqb-true _ _ (and_right (ran_open m ran max_tasks) _ first);
        not_beaten = λ x y hx hy o idle r.
            let j = job_at m y in
            let all = implied (get_or ran y false) (unbeaten m ran j n) (runners y hy) r in
            beats_not x j (not-true _ (each_below (unbeaten m ran j) (λ k. not (idle_beats j k)) (λ k. refl) n all x hx)) o idle;
      }

  pub legal_run_lem : Legal m ran → legal_run m ran ≡ true
  unfolding legal_run is_open_at ran_open none_beaten unbeaten
  legal_run_lem legal =
      let n = m.table.count in
      let opens : (i : ℕ) → i < max_tasks → open_if_ran i ≡ true =
      λ i h. implies (get_or ran i false) (is_open_at m i) (λ r. rw (lt-ltb i n (legal.inside i h r)) (legal.opened i h r)) in
      let not_beaten : (y : ℕ) → y < n → get_or ran y false ≡ true → unbeaten m ran (job_at m y) n ≡ true =
      λ y hy r.
      all_below (unbeaten m ran (job_at m y)) (λ k. not (idle_beats (job_at m y) k)) refl (λ k. refl) n
      (λ x hx. rw (idle_not x (job_at m y) (λ o idle. legal.not_beaten x y hx hy o idle r))) in
      rw (all_below (ran_open m ran) open_if_ran refl (λ k. refl) max_tasks opens, eq-eqb _ _ legal.number)
      (all_below (none_beaten m ran) unbeaten_if_ran refl (λ k. refl) n (λ y hy. implies (get_or ran y false) _ (not_beaten y hy)))

-- they allow it on every machine with this table, these cores and these jobs
module _
    (m m' : Machine)
    (ran : List Bool)
    (tables : m'.table ≡ m.table)
    (on : m'.cores ≡ m.cores)
    (same : (i : ℕ) → i < m.table.count → job_at m' i ≡ job_at m i)
  where
    counts : m'.table.count ≡ m.table.count
    counts = ap (λ (table : Table). table.count) tables

    same_ran : ran_count m' ran ≡ ran_count m ran
    unfolding ran_count
    same_ran = ap (λ n. sum_to n (λ i. bit (get_or ran i false))) counts

    same_open : open_count m' ≡ open_count m
    unfolding open_count
    same_open =
        ap (λ n. sum_to n (λ i. bit (job_at m' i).«open»)) counts
        ∙ sum_same (λ i. bit (job_at m' i).«open») (λ i. bit (job_at m i).«open») m.table.count (λ i h. rw (same i h))

    pub legal_same : Legal m ran → Legal m' ran
    legal_same legal =
        record {
          inside = λ i h r. omega (arith, counts, legal.inside i h r);
          opened = λ i h r. rw (same i (legal.inside i h r)) (legal.opened i h r);
          number = omega (arith, same_ran, same_open, legal.number);
          not_beaten = λ x y hx hy o idle r.
              let in-x : x < m.table.count = omega (arith, counts) in
              let in-y : y < m.table.count = omega (arith, counts) in
              rw (same x in-x, same y in-y) (legal.not_beaten x y in-x in-y (rw (same x in-x) at o) idle r);
        }
