-- The cores of a slot's runners: each has one of 1 to k, no two share one, and no other task has one. Others cite `Assigned` and `assigned_all`.
use Prim.Native.Nat.{ℕ, ◌+◌, ◌≤◌, ◌<◌}
use mathlib.Core.Path.{◌≡◌, refl, sym, ◌∙◌}
use mathlib.Core.List.{List, [], ◌∷◌}
use mathlib.Core.Bool.{true, false, or-true}
use native.Mathlib.Omega.{arith}
use lib.Dec.{eqb}
use lib.ListN.{length, get_or, set, length-set}
use lib.Seq.{get_or-set_same, get_or-set_other}
use borrow.Author.Tests.{eq-eqb, ne_eqb}
use Rattle.laws.proofs.CaseSplits.{by_equal, by_order, not_both}
use Rattle.tasks.specs.Limits.{max_tasks}
use Rattle.cores.specs.Assign.{kept, is_among, first_unused, taken, assignment}
use Rattle.cores.proofs.AmongLaws.{some_inside, among_at}
use Rattle.cores.proofs.UnusedLaws.{Unused, some_unused, some_count, some_set}
use Rattle.cores.proofs.KeptLaws.{is_distinct, AllInside, without, without_set, length_kept, kept_some, kept_count}

-- what the runners' cores are, of k
pub record Assigned (k : ℕ) (runners assigned : List ℕ) : Type 0 where
  pub some : (i : ℕ) → is_among runners i ≡ true → 1 ≤ get_or assigned i 0
  pub within : (i : ℕ) → get_or assigned i 0 ≤ k
  pub apart : (i j : ℕ) → get_or assigned i 0 ≡ get_or assigned j 0 → 1 ≤ get_or assigned i 0 → i ≡ j
  pub only : (i : ℕ) → 1 ≤ get_or assigned i 0 → is_among runners i ≡ true

-- what holds while some of the runners have no core yet
record Partly (k : ℕ) (runners assigned : List ℕ) : Type 0 where
  all_there : length assigned ≡ max_tasks
  within : (i : ℕ) → get_or assigned i 0 ≤ k
  apart : (i j : ℕ) → get_or assigned i 0 ≡ get_or assigned j 0 → 1 ≤ get_or assigned i 0 → i ≡ j
  only : (i : ℕ) → 1 ≤ get_or assigned i 0 → is_among runners i ≡ true

-- a runner without a core takes one of 1 to k that is not used
module _ (k : ℕ) (runners assigned : List ℕ) (p : Partly k runners assigned) (i c : ℕ) (runs : is_among runners i ≡ true) (h : i < max_tasks) (none : get_or assigned i 0 ≡ 0) (u : Unused (is_among assigned) 1 k c) where
  at_it : get_or (set assigned i c) i 0 ≡ c
  at_it = get_or-set_same assigned i c 0 (omega (arith, p.all_there))

  off_it : (j : ℕ) → (j ≡ i → ⊥) → get_or (set assigned i c) j 0 ≡ get_or assigned j 0
  off_it j ne = get_or-set_other assigned i j c 0 ne

  -- no other task has it
  alone : {A : Type 0} (j : ℕ) → c ≡ get_or assigned j 0 → A
  alone j e =
      not_both (is_among assigned c) (among_at assigned j c (some_inside assigned j (omega (arith, u.from))) (sym e)) u.free

  now_apart : (a b : ℕ) → get_or (set assigned i c) a 0 ≡ get_or (set assigned i c) b 0 → 1 ≤ get_or (set assigned i c) a 0 → a ≡ b
  now_apart a b same some =
      by_equal a i
      (λ ea. by_equal b i (λ eb. ea ∙ sym eb) (λ nb. alone b (sym at_it ∙ rw ea at same ∙ off_it b nb)))
      (λ na.
      by_equal b i
      (λ eb. alone a (sym at_it ∙ sym (rw eb at same) ∙ off_it a na))
      (λ nb. p.apart a b (sym (off_it a na) ∙ same ∙ off_it b nb) (rw (off_it a na) at some)))

  takes : Partly k runners (set assigned i c)
  takes =
      record {
        all_there = length-set assigned i c ∙ p.all_there;
        within = λ j. by_equal j i (λ e. rw (e, at_it) (omega (arith, u.below))) (λ ne. rw (off_it j ne) (p.within j));
        apart = now_apart;
        only = λ j some. by_equal j i (λ e. rw e runs) (λ ne. p.only j (rw (off_it j ne) at some));
      }

-- what the rest of the runners, `more`, take
record Taken (k : ℕ) (runners more assigned final : List ℕ) : Type 0 where
  partly : Partly k runners final
  each : (i : ℕ) → is_among more i ≡ true → 1 ≤ get_or final i 0
  kept_on : (i : ℕ) → 1 ≤ get_or assigned i 0 → get_or final i 0 ≡ get_or assigned i 0

module _ (k : ℕ) (runners : List ℕ) (all : AllInside runners) where
  -- of runners the first of which has its core by now
  first_has :
      (i : ℕ) (more assigned now final : List ℕ) → 1 ≤ get_or now i 0 → ((j : ℕ) → 1 ≤ get_or assigned j 0 → get_or now j 0 ≡ get_or assigned j 0)
      → Taken k runners more now final → Taken k runners (i ∷ more) assigned final
  unfolding is_among
  first_has i more assigned now final some same t =
      record {
        partly = t.partly;
        each = λ j e.
            by_equal i j
            (λ is. let here = t.kept_on i some in rw (← is) (omega arith))
            (λ ne. t.each j (rw (ne_eqb i j ne) at e));
        kept_on = λ j has. let now-some = same j has in t.kept_on j (omega arith) ∙ now-some;
      }

  takes_on :
      (more assigned : List ℕ) → ((i : ℕ) → is_among more i ≡ true → is_among runners i ≡ true) → Partly k runners assigned
      → some_count assigned + without assigned more ≤ k → Taken k runners more assigned (taken k more assigned)
  unfolding taken without is_among
  takes_on [] assigned are p few = record { partly = p; each = λ i e. not_both false e refl; kept_on = λ i h. refl }
  takes_on (i ∷ more) assigned are p few =
      let first : is_among runners i ≡ true = are i (rw (eq-eqb i i refl)) in
      let rest-are : (j : ℕ) → is_among more j ≡ true → is_among runners j ≡ true = λ j e. are j (rw (e, or-true)) in
      by_equal (get_or assigned i 0) 0
      (λ none.
      let zero-now : eqb (get_or assigned i 0) 0 ≡ true = eq-eqb (get_or assigned i 0) 0 none in
      let room : some_count assigned + (1 + without assigned more) ≤ k = rw zero-now at few in
      let c : ℕ = first_unused (is_among assigned) 1 k in
      let u = some_unused assigned k (omega arith) in
      let h : i < max_tasks = all.inside i first in
      let long : i < length assigned = omega (arith, p.all_there) in
      rw zero-now
      (first_has i more assigned (set assigned i c) _ (rw (at_it k runners assigned p i c first h none u) u.from)
      (λ j has. off_it k runners assigned p i c first h none u j (λ e. let z : get_or assigned j 0 ≡ 0 = rw e none in omega arith))
      (takes_on more (set assigned i c) rest-are (takes k runners assigned p i c first h none u)
      (omega (arith, some_set assigned i c long none u.from, without_set assigned i c more none)))))
      (λ has.
      let some-now : eqb (get_or assigned i 0) 0 ≡ false = ne_eqb (get_or assigned i 0) 0 has in
      let room = rw some-now at few in
      rw some-now (first_has i more assigned assigned _ (omega arith) (λ j h. refl) (takes_on more assigned rest-are p (omega arith))))

-- the runners are of a machine whose recorded cores are sound: no two of them have one core
module _
    (recorded : List ℕ)
    (k : ℕ)
    (runners : List ℕ)
    (distinct : is_distinct runners ≡ true)
    (all : AllInside runners)
    (few : length runners ≤ k)
    (apart : (i j : ℕ) → is_among runners i ≡ true → is_among runners j ≡ true → get_or recorded i 0 ≡ get_or recorded j 0 → 1 ≤ get_or recorded i 0 → i ≡ j)
  where
    kept_partly : Partly k runners (kept recorded k runners)
    kept_partly =
        let keeps = kept_some recorded k runners in
        record {
          all_there = length_kept recorded k runners;
          within = λ i. by_order 1 (get_or (kept recorded k runners) i 0) (λ some. (keeps i some).small) (λ none. omega arith);
          apart = λ i j same some.
              let x = keeps i some in
              let y = keeps j (rw same at some) in
              apart i j x.runs y.runs (sym x.same ∙ same ∙ y.same) (rw x.same at some);
          only = λ i some. (keeps i some).runs;
        }

    pub assigned_all : Assigned k runners (assignment recorded k runners)
    unfolding assignment
    assigned_all =
        let count = kept_count recorded k runners distinct all in
        let t = takes_on k runners all runners (kept recorded k runners) (λ i e. e) kept_partly (omega arith) in
        record { some = t.each; within = t.partly.within; apart = t.partly.apart; only = t.partly.only }
