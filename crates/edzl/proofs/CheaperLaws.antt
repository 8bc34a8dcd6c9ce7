-- Why a cheaper set of tasks stays admitted (document 02, change 8), with any slacks that are no smaller. Others cite `shorter_cheaper`, that a set with fewer
-- tasks is cheaper; `part_no_larger`, that each task takes no more from another; `new_no_smaller`, that each task's new slack is no smaller; and
-- `count_no_larger`, that no more tasks may turn urgent. For the window test see `window_stays`.
use Prim.Native.Nat.{ℕ, ◌-◌, ◌≤◌, ◌<◌, min}
use mathlib.Core.Path.{◌≡◌}
use mathlib.Core.Bool.{true}
use native.Mathlib.Nat.{le_refl, le_trans}
use native.Mathlib.Omega.{arith}
use borrow.Author.Tests.{le-leb, leb-true}
use Rattle.laws.proofs.SumLaws.{sum_picked, others_picked, bit_monotone}
use Rattle.edzl.specs.TaskSet.{TaskSet}
use Rattle.edzl.specs.Window.{interference, spare, no_slack, window_sum, may_turn_urgent, count_urgent, admitted}
use Rattle.edzl.specs.Slack.{new_slack}
use Rattle.edzl.specs.Cheaper.{CheaperTasks}
use Rattle.edzl.proofs.WellFormed.{WellFormed}
use Rattle.edzl.proofs.InterferenceLaws.{monotone, budget_monotone, period_antitone}
use Rattle.edzl.proofs.WindowLaws.{SameTask, admitted_few}
use Rattle.edzl.proofs.SlackLaws.{new_none, none_reaches, new_antitone, new_more_cores}
use Rattle.edzl.proofs.CappedSums.{capped, cap_raised}

-- The first tasks of a longer set are cheaper than the set.
unfoldable pub shorter_cheaper : (shorter longer : TaskSet) →
    shorter.count ≤ longer.count →
    ((i : ℕ) → i < shorter.count → SameTask shorter longer i) →
    CheaperTasks longer shorter
shorter_cheaper shorter longer fewer same =
    record {
      was = λ i. i;
      was_there = λ i h. omega arith;
      in_order = λ i j l h. omega arith;
      each = λ i h.
          let task = same i h in
          record {
            same_deadline = omega (arith, task.same_deadline);
            budget_no_larger = omega (arith, task.same_budget);
            period_no_smaller = omega (arith, task.same_period);
          };
    }

module _ (dearer cheaper : TaskSet) (well : WellFormed dearer) (c : CheaperTasks dearer cheaper) where
  module _ (slack slack' : ℕ → ℕ) (no-smaller : (i : ℕ) → i < cheaper.count → slack (c.was i) ≤ slack' i) where
    -- Each task takes no more from another: its budget is no larger, its period no smaller and the window no longer.
    pub part_no_larger : (k i : ℕ) → k < cheaper.count → i < cheaper.count →
        interference (cheaper.period i) (cheaper.budget i) (cheaper.deadline k - slack' i)
        ≤ interference (dearer.period (c.was i)) (dearer.budget (c.was i)) (dearer.deadline (c.was k) - slack (c.was i))
    unfolding WellFormed
    part_no_larger k i k-in i-in =
        let T = dearer.period (c.was i) in
        let C = dearer.budget (c.was i) in
        let C' = cheaper.budget i in
        let L' = cheaper.deadline k - slack' i in
        let fits = well (c.was i) (c.was_there i i-in) in
        let task = c.each i i-in in
        let window : L' ≤ dearer.deadline (c.was k) - slack (c.was i) = omega (arith, (c.each k k-in).same_deadline, no-smaller i i-in) in
        omega (
          arith,
          period_antitone T (cheaper.period i) C' (omega arith) (omega arith) (omega arith) L',
          budget_monotone T C' C L' (omega arith),
          monotone T C (omega arith) (omega arith) L' _ window,
        )

    module _ (k : ℕ) (k-in : k < cheaper.count) where
      -- The parts of task k's sum in the dearer set.
      abbrev parts : ℕ → ℕ
      parts i = interference (dearer.period i) (dearer.budget i) (dearer.deadline (c.was k) - slack i)

      -- Its sum is no larger than the dearer one with its own spare.
      sum_no_larger : window_sum cheaper slack' k ≤ capped parts (c.was k) dearer.count (spare cheaper k)
      unfolding window_sum
      sum_no_larger =
          others_picked _ (λ i. min (parts i) (spare cheaper k)) c.was k cheaper.count dearer.count k-in c.was_there c.in_order
          (λ i i-in ne. omega (arith, part_no_larger k i k-in i-in))

      spare_no_smaller : spare dearer (c.was k) ≤ spare cheaper k
      unfolding spare
      spare_no_smaller = let task = c.each k k-in in omega arith

      module _ (m m' : ℕ) (cores : m ≤ m') where
        -- Its new slack is no smaller: the spare that caps the parts may be larger, then the sum smaller, then the cores more.
        pub new_no_smaller :
            new_slack m (spare dearer (c.was k)) (window_sum dearer slack (c.was k)) ≤ new_slack m' (spare cheaper k) (window_sum cheaper slack' k)
        unfolding window_sum
        new_no_smaller =
            le_trans (cap_raised parts (c.was k) dearer.count m (spare dearer (c.was k)) (spare cheaper k) spare_no_smaller)
            (le_trans (new_antitone m (spare cheaper k) _ _ sum_no_larger)
            (new_more_cores m m' (spare cheaper k) _ cores))

        -- So it may turn urgent only if it might before.
        urgent_was : may_turn_urgent cheaper slack' m' k ≡ true → may_turn_urgent dearer slack m (c.was k) ≡ true
        unfolding may_turn_urgent
        urgent_was urgent =
            let none = new_none m' (spare cheaper k) (window_sum cheaper slack' k) (leb-true _ _ urgent) in
            le-leb _ _ (none_reaches m (spare dearer (c.was k)) (window_sum dearer slack (c.was k)) (omega (arith, new_no_smaller, none)))

    pub count_no_larger : (m m' : ℕ) → m ≤ m' → count_urgent cheaper slack' m' ≤ count_urgent dearer slack m
    unfolding count_urgent
    count_no_larger m m' cores =
        sum_picked _ _ c.was cheaper.count dearer.count c.was_there c.in_order
        (λ k h. bit_monotone _ _ (urgent_was k h m m' cores))

  -- The window test: what it admits, it admits when it is cheaper.
  pub window_stays : (m m' : ℕ) → m ≤ m' → admitted dearer m ≡ true → admitted cheaper m' ≡ true
  unfolding admitted no_slack
  window_stays m m' cores yes-admitted =
      le-leb (count_urgent cheaper no_slack m') m'
      (omega (arith, count_no_larger no_slack no_slack (λ i h. le_refl _) m m' cores, admitted_few dearer m yes-admitted))
