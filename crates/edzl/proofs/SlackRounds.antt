-- The rounds of the slack test, counted on past the last change. Others cite: `round_after` and `slack_after`, the round of a number and its slacks, with
-- `slack_start`, `sum_next` and `slack_next`; `LastRound` with `last_round`, that all rounds come to the round of their number, and `made_is`; `round_one`,
-- that the sums of round 1 are the window test's; and the theorems `slacks_fit`, `slacks_cheaper`, `slacks_longer`, `few_urgent`, what an admitted set has, and
-- `window_admits`. That the slacks grow is the theorem `slacks_grow`.
use Prim.Native.Nat.{ℕ, zero, suc, ◌+◌, ◌≤◌, ◌<◌}
use mathlib.Core.Path.{◌≡◌, refl, ap, ◌∙◌}
use mathlib.Core.Bool.{Bool, true, false}
use native.Mathlib.Nat.{le_refl}
use native.Mathlib.Omega.{arith}
use lib.ListN.{length-replicate}
use borrow.Author.Tests.{le-leb, leb-true}
use Rattle.laws.proofs.Replaced.{replaced_at}
use Rattle.edzl.specs.TaskSet.{TaskSet}
use Rattle.edzl.specs.Window.{spare, no_slack, window_sum, may_turn_urgent, count_urgent, admitted}
use Rattle.edzl.specs.Cheaper.{CheaperTasks}
use Rattle.edzl.specs.Slack.{per_task, of_task, round_sums, reaches, new_slack, Rounds, no_round, next_round, rounds_from, all_rounds, count_reaching, slack_admits}
use Rattle.edzl.proofs.WellFormed.{WellFormed}
use Rattle.laws.proofs.SumLaws.{sum_same}
use Rattle.edzl.proofs.SlackLaws.{new_fits}
use Rattle.edzl.proofs.WindowLaws.{SameTask, same_task, sum_of_same, admitted_few}
use Rattle.edzl.proofs.CheaperLaws.{shorter_cheaper, new_no_smaller, count_no_larger}

-- The round of a number, made whether or not a slack changed in the one before; and its slack of each task.
unfoldable pub round_after : TaskSet → (m r : ℕ) → Rounds
round_after tasks m zero = no_round tasks
round_after tasks m (suc r) = next_round tasks m (round_after tasks m r)

unfoldable pub slack_after : TaskSet → (m r : ℕ) → ℕ → ℕ
slack_after tasks m r = of_task (round_after tasks m r).slacks

-- The entry of a task of the set.
of_listed : (tasks : TaskSet) (f : ℕ → ℕ) (k : ℕ) → k < tasks.count → of_task (per_task tasks f) k ≡ f k
unfolding of_task per_task
of_listed tasks f k h = replaced_at f _ 0 tasks.count k h (omega (arith, length-replicate {A = ℕ} tasks.count 0))

module _ (tasks : TaskSet) (m : ℕ) where
  pub slack_start : (i : ℕ) → i < tasks.count → slack_after tasks m 0 i ≡ 0
  unfolding slack_after round_after no_round
  slack_start i h = of_listed tasks (λ k. 0) i h

  -- The sum of a task in round r + 1 is that of the window test with the slacks of round r.
  pub sum_next : (r k : ℕ) → k < tasks.count → of_task (round_after tasks m (suc r)).sums k ≡ window_sum tasks (slack_after tasks m r) k
  unfolding slack_after round_after next_round round_sums
  sum_next r k h = of_listed tasks _ k h

  pub slack_next : (r i : ℕ) → i < tasks.count →
      slack_after tasks m (suc r) i ≡ new_slack m (spare tasks i) (window_sum tasks (slack_after tasks m r) i)
  unfolding slack_after round_after next_round
  slack_next r i h = of_listed tasks _ i h ∙ ap (λ (sum : ℕ). new_slack m (spare tasks i) sum) (sum_next r i h)

  -- Slacks are never above the spare.
  pub slacks_fit : (r i : ℕ) → i < tasks.count → slack_after tasks m r i ≤ spare tasks i
  slacks_fit zero i h = rw (slack_start i h) (omega arith)
  slacks_fit (suc r) i h = rw (slack_next r i h) (new_fits m (spare tasks i) _)

-- A cheaper set has slacks no smaller in each round.
module _ (dearer cheaper : TaskSet) (well : WellFormed dearer) (c : CheaperTasks dearer cheaper) (m m' : ℕ) (cores : m ≤ m') where
  -- A round keeps slacks that are no smaller.
  next_cheaper : (r r' : ℕ) →
      ((i : ℕ) → i < cheaper.count → slack_after dearer m r (c.was i) ≤ slack_after cheaper m' r' i) →
      (i : ℕ) → i < cheaper.count → slack_after dearer m (suc r) (c.was i) ≤ slack_after cheaper m' (suc r') i
  next_cheaper r r' no-smaller i h =
      rw (slack_next dearer m r (c.was i) (c.was_there i h), slack_next cheaper m' r' i h)
      (new_no_smaller dearer cheaper well c (slack_after dearer m r) (slack_after cheaper m' r') no-smaller i h m m' cores)

  pub slacks_cheaper : (r i : ℕ) → i < cheaper.count → slack_after dearer m r (c.was i) ≤ slack_after cheaper m' r i
  slacks_cheaper zero i h = rw (slack_start dearer m (c.was i) (c.was_there i h)) (omega arith)
  slacks_cheaper (suc r) i h = next_cheaper r r (slacks_cheaper r) i h

-- A longer set has slacks no larger in each round: the shorter one is cheaper.
pub slacks_longer : (shorter longer : TaskSet) →
    WellFormed longer →
    shorter.count ≤ longer.count →
    ((i : ℕ) → i < shorter.count → SameTask shorter longer i) →
    (m r i : ℕ) →
    i < shorter.count →
    slack_after longer m r i ≤ slack_after shorter m r i
unfolding shorter_cheaper
slacks_longer shorter longer well longer-is same m = slacks_cheaper longer shorter well (shorter_cheaper shorter longer longer-is same) m m (le_refl m)

module _ (tasks : TaskSet) (well : WellFormed tasks) (m : ℕ) where
  -- A set against itself.
  abbrev itself : CheaperTasks tasks tasks
  itself = shorter_cheaper tasks tasks (le_refl _) (λ i h. same_task tasks i)

  -- Slacks only grow from round to round.
  pub slacks_grow : (r i : ℕ) → i < tasks.count → slack_after tasks m r i ≤ slack_after tasks m (suc r) i
  unfolding shorter_cheaper
  slacks_grow zero i h = rw (slack_start tasks m i h) (omega arith)
  slacks_grow (suc r) i h = next_cheaper tasks tasks well itself m m (le_refl m) r (suc r) (slacks_grow r) i h

  -- No more tasks are counted with the slacks of a round than the window test counts.
  count_within : (r : ℕ) → count_urgent tasks (slack_after tasks m r) m ≤ count_urgent tasks no_slack m
  unfolding no_slack
  count_within r = count_no_larger tasks tasks well itself no_slack (slack_after tasks m r) (λ i h. omega arith) m m (le_refl m)

-- All rounds of a set come to one round, the last: the round of its number, which is at most 64.
pub record LastRound (tasks : TaskSet) (m : ℕ) : Type 0 where
  pub before : ℕ
  pub below : before < 64
  pub is : all_rounds tasks m ≡ round_after tasks m (suc before)

module _ (tasks : TaskSet) (m : ℕ) where
  pub made_is : (r : ℕ) → (round_after tasks m r).made ≡ r
  unfolding round_after no_round next_round
  made_is zero = refl
  made_is (suc r) = ap suc (made_is r)

  -- These rounds are the round of r + 1 or a later one, of at most so many more.
  unfoldable Ends : (more r : ℕ) → Rounds → Type 0
  Ends more r rounds = (r' : ℕ) × (r' ≤ r + more) × (rounds ≡ round_after tasks m (suc r'))

  later : (more r : ℕ) (rounds : Rounds) → Ends more (suc r) rounds → Ends (suc more) r rounds
  unfolding Ends
  later more r rounds (r', within, is) = (r', omega arith, is)

  ends : (more : ℕ) (ended : Bool) (r : ℕ) → Ends more r (rounds_from tasks m more ended (round_after tasks m (suc r)))
  unfolding Ends rounds_from round_after
  ends zero ended r = (r, omega arith, refl)
  ends (suc more) true r = (r, omega arith, refl)
  ends (suc more) false r = later more r _ (ends more _ (suc r))

  -- The first round is always made.
  from_none : (more : ℕ) → Ends more 0 (rounds_from tasks m (suc more) false (no_round tasks))
  unfolding rounds_from round_after
  from_none more = ends more _ 0

  all_end : Ends 63 0 (all_rounds tasks m)
  unfolding all_rounds
  all_end = from_none 63

  pub last_round : LastRound tasks m
  unfolding Ends
  last_round = let (r, within, is) = all_end in record { before = r; below = omega arith; is = is }

  -- The sums of the last round count the tasks that may turn urgent with the slacks of the round before.
  pub count_last : count_reaching tasks m (all_rounds tasks m).sums ≡ count_urgent tasks (slack_after tasks m last_round.before) m
  unfolding count_reaching count_urgent may_turn_urgent reaches
  count_last =
      rw last_round.is
      (sum_same _ _ tasks.count (λ k h. rw (sum_next tasks m last_round.before k h)))

  -- An admitted set has, with the slacks of the last round but one, at most m tasks that may turn urgent.
  pub few_urgent : slack_admits tasks m ≡ true → count_urgent tasks (slack_after tasks m last_round.before) m ≤ m
  unfolding slack_admits
  few_urgent e = omega (arith, leb-true (count_reaching tasks m (all_rounds tasks m).sums) m e, count_last)

  -- The sums of round 1 are those of the window test.
  pub round_one : (k : ℕ) → k < tasks.count → of_task (round_after tasks m 1).sums k ≡ window_sum tasks no_slack k
  unfolding no_slack
  round_one k h = sum_next tasks m 0 k h
      ∙ sum_of_same tasks tasks refl (λ i l. same_task tasks i) no_slack (slack_after tasks m 0) (λ i l. slack_start tasks m i l) m k h

-- What the window test admits, this one admits.
pub window_admits : (tasks : TaskSet) (m : ℕ) → WellFormed tasks → admitted tasks m ≡ true → slack_admits tasks m ≡ true
unfolding slack_admits
window_admits tasks m well e =
    le-leb (count_reaching tasks m (all_rounds tasks m).sums) m
    (omega (arith, count_last tasks m, count_within tasks well m (last_round tasks m).before, admitted_few tasks m e))
