-- The rules for a slot's runners as the code tries them on a sound machine: by their number, by the last turn of a runner and the first of an idle task
-- (`last_to` and `first_to`), and by the flags past the count. Others cite `open_by_turn`, that a job is open by its turn, and `legal_by_turns`, that the
-- choice is legal exactly where these tests pass.
use Prim.Native.Nat.{ℕ, zero, suc, ◌+◌, ◌-◌, min, ◌≤◌, ◌<◌}
use native.Mathlib.Omega.{arith}
use mathlib.Core.Path.{◌≡◌, refl, sym, ◌∙◌}
use mathlib.Core.Bool.{Bool, true, false, not, ◌&&◌}
use mathlib.Core.List.{List}
use borrow.Author.Tests.{eqb-true, eq-eqb, ne_eqb, false-eqb, ltb-false, lt-ltb, le-ltb, leb-true, le-leb, not-true}
use lib.Dec.{eqb, leb, ltb}
use lib.ListN.{get_or}
use Rattle.laws.proofs.CaseSplits.{by_equal, by_order, by_test, not_both}
use Rattle.laws.proofs.Booleans.{and_left, and_right, both_ways}
use Rattle.tasks.specs.Limits.{max_tasks}
use Rattle.job.specs.Precedence.{job_beats}
use Rattle.machine.specs.Machine.{job_at}
use Rattle.machine.specs.Pick.{open_count}
use Rattle.machine.specs.Slot.{ran_count}
use Rattle.machine.specs.Sound.{sound}
use Rattle.machine.specs.declared.machine.Machine.{Machine}
use Rattle.machine.proofs.SoundLaws.{sound_passes, sound_small}
use Rattle.auditing.specs.Line.{legal_run}
use Rattle.auditing.specs.Turn.{later, never, turn, last_to, first_to, turns_to, in_order, none_from, none_past}
use Rattle.auditing.proofs.TurnLaws.{turn_closed, open_turn, turn_beats}
use Rattle.auditing.proofs.AllowedRun.{Legal, legal_means, legal_run_lem}

module _ (m : Machine) (ran : List Bool) where
  last_least : (b n : ℕ) → ((i : ℕ) → i < n → get_or ran i false ≡ true → turn (job_at m i) ≤ b) → last_to m ran n ≤ b
  unfolding last_to
  last_least b zero each = omega arith
  last_least b (suc n) each =
      let before = last_least b n (λ i h. each i (omega arith)) in
      by_test (get_or ran n false) (λ r. rw r (omega (arith, each n (omega arith) r))) (λ r. rw r before)

  last_bounds : (n i : ℕ) → i < n → get_or ran i false ≡ true → turn (job_at m i) ≤ last_to m ran n
  unfolding last_to
  last_bounds zero i h r = absurd (omega arith)
  last_bounds (suc n) i h r =
      by_equal i n
      (λ s. rw (s, rw s at r) (omega arith))
      (λ ne.
      let before = last_bounds n i (omega arith) r in
      by_test (get_or ran n false) (λ e. rw e (omega arith)) (λ e. rw e before))

  first_greatest : (b n : ℕ) → b ≤ never → ((i : ℕ) → i < n → get_or ran i false ≡ false → b ≤ turn (job_at m i)) → b ≤ first_to m ran n
  unfolding first_to
  first_greatest b zero small each = small
  first_greatest b (suc n) small each =
      let before = first_greatest b n small (λ i h. each i (omega arith)) in
      by_test (get_or ran n false) (λ r. rw r before) (λ r. rw r (omega (arith, each n (omega arith) r)))

  first_bounds : (n i : ℕ) → i < n → get_or ran i false ≡ false → first_to m ran n ≤ turn (job_at m i)
  unfolding first_to
  first_bounds zero i h r = absurd (omega arith)
  first_bounds (suc n) i h r =
      by_equal i n
      (λ s. rw (s, rw s at r) (omega arith))
      (λ ne.
      let before = first_bounds n i (omega arith) r in
      by_test (get_or ran n false) (λ e. rw e before) (λ e. rw e (omega arith)))

-- the flags from an index on
none_from_means : (ran : List Bool) (n i : ℕ) → none_from ran i n ≡ true → (k : ℕ) → i ≤ k → k < i + n → get_or ran k false ≡ false
unfolding none_from
none_from_means ran zero i e k low high = absurd (omega arith)
none_from_means ran (suc n) i e k low high =
    by_equal k i
    (λ s. rw s (not-true _ (and_left (not (get_or ran i false)) _ e)))
    (λ ne. none_from_means ran n (suc i) (and_right (not (get_or ran i false)) _ e) k (omega arith) (omega arith))

none_from_all : (ran : List Bool) (n i : ℕ) → ((k : ℕ) → i ≤ k → k < i + n → get_or ran k false ≡ false) → none_from ran i n ≡ true
unfolding none_from
none_from_all ran zero i each = refl
none_from_all ran (suc n) i each = rw (each i (omega arith) (omega arith)) (none_from_all ran n (suc i) (λ k low high. each k (omega arith) (omega arith)))

module _ (m : Machine) (ok : sound m ≡ true) where
  turn_small : (i : ℕ) → i < m.table.count → (job_at m i).«open» ≡ true → (job_at m i).left < later
  turn_small i h o = omega (arith, (sound_small m ok i h o).left_small)

  pub open_by_turn : (i : ℕ) → i < m.table.count → (job_at m i).«open» ≡ ltb (turn (job_at m i)) never
  open_by_turn i h =
      by_test (job_at m i).«open»
      (λ o. o ∙ sym (lt-ltb (turn (job_at m i)) never (open_turn (job_at m i) o (turn_small i h o))))
      (λ c. c ∙ sym (le-ltb (turn (job_at m i)) never (omega (arith, turn_closed (job_at m i) c))))

  turn_most : (i : ℕ) → i < m.table.count → turn (job_at m i) ≤ never
  turn_most i h =
      by_test (job_at m i).«open»
      (λ o. omega (arith, open_turn (job_at m i) o (turn_small i h o)))
      (λ c. omega (arith, turn_closed (job_at m i) c))

module _ (m : Machine) (ran : List Bool) (ok : sound m ≡ true) where
  abbrev n : ℕ
  n = m.table.count

  fits : n ≤ max_tasks
  fits = (sound_passes m ok).count_fits

  -- who has not the turn of a closed job is open
  is_open : (i : ℕ) → turn (job_at m i) < never → (job_at m i).«open» ≡ true
  is_open i h = by_test (job_at m i).«open» (λ o. o) (λ c. absurd (omega (arith, turn_closed (job_at m i) c)))

  beats_by_turn :
      (x y : ℕ) → x < n → y < n → (job_at m x).«open» ≡ true → (job_at m y).«open» ≡ true
      → job_beats (job_at m x) (job_at m y) ≡ ltb (turn (job_at m x)) (turn (job_at m y))
  beats_by_turn x y hx hy ox oy = turn_beats (job_at m x) (job_at m y) ox oy (turn_small m ok x hx ox) (turn_small m ok y hy oy)

  module _ (legal : Legal m ran) where
    all_early : last_to m ran n < never
    all_early =
        let most = last_least m ran (never - 1) n
        (λ i h r.
        let o = legal.opened i (omega (arith, fits)) r in
        omega (arith, open_turn (job_at m i) o (turn_small m ok i h o))) in
        omega arith

    turn_before : (y : ℕ) → y < n → get_or ran y false ≡ true → (x : ℕ) → x < n → get_or ran x false ≡ false → turn (job_at m y) ≤ turn (job_at m x)
    turn_before y hy r x hx idle =
        let oy = legal.opened y (omega (arith, fits)) r in
        by_test (job_at m x).«open»
        (λ ox. ltb-false (turn (job_at m x)) (turn (job_at m y)) (sym (beats_by_turn x y hx hy ox oy) ∙ legal.not_beaten x y hx hy ox idle r))
        (λ cx. omega (arith, turn_closed (job_at m x) cx, turn_most m ok y hy))

    in_order_lem : last_to m ran n ≤ first_to m ran n
    in_order_lem =
        last_least m ran (first_to m ran n) n
        (λ y hy r. first_greatest m ran (turn (job_at m y)) n (turn_most m ok y hy) (λ x hx idle. turn_before y hy r x hx idle))

    none_past_lem : none_past ran n ≡ true
    unfolding none_past
    none_past_lem =
        none_from_all ran (max_tasks - n) n
        (λ k low high.
        by_test (get_or ran k false)
        (λ r. absurd (omega (arith, legal.inside k (omega (arith, fits)) r)))
        (λ idle. idle))

  module _
      (number : ran_count m ran ≡ min m.cores (open_count m))
      (early : last_to m ran n < never)
      (order : last_to m ran n ≤ first_to m ran n)
      (none : none_past ran n ≡ true)
    where
      ran_inside : (i : ℕ) → i < max_tasks → get_or ran i false ≡ true → i < n
      unfolding none_past
      ran_inside i h r =
          by_order n i
          (λ past. not_both (get_or ran i false) r (none_from_means ran (max_tasks - n) n none i past (omega arith)))
          (λ inside. inside)

      ran_opened : (i : ℕ) → i < max_tasks → get_or ran i false ≡ true → (job_at m i).«open» ≡ true
      ran_opened i h r = is_open i (omega (arith, last_bounds m ran n i (ran_inside i h r) r))

      by_turns : Legal m ran
      by_turns =
          record {
            inside = ran_inside;
            opened = ran_opened;
            number = number;
            not_beaten = λ x y hx hy ox idle r.
                beats_by_turn x y hx hy ox (ran_opened y (omega (arith, fits)) r)
                ∙ le-ltb (turn (job_at m x)) (turn (job_at m y)) (omega (arith, last_bounds m ran n y hy r, first_bounds m ran n x hx idle));
          }

  -- the rules are the tests of the code
  pub legal_by_turns : legal_run m ran ≡ (in_order (turns_to m ran n) m.cores && none_past ran n)
  unfolding in_order turns_to ran_count open_count
  legal_by_turns =
      let count = ran_count m ran in
      let wanted = min m.cores (open_count m) in
      let last = last_to m ran n in
      let first = first_to m ran n in
      both_ways (legal_run m ran) (eqb count wanted && not (eqb last never) && leb last first && none_past ran n)
      (λ e.
      let legal = legal_means m ran e in
      let early = all_early legal in
      rw (eq-eqb count wanted legal.number, ne_eqb last never (λ h. omega arith), le-leb last first (in_order_lem legal)) (none_past_lem legal))
      (λ e.
      let tests = and_left (eqb count wanted && not (eqb last never) && leb last first) _ e in
      let number_and_last = and_left (eqb count wanted && not (eqb last never)) _ tests in
      let most = last_least m ran never n (λ i h r. turn_most m ok i h) in
      let early = false-eqb last never (sym (not-true (eqb last never) (and_right (eqb count wanted) _ number_and_last))) in
      legal_run_lem m ran
      (by_turns
      (eqb-true count wanted (and_left (eqb count wanted) _ number_and_last))
      (omega arith)
      (leb-true last first (and_right (eqb count wanted && not (eqb last never)) _ tests))
      (and_right (eqb count wanted && not (eqb last never) && leb last first) _ e)))
