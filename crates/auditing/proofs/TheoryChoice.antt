-- The rules of a log for a slot's runners, and a legal choice of the theory, on one machine. Others cite: `legal_running`, that runners that the rules allow
-- on a sound machine are a legal choice; and `choice_allowed`, that the rules allow a legal choice of no more runners than there are cores.
use Prim.Native.Nat.{ℕ, min, ◌≤◌, ◌<◌}
use native.Mathlib.Omega.{arith}
use mathlib.Core.Path.{◌≡◌, refl}
use mathlib.Core.Bool.{Bool, true, false}
use mathlib.Core.List.{List}
use mathlib.Core.Logic.{inl, inr, ⊎_elim}
use lib.Dec.{leb, ltb}
use lib.ListN.{get_or}
use borrow.Author.Tests.{lt-ltb, ltb-true, le-leb, lt-leb, leb-true, leb-false}
use Rattle.laws.specs.Sums.{bit}
use Rattle.laws.proofs.CaseSplits.{by_order, by_test, not_both}
use Rattle.laws.proofs.SumLaws.{sum_monotone, bit_monotone}
use Rattle.edzl.proofs.Choice.{Beats, more_urgent, both_urgent, neither_urgent, LegalChoice}
use Rattle.job.specs.declared.job.Job.{Job}
use Rattle.job.specs.Job.{is_urgent}
use Rattle.job.specs.Precedence.{by_urgency, job_beats}
use Rattle.machine.specs.Machine.{job_at}
use Rattle.machine.specs.Pick.{open_count}
use Rattle.machine.specs.Slot.{ran_count}
use Rattle.machine.specs.Sound.{sound}
use Rattle.machine.specs.declared.machine.Machine.{Machine}
use Rattle.machine.proofs.State.{jobs_of}
use Rattle.machine.proofs.SoundLaws.{sound_passes}
use Rattle.machine.proofs.SlotStep.{LegalSlot}
use Rattle.machine.proofs.RunnersLegal.{all_ran}
use Rattle.auditing.proofs.AllowedRun.{Legal}

-- of two open tasks one beats the other by the rule of a log where it does in the theory's sense
module _ (m : Machine) (x y : ℕ) (open-x : (job_at m x).«open» ≡ true) (open-y : (job_at m y).«open» ≡ true) where
  beats_by_rule : Beats (jobs_of m) x y → job_beats (job_at m x) (job_at m y) ≡ true
  unfolding jobs_of is_urgent job_beats by_urgency
  beats_by_rule (more_urgent u c) = rw (open-x, le-leb _ _ u, open-y, lt-leb _ _ c)
  beats_by_rule (both_urgent u v l) = rw (open-x, le-leb _ _ u, open-y, le-leb _ _ v) (lt-ltb _ _ l)
  beats_by_rule (neither_urgent c d l) = rw (open-x, lt-leb _ _ c, open-y, lt-leb _ _ d) (lt-ltb _ _ l)

  abbrev urgent : Job → Bool
  urgent j = leb j.left j.budget

  by_numbers : by_urgency (urgent (job_at m x)) (urgent (job_at m y)) (ltb (job_at m x).left (job_at m y).left) ≡ true → Beats (jobs_of m) x y
  unfolding by_urgency jobs_of
  by_numbers e =
      by_test (urgent (job_at m x))
      (λ p.
      by_test (urgent (job_at m y))
      (λ q. both_urgent (leb-true _ _ p) (leb-true _ _ q) (ltb-true _ _ (rw (p, q) at e)))
      (λ q. more_urgent (leb-true _ _ p) (leb-false _ _ q)))
      (λ p.
      by_test (urgent (job_at m y))
      (λ q. not_both false (rw (p, q) at e) refl)
      (λ q. neither_urgent (leb-false _ _ p) (leb-false _ _ q) (ltb-true _ _ (rw (p, q) at e))))

  beats_in_theory : job_beats (job_at m x) (job_at m y) ≡ true → Beats (jobs_of m) x y
  unfolding job_beats is_urgent
  beats_in_theory e = by_numbers (rw (open-x, open-y) at e)

-- runners that the rules allow
module _ (m : Machine) (ran : List Bool) (legal : Legal m ran) (ok : sound m ≡ true) where
  inside_open : (i : ℕ) → i < m.table.count → get_or ran i false ≡ true → (job_at m i).«open» ≡ true
  inside_open i h = legal.opened i (omega (arith, (sound_passes m ok).count_fits))

  choice_of : LegalChoice m.table.count m.cores (λ i. get_or ran i false) (jobs_of m)
  unfolding jobs_of ran_count
  choice_of =
      record {
        runner_open = inside_open;
        enough =
            by_order m.cores (open_count m)
            (λ h. inl (omega (arith, legal.number)))
            (λ h. inr (all_ran m ran inside_open (omega (arith, legal.number))));
        none_beaten_lem = λ x y x-in y-in open-x idle runs beats.
            not_both (job_beats (job_at m x) (job_at m y))
            (beats_by_rule m x y open-x (inside_open y y-in runs) beats)
            (legal.not_beaten x y x-in y-in open-x idle runs);
      }

  pub legal_running : LegalSlot m ran
  legal_running = record { is_sound = ok; choice = choice_of }

-- a legal choice, of no more runners than there are cores
module _
    (m : Machine)
    (ran : List Bool)
    (choice : LegalChoice m.table.count m.cores (λ i. get_or ran i false) (jobs_of m))
    (few : ran_count m ran ≤ m.cores)
    (inside : (i : ℕ) → get_or ran i false ≡ true → i < m.table.count)
  where
    is_open : (i : ℕ) → get_or ran i false ≡ true → (job_at m i).«open» ≡ true
    unfolding jobs_of
    is_open i e = choice.runner_open i (inside i e) e

    -- as many as there are cores, or as are open where those are fewer
    number_is : ran_count m ran ≡ min m.cores (open_count m)
    unfolding jobs_of ran_count open_count
    number_is =
        let runs : ℕ → ℕ = λ i. bit (get_or ran i false) in
        let opens : ℕ → ℕ = λ i. bit (job_at m i).«open» in
        let no_more = sum_monotone runs opens m.table.count (λ i h. bit_monotone (get_or ran i false) (job_at m i).«open» (is_open i)) in
        ⊎_elim
        (λ enough. omega arith)
        (λ all.
        let no_fewer = sum_monotone opens runs m.table.count (λ i h. bit_monotone (job_at m i).«open» (get_or ran i false) (all i h)) in
        omega arith)
        choice.enough

    pub choice_allowed : Legal m ran
    unfolding jobs_of
    choice_allowed =
        record {
          inside = λ i h. inside i;
          opened = λ i h. is_open i;
          number = number_is;
          not_beaten = λ x y hx hy o idle runs.
              by_test (job_beats (job_at m x) (job_at m y))
              (λ e. absurd (choice.none_beaten_lem x y hx hy o idle runs (beats_in_theory m x y o (is_open y runs) e)))
              (λ e. e);
        }
