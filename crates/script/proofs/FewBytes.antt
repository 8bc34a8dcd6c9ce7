-- The line of an answer of the machine has at most 92 bytes, `few_bytes`: at most 16 tasks ran, each on a core of at most two digits.
use Prim.Native.Nat.{ℕ, zero, suc, ◌+◌, ◌*◌, ◌^◌, ◌≤◌, ◌<◌}
use native.Mathlib.Omega.{arith}
use mathlib.Core.Path.{◌≡◌}
use mathlib.Core.Bool.{Bool, false}
use mathlib.Core.List.{List, [], ◌∷◌, ◌++◌}
use lib.ListN.{length, get_or, length-append}
use Rattle.laws.proofs.CaseSplits.{by_test}
use Rattle.laws.specs.Sums.{sum_to, bit}
use Rattle.text.specs.Number.{decimal_text}
use Rattle.text.specs.Output.{further_numbers, numbers_line}
use Rattle.text.proofs.DigitLaws.{text_few}
use Rattle.tasks.specs.Limits.{max_tasks, max_cores}
use Rattle.tasks.specs.Refusals.{number_of}
use Rattle.tasks.proofs.OutcomeLaws.{by_outcome}
use Rattle.machine.specs.Calls.{step}
use Rattle.tasks.specs.Flags.{mask}
use Rattle.machine.specs.declared.machine.Machine.{Machine}
use Rattle.machine.specs.declared.call.Call.{Call}
use Rattle.machine.specs.declared.call.Call.TheVariants.{Release, Finish, Slot, Offer, Commit}
use Rattle.machine.specs.declared.answer.Report.{Report}
use Rattle.tasks.proofs.MaskLaws.{mask_below}
use Rattle.machine.proofs.SmallAnswer.{SmallReport, small_answer}
use Rattle.script.specs.Output.{runner_cores, report_line, accepted_line, outcome_line, answer_line, answer_room}
use Rattle.script.proofs.OutputLaws.{refused_few}

-- the numbers of a line in two parts
further_append : (a b : List ℕ) → length (further_numbers (a ++ b)) + 1 ≡ length (further_numbers a) + length (further_numbers b)
unfolding further_numbers
further_append [] b = omega arith
further_append (x ∷ a) b = simp length-append (omega (arith, further_append a b))

-- a runner's core has at most two digits
core_few : (core : ℕ) → core ≤ max_cores → length (further_numbers (core ∷ [])) ≤ 4
unfolding further_numbers
core_few core h = simp length-append (omega (arith, text_few 1 core (omega arith)))

module _ (r : Report) (small : SmallReport r) where
  cores_few : (n : ℕ) → length (further_numbers (runner_cores r.ran r.assigned n)) ≤ 3 * sum_to n (λ i. bit (get_or r.ran i false)) + 1
  unfolding runner_cores further_numbers sum_to bit
  cores_few zero = omega arith
  cores_few (suc n) =
      let before = cores_few n in
      let listed = runner_cores r.ran r.assigned n in
      let core = get_or r.assigned n 0 in
      by_test (get_or r.ran n false)
      (λ e. rw e (omega (arith, further_append listed (core ∷ []), core_few core (small.small_cores n))))
      (λ e. rw e (omega (arith, further_append listed [])))

-- a mask of 32 tasks has 32 bits, and so at most ten digits
mask_few : (named : List Bool) → length named ≡ max_tasks → length (decimal_text (mask named)) ≤ 10
mask_few named l = let h : mask named < 2 ^ 32 = rw l at (mask_below named) in text_few 9 (mask named) (omega arith)

report_few : (r : Report) → SmallReport r → length (report_line r) ≤ answer_room
unfolding report_line numbers_line further_numbers
report_few r small =
    simp length-append
    (omega (
      arith,
      mask_few r.ran small.all_ran,
      mask_few r.finished small.all_finished,
      mask_few r.late small.all_late,
      text_few 9 r.runners (omega (arith, small.few_runners)),
      cores_few r small max_tasks,
      small.few_ran max_tasks,
    ))

-- the line of an accepted call: `DONE`, or the report
accepted_few : (call : Call) (r : Report) → SmallReport r → length (accepted_line call r) ≤ answer_room
unfolding accepted_line
accepted_few (Release i e) r small = omega arith
accepted_few (Finish i) r small = omega arith
accepted_few (Slot k) r small = report_few r small
accepted_few (Offer t) r small = omega arith
accepted_few Commit r small = omega arith

pub few_bytes : (m : Machine) (call : Call) → length (answer_line call (step m call)) ≤ answer_room
unfolding answer_line outcome_line
few_bytes m call =
    let small = small_answer m call in
    by_outcome (step m call).outcome
    (λ e. rw e (accepted_few call (step m call).report small.report))
    (λ why e. rw e (omega (arith, refused_few (number_of why.reason) (omega (arith, small.number why e)))))
