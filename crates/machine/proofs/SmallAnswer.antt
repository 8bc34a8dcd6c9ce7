-- How large the numbers of every answer are: `small_answer`. A refusal's number has at most two digits; a report has 32 flags of each kind, at most 16 tasks
-- ran, and each core is at most 16. So the line of an answer has few bytes (crate script).
use Rattle.std.proofs.Common.{Err}
use Rattle.tasks.specs.declared.refusals.Refusal.{Refusal}
use Rattle.tasks.specs.Refusals.{number_of}
use Rattle.machine.specs.declared.answer.Answer.{Answer}
use Prim.Native.Nat.{ℕ, ◌≤◌, ◌<◌}
use mathlib.Core.Path.{◌≡◌, refl, ◌∙◌}
use mathlib.Core.Bool.{false}
use native.Mathlib.Omega.{arith}
use lib.ListN.{length, get_or, length-replicate}
use Rattle.laws.proofs.CaseSplits.{clash}
use Rattle.laws.proofs.Replaced.{replicate_entry, length_replaced}
use Rattle.laws.specs.Sums.{sum_to, bit}
use Rattle.laws.proofs.SumLaws.{sum_bound, bit_false}
use Rattle.tasks.specs.Limits.{max_tasks, max_cores}
use Rattle.machine.specs.Slot.{ran_count, no_report, slot_report}
use Rattle.machine.specs.Calls.{step}
use Rattle.machine.specs.declared.machine.Machine.{Machine}
use Rattle.machine.specs.declared.call.Call.{Call}
use Rattle.machine.specs.declared.answer.Report.{Report}
use Rattle.machine.proofs.CallKinds.{by_kind}

pub record SmallReport (r : Report) : Type 0 where
  pub all_ran : length r.ran ≡ max_tasks
  pub all_finished : length r.finished ≡ max_tasks
  pub all_late : length r.late ≡ max_tasks
  pub few_runners : r.runners ≤ max_cores
  pub few_ran : (n : ℕ) → sum_to n (λ i. bit (get_or r.ran i false)) ≤ max_cores
  pub small_cores : (i : ℕ) → get_or r.assigned i 0 ≤ max_cores

-- an answer with a small report, and a small number where it is a refusal
pub record SmallAnswer (a : Answer) : Type 0 where
  pub number : (why : Refusal) → a.outcome ≡ Err why → number_of why.reason < 100
  pub report : SmallReport a.report

none_small : SmallReport no_report
unfolding no_report
none_small =
    record {
      all_ran = refl;
      all_finished = refl;
      all_late = refl;
      few_runners = omega arith;
      few_ran = λ n.
          omega (arith, sum_bound (λ i. bit (get_or no_report.ran i false)) 0 n (λ i h. omega (arith, bit_false _ (replicate_entry max_tasks i false))));
      small_cores = λ i. omega (arith, replicate_entry {A = ℕ} max_tasks i 0);
    }

pub small_answer : (m : Machine) (call : Call) → SmallAnswer (step m call)
unfolding slot_report ran_count
small_answer m =
    by_kind m (λ call answer. SmallAnswer answer)
    (λ call why told. record { number = λ other e. let same : why ≡ other = cc in rw (← same) told.small; report = none_small })
    (λ call m' silent. record { number = λ why e. clash cc; report = none_small })
    (λ k ran assigned taken.
    let placed = taken.placed in
    record {
      number = λ why e. clash cc;
      report =
          record {
            all_ran = placed.all_tasks;
            all_finished = length_replaced _ _ _ ∙ length-replicate max_tasks false;
            all_late = length_replaced _ _ _ ∙ length-replicate max_tasks false;
            few_runners = omega (arith, placed.few m.table.count, taken.few_cores);
            few_ran = λ n. omega (arith, placed.few n, taken.few_cores);
            small_cores = λ i. omega (arith, placed.within i, taken.few_cores);
          };
    })
