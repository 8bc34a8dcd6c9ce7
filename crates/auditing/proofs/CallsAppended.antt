-- Some calls and then others: `taken_append`, whether all are taken, and `machine_append`, the machine after them.
use mathlib.Core.Path.{◌≡◌, refl}
use mathlib.Core.Bool.{◌&&◌}
use mathlib.Core.List.{List, [], ◌∷◌, ◌++◌}
use Rattle.laws.proofs.CaseSplits.{by_test}
use Rattle.tasks.specs.Outcome.{is_done}
use Rattle.machine.specs.Calls.{step}
use Rattle.machine.specs.Play.{machine_after}
use Rattle.machine.specs.declared.machine.Machine.{Machine}
use Rattle.machine.specs.declared.call.Call.{Call}
use Rattle.auditing.specs.Line.{all_taken}

pub taken_append : (m : Machine) (calls more : List Call) → all_taken m (calls ++ more) ≡ (all_taken m calls && all_taken (machine_after m calls) more)
unfolding all_taken machine_after
taken_append m [] more = refl
taken_append m (call ∷ calls) more =
    by_test (is_done (step m call).outcome) (λ e. rw e (taken_append (step m call).machine calls more)) (λ e. rw e)

pub machine_append : (m : Machine) (calls more : List Call) → machine_after m (calls ++ more) ≡ machine_after (machine_after m calls) more
unfolding machine_after
machine_append m [] more = refl
machine_append m (call ∷ calls) more = machine_append (step m call).machine calls more
