-- The invariant: the calls that are left settle the answer.
use Rattle.std.proofs.Common.{◌≡◌, ℕ, drop}
use Rattle.machine.specs.declared.call.Call.{Call}
use Rattle.auditing.specs.Line.{calls_from}
use Rattle.auditing.specs.Parts.{Makes, after_calls}
use Rattle.auditing.proofs.judging.take_calls.Given as goal

abbrev pub invariant-loop-i : goal.invariant-loop-i
invariant-loop-i g l =
    (made : ℕ → Call) → Makes (goal.F-post g l.fn.call) made
    → after_calls l.fn.machine (calls_from made 0 l.named-items) ≡ after_calls l.machine (calls_from made l.i (drop l.i l.named-items))
