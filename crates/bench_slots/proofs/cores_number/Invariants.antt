-- Each core is below 2^32, so a running sum of at most 32 of them is below 2^37.
use Rattle.std.proofs.Common.{◌*◌, ◌^◌, ◌≤◌}
use Rattle.bench_slots.proofs.cores_number.Given as goal

abbrev pub invariant-loop-core : goal.invariant-loop-core
invariant-loop-core l = (l.running ≤ l.core-index * 2 ^ 32) × (l.number ≤ l.core-index * 2 ^ 37)
