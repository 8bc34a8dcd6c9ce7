-- The cases a to k of document 01 all hold: antt computes every entry of the list.
use mathlib.Core.Path.{◌≡◌, refl}
use mathlib.Core.Bool.{true}
use Rattle.conformance.specs.Cases.{cases, all_hold}
use Rattle.conformance.proofs.Computing.{computing_runs}

pub cases_hold : all_hold cases ≡ true
unfolding computing_runs cases all_hold
cases_hold = refl
