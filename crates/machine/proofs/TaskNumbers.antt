-- The number of a task of a sound machine: `KnownTask`, and `known_task`. Its index is within the table and the arrays; for code, `number_some` and
-- `index_fits` say so too.
use Prim.Native.Nat.{ℕ, ◌-◌, ◌≤◌, ◌<◌}
use native.Mathlib.Omega.{arith}
use mathlib.Core.Path.{◌≡◌}
use mathlib.Core.Bool.{true}
use lib.Dec.{leb}
use borrow.Author.Tests.{leb-true}
use Rattle.laws.proofs.Booleans.{and_left, and_right}
use Rattle.machine.specs.Sound.{sound}
use Rattle.machine.specs.Machine.{in_table}
use Rattle.machine.specs.declared.machine.Machine.{Machine}
use Rattle.machine.proofs.SoundLaws.{sound_passes}

pub record KnownTask (m : Machine) (number : ℕ) : Type 0 where
  pub is_sound : sound m ≡ true
  pub in_table_lem : in_table m number ≡ true
  pub some : 1 ≤ number
  pub inside : number - 1 < m.table.count
  pub index : number - 1 < 32

pub known_task : (m : Machine) (number : ℕ) → sound m ≡ true → in_table m number ≡ true → KnownTask m number
unfolding in_table
known_task m number is_sound in_table_lem =
    let some = leb-true 1 number (and_left _ _ in_table_lem) in
    let fits = leb-true number m.table.count (and_right (leb 1 number) _ in_table_lem) in
    record {
      is_sound = is_sound;
      in_table_lem = in_table_lem;
      some = some;
      inside = omega arith;
      index = omega (arith, (sound_passes m is_sound).count_fits);
    }

pub number_some : (m : Machine) (number : ℕ) → sound m ≡ true → in_table m number ≡ true → 1 ≤ number
number_some m number is_sound in_table_lem = (known_task m number is_sound in_table_lem).some

pub index_fits : (m : Machine) (number : ℕ) → sound m ≡ true → in_table m number ≡ true → number - 1 < 32
index_fits m number is_sound in_table_lem = (known_task m number is_sound in_table_lem).index
