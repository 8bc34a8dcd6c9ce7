-- The task of some fields, by whether they are one: `by_fields`. Others cite `task_bad`, of fields that are none; `TaskRead` with `task_read`, of those that
-- are; and `task_short`, that these have at most 32 bytes, `task_length`.
use Prim.Native.Nat.{ℕ, ◌+◌, ◌-◌, ◌*◌, ◌≤◌}
use native.Mathlib.Omega.{arith}
use mathlib.Core.Path.{◌≡◌, refl}
use mathlib.Core.Bool.{true, false}
use mathlib.Core.List.{List}
use Rattle.std.specs.Prelude.{Option, Some, None}
use lib.ListN.{length}
use Rattle.laws.proofs.CaseSplits.{by_cond, clash}
use Rattle.text.specs.Fields.{are_numbers}
use Rattle.text.proofs.Lengths.{numbers_short}
use Rattle.tasks.specs.declared.task.Task.{Task}
use Rattle.script.specs.Numbers.{max_digits, max_number}
use Rattle.script.specs.Calls.{fields_task, task_fields}

pub by_fields : {A : Type 0} (r : Option Task) → ((t : Task) → r ≡ Some t → A) → (r ≡ None → A) → A
by_fields (Some t) f g = f t refl
by_fields None f g = g refl

-- the most bytes of three numbers with two spaces between them
abbrev pub task_length : ℕ
task_length = 3 * (max_digits + 1) - 1

module _ (f : List ℕ) where
  pub task_bad : task_fields f ≡ None → are_numbers max_digits max_number 3 f ≡ false
  unfolding task_fields
  task_bad = by_cond (λ r. r ≡ None → are_numbers max_digits max_number 3 f ≡ false) (are_numbers max_digits max_number 3 f) (λ n e. clash cc) (λ n e. n)

  pub record TaskRead (t : Task) : Type 0 where
    pub numbers : are_numbers max_digits max_number 3 f ≡ true
    pub task_is : fields_task f ≡ t

  pub task_read : (t : Task) → task_fields f ≡ Some t → TaskRead t
  unfolding task_fields
  task_read t =
      by_cond (λ r. r ≡ Some t → TaskRead t) (are_numbers max_digits max_number 3 f) (λ n e. record { numbers = n; task_is = cc }) (λ n e. clash cc)

  pub task_short : (t : Task) → task_fields f ≡ Some t → length f ≤ task_length
  task_short t e = omega (arith, numbers_short max_digits max_number 3 f (task_read t e).numbers)
