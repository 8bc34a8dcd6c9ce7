-- The numbers of a report's line, as the code lists them. Others cite `Listing`, the state between two tasks, with `list_none`, `list_runner` and
-- `list_other`, and `list_all`.
use Prim.Native.Nat.{ℕ, ◌+◌, ◌≤◌, ◌<◌}
use native.Mathlib.Numerals.{add-one}
use native.Mathlib.Omega.{arith}
use mathlib.Core.Path.{◌≡◌, refl, sym, ◌∙◌}
use mathlib.Core.Bool.{Bool, true, false}
use mathlib.Core.List.{List, [], ◌∷◌, ◌++◌, append-nil, append_assoc}
use lib.ListN.{length, get_or, set, take, length-set}
use lib.Seq.{take-suc-set}
use Rattle.laws.proofs.CaseSplits.{clash}
use Rattle.tasks.specs.Limits.{max_tasks}
use Rattle.tasks.specs.Flags.{mask}
use Rattle.machine.specs.declared.answer.Report.{Report}
use Rattle.script.specs.Output.{runner_cores, report_line, ListsReport}

-- between two tasks: the array's first n numbers are the first four of another and the cores of the runners among the first i tasks
pub record Listing (first : List ℕ) (ran : List Bool) (assigned a : List ℕ) (n i : ℕ) : Type 0 where
  pub within : i ≤ max_tasks
  pub few : n ≤ 4 + i
  pub size : length a ≡ 4 + max_tasks
  pub listed : take n a ≡ take 4 first ++ runner_cores ran assigned i

module _ (first : List ℕ) (ran : List Bool) (assigned : List ℕ) where
  pub list_none : length first ≡ 4 + max_tasks → Listing first ran assigned first 4 0
  unfolding runner_cores
  list_none e = record { within = omega arith; few = omega arith; size = e; listed = sym (append-nil (take 4 first)) }

  module _ (a : List ℕ) (n i : ℕ) (p : Listing first ran assigned a n i) (h : i < max_tasks) where
    pub list_runner : get_or ran i false ≡ true → Listing first ran assigned (set a n (get_or assigned i 0)) (n + 1) (i + 1)
    unfolding runner_cores
    list_runner e =
        let core = get_or assigned i 0 in
        record {
          within = omega arith;
          few = omega (arith, p.few);
          size = length-set a n core ∙ p.size;
          listed =
              rw (add-one n, add-one i, e)
              (take-suc-set a n core (omega (arith, p.few, p.size)) ∙ rw p.listed (append_assoc (take 4 first) (runner_cores ran assigned i) (core ∷ [])));
        }

    pub list_other : get_or ran i false ≡ false → Listing first ran assigned a n (i + 1)
    unfolding runner_cores
    list_other e =
        record { within = omega arith; few = omega (arith, p.few); size = p.size; listed = rw (add-one i, e, append-nil) p.listed }

-- what was stored in an array's first four places
four_first : (a : List ℕ) (x y z w : ℕ) → length a ≡ 4 + max_tasks → take 4 (set (set (set (set a 0 x) 1 y) 2 z) 3 w) ≡ x ∷ y ∷ z ∷ w ∷ []
four_first (o ∷ p ∷ q ∷ r ∷ a) x y z w e = refl
four_first [] x y z w e = clash cc
four_first (o ∷ []) x y z w e = clash cc
four_first (o ∷ p ∷ []) x y z w e = clash cc
four_first (o ∷ p ∷ q ∷ []) x y z w e = clash cc

pub list_all :
    (r : Report) (first a : List ℕ) (ran finished late n i : ℕ) → length first ≡ 4 + max_tasks → ran ≡ mask r.ran
    → finished ≡ mask r.finished → late ≡ mask r.late
    → Listing (set (set (set (set first 0 ran) 1 finished) 2 late) 3 r.runners) r.ran r.assigned a n i → max_tasks ≤ i → ListsReport r a n
unfolding report_line
list_all r first a ran finished late n i size x y z p h =
    let e : i ≡ max_tasks = omega (arith, p.within) in
    record { within = omega (arith, p.few, e); line = rw (p.listed, four_first first ran finished late r.runners size, e, x, y, z) }
