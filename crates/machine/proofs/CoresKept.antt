-- The recorded cores stay sound: at a start (`fresh_cores`), after an accepted slot (`slot_cores`), after one that records none (`no_cores_lem`) and after an
-- accepted commit (`join_cores`).
use Prim.Native.Nat.{ℕ, ◌+◌, ◌≤◌, ◌<◌}
use mathlib.Core.Path.{◌≡◌, sym, ◌∙◌}
use mathlib.Core.Bool.{Bool, true}
use mathlib.Core.List.{List}
use native.Mathlib.Omega.{arith}
use lib.ListN.{length, get_or, set, take, replicate, length-set, length-take}
use lib.Seq.{get_or-take, get_or-set_same, get_or-set_other}
use Rattle.laws.specs.Lists.{replaced}
use Rattle.laws.proofs.CaseSplits.{by_order, by_equal}
use Rattle.laws.proofs.Replaced.{replicate_entry, length_replaced, replaced_at}
use Rattle.tasks.specs.Limits.{max_cores}
use Rattle.cores.specs.Record.{cores_sound}
use Rattle.cores.proofs.AmongLaws.{some_inside}
use Rattle.cores.proofs.RecordLaws.{Apart, sound_apart, apart_sound, apart_same}
use Rattle.machine.proofs.RunnersPlaced.{Placed}

-- an entry that is not 0 is one of the first n, and of the list
inside_both : (n : ℕ) (l : List ℕ) (i : ℕ) → 1 ≤ get_or (take n l) i 0 → (i < n) × (i < length l)
inside_both n l i some =
    let h = some_inside (take n l) i some in
    (omega (arith, length-take n l), omega (arith, length-take n l))

-- what is not 0 would stand in a list of zeros
none_there : (n c i : ℕ) → 1 ≤ get_or (take n (replicate c 0)) i 0 → ⊥
none_there n c i some =
    let (low, long) = inside_both n (replicate c 0) i some in
    omega (arith, get_or-take {A = ℕ} n (replicate c 0) i 0 low, replicate_entry {A = ℕ} c i 0)

pub fresh_cores : (n c : ℕ) → cores_sound (take n (replicate c 0)) ≡ true
fresh_cores n c =
    apart_sound (take n (replicate c 0))
    (record {
      within = λ i. by_order 1 (get_or (take n (replicate c 0)) i 0) (λ some. absurd (none_there n c i some)) (λ none. omega arith);
      apart = λ i j same some. absurd (none_there n c i some);
    })

-- the cores that a slot records, where no two tasks have one core
recorded_cores : (n : ℕ) (assigned l : List ℕ) → Apart assigned → cores_sound (take n (replaced n (λ i. get_or assigned i 0) l)) ≡ true
recorded_cores n assigned l apart =
    let f : ℕ → ℕ = λ i. get_or assigned i 0 in
    apart_sound _
    (apart_same assigned _ apart
    (λ i some.
    let (low, long) = inside_both n (replaced n f l) i some in
    get_or-take n (replaced n f l) i 0 low ∙ replaced_at f l 0 n i low (omega (arith, length_replaced f l n))))

pub no_cores_lem : (n c : ℕ) (l : List ℕ) → cores_sound (take n (replaced n (λ i. get_or (replicate c 0) i 0) l)) ≡ true
no_cores_lem n c l =
    recorded_cores n (replicate c 0) l
    (record {
      within = λ i. omega (arith, replicate_entry {A = ℕ} c i 0);
      apart = λ i j same some. absurd (omega (arith, replicate_entry {A = ℕ} c i 0));
    })

pub slot_cores :
    (n k : ℕ) (ran : List Bool) (assigned l : List ℕ) → Placed k ran assigned → k ≤ max_cores
    → cores_sound (take n (replaced n (λ i. get_or assigned i 0) l)) ≡ true
slot_cores n k ran assigned l placed few =
    recorded_cores n assigned l (record { within = λ i. omega (arith, placed.within i); apart = placed.apart })

pub join_cores : (n : ℕ) (l : List ℕ) → cores_sound (take n l) ≡ true → cores_sound (take (n + 1) (set l n 0)) ≡ true
join_cores n l ok =
    apart_sound _
    (apart_same (take n l) _ (sound_apart (take n l) ok)
    (λ i some.
    let (low, long) = inside_both (n + 1) (set l n 0) i some in
    let here = get_or-take (n + 1) (set l n 0) i 0 low in
    by_equal i n
    (λ e. let none : get_or (set l n 0) i 0 ≡ 0 = rw e (get_or-set_same l n 0 0 (omega (arith, length-set l n 0))) in absurd (omega arith))
    (λ ne. here ∙ get_or-set_other l n i 0 0 ne ∙ sym (get_or-take n l i 0 (omega arith)))))
