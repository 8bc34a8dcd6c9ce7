-- The reason for a number has that number: `number_kept`; and past the listed ones there is `unlisted`.
use Rattle.std.proofs.Common.{ℕ, zero, suc, ◌+◌, ◌≤◌, ◌≡◌, refl, Bool, true, eqb, ◌&&◌, List, [], ◌∷◌, get_or, arith}
use Rattle.std.proofs.lemmas.List.{get_or_past}
use borrow.Author.Tests.{eqb-true}
use Rattle.laws.proofs.Booleans.{and_left, and_right}
use Rattle.tasks.specs.declared.refusals.Reason.{Reason}
use Rattle.tasks.specs.declared.refusals.Reason.TheVariants.{Unlisted}
use Rattle.tasks.specs.Refusals.{number_of, listed, reason_of}

pub unlisted : (number : ℕ) → 19 ≤ number → reason_of number ≡ Unlisted number
unfolding reason_of listed
unlisted number past = get_or_past listed number (Unlisted number) past

-- whether the reasons have the numbers from i on
numbered_from : (i : ℕ) → List Reason → Bool
numbered_from i [] = true
numbered_from i (reason ∷ reasons) = eqb (number_of reason) i && numbered_from (suc i) reasons

-- so the one at each place has its number
at_its_number :
    (reasons : List Reason) (i n number : ℕ) → i + n ≡ number → numbered_from i reasons ≡ true
    → number_of (get_or reasons n (Unlisted number)) ≡ number
unfolding numbered_from
at_its_number [] i n number place all = refl
at_its_number (reason ∷ reasons) i zero number place all = omega (arith, eqb-true (number_of reason) i (and_left (eqb (number_of reason) i) _ all))
at_its_number (reason ∷ reasons) i (suc n) number place all =
    at_its_number reasons (suc i) n number (omega arith) (and_right (eqb (number_of reason) i) _ all)

pub number_kept : (number : ℕ) → number_of (reason_of number) ≡ number
unfolding reason_of listed numbered_from
number_kept number = at_its_number listed 0 number number (omega arith) refl
