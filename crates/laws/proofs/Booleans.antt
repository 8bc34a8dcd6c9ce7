-- Laws of Booleans that mathlib lacks.
use mathlib.Core.Path.{◌≡◌, refl, sym}
use mathlib.Core.Bool.{Bool, true, false, cond, ◌&&◌}
use mir.Val.{bool_byte}
use Rattle.laws.proofs.CaseSplits.{not_both}

pub and_left : (a b : Bool) → (a && b) ≡ true → a ≡ true
and_left true b h = refl
and_left false b h = h

pub and_right : (a b : Bool) → (a && b) ≡ true → b ≡ true
and_right true b h = h
and_right false b h = not_both false h refl

-- each holds where the other does: they are equal
pub both_ways : (a b : Bool) → (a ≡ true → b ≡ true) → (b ≡ true → a ≡ true) → a ≡ b
both_ways true b f g = sym (f refl)
both_ways false true f g = g refl
both_ways false false f g = refl

-- a Boolean as a number, as the checker writes the code's cast
pub bool_byte_lem : (b : Bool) → bool_byte b ≡ cond b 1 0
bool_byte_lem true = refl
bool_byte_lem false = refl
