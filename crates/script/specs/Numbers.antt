-- The numbers of scripts, and of probe's texts (docs/HANDBOOK.md, "Replaying calls"): "numbers of 1 to 10 digits without a leading zero, at most
-- 4,294,967,295"; as in a table, 0 alone is well formed.
use Rattle.std.specs.Prelude.{ℕ}

-- "1 to 10 digits"
abbrev pub max_digits : ℕ
max_digits = 10

-- "at most 4,294,967,295"
abbrev pub max_number : ℕ
max_number = 4_294_967_295
