-- The upper limits of document 01, "What belongs to it" and "The table as text".
use Rattle.std.specs.Prelude.{ℕ}

-- "A table has 1 to 32 tasks"
abbrev pub max_tasks : ℕ
max_tasks = 32

-- "m is the number of cores, 1 to 16"
abbrev pub max_cores : ℕ
max_cores = 16

-- "T ≤ 1,000,000"
abbrev pub max_period : ℕ
max_period = 1_000_000

-- "At most 4,096 bytes"
abbrev pub max_text_length : ℕ
max_text_length = 4_096
