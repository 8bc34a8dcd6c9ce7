-- What verdict and sharper print of a table: of the window test document 01, "The table as text", and of the slack test docs/HANDBOOK.md, "Reading a
-- verdict". `lines_up_to` and `room` serve quote too.
use Rattle.std.specs.Prelude.{ℕ, zero, suc, min, cond, List, [], ◌∷◌, ◌++◌, Ok, Err}
use Rattle.text.specs.Output.{numbers_line, refused_line}
use Rattle.tasks.specs.declared.table.Table.{Table}
use Rattle.tasks.specs.Limits.{max_cores}
use Rattle.tasks.specs.Refusals.{number_of}
use Rattle.tasks.specs.Outcome.{Outcome}
use Rattle.reader.specs.Reading.{reading}
use Rattle.judge.specs.Judge.{judged}
use Rattle.judge.specs.SlackJudge.{slack_judged}
use Rattle.lines.specs.declared.Test.{Test}
use Rattle.lines.specs.declared.Test.TheVariants.{Window, Slack}

-- document 01: "a line of names", the bytes of "CORES COUNT ADMIT" and byte 10; the handbook: "the line `CORES ROUNDS ADMIT`"
unfoldable pub header : Test → List ℕ
header Window = 67 ∷ 79 ∷ 82 ∷ 69 ∷ 83 ∷ 32 ∷ 67 ∷ 79 ∷ 85 ∷ 78 ∷ 84 ∷ 32 ∷ 65 ∷ 68 ∷ 77 ∷ 73 ∷ 84 ∷ 10 ∷ []
header Slack = 67 ∷ 79 ∷ 82 ∷ 69 ∷ 83 ∷ 32 ∷ 82 ∷ 79 ∷ 85 ∷ 78 ∷ 68 ∷ 83 ∷ 32 ∷ 65 ∷ 68 ∷ 77 ∷ 73 ∷ 84 ∷ 10 ∷ []

-- document 01: "m, COUNT, and 1 for admitted or 0"; the handbook: "m, the rounds made, and 1 or 0, where 1 is admitted by the slack test"
unfoldable pub line_numbers : Test → Table → (m : ℕ) → List ℕ
line_numbers Window t m = m ∷ (judged t m).count ∷ cond (judged t m).admits 1 0 ∷ []
line_numbers Slack t m = m ∷ (slack_judged t m).rounds ∷ cond (slack_judged t m).admits 1 0 ∷ []

-- the line of m cores
unfoldable pub verdict_line : Test → Table → (m : ℕ) → List ℕ
verdict_line test t m = numbers_line (line_numbers test t m)

-- "for m = 1 up to" n a line each
unfoldable pub lines_up_to : (line : (m : ℕ) → List ℕ) → (n : ℕ) → List ℕ
lines_up_to line zero = []
lines_up_to line (suc n) = lines_up_to line n ++ line (suc n)

-- document 01: "a line of names, then for m = 1 up to the smaller of 16 and the number of tasks"; "A refused table prints `REFUSED`, a space and the
-- refusal number"; the handbook: "a refused table prints as in `verdict`"
unfoldable pub printed_after : Test → Outcome → Table → List ℕ
printed_after test (Ok _) t = header test ++ lines_up_to (verdict_line test t) (min max_cores t.count)
printed_after test (Err why) t = refused_line (number_of why.reason)

-- document 01: "reads a table from standard input and prints": what is printed for a text
unfoldable pub printed : Test → List ℕ → List ℕ
printed test text = printed_after test (reading text).outcome (reading text).table

-- the room that an array needs for it, and for what quote prints: at most 19 bytes for the line of names, at most 8 for each of sixteen lines, and a few more
abbrev pub room : ℕ
room = 160
