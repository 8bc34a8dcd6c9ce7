-- What is printed has room. Others cite `printed_held`: an unused output with room for it holds all of it; and `lines_few`, how many bytes lines have of
-- which each has few.
use Prim.Native.Nat.{ℕ, zero, suc, ◌*◌, ◌≤◌, ◌<◌, min}
use native.Mathlib.Omega.{arith}
use mathlib.Core.Bool.{Bool, true, false, cond}
use mathlib.Core.Path.{◌≡◌, refl}
use mathlib.Core.List.{List, [], ◌∷◌}
use lib.ListN.{length, length-append}
use Rattle.text.specs.declared.output.Output.{Output}
use Rattle.text.specs.Output.{put, Holds, further_numbers, numbers_line, refused_line}
use Rattle.text.proofs.DigitLaws.{text_few}
use Rattle.text.proofs.Putting.{put_all}
use Rattle.tasks.specs.declared.table.Table.{Table}
use Rattle.std.proofs.Common.{Ok, Err}
use Rattle.tasks.specs.Refusals.{number_of}
use Rattle.tasks.specs.Outcome.{Outcome}
use Rattle.tasks.proofs.Small.{Below}
use Rattle.tasks.specs.Limits.{max_cores}
use Rattle.reader.specs.Reading.{reading}
use Rattle.reader.proofs.Small.{reading_below}
use Rattle.judge.specs.Judge.{judged}
use Rattle.judge.specs.SlackJudge.{slack_judged}
use Rattle.judge.proofs.Outcome.{count_small}
use Rattle.judge.proofs.SlackOutcome.{rounds_small}
use Rattle.lines.specs.declared.Test.{Test}
use Rattle.lines.specs.declared.Test.TheVariants.{Window, Slack}
use Rattle.lines.specs.Printed.{header, line_numbers, verdict_line, lines_up_to, printed_after, printed, room}

header_few : (test : Test) → length (header test) ≤ 19
unfolding header
header_few Window = omega arith
header_few Slack = omega arith

-- a line of two numbers below 100, and 1 or 0
numbers_few : (m n : ℕ) (b : Bool) → m < 100 → n < 100 → length (numbers_line (m ∷ n ∷ cond b 1 0 ∷ [])) ≤ 8
unfolding numbers_line further_numbers
numbers_few m n b h l = simp length-append (omega (arith, text_few 1 m h, text_few 1 n l, text_few 0 (cond b 1 0) (one b)))
  where
    one : (b : Bool) → cond b 1 0 < 10
    one true = omega arith
    one false = omega arith

line_few : (test : Test) (t : Table) (m : ℕ) → m < 100 → length (verdict_line test t m) ≤ 8
unfolding verdict_line line_numbers
line_few Window t m h = numbers_few m (judged t m).count (judged t m).admits h (omega (arith, count_small t m))
line_few Slack t m h = numbers_few m (slack_judged t m).rounds (slack_judged t m).admits h (omega (arith, rounds_small t m))

pub lines_few : (line : ℕ → List ℕ) (most : ℕ) → ((m : ℕ) → m < 100 → length (line m) ≤ most) → (n : ℕ) → n < 100 → length (lines_up_to line n) ≤ n * most
unfolding lines_up_to
lines_few line most few zero h = omega arith
lines_few line most few (suc n) h = simp length-append (omega (arith, lines_few line most few n (omega arith), few (suc n) h))

after_few : (test : Test) (o : Outcome) (t : Table) → Below 6 o → length (printed_after test o t) ≤ room
unfolding printed_after refused_line numbers_line further_numbers
after_few test (Ok _) t b =
    simp length-append (omega (arith, header_few test, lines_few (verdict_line test t) 8 (line_few test t) (min max_cores t.count) (omega arith)))
after_few test (Err why) t b = simp length-append (omega (arith, text_few 0 (number_of why.reason) (omega (arith, b why refl))))

printed_few : (test : Test) (s : List ℕ) → length (printed test s) ≤ room
unfolding printed
printed_few test s = after_few test (reading s).outcome (reading s).table (reading_below s)

pub printed_held :
    {N : ℕ} (o : Output N) {p : Output N} (test : Test) (s : List ℕ) → room ≤ length o.bytes → o.used ≡ 0 → p ≡ put o (printed test s)
    → Holds (printed test s) p
printed_held o test s enough e f = put_all o (printed test s) e f (omega (arith, printed_few test s))
