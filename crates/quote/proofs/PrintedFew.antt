-- What is printed has room. `quote` cites `printed_held`: an unused output with room for it holds all of it.
use Prim.Native.Nat.{ℕ, min, ◌≤◌, ◌<◌}
use native.Mathlib.Omega.{arith}
use mathlib.Core.Bool.{Bool, true, false, cond}
use mathlib.Core.Path.{◌≡◌, refl}
use mathlib.Core.List.{List}
use lib.ListN.{length, length-append}
use Rattle.std.proofs.Common.{Result, Ok, Err}
use Rattle.text.specs.declared.output.Output.{Output}
use Rattle.text.specs.Output.{put, Holds, further_numbers, numbers_line, refused_line}
use Rattle.text.proofs.DigitLaws.{text_few}
use Rattle.text.proofs.Putting.{put_all}
use Rattle.tasks.specs.Limits.{max_cores}
use Rattle.tasks.specs.Refusals.{number_of}
use Rattle.tasks.specs.declared.refusals.Refusal.{Refusal}
use Rattle.tasks.proofs.Small.{Below}
use Rattle.lines.specs.Printed.{room}
use Rattle.lines.proofs.PrintedFew.{lines_few}
use Rattle.ranges.specs.declared.table.RangedTable.{RangedTable}
use Rattle.ranges.specs.Quote.{quoted}
use Rattle.quote.specs.Reading.{reading}
use Rattle.quote.proofs.ReadLaws.{reading_below}
use Rattle.quote.specs.Printed.{header, all_word, some_word, none_word, answer_word, quote_line, printed_after, printed}

word_few : (every any : Bool) → length (cond every all_word (cond any some_word none_word)) ≤ 5
word_few true any = omega arith
word_few false true = omega arith
word_few false false = omega arith

line_few : (r : RangedTable) (m : ℕ) → m < 100 → length (quote_line r m) ≤ 8
unfolding quote_line answer_word
line_few r m h = simp length-append (omega (arith, text_few 1 m h, word_few (quoted r m).every (quoted r m).any))

after_few : (w : Result RangedTable Refusal) → Below 16 w → length (printed_after w) ≤ room
unfolding printed_after header refused_line numbers_line further_numbers
after_few (Ok r) b = simp length-append (omega (arith, lines_few (quote_line r) 8 (line_few r) (min max_cores r.count) (omega arith)))
after_few (Err why) b = simp length-append (omega (arith, text_few 1 (number_of why.reason) (omega (arith, b why refl))))

printed_few : (s : List ℕ) → length (printed s) ≤ room
unfolding printed
printed_few s = after_few (reading s) (reading_below s)

pub printed_held : {N : ℕ} (o : Output N) {p : Output N} (s : List ℕ) → room ≤ length o.bytes → o.used ≡ 0 → p ≡ put o (printed s) → Holds (printed s) p
printed_held o s enough e f = put_all o (printed s) e f (omega (arith, printed_few s))
