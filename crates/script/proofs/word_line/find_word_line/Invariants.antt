-- The invariant: the word is none of the lines so far.
use Rattle.std.proofs.Common.{◌-◌, length}
use Rattle.script.proofs.WordLineLaws.{Looking}
use Rattle.script.proofs.word_line.find_word_line.Given as goal

abbrev pub invariant-loop-at : goal.invariant-loop-at
invariant-loop-at l = Looking l.word l.text l.at l.line

abbrev pub decreases-loop-at : goal.decreases-loop-at
decreases-loop-at l = length l.text - l.at
