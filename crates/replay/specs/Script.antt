-- What is printed for a script (docs/HANDBOOK.md, "Replaying calls"): "a line `CORES m`, a table .., a line `CALLS`, then one call a line".
use Rattle.std.specs.Prelude.{ℕ, ◌+◌, ◌*◌, List, [], ◌∷◌, ◌++◌, cond, ltb, length, take, drop, Option, Some, None, Result, Ok, Err}
use Rattle.text.specs.Lines.{line_end, has, before, after, lines, unended, is_empty}
use Rattle.text.specs.Number.{number_after}
use Rattle.text.specs.Output.{refused_line}
use Rattle.reader.specs.Reading.{reading}
use Rattle.tasks.specs.declared.refusals.Reason.TheVariants.{TextTooLong}
use Rattle.tasks.specs.declared.refusals.Refusal.{Refusal}
use Rattle.tasks.specs.Refusals.{number_of}
use Rattle.tasks.specs.Outcome.{Outcome, first_refusal}
use Rattle.machine.specs.Calls.{start, step}
use Rattle.machine.specs.declared.machine.Machine.{Machine}
use Rattle.machine.specs.declared.call.Call.{Call}
use Rattle.script.specs.Numbers.{max_digits, max_number}
use Rattle.script.specs.Calls.{call_of}
use Rattle.script.specs.Output.{bad_line, answer_line, refusal_room}
use Rattle.script.specs.Words.{cores_word}
use Rattle.script.specs.WordLine.{word_line}
use Rattle.script.specs.declared.word_line.WordLine.{WordLine}
use Rattle.replay.specs.Words.{calls_word}

-- "at most 65,536 bytes"
abbrev pub max_script_length : ℕ
max_script_length = 65_536

-- what is printed from a line on: if it is a call, by `played`, and if it is none, `bad`
unfoldable pub on_call : Option Call → (Call → List ℕ) → List ℕ → List ℕ
on_call (Some call) played bad = played call
on_call None played bad = bad

-- the lines of answers to the calls of some lines and what stands unended after them: the first line has the number n in the whole script, and
-- the first call gets the machine m. "A line that is no call prints `BAD LINE n` .. and ends the run", and so does an unended last line
unfoldable pub answer_lines : Machine → (n : ℕ) → List (List ℕ) → List ℕ → List ℕ
answer_lines m n [] rest = cond (is_empty rest) [] (bad_line n)
answer_lines m n (l ∷ ls) rest =
    on_call (call_of l) (λ call. answer_line call (step m call) ++ answer_lines (step m call).machine (n + 1) ls rest) (bad_line n)

-- what is printed after the line `CALLS`, by the machine that started: the answers to the calls. "A refused table or m prints `REFUSED n` alone"
unfoldable pub printed_after_start : Result Machine Refusal → (n : ℕ) → (calls : List ℕ) → List ℕ
printed_after_start (Ok m) n calls = answer_lines m n (lines calls) (unended calls)
printed_after_start (Err why) n calls = refused_line (number_of why.reason)

-- a machine, if nothing refused it
unfoldable pub if_done : Outcome → Machine → Result Machine Refusal
if_done (Ok _) m = Ok m
if_done (Err why) m = Err why

-- the machine that starts on the table of a text with so many cores, or the refusal of the text, or else of the start
unfoldable pub started : (table : List ℕ) → (cores : ℕ) → Result Machine Refusal
started table cores =
    let read = reading table in
    let answer = start read.table cores in
    if_done (first_refusal read.outcome answer.outcome) answer.machine

-- for the text of a table, a number of cores, and the text of the calls, the first of which is on line n
unfoldable pub printed_for : List ℕ → (cores n : ℕ) → (calls : List ℕ) → List ℕ
printed_for table cores n calls = printed_after_start (started table cores) n calls

-- after the line `CORES m`: the text s up to the line `CALLS` is the table's, and what follows that line is the calls'. A line `CALLS` that is missing
-- is told "even when the table is bad too"
unfoldable pub printed_after_cores : Result WordLine ℕ → (cores : ℕ) → (s : List ℕ) → List ℕ
printed_after_cores (Ok found) cores s = printed_for (take found.start s) cores found.line (drop found.next s)
printed_after_cores (Err n) cores s = bad_line n

-- by the number of the first line, which the text s follows: "A missing or malformed CORES line is `BAD LINE 1`"
unfoldable pub printed_after_first : Option ℕ → (s : List ℕ) → List ℕ
printed_after_first (Some cores) s = printed_after_cores (word_line calls_word s) cores s
printed_after_first None s = bad_line 1

-- what is printed for a script: "more than 65,536 bytes is `REFUSED 1` alone", and a script without an ended first line is `BAD LINE 1`
unfoldable pub printed : List ℕ → List ℕ
printed s =
    cond (ltb max_script_length (length s)) (refused_line (number_of TextTooLong))
    (cond (has line_end s) (printed_after_first (number_after max_digits max_number cores_word (before line_end s)) (after line_end s)) (bad_line 1))

-- bytes of the output that are enough for each byte of the calls: the line of a call has at least 6 bytes, its word and byte 10, and its answer's at
-- most 92
abbrev pub call_room : ℕ
call_room = 16

-- the room that an array needs for what is printed: that for each byte of a script, and a line `BAD LINE n` or `REFUSED n` at the end
abbrev pub room : ℕ
room = call_room * max_script_length + refusal_room
