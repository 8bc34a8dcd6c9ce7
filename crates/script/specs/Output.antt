-- What is printed for a call (docs/HANDBOOK.md, "Replaying calls"): "Output, one line per call, each ended by byte 10".
use Rattle.std.specs.Prelude.{ℕ, zero, suc, ◌+◌, ◌*◌, ◌≤◌, ◌≡◌, Bool, false, cond, List, [], ◌∷◌, ◌++◌, length, get_or, take, Ok, Err}
use Rattle.text.specs.Lines.{line_end}
use Rattle.text.specs.Output.{PutAt, put, numbers_line, refused_line}
use Rattle.text.specs.declared.output.Output.{Output}
use Rattle.tasks.specs.Limits.{max_tasks, max_cores}
use Rattle.tasks.specs.Outcome.{Outcome}
use Rattle.tasks.specs.Refusals.{number_of}
use Rattle.machine.specs.declared.call.Call.{Call}
use Rattle.machine.specs.declared.call.Call.TheVariants.{Release, Finish, Slot, Offer, Commit}
use Rattle.machine.specs.declared.answer.Answer.{Answer}
use Rattle.machine.specs.declared.answer.Report.{Report}
use Rattle.tasks.specs.Flags.{mask}
use Rattle.script.specs.Words.{done_word, bad_line_word}

-- "A line that is no call prints `BAD LINE n`", and so does each other line that replay and probe tell by its number
unfoldable pub bad_line : ℕ → List ℕ
bad_line n = bad_line_word ++ numbers_line (n ∷ [])

-- "for each runner in rising task number .. its core": those of the runners among the first n tasks
unfoldable pub runner_cores : (ran : List Bool) → (assigned : List ℕ) → (n : ℕ) → List ℕ
runner_cores ran assigned zero = []
runner_cores ran assigned (suc n) = runner_cores ran assigned n ++ cond (get_or ran n false) (get_or assigned n 0 ∷ []) []

-- "`RAN FINISHED LATE RUNNERS` as four numbers .. (the first three as sums of 2 to the power task number − 1), and after them" the cores
unfoldable pub report_line : Report → List ℕ
report_line r =
    numbers_line (mask r.ran ∷ mask r.finished ∷ mask r.late ∷ r.runners ∷ runner_cores r.ran r.assigned max_tasks)

-- "`DONE` for an accepted release, finish, offer or commit", and the report "for an accepted slot"
unfoldable pub accepted_line : Call → Report → List ℕ
accepted_line (Release i e) r = done_word ++ line_end ∷ []
accepted_line (Finish i) r = done_word ++ line_end ∷ []
accepted_line (Slot k) r = report_line r
accepted_line (Offer t) r = done_word ++ line_end ∷ []
accepted_line Commit r = done_word ++ line_end ∷ []

-- the line of a call that had an outcome and a report: "`REFUSED n` for a refused call"
unfoldable pub outcome_line : Outcome → Call → Report → List ℕ
outcome_line (Ok _) call r = accepted_line call r
outcome_line (Err why) call r = refused_line (number_of why.reason)

-- the line of a call and its answer
unfoldable pub answer_line : Call → Answer → List ℕ
answer_line call a = outcome_line a.outcome call a.report

-- bytes that are enough for a line `REFUSED n` or `BAD LINE n`
abbrev pub refusal_room : ℕ
refusal_room = 32

-- bytes that are enough for the line of an answer of the machine: four numbers of ten digits, 16 cores of two, and a byte after each
abbrev pub answer_room : ℕ
answer_room = 4 * (10 + 1) + max_cores * (2 + 1)

-- a text of at most so many bytes was put in an output
pub record PutsWithin {N : ℕ} (most : ℕ) (before : Output N) (text : List ℕ) (after : Output N) : Type 0 where
  pub whole : after ≡ put before text
  pub few : length text ≤ most

-- such a text was put after the first `used` bytes of an array
pub record PutAtWithin (most : ℕ) (before : List ℕ) (used : ℕ) (text after : List ℕ) (r : ℕ) : Type 0 where
  pub whole : PutAt before used text after r
  pub few : length text ≤ most

-- the first n numbers of an array are those of a report's line
pub record ListsReport (r : Report) (array : List ℕ) (n : ℕ) : Type 0 where
  pub within : n ≤ 4 + max_tasks
  pub line : numbers_line (take n array) ≡ report_line r
