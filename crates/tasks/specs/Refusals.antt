-- Why a call is not carried out, and the numbers of document 01, "Why a call is not carried out", and of document 02's changes; by its change 3 the number 10 "stays
-- empty".
use Rattle.std.specs.Prelude.{ℕ, List, [], ◌∷◌, get_or}
use Rattle.tasks.specs.declared.refusals.Reason.{Reason}
use Rattle.tasks.specs.declared.refusals.Reason.TheVariants.{UnsoundMachine, TextTooLong, BadNamesLine, TooManyTasks, BadValueLine, TaskOutOfRange, NoTask, CoresOutOfRange, NoSuchTask, ReleasedTooSoon, JobStillOpen, JobNotOpen, TableFull, NotAdmitted, SlotCoresOutOfRange, NeedOutOfRange, LeastAboveMost, NoHeldTask, BadLogLine, Unlisted}
use Rattle.tasks.specs.declared.refusals.Refusal.{Refusal}

-- the number of each
abbrev pub number_of : Reason → ℕ
-- "0. The machine handed in is unsound"
number_of UnsoundMachine = 0
-- "1. The text has more than 4,096 bytes."
number_of TextTooLong = 1
-- "2. The names line is missing, is not ended, or is not the three names once each."; of ranges, not the five in their order
number_of BadNamesLine = 2
-- "3. A 33rd task stands in the table"
number_of TooManyTasks = 3
-- "4. A value line is not three well-formed values ended by byte 10."; of ranges five
number_of BadValueLine = 4
-- "5. A task breaks 1 ≤ C ≤ D ≤ T ≤ 1,000,000."
number_of TaskOutOfRange = 5
-- "6. The table has no task."
number_of NoTask = 6
-- "7. m is not 1 to 16."
number_of CoresOutOfRange = 7
-- "8. The task number is not in the table."
number_of NoSuchTask = 8
-- "9. A release comes while the task's gap is above 0."
number_of ReleasedTooSoon = 9
-- "10. A release comes while the task's job is still open.": by change 3 no call is refused by it any more
number_of JobStillOpen = 10
-- "11. A finish comes for a closed task."
number_of JobNotOpen = 11
-- "12. A join comes to a table of 32 tasks."; by change 10 an offer
number_of TableFull = 12
-- "13. The table with the joining task is not admitted."; by change 10 the offered one
number_of NotAdmitted = 13
-- change 1: "A slot with k below m or above 16: number 14"
number_of SlotCoresOutOfRange = 14
-- change 5: "e of 0 or above C: number 15"
number_of NeedOutOfRange = 15
-- change 9: "A least above its most: number 16"
number_of LeastAboveMost = 16
-- change 10: "Commit with no held task: number 17."
number_of NoHeldTask = 17
-- change 11: "A broken names line or value line, or a value above 4,294,967,295: number 18"
number_of BadLogLine = 18
-- none of these
number_of (Unlisted number) = number

-- the reasons that the documents list, each at its number
unfoldable pub listed : List Reason
listed =
    UnsoundMachine
    ∷ TextTooLong
    ∷ BadNamesLine
    ∷ TooManyTasks
    ∷ BadValueLine
    ∷ TaskOutOfRange
    ∷ NoTask
    ∷ CoresOutOfRange
    ∷ NoSuchTask
    ∷ ReleasedTooSoon
    ∷ JobStillOpen
    ∷ JobNotOpen
    ∷ TableFull
    ∷ NotAdmitted
    ∷ SlotCoresOutOfRange
    ∷ NeedOutOfRange
    ∷ LeastAboveMost
    ∷ NoHeldTask
    ∷ BadLogLine
    ∷ []

-- the reason for a number: the listed one, or one that tells no more than the number
unfoldable pub reason_of : ℕ → Reason
reason_of number = get_or listed number (Unlisted number)

-- the refusal for a reason, with the value line or task that it concerns, or 0
abbrev pub refusal : Reason → ℕ → Refusal
refusal reason place = record { reason = reason; place = place }
