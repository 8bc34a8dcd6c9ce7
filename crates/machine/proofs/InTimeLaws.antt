-- The claim of a log, entry by entry: `each_in_time`. The claim of one entry is `EntryInTime`; `quiet_in_time` gives that of an entry that reports
-- nothing and is no release; `each_none` and `each_more` put them together, for the empty log and for one entry in front.
use Rattle.std.proofs.Common.{None}
use Prim.Native.Nat.{ℕ, ◌-◌, ◌≤◌}
use mathlib.Core.Path.{◌≡◌, subst}
use mathlib.Core.Bool.{true, false, cond}
use mathlib.Core.List.{List, [], ◌∷◌, ◌++◌}
use lib.ListN.{get_or}
use Rattle.tasks.specs.declared.table.Table.{Table}
use Rattle.tasks.specs.Table.{zero_task}
use Rattle.laws.proofs.CaseSplits.{clash}
use Rattle.laws.proofs.Replaced.{replicate_entry}
use Rattle.tasks.specs.Limits.{max_tasks}
use Rattle.machine.specs.Slot.{no_report}
use Rattle.tasks.specs.Outcome.{is_done}
use Rattle.machine.specs.Play.{Entry}
use Rattle.machine.specs.InTime.{slot_count, Point, point_by, point_after, table_after, closed_by_slot, InTime}
use Rattle.machine.specs.declared.call.Call.TheVariants.{Release}

-- the claim of one entry that a machine on the table t answers, with the log after it
pub record EntryInTime (t : Table) (x : Entry) (log : List Entry) : Type 0 where
  pub not_late : (i : ℕ) → get_or x.report.late i false ≡ false
  pub closed :
      (number need : ℕ) → x.call ≡ Release number need → is_done x.outcome ≡ true
      → let deadline = (get_or t.tasks (number - 1) zero_task).deadline in
      deadline ≤ slot_count log → closed_by_slot number need deadline log ≡ true

-- a report that names no task has none late
pub quiet_report : (i : ℕ) → get_or no_report.late i false ≡ false
unfolding no_report
quiet_report i = replicate_entry max_tasks i false

pub quiet_in_time :
    (t : Table) (x : Entry) (log : List Entry) → x.report ≡ no_report
    → ((number need : ℕ) → x.call ≡ Release number need → is_done x.outcome ≡ true → ⊥)
    → EntryInTime t x log
quiet_in_time t x log quiet no-release =
    record {
      not_late = λ i. rw quiet (quiet_report i);
      closed = λ number need e d. absurd (no-release number need e d);
    }

-- the claim of every entry of a log from a machine at the point p, each with the log after it
abbrev pub EachInTime : Point → List Entry → Type 0
EachInTime p log = (before after : List Entry) (e : Entry) → log ≡ before ++ e ∷ after → EntryInTime (point_after p before).table e after

pub each_none : (p : Point) → EachInTime p []
each_none p [] after e split = clash cc
each_none p (y ∷ before) after e split = clash cc

pub each_more :
    (p p' : Point) (x : Entry) (log : List Entry) → EntryInTime p.table x log
    → p' ≡ cond (is_done x.outcome) (point_by x.call p) p → EachInTime p' log
    → EachInTime p (x ∷ log)
unfolding point_after
each_more p p' x log first then-point rest [] after e split =
    let same : x ≡ e = cc in
    let tail : log ≡ after = cc in
    rw (← same, ← tail) first
each_more p p' x log first then-point rest (y ∷ before) after e split =
    let same : x ≡ y = cc in
    let tail : log ≡ before ++ e ∷ after = cc in
    rw (← same) (subst (λ (q : Point). EntryInTime (point_after q before).table e after) then-point (rest before after e tail))

pub each_in_time : (t : Table) (log : List Entry) → EachInTime (record { table = t; offered = None }) log → InTime t log
unfolding table_after
each_in_time t log each =
    record {
      none_late = λ before after e split is-slot. (each before after e split).not_late;
      all_closed = λ before after e number need split. (each before after e split).closed number need;
    }
