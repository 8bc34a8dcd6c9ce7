-- A line by its parts: releases, finishes and running. Others cite: `sound_before`, that a machine that takes a running is sound; `calls_parts` and
-- `before_parts`, the calls before the running as releases and then finishes; and for the code, which goes part by part, `release_refused`, `finish_refused`,
-- `running_refused`, `against_the_rules` and `by_the_rules`.
use mathlib.Core.Path.{◌≡◌, refl, sym, ap, ◌∙◌}
use mathlib.Core.Bool.{Bool, true, false, ◌&&◌}
use mathlib.Core.List.{List}
use Rattle.std.specs.Prelude.{Option, Some, None, Ok, Err}
use Rattle.std.proofs.lemmas.Option.{cond_some}
use Rattle.laws.proofs.CaseSplits.{by_cond, by_test, clash, not_both}
use Rattle.tasks.specs.declared.refusals.Refusal.{Refusal}
use Rattle.tasks.specs.Outcome.{is_done}
use Rattle.tasks.specs.Flags.{flags_of}
use Rattle.machine.specs.Sound.{sound}
use Rattle.machine.specs.Calls.{refuse, slot_with}
use Rattle.machine.specs.Play.{machine_after}
use Rattle.machine.specs.declared.machine.Machine.{Machine}
use Rattle.machine.specs.declared.call.Call.{Call}
use Rattle.auditing.specs.Line.{release_at, finish_at, calls_from, line_calls, all_taken, legal_run, before_running, running_of, line_taken, after_line}
use Rattle.auditing.specs.Parts.{after_calls, line_judged}
use Rattle.auditing.specs.declared.line.LogLine.{LogLine}
use Rattle.auditing.proofs.CallsAppended.{taken_append, machine_append}

pub sound_before : (m : Machine) (ran : List Bool) → is_done (slot_with m ran).outcome ≡ true → sound m ≡ true
unfolding slot_with refuse is_done
sound_before m ran e = by_test (sound m) (λ ok. ok) (λ bad. not_both false (rw bad at e) refl)

-- the releases and the finishes of a line, and the machine between them
abbrev pub releases_of : Machine → LogLine → List Call
releases_of m line = calls_from (release_at m.table) 0 (flags_of line.released)

abbrev pub finishes_of : LogLine → List Call
finishes_of line = calls_from finish_at 0 (flags_of line.finished)

abbrev pub between : Machine → LogLine → Machine
between m line = machine_after m (releases_of m line)

-- some calls that were all taken, or not
module _ (m : Machine) (calls : List Call) where
  record CallsTaken (m' : Machine) : Type 0 where
    taken : all_taken m calls ≡ true
    after : machine_after m calls ≡ m'

  some_after : (m' : Machine) → Some m' ≡ after_calls m calls → CallsTaken m'
  unfolding after_calls
  some_after m' e =
      let parts = cond_some (all_taken m calls) (machine_after m calls) m' (sym e) in
      record { taken = parts.0; after = parts.1 }

  none_after : None ≡ after_calls m calls → all_taken m calls ≡ false
  unfolding after_calls
  none_after = by_cond (λ (r : Option Machine). None ≡ r → all_taken m calls ≡ false) (all_taken m calls) (λ all e. clash cc) (λ refused e. refused)

module _ (m : Machine) (line : LogLine) where
  pub calls_parts : all_taken m (line_calls m.table line) ≡ (all_taken m (releases_of m line) && all_taken (between m line) (finishes_of line))
  unfolding line_calls
  calls_parts = taken_append m (releases_of m line) (finishes_of line)

  pub before_parts : before_running m line ≡ machine_after (between m line) (finishes_of line)
  unfolding before_running line_calls
  before_parts = machine_append m (releases_of m line) (finishes_of line)

  abbrev ran : List Bool
  ran = flags_of line.ran

  not_taken : line_taken m line ≡ false → None ≡ line_judged m line
  unfolding line_judged
  not_taken e = rw e

  no_calls : all_taken m (line_calls m.table line) ≡ false → None ≡ line_judged m line
  unfolding line_taken
  no_calls e = not_taken (rw e)

  pub release_refused : None ≡ after_calls m (releases_of m line) → None ≡ line_judged m line
  release_refused none = no_calls (calls_parts ∙ rw (none_after m (releases_of m line) none))

  module _ (opened : Machine) (released : Some opened ≡ after_calls m (releases_of m line)) where
    releases : CallsTaken m (releases_of m line) opened
    releases = some_after m (releases_of m line) opened released

    pub finish_refused : None ≡ after_calls opened (finishes_of line) → None ≡ line_judged m line
    finish_refused none = no_calls (calls_parts ∙ rw (releases.taken, releases.after, none_after opened (finishes_of line) none))

    module _ (before : Machine) (finished : Some before ≡ after_calls opened (finishes_of line)) where
      finishes : CallsTaken opened (finishes_of line) before
      finishes = some_after opened (finishes_of line) before finished

      before_is : before_running m line ≡ before
      before_is = before_parts ∙ rw (releases.after, finishes.after)

      taken_is : line_taken m line ≡ (is_done (slot_with before ran).outcome && legal_run before ran)
      unfolding line_taken running_of
      taken_is = rw (calls_parts, releases.taken, releases.after, finishes.taken, before_is)

      pub running_refused : (why : Refusal) → (slot_with before ran).outcome ≡ Err why → None ≡ line_judged m line
      unfolding is_done
      running_refused why told = not_taken (taken_is ∙ rw told)

      module _ (done : (slot_with before ran).outcome ≡ Ok tt) where
        pub against_the_rules : legal_run before ran ≡ false → None ≡ line_judged m line
        unfolding is_done
        against_the_rules e = not_taken (taken_is ∙ rw (done, e))

        pub by_the_rules : legal_run before ran ≡ true → Some (slot_with before ran).machine ≡ line_judged m line
        unfolding line_judged is_done after_line running_of
        by_the_rules e = rw (taken_is, done, e) (ap (λ (b : Machine). Some (slot_with b ran).machine) (sym before_is))
