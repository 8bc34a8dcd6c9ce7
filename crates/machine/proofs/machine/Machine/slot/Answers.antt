-- Past the refusals by 0 and 14 who is picked are the machine's runners, with their cores.
use Rattle.std.proofs.Common.{◌≡◌, length, sym, ap, ◌∙◌, arith, rules}
use lib.Seq.{length-take-le}
use Rattle.cores.specs.Assign.{assignment}
use Rattle.machine.specs.Pick.{pick, runners}
use Rattle.machine.specs.Cores.{runner_order, slot_assignment}
use Rattle.machine.specs.Calls.{slot}
use Rattle.machine.proofs.SoundLaws.{sound_count}
use Rattle.machine.proofs.RunnersLegal.{runners_few, runners_number}
use Rattle.machine.proofs.machine.Machine.slot.Goals as goal

pub slice_bounds-assign-end : goal.slice_bounds-assign-end
slice_bounds-assign-end c =
    let e : length c.pick-ran.new.order ≡ 32 = search rules in
    let fits = sound_count _ (sym c.is_sound.ensures ∙ c.if-not-is_sound.false) in
    sym (length-take-le _ _ (omega (arith, runners_few c.args.self c.args.available fits, c.runner_count-runners.ensures)))

pub after_running-requires-clause-counted : goal.after_running-requires-clause-counted
unfolding runners
after_running-requires-clause-counted c =
    let fits = sound_count _ (sym c.is_sound.ensures ∙ c.if-not-is_sound.false) in
    c.runner_count-runners.ensures
    ∙ rw (c.pick-ran.ensures.ran, c.runner_count-runners.ensures) (sym (runners_number _ _ fits))

pub returns : goal.returns
unfolding slot runners slot_assignment
returns c =
    let a = c.args in
    let ran_are : c.pick-ran.result ≡ runners a.self a.available = c.pick-ran.ensures.ran ∙ ap (pick a.self) c.runner_count-runners.ensures in
    let cores_are : c.assign-assigned.result ≡ slot_assignment a.self a.available =
    c.assign-assigned.ensures
    ∙ ap (assignment a.self.assigned a.available) (c.pick-ran.ensures.listed ∙ ap (runner_order a.self) c.runner_count-runners.ensures)
    in
    rw (sym c.is_sound.ensures ∙ c.if-not-is_sound.false, sym c.slot_cores_in_range.ensures ∙ c.if-not-slot_cores_in_range.false, ← ran_are, ← cores_are)
    c.after_running.ensures
