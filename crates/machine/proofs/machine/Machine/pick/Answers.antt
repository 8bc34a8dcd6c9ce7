-- Each turn is one of PickTurn.antt's.
use Rattle.std.proofs.Common.{refl, sym, ◌∙◌, add-one, length-set, arith}
use lib.Seq.{length-take-le, take-suc-set}
use Rattle.machine.specs.Pick.{pick}
use Rattle.machine.specs.Cores.{runner_order}
use Rattle.machine.proofs.SoundLaws.{sound_count}
use Rattle.machine.proofs.PickTurn.{Turn, few_picked, turn_finds, pick_turn}
use Rattle.machine.proofs.machine.Machine.pick.Goals as goal
use Rattle.machine.proofs.machine.Machine.pick.Goals.{In-loop-place, After-unwrap-next}

pub loop-place-init : goal.loop-place-init
unfolding pick runner_order
loop-place-init c = record { ran = refl; waiting = c.requires.none_picked; room = c.requires.room; listed = refl }

pub slice_bounds-next_runner-end : goal.slice_bounds-next_runner-end
slice_bounds-next_runner-end c = sym (length-take-le _ _ (omega (arith, sound_count _ c.requires.is_sound)))

pub unwrap-next-requires : goal.unwrap-next-requires
unwrap-next-requires c =
    rw c.next_runner.ensures
    (turn_finds c.args.self c.requires.is_sound c.loop-place.place (omega (arith, c.requires.enough_open)) c.loop-place.waiting c.loop-place.invariant.waiting)

turn : (c : After-unwrap-next) → Turn c.args.self c.loop-place.place c.loop-place.waiting c.unwrap-next.result
turn c =
    pick_turn c.args.self c.requires.is_sound c.loop-place.place (omega (arith, c.requires.enough_open)) c.loop-place.waiting c.loop-place.invariant.waiting _
    (sym c.next_runner.ensures ∙ c.unwrap-next.ensures)

pub bounds-ran-next : goal.bounds-ran-next
bounds-ran-next c = omega (arith, (turn c).inside, sound_count _ c.requires.is_sound)

pub bounds-order-place : goal.bounds-order-place
bounds-order-place c = omega (arith, few_picked c.args.self c.requires.is_sound c.loop-place.place (omega (arith, c.requires.enough_open)))

pub offset_bounds-waiting-next : goal.offset_bounds-waiting-next
offset_bounds-waiting-next c = omega (arith, (turn c).inside, sound_count _ c.requires.is_sound)

pub bounds-waiting-next : goal.bounds-waiting-next
bounds-waiting-next c = omega (arith, (turn c).inside, sound_count _ c.requires.is_sound)

pub loop-place-preserved : goal.loop-place-preserved
loop-place-preserved c =
    let k = c.loop-place.place in
    let t = turn c in
    record {
      ran = rw (add-one k, c.loop-place.invariant.ran) t.picks;
      waiting = rw (add-one k) t.ranks_left;
      room = length-set c.loop-place.order k _ ∙ c.loop-place.invariant.room;
      listed =
          rw (add-one k)
          (take-suc-set c.loop-place.order k c.unwrap-next.result (omega (arith, few_picked c.args.self c.requires.is_sound k (omega (arith, c.requires.enough_open))))
          ∙ rw c.loop-place.invariant.listed t.listed);
    }
