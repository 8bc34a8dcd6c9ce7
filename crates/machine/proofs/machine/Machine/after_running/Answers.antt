-- Each turn is one of SlotTurn.antt's.
use Rattle.std.proofs.Common.{◌≡◌, ap, ◌∙◌, arith, false, get_or}
use Rattle.job.specs.Job.{fresh_job}
use Rattle.job.specs.Slot.{charged, aged}
use Rattle.machine.proofs.SlotTurn.{turned_none, turned_more, turned_all}
use Rattle.machine.proofs.machine.Machine.after_running.Goals as goal

pub loop-i-init : goal.loop-i-init
loop-i-init c = turned_none _ _ _

pub loop-i-preserved : goal.loop-i-preserved
unfolding fresh_job
loop-i-preserved c =
    let e : c.aged-passed.result ≡ aged (charged (get_or c.args.ran c.loop-i.i false) (get_or c.loop-i.self.jobs c.loop-i.i fresh_job)) =
    c.aged-passed.ensures ∙ ap aged c.charged.ensures
    in
    rw (c.settled.ensures, c.is_finished.ensures, c.is_late.ensures) (turned_more _ _ _ _ _ _ _ c.loop-i.invariant c.aged-passed.result e)

pub returns : goal.returns
returns c =
    let e : c.loop-i.i ≡ c.args.self.table.count = omega arith in
    turned_all _ _ _ _ _ _ _ (rw e at c.loop-i.invariant) c.requires.counted
