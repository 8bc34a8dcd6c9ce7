-- `slack_of` meets its contract: what the sum lacks, divided and rounded up, is the new slack of the sum without the own part.
use Rattle.std.proofs.Common.{◌-◌, ◌*◌, ◌≡◌, sym, arith}
use Rattle.edzl.proofs.SlackLaws.{new_rounded}
use Rattle.judge.specs.Parts.{own_part}
use Rattle.judge.proofs.rounds.slack_of.Goals as goal

pub returns : goal.returns
returns c =
    let a = c.args in
    let spare = a.deadline - a.budget in
    let own = own_part a.budget a.deadline in
    let lacking : c.saturating_sub.result ≡ a.cores * spare - (a.sum - own) = omega arith in
    rw lacking (sym (new_rounded a.cores spare (a.sum - own) c.requires.cores_some))
