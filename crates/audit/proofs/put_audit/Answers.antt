use Rattle.std.proofs.Common.{rules}
use Rattle.audit.proofs.AuditLines.{accepted_put, offends_put, refused_put}
use Rattle.audit.proofs.put_audit.Goals as goal

pub returns-in-Ok-Accepted : goal.returns-in-Ok-Accepted
returns-in-Ok-Accepted c =
    let audit = c.in-Ok-Accepted in
    rw (audit.is, rw audit.is at audit.field-0-is) (accepted_put c.put.ensures)

pub returns-in-Ok-Offends : goal.returns-in-Ok-Offends
returns-in-Ok-Offends c =
    let audit = c.in-Ok-Offends in
    rw (audit.is, rw audit.is at audit.field-0-is) (offends_put _ (search rules) c.put-in-Ok-Offends.ensures c.put_numbers.ensures)

pub returns-in-Err : goal.returns-in-Err
returns-in-Err c =
    rw c.in-Err.is (refused_put _ _ (search rules) (search rules) c.number.ensures c.put-in-Err.ensures c.put_numbers-in-Err.ensures)
