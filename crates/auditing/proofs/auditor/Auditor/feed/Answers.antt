use Rattle.std.proofs.Common.{arith, ◌≡◌, ℕ, ◌+◌, ◌≤◌, ◌∙◌, List, length, get_or, drop, sym, ap}
use lib.ListN.{drop_of_length-le}
use Rattle.auditing.specs.Auditor.{fed_byte, fed}
use Rattle.auditing.specs.declared.auditor.Auditor.{Auditor}
use Rattle.auditing.proofs.AuditorLaws.{fed_found, fed_next, byte_ends, byte_kept, byte_dropped}
use Rattle.auditing.proofs.auditor.Auditor.feed.Goals as goal
use Rattle.auditing.proofs.auditor.Auditor.feed.Goals.{then-byte-eq10, else-byte-eq10+then-auditor-lt-LINE_ROOM, else-byte-eq10+else-auditor-lt-LINE_ROOM}

pub returns-then-not-goes_on : goal.returns-then-not-goes_on
returns-then-not-goes_on c = sym (c.loop-byte.invariant ∙ fed_found _ _ (sym c.if-not-goes_on.ensures))

pub loop-byte-preserved : goal.loop-byte-preserved
loop-byte-preserved c =
    let part = c.args.part.now in
    let i = c.loop-byte.byte-index in
    let on = sym c.if-not-goes_on.ensures in
    c.loop-byte.invariant ∙ fed_next c.loop-byte.auditor part i c.loop-byte-test.true
    ∙ ap (λ (a : Auditor). fed a (drop (i + 1) part))
    (elim c.if-byte-eq10.branch as (λ _. fed_byte c.loop-byte.auditor (get_or part i 0) ≡ c.if-byte-eq10.auditor) [
      | then-byte-eq10 w ↦ byte_ends _ on _ w.if-byte-eq10.true ∙ sym w.line_ended-auditor.ensures ∙ sym w.auditor-is
      | else-byte-eq10+then-auditor-lt-LINE_ROOM w ↦
          byte_kept _ on _ w.if-byte-eq10.false w.if-auditor-lt-LINE_ROOM.true ∙ sym w.auditor-is
      | else-byte-eq10+else-auditor-lt-LINE_ROOM w ↦ byte_dropped _ on _ w.if-byte-eq10.false (omega arith) ∙ sym w.auditor-is
    ])

-- past the last byte nothing is fed
fed_all : (a : Auditor) (s : List ℕ) (i : ℕ) → length s ≤ i → fed a (drop i s) ≡ a
unfolding fed
fed_all a s i h = rw (drop_of_length-le s h)

pub returns : goal.returns
returns c = sym (c.loop-byte.invariant ∙ fed_all _ _ _ c.loop-byte-test.false)
