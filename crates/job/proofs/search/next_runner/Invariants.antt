-- The invariants: the search has reached the candidate, and its rank is the smallest up to the rival.
use Rattle.std.proofs.Common.{length, ◌-◌, ◌≡◌, ◌≤◌}
use Rattle.job.proofs.RankSearch.{Least, Reached}
use Rattle.job.proofs.search.next_runner.Given as goal

abbrev pub invariant-rivals : goal.invariant-rivals
invariant-rivals l = record { same_candidate : l.candidate ≡ l.initial.candidate; least : Least l.ranks l.rival l.candidate }

abbrev pub invariant-candidates : goal.invariant-candidates
invariant-candidates l = record { candidate_fits : l.candidate ≤ length l.ranks; reached : Reached l.ranks l.candidate }

abbrev pub decreases-candidates : goal.decreases-candidates
decreases-candidates l = length l.ranks - l.candidate
