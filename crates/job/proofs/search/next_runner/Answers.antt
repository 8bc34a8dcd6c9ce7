-- Each turn of the loops is one of RankSearch.antt's, by the test that was made.
use Rattle.std.proofs.Common.{◌≡◌, length, arith, refl, sym, ◌∙◌}
use Rattle.job.proofs.RankSearch.{reached_idle, reached_waiting, reached_rival, least_past_idle, least_stays, least_is_next, none_is_next}
use Rattle.job.proofs.search.next_runner.Goals as goal

pub candidates-preserved-then-not-waits : goal.candidates-preserved-then-not-waits
candidates-preserved-then-not-waits c = record {
  candidate_fits = omega arith;
  reached = reached_idle c.candidates.invariant.reached (sym c.waits.ensures ∙ c.if-not-waits.true);
}

pub rivals-init : goal.rivals-init
rivals-init c = record {
  same_candidate = refl;
  least = reached_waiting c.candidates.invariant.reached (sym c.waits.ensures ∙ c.if-not-waits.false);
}

pub rivals-preserved-then-not-waits-2 : goal.rivals-preserved-then-not-waits-2
rivals-preserved-then-not-waits-2 c = record {
  same_candidate = c.rivals.invariant.same_candidate;
  least = least_past_idle c.rivals.invariant.least (sym c.waits-in-rivals.ensures ∙ c.if-not-waits-2.true);
}

pub candidates-preserved : goal.candidates-preserved
candidates-preserved c = record {
  candidate_fits = omega arith;
  reached = reached_rival c.rivals.invariant.least c.rivals-test.true (sym c.precedes.ensures ∙ c.if-precedes.true);
}

pub rivals-preserved : goal.rivals-preserved
rivals-preserved c = record {
  same_candidate = c.rivals.invariant.same_candidate;
  least = least_stays c.rivals.invariant.least (sym c.precedes.ensures ∙ c.if-precedes.false);
}

pub returns-in-candidates : goal.returns-in-candidates
returns-in-candidates c =
    let e : c.rivals.rival ≡ length c.args.ranks.now = omega arith in
    sym (least_is_next _ _ (rw e at c.rivals.invariant.least))

pub returns : goal.returns
returns c =
    let e : c.candidates.candidate ≡ length c.args.ranks.now = omega arith in
    sym (none_is_next _ (rw e at c.candidates.invariant.reached))
