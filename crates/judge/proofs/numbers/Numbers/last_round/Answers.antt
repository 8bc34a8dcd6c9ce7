-- `last_round` meets its contract.
use Rattle.std.proofs.Common.{ℕ, suc, ◌+◌, ◌-◌, ◌≤◌, ◌≡◌, ◌∙◌, sym, ap, List, arith}
use mathlib.Core.Logic.{◌⊎◌, inl, inr, ⊎_elim}
use lib.ListN.{replicate}
use Rattle.laws.proofs.Replaced.{replicate_entry}
use Rattle.edzl.specs.TaskSet.{TaskSet}
use Rattle.edzl.specs.Window.{spare}
use Rattle.edzl.specs.Slack.{all_rounds}
use Rattle.edzl.proofs.SlackRounds.{slack_after, slacks_fit}
use Rattle.judge.specs.Numbers.{set_of}
use Rattle.judge.specs.Parts.{own_at, SumsWithOwn, LastSumsWithOwn}
use Rattle.judge.proofs.Listed.{well_listed}
use Rattle.judge.proofs.RoundsHeld.{AtRound, Computed, after_round, none_before, first_sum, first_on, next_sum, still_on, last_held}
use Rattle.judge.proofs.numbers.Numbers.last_round.Goals as goal

pub loop-made-init : goal.loop-made-init
loop-made-init c =
    let a = c.args in
    let set = set_of a.self.now in
    let m = a.cores in
    let e = c.next_slacks-changed.ensures in
    let slacks = c.next_slacks-changed.new.slacks in
    let computed : Computed set m (slack_after set m 0) (replicate 32 0) a.sums.now slacks c.next_slacks-changed.result
    = record {
      sums_are = λ k h. c.requires.first_sums k h ∙ ap (λ (n : ℕ). n + own_at set k) (first_sum set m k h);
      slacks_are = e.slacks;
      changed_is = e.changed;
    } in
    after_round set m 0 (omega arith) (replicate 32 0) a.sums.now slacks c.next_slacks-changed.result
    (λ k h. replicate_entry 32 k 0 ∙ none_before set m k h)
    computed
    (first_on set m)

-- Where the rounds end, the last one is the round of its number.
last_is : (set : TaskSet) (m made : ℕ) (before sums slacks : List ℕ) (changed : ℕ) →
    1 ≤ made → AtRound set m (made - 1) before sums slacks changed → (changed ≡ 0) ⊎ (made ≡ 64) →
    (made ≡ (all_rounds set m).made) × LastSumsWithOwn set m sums
last_is set m made before sums slacks changed begun held end =
    let e : suc (made - 1) ≡ made = omega arith in
    let last = last_held set m (made - 1) before sums slacks changed held (⊎_elim inl (λ cut. inr (e ∙ cut)) end) in
    (sym e ∙ last.0, last.1)

pub returns-then-changed-eq0 : goal.returns-then-changed-eq0
returns-then-changed-eq0 c =
    let v = c.loop-made in
    let last = last_is (set_of c.args.self.now) c.args.cores v.made v.before v.sums v.slacks v.changed (omega arith) v.invariant (inl c.if-changed-eq0.true) in
    record { rounds = last.0; last_sums = last.1 }

pub next_sums-requires : goal.next_sums-requires
unfolding spare
next_sums-requires c =
    let a = c.args in
    let v = c.loop-made in
    let set = set_of a.self.now in
    record {
      sums_before = λ k h. v.invariant.sums_are k h ∙ sym (next_sum set a.cores (well_listed a.self.now) (v.made - 1) v.before v.invariant.before_are k h);
      slacks_fit = λ k h. rw (v.invariant.slacks_are k h) (slacks_fit set a.cores (suc (v.made - 1)) k h);
    }

pub next_slacks-changed-requires-in-loop-made : goal.next_slacks-changed-requires-in-loop-made
next_slacks-changed-requires-in-loop-made c =
    let a = c.args in
    let v = c.loop-made in
    let set = set_of a.self.now in
    let r = suc (v.made - 1) in
    -- The sums of the next round, each with the own part.
    let sums_next : SumsWithOwn set (slack_after set a.cores r) c.next_sums.new.sums
    = λ k h. c.next_sums.ensures k h ∙ next_sum set a.cores (well_listed a.self.now) r v.slacks v.invariant.slacks_are k h in
    record {
      cores_some = c.requires.cores_some;
      cores_fit = c.requires.cores_fit;
      own_within = λ k h. omega (arith, sums_next k h);
    }

pub loop-made-preserved : goal.loop-made-preserved
loop-made-preserved c =
    let a = c.args in
    let v = c.loop-made in
    let m = a.cores in
    let set = set_of a.self.now in
    let r = suc (v.made - 1) in
    let e = c.next_slacks-changed-in-loop-made.ensures in
    let changed = c.next_slacks-changed-in-loop-made.result in
    let sums = c.next_sums.new.sums in
    let slacks = c.next_slacks-changed-in-loop-made.new.slacks in
    let sums_next : SumsWithOwn set (slack_after set m r) sums
    = λ k h. c.next_sums.ensures k h ∙ next_sum set m (well_listed a.self.now) r v.slacks v.invariant.slacks_are k h in
    let computed : Computed set m (slack_after set m r) v.slacks sums slacks changed
    = record { sums_are = sums_next; slacks_are = e.slacks; changed_is = e.changed } in
    let again : v.made + 1 - 1 ≡ r = omega arith in
    rw again
    (after_round set m r (omega arith) v.slacks sums slacks changed
    v.invariant.slacks_are
    computed
    (still_on set m (v.made - 1) v.before v.sums v.slacks v.changed v.invariant c.if-changed-eq0.false))

pub returns : goal.returns
returns c =
    let v = c.loop-made in
    let last = last_is (set_of c.args.self.now) c.args.cores v.made v.before v.sums v.slacks v.changed (omega arith) v.invariant (inr (omega arith)) in
    record { rounds = omega (arith, last.0); last_sums = last.1 }
