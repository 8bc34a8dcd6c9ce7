-- In every list of calls from a fresh machine no answer is number 0: `never_unsound`. On a sound machine no call is refused by it (`not_unsound`), and
-- every machine of such a list is sound (SoundKept.antt).
use Rattle.tasks.specs.Refusals.{number_of}
use Rattle.std.proofs.Common.{Ok, Err}
use Prim.Native.Nat.{ℕ, ◌≤◌}
use mathlib.Core.Path.{◌≡◌}
use mathlib.Core.Bool.{true}
use mathlib.Core.List.{List, [], ◌∷◌, ◌++◌}
use Rattle.laws.proofs.CaseSplits.{clash}
use Rattle.tasks.specs.declared.table.Table.{Table}
use Rattle.tasks.specs.declared.refusals.Refusal.{Refusal}
use Rattle.tasks.proofs.OutcomeLaws.{Not0, done_not_0, refused_not_0}
use Rattle.machine.specs.Sound.{sound}
use Rattle.machine.specs.Calls.{start, step}
use Rattle.machine.specs.Play.{Entry, play}
use Rattle.machine.specs.declared.machine.Machine.{Machine}
use Rattle.machine.specs.declared.call.Call.{Call}
use Rattle.machine.proofs.CallKinds.{by_kind}
use Rattle.machine.proofs.SoundKept.{call_keeps, start_sound}

pub not_unsound : (m : Machine) → sound m ≡ true → (call : Call) → Not0 (step m call).outcome
not_unsound m ok =
    by_kind m (λ call answer. Not0 answer.outcome)
    (λ call why told. refused_not_0 why (told.some ok))
    (λ call m' silent. done_not_0)
    (λ k ran assigned taken. done_not_0)

each_not_0 :
    (calls : List Call) (m : Machine) → sound m ≡ true
    → (before after : List Entry) (e : Entry) → play m calls ≡ before ++ e ∷ after → Not0 e.outcome
unfolding play
each_not_0 [] m ok [] after e split = clash cc
each_not_0 [] m ok (y ∷ before) after e split = clash cc
each_not_0 (call ∷ calls) m ok [] after e split =
    let answer = step m call in
    let same : record { call = call; outcome = answer.outcome; report = answer.report } ≡ e = cc in
    rw (← same) (not_unsound m ok call)
each_not_0 (call ∷ calls) m ok (y ∷ before) after e split =
    let answer = step m call in
    let tail : play answer.machine calls ≡ before ++ e ∷ after = cc in
    each_not_0 calls answer.machine (call_keeps m ok call).is_sound before after e tail

pub never_unsound :
    (t : Table) (cores : ℕ) → (start t cores).outcome ≡ Ok tt
    → (calls : List Call) (before after : List Entry) (e : Entry) → play (start t cores).machine calls ≡ before ++ e ∷ after
    → (why : Refusal) → e.outcome ≡ Err why → 1 ≤ number_of why.reason
never_unsound t cores starts calls before after e split =
    (each_not_0 calls (start t cores).machine (start_sound t cores starts).is_sound before after e split).other
