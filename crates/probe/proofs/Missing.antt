-- Of a value that is missing: `cond_none`, that its test failed; `handed_on`, the error that `?` answers; and `failed`, that error where `ok_or` names it.
use Rattle.std.proofs.Common.{ℕ, ◌≡◌, sym, Bool, false, cond, Option, Some, None, Result, Ok, Err}
use Rattle.std.specs.Option.{ok_or}
use Rattle.std.specs.Result.{IsErrAnd}
use Rattle.std.proofs.lemmas.Option.{none-some}
use Rattle.laws.proofs.CaseSplits.{by_cond}

pub cond_none : {A : Type 0} (b : Bool) (x : A) → cond b (Some x) None ≡ None → b ≡ false
cond_none b x = by_cond (λ r. r ≡ None → b ≡ false) b (λ t e. absurd (none-some x (sym e))) (λ f e. f)

pub handed_on : {A : Type 0} (e : ℕ) (r : Result A ℕ) → IsErrAnd r (λ x. x ≡ e) → r ≡ Err e
handed_on e (Ok x) h = absurd h
handed_on e (Err x) h = cc

pub failed : {A B : Type 0} (o : Option A) (e given : ℕ) (r : Result B ℕ) → Err given ≡ ok_or o e → IsErrAnd r (λ x. x ≡ given) → r ≡ Err e
failed (Some x) e given r p h = cc
failed None e given r p h = let q : given ≡ e = cc in rw (← q) (handed_on given r h)
