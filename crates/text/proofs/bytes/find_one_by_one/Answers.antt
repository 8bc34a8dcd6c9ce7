-- The library's search, told by what stands before the byte.
use Rattle.std.proofs.Common.{◌≡◌, ◌∙◌, rules, tests, length}
use Rattle.std.specs.Prelude.{◌==◌, unwrap_or}
use Rattle.std.specs.List.{position}
use Rattle.std.proofs.lemmas.Iterator.{YieldsList-from_slice}
use Rattle.std.proofs.lemmas.Iterator.Search.{position_from_yields_List}
use Rattle.text.proofs.Scan.{before_position}
use Rattle.text.proofs.bytes.find_one_by_one.Goals as goal

pub returns : goal.returns
returns c =
    let text = c.args.text.now in
    let found : c.position.result ≡ position (λ x. x == c.args.byte) text =
    position_from_yields_List (λ x. x == c.args.byte) _ _ c.position.result c.position.ensures.ran (YieldsList-from_slice text cc) (λ x b q k. search (rules, tests)) in
    let r : c.unwrap_or.result ≡ unwrap_or c.position.result (length text) = c.unwrap_or.ensures in
    r ∙ rw found (before_position c.args.byte text)
