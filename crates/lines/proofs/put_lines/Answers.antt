-- After the line of names, each turn puts a line more.
use Rattle.std.proofs.Common.{ℕ, suc, ◌+◌, ◌-◌, ◌≤◌, ◌≡◌, List, ◌++◌, min, arith}
use Rattle.text.proofs.Putting.{put_nothing, put_append}
use Rattle.tasks.specs.Limits.{max_cores}
use Rattle.lines.specs.Printed.{lines_up_to}
use Rattle.lines.proofs.put_lines.Goals as goal

-- the line of m cores comes after those of fewer
line_more : (line : ℕ → List ℕ) (m : ℕ) → 1 ≤ m → lines_up_to line m ≡ lines_up_to line (m - 1) ++ line m
unfolding lines_up_to
line_more line m some =
    let e : m ≡ suc (m - 1) = omega arith in
    let less : suc (m - 1) - 1 ≡ m - 1 = omega arith in
    rw (e, less)

pub loop-cores-init : goal.loop-cores-init
unfolding lines_up_to
loop-cores-init g c = grind (arith, put_nothing)

pub loop-cores-preserved : goal.loop-cores-preserved
loop-cores-preserved g c =
    let e : c.loop-cores.cores + 1 - 1 ≡ c.loop-cores.cores = omega arith in
    (omega arith, rw (e, line_more _ _ c.loop-cores.auto.cores) (grind (arith, put_append)))

pub returns : goal.returns
returns g c =
    let e : c.loop-cores.cores - 1 ≡ min max_cores c.args.count = omega arith in
    rw (← e) (grind (arith, put_append))

pub returns-2 : goal.returns-2
returns-2 g c =
    let e : c.loop-cores.cores ≡ min max_cores c.args.count = omega arith in
    rw (← e, line_more _ _ c.loop-cores.auto.cores) (grind (arith, put_append))
