-- The tasks whose numbers are lent.
use Rattle.edzl.specs.TaskSet.{TaskSet}
use Rattle.judge.specs.declared.numbers.Numbers.{Numbers}
use Rattle.judge.specs.Listed.{listed}

-- The tasks with the numbers of three lent lists.
abbrev pub set_of : Numbers → TaskSet
set_of numbers = listed numbers.periods.now numbers.budgets.now numbers.deadlines.now numbers.count
