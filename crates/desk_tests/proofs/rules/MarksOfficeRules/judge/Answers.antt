use Rattle.std.proofs.Common.{arith}
use Rattle.desk_tests.specs.MarkLaws.{legal_within}
use Rattle.desk_tests.proofs.rules.MarksOfficeRules.judge.Goals as goal

pub overflow_add-all : goal.overflow_add-all
overflow_add-all c = omega (arith, c.total-kept.ensures, legal_within c.args.index.now.list c.requires)

pub overflow_add-all-2 : goal.overflow_add-all-2
overflow_add-all-2 c = omega (arith, c.total-kept.ensures, legal_within c.args.index.now.list c.requires)
