use Rattle.std.proofs.Common.{rules}
use Rattle.run_generate.proofs.Founding.{begun, ended}
use Rattle.run_generate.proofs.operations.YearOperations.begin_student.Goals as goal

pub returns-in_default : goal.returns-in_default
returns-in_default c =
    let is = ended c.args.self.now.year c.args.self.now.founded c.args.self.now.students c.requires.founded (search rules) in
    (rw c.requires.none is, rw c.requires.none is)

pub returns : goal.returns
returns c =
    rw (c.requires.none, c.application-operation.ensures)
    (begun c.args.self.now.year c.args.self.now.founded c.args.self.now.students c.in-Some.students c.in-Some.draws c.requires.founded (search rules) (search rules) (search rules) (search rules))
