use Rattle.office_updates.proofs.SchoolsAfter.{school_filed}
use Rattle.office_updates.proofs.after_schools.school_after.Goals as goal

pub returns-in-School : goal.returns-in-School
returns-in-School g c =
    rw c.next_position.ensures (school_filed (g.P.HistoryView.history c.args.past.now) c.args.filing.now c.in-School.facts c.in-School.is c.requires.2)
