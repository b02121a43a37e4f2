use Rattle.std.proofs.Common.{rules}
use Rattle.web_session.proofs.HeadLines.{none_at_all}
use Rattle.web_session.proofs.head.whole_head.Goals as goal

pub returns-clause-none : goal.returns-clause-none
returns-clause-none c =
    none_at_all c.head_of.result _ c.args.block.now (search rules) (search rules) c.head_of.ensures.none
