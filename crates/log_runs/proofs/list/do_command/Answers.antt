use Rattle.log_runs.specs.Lists.{filing, founding}
use Rattle.log_runs.proofs.list.do_command.Goals as goal

pub returns-in-Found-clause-does : goal.returns-in-Found-clause-does
returns-in-Found-clause-does g c = rw (c.in-Found.is, c.ended_founding.ensures) (founding c.found-ended.result.0 c.found-ended.ensures.session)

pub returns-in-File-clause-does : goal.returns-in-File-clause-does
returns-in-File-clause-does g c = rw (c.in-File.is, c.ended_filing.ensures) (filing c.file-ended.result.0 c.file-ended.ensures.session)
