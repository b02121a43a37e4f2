use Rattle.run_program.proofs.outside.amend_task.Goals as goal

pub returns-in-None : goal.returns-in-None
returns-in-None h c stamp file number is = c.amend_request.ensures.none c.in-None.is stamp file number is
