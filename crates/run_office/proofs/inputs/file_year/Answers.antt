use Rattle.run_office.proofs.inputs.file_year.Goals as goal

pub returns-clause-session : goal.returns-clause-session
returns-clause-session g c = (c.file_counted-ended.result.0, c.ended_filing.ensures, c.file_counted-ended.ensures.session)
