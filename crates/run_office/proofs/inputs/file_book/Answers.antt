use Rattle.run_office.proofs.inputs.file_book.Goals as goal

pub returns-clause-session : goal.returns-clause-session
returns-clause-session g c = (c.file-ended.result.0, c.ended_filing.ensures, c.file-ended.ensures.session)
