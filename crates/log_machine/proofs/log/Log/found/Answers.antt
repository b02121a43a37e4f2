use Rattle.log_machine.proofs.log.Log.found.Goals as goal

pub returns-in-Ok-found-clause-moments : goal.returns-in-Ok-found-clause-moments
returns-in-Ok-found-clause-moments g c = rw c.header.ensures at c.in-Ok-found.ensures.moments

pub returns-in-Err-Exists-default-clause-moments_err : goal.returns-in-Err-Exists-default-clause-moments_err
returns-in-Err-Exists-default-clause-moments_err g c = rw c.header.ensures at c.in-Err-Exists-default.ensures.moments_err

pub returns-in-Err-NotJournal-default-clause-moments_err : goal.returns-in-Err-NotJournal-default-clause-moments_err
returns-in-Err-NotJournal-default-clause-moments_err g c = rw c.header.ensures at c.in-Err-NotJournal-default.ensures.moments_err

pub returns-clause-moments_err : goal.returns-clause-moments_err
returns-clause-moments_err g c = rw c.header.ensures at c.in-Err-DiskFault-default.ensures.moments_err
