use Rattle.run_builds.proofs.source.read_list.Goals as goal

pub returns-in-Err-Damaged-default-clause-refuses : goal.returns-in-Err-Damaged-default-clause-refuses
returns-in-Err-Damaged-default-clause-refuses g c honest = c.in-Err-Damaged-default.ensures.damaged honest c.in-Err-Damaged-default.place c.in-Err-Damaged-default.field-0-0-is
