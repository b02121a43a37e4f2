use Rattle.std.proofs.Common.{sym, ◌∙◌}
use Rattle.clock_hours.proofs.FieldLemmas.{none_found}
use Rattle.clock_hours.specs.Fields.{is_outside}
use Rattle.clock_hours.proofs.field.judge.Goals as goal

pub returns-clause-within : goal.returns-clause-within
returns-clause-within c = none_found is_outside c.args.fields.now (sym c.first_outside.ensures ∙ c.in_default-first_outside.is)
