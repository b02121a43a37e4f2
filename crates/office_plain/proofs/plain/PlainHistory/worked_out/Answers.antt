use Rattle.std.proofs.Common.{sym, subst}
use Rattle.aid_types.specs.Ranges.{EachIsCents}
use Rattle.law_r2t4.specs.declared.Lines.{Lines}
use Rattle.office_answers.proofs.Owed.{owed_is_small}
use Rattle.office_plain.proofs.plain.PlainHistory.worked_out.Goals as goal

pub returned_outcome-requires : goal.returned_outcome-requires
returned_outcome-requires c =
    subst (λ (l : Lines). EachIsCents l.owed) (sym c.sheet.ensures) (owed_is_small c.args.self.now c.front-filings.ensures.legal c.args.key.now c.args.facts.now)
