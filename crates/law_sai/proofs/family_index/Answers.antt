use Rattle.std.proofs.Common.{pos, lit<, ◌∙◌}
use Rattle.aid_types.proofs.Machine.{machine}
use Rattle.aid_types.specs.declared.award.Formula.TheVariants.{C}
use Rattle.law_sai.specs.Index.{indexed}
use Rattle.law_sai.proofs.family_index.Goals as goal

pub returns-clause-value : goal.returns-clause-value
returns-clause-value c =
    let own = c.family-own.ensures.value in
    let raw = machine c.family-own.result.contribution _ c.family-own.ensures.contribution_in_range (lit< tt) ∙ (λ i. (own i).contribution) in
    c.indexed.ensures.value ∙ (λ i. indexed C (c.no_lines.ensures i) (own i) (pos 0) (raw i))
