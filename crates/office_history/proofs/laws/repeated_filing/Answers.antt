use Rattle.std.proofs.Common.{List, ◌+◌, ◌++◌, ◌∷◌, reverse, subst, ap, ◌∙◌}
use Rattle.std.proofs.lemmas.List.{length-reverse}
use Rattle.aid_filings.specs.declared.filing.Filing.{Filing}
use Rattle.aid_filings.specs.declared.reply.Response.TheVariants.{Again}
use Rattle.office_history.specs.Answer.{IsLegal, answer_of, outcome_of}
use Rattle.office_history.proofs.Oldest.{reverse-middle}
use Rattle.office_history.proofs.Recorded.{answer_of-repeated}
use Rattle.office_history.proofs.laws.repeated_filing.Goals as goal

pub returns : goal.returns
returns c =
    let before = c.args.before.now in
    let f = c.args.filing.now in
    let after = c.args.after.now in
    let whole = reverse-middle before after f in
    let legal : IsLegal (reverse after ++ f ∷ reverse before) = subst IsLegal whole c.requires in
    ap (λ (past : List Filing). answer_of past f) whole
    ∙ answer_of-repeated (reverse after) (reverse before) f legal
    ∙ ap (λ n. Again (n + 1) (outcome_of (reverse before) f)) (length-reverse before)
