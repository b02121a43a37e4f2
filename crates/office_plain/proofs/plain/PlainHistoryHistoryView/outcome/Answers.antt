use Rattle.std.proofs.Common.{◌≡◌, ◌+◌, ◌-◌, ◌<◌, List, length, reverse, ap, sym, ◌∙◌, arith}
use Rattle.std.proofs.lemmas.List.{length-reverse}
use Rattle.aid_filings.specs.declared.filing.Filing.{Filing}
use Rattle.office_history.specs.Answer.{outcome_at, outcome_of}
use Rattle.office_history.proofs.Slices.{legal_take}
use Rattle.office_plain.proofs.Indexed.{outcome_at-index}
use Rattle.office_plain.proofs.plain.PlainHistoryHistoryView.outcome.Goals as goal

pub new-past-requires : goal.new-past-requires
new-past-requires c = legal_take c.self.inside.filings.now (c.args.position - 1) c.self.invariant

pub new-requires : goal.new-requires
new-requires c = legal_take c.self.inside.filings.now (c.args.position - 1 + 1) c.self.invariant

pub returns : goal.returns
returns c =
    let h = c.self.inside.filings.now in
    let i = c.args.position - 1 in
    let inside : i < length h = omega (arith, length-reverse h, ap (λ (l : List Filing). length l) c.self.view_is) in
    let place : i + 1 ≡ c.args.position = omega arith in
    c.outcome_after.ensures
    ∙ ap (λ (l : List Filing). outcome_of l c.index-filings-index.result) c.new-past.ensures
    ∙ sym (outcome_at-index h i c.index-filings-index.result inside c.index-filings-index.is)
    ∙ ap (outcome_at (reverse h)) place
    ∙ ap (λ (l : List Filing). outcome_at l c.args.position) c.self.view_is
