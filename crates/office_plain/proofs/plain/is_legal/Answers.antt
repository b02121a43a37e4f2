use Rattle.std.proofs.Common.{◌≡◌, ◌∷◌, true, false, not, ap, reverse, take, sym, subst, ◌∙◌}
use Rattle.office_history.specs.Answer.{IsLegal, answer_of, is_admit}
use Rattle.office_history.proofs.Admitted.{admitted_legal}
use Rattle.office_history.proofs.Slices.{one_more}
use Rattle.office_history.proofs.Legal.{illegal}
use Rattle.office_plain.proofs.plain.is_legal.Goals as goal

pub returns-then-is_none : goal.returns-then-is_none
returns-then-is_none c =
    let h = c.args.filings.now in
    let f = c.index-filings-index.result in
    let past = reverse (take c.loop-index.index h) in
    let told : is_admit (answer_of c.new.result f) ≡ is_admit (answer_of past f) = λ i. is_admit (answer_of (c.new.ensures i) f) in
    let refused : is_admit (answer_of past f) ≡ false = sym told ∙ sym c.rule_on.ensures.admitted ∙ c.is_none.ensures ∙ ap not c.if-is_none.true in
    (λ h. cc, λ legal. absurd (illegal h c.loop-index.index f c.loop-index-test.true c.index-filings-index.is refused legal))

pub loop-index-preserved : goal.loop-index-preserved
loop-index-preserved c =
    let h = c.args.filings.now in
    let f = c.index-filings-index.result in
    let past = reverse (take c.loop-index.index h) in
    let told : is_admit (answer_of c.new.result f) ≡ is_admit (answer_of past f) = λ i. is_admit (answer_of (c.new.ensures i) f) in
    let admitted : is_admit (answer_of past f) ≡ true = sym told ∙ sym c.rule_on.ensures.admitted ∙ c.is_none.ensures ∙ ap not c.if-is_none.false in
    let whole : IsLegal (f ∷ past) = admitted_legal past f c.loop-index.invariant admitted in
    subst IsLegal (sym (one_more h c.loop-index.index f c.loop-index-test.true c.index-filings-index.is)) whole
