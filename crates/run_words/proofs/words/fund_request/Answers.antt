use Rattle.std.proofs.Common.{◌≡◌, ◌∷◌, [], None, Some, refl, rules, sym, ◌∙◌}
use Rattle.run_words.proofs.PolicyWords.{first_named, named, reads_fund, reads_no_fund}
use Rattle.run_words.proofs.words.fund_request.Goals as goal

pub returns-in_err-place_of : goal.returns-in_err-place_of
returns-in_err-place_of g c =
    let none : c.place_of.result ≡ None = search rules in
    rw c.from_residual-in_err-place_of.ensures
    (reads_no_fund _ (c.args.school.now ∷ c.args.year.now ∷ c.args.term.now ∷ c.args.amount.now ∷ c.args.policy.now ∷ c.args.number.now ∷ []) c.args.policy.now (sym c.place_of.ensures ∙ none) refl)

pub returns : goal.returns
returns g c =
    let place = c.in_ok-place_of.field-0 in
    let at : c.place_of.result ≡ Some place = search rules in
    reads_fund _ (c.args.school.now ∷ c.args.year.now ∷ c.args.term.now ∷ c.args.amount.now ∷ c.args.policy.now ∷ c.args.number.now ∷ [])
    (record { school = c.in_ok-number_in.field-0; year = c.in_ok-number_in-2.field-0; term = c.in_ok-number_in-3.field-0; amount = c.in_ok-number_in-4.field-0; policy = place; number = c.in_ok-number_in-5.field-0; in_range = _ })
    (λ i. c.in_ok-number_in.ensures.spelled i ∷ c.in_ok-number_in-2.ensures.spelled i ∷ c.in_ok-number_in-3.ensures.spelled i ∷ c.in_ok-number_in-4.ensures.spelled i
    ∷ named _ c.args.policy.now place (sym c.place_of.ensures ∙ at) i ∷ c.in_ok-number_in-5.ensures.spelled i ∷ [])
    (first_named _ c.args.policy.now place (sym c.place_of.ensures ∙ at))
