use Rattle.std.proofs.Common.{◌≡◌, ℕ, ◌+◌, ◌-◌, ◌^◌, ◌≤◌, None, length, reverse, ap, arith, subst, sym, ◌∙◌}
use Rattle.office_index.specs.Digits.{digits_of}
use Rattle.office_index.specs.Register.{Register}
use Rattle.office_index.proofs.Digits.{few_looks}
use Rattle.office_index.proofs.Looked.{position_none, some_met}
use Rattle.office_index.proofs.RowsWritten.{position_is}
use Rattle.sorted_rows.specs.Places.{value_at}
use Rattle.aid_types.specs.declared.number.Key.{Key}
use Rattle.office_history.specs.Past.{key_at}
use Rattle.office_index.specs.Index.{filing_cmp, filing_name, position_of, position_or}
use Rattle.office_index.proofs.indexed.IndexedHistoryView.key_at.Goals as goal

pub returns-clause-cost : goal.returns-clause-cost
returns-clause-cost g c =
    let few : length c.self.inside.keys.rows ≤ length (reverse c.self.inside.filings.items) = omega (arith, c.self.invariant.0.all_keys) in
    c.get.ensures.twice (digits_of (length c.args.self.now.history)) (few_looks _ _ _ (ap (λ (r : Register). r.history) c.self.view_is) few)

pub returns-clause-value : goal.returns-clause-value
returns-clause-value g c =
    c.position_told.ensures
    ∙ ap position_or
    (c.get.ensures.value ∙ ap (λ (key : Key). value_at filing_cmp (filing_name key) c.self.inside.keys.rows) c.key.view_is ∙ c.self.invariant.0.keys c.args.key.now)
    ∙ position_is _
    ∙ ap (λ (r : Register). key_at c.args.key.now r.history) c.self.view_is

-- a position that is told was met, and where none is, all keys were missed
pub returns-clause-met : goal.returns-clause-met
returns-clause-met g c = λ counts some.
    some_met c.get.result c.args.steps.now c.get.new.steps c.get.ensures.met (λ none. some (c.position_told.ensures ∙ none))

pub returns-clause-missed : goal.returns-clause-missed
returns-clause-missed g c = λ counts none.
    let found : c.get.result ≡ position_of (key_at c.args.key.now (reverse c.self.inside.filings.items)) =
    c.get.ensures.value ∙ ap (λ (key : Key). value_at filing_cmp (filing_name key) c.self.inside.keys.rows) c.key.view_is ∙ c.self.invariant.0.keys c.args.key.now in
    let gone : c.get.result ≡ None = position_none c.get.result _ found (sym c.position_told.ensures ∙ none) in
    let all : length c.self.inside.keys.rows ≡ length c.args.self.now.history = c.self.invariant.0.all_keys ∙ ap (λ (r : Register). length r.history) c.self.view_is in
    subst (λ (n : ℕ). n + 2 ≤ 2 ^ (c.get.new.steps - c.args.steps.now + 1)) all (c.get.ensures.missed gone)
