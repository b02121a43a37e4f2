use Rattle.std.proofs.Common.{◌≡◌, ℕ, ◌+◌, ◌≤◌, List, [], ◌∷◌, ap, length, reverse, subst, sym, ◌∙◌}
use Rattle.std.proofs.lemmas.List.{reverse-append}
use Rattle.law_work.specs.declared.filing.WorkFiling.{WorkFiling}
use Rattle.law_work.proofs.Covered.{covered}
use Rattle.law_work.specs.Changes.{HasReleases, award_after, fund_after}
use Rattle.law_work.specs.Register.{OnFile}
use Rattle.law_work.specs.Rows.{AreIndexed}
use Rattle.law_work.proofs.Grown.{index_grown, place_left, places_left}
use Rattle.law_work.proofs.index.WorkIndex.admit.Goals as goal

pub invariant_of-self : goal.invariant_of-self
invariant_of-self c =
    let past = c.args.self.now.history in
    let f = c.args.filing.now in
    let inside = c.self.inside in
    let view : reverse inside.filings.items ≡ past = ap (λ (o : OnFile). o.history) c.self.view_is in
    let told : List WorkFiling → Type 0 = λ l. AreIndexed l inside.funds.rows inside.awards.rows in
    let before : told past = subst told view c.self.invariant.0 in
    let releases : HasReleases past = covered past before.allowed in
    let here : c.count-position.result + 1 ≡ length past + 1 = ap (λ (n : ℕ). n + 1) c.count-position.ensures in
    let some : 1 ≤ inside.room = subst (λ (n : ℕ). 1 ≤ n) (sym (ap (λ (o : OnFile). o.room) c.self.view_is)) c.requires.room in
    let grown : reverse c.push_reserved.new.self.items ≡ f ∷ past =
    ap (λ (l : List WorkFiling). reverse l) c.push_reserved.ensures.items ∙ reverse-append inside.filings.items (f ∷ [])
    ∙ ap (λ (l : List WorkFiling). f ∷ l) view in
    let funds = c.write_fund.ensures.rows past releases (c.after-fund.ensures ∙ (λ i. fund_after (here i) f.what (c.fund.ensures.value i))) before.funds_told in
    let awards = c.write_award.ensures.rows past releases (c.after-award.ensures ∙ (λ i. award_after (here i) f.what (c.award.ensures.value i))) before.awards_told in (
      index_grown past _ f _ _ _ _ grown before c.requires.allowed funds awards,
      places_left inside.room _ _ _ _ some c.self.invariant.1 c.push_reserved.ensures.len c.push_reserved.ensures.capacity,
      place_left inside.room _ _ c.self.invariant.2 c.write_fund.ensures.room,
      place_left inside.room _ _ c.self.invariant.3 c.write_award.ensures.room,
    )
