use Rattle.std.proofs.Common.{◌≡◌, ◌+◌, ◌∷◌, refl, Bool, List, reverse, take, sym, ap, subst, ◌∙◌, arith}
use Rattle.aid_filings.specs.declared.filing.Filing.{Filing}
use Rattle.office_history.specs.Answer.{IsLegal}
use Rattle.office_history.specs.Net.{moved, paid, taken, net_at, payments_in, takings_in}
use Rattle.office_history.proofs.Cells.{onto_is}
use Rattle.office_history.proofs.AnyNets.{any_net_stands}
use Rattle.office_history.specs.Past.{is_extra, the_term}
use Rattle.office_history.specs.declared.place.Place.{Place}
use Rattle.office_plain.specs.CellTests.{test_of}
use Rattle.office_plain.proofs.Asked.{none_in}
use Rattle.office_history.proofs.Slices.{legal_at, legal_take, one_more}
use Rattle.office_history.proofs.Bounds.{paid-most, taken-most}
use Rattle.office_plain.proofs.plain.PlainHistory.net_of.Goals as goal

pub new-past-requires : goal.new-past-requires
new-past-requires c = legal_take c.self.inside.filings.now c.loop-index.index c.self.invariant

pub loop-index-init : goal.loop-index-init
loop-index-init c = record {
  asked = none_in (λ (a : Place × Bool). a.1 ≡ is_extra (the_term c.args.self.now a.0.school a.0.year a.0.term)) 64;
  paid = refl;
  taken = refl;
}

pub moved_at-more_paid-requires-clause-legal : goal.moved_at-more_paid-requires-clause-legal
moved_at-more_paid-requires-clause-legal c =
    let f = c.index-filings-index.result in
    subst (λ (past : List Filing). IsLegal (f ∷ past)) (sym c.new-past.ensures)
    (legal_at c.self.inside.filings.now c.loop-index.index f c.loop-index-test.true c.index-filings-index.is c.self.invariant)

pub overflow_add-paid : goal.overflow_add-paid
overflow_add-paid c =
    let h = c.self.inside.filings.now in
    let past = reverse (take c.loop-index.index h) in
    let f = c.index-filings-index.result in
    let sel = test_of c.args.self.now c.args.cells.now in
    let more = onto_is sel (payments_in f.key f.what) (paid past sel) in
    let most = paid-most (f ∷ past) (legal_at h c.loop-index.index f c.loop-index-test.true c.index-filings-index.is c.self.invariant) sel in
    omega (arith, more, most, c.loop-index.invariant.paid, c.moved_at-more_paid.ensures.paid)

pub overflow_add-taken : goal.overflow_add-taken
overflow_add-taken c =
    let h = c.self.inside.filings.now in
    let past = reverse (take c.loop-index.index h) in
    let f = c.index-filings-index.result in
    let sel = test_of c.args.self.now c.args.cells.now in
    let more = onto_is sel (takings_in past (net_at past) f.key f.what) (taken past sel) in
    let most = taken-most (f ∷ past) (legal_at h c.loop-index.index f c.loop-index-test.true c.index-filings-index.is c.self.invariant) sel in
    let here = c.moved_at-more_paid.ensures.taken ∙ ap (λ (p : List Filing). moved sel (takings_in p (net_at p) f.key f.what)) c.new-past.ensures in
    omega (arith, more, most, c.loop-index.invariant.taken, here)

pub loop-index-preserved : goal.loop-index-preserved
loop-index-preserved c =
    let h = c.self.inside.filings.now in
    let past = reverse (take c.loop-index.index h) in
    let f = c.index-filings-index.result in
    let sel = test_of c.args.self.now c.args.cells.now in
    let next = sym (one_more h c.loop-index.index f c.loop-index-test.true c.index-filings-index.is) in
    let paid_more = onto_is sel (payments_in f.key f.what) (paid past sel) in
    let taken_more = onto_is sel (takings_in past (net_at past) f.key f.what) (taken past sel) in
    let here = c.moved_at-more_paid.ensures.taken ∙ ap (λ (p : List Filing). moved sel (takings_in p (net_at p) f.key f.what)) c.new-past.ensures in
    record {
      asked = c.moved_at-more_paid.ensures.asked;
      paid = subst (λ (p : List Filing). c.loop-index.paid + c.moved_at-more_paid.result.0 ≡ paid p sel) next (omega (arith, paid_more, c.loop-index.invariant.paid, c.moved_at-more_paid.ensures.paid));
      taken = subst (λ (p : List Filing). c.loop-index.taken + c.moved_at-more_paid.result.1 ≡ taken p sel) next (omega (arith, taken_more, c.loop-index.invariant.taken, here));
    }

pub overflow_sub-result : goal.overflow_sub-result
overflow_sub-result c =
    let h = c.self.inside.filings.now in
    let stands = any_net_stands (reverse (take c.loop-index.index h)) (legal_take h c.loop-index.index c.self.invariant) (test_of c.args.self.now c.args.cells.now) in
    omega (arith, stands, c.loop-index.invariant.paid, c.loop-index.invariant.taken)
