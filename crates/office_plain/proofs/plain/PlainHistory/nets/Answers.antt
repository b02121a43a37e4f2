use Rattle.std.proofs.Common.{◌∷◌, List, reverse, take, sym, ap, subst, ◌∙◌}
use Rattle.aid_types.specs.Programs.{plus, six}
use Rattle.aid_filings.specs.declared.filing.Filing.{Filing}
use Rattle.office_history.specs.Answer.{IsLegal}
use Rattle.office_history.specs.Net.{in_year, moved, net_at, paid, payments_in, taken, takings_in}
use Rattle.office_history.proofs.Cells.{onto_is}
use Rattle.office_history.proofs.Sixes.{plus-six}
use Rattle.office_history.proofs.Slices.{legal_at, legal_take, one_more}
use Rattle.office_plain.proofs.Moves.{fit, paid-parts, paid-so_far, taken-parts, taken-so_far}
use Rattle.office_plain.proofs.plain.PlainHistory.nets.Goals as goal

pub new-past-requires : goal.new-past-requires
new-past-requires c = legal_take c.self.inside.filings.now c.loop-index.index c.self.invariant

pub moved_in-more_paid-requires : goal.moved_in-more_paid-requires
moved_in-more_paid-requires c =
    let f = c.index-filings-index.result in
    subst (λ (past : List Filing). IsLegal (f ∷ past)) (sym c.new-past.ensures)
    (legal_at c.self.inside.filings.now c.loop-index.index f c.loop-index-test.true c.index-filings-index.is c.self.invariant)

pub plus-paid-requires : goal.plus-paid-requires
plus-paid-requires c =
    let h = c.self.inside.filings.now in
    let past = reverse (take c.loop-index.index h) in
    let f = c.index-filings-index.result in
    let legal = legal_at h c.loop-index.index f c.loop-index-test.true c.index-filings-index.is c.self.invariant in
    let cell = in_year c.args.student c.args.year in
    fit c.loop-index.paid _ c.moved_in-more_paid.result.0 _ c.loop-index.invariant.paid (paid-so_far past legal.0 cell)
    c.moved_in-more_paid.ensures.paid (paid-parts past f legal cell)

pub plus-taken-requires : goal.plus-taken-requires
plus-taken-requires c =
    let h = c.self.inside.filings.now in
    let past = reverse (take c.loop-index.index h) in
    let f = c.index-filings-index.result in
    let legal = legal_at h c.loop-index.index f c.loop-index-test.true c.index-filings-index.is c.self.invariant in
    let cell = in_year c.args.student c.args.year in
    let here = c.moved_in-more_paid.ensures.taken ∙ ap (λ (p : List Filing). six (λ q. moved (cell q) (takings_in p (net_at p) f.key f.what))) c.new-past.ensures in
    fit c.loop-index.taken _ c.moved_in-more_paid.result.1 _ c.loop-index.invariant.taken (taken-so_far past legal.0 cell) here (taken-parts past f legal cell)

pub loop-index-preserved : goal.loop-index-preserved
loop-index-preserved c =
    let h = c.self.inside.filings.now in
    let past = reverse (take c.loop-index.index h) in
    let f = c.index-filings-index.result in
    let cell = in_year c.args.student c.args.year in
    let next = sym (one_more h c.loop-index.index f c.loop-index-test.true c.index-filings-index.is) in
    let here = c.moved_in-more_paid.ensures.taken ∙ ap (λ (p : List Filing). six (λ q. moved (cell q) (takings_in p (net_at p) f.key f.what))) c.new-past.ensures in
    record {
      paid = c.plus-paid.ensures ∙ (λ i. plus (c.loop-index.invariant.paid i) (c.moved_in-more_paid.ensures.paid i))
          ∙ plus-six (λ p. paid past (cell p)) (λ p. moved (cell p) (payments_in f.key f.what)) (λ p. paid (f ∷ past) (cell p))
          (λ p. onto_is (cell p) (payments_in f.key f.what) (paid past (cell p)))
          ∙ ap (λ (l : List Filing). six (λ p. paid l (cell p))) next;
      taken = c.plus-taken.ensures ∙ (λ i. plus (c.loop-index.invariant.taken i) (here i))
          ∙ plus-six (λ p. taken past (cell p)) (λ p. moved (cell p) (takings_in past (net_at past) f.key f.what)) (λ p. taken (f ∷ past) (cell p))
          (λ p. onto_is (cell p) (takings_in past (net_at past) f.key f.what) (taken past (cell p)))
          ∙ ap (λ (l : List Filing). six (λ p. taken l (cell p))) next;
    }
