use Rattle.std.proofs.Common.{◌∙◌, ap, sym, Bool, true}
use Rattle.office_history.specs.Positions.{lesser_code}
use Rattle.office_history.specs.declared.names.StudentPlace.{StudentPlace}
use Rattle.office_updates.proofs.EnrollmentsRows.{name_read}
use Rattle.office_updates.proofs.enrollments.with_beside.Goals as goal

pub is_paid_beside-requires : goal.is_paid_beside-requires
is_paid_beside-requires g c = (c.requires.enrollment.0, c.args.places.now.rows, c.requires.enrollment.1)

pub returns-then-is_paid_beside-clause-value : goal.returns-then-is_paid_beside-clause-value
returns-then-is_paid_beside-clause-value g c = λ f student e own.
    let rows = c.args.places.now.rows in
    let place = c.look-place.result.now in
    let beside = c.is_paid_beside.ensures.value f student rows c.requires.rows e c.look-place.ensures.here c.look-place.ensures.own own in
    let named = ap (λ (name : StudentPlace). name.school) (name_read c.args.filings.now rows f c.args.link.now e place.0 place.1 c.look-place.ensures.here) in
    c.lesser.ensures
    ∙ (λ i. lesser_code true (named i) c.args.least)
    ∙ ap (λ (b : Bool). lesser_code b f.key.school c.args.least) (sym c.if-is_paid_beside.true ∙ beside)

pub returns-else-is_paid_beside-clause-value : goal.returns-else-is_paid_beside-clause-value
returns-else-is_paid_beside-clause-value g c = λ f student e own.
    let beside = c.is_paid_beside.ensures.value f student c.args.places.now.rows c.requires.rows e c.look-place.ensures.here c.look-place.ensures.own own in
    ap (λ (b : Bool). lesser_code b f.key.school c.args.least) (sym c.if-is_paid_beside.false ∙ beside)
