use Rattle.std.proofs.Common.{sym, ap, ◌∙◌, ◌&&◌, Bool, false, List}
use Rattle.std.specs.Prelude.{◌==◌}
use Rattle.aid_types.specs.Programs.{six}
use Rattle.office_history.specs.Net.{Move, in_year, moved, net_at, takings_in}
use Rattle.office_history.proofs.Own.{moves-in, still}
use Rattle.office_plain.proofs.Moves.{both, moved-in-none, moved-in-year}
use Rattle.office_plain.proofs.plain.PlainHistory.moved_in.Goals as goal
use Rattle.office_plain.proofs.plain.PlainHistory.moved_in.Goals.{in_default-via-in-Some+then-eq+else-eq-2, in_default-via-in-Some+else-eq, in_default-via-in_default}

pub returns-in-Some-clause-taken : goal.returns-in-Some-clause-taken
returns-in-Some-clause-taken c =
    let f = c.args.filing.now in
    let o = c.in-Some.own in
    let past = c.args.self.now in
    c.paid_and_taken.ensures.taken
    ∙ moved-in-year c.args.student c.args.year o (takings_in past (net_at past) f.key f.what) (moves-in past f.key f.what o (sym c.of.ensures ∙ c.in-Some.is)).taken
    (both (o.student == c.args.student) (o.year == c.args.year) (sym c.eq.ensures ∙ c.if-eq.true) (sym c.eq-then-eq.ensures ∙ c.if-eq-2.true))

pub returns-in_default-clause-taken : goal.returns-in_default-clause-taken
returns-in_default-clause-taken c =
    let f = c.args.filing.now in
    let past = c.args.self.now in
    let ms = takings_in past (net_at past) f.key f.what in
    elim c.in_default.branch [
      | in_default-via-in-Some+then-eq+else-eq-2 w ↦
          moved-in-none c.args.student c.args.year w.in-Some.own ms (moves-in past f.key f.what w.in-Some.own (sym c.of.ensures ∙ w.in-Some.is)).taken
          (ap (λ (b : Bool). (w.in-Some.own.student == c.args.student) && b) (sym w.eq-then-eq.ensures ∙ w.if-eq-2.false) ∙ ap (λ (b : Bool). b && false) (sym w.eq.ensures ∙ w.if-eq.true))
      | in_default-via-in-Some+else-eq w ↦
          moved-in-none c.args.student c.args.year w.in-Some.own ms (moves-in past f.key f.what w.in-Some.own (sym c.of.ensures ∙ w.in-Some.is)).taken
          (ap (λ (b : Bool). b && (w.in-Some.own.year == c.args.year)) (sym w.eq.ensures ∙ w.if-eq.false))
      | in_default-via-in_default w ↦
          sym (ap (λ (ms : List Move). six (λ p. moved (in_year c.args.student c.args.year p) ms)) (still past f.key f.what (sym c.of.ensures ∙ w.in_default.is)).taken)
    ]
