use Rattle.std.proofs.Common.{◌≡◌, ℕ, ◌+◌, ◌∷◌, ◌∙◌, sym, ap, true, length, reverse, take, Some}
use Rattle.std.specs.Option.{option_copied}
use Rattle.office_history.specs.Positions.{lesser_code}
use Rattle.office_history.proofs.Slices.{one_more}
use Rattle.office_plain.specs.Terms.{calendar_in, earlier_place}
use Rattle.office_plain.proofs.Terms.{code, passed_by, place, taken_up}
use Rattle.office_plain.proofs.plain.PlainHistory.least.Goals as goal
use Rattle.office_plain.proofs.plain.PlainHistory.least.Goals.{then-passes, else-passes}

pub loop-filing-preserved : goal.loop-filing-preserved
loop-filing-preserved g c = λ test tests.
    let h = c.self.inside.filings.now in
    let i = c.loop-filing.filing-index in
    let past = reverse (take i h) in
    let f = c.filing-item.result in
    let so_far = c.loop-filing.invariant test tests in
    let next : f ∷ past ≡ reverse (take (i + 1) h) = sym (one_more h i f c.loop-filing-test.true c.filing-item.is) in
    let filed : calendar_in f.what ≡ Some c.in-Some.calendar.now = sym c.calendar_in.ensures ∙ ap option_copied c.in-Some.is in
    let tested = tests f.key.school (length past + 1) c.in-Some.calendar c.passes.result c.passes.ensures in
    elim c.if-passes.branch [
      | then-passes w ↦
          let k = taken_up test past f c.in-Some.calendar.now filed (sym tested ∙ w.if-passes.true) in (
            w.least-is ∙ w.lesser-least.ensures ∙ ap (λ (n : ℕ). lesser_code true n c.loop-filing.least) w.school.view_is
                ∙ ap (lesser_code true f.key.school) so_far.0 ∙ k.0 ∙ ap (code test) next,
            w.first-is ∙ w.earlier.ensures ∙ ap (earlier_place (f.key.school, c.in-Some.calendar.now.term)) so_far.1 ∙ k.1 ∙ ap (place test) next,
          )
      | else-passes w ↦
          let k = passed_by test past f c.in-Some.calendar.now filed (sym tested ∙ w.if-passes.false) in
          (w.least-is ∙ so_far.0 ∙ k.0 ∙ ap (code test) next, w.first-is ∙ so_far.1 ∙ k.1 ∙ ap (place test) next)
    ]
