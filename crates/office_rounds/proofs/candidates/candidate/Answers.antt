use Rattle.std.proofs.Common.{◌≡◌, ◌<◌, ap, arith, subst, sym, w32}
use Rattle.std.proofs.lemmas.Int.{to_z-of_z}
use Rattle.aid_types.specs.Ranges.{IsBetween, IsIndex}
use Rattle.office_history.specs.Answer.{standing_of}
use Rattle.office_history.specs.Positions.{withdrawn_at}
use Rattle.office_history.specs.Net.{net_at}
use Rattle.office_history.specs.Past.{credits}
use Rattle.office_history.proofs.Ranges.{credits_in_range}
use Rattle.office_rounds.specs.Candidates.{fund_cell}
use Rattle.office_history.proofs.IndexFits.{index_fits}
use Rattle.office_rounds.proofs.Fitting.{index_in_32, intensity_fits}
use Rattle.office_rounds.proofs.Originations.{full_fits}
use Rattle.office_rounds.proofs.candidates.candidate.Goals as goal
use Rattle.office_rounds.proofs.candidates.candidate.Goals.{then-standing-eq0-via-then-standing-eq0, then-standing-eq0-via-else-standing-eq0+then-place-eq0, then-standing-eq0-via-else-standing-eq0+else-place-eq0+then-place-gt0, then-standing-eq0-via-else-standing-eq0+else-place-eq0+else-place-gt0+then-granted-gt0}

pub returns-then-standing-eq0-clause-none : goal.returns-then-standing-eq0-clause-none
returns-then-standing-eq0-clause-none c = λ none d good same.
    let past = c.args.office.now.history in
    let r = c.args.request.now in
    elim c.then-standing-eq0.branch [
      | then-standing-eq0-via-then-standing-eq0 w ↦
          let some = subst (λ s. 0 < (standing_of past s r.year).transaction) same good.applied in
          omega (arith, some, ap (λ row. row.transaction) c.standing-standing.ensures.value, w.if-standing-eq0.true)
      | then-standing-eq0-via-else-standing-eq0+then-place-eq0 w ↦
          let some = subst (λ s. 0 < credits past r.school s r.year r.term) same good.enrolled in
          omega (arith, some, ap (λ row. row.credits) c.place-place.ensures, w.if-place-eq0.true)
      | then-standing-eq0-via-else-standing-eq0+else-place-eq0+then-place-gt0 w ↦
          let none = subst (λ s. withdrawn_at past r.school s r.year r.term ≡ 0) same good.attends in
          omega (arith, none, ap (λ row. row.withdrawn_at) c.place-place.ensures, w.if-place-gt0.true)
      | then-standing-eq0-via-else-standing-eq0+else-place-eq0+else-place-gt0+then-granted-gt0 w ↦
          let none = subst (λ s. net_at past (fund_cell r s) ≡ 0) same good.unpaid in
          omega (arith, none, c.granted_in_term-granted.ensures.value, w.if-granted-gt0.true)
    ]

pub intensity-requires-clause-credits : goal.intensity-requires-clause-credits
intensity-requires-clause-credits c =
    let r = c.args.request.now in
    let e = ap (λ row. row.credits) c.place-place.ensures in
    let most = credits_in_range c.args.office.now.history c.front-filings.ensures.legal r.school c.args.student r.year r.term in
    (omega (arith, c.if-place-eq0.false), omega (arith, e, most))

pub intensity-requires-clause-full : goal.intensity-requires-clause-full
intensity-requires-clause-full c =
    full_fits c.args.office.now.history c.front-filings.ensures.legal c.args.request.now.school c.args.student c.args.request.now.year c.requires c.full_time.result c.full_time.ensures

pub invariant_of-result : goal.invariant_of-result
invariant_of-result c =
    let past = c.args.office.now.history in
    let index : IsIndex c.standing-standing.result.sai =
    subst IsIndex (sym (ap (λ row. row.sai) c.standing-standing.ensures.value)) (index_fits past c.args.student c.args.request.now.year) in
    let full = full_fits past c.front-filings.ensures.legal c.args.request.now.school c.args.student c.args.request.now.year c.requires c.full_time.result c.full_time.ensures in
    record {
      in_range = record {
        need_fits = c.need.ensures.at_most;
        index_fits = subst IsIndex (sym (to_z-of_z w32 c.standing-standing.result.sai (index_in_32 c.standing-standing.result.sai index))) index;
        intensity_fits =
            subst (IsBetween 1 100) (sym c.intensity.ensures.value)
            (intensity_fits c.place-place.result.credits c.full_time.result (omega (arith, c.if-place-eq0.false)) full);
      };
    }
