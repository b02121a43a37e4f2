use Rattle.std.proofs.Common.{◌≡◌, ℕ, ◌+◌, length, List, ◌∷◌, ◌++◌, ap, subst, ◌∙◌, arith}
use Rattle.aid_filings.specs.declared.filing.Filing.{Filing}
use Rattle.office_history.specs.Answer.{outcome_at, outcome_of}
use Rattle.office_history.proofs.Recorded.{outcome_at-stays}
use Rattle.log_stamps.specs.Entries.{entries}
use Rattle.log_stamps.specs.StampedLaws.{length-entries}
use Rattle.office_amends.specs.Amended.{before, corrected}
use Rattle.office_amends.specs.Lines.{inserted_line}
use Rattle.office_amends.specs.Texts.{told_corrected, told_put}
use Rattle.office_amends.proofs.list.pass.Goals as goal

pub returns-clause-makes : goal.returns-clause-makes
returns-clause-makes c past newer split size made =
    let run = c.args.run.now in
    let cs = c.args.corrections.now in
    let f = c.args.filing.now in
    let list = corrected run cs past in
    let ins = before run cs f.key in
    let place : length (entries past) + 1 ≡ c.args.index + 1 = omega (arith, length-entries past, size) in
    let was : c.in-Some.was ≡ outcome_of (entries past) f =
    c.in-Some.ensures.value ∙ ap (λ (h : List Filing). outcome_at h (c.args.index + 1)) split
    ∙ subst (λ (n : ℕ). outcome_at (newer ++ f ∷ entries past) n ≡ outcome_of (entries past) f) place (outcome_at-stays newer (entries past) f) in
    let put = c.in_ok-put_insertions.ensures.makes list (told_corrected run cs past) made in
    rw (c.named_at.ensures, was) at c.put_place.ensures.makes (ins ++ list) (told_corrected run cs past ++ told_put inserted_line list ins) put
