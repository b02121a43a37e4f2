use Rattle.std.proofs.Common.{rules, ap, sym, ◌∙◌}
use Rattle.hex.specs.Hex.{encode_lower}
use Rattle.office_export.specs.Forms.{are_digits}
use Rattle.office_export.proofs.Digits.{same_bytes}
use Rattle.office_export.proofs.FilingBytes.{bytes-spelling}
use Rattle.office_export.proofs.Found.{filing_fits}
use Rattle.office_export.proofs.Laws.{digits_of}
use Rattle.office_export.proofs.reading.filing_of_digits.Goals as goal

pub returns-then-not-are_digits-clause-none : goal.returns-then-not-are_digits-clause-none
returns-then-not-are_digits-clause-none c none f is_f e =
    let digits = sym (ap are_digits e) ∙ digits_of f in
    search rules

pub returns-in_default-clause-none : goal.returns-in_default-clause-none
returns-in_default-clause-none c none f is_f e = c.in_default.ensures.none _ (filing_fits f is_f) e

pub returns-in-Ok-clause-found : goal.returns-in-Ok-clause-found
returns-in-Ok-clause-found c = (c.in-Ok.ensures.found.0, ap encode_lower (sym c.in-Ok.ensures.found.1) ∙ c.in-Some.ensures.found.1)

pub returns-in-Err-NotFiling-clause-none : goal.returns-in-Err-NotFiling-clause-none
returns-in-Err-NotFiling-clause-none c none f is_f e =
    let bytes = same_bytes _ _ c.in-Some.ensures.bytes (bytes-spelling f) (c.in-Some.ensures.found.1 ∙ sym e) in
    let taken = c.take.ensures.only f is_f bytes (λ starved. let bad : ⊥ = cc in absurd bad) in
    let bad : ⊥ = cc in
    absurd bad
