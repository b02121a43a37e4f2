use Rattle.std.proofs.Common.{◌++◌, ◌∙◌, sym}
use Rattle.aid_stamps.specs.Stamps.{stamp_bytes}
use Rattle.format_bytes.specs.Spelling.{spelling}
use Rattle.office_export.proofs.Digits.{same_bytes}
use Rattle.office_export.proofs.FilingBytes.{bytes-payload}
use Rattle.office_export.proofs.Found.{payload_fits}
use Rattle.office_export.proofs.reading.stamped_in.Goals as goal

pub returns-in_default-clause-none : goal.returns-in_default-clause-none
returns-in_default-clause-none c none s f is_s is_f e = c.in_default.ensures.none (stamp_bytes s ++ spelling f) (payload_fits s f is_s is_f) e

pub returns-in-Err-NotFiling-clause-none : goal.returns-in-Err-NotFiling-clause-none
returns-in-Err-NotFiling-clause-none c none s f is_s is_f e =
    let payload = stamp_bytes s ++ spelling f in
    let bytes = same_bytes _ payload c.in-Some.ensures.bytes (bytes-payload s f is_s) (c.in-Some.ensures.found.1 ∙ sym e) in
    let taken = c.take_stamped.ensures.only s f is_s is_f bytes (λ starved. let bad : ⊥ = cc in absurd bad) in
    let bad : ⊥ = cc in
    absurd bad
