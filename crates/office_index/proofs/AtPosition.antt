-- There is a filing at each position from 1 to the number of filings, and at no other.
use Rattle.std.proofs.Common.{◌≡◌, ℕ, zero, suc, ◌<◌, ◌≤◌, refl, sym, ap, ◌∙◌, arith, true, List, length, reverse, Option, Some, None, Bor}
use Rattle.std.specs.Prelude.{◌↔◌, is_some, IsSome}
use Rattle.std.specs.List.{slice_get}
use Rattle.std.specs.Option.{option_copied}
use Rattle.std.proofs.lemmas.List.{length-reverse}
use Rattle.std.proofs.lemmas.Option.{slice_get_within}
use Rattle.sorted_rows.proofs.Placed.{row_of}
use Rattle.aid_filings.specs.declared.filing.Filing.{Filing}
use Rattle.office_history.specs.Rows.{filing_in}

same_some : (o : Option (Bor Filing)) → is_some (option_copied o) ≡ is_some o
same_some None = refl
same_some (Some f) = refl

within : (past : List Filing) (position : ℕ) → is_some (filing_in past position) ≡ true → (1 ≤ position) × (position ≤ length past)
within past zero h = absurd (cc)
within past (suc i) h = go (slice_get (reverse past) i) refl h
  where
    go : (o : Option Filing) → slice_get (reverse past) i ≡ o → is_some o ≡ true → (1 ≤ suc i) × (suc i ≤ length past)
    go None at some = absurd (cc)
    go (Some f) at some =
        let lt : i < length (reverse past) = slice_get_within (reverse past) i f at in
        (omega arith, omega (arith, length-reverse past))

there : (past : List Filing) (position : ℕ) → 1 ≤ position → position ≤ length past → is_some (filing_in past position) ≡ true
there past zero one most = absurd (omega arith)
there past (suc i) one most = ap is_some (row_of (reverse past) i (omega (arith, length-reverse past))).1

pub stands_within : (past : List Filing) (position : ℕ) (o : Option (Bor Filing)) → option_copied o ≡ filing_in past position →
    IsSome o ↔ (1 ≤ position) × (position ≤ length past)
stands_within past position o told = (
  λ some. within past position (sym (ap is_some told) ∙ same_some o ∙ some),
  λ inside. sym (same_some o) ∙ ap is_some told ∙ there past position inside.0 inside.1,
)
