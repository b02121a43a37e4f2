-- A filing is copied by its parts.
use Rattle.std.proofs.Common.{◌≡◌, Some, None, refl, sym, ap, ◌∙◌}
use Rattle.aid_filings.specs.declared.filing.Filing.{Filing}
use Rattle.aid_filings.specs.declared.filing.What.{What}
use Rattle.aid_filings.specs.declared.filing.What.TheVariants.{Book}
use Rattle.run_office.specs.Copies.{kept_filing, kept_what}

none_of : (filing : Filing) (what : What) → kept_what what ≡ None → kept_filing filing what ≡ None
none_of filing (Book book) is = refl
none_of filing _ is = absurd (let bad : ⊥ = cc in bad)

some_of : (filing : Filing) (what found : What) → kept_what what ≡ Some found → (found ≡ what) × (kept_filing filing what ≡ Some filing)
some_of filing (Book book) found is = absurd (let bad : ⊥ = cc in bad)
some_of filing _ found is = (cc, refl)

pub copied_none : (filing : Filing) → kept_what filing.what ≡ None → None ≡ kept_filing filing filing.what
copied_none filing is = sym (none_of filing filing.what is)

pub copied_some : (filing : Filing) (found : What) → kept_what filing.what ≡ Some found → Some (record { key = filing.key; what = found }) ≡ kept_filing filing filing.what
copied_some filing found is =
    let (same, whole) = some_of filing filing.what found is in
    ap (λ (w : What). Some (record { key = filing.key; what = w })) same ∙ sym whole
