use Rattle.std.proofs.Common.{◌≡◌, ◌++◌, ◌∙◌, [], sym, refl}
use Rattle.std.proofs.lemmas.List.{take-append-drop}
use Rattle.format_kinds.specs.Kinds.{slots_of_kind}
use Rattle.format_bytes.specs.Numbers.{facts_of, key_numbers}
use Rattle.format_bytes.proofs.Same.{same_filing}
use Rattle.format_bytes.proofs.Slots.{fit_parted}
use Rattle.format_bytes.proofs.filing.filing_of.Goals as goal

pub key_of-requires : goal.key_of-requires
key_of-requires c = record { in_range = rw c.split_at.ensures.front (fit_parted 2 (slots_of_kind c.args.kind) c.args.numbers.now refl ([], c.requires.in_range)).0 }

pub returns-clause-only : goal.returns-clause-only
returns-clause-only c = λ filing kind numbers.
    let key = c.key_of.ensures.value ∙ c.split_at.ensures.front in
    let facts = c.in_ok-what.ensures.value ∙ c.split_at.ensures.back in
    let whole : key_numbers c.key_of.result ++ facts_of c.in_ok-what.what ≡ c.args.numbers.now = (λ i. key i ++ facts i) ∙ take-append-drop 2 c.args.numbers.now in
    same_filing filing (record { key = c.key_of.result; what = c.in_ok-what.what }) (kind ∙ sym c.in_ok-what.ensures.kind) (numbers ∙ sym whole)
