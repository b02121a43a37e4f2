-- The test of the rules is the test of rows.
use Rattle.std.proofs.Common.{◌≡◌, ℕ, ℤ, refl, subst, sym, Bool, true, false, List}
use Rattle.std.specs.Prelude.{◌↔◌, IsTrue}
use Rattle.format_table.specs.Parts.{Slot}
use Rattle.format_table.specs.Tables.{KindRow}
use Rattle.log_rules.specs.Rows.{SpellsRows}
use Rattle.log_rules.specs.Ruling.{Ruling}

-- a test that tells the same filing is that of the rules
pub same_told : {Entry Outcome : Type 0} (ruling : Ruling Entry Outcome) (key : List Slot) (kinds : List KindRow) (code_of : Entry → ℕ) (numbers_of : Entry → List ℤ)
    → SpellsRows ruling key kinds code_of numbers_of → (one other : Entry) (r : Bool) → (IsTrue r ↔ (one ≡ other)) → r ≡ ruling.is_same one other
same_told {Entry} ruling key kinds code_of numbers_of rows one other true tells =
    let self : true ≡ ruling.is_same one one = sym (rows.same_self one) in
    let same : one ≡ other = tells.0 refl in
    subst (λ (e : Entry). true ≡ ruling.is_same one e) same self
same_told ruling key kinds code_of numbers_of rows one other false tells = go (ruling.is_same one other) (rows.same one other)
  where
    go : (b : Bool) → (b ≡ true → one ≡ other) → false ≡ b
    go false same = refl
    go true same = let e : false ≡ true = tells.1 (same refl) in absurd (let bad : ⊥ = cc in bad)
