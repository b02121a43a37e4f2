-- Entries and stamps in step.
use Rattle.std.proofs.Common.{◌≡◌, ◌∙◌, ℕ, suc, refl, ap, arith, List, [], ◌∷◌, length, Option, Some, None}
use Rattle.std.specs.Prelude.{IfSome, option_map, reverse}
use Rattle.std.proofs.lemmas.List.{length-reverse, reverse-reverse}
use Rattle.log_machine.specs.NewEntry.{entry_of}
use Rattle.log_machine.specs.declared.machine.NewEntry.{NewEntry}
use Rattle.aid_stamps.specs.declared.stamp.Stamp.{Stamp}
use Rattle.log_stamps.specs.Entries.{stamped, stamps_of, with_stamp, later_stamps}
use Rattle.log_stamps.specs.Stamped.{stamped_added}

pub length-stamped : {E : Type 0} (es : List E) (ss : List Stamp) → length (stamped es ss) ≡ length es
length-stamped [] ss = refl
length-stamped (e ∷ es) ss = ap (λ (n : ℕ). suc n) (length-stamped es (later_stamps ss))

-- what an ask adds is what the docket below adds, with the ask's stamp
pub entry_of-stamped_added : {E R : Type 0} (stamp : Stamp) (added : Option (NewEntry E R)) → entry_of (stamped_added stamp added) ≡ option_map (with_stamp stamp) (entry_of added)
entry_of-stamped_added stamp None = refl
entry_of-stamped_added stamp (Some a) = refl

-- and its ruling is that of the entry alone
pub ruled_alone : {E R : Type 0} (IsRuled : E → R → Type 0) (stamp : Stamp) (added : Option (NewEntry E R)) → IfSome added (λ a. IsRuled a.entry a.ruling)
    → IfSome (stamped_added stamp added) (λ a. IsRuled a.entry.entry a.ruling)
ruled_alone IsRuled stamp None ruled = ruled
ruled_alone IsRuled stamp (Some a) ruled = ruled

-- stamps in step with as many entries are theirs
stamps_of-stamped : {E : Type 0} (es : List E) (ss : List Stamp) → length ss ≡ length es → stamps_of (stamped es ss) ≡ ss
stamps_of-stamped [] [] same = refl
stamps_of-stamped [] (s ∷ ss) same = absurd (let bad : ⊥ = omega arith in bad)
stamps_of-stamped (e ∷ es) [] same = absurd (let bad : ⊥ = omega arith in bad)
stamps_of-stamped (e ∷ es) (s ∷ ss) same = ap (λ (rest : List Stamp). s ∷ rest) (stamps_of-stamped es ss (omega arith))

-- the oldest first
pub oldest_stamps : {E : Type 0} (es : List E) (ss : List Stamp) → length ss ≡ length es → reverse (stamps_of (stamped es (reverse ss))) ≡ ss
oldest_stamps es ss same = ap reverse (stamps_of-stamped es (reverse ss) (length-reverse ss ∙ same)) ∙ reverse-reverse ss
