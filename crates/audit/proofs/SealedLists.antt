-- What one seal says of two lists of filings.
use Rattle.std.proofs.Common.{◌≡◌, ◌∙◌, refl, sym, arith, ℕ, ◌⊎◌, inl, inr, List, [], ◌∷◌, ◌++◌, length, Some}
use Rattle.std.specs.List.{AllByRecursion}
use Rattle.aid_filings.specs.declared.filing.Filing.{Filing}
use Rattle.aid_seals.proofs.Clashes.{one_or_clash}
use Rattle.aid_seals.specs.Seals.{AreOne, IsCollision, clash}
use Rattle.aid_seals.specs.declared.seal.Seal.{Seal}
use Rattle.aid_stamps.specs.Stamps.{IsStamp, stamp_bytes}
use Rattle.aid_stamps.specs.declared.stamp.Stamp.{Stamp}
use Rattle.format_bytes.specs.Numbers.{IsFiling}
use Rattle.format_bytes.specs.Spelling.{spelling}
use Rattle.office_export.proofs.Laws.{same_payload}
use Rattle.office_export.specs.Seals.{office_name, office_seal, payloads}
use Rattle.audit.specs.Findings.{AreExported, FindsBy, stands}
use Rattle.audit.specs.Laws.{AreOnFile, AreSameFilings, AreSameOrCollision, front_of}
use Rattle.audit.specs.declared.finding.Finding.TheVariants.{Yes}
use Rattle.audit.specs.declared.note.Note.{Note}
use Rattle.audit.proofs.Fronts.{front_on_file, front_seal-is}

-- lists with the same payloads are one
same_lists : (past : List Filing) (stamps : List Stamp) (other : List Filing) (others : List Stamp) → AllByRecursion IsFiling past → AllByRecursion IsStamp stamps → length stamps ≡ length past
    → AllByRecursion IsFiling other → AllByRecursion IsStamp others → length others ≡ length other → payloads past stamps ≡ payloads other others → AreSameFilings past stamps other others
same_lists [] [] [] [] are is paired also isnt apaired same = record { filings = refl; stamped = refl }
same_lists [] [] [] (t ∷ others) are is paired also isnt apaired same = absurd (omega (arith, apaired))
same_lists [] [] (g ∷ other) [] are is paired also isnt apaired same = absurd (omega (arith, apaired))
same_lists [] [] (g ∷ other) (t ∷ others) are is paired also isnt apaired same = absurd (let bad : ⊥ = cc in bad)
same_lists [] (s ∷ stamps) other others are is paired also isnt apaired same = absurd (omega (arith, paired))
same_lists (f ∷ past) [] other others are is paired also isnt apaired same = absurd (omega (arith, paired))
same_lists (f ∷ past) (s ∷ stamps) [] others are is paired also isnt apaired same = absurd (let bad : ⊥ = cc in bad)
same_lists (f ∷ past) (s ∷ stamps) (g ∷ other) [] are is paired also isnt apaired same = absurd (omega (arith, apaired))
same_lists (f ∷ past) (s ∷ stamps) (g ∷ other) (t ∷ others) are is paired also isnt apaired same =
    let first : stamp_bytes s ++ spelling f ≡ stamp_bytes t ++ spelling g = cc in
    let rest : payloads past stamps ≡ payloads other others = cc in
    let one = same_payload s t f g is.0 isnt.0 are.0 also.0 first in
    let more = same_lists past stamps other others are.1 is.1 (omega (arith, paired)) also.1 isnt.1 (omega (arith, apaired)) rest in
    record { filings = λ i. one.filing i ∷ more.filings i; stamped = λ i. one.stamp i ∷ more.stamped i }

-- filings with one seal are one list, or show a collision
one_or_collision : (past : List Filing) (stamps : List Stamp) (other : List Filing) (others : List Stamp) → AreOnFile past stamps → AreOnFile other others → office_seal past stamps ≡ office_seal other others
    → AreSameOrCollision past stamps other others
one_or_collision past stamps other others are also same =
    go (one_or_clash office_name (payloads past stamps) office_name (payloads other others) (omega arith) (omega arith) same)
  where
    go : AreOne office_name (payloads past stamps) office_name (payloads other others) ⊎ IsCollision (clash office_name (payloads past stamps) office_name (payloads other others))
        → AreSameOrCollision past stamps other others
    go (inl one) = inl (same_lists past stamps other others are.filings are.stamped.are_stamps are.stamped.paired also.filings also.stamped.are_stamps also.stamped.paired one.lists)
    go (inr collision) = inr collision

pub one_seal : (most : ℕ) (lines : List (List ℕ)) (past : List Filing) (stamps : List Stamp) (also : ℕ) (other_lines : List (List ℕ)) (other : List Filing) (others : List Stamp)
    → AreExported most lines past stamps → AreExported also other_lines other others → office_seal past stamps ≡ office_seal other others → AreSameOrCollision past stamps other others
one_seal most lines past stamps also other_lines other others is is_other same =
    one_or_collision past stamps other others (record { filings = is.1.filings; stamped = is.1.stamped }) (record { filings = is_other.1.filings; stamped = is_other.1.stamped }) same

pub noted_front : (most : ℕ) (lines : List (List ℕ)) (note : Note) (filings standings : ℕ) (seal : Seal) (noted : List Filing) (noted_stamps : List Stamp)
    → FindsBy most lines (Some note) (Yes filings standings seal) → AreOnFile noted noted_stamps → note.seal.bytes ≡ office_seal noted noted_stamps
    → (past : List Filing) × (stamps : List Stamp) × AreExported most lines past stamps × AreSameOrCollision (front_of note.count past) (front_of note.count stamps) noted noted_stamps
noted_front most lines note filings standings seal noted noted_stamps (stands _ past stamps asked good few same) on_file sealed =
    let front = sym (front_seal-is note.count past stamps good.stamped.paired) ∙ same ∙ sealed in
    (past, stamps, (asked, good), one_or_collision (front_of note.count past) (front_of note.count stamps) noted noted_stamps (front_on_file note.count past stamps good.filings good.stamped) on_file front)
