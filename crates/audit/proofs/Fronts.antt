-- The first filings of a list, the oldest first and the newest first.
use Rattle.std.proofs.Common.{◌≡◌, ◌∙◌, ℕ, zero, suc, ◌-◌, refl, sym, ap, arith, List, [], ◌∷◌, length, take, drop, reverse}
use Rattle.std.specs.List.{AllByRecursion}
use Rattle.std.proofs.Math.Seq.{drop-append_seam}
use Rattle.std.proofs.lemmas.List.{length-drop, length-reverse, reverse-append, take-append-drop}
use Rattle.aid_filings.specs.declared.filing.Filing.{Filing}
use Rattle.aid_seals.specs.Seals.{first_of, seal}
use Rattle.aid_stamps.specs.Stamps.{IsStamp}
use Rattle.aid_stamps.specs.declared.stamp.Stamp.{Stamp}
use Rattle.format_bytes.specs.Numbers.{IsFiling}
use Rattle.office_export.specs.Seals.{office_name, office_seal, payloads}
use Rattle.audit.specs.Findings.{AreStamped, front_seal}
use Rattle.audit.specs.Laws.{AreOnFile, front_of}

-- of a list that is read backwards
pub front_of-reverse : {A : Type 0} (n : ℕ) (xs : List A) → front_of n (reverse xs) ≡ reverse (take n xs)
front_of-reverse n xs =
    let ys = drop n xs in
    let many : length (reverse xs) - n ≡ length (reverse ys) = omega (arith, length-reverse xs, length-reverse ys, length-drop n xs) in
    (λ i. drop (many i) (reverse (sym (take-append-drop n xs) i)))
    ∙ ap (drop (length (reverse ys))) (reverse-append (take n xs) ys)
    ∙ drop-append_seam (reverse ys) (reverse (take n xs))

-- of the payloads
length-payloads : (past : List Filing) (stamps : List Stamp) → length stamps ≡ length past → length (payloads past stamps) ≡ length past
length-payloads [] stamps paired = refl
length-payloads (f ∷ past) [] paired = absurd (omega (arith, paired))
length-payloads (f ∷ past) (z ∷ stamps) paired = omega (arith, length-payloads past stamps (omega (arith, paired)))

drop-payloads : (k : ℕ) (past : List Filing) (stamps : List Stamp) → length stamps ≡ length past → drop k (payloads past stamps) ≡ payloads (drop k past) (drop k stamps)
drop-payloads zero past stamps paired = refl
drop-payloads (suc k) [] stamps paired = refl
drop-payloads (suc k) (f ∷ past) [] paired = absurd (omega (arith, paired))
drop-payloads (suc k) (f ∷ past) (z ∷ stamps) paired = drop-payloads k past stamps (omega (arith, paired))

pub first_of-payloads : (n : ℕ) (past : List Filing) (stamps : List Stamp) → length stamps ≡ length past → first_of n (payloads past stamps) ≡ payloads (front_of n past) (front_of n stamps)
first_of-payloads n past stamps paired =
    (λ i. drop (length-payloads past stamps paired i - n) (payloads past stamps))
    ∙ drop-payloads (length past - n) past stamps paired
    ∙ (λ i. payloads (drop (length past - n) past) (drop (sym paired i - n) stamps))

-- the seal of the first filings, as it is computed
pub front_seal-is : (n : ℕ) (past : List Filing) (stamps : List Stamp) → length stamps ≡ length past → front_seal n past stamps ≡ office_seal (front_of n past) (front_of n stamps)
front_seal-is n past stamps paired = ap (λ (ps : List (List ℕ)). seal office_name ps) (first_of-payloads n past stamps paired)

-- the first filings of an office's are filings under stamps
drop_all : {A : Type 0} (P : A → Type 0) (k : ℕ) (xs : List A) → AllByRecursion P xs → AllByRecursion P (drop k xs)
drop_all P zero xs all = all
drop_all P (suc k) [] all = all
drop_all P (suc k) (x ∷ xs) all = drop_all P k xs all.1

pub front_on_file : (n : ℕ) (past : List Filing) (stamps : List Stamp) → AllByRecursion IsFiling past → AreStamped past stamps → AreOnFile (front_of n past) (front_of n stamps)
front_on_file n past stamps are stamped = record {
  filings = drop_all IsFiling (length past - n) past are;
  stamped = record {
    paired = omega (arith, stamped.paired, length-drop (length past - n) past, length-drop (length stamps - n) stamps);
    are_stamps = drop_all IsStamp (length stamps - n) stamps stamped.are_stamps;
  };
}
