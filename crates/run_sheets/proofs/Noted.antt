-- What one seal says of two lists.
use Rattle.std.proofs.Common.{◌≡◌, ◌∙◌, refl, ap, arith, ℕ, zero, suc, ◌-◌, ◌⊎◌, inl, inr, Bool, true, false, List, [], ◌∷◌, ◌++◌, append-nil, codes, drop, get_or, length, map, Some}
use Rattle.std.specs.Prelude.{nat_le, if◌then◌else◌}
use Rattle.aid_filings.specs.declared.filing.Filing.{Filing}
use Rattle.aid_seals.specs.Seals.{AreOne, IsCollision, clash, seal, sealed_line}
use Rattle.aid_seals.proofs.Lines.{line_or_clash}
use Rattle.aid_stamps.specs.Stamps.{stamp_bytes}
use Rattle.format_bytes.specs.Spelling.{spelling}
use Rattle.log_machine.specs.Recovers.{AreEntries}
use Rattle.log_stamps.specs.Entries.{entries}
use Rattle.log_stamps.specs.StampedLaws.{length-entries}
use Rattle.log_stamps.specs.declared.entry.StampedEntry.{StampedEntry}
use Rattle.office_log.specs.OfficeLaws.{office_alone}
use Rattle.office_log.specs.Recovers.{Recovers}
use Rattle.office_log.specs.Scheme.{office_header, office_scheme}
use Rattle.office_export.specs.Seals.{office_name}
use Rattle.run_sheets.specs.SealLaws.{IsOneOrCollision, records_of}
use Rattle.run_sheets.specs.Texts.{first_of, sheet_of, sheet_upto}
use Rattle.run_sheets.specs.declared.request.Position.{Position}
use Rattle.run_sheets.specs.declared.request.SheetRequest.TheVariants.{Report}
use Rattle.run_words.specs.declared.command.ReportRequest.TheVariants.{Seal}

-- the records are those of the journal
records-map : (past : List (StampedEntry Filing)) → records_of past ≡ map office_scheme.spelling past
records-map [] = refl
records-map (e ∷ past) = ap (λ (rest : List (List ℕ)). (stamp_bytes e.stamp ++ spelling e.entry) ∷ rest) (records-map past)

pub seal_of_records : (past : List (StampedEntry Filing)) → sheet_of (Report Seal) past ≡ sealed_line (length past) (seal office_header.name (map office_scheme.spelling past))
seal_of_records past = λ i. sealed_line (length-entries past i) (seal office_name (records-map past i))

-- lists with the same records are one
same_lists : (past other : List (StampedEntry Filing)) → AreEntries office_scheme.IsEntry past → AreEntries office_scheme.IsEntry other → records_of past ≡ records_of other → past ≡ other
same_lists [] [] are also same = refl
same_lists [] (f ∷ other) are also same = absurd (let bad : ⊥ = cc in bad)
same_lists (e ∷ past) [] are also same = absurd (let bad : ⊥ = cc in bad)
same_lists (e ∷ past) (f ∷ other) are also same =
    let first : office_scheme.spelling e ≡ office_scheme.spelling f = cc in
    let rest : records_of past ≡ records_of other = cc in
    let one : e ≡ f = office_alone e f [] are.1 also.1 (append-nil (office_scheme.spelling e) ∙ first) in
    let rests : past ≡ other = same_lists past other are.0 also.0 rest in
    λ i. one i ∷ rests i

-- lists with one line of their seals are one, or show a collision
one_or_collision : (past other : List (StampedEntry Filing)) → AreEntries office_scheme.IsEntry past → AreEntries office_scheme.IsEntry other
    → sheet_of (Report Seal) past ≡ sheet_of (Report Seal) other → IsOneOrCollision past other
one_or_collision past other are also same =
    go (line_or_clash office_name (records_of past) office_name (records_of other) (length (entries past)) (length (entries other)) (omega arith) (omega arith) same)
  where
    go : AreOne office_name (records_of past) office_name (records_of other) ⊎ IsCollision (clash office_name (records_of past) office_name (records_of other)) → IsOneOrCollision past other
    go (inl one) = inl (same_lists past other are also one.lists)
    go (inr collision) = inr collision

pub one_list : (file other_file : List ℕ) (past other : List (StampedEntry Filing)) → Recovers file past → Recovers other_file other
    → sheet_of (Report Seal) past ≡ sheet_of (Report Seal) other → IsOneOrCollision past other
one_list file other_file past other is also same = one_or_collision past other is.entries also.entries same

-- ---- the front of a list
entries-drop : (n : ℕ) (past : List (StampedEntry Filing)) → AreEntries office_scheme.IsEntry past → AreEntries office_scheme.IsEntry (drop n past)
entries-drop zero past are = are
entries-drop (suc n) [] are = are
entries-drop (suc n) (e ∷ past) are = entries-drop n past are.0

-- no line of a seal is that of none
none_apart : {A : Type 0} (count : ℕ) (bytes : List ℕ) → codes "none\n" ≡ sealed_line count bytes → A
none_apart count bytes same = let letter : ◌≡◌ {A = ℕ} 110 115 = ap (λ (text : List ℕ). get_or text 0 0) same in absurd (omega (arith, letter))

pub front_list : (file noted_file : List ℕ) (past noted : List (StampedEntry Filing)) (position : Position) → Recovers file past → Recovers noted_file noted
    → sheet_upto (Some position) (Report Seal) past ≡ sheet_of (Report Seal) noted → IsOneOrCollision (first_of position.number past) noted
front_list file noted_file past noted position is also same = go (nat_le position.number (length past)) same
  where
    go : (b : Bool) → (if b then sheet_of (Report Seal) (first_of position.number past) else codes "none\n") ≡ sheet_of (Report Seal) noted → IsOneOrCollision (first_of position.number past) noted
    go true e = one_or_collision (first_of position.number past) noted (entries-drop (length past - position.number) past is.entries) also.entries e
    go false e = none_apart (length (entries noted)) (seal office_name (records_of noted)) e
