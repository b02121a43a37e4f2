-- What holds of every office as the docket of a kept list.
use Rattle.std.proofs.Common.{◌≡◌, ℕ, ◌≤◌, refl, subst, arith, Bool, true, false, IsTrue, List, ◌∷◌, ◌++◌, length, Some, None}
use Rattle.std.specs.Prelude.{if◌then◌else◌}
use Rattle.aid_filings.specs.declared.filing.Filing.{Filing}
use Rattle.aid_filings.specs.declared.reply.Operation.{Operation}
use Rattle.aid_filings.specs.declared.reply.Operation.TheVariants.{File, Quote, Standing}
use Rattle.format_bytes.specs.Numbers.{IsFiling}
use Rattle.format_bytes.specs.Spelling.{spelling}
use Rattle.format_bytes.proofs.FilingLaws.{is_alone, length-spelling}
use Rattle.log_journal.specs.Stands.{IsPayload}
use Rattle.office_history.specs.Answer.{answer_of, is_admit, IsLegal}
use Rattle.office_history.proofs.Admitted as admitted
use Rattle.office_log.specs.Scheme.{filing_scheme, office_header, office_scheme}
use Rattle.office_log.specs.Submits.{filing_added}
use Rattle.log_stamps.specs.Entries.{entries}
use Rattle.log_stamps.specs.StampedLaws.{alone as stamped_alone, keepable as stamped_keepable}
use Rattle.log_stamps.specs.declared.entry.StampedEntry.{StampedEntry}

pub keepable : (filing : Filing) → IsFiling filing → IsPayload (spelling filing)
keepable filing is = record { some = omega arith; fits = omega (arith, length-spelling filing is) }

-- a stamp has room beside a spelling
pub short : (filing : Filing) → IsFiling filing → length (spelling filing) ≤ 8155
short filing is = length-spelling filing is

pub alone : (one other : Filing) (rest : List ℕ) → IsFiling one → IsFiling other → spelling one ++ rest ≡ spelling other → one ≡ other
alone one other rest is also begins = (is_alone one other rest is also begins).same

pub admitted_legal : (past : List Filing) (filing : Filing) → IsLegal past → IsTrue (is_admit (answer_of past filing)) → IsLegal (filing ∷ past)
admitted_legal past filing legal is = admitted.admitted_legal past filing legal is

pub legal_admitted : (past : List Filing) (filing : Filing) → IsLegal (filing ∷ past) → IsTrue (is_admit (answer_of past filing))
legal_admitted past filing legal = go (is_admit (answer_of past filing)) refl
  where
    go : (b : Bool) → is_admit (answer_of past filing) ≡ b → IsTrue (is_admit (answer_of past filing))
    go true is = is
    go false is = absurd (admitted.refused_illegal past filing is legal)

pub legal_past : (past : List Filing) (filing : Filing) → IsLegal (filing ∷ past) → IsLegal past
legal_past past filing legal = legal.0

pub added_admitted : (past : List Filing) (operation : Operation) (filing : Filing) → filing_added past operation ≡ Some filing → IsTrue (is_admit (answer_of past filing))
added_admitted past (File f) filing is = go (is_admit (answer_of past f)) refl is
  where
    go : (b : Bool) → is_admit (answer_of past f) ≡ b → (if b then Some f else None) ≡ Some filing → IsTrue (is_admit (answer_of past filing))
    go true is same = let one : f ≡ filing = cc in subst (λ (g : Filing). IsTrue (is_admit (answer_of past g))) one is
    go false is same = absurd (let bad : ⊥ = cc in bad)
added_admitted past (Quote school student year term) filing is = absurd cc
added_admitted past (Standing student year) filing is = absurd cc

-- ---- the same of filings with stamps
pub office_keepable : (filing : StampedEntry Filing) → office_scheme.IsEntry filing → IsPayload (office_scheme.spelling filing)
office_keepable = stamped_keepable office_header filing_scheme short

pub office_alone : (one other : StampedEntry Filing) (rest : List ℕ) → office_scheme.IsEntry one → office_scheme.IsEntry other → office_scheme.spelling one ++ rest ≡ office_scheme.spelling other → one ≡ other
office_alone = stamped_alone office_header filing_scheme alone

pub office_legal_past : (past : List (StampedEntry Filing)) (filing : StampedEntry Filing) → office_scheme.IsLegal (filing ∷ past) → office_scheme.IsLegal past
office_legal_past past filing legal = legal_past (entries past) filing.entry legal
