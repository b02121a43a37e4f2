-- Which lists stand whole, and what a correction leaves.
use Rattle.std.proofs.Common.{◌≡◌, ℕ, ◌≤◌, length, false, List, [], ◌∷◌, ◌++◌, ◌+◌, drop, refl, sym, ap, ◌∙◌, arith}
use Rattle.std.specs.List.{flat_map}
use Rattle.aid_filings.specs.declared.filing.Filing.{Filing}
use Rattle.aid_filings.specs.declared.reply.Response.{Response}
use Rattle.aid_filings.specs.declared.reply.Response.TheVariants.{Again, Refused, Admit, Quoted, Standing}
use Rattle.aid_stamps.specs.declared.stamp.Stamp.{Stamp}
use Rattle.log_stamps.specs.Entries.{entries}
use Rattle.log_stamps.specs.declared.entry.StampedEntry.{StampedEntry}
use Rattle.office_history.specs.Answer.{IsLegal, answer_of, is_admit}
use Rattle.office_history.proofs.Admitted.{admitted_legal, refused_illegal}
use Rattle.office_amends.specs.Amended.{before, corrected, instead}
use Rattle.office_amends.specs.Stood.{stood, stood_by}
use Rattle.office_amends.specs.declared.correction.Correction.{Correction}

length-stood_by : (r : Response) (e : StampedEntry Filing) (kept : List (StampedEntry Filing)) (n : ℕ) → length kept ≤ n → length (stood_by r e kept) ≤ n + 1
length-stood_by (Admit o) e kept n few = omega (arith, few)
length-stood_by (Again at o) e kept n few = omega (arith, few)
length-stood_by (Refused r) e kept n few = omega (arith, few)
length-stood_by (Quoted cents) e kept n few = omega (arith, few)
length-stood_by (Standing row) e kept n few = omega (arith, few)

length-stood : (list : List (StampedEntry Filing)) → length (stood list) ≤ length list
length-stood [] = omega arith
length-stood (e ∷ list) = omega (arith, length-stood_by (answer_of (entries (stood list)) e.entry) e (stood list) (length list) (length-stood list))

pub stands_whole : (list : List (StampedEntry Filing)) → IsLegal (entries list) → stood list ≡ list
stands_whole [] legal = refl
stands_whole (e ∷ list) legal =
    let older = stands_whole list legal.0 in
    go (answer_of (entries (stood list)) e.entry) (ap (λ (l : List (StampedEntry Filing)). answer_of (entries l) e.entry) (sym older)) older
  where
    none : (r : Response) → answer_of (entries list) e.entry ≡ r → is_admit r ≡ false → ⊥
    none r is refused = refused_illegal (entries list) e.entry (ap is_admit is ∙ refused) legal

    go : (r : Response) → answer_of (entries list) e.entry ≡ r → stood list ≡ list → stood_by r e (stood list) ≡ e ∷ list
    go (Admit o) is older = ap (λ (l : List (StampedEntry Filing)). e ∷ l) older
    go (Again at o) is older = absurd (none (Again at o) is refl)
    go (Refused r) is older = absurd (none (Refused r) is refl)
    go (Quoted cents) is older = absurd (none (Quoted cents) is refl)
    go (Standing row) is older = absurd (none (Standing row) is refl)

pub whole_legal : (list : List (StampedEntry Filing)) → stood list ≡ list → IsLegal (entries list)
whole_legal [] whole = tt
whole_legal (e ∷ list) whole = go (answer_of (entries (stood list)) e.entry) refl (whole_legal list) whole
  where
    short : stood list ≡ e ∷ list → ⊥
    short is = omega (arith, ap length is, length-stood list)

    go : (r : Response) → answer_of (entries (stood list)) e.entry ≡ r → (stood list ≡ list → IsLegal (entries list)) → stood_by r e (stood list) ≡ e ∷ list → IsLegal (e.entry ∷ entries list)
    go (Admit o) is legal all =
        let older : stood list ≡ list = ap (λ (l : List (StampedEntry Filing)). drop 1 l) all in
        let told : answer_of (entries list) e.entry ≡ Admit o = ap (λ (l : List (StampedEntry Filing)). answer_of (entries l) e.entry) (sym older) ∙ is in
        admitted_legal (entries list) e.entry (legal older) (ap is_admit told)
    go (Again at o) is legal all = absurd (short all)
    go (Refused r) is legal all = absurd (short all)
    go (Quoted cents) is legal all = absurd (short all)
    go (Standing row) is legal all = absurd (short all)

pub in_places : (stamp : Stamp) (cs : List Correction) (past : List (StampedEntry Filing)) → corrected stamp cs past ≡ flat_map (λ e. instead stamp cs e ∷ before stamp cs e.entry.key) past
in_places stamp cs [] = refl
in_places stamp cs (e ∷ past) = λ i. instead stamp cs e ∷ (before stamp cs e.entry.key ++ in_places stamp cs past i)

pub as_it_was : (stamp : Stamp) (past : List (StampedEntry Filing)) → corrected stamp [] past ≡ past
as_it_was stamp [] = refl
as_it_was stamp (e ∷ past) = ap (λ (l : List (StampedEntry Filing)). e ∷ l) (as_it_was stamp past)

-- a list that is as long as what stands of it stands whole
pub few_stand : (list : List (StampedEntry Filing)) → length (stood list) ≤ length list
few_stand = length-stood

pub all_stand : (list : List (StampedEntry Filing)) → length list ≤ length (stood list) → stood list ≡ list
all_stand [] many = refl
all_stand (e ∷ list) many = go (answer_of (entries (stood list)) e.entry) many (all_stand list)
  where
    short : length list + 1 ≤ length (stood list) → ⊥
    short le = omega (arith, le, length-stood list)

    go : (r : Response) → length (e ∷ list) ≤ length (stood_by r e (stood list)) → (length list ≤ length (stood list) → stood list ≡ list) → stood_by r e (stood list) ≡ e ∷ list
    go (Admit o) le older = ap (λ (l : List (StampedEntry Filing)). e ∷ l) (older (omega (arith, le)))
    go (Again at o) le older = absurd (short (omega (arith, le)))
    go (Refused r) le older = absurd (short (omega (arith, le)))
    go (Quoted cents) le older = absurd (short (omega (arith, le)))
    go (Standing row) le older = absurd (short (omega (arith, le)))
