-- What stands in the place of a filing has its number.
use Rattle.std.proofs.Common.{◌≡◌, ℕ, Bool, true, false, List, [], ◌∷◌, ◌++◌, Some, refl, ◌∙◌}
use Rattle.std.specs.Prelude.{if◌then◌else◌}
use Rattle.aid_filings.specs.declared.filing.Filing.{Filing}
use Rattle.aid_stamps.specs.declared.stamp.Stamp.{Stamp}
use Rattle.aid_types.proofs.Same.{tells_key}
use Rattle.aid_types.specs.declared.number.Key.{Key}
use Rattle.log_stamps.specs.declared.entry.StampedEntry.{StampedEntry}
use Rattle.office_amends.specs.Amended.{in_place, instead, named_at, names, put_of}
use Rattle.office_amends.specs.Gathered.{Gathers, IsRecord, doesn't_fit, fits, none, says_nothing}
use Rattle.office_amends.specs.declared.correction.Change.{Change}
use Rattle.office_amends.specs.declared.correction.Change.TheVariants.{Replace, Void, Insert}
use Rattle.office_amends.specs.declared.correction.Correction.{Correction}
use Rattle.office_amends.specs.declared.correction.Grounds.{Grounds}

-- the record of what is taken out has its key
abbrev HasItsKey : Filing → Change → Type 0
HasItsKey mark (Replace f) = Unit {0}
HasItsKey mark (Void key) = mark.key ≡ key
HasItsKey mark (Insert f at) = Unit {0}

abbrev AllHave : List Correction → Type 0
AllHave [] = Unit {0}
AllHave (c ∷ cs) = HasItsKey c.record c.change × AllHave cs

one_more : (cs : List Correction) (c : Correction) → AllHave cs → HasItsKey c.record c.change → AllHave (cs ++ c ∷ [])
one_more [] c all has = (has, tt)
one_more (d ∷ cs) c all has = (all.0, one_more cs c all.1 has)

of_record : (next : ℕ) (change : Change) (grounds : Grounds) (mark : Filing) → IsRecord next change grounds mark → HasItsKey mark change
of_record next (Replace f) grounds mark is = tt
of_record next (Void key) grounds mark is = is.key
of_record next (Insert f at) grounds mark is = tt

all_have : (past : List Filing) (number : ℕ) (rows : List (List (List ℕ))) (cs : List Correction) (lines : List (List ℕ)) → Gathers past number rows cs lines → AllHave cs
all_have past number rows cs lines none = tt
all_have past number rows cs lines (says_nothing before _ front texts error gathers read) = all_have past number before cs front gathers
all_have past number rows cs lines (doesn't_fit before _ front texts said cause gathers read misfits) = all_have past number before cs front gathers
all_have past number rows cs lines (fits before front _ texts said mark gathers read well is) =
    one_more front (record { change = said.change; «record» = mark }) (all_have past number before front lines gathers) (of_record _ said.change said.grounds mark is)

put_has : (change : Change) (mark : Filing) (key : Key) → HasItsKey mark change → names change key ≡ true → (put_of mark change).key ≡ key
put_has (Replace f) mark key has named = tells_key.same f.key key named
put_has (Void of) mark key has named = has ∙ tells_key.same of key named
put_has (Insert f at) mark key has named = let bad : ⊥ = cc in absurd bad

pub in_place_has : (stamp : Stamp) (cs : List Correction) (e : StampedEntry Filing) → AllHave cs → (in_place stamp e (named_at cs e.entry.key)).entry.key ≡ e.entry.key
in_place_has stamp [] e all = refl
in_place_has stamp (c ∷ cs) e all = go (names c.change e.entry.key) refl (in_place_has stamp cs e all.1)
  where
    go : (b : Bool) → names c.change e.entry.key ≡ b → (in_place stamp e (named_at cs e.entry.key)).entry.key ≡ e.entry.key
        → (in_place stamp e (if b then Some c else named_at cs e.entry.key)).entry.key ≡ e.entry.key
    go true named rest = put_has c.change c.record e.entry.key all.0 named
    go false named rest = rest

pub key_stays : (past : List Filing) (number : ℕ) (rows : List (List (List ℕ))) (cs : List Correction) (lines : List (List ℕ)) (stamp : Stamp) (e : StampedEntry Filing)
    → Gathers past number rows cs lines → (instead stamp cs e).entry.key ≡ e.entry.key
key_stays past number rows cs lines stamp e gathers = in_place_has stamp cs e (all_have past number rows cs lines gathers)
