-- What a filing changes of a student's term at a school.
use Rattle.std.proofs.Common.{◌≡◌, ℕ, ◌+◌, ◌^◌, ◌≤◌, arith, refl, sym, ap, subst, ◌∙◌, ◌⊎◌, inl, inr, Bool, true, false, ◌&&◌, List, [], ◌∷◌, length, Option, Some, None, eq-eqb}
use Rattle.std.specs.Prelude.{◌==◌, is_some, slice_index}
use Rattle.aid_types.specs.declared.number.Key.{Key}
use Rattle.aid_filings.specs.declared.filing.Amount.{Amount}
use Rattle.aid_filings.specs.declared.filing.EnrollFacts.{EnrollFacts}
use Rattle.aid_filings.specs.declared.filing.Filing.{Filing}
use Rattle.aid_filings.specs.declared.filing.What.{What}
use Rattle.aid_filings.specs.declared.filing.What.TheVariants.{Book as BookFiled, School, Calendar, Prior, Apply, Enroll, Originate, Pay, Withdraw, Repay, Adjust, Cost, Sent, Amend}
use Rattle.aid_filings.specs.declared.filing.SentFacts.{SentFacts}
use Rattle.aid_filings.specs.declared.filing.WithdrawFacts.{WithdrawFacts}
use Rattle.office_history.specs.Answer.{IsLegal, breaks}
use Rattle.office_history.specs.Net.{cell_at, in_term, moved}
use Rattle.office_history.specs.Positions.{could_of, determined_of, withdrawn_at}
use Rattle.office_history.specs.Past.{amount_or, at_school, credits_in, earlier, first_of_two, given, if_here, later, latest, the_withdrawal, withdrawal_in}
use Rattle.office_history.proofs.Asked.{none_told}
use Rattle.office_history.proofs.Nets.{withdrawn_first}
use Rattle.office_history.specs.Accounts.{HasSums, IsAccount, IsEntry, joined, nothing}
use Rattle.office_history.specs.Own.{IsOwnEntry}
use Rattle.office_history.specs.Rows.{account_row, place_row}
use Rattle.office_history.specs.declared.account.Account.{Account}
use Rattle.office_history.specs.declared.place.Place.{Place}
use Rattle.office_history.specs.declared.rows.PlaceRow.{PlaceRow}
use Rattle.office_history.proofs.AccountSteps.{account-joined, account-kept, account-sums, entry-sums}
use Rattle.office_history.proofs.Own.{MovesIn, entry-elsewhere, moves}
use Rattle.office_history.proofs.Sixes.{six-sums}
use Rattle.office_history.specs.declared.names.StudentPlace.{StudentPlace}
use Rattle.office_updates.specs.After.{IsPlaceAfter}
use Rattle.office_history.specs.Names.{place_name}
use Rattle.office_updates.proofs.RowNames.{IsPlaceWritten, place_written}

-- what a school's filing tells of another's row, and of its own
pub told_none : {A : Type 0} (here asked : Bool) (x : A) → (here && asked) ≡ false → if_here here (given asked x) ≡ None
told_none true true x h = cc
told_none true false x h = refl
told_none false true x h = refl
told_none false false x h = refl

pub told_some : {A : Type 0} (here asked : Bool) (x : A) → (here && asked) ≡ true → if_here here (given asked x) ≡ Some x
told_some true true x h = refl
told_some true false x h = cc
told_some false asked x h = cc

-- a place is its own
pub own_place : (school student year term : ℕ) → in_term school student year term (cell_at school student year term 0) ≡ true
own_place school student year term = rw (eq-eqb school school refl, eq-eqb student student refl, eq-eqb year year refl, eq-eqb term term refl) refl

-- the term that a name names
abbrev pub named : StudentPlace → Place
named at = record { school = at.school; student = at.student; year = at.year; term = at.term }

-- the account of a place as a row
row-account : (past : List Filing) (school student year term : ℕ) → IsAccount past school student year term (account_row past school student year term)
row-account past school student year term =
    record { paid = refl; taken = refl; owed = refl; repaid = refl; returned = refl; sent = refl; after = refl; after_all = refl; post = refl }

account-row : (past : List Filing) (school student year term : ℕ) (a : Account) → IsAccount past school student year term a → account_row past school student year term ≡ a
account-row past school student year term a h = parts _ _ _ _ _ _ _ _ _ a h.paid h.taken h.owed h.repaid h.returned h.sent h.after h.after_all h.post
  where
    parts : (p t o r b s f : List ℕ) (m n : ℕ) (a : Account) → a.paid ≡ p → a.taken ≡ t → a.owed ≡ o → a.repaid ≡ r → a.returned ≡ b → a.sent ≡ s → a.after ≡ f → a.after_all ≡ m → a.post ≡ n →
        ◌≡◌ {A = Account} (record { paid = p; taken = t; owed = o; repaid = r; returned = b; sent = s; after = f; after_all = m; post = n }) a
    parts p t o r b s f m n a e0 e1 e2 e3 e4 e5 e6 e7 e8 = rw (sym e0, sym e1, sym e2, sym e3, sym e4, sym e5, sym e6, sym e7, sym e8) refl

pub account-moved : (past : List Filing) (f : Filing) (school student year term : ℕ) (e : Account) → IsEntry past f.key f.what school student year term e →
    account_row (f ∷ past) school student year term ≡ joined (account_row past school student year term) e
account-moved past f school student year term e k =
    let before = account_row past school student year term in
    account-row (f ∷ past) school student year term (joined before e)
    (account-joined past f school student year term before e (row-account past school student year term) k)

pub account-same : (past : List Filing) (f : Filing) (school student year term : ℕ) → IsEntry past f.key f.what school student year term nothing →
    account_row (f ∷ past) school student year term ≡ account_row past school student year term
account-same past f school student year term k =
    let before = account_row past school student year term in
    account-row (f ∷ past) school student year term before
    (account-kept past f school student year term before (row-account past school student year term) k)

-- credits that are filed
abbrev told_credits : List Filing → StudentPlace → Option ℕ → PlaceRow
told_credits past at o = record (place_row past at.school at.student at.year at.term) {
  credits = amount_or (later o (latest (at_school at.school (credits_in at.student at.year at.term)) past));
}

enroll-filed : (past : List Filing) (key : Key) (e : EnrollFacts) →
    IsPlaceWritten past (record { key = key; what = Enroll e }) (place_name key.school e) (record (place_row past key.school e.student e.year e.term) { credits = e.credits })
enroll-filed past key e = record {
  here = ap (told_credits past (place_name key.school e)) (told_some (key.school == key.school) _ e.credits (own_place key.school e.student e.year e.term));
  elsewhere = λ asked away. ap (told_credits past asked) (told_none (key.school == asked.school) _ e.credits away);
}

-- the term that an amount is about, and that a withdrawal is from
abbrev pub place_of : Key → Amount → StudentPlace
place_of key a = record { student = a.student; school = key.school; year = a.year; term = a.term }

abbrev pub place_left : Key → WithdrawFacts → StudentPlace
place_left key w = record { student = w.student; school = key.school; year = w.year; term = w.term }

-- a row with what moved
abbrev pub with_moved : PlaceRow → Account → PlaceRow
with_moved row moved = record row { account = joined row.account moved }

-- money alone changes the account of its term
abbrev told_account : List Filing → StudentPlace → Account → PlaceRow
told_account past at a = record (place_row past at.school at.student at.year at.term) { account = a }

money-place : (past : List Filing) (f : Filing) (own : StudentPlace) (e : Account) →
    ((school student year term : ℕ) → place_row (f ∷ past) school student year term
    ≡ record (place_row past school student year term) { account = account_row (f ∷ past) school student year term }) →
    MovesIn past f.key f.what (named own) → IsEntry past f.key f.what own.school own.student own.year own.term e →
    IsPlaceWritten past f own (with_moved (place_row past own.school own.student own.year own.term) e)
money-place past f own e alone m k = record {
  here = alone own.school own.student own.year own.term
      ∙ ap (told_account past own) (account-moved past f own.school own.student own.year own.term e k);
  elsewhere = λ asked away. alone asked.school asked.student asked.year asked.term
      ∙ ap (told_account past asked)
      (account-same past f asked.school asked.student asked.year asked.term (entry-elsewhere past f.key f.what (named asked) (named own) m away));
}

pay-place : (past : List Filing) (key : Key) (a : Amount) (e : Account) → IsOwnEntry past key (Pay a) e →
    IsPlaceWritten past (record { key = key; what = Pay a }) (place_of key a) (with_moved (place_row past key.school a.student a.year a.term) e)
pay-place past key a e k =
    money-place past (record { key = key; what = Pay a }) (place_of key a) e (λ school student year term. refl) (moves past key (Pay a)) k

repay-place : (past : List Filing) (key : Key) (a : Amount) (e : Account) → IsOwnEntry past key (Repay a) e →
    IsPlaceWritten past (record { key = key; what = Repay a }) (place_of key a) (with_moved (place_row past key.school a.student a.year a.term) e)
repay-place past key a e k =
    money-place past (record { key = key; what = Repay a }) (place_of key a) e (λ school student year term. refl) (moves past key (Repay a)) k

adjust-place : (past : List Filing) (key : Key) (a : Amount) (e : Account) → IsOwnEntry past key (Adjust a) e →
    IsPlaceWritten past (record { key = key; what = Adjust a }) (place_of key a) (with_moved (place_row past key.school a.student a.year a.term) e)
adjust-place past key a e k =
    money-place past (record { key = key; what = Adjust a }) (place_of key a) e (λ school student year term. refl) (moves past key (Adjust a)) k

-- the term of a return that was sent back
abbrev pub place_sent : Key → SentFacts → StudentPlace
place_sent key s = record { student = s.student; school = key.school; year = s.year; term = s.term }

sent-filed : (past : List Filing) (key : Key) (s : SentFacts) (e : Account) → IsOwnEntry past key (Sent s) e →
    IsPlaceWritten past (record { key = key; what = Sent s }) (place_sent key s) (with_moved (place_row past key.school s.student s.year s.term) e)
sent-filed past key s e k =
    money-place past (record { key = key; what = Sent s }) (place_sent key s) e (λ school student year term. refl) (moves past key (Sent s)) k

-- a withdrawal, the first from its term, tells its position, what could have been disbursed and the day of its determination too
abbrev told_withdrawal : List Filing → StudentPlace → Option WithdrawFacts → Account → PlaceRow
told_withdrawal past at o a = record (place_row past at.school at.student at.year at.term) {
  withdrawn_at = first_of_two (is_some o) (withdrawn_at past at.school at.student at.year at.term) (length past + 1);
  could = could_of (earlier o (the_withdrawal past at.school at.student at.year at.term));
  determined = determined_of (earlier o (the_withdrawal past at.school at.student at.year at.term));
  account = a;
}

abbrev pub with_withdrawal : PlaceRow → ℕ → WithdrawFacts → PlaceRow
with_withdrawal row position w = record row { withdrawn_at = position; could = w.could; determined = w.determined }

abbrev with_told : PlaceRow → ℕ → Option WithdrawFacts → PlaceRow
with_told row position o = record row { withdrawn_at = position; could = could_of o; determined = determined_of o }

first_withdrawal : (row : PlaceRow) (w : WithdrawFacts) (position n : ℕ) (o : Option WithdrawFacts) → n ≡ 0 → o ≡ None →
    with_told row (first_of_two true n position) (earlier (Some w) o) ≡ with_withdrawal row position w
first_withdrawal row w position n o e0 e1 = rw (e0, e1) refl

withdraw-filed : (past : List Filing) (key : Key) (w : WithdrawFacts) (e : Account) → breaks past (record { key = key; what = Withdraw w }) ≡ None →
    IsOwnEntry past key (Withdraw w) e →
    IsPlaceWritten past (record { key = key; what = Withdraw w }) (place_left key w)
    (with_withdrawal (with_moved (place_row past key.school w.student w.year w.term) e) (length past + 1) w)
withdraw-filed past key w e rule k =
    let f : Filing = record { key = key; what = Withdraw w } in
    let own : StudentPlace = place_left key w in
    let first = withdrawn_first past key w rule in
    let none = none_told (at_school key.school (withdrawal_in w.student w.year w.term)) past first in
    record {
      here = ap (λ (o : Option WithdrawFacts). told_withdrawal past own o (account_row (f ∷ past) own.school own.student own.year own.term))
          (told_some (key.school == key.school) _ w (own_place key.school w.student w.year w.term))
          ∙ (ap (told_withdrawal past own (Some w)) (account-moved past f own.school own.student own.year own.term e k)
          ∙ first_withdrawal (with_moved (place_row past key.school w.student w.year w.term) e) w (length past + 1) _ _ first none);
      elsewhere = λ asked away. ap (λ (o : Option WithdrawFacts). told_withdrawal past asked o (account_row (f ∷ past) asked.school asked.student asked.year asked.term))
          (told_none (key.school == asked.school) _ w away)
          ∙ ap (told_withdrawal past asked None)
          (account-same past f asked.school asked.student asked.year asked.term (entry-elsewhere past key (Withdraw w) (named asked) (named own) (moves past key (Withdraw w)) away));
    }

-- what is filed is an amount
abbrev pub IsAmount : What → Amount → Type 0
IsAmount what a = (what ≡ Pay a) ⊎ ((what ≡ Repay a) ⊎ (what ≡ Adjust a))

-- the same of a filing by what it is
pub enroll-place : (past : List Filing) (f : Filing) (e : EnrollFacts) → f.what ≡ Enroll e →
    IsPlaceWritten past f (place_name f.key.school e) (record (place_row past f.key.school e.student e.year e.term) { credits = e.credits })
enroll-place past f e is =
    subst (λ (what : What). IsPlaceWritten past (record { key = f.key; what = what }) (place_name f.key.school e)
    (record (place_row past f.key.school e.student e.year e.term) { credits = e.credits })) (sym is)
    (enroll-filed past f.key e)

pub amount-place : (past : List Filing) (f : Filing) (a : Amount) (e : Account) → IsAmount f.what a → IsOwnEntry past f.key f.what e →
    IsPlaceWritten past f (place_of f.key a) (with_moved (place_row past f.key.school a.student a.year a.term) e)
amount-place past f a e is k = by is
  where
    of : (what : What) → what ≡ f.what → (IsOwnEntry past f.key what e →
        IsPlaceWritten past (record { key = f.key; what = what }) (place_of f.key a) (with_moved (place_row past f.key.school a.student a.year a.term) e)) →
        IsPlaceWritten past f (place_of f.key a) (with_moved (place_row past f.key.school a.student a.year a.term) e)
    of what same filed =
        subst (λ (x : What). IsOwnEntry past f.key x e →
        IsPlaceWritten past (record { key = f.key; what = x }) (place_of f.key a) (with_moved (place_row past f.key.school a.student a.year a.term) e)) same filed k

    by : IsAmount f.what a → IsPlaceWritten past f (place_of f.key a) (with_moved (place_row past f.key.school a.student a.year a.term) e)
    by (inl pays) = of (Pay a) (sym pays) (pay-place past f.key a e)
    by (inr (inl repays)) = of (Repay a) (sym repays) (repay-place past f.key a e)
    by (inr (inr adjusts)) = of (Adjust a) (sym adjusts) (adjust-place past f.key a e)

pub withdraw-place : (past : List Filing) (f : Filing) (w : WithdrawFacts) (e : Account) → f.what ≡ Withdraw w → breaks past f ≡ None → IsOwnEntry past f.key f.what e →
    IsPlaceWritten past f (place_left f.key w) (with_withdrawal (with_moved (place_row past f.key.school w.student w.year w.term) e) (length past + 1) w)
withdraw-place past f w e is =
    subst (λ (what : What). breaks past (record { key = f.key; what = what }) ≡ None → IsOwnEntry past f.key what e →
    IsPlaceWritten past (record { key = f.key; what = what }) (place_left f.key w)
    (with_withdrawal (with_moved (place_row past f.key.school w.student w.year w.term) e) (length past + 1) w)) (sym is)
    (withdraw-filed past f.key w e)

pub sent-place : (past : List Filing) (f : Filing) (s : SentFacts) (e : Account) → f.what ≡ Sent s → IsOwnEntry past f.key f.what e →
    IsPlaceWritten past f (place_sent f.key s) (with_moved (place_row past f.key.school s.student s.year s.term) e)
sent-place past f s e is =
    subst (λ (what : What). IsOwnEntry past f.key what e →
    IsPlaceWritten past (record { key = f.key; what = what }) (place_sent f.key s) (with_moved (place_row past f.key.school s.student s.year s.term) e)) (sym is)
    (sent-filed past f.key s e)

-- an enrollment's row has the name of its place
pub enrolled : (f : Filing) (filed : EnrollFacts) (r : StudentPlace × PlaceRow) → f.what ≡ Enroll filed → r.0 ≡ place_name f.key.school filed →
    (e : EnrollFacts) → f.what ≡ Enroll e → (row : PlaceRow) × (Some r ≡ Some (place_name f.key.school e, row))
enrolled f filed r is name e told =
    let same : filed ≡ e = cc in
    (r.1, ap (λ (n : StudentPlace). Some (n, r.1)) (name ∙ ap (place_name f.key.school) same))

-- a pair that is the name and the row
pub placed : (past : List Filing) (f : Filing) (own : StudentPlace) (row : PlaceRow) (r : StudentPlace × PlaceRow) →
    IsPlaceWritten past f own row → r.0 ≡ own → r.1 ≡ row → IsPlaceAfter past f (Some r)
placed past f own row r w e0 e1 =
    subst (λ (x : StudentPlace × PlaceRow). IsPlaceAfter past f (Some x)) (pair own row e0 e1) (place_written past f own row w)
  where
    pair : (own : StudentPlace) (row : PlaceRow) → r.0 ≡ own → r.1 ≡ row → ◌≡◌ {A = StudentPlace × PlaceRow} (own, row) r
    pair own row e0 e1 = rw (sym e0, sym e1) refl

no-sums : HasSums nothing
no-sums = record { paid = none; taken = none; owed = none; repaid = none; returned = none; sent = none; after = none; after_all = omega arith; post = omega arith }
  where
    none : (p : ℕ) → slice_index (0 ∷ 0 ∷ 0 ∷ 0 ∷ 0 ∷ 0 ∷ []) p ≤ 10 ^ 18
    none = six-sums (λ p. 0) 0 (λ p. omega arith) (omega arith)

-- the sums of a filing's entry at its own term are small
pub own-sums : (past : List Filing) (key : Key) (what : What) (e : Account) → IsLegal (record { key = key; what = what } ∷ past) → IsOwnEntry past key what e → HasSums e
own-sums past key (Pay a) e legal k = entry-sums past (record { key = key; what = Pay a }) key.school a.student a.year a.term e legal k
own-sums past key (Repay a) e legal k = entry-sums past (record { key = key; what = Repay a }) key.school a.student a.year a.term e legal k
own-sums past key (Adjust a) e legal k = entry-sums past (record { key = key; what = Adjust a }) key.school a.student a.year a.term e legal k
own-sums past key (Withdraw w) e legal k = entry-sums past (record { key = key; what = Withdraw w }) key.school w.student w.year w.term e legal k
own-sums past key (BookFiled b) e legal k = rw k no-sums
own-sums past key (School b) e legal k = rw k no-sums
own-sums past key (Calendar b) e legal k = rw k no-sums
own-sums past key (Prior b) e legal k = rw k no-sums
own-sums past key (Apply b) e legal k = rw k no-sums
own-sums past key (Enroll b) e legal k = rw k no-sums
own-sums past key (Originate b) e legal k = rw k no-sums
own-sums past key (Cost b) e legal k = rw k no-sums
own-sums past key (Sent s) e legal k = entry-sums past (record { key = key; what = Sent s }) key.school s.student s.year s.term e legal k
own-sums past key (Amend b) e legal k = rw k no-sums

-- and so are those of the account of a term
pub row-sums : (past : List Filing) (school student year term : ℕ) → IsLegal past → HasSums (account_row past school student year term)
row-sums past school student year term legal =
    account-sums past school student year term (account_row past school student year term) legal (row-account past school student year term)
