-- The application in force is the filed one with the highest transaction, and a cost of attendance on file has one.
use Rattle.std.proofs.Common.{◌≡◌, ℕ, zero, suc, ◌+◌, ◌<◌, ◌≤◌, refl, sym, ap, subst, ◌∙◌, arith, Bool, true, false, List, [], ◌∷◌, length, Option, Some, None, eqb-true, eq-eqb, zero-le, ltb-true, ltb-false, ◌⊎◌, inl, inr}
use Rattle.std.specs.Prelude.{◌==◌, ◌&&◌, IfSome, is_some, nat_lt, if◌then◌else◌}
use Rattle.std.specs.List.{Contains}
use Rattle.std.proofs.lemmas.Option.{same_Some}
use Rattle.aid_books.specs.declared.book.Book.{Book}
use Rattle.aid_types.specs.declared.application.Application.{Application}
use Rattle.aid_types.specs.declared.number.Key.{Key}
use Rattle.aid_filings.specs.declared.filing.Filing.{Filing}
use Rattle.aid_filings.specs.declared.filing.What.{What}
use Rattle.aid_filings.specs.declared.filing.What.TheVariants.{Book as BookFiled, School, Calendar, Prior, Apply, Enroll, Originate, Pay, Withdraw, Repay, Adjust, Cost, Sent, Amend}
use Rattle.aid_types.proofs.Holds.{all_hold, hold_back, lacks_holds}
use Rattle.aid_types.specs.RuleLines.{lacks, only}
use Rattle.office_history.specs.Answer.{IsLegal, breaks, standing_of, standing_under}
use Rattle.office_history.specs.Applications.{IsFiledApplication, IsInForce}
use Rattle.office_history.specs.Past.{amount_or, application, application_in, at_school, book_in, cost, earlier, first_of_two, given, higher, if_here, originated_in, the_book}
use Rattle.office_history.specs.Positions.{book_at, cost_at, school_at, transaction_of}
use Rattle.office_history.specs.Rules.{rules_of}
use Rattle.office_history.proofs.Among.{among_cases, among_head, among_rest}
use Rattle.office_history.proofs.Asked.{some_told}
use Rattle.office_history.proofs.Cost.{cost_unfiled}

-- ---- of two applications
higher_bounds : (new before : Option Application) → (transaction_of before ≤ transaction_of (higher new before)) × (transaction_of new ≤ transaction_of (higher new before))
higher_bounds None before = (omega arith, zero-le)
higher_bounds (Some a) None = (zero-le, omega arith)
higher_bounds (Some a) (Some b) = go (nat_lt b.transaction a.transaction) refl
  where
    go : (t : Bool) → nat_lt b.transaction a.transaction ≡ t →
        (b.transaction ≤ transaction_of (if t then Some a else Some b)) × (a.transaction ≤ transaction_of (if t then Some a else Some b))
    go true e = let less = ltb-true b.transaction a.transaction e in (omega (arith, less), omega arith)
    go false e = (omega arith, ltb-false b.transaction a.transaction e)

higher_either : (new before : Option Application) (a : Application) → higher new before ≡ Some a → (new ≡ Some a) ⊎ (before ≡ Some a)
higher_either None before a h = inr h
higher_either (Some n) None a h = inl h
higher_either (Some n) (Some b) a h = go (nat_lt b.transaction n.transaction) h
  where
    go : (t : Bool) → (if t then Some n else Some b) ≡ Some a → (Some n ≡ Some a) ⊎ (Some b ≡ Some a)
    go true h = inl h
    go false h = inr h

higher_new : (new before : Option Application) → is_some new ≡ true → is_some (higher new before) ≡ true
higher_new None before h = cc
higher_new (Some n) None h = refl
higher_new (Some n) (Some b) h = go (nat_lt b.transaction n.transaction)
  where
    go : (t : Bool) → is_some (if t then Some n else Some b) ≡ true
    go true = refl
    go false = refl

higher_before : (new before : Option Application) → is_some before ≡ true → is_some (higher new before) ≡ true
higher_before None before h = h
higher_before (Some n) None h = refl
higher_before (Some n) (Some b) h = higher_new (Some n) (Some b) refl

-- ---- what a filing tells is the application that it is
told_apply : (student year : ℕ) (what : What) (a : Application) → application_in student year what ≡ Some a → (what ≡ Apply a) × (a.student ≡ student) × (a.year ≡ year)
told_apply student year (Apply b) a h = go (b.student == student) (b.year == year) refl refl h
  where
    go : (t u : Bool) → (b.student == student) ≡ t → (b.year == year) ≡ u → given (t && u) b ≡ Some a → (Apply b ≡ Apply a) × (a.student ≡ student) × (a.year ≡ year)
    go true true e d h =
        let is : b ≡ a = same_Some b a h in
        (ap Apply is, ap (λ (x : Application). x.student) (sym is) ∙ eqb-true b.student student e, ap (λ (x : Application). x.year) (sym is) ∙ eqb-true b.year year d)
    go true false e d h = absurd cc
    go false u e d h = absurd cc
told_apply student year (BookFiled b) a h = absurd cc
told_apply student year (School s) a h = absurd cc
told_apply student year (Calendar c) a h = absurd cc
told_apply student year (Prior p) a h = absurd cc
told_apply student year (Enroll e) a h = absurd cc
told_apply student year (Originate o) a h = absurd cc
told_apply student year (Pay p) a h = absurd cc
told_apply student year (Withdraw w) a h = absurd cc
told_apply student year (Repay r) a h = absurd cc
told_apply student year (Adjust r) a h = absurd cc
told_apply student year (Cost o) a h = absurd cc
told_apply student year (Sent o) a h = absurd cc
told_apply student year (Amend o) a h = absurd cc

apply_told : (student year : ℕ) (what : What) (a : Application) → what ≡ Apply a → a.student ≡ student → a.year ≡ year → application_in student year what ≡ Some a
apply_told student year what a is s y = ap (application_in student year) is ∙ rw (eq-eqb a.student student s, eq-eqb a.year year y) refl

-- ---- in any history
module _ (student year : ℕ) where
  filed : (past : List Filing) (a : Application) → application past student year ≡ Some a → IsFiledApplication past student year a
  filed [] a h = absurd cc
  filed (f ∷ past) a h = go (filed past a) (higher_either (application_in student year f.what) (application past student year) a h)
    where
      go : (application past student year ≡ Some a → IsFiledApplication past student year a) → (application_in student year f.what ≡ Some a) ⊎ (application past student year ≡ Some a) → IsFiledApplication (f ∷ past) student year a
      go ih (inl new) = let t = told_apply student year f.what a new in record { filing = f; among = among_head f past; is = t.0; of_student = t.1; of_year = t.2 }
      go ih (inr old) = let k = ih old in record { filing = k.filing; among = among_rest f past k.filing k.among; is = k.is; of_student = k.of_student; of_year = k.of_year }

  -- what is filed has no higher transaction, and something is in force
  abbrev Below : List Filing → Application → Type 0
  Below past a = (a.transaction ≤ transaction_of (application past student year)) × (is_some (application past student year) ≡ true)

  below : (past : List Filing) (g : Filing) (a : Application) → Contains past g → application_in student year g.what ≡ Some a → Below past a
  below [] g a among h = absurd (omega (arith, among.1))
  below (f ∷ past) g a among h = go (λ k. below past g a k h) (among_cases f past g among)
    where
      go : (Contains past g → Below past a) → (f ≡ g) ⊎ Contains past g → Below (f ∷ past) a
      go rest (inl same) =
          let is : application_in student year f.what ≡ Some a = ap (λ (x : Filing). application_in student year x.what) same ∙ h in (
            subst (λ (o : Option Application). transaction_of o ≤ transaction_of (higher (application_in student year f.what) (application past student year))) is
                (higher_bounds (application_in student year f.what) (application past student year)).1,
            higher_new (application_in student year f.what) (application past student year) (ap is_some is),
          )
      go rest (inr k) =
          let ih = rest k in
          (omega (arith, ih.0, (higher_bounds (application_in student year f.what) (application past student year)).0), higher_before (application_in student year f.what) (application past student year) ih.1)

  is_below : (past : List Filing) (b : Application) → IsFiledApplication past student year b → Below past b
  is_below past b h = below past h.filing b h.among (apply_told student year h.filing.what b h.is h.of_student h.of_year)

  -- an application in force is one
  pub in_force_is : (past : List Filing) (o : Option Application) → application past student year ≡ o → IfSome o (IsInForce past student year)
  in_force_is past None h = tt
  in_force_is past (Some a) h =
      record { filed = filed past a h; highest = λ b k. subst (λ (o : Option Application). b.transaction ≤ transaction_of o) h (is_below past b k).0 }

  pub some_in_force : (past : List Filing) (b : Application) → IsFiledApplication past student year b → is_some (application past student year) ≡ true
  some_in_force past b h = (is_below past b h).1

-- ---- in a legal history a cost on file has an application in force
abbrev CostHasOne : List Filing → Type 0
CostHasOne past = (school student year : ℕ) → 0 < cost_at past school student year → 0 < transaction_of (application past student year)

-- the place of the earliest filing that passes: the newest one's own, or an older one's
newest_or : (t : Bool) (k n : ℕ) → 0 < first_of_two t k n → (t ≡ true) ⊎ (0 < k)
newest_or true k n h = inl refl
newest_or false k n h = inr h

of_origination : (past : List Filing) (key : Key) (school student year : ℕ) (what : What) → is_some (at_school school (originated_in student year) (record { key = key; what = what })) ≡ true
    → breaks past (record { key = key; what = what }) ≡ None → 0 < transaction_of (application past student year)
of_origination past key school student year (Originate o) t h = go (key.school == school) (o.student == student) (o.year == year) refl refl t
  where
    go : (x y z : Bool) → (o.student == student) ≡ y → (o.year == year) ≡ z → is_some (if_here x (given (y && z) o.cost)) ≡ true → 0 < transaction_of (application past student year)
    go true true true e d t =
        let own = lacks_holds 31 (transaction_of (application past o.student o.year)) o.student o.year (all_hold (rules_of past key (Originate o)) h).1.1.0 in
        subst (λ y. 0 < transaction_of (application past student y)) (eqb-true o.year year d)
        (subst (λ s. 0 < transaction_of (application past s o.year)) (eqb-true o.student student e) own)
    go true true false e d t = absurd cc
    go true false z e d t = absurd cc
    go false true true e d t = absurd cc
    go false true false e d t = absurd cc
    go false false z e d t = absurd cc
of_origination past key school student year (BookFiled b) t h = absurd cc
of_origination past key school student year (School s) t h = absurd cc
of_origination past key school student year (Calendar c) t h = absurd cc
of_origination past key school student year (Prior p) t h = absurd cc
of_origination past key school student year (Apply a) t h = absurd cc
of_origination past key school student year (Enroll e) t h = absurd cc
of_origination past key school student year (Pay p) t h = absurd cc
of_origination past key school student year (Withdraw w) t h = absurd cc
of_origination past key school student year (Repay r) t h = absurd cc
of_origination past key school student year (Adjust r) t h = absurd cc
of_origination past key school student year (Cost o) t h = absurd cc
of_origination past key school student year (Sent o) t h = absurd cc
of_origination past key school student year (Amend o) t h = absurd cc

pub cost_has_one : (past : List Filing) → IsLegal past → CostHasOne past
cost_has_one [] legal school student year h = absurd (omega (arith, h))
cost_has_one (f ∷ past) legal school student year h =
    go (cost_has_one past legal.0 school student year) (newest_or (is_some (at_school school (originated_in student year) f)) (cost_at past school student year) (length past + 1) h)
  where
    kept : 0 < transaction_of (application past student year) → 0 < transaction_of (application (f ∷ past) student year)
    kept less = omega (arith, less, (higher_bounds (application_in student year f.what) (application past student year)).0)

    go : (0 < cost_at past school student year → 0 < transaction_of (application past student year)) → (is_some (at_school school (originated_in student year) f) ≡ true) ⊎ (0 < cost_at past school student year) → 0 < transaction_of (application (f ∷ past) student year)
    go ih (inl t) = kept (of_origination past f.key school student year f.what t legal.2)
    go ih (inr old) = kept (ih old)

-- ---- and what is in force has the book of its year
earlier_before : (new before : Option Book) → is_some before ≡ true → is_some (earlier new before) ≡ true
earlier_before None before h = h
earlier_before (Some a) None h = refl
earlier_before (Some a) (Some b) h = refl

-- an application comes after its year's book
of_application : (past : List Filing) (key : Key) (student year : ℕ) (what : What) → is_some (application_in student year what) ≡ true
    → breaks past (record { key = key; what = what }) ≡ None → is_some (the_book past year) ≡ true
of_application past key student year (Apply a) t h = go (a.student == student) (a.year == year) refl t
  where
    book : 0 < book_at past a.year
    book = lacks_holds 10 (book_at past a.year) a.year 0 (hold_back (only (nat_lt 0 key.school) (lacks 12 (school_at past key.school) key.school 0 ∷ [])) _ (all_hold (rules_of past key (Apply a)) h).1).0

    go : (x y : Bool) → (a.year == year) ≡ y → is_some (given (x && y) a) ≡ true → is_some (the_book past year) ≡ true
    go true true e t = subst (λ y. is_some (the_book past y) ≡ true) (eqb-true a.year year e) (some_told (λ f. book_in a.year f.what) past book)
    go true false e t = absurd cc
    go false y e t = absurd cc
of_application past key student year (BookFiled b) t h = absurd cc
of_application past key student year (School s) t h = absurd cc
of_application past key student year (Calendar c) t h = absurd cc
of_application past key student year (Prior p) t h = absurd cc
of_application past key student year (Enroll e) t h = absurd cc
of_application past key student year (Originate o) t h = absurd cc
of_application past key student year (Pay p) t h = absurd cc
of_application past key student year (Withdraw w) t h = absurd cc
of_application past key student year (Repay r) t h = absurd cc
of_application past key student year (Adjust r) t h = absurd cc
of_application past key student year (Cost o) t h = absurd cc
of_application past key student year (Sent o) t h = absurd cc
of_application past key student year (Amend o) t h = absurd cc

some_of : (o : Option Application) (a : Application) → o ≡ Some a → is_some o ≡ true
some_of o a h = ap is_some h

its_book : (past : List Filing) (student year : ℕ) (a : Application) → IsLegal past → application past student year ≡ Some a → is_some (the_book past year) ≡ true
its_book [] student year a legal h = absurd cc
its_book (f ∷ past) student year a legal h =
    earlier_before (book_in year f.what) (the_book past year) (go (its_book past student year a legal.0) (higher_either (application_in student year f.what) (application past student year) a h))
  where
    go : (application past student year ≡ Some a → is_some (the_book past year) ≡ true) → (application_in student year f.what ≡ Some a) ⊎ (application past student year ≡ Some a) → is_some (the_book past year) ≡ true
    go ih (inl new) = of_application past f.key student year f.what (some_of (application_in student year f.what) a new) legal.2
    go ih (inr old) = ih old

-- ---- so it stands with its transaction
pub is_in_force : (o : Option Application) → 0 < transaction_of o → is_some o ≡ true
is_in_force None h = absurd (omega (arith, h))
is_in_force (Some a) h = refl

under : (b : Option Book) (o : Option Application) (paid used : ℕ) → is_some b ≡ true → 0 < transaction_of o → 0 < (standing_under b o paid used).transaction
under None o paid used s h = cc
under (Some b) None paid used s h = absurd (omega (arith, h))
under (Some b) (Some a) paid used s h = h

pub cost_stands : (past : List Filing) → IsLegal past → (school student year : ℕ) → 0 < cost_at past school student year → 0 < (standing_of past student year).transaction
cost_stands past legal school student year h = under (the_book past year) (application past student year) _ _ (go (application past student year) refl above) above
  where
    above : 0 < transaction_of (application past student year)
    above = cost_has_one past legal school student year h

    go : (o : Option Application) → application past student year ≡ o → 0 < transaction_of o → is_some (the_book past year) ≡ true
    go None e h = absurd (omega (arith, h))
    go (Some a) e h = its_book past student year a legal e

-- a cost of attendance in dollars has an origination on file
pub cost_is_filed : (past : List Filing) → IsLegal past → (school student year : ℕ) → 0 < cost past school student year → 0 < cost_at past school student year
cost_is_filed past legal school student year h = go (cost_at past school student year) refl
  where
    go : (n : ℕ) → cost_at past school student year ≡ n → 0 < cost_at past school student year
    go zero e = absurd (omega (arith, h, ap amount_or (cost_unfiled past legal school student year e)))
    go (suc n) e = omega (arith, e)
