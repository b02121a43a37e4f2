-- The filing at a position that a search tells.
use Rattle.std.proofs.Common.{◌≡◌, ℕ, zero, suc, ◌+◌, refl, sym, ap, subst, ◌∙◌, arith, Bool, true, false, List, [], ◌∷◌, length, Option, Some, None, Bor, add-one}
use Rattle.std.specs.Prelude.{◌==◌, is_some}
use Rattle.std.specs.Option.{option_copied}
use Rattle.aid_types.proofs.Same.{tells_key}
use Rattle.aid_books.specs.declared.book.Book.{Book}
use Rattle.aid_filings.specs.declared.filing.Filing.{Filing}
use Rattle.aid_filings.specs.declared.filing.What.{What}
use Rattle.aid_filings.specs.declared.filing.What.TheVariants.{Book as BookFiled, School, Calendar, Prior, Apply, Enroll, Originate, Pay, Withdraw, Repay, Adjust, Cost, Sent, Amend}
use Rattle.aid_filings.proofs.SameFiling.{tells_filing}
use Rattle.office_history.specs.Answer.{IsLegal}
use Rattle.office_history.specs.Positions.{book_at}
use Rattle.office_history.specs.Past.{book_in, earlier, earliest, filing_at, first_at, first_of_two, given, key_at, same_filing, same_key, the_book}
use Rattle.office_history.proofs.InForce.{newest, older}
use Rattle.office_history.proofs.Legal.{filing_at-new}
use Rattle.office_history.specs.Rows.{filing_in}
use Rattle.office_index.specs.Index.{book_filed}

-- what a search finds stands at its position and passes its test
abbrev Finds : (Filing → Bool) → List Filing → ℕ → Type 0
Finds p past n = (g : Filing) × (filing_in past (suc n) ≡ Some g) × (p g ≡ true)

pub found : (p : Filing → Bool) (past : List Filing) (n : ℕ) → first_at p past ≡ suc n → Finds p past n
found p [] n h = absurd (omega arith)
found p (f ∷ past) n h = go (found p past n) (p f) (first_at p past) refl refl h
  where
    before : Finds p past n → Finds p (f ∷ past) n
    before w = (w.0, older past f w.0 n w.1, w.2)

    go : (first_at p past ≡ suc n → Finds p past n) → (b : Bool) (k : ℕ) → p f ≡ b → first_at p past ≡ k →
        first_of_two b k (length past + 1) ≡ suc n → Finds p (f ∷ past) n
    go ih false k t e h = before (ih (e ∙ h))
    go ih true zero t e h = (f, newest past f n h, t)
    go ih true (suc k) t e h = before (ih (e ∙ h))

-- a filing that stands is at its position
pub filing_found : (past : List Filing) (f : Filing) (n : ℕ) → filing_at f past ≡ suc n → filing_in past (suc n) ≡ Some f
filing_found past f n h =
    let w = found (λ g. same_filing f g) past n h in
    w.1 ∙ ap (λ (g : Filing). Some g) (sym (tells_filing.same f w.0 w.2))

-- in a legal history its key is there too
pub key_stands : (past : List Filing) (f : Filing) (n : ℕ) → IsLegal past → filing_at f past ≡ suc n → key_at f.key past ≡ suc n
key_stands [] f n legal h = absurd (omega arith)
key_stands (g ∷ past) f n legal h = go (key_stands past f n legal.0) (same_filing f g) refl h
  where
    either : (b : Bool) (k m : ℕ) → k ≡ suc n → first_of_two b k m ≡ suc n
    either false k m e = e
    either true zero m e = absurd (omega arith)
    either true (suc k) m e = e

    go : (filing_at f past ≡ suc n → key_at f.key past ≡ suc n) → (b : Bool) → same_filing f g ≡ b →
        first_of_two b (filing_at f past) (length past + 1) ≡ suc n →
        first_of_two (same_key f.key g.key) (key_at f.key past) (length past + 1) ≡ suc n
    go ih false t h = either (same_key f.key g.key) (key_at f.key past) (length past + 1) (ih h)
    go ih true t h =
        let same : f ≡ g = tells_filing.same f g t in
        let key : same_key f.key g.key ≡ true = subst (λ (x : Filing). same_key f.key x.key ≡ true) same (tells_key.told f.key) in
        let new : key_at f.key past ≡ 0 = subst (λ (x : Filing). key_at x.key past ≡ 0) (sym same) legal.1 in
        let nowhere : filing_at f past ≡ 0 = filing_at-new past f new in
        rw (key, new) (rw nowhere at h)

-- so where another filing has its key, it stands nowhere
pub other_stands : (past : List Filing) (f g : Filing) (n : ℕ) → IsLegal past → key_at f.key past ≡ suc n → filing_in past (suc n) ≡ Some g →
    (g ≡ f → ⊥) → filing_at f past ≡ 0
other_stands past f g n legal key at other = go (filing_at f past) refl
  where
    go : (k : ℕ) → filing_at f past ≡ k → k ≡ 0
    go zero e = refl
    go (suc k) e =
        let same : suc k ≡ suc n = sym (key_stands past f k legal e) ∙ key in
        let here : filing_in past (suc n) ≡ Some f = subst (λ (m : ℕ). filing_in past m ≡ Some f) same (filing_found past f k e) in
        absurd (other cc)

-- what the earliest filing tells is told by the filing at the position that a search finds
abbrev asked : {A : Type 0} → (Filing → Option A) → Option Filing → Option A
asked operation None = None
asked operation (Some f) = operation f

earlier_some : {A : Type 0} (a : A) (o : Option A) → is_some o ≡ true → earlier (Some a) o ≡ o
earlier_some a None some = cc
earlier_some a (Some b) some = refl

pub earliest_at : {A : Type 0} (operation : Filing → Option A) (past : List Filing) →
    earliest operation past ≡ asked operation (filing_in past (first_at (λ f. is_some (operation f)) past))
earliest_at operation [] = refl
earliest_at {A} operation (f ∷ past) = go (earliest_at operation past) (operation f) refl (first_at (λ g. is_some (operation g)) past) refl
  where
    go : earliest operation past ≡ asked operation (filing_in past (first_at (λ g. is_some (operation g)) past)) → (o : Option A) → operation f ≡ o → (k : ℕ) →
        first_at (λ g. is_some (operation g)) past ≡ k →
        earlier o (earliest operation past) ≡ asked operation (filing_in (f ∷ past) (first_of_two (is_some o) k (length past + 1)))
    go ih None t zero e = ih ∙ ap (λ (n : ℕ). asked operation (filing_in past n)) e
    go ih None t (suc n) e =
        let w = found (λ g. is_some (operation g)) past n e in
        ih ∙ ap (λ (n : ℕ). asked operation (filing_in past n)) e ∙ ap (asked operation) (w.1 ∙ sym (older past f w.0 n w.1))
    go ih (Some a) t zero e =
        ap (earlier (Some a)) (ih ∙ ap (λ (n : ℕ). asked operation (filing_in past n)) e)
        ∙ sym t
        ∙ sym (ap (asked operation) (ap (filing_in (f ∷ past)) (add-one (length past)) ∙ newest past f (length past) (add-one (length past))))
    go ih (Some a) t (suc n) e =
        let w = found (λ g. is_some (operation g)) past n e in
        let told : earliest operation past ≡ operation w.0 = ih ∙ ap (λ (n : ℕ). asked operation (filing_in past n)) e ∙ ap (asked operation) w.1 in
        earlier_some a (earliest operation past) (ap is_some told ∙ w.2) ∙ told ∙ sym (ap (asked operation) (older past f w.0 n w.1))

-- so a year's book is the one that is filed where its search tells
abbrev pub filed_at : Option Filing → Option Book
filed_at None = None
filed_at (Some f) = book_filed f.what

given_filed : (year : ℕ) (w : What) → is_some (book_in year w) ≡ true → book_in year w ≡ book_filed w
given_filed year (BookFiled b) some = go (b.year == year) some
  where
    go : (t : Bool) → is_some (given t b) ≡ true → given t b ≡ Some b
    go true some = refl
    go false some = cc
given_filed year (School s) some = cc
given_filed year (Calendar s) some = cc
given_filed year (Prior s) some = cc
given_filed year (Apply s) some = cc
given_filed year (Enroll s) some = cc
given_filed year (Originate s) some = cc
given_filed year (Pay s) some = cc
given_filed year (Withdraw s) some = cc
given_filed year (Repay s) some = cc
given_filed year (Adjust s) some = cc
given_filed year (Cost s) some = cc
given_filed year (Sent s) some = cc
given_filed year (Amend s) some = cc

pub book_found : (past : List Filing) (year : ℕ) → the_book past year ≡ filed_at (filing_in past (book_at past year))
book_found past year = earliest_at (λ f. book_in year f.what) past ∙ go (book_at past year) refl
  where
    go : (k : ℕ) → book_at past year ≡ k → asked (λ f. book_in year f.what) (filing_in past k) ≡ filed_at (filing_in past k)
    go zero e = refl
    go (suc n) e =
        let w = found (λ f. is_some (book_in year f.what)) past n e in
        ap (asked (λ f. book_in year f.what)) w.1 ∙ given_filed year w.0.what w.2 ∙ sym (ap filed_at w.1)

pub book_here : (past : List Filing) (year position : ℕ) (o : Option (Bor Filing)) → position ≡ book_at past year → option_copied o ≡ filing_in past position →
    the_book past year ≡ filed_at (option_copied o)
book_here past year position o at here = book_found past year ∙ ap (λ (n : ℕ). filed_at (filing_in past n)) (sym at) ∙ ap filed_at (sym here)
