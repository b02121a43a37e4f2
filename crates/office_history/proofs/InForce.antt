-- The application in force is the filing at its position.
use Rattle.std.proofs.Common.{◌≡◌, ℕ, zero, suc, ◌+◌, refl, sym, ap, ◌∙◌, arith, Bool, true, false, List, [], ◌∷◌, ◌++◌, length, reverse, Option, Some, None, add-one, ◌⊎◌, inl, inr}
use Rattle.std.specs.Prelude.{◌==◌, ◌&&◌, if◌then◌else◌}
use Rattle.std.specs.List.{slice_get}
use Rattle.std.proofs.lemmas.List.{length-reverse, reverse-append}
use Rattle.aid_types.specs.declared.application.Application.{Application}
use Rattle.aid_filings.specs.declared.filing.Filing.{Filing}
use Rattle.aid_filings.specs.declared.filing.What.{What}
use Rattle.aid_filings.specs.declared.filing.What.TheVariants.{Book as BookFiled, School, Calendar, Prior, Apply, Enroll, Originate, Pay, Withdraw, Repay, Adjust, Cost, Sent, Amend}
use Rattle.office_history.specs.Past.{application, application_in, given, is_higher}
use Rattle.office_history.specs.Positions.{application_at}
use Rattle.office_history.specs.Rows.{filed_application, filing_in, told_application}

-- an element stays where others are appended, and the first of these comes after the list
stays : (xs ys : List Filing) (i : ℕ) (x : Filing) → slice_get xs i ≡ Some x → slice_get (xs ++ ys) i ≡ Some x
stays [] ys i x h = absurd cc
stays (z ∷ xs) ys zero x h = h
stays (z ∷ xs) ys (suc i) x h = stays xs ys i x h

comes : (xs : List Filing) (x : Filing) (i : ℕ) → i ≡ length xs → slice_get (xs ++ x ∷ []) i ≡ Some x
comes [] x i e = ap (slice_get (x ∷ [])) e
comes (z ∷ xs) x zero e = absurd (omega arith)
comes (z ∷ xs) x (suc i) e = comes xs x i (omega arith)

-- a newer filing leaves those at the positions before it
pub older : (past : List Filing) (f g : Filing) (n : ℕ) → filing_in past (suc n) ≡ Some g → filing_in (f ∷ past) (suc n) ≡ Some g
older past f g n h = ap (λ (l : List Filing). slice_get l n) (reverse-append (f ∷ []) past) ∙ stays (reverse past) (f ∷ []) n g h

pub newest : (past : List Filing) (f : Filing) (n : ℕ) → length past + 1 ≡ suc n → filing_in (f ∷ past) (suc n) ≡ Some f
newest past f n e =
    ap (λ (l : List Filing). slice_get l n) (reverse-append (f ∷ []) past)
    ∙ comes (reverse past) f n (omega (arith, length-reverse past))

-- what tells of a student's year is an application
told_is_filed : (student year : ℕ) (what : What) (a : Application) → application_in student year what ≡ Some a → filed_application what ≡ Some a
told_is_filed student year (Apply b) a h = go (b.student == student && b.year == year) h
  where
    go : (t : Bool) → given t b ≡ Some a → Some b ≡ Some a
    go true h = h
    go false h = absurd cc
told_is_filed student year (BookFiled b) a h = absurd cc
told_is_filed student year (School s) a h = absurd cc
told_is_filed student year (Calendar c) a h = absurd cc
told_is_filed student year (Prior p) a h = absurd cc
told_is_filed student year (Enroll e) a h = absurd cc
told_is_filed student year (Originate o) a h = absurd cc
told_is_filed student year (Pay p) a h = absurd cc
told_is_filed student year (Withdraw w) a h = absurd cc
told_is_filed student year (Repay r) a h = absurd cc
told_is_filed student year (Adjust r) a h = absurd cc
told_is_filed student year (Cost o) a h = absurd cc
told_is_filed student year (Sent o) a h = absurd cc
told_is_filed student year (Amend o) a h = absurd cc

module _ (student year : ℕ) where
  -- nothing is in force and it has no position, or it is the filing at its position
  abbrev Stands : List Filing → ℕ → Option Application → Type 0
  Stands past n o = ((n ≡ 0) × (o ≡ None)) ⊎ ((m : ℕ) × (g : Filing) × (n ≡ suc m) × (filing_in past (suc m) ≡ Some g) × (filed_application g.what ≡ o))

  stands : (past : List Filing) → Stands past (application_at past student year) (application past student year)
  stands [] = inl (refl, refl)
  stands (f ∷ past) = go (application_in student year f.what) refl (is_higher (application_in student year f.what) (application past student year)) refl (stands past)
    where
      go : (new : Option Application) → application_in student year f.what ≡ new → (b : Bool) → is_higher new (application past student year) ≡ b →
          Stands past (application_at past student year) (application past student year) →
          Stands (f ∷ past) (if b then length past + 1 else application_at past student year) (if b then new else application past student year)
      go new told false h (inl s) = inl s
      go new told false h (inr s) = inr (s.0, s.1, s.2, older past f s.1 s.0 s.3, s.4)
      go None told true h s = absurd cc
      go (Some a) told true h s = inr (length past, f, add-one (length past), newest past f (length past) (add-one (length past)), told_is_filed student year f.what a told)

  pub in_force : (past : List Filing) → told_application (filing_in past (application_at past student year)) ≡ application past student year
  in_force past = go (stands past)
    where
      go : Stands past (application_at past student year) (application past student year) →
          told_application (filing_in past (application_at past student year)) ≡ application past student year
      go (inl s) = ap (λ (n : ℕ). told_application (filing_in past n)) s.0 ∙ sym s.1
      go (inr s) = ap (λ (n : ℕ). told_application (filing_in past n)) s.2 ∙ ap told_application s.3 ∙ s.4
