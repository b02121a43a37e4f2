-- The terms on file, asked filing by filing.
use Rattle.std.proofs.Common.{◌≡◌, ℕ, ◌+◌, refl, sym, ap, ◌∙◌, arith, cond, Bool, true, false, not, ◌&&◌, List, [], ◌∷◌, length, reverse}
use Rattle.std.specs.Prelude.{◌==◌, filter, count_by}
use Rattle.std.specs.List.{cons_option}
use Rattle.std.proofs.lemmas.List.{reverse-append}
use Rattle.std.proofs.lemmas.List.Sums.{sum_by-append}
use Rattle.aid_types.specs.declared.term.Term.{Term}
use Rattle.aid_filings.specs.declared.filing.Filing.{Filing}
use Rattle.aid_filings.specs.declared.filing.What.{What}
use Rattle.aid_filings.specs.declared.filing.What.TheVariants.{Book, School, Calendar, Prior, Apply, Enroll, Originate, Pay, Withdraw, Repay, Adjust, Cost, Sent, Amend}
use Rattle.law_terms.specs.Terms.{shares_day}
use Rattle.office_history.specs.Past.{FiledTerm, on_file, terms_on_file, first_at, first_of_two}
use Rattle.office_history.specs.Positions.{first_term_at}
use Rattle.office_history.specs.FiledTerms.{is_main_term, is_overlapping}

-- a count is the same from either end
count_by-reverse : {X : Type 0} (p : X → Bool) (xs : List X) → count_by p (reverse xs) ≡ count_by p xs
count_by-reverse p [] = refl
count_by-reverse p (x ∷ xs) =
    ap (count_by p) (reverse-append (x ∷ []) xs)
    ∙ sum_by-append (λ y. cond (p y) 1 0) (reverse xs) (x ∷ [])
    ∙ ap (λ (n : ℕ). n + count_by p (x ∷ [])) (count_by-reverse p xs)
    ∙ swapped (count_by p xs) (count_by p (x ∷ []))
    ∙ sym (sum_by-append (λ y. cond (p y) 1 0) (x ∷ []) xs)
  where
    swapped : (m n : ℕ) → m + n ≡ n + m
    swapped m n = omega arith

module _ (school : ℕ) (term : Term) where
  one_overlap : (filer here : ℕ) (w : What) (rest : List FiledTerm)
      → first_term_at (λ t. t.school == school && shares_day term t.term) (cons_option (on_file filer here w) rest)
      ≡ first_of_two (is_overlapping school term filer w) (first_term_at (λ t. t.school == school && shares_day term t.term) rest) here
  one_overlap filer here (Calendar c) rest = refl
  one_overlap filer here (Book b) rest = refl
  one_overlap filer here (School s) rest = refl
  one_overlap filer here (Prior p) rest = refl
  one_overlap filer here (Apply a) rest = refl
  one_overlap filer here (Enroll e) rest = refl
  one_overlap filer here (Originate o) rest = refl
  one_overlap filer here (Pay a) rest = refl
  one_overlap filer here (Withdraw w) rest = refl
  one_overlap filer here (Repay a) rest = refl
  one_overlap filer here (Adjust a) rest = refl
  one_overlap filer here (Cost o) rest = refl
  one_overlap filer here (Sent o) rest = refl
  one_overlap filer here (Amend o) rest = refl

  pub overlap_place : (past : List Filing)
      → first_at (λ f. is_overlapping school term f.key.school f.what) past ≡ first_term_at (λ t. t.school == school && shares_day term t.term) (terms_on_file past)
  overlap_place [] = refl
  overlap_place (f ∷ past) =
      ap (λ (n : ℕ). first_of_two (is_overlapping school term f.key.school f.what) n (length past + 1)) (overlap_place past)
      ∙ sym (one_overlap f.key.school (length past + 1) f.what (terms_on_file past))

module _ (school year : ℕ) where
  one_main : (filer here : ℕ) (w : What) (rest : List FiledTerm)
      → length (filter (λ t. t.school == school && (t.year == year && not t.term.extra)) (cons_option (on_file filer here w) rest))
      ≡ cond (is_main_term school year filer w) 1 0 + length (filter (λ t. t.school == school && (t.year == year && not t.term.extra)) rest)
  one_main filer here (Calendar c) rest = go (filer == school && (c.year == year && not c.extra)) _ _
    where
      go : (b : Bool) (t : FiledTerm) (ts : List FiledTerm) → length (cond b (t ∷ ts) ts) ≡ cond b 1 0 + length ts
      go true t ts = omega arith
      go false t ts = omega arith
  one_main filer here (Book b) rest = omega arith
  one_main filer here (School s) rest = omega arith
  one_main filer here (Prior p) rest = omega arith
  one_main filer here (Apply a) rest = omega arith
  one_main filer here (Enroll e) rest = omega arith
  one_main filer here (Originate o) rest = omega arith
  one_main filer here (Pay a) rest = omega arith
  one_main filer here (Withdraw w) rest = omega arith
  one_main filer here (Repay a) rest = omega arith
  one_main filer here (Adjust a) rest = omega arith
  one_main filer here (Cost o) rest = omega arith
  one_main filer here (Sent o) rest = omega arith
  one_main filer here (Amend o) rest = omega arith

  mains : (past : List Filing)
      → count_by (λ f. is_main_term school year f.key.school f.what) past ≡ length (filter (λ t. t.school == school && (t.year == year && not t.term.extra)) (terms_on_file past))
  mains [] = refl
  mains (f ∷ past) =
      sum_by-append (λ g. cond (is_main_term school year g.key.school g.what) 1 0) (f ∷ []) past
      ∙ from_none (cond (is_main_term school year f.key.school f.what) 1 0) _
      ∙ ap (λ (n : ℕ). cond (is_main_term school year f.key.school f.what) 1 0 + n) (mains past)
      ∙ sym (one_main f.key.school (length past + 1) f.what (terms_on_file past))
    where
      from_none : (one n : ℕ) → 0 + one + n ≡ one + n
      from_none one n = omega arith

  pub main_count : (h : List Filing)
      → count_by (λ f. is_main_term school year f.key.school f.what) h ≡ length (filter (λ t. t.school == school && (t.year == year && not t.term.extra)) (terms_on_file (reverse h)))
  main_count h = sym (count_by-reverse (λ f. is_main_term school year f.key.school f.what) h) ∙ mains (reverse h)
