-- Books with equal numbers are equal.
use Rattle.std.proofs.Common.{◌≡◌, ℕ, zero, suc, ℤ, pos, List, [], ◌∷◌, ◌++◌, length, refl, sym, ap, ◌∙◌, append_assoc, arith}
use Rattle.std.specs.Prelude.{flat_map, slice_index_or}
use Rattle.aid_books.proofs.SameBook.{age_row_parts, age_row_whole, asset_rates_parts, asset_rates_whole, book_parts, book_whole, bracket_parts, bracket_whole, by_size_parts, by_size_whole, employment_parts, employment_whole, payroll_parts, payroll_whole, pell_figures_parts, pell_figures_whole, percents_parts, percents_whole, poverty_parts, poverty_whole, protection_parts, protection_whole, schedule_parts, schedule_whole}
use Rattle.aid_books.specs.declared.ages.AgeRow.{AgeRow}
use Rattle.aid_books.specs.declared.book.AssetRates.{AssetRates}
use Rattle.aid_books.specs.declared.book.Book.{Book}
use Rattle.aid_books.specs.declared.book.Employment.{Employment}
use Rattle.aid_books.specs.declared.book.Payroll.{Payroll}
use Rattle.aid_books.specs.declared.book.PellFigures.{PellFigures}
use Rattle.aid_books.specs.declared.book.Percents.{Percents}
use Rattle.aid_books.specs.declared.book.Poverty.{Poverty}
use Rattle.aid_books.specs.declared.book.Protection.{Protection}
use Rattle.aid_books.specs.declared.book.Schedule.{Schedule}
use Rattle.aid_books.specs.declared.by_size.BySize.{BySize}
use Rattle.aid_books.specs.declared.marginal.Bracket.{Bracket}
use Rattle.format_kinds.proofs.Chain.{length-poverty, length-protection, length-size_numbers}
use Rattle.format_kinds.specs.Book.{age_numbers, age_row, asset_numbers, bracket_numbers, bracket_row, ceiling_numbers, employment_numbers, form_number, numbers_of, payroll_numbers, pell_numbers, percent_numbers, poverty_numbers, protection_numbers, schedule_numbers, size_numbers}

-- two lists with equal beginnings and equal ends
pub record Same {X : Type 0} (x y : X) (xs ys : List ℤ) : Type 0 where
  pub first : x ≡ y
  pub rest : xs ≡ ys

cut : (a b xs ys : List ℤ) → length a ≡ length b → a ++ xs ≡ b ++ ys → Same a b xs ys
cut [] [] xs ys l e = record { first = refl; rest = e }
cut [] (y ∷ b) xs ys l e = absurd (omega arith)
cut (x ∷ a) [] xs ys l e = absurd (omega arith)
cut (x ∷ a) (y ∷ b) xs ys l e =
    let head : x ≡ y = cc in
    let tail : a ++ xs ≡ b ++ ys = cc in
    let rest = cut a b xs ys (omega arith) tail in
    record { first = ap (λ z. z ∷ a) head ∙ ap (λ l. y ∷ l) rest.first; rest = rest.rest }

at : List ℤ → ℕ → ℤ
at zs k = slice_index_or zs k (pos 0)

same_size : {first count : ℕ} (x y : BySize first count) (xs ys : List ℤ) → size_numbers x ++ xs ≡ size_numbers y ++ ys → Same x y xs ys
unfolding by_size_parts
same_size {first} {count} x y xs ys e =
    let both = cut (size_numbers x) (size_numbers y) xs ys (length-size_numbers x ∙ sym (length-size_numbers y)) e in
    let lists = cut x.sizes y.sizes (x.extra ∷ []) (y.extra ∷ []) (x.sizes_counted ∙ sym y.sizes_counted) both.first in
    let extra : x.extra ≡ y.extra = let more = lists.rest in cc in
    record { first = by_size_whole first count x y (λ i. (lists.first i, extra i)); rest = both.rest }

same_pell : (x y : PellFigures) (xs ys : List ℤ) → pell_numbers x ++ xs ≡ pell_numbers y ++ ys → Same x y xs ys
unfolding pell_figures_parts at
same_pell x y xs ys e =
    let both = cut (pell_numbers x) (pell_numbers y) xs ys refl e in
    record { first = pell_figures_whole x y (ap (λ (zs : List ℤ). (at zs 0, at zs 1)) both.first); rest = both.rest }

same_percent : (x y : Percents) (xs ys : List ℤ) → percent_numbers x ++ xs ≡ percent_numbers y ++ ys → Same x y xs ys
unfolding percents_parts at
same_percent x y xs ys e =
    let both = cut (percent_numbers x) (percent_numbers y) xs ys refl e in
    record { first = percents_whole x y (ap (λ (zs : List ℤ). (at zs 0, (at zs 1, (at zs 2, (at zs 3, (at zs 4, (at zs 5, at zs 6))))))) both.first); rest = both.rest }

same_payroll : (x y : Payroll) (xs ys : List ℤ) → payroll_numbers x ++ xs ≡ payroll_numbers y ++ ys → Same x y xs ys
unfolding payroll_parts at
same_payroll x y xs ys e =
    let both = cut (payroll_numbers x) (payroll_numbers y) xs ys refl e in
    record { first = payroll_whole x y (ap (λ (zs : List ℤ). (at zs 0, (at zs 1, (at zs 2, (at zs 3, (at zs 4, at zs 5)))))) both.first); rest = both.rest }

same_employment : (x y : Employment) (xs ys : List ℤ) → employment_numbers x ++ xs ≡ employment_numbers y ++ ys → Same x y xs ys
unfolding employment_parts at
same_employment x y xs ys e =
    let both = cut (employment_numbers x) (employment_numbers y) xs ys refl e in
    record { first = employment_whole x y (ap (λ (zs : List ℤ). (at zs 0, at zs 1)) both.first); rest = both.rest }

same_assets : (x y : AssetRates) (xs ys : List ℤ) → asset_numbers x ++ xs ≡ asset_numbers y ++ ys → Same x y xs ys
unfolding asset_rates_parts at
same_assets x y xs ys e =
    let both = cut (asset_numbers x) (asset_numbers y) xs ys refl e in
    record { first = asset_rates_whole x y (ap (λ (zs : List ℤ). (at zs 0, (at zs 1, (at zs 2, at zs 3)))) both.first); rest = both.rest }

same_schedule : (x y : Schedule) (xs ys : List ℤ) → schedule_numbers x ++ xs ≡ schedule_numbers y ++ ys → Same x y xs ys
unfolding schedule_parts at
same_schedule x y xs ys e =
    let both = cut (schedule_numbers x) (schedule_numbers y) xs ys refl e in
    record { first = schedule_whole x y (ap (λ (zs : List ℤ). (at zs 0, (at zs 1, (at zs 2, (at zs 3, at zs 4))))) both.first); rest = both.rest }

same_poverty : (x y : Poverty) (xs ys : List ℤ) → poverty_numbers x ++ xs ≡ poverty_numbers y ++ ys → Same x y xs ys
unfolding poverty_parts
same_poverty x y xs ys e =
    let both = cut (poverty_numbers x) (poverty_numbers y) xs ys (length-poverty x ∙ sym (length-poverty y)) e in
    let first = same_size x.contiguous y.contiguous (size_numbers x.alaska ++ size_numbers x.hawaii) (size_numbers y.alaska ++ size_numbers y.hawaii) both.first in
    let second = same_size x.alaska y.alaska (size_numbers x.hawaii) (size_numbers y.hawaii) first.rest in
    let third = same_size x.hawaii y.hawaii [] [] (ap (λ l. l ++ []) second.rest) in
    record { first = poverty_whole x y (λ i. (first.first i, (second.first i, third.first i))); rest = both.rest }

same_protection : (x y : Protection) (xs ys : List ℤ) → protection_numbers x ++ xs ≡ protection_numbers y ++ ys → Same x y xs ys
unfolding protection_parts at
same_protection x y xs ys e =
    let both = cut (protection_numbers x) (protection_numbers y) xs ys (length-protection x ∙ sym (length-protection y)) e in
    let ends : Protection → List ℤ = λ p. size_numbers p.single_parent ++ size_numbers p.married_parent in
    let singles : Protection → List ℤ = λ p. p.dependent_student ∷ p.single_student ∷ p.married_student ∷ [] in
    let first = same_size x.parents y.parents (singles x ++ ends x) (singles y ++ ends y) both.first in
    let second = cut (singles x) (singles y) (ends x) (ends y) refl first.rest in
    let third = same_size x.single_parent y.single_parent (size_numbers x.married_parent) (size_numbers y.married_parent) second.rest in
    let fourth = same_size x.married_parent y.married_parent [] [] (ap (λ l. l ++ []) third.rest) in
    record { first = protection_whole x y (λ i. (first.first i, (at (second.first i) 0, (at (second.first i) 1, (at (second.first i) 2, (third.first i, fourth.first i)))))); rest = both.rest }

same_bracket : (x y : Bracket) (xs ys : List ℤ) → bracket_row x ++ xs ≡ bracket_row y ++ ys → Same x y xs ys
unfolding bracket_parts at
same_bracket x y xs ys e =
    let both = cut (bracket_row x) (bracket_row y) xs ys refl e in
    record { first = bracket_whole x y (ap (λ (zs : List ℤ). (at zs 0, (at zs 1, at zs 2))) both.first); rest = both.rest }

same_age_row : (x y : AgeRow) (xs ys : List ℤ) → age_row x ++ xs ≡ age_row y ++ ys → Same x y xs ys
unfolding age_row_parts at
same_age_row x y xs ys e =
    let both = cut (age_row x) (age_row y) xs ys refl e in
    record { first = age_row_whole x y (ap (λ (zs : List ℤ). (at zs 0, (at zs 1, at zs 2))) both.first); rest = both.rest }

-- as many rows with equal numbers
same_rows : {X : Type 0} (f : X → List ℤ) → ((x y : X) (xs ys : List ℤ) → f x ++ xs ≡ f y ++ ys → Same x y xs ys) → (a b : List X) (xs ys : List ℤ) → length a ≡ length b
    → flat_map f a ++ xs ≡ flat_map f b ++ ys → Same a b xs ys
same_rows f same [] [] xs ys l e = record { first = refl; rest = e }
same_rows f same [] (y ∷ b) xs ys l e = absurd (omega arith)
same_rows f same (x ∷ a) [] xs ys l e = absurd (omega arith)
same_rows f same (x ∷ a) (y ∷ b) xs ys l e =
    let here = same x y (flat_map f a ++ xs) (flat_map f b ++ ys) (sym (append_assoc (f x) (flat_map f a) xs) ∙ e ∙ append_assoc (f y) (flat_map f b) ys) in
    let rest = same_rows f same a b xs ys (omega arith) here.rest in
    record { first = λ i. here.first i ∷ rest.first i; rest = rest.rest }

same_table : {X : Type 0} (f : X → List ℤ) → ((x y : X) (xs ys : List ℤ) → f x ++ xs ≡ f y ++ ys → Same x y xs ys) → (a b : List X) (xs ys : List ℤ)
    → pos (length a) ∷ (flat_map f a ++ xs) ≡ pos (length b) ∷ (flat_map f b ++ ys) → Same a b xs ys
same_table f same a b xs ys e =
    let count : length a ≡ length b = cc in
    let rows : flat_map f a ++ xs ≡ flat_map f b ++ ys = cc in
    same_rows f same a b xs ys count rows

same_year : (f g : ℤ) (x y : ℕ) (xs ys : List ℤ) → (f ∷ pos x ∷ []) ++ xs ≡ (g ∷ pos y ∷ []) ++ ys → Same x y xs ys
same_year f g x y xs ys e = record { first = cc; rest = cc }

same_ceiling : (x y : ℕ) → ceiling_numbers x ≡ ceiling_numbers y → x ≡ y
same_ceiling zero zero e = refl
same_ceiling zero (suc y) e = absurd cc
same_ceiling (suc x) zero e = absurd cc
same_ceiling (suc x) (suc y) e = cc

pub same_book : (x y : Book) → numbers_of x ≡ numbers_of y → x ≡ y
unfolding numbers_of book_parts
same_book x y e =
    let r12 : Book → List ℤ = λ b. ceiling_numbers b.ceiling in
    let r11 : Book → List ℤ = λ b. bracket_numbers b.bracket ++ r12 b in
    let r10 : Book → List ℤ = λ b. schedule_numbers b.schedule ++ r11 b in
    let r9 : Book → List ℤ = λ b. age_numbers b.age ++ r10 b in
    let r8 : Book → List ℤ = λ b. bracket_numbers b.business ++ r9 b in
    let r7 : Book → List ℤ = λ b. asset_numbers b.assets ++ r8 b in
    let r6 : Book → List ℤ = λ b. employment_numbers b.employment ++ r7 b in
    let r5 : Book → List ℤ = λ b. protection_numbers b.protection ++ r6 b in
    let r4 : Book → List ℤ = λ b. payroll_numbers b.payroll ++ r5 b in
    let r3 : Book → List ℤ = λ b. poverty_numbers b.poverty ++ r4 b in
    let r2 : Book → List ℤ = λ b. percent_numbers b.percent ++ r3 b in
    let r1 : Book → List ℤ = λ b. pell_numbers b.pell ++ r2 b in
    let s0 = same_year (form_number x.ceiling) (form_number y.ceiling) x.year y.year (r1 x) (r1 y) e in
    let s1 = same_pell x.pell y.pell (r2 x) (r2 y) s0.rest in
    let s2 = same_percent x.percent y.percent (r3 x) (r3 y) s1.rest in
    let s3 = same_poverty x.poverty y.poverty (r4 x) (r4 y) s2.rest in
    let s4 = same_payroll x.payroll y.payroll (r5 x) (r5 y) s3.rest in
    let s5 = same_protection x.protection y.protection (r6 x) (r6 y) s4.rest in
    let s6 = same_employment x.employment y.employment (r7 x) (r7 y) s5.rest in
    let s7 = same_assets x.assets y.assets (r8 x) (r8 y) s6.rest in
    let s8 = same_table bracket_row same_bracket x.business y.business (r9 x) (r9 y) s7.rest in
    let s9 = same_table age_row same_age_row x.age y.age (r10 x) (r10 y) s8.rest in
    let s10 = same_schedule x.schedule y.schedule (r11 x) (r11 y) s9.rest in
    let s11 = same_table bracket_row same_bracket x.bracket y.bracket (r12 x) (r12 y) s10.rest in
    let s12 = same_ceiling x.ceiling y.ceiling s11.rest in
    book_whole x y (λ i. (s0.first i, (s1.first i, (s2.first i, (s3.first i, (s4.first i, (s5.first i, (s6.first i, (s7.first i, (s8.first i, (s9.first i, (s10.first i, (s11.first i, s12 i)))))))))))))
