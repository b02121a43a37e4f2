-- What is left of a book's numbers behind each of its parts.
use Rattle.std.proofs.Common.{◌≡◌, ℕ, ◌+◌, ℤ, pos, int_lt, Bool, true, false, List, [], ◌∷◌, ◌++◌, drop, take, length, refl, sym, ap, ◌∙◌, subst, append_assoc, to_z, of_z, w64, arith}
use Rattle.std.specs.Prelude.{if◌then◌else◌}
use Rattle.std.proofs.lemmas.Int.{ints}
use Rattle.std.proofs.lemmas.List.{length-append}
use Rattle.aid_types.specs.Ranges.{IsWithin}
use Rattle.aid_books.specs.declared.ages.AgeRow.{AgeRow}
use Rattle.aid_books.specs.declared.book.AssetRates.{AssetRates}
use Rattle.aid_books.specs.declared.book.Employment.{Employment}
use Rattle.aid_books.specs.declared.book.Payroll.{Payroll}
use Rattle.aid_books.specs.declared.book.PellFigures.{PellFigures}
use Rattle.aid_books.specs.declared.book.Percents.{Percents}
use Rattle.aid_books.specs.declared.book.Poverty.{Poverty}
use Rattle.aid_books.specs.declared.book.Protection.{Protection}
use Rattle.aid_books.specs.declared.book.Schedule.{Schedule}
use Rattle.aid_books.specs.declared.by_size.BySize.{BySize}
use Rattle.aid_books.specs.declared.marginal.Bracket.{Bracket}
use Rattle.format_kinds.proofs.Amounts.{length-extra}
use Rattle.format_kinds.proofs.Behind.{behind_plains, left_behind, left_behind_age, left_behind_bracket, left_behind_business, next_of, onto}
use Rattle.format_kinds.specs.Book.{AreBookNumbers, age_numbers, asset_numbers, bracket_numbers, employment_numbers, payroll_numbers, pell_numbers, percent_numbers, poverty_numbers, protection_numbers, schedule_numbers, size_numbers}
use Rattle.format_kinds.specs.Sections.{AreEnd, AreLast, AreLeft, IsNext, age_slots, asset_slots, bracket_slots, business_slots, ceiling_slots, employment_slots, last_slots, payroll_slots, pell_slots, percent_slots, poverty_slots, protection_slots, schedule_slots, year_slots}
use Rattle.format_kinds.specs.Kinds.{book_slots}
use Rattle.format_table.specs.Layout.{AreNumbers}
use Rattle.format_table.specs.Limits.{is_between}
use Rattle.format_table.specs.Parts.{Slot}

-- the fields behind each part, before those at the end of the book
unfoldable pub after_age : List Slot → List Slot
after_age tail = schedule_slots ++ (bracket_slots ++ tail)

unfoldable pub after_business : List Slot → List Slot
after_business tail = age_slots ++ after_age tail

unfoldable pub after_assets : List Slot → List Slot
after_assets tail = business_slots ++ after_business tail

unfoldable pub after_employment : List Slot → List Slot
after_employment tail = asset_slots ++ after_assets tail

unfoldable pub after_protection : List Slot → List Slot
after_protection tail = employment_slots ++ after_employment tail

unfoldable pub after_payroll : List Slot → List Slot
after_payroll tail = protection_slots ++ after_protection tail

unfoldable pub after_poverty : List Slot → List Slot
after_poverty tail = payroll_slots ++ after_payroll tail

unfoldable pub after_percent : List Slot → List Slot
after_percent tail = poverty_slots ++ after_poverty tail

unfoldable pub after_pell : List Slot → List Slot
after_pell tail = percent_slots ++ after_percent tail

unfoldable pub after_year : List Slot → List Slot
after_year tail = pell_slots ++ after_pell tail

-- how many numbers the fixed parts with lists have
pub length-size_numbers : {first count : ℕ} (x : BySize first count) → length (size_numbers x) ≡ count + 1
length-size_numbers {first} {count} x = length-extra count x.sizes x.extra x.sizes_counted

pub length-poverty : (x : Poverty) → length (poverty_numbers x) ≡ 27
length-poverty x =
    let a = length-size_numbers x.contiguous in
    let b = length-size_numbers x.alaska in
    let c = length-size_numbers x.hawaii in
    let d = length-append (size_numbers x.contiguous) (size_numbers x.alaska ++ size_numbers x.hawaii) in
    let e = length-append (size_numbers x.alaska) (size_numbers x.hawaii) in
    omega arith

pub length-protection : (x : Protection) → length (protection_numbers x) ≡ 21
length-protection x =
    let a = length-size_numbers x.parents in
    let b = length-size_numbers x.single_parent in
    let c = length-size_numbers x.married_parent in
    let rest = x.dependent_student ∷ x.single_student ∷ x.married_student ∷ (size_numbers x.single_parent ++ size_numbers x.married_parent) in
    let d = length-append (size_numbers x.parents) rest in
    let e = length-append (size_numbers x.single_parent) (size_numbers x.married_parent) in
    omega arith

-- ---- the form, by which a book ends
by_test : (b : Bool) (earlier zs : List ℤ) → AreNumbers (if b then drop 1 book_slots else take 78 (drop 1 book_slots)) earlier zs
    → AreNumbers (year_slots ++ after_year (if b then ceiling_slots else [])) earlier zs
unfolding after_year after_pell after_percent after_poverty after_payroll after_protection after_employment after_assets after_business after_age
by_test true earlier zs h = h
by_test false earlier zs h = h

from_test : (b : Bool) (earlier zs : List ℤ) → AreNumbers (year_slots ++ after_year (if b then ceiling_slots else [])) earlier zs
    → AreNumbers (if b then drop 1 book_slots else take 78 (drop 1 book_slots)) earlier zs
unfolding after_year after_pell after_percent after_poverty after_payroll after_protection after_employment after_assets after_business after_age
from_test true earlier zs h = h
from_test false earlier zs h = h

pub left_form : (zs ys : List ℤ) (form : ℤ) → AreBookNumbers zs → zs ≡ form ∷ ys → AreLeft (year_slots ++ after_year (last_slots form)) ys
left_form zs ys form h e =
    record { earlier = form ∷ h.0; numbers = by_test (int_lt (pos 1) form) (form ∷ h.0) ys (subst (λ (l : List ℤ). AreNumbers book_slots h.0 l) e h.1).1 }

-- numbers behind a form are numbers of a book
pub form_put : (form : ℤ) (earlier zs : List ℤ) → is_between (pos 1) (pos 2) form ≡ true → AreNumbers (year_slots ++ after_year (last_slots form)) (form ∷ earlier) zs → AreNumbers book_slots earlier (form ∷ zs)
form_put form earlier zs h n = (h, from_test (int_lt (pos 1) form) (form ∷ earlier) zs n)

-- ---- part by part
pub next_year : (tail : List Slot) (zs : List ℤ) → AreLeft (year_slots ++ after_year tail) zs → IsNext year_slots zs
next_year tail zs left = next_of year_slots (after_year tail) zs left

pub left_year : (tail : List Slot) (zs ys : List ℤ) (year : ℕ) → AreLeft (year_slots ++ after_year tail) zs → zs ≡ (pos year ∷ []) ++ ys → AreLeft (after_year tail) ys
left_year tail zs ys year left e = left_behind year_slots (after_year tail) zs (pos year ∷ []) ys refl refl left e

pub next_pell : (tail : List Slot) (zs : List ℤ) → AreLeft (after_year tail) zs → IsNext pell_slots zs
unfolding after_year
next_pell tail zs left = next_of pell_slots (after_pell tail) zs left

pub left_pell : (tail : List Slot) (zs ys : List ℤ) (x : PellFigures) → AreLeft (after_year tail) zs → zs ≡ pell_numbers x ++ ys → AreLeft (after_pell tail) ys
unfolding after_year
left_pell tail zs ys x left e = left_behind pell_slots (after_pell tail) zs (pell_numbers x) ys refl refl left e

pub next_percent : (tail : List Slot) (zs : List ℤ) → AreLeft (after_pell tail) zs → IsNext percent_slots zs
unfolding after_pell
next_percent tail zs left = next_of percent_slots (after_percent tail) zs left

pub left_percent : (tail : List Slot) (zs ys : List ℤ) (x : Percents) → AreLeft (after_pell tail) zs → zs ≡ percent_numbers x ++ ys → AreLeft (after_percent tail) ys
unfolding after_pell
left_percent tail zs ys x left e = left_behind percent_slots (after_percent tail) zs (percent_numbers x) ys refl refl left e

pub next_poverty : (tail : List Slot) (zs : List ℤ) → AreLeft (after_percent tail) zs → IsNext poverty_slots zs
unfolding after_percent
next_poverty tail zs left = next_of poverty_slots (after_poverty tail) zs left

pub left_poverty : (tail : List Slot) (zs ys : List ℤ) (x : Poverty) → AreLeft (after_percent tail) zs → zs ≡ poverty_numbers x ++ ys → AreLeft (after_poverty tail) ys
unfolding after_percent
left_poverty tail zs ys x left e = left_behind poverty_slots (after_poverty tail) zs (poverty_numbers x) ys refl (length-poverty x) left e

pub next_payroll : (tail : List Slot) (zs : List ℤ) → AreLeft (after_poverty tail) zs → IsNext payroll_slots zs
unfolding after_poverty
next_payroll tail zs left = next_of payroll_slots (after_payroll tail) zs left

pub left_payroll : (tail : List Slot) (zs ys : List ℤ) (x : Payroll) → AreLeft (after_poverty tail) zs → zs ≡ payroll_numbers x ++ ys → AreLeft (after_payroll tail) ys
unfolding after_poverty
left_payroll tail zs ys x left e = left_behind payroll_slots (after_payroll tail) zs (payroll_numbers x) ys refl refl left e

pub next_protection : (tail : List Slot) (zs : List ℤ) → AreLeft (after_payroll tail) zs → IsNext protection_slots zs
unfolding after_payroll
next_protection tail zs left = next_of protection_slots (after_protection tail) zs left

pub left_protection : (tail : List Slot) (zs ys : List ℤ) (x : Protection) → AreLeft (after_payroll tail) zs → zs ≡ protection_numbers x ++ ys → AreLeft (after_protection tail) ys
unfolding after_payroll
left_protection tail zs ys x left e = left_behind protection_slots (after_protection tail) zs (protection_numbers x) ys refl (length-protection x) left e

pub next_employment : (tail : List Slot) (zs : List ℤ) → AreLeft (after_protection tail) zs → IsNext employment_slots zs
unfolding after_protection
next_employment tail zs left = next_of employment_slots (after_employment tail) zs left

pub left_employment : (tail : List Slot) (zs ys : List ℤ) (x : Employment) → AreLeft (after_protection tail) zs → zs ≡ employment_numbers x ++ ys → AreLeft (after_employment tail) ys
unfolding after_protection
left_employment tail zs ys x left e = left_behind employment_slots (after_employment tail) zs (employment_numbers x) ys refl refl left e

pub next_assets : (tail : List Slot) (zs : List ℤ) → AreLeft (after_employment tail) zs → IsNext asset_slots zs
unfolding after_employment
next_assets tail zs left = next_of asset_slots (after_assets tail) zs left

pub left_assets : (tail : List Slot) (zs ys : List ℤ) (x : AssetRates) → AreLeft (after_employment tail) zs → zs ≡ asset_numbers x ++ ys → AreLeft (after_assets tail) ys
unfolding after_employment
left_assets tail zs ys x left e = left_behind asset_slots (after_assets tail) zs (asset_numbers x) ys refl refl left e

pub next_business : (tail : List Slot) (zs : List ℤ) → AreLeft (after_assets tail) zs → IsNext business_slots zs
unfolding after_assets
next_business tail zs left = next_of business_slots (after_business tail) zs left

pub left_business : (tail : List Slot) (zs ys : List ℤ) (rows : List Bracket) → AreLeft (after_assets tail) zs → zs ≡ bracket_numbers rows ++ ys → AreLeft (after_business tail) ys
unfolding after_assets
left_business tail zs ys rows left e = left_behind_business (after_business tail) zs ys rows left e

pub next_age : (tail : List Slot) (zs : List ℤ) → AreLeft (after_business tail) zs → IsNext age_slots zs
unfolding after_business
next_age tail zs left = next_of age_slots (after_age tail) zs left

pub left_age : (tail : List Slot) (zs ys : List ℤ) (rows : List AgeRow) → AreLeft (after_business tail) zs → zs ≡ age_numbers rows ++ ys → AreLeft (after_age tail) ys
unfolding after_business
left_age tail zs ys rows left e = left_behind_age (after_age tail) zs ys rows left e

pub next_schedule : (tail : List Slot) (zs : List ℤ) → AreLeft (after_age tail) zs → IsNext schedule_slots zs
unfolding after_age
next_schedule tail zs left = next_of schedule_slots (bracket_slots ++ tail) zs left

pub left_schedule : (tail : List Slot) (zs ys : List ℤ) (x : Schedule) → AreLeft (after_age tail) zs → zs ≡ schedule_numbers x ++ ys → AreLeft (bracket_slots ++ tail) ys
unfolding after_age
left_schedule tail zs ys x left e = left_behind schedule_slots (bracket_slots ++ tail) zs (schedule_numbers x) ys refl refl left e

pub next_bracket : (tail : List Slot) (zs ys : List ℤ) (x : Schedule) → AreLeft (after_age tail) zs → zs ≡ schedule_numbers x ++ ys → AreLast x.first_rate ys
unfolding after_age
next_bracket tail zs ys x left e =
    record { earlier = onto (schedule_numbers x) left.earlier; rate = refl; later = tail; numbers = behind_plains schedule_slots (bracket_slots ++ tail) left.earlier (schedule_numbers x) ys refl refl (subst (λ (l : List ℤ). AreNumbers (schedule_slots ++ (bracket_slots ++ tail)) left.earlier l) e left.numbers) }

-- ---- the end of a book
pub next_ceiling : (form : ℤ) (zs ys : List ℤ) (rows : List Bracket) → IsWithin (pos 1) (pos 2) form → AreLeft (bracket_slots ++ last_slots form) zs → zs ≡ bracket_numbers rows ++ ys → AreEnd form ys
next_ceiling form zs ys rows h left e = record { of_book = h; left = left_behind_bracket (last_slots form) zs ys rows left e }

-- a form as the code hands it on
form_word : (form : ℤ) → IsWithin (pos 1) (pos 2) form → to_z w64 (of_z w64 form) ≡ form
form_word form h = omega (arith, ints, h.0, h.1)

-- parts one after the other
pub start_joined : (zs s0 s1 : List ℤ) (form other : ℤ) (year : ℕ) → zs ≡ form ∷ s0 → IsWithin (pos 1) (pos 2) form → s0 ≡ (pos year ∷ []) ++ s1 → to_z w64 (of_z w64 form) ≡ other → zs ≡ (other ∷ pos year ∷ []) ++ s1
start_joined zs s0 s1 form other year e h f g =
    e ∙ ap (λ (l : List ℤ). form ∷ l) f ∙ ap (λ (x : ℤ). x ∷ pos year ∷ s1) (sym (form_word form h) ∙ g)

pub joined : (zs s0 s1 s2 s3 s4 s5 s6 s7 s8 s9 s10 s11 a b c d e f g h i j k l m : List ℤ) → zs ≡ a ++ s0 → s0 ≡ b ++ s1 → s1 ≡ c ++ s2 → s2 ≡ d ++ s3 → s3 ≡ e ++ s4 → s4 ≡ f ++ s5
    → s5 ≡ g ++ s6 → s6 ≡ h ++ s7 → s7 ≡ i ++ s8 → s8 ≡ j ++ s9 → s9 ≡ k ++ s10 → s10 ≡ l ++ s11 → s11 ≡ m
    → a ++ (b ++ (c ++ (d ++ (e ++ (f ++ (g ++ (h ++ (i ++ (j ++ (k ++ (l ++ m))))))))))) ≡ zs
joined zs s0 s1 s2 s3 s4 s5 s6 s7 s8 s9 s10 s11 a b c d e f g h i j k l m ea eb ec ed ee ef eg eh ei ej ek el em =
    cc

-- parts put one after the other
grown : (n0 n1 n2 xs ys : List ℤ) → n1 ≡ n0 ++ xs → n2 ≡ n1 ++ ys → n2 ≡ n0 ++ (xs ++ ys)
grown n0 n1 n2 xs ys e f = f ∙ ap (λ l. l ++ ys) e ∙ append_assoc n0 xs ys

pub all_put : (n0 n1 n2 n3 n4 n5 n6 n7 n8 n9 n10 n11 n12 n13 a b c d e f g h i j k l m : List ℤ) → n1 ≡ n0 ++ a → n2 ≡ n1 ++ b → n3 ≡ n2 ++ c → n4 ≡ n3 ++ d → n5 ≡ n4 ++ e → n6 ≡ n5 ++ f → n7 ≡ n6 ++ g → n8 ≡ n7 ++ h → n9 ≡ n8 ++ i → n10 ≡ n9 ++ j → n11 ≡ n10 ++ k → n12 ≡ n11 ++ l → n13 ≡ n12 ++ m
    → n13 ≡ n0 ++ (a ++ (b ++ (c ++ (d ++ (e ++ (f ++ (g ++ (h ++ (i ++ (j ++ (k ++ (l ++ m))))))))))))
all_put n0 n1 n2 n3 n4 n5 n6 n7 n8 n9 n10 n11 n12 n13 a b c d e f g h i j k l m ea eb ec ed ee ef eg eh ei ej ek el em =
    grown n0 n1 n13 a (b ++ (c ++ (d ++ (e ++ (f ++ (g ++ (h ++ (i ++ (j ++ (k ++ (l ++ m))))))))))) ea (grown n1 n2 n13 b (c ++ (d ++ (e ++ (f ++ (g ++ (h ++ (i ++ (j ++ (k ++ (l ++ m)))))))))) eb (grown n2 n3 n13 c (d ++ (e ++ (f ++ (g ++ (h ++ (i ++ (j ++ (k ++ (l ++ m))))))))) ec (grown n3 n4 n13 d (e ++ (f ++ (g ++ (h ++ (i ++ (j ++ (k ++ (l ++ m)))))))) ed (grown n4 n5 n13 e (f ++ (g ++ (h ++ (i ++ (j ++ (k ++ (l ++ m))))))) ee (grown n5 n6 n13 f (g ++ (h ++ (i ++ (j ++ (k ++ (l ++ m)))))) ef (grown n6 n7 n13 g (h ++ (i ++ (j ++ (k ++ (l ++ m))))) eg (grown n7 n8 n13 h (i ++ (j ++ (k ++ (l ++ m)))) eh (grown n8 n9 n13 i (j ++ (k ++ (l ++ m))) ei (grown n9 n10 n13 j (k ++ (l ++ m)) ej (grown n10 n11 n13 k (l ++ m) ek (grown n11 n12 n13 l (m) el em)))))))))))
