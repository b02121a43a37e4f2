-- A policy by its place and by its name, and the words of a round.
use Rattle.std.proofs.Common.{◌≡◌, ℕ, ◌≤◌, Bool, true, List, [], ◌∷◌, Option, Some, None, decimal, get_or, map, refl, sym, ap, subst, ◌∙◌, arith}
use Rattle.std.specs.Bool.{Decides}
use Rattle.std.specs.Coded.{le_prop}
use Rattle.std.specs.List.{position, position_or_len}
use Rattle.std.specs.Str.{bytes_eq}
use Rattle.std.proofs.lemmas.Fmt.{decimal_injective}
use Rattle.std.proofs.lemmas.List.{length-map}
use Rattle.std.proofs.lemmas.List.Quantifiers.{position-Some}
use Rattle.std.proofs.lemmas.Slice.Eq.{bytes_eq-Decides}
use Rattle.aid_types.proofs.Same.{same_with_fact}
use Rattle.aid_types.specs.Ranges.{IsBetween}
use Rattle.run_words.specs.Words.{IsFirstNamed, ReadsFund, fund_words}
use Rattle.run_words.specs.declared.command.FundRequest.{FundRequest}

-- the first place of a name
abbrev pub place_in : List (List ℕ) → List ℕ → Option ℕ
place_in names name = position (λ known. bytes_eq known name) names

-- what a test that passed decides
when_decided : {b : Bool} (P : Type 0) → b ≡ true → Decides b P → P
when_decided P passed decides = decides.0 passed

-- what stands at a place that was found
pub named : (names : List (List ℕ)) (name : List ℕ) (place : ℕ) → place_in names name ≡ Some place → name ≡ get_or names place []
named names name place found =
    sym (when_decided (get_or names place [] ≡ name) (position-Some (λ known. bytes_eq known name) names place [] found).1 (bytes_eq-Decides (get_or names place []) name))

pub first_named : (names : List (List ℕ)) (name : List ℕ) (place : ℕ) → place_in names name ≡ Some place → IsFirstNamed names place
first_named names name place found = ap (place_in names) (sym (named names name place found)) ∙ found

-- a name at which nothing was found is the first of no place
pub not_named : (names : List (List ℕ)) (name : List ℕ) (place : ℕ) → place_in names name ≡ None → name ≡ get_or names place [] → IsFirstNamed names place → ⊥
not_named names name place none is first = let bad : ◌≡◌ {A = Option ℕ} None (Some place) = sym none ∙ ap (place_in names) is ∙ first in absurd cc

-- two places of one name
same_place : (names : List (List ℕ)) (p q : ℕ) → get_or names p [] ≡ get_or names q [] → IsFirstNamed names p → IsFirstNamed names q → p ≡ q
same_place names p q is first other = let at : Some p ≡ Some q = sym first ∙ ap (place_in names) is ∙ other in cc

same_round : (x y : FundRequest) → x.school ≡ y.school → x.year ≡ y.year → x.term ≡ y.term → x.amount ≡ y.amount → x.policy ≡ y.policy → x.number ≡ y.number → x ≡ y
same_round x y school year term amount policy number =
    let P : ℕ × (ℕ × (ℕ × (ℕ × (ℕ × ℕ)))) → Type 0 = λ b. (b.0 ≤ 999999) × IsBetween 2000 2099 b.1.0 × IsBetween 1 8 b.1.1.0 × IsBetween 1 99999999 b.1.1.1.0 × IsBetween 1 999999000000 b.1.1.1.1.1 in
    let make : (b : ℕ × (ℕ × (ℕ × (ℕ × (ℕ × ℕ))))) → P b → FundRequest = λ b p. record { school = b.0; year = b.1.0; term = b.1.1.0; amount = b.1.1.1.0; policy = b.1.1.1.1.0; number = b.1.1.1.1.1; in_range = p } in
    same_with_fact P make (λ b. hlevel (le_prop)) (x.school, (x.year, (x.term, (x.amount, (x.policy, x.number))))) (y.school, (y.year, (y.term, (y.amount, (y.policy, y.number))))) x.in_range y.in_range
    (λ i. (school i, (year i, (term i, (amount i, (policy i, number i))))))

same_number : (m n : ℕ) → m ≤ 999999999999 → n ≤ 999999999999 → decimal m ≡ decimal n → m ≡ n
same_number m n h k e = decimal_injective m n (omega arith) (omega arith) e

-- rounds with the same words are the same
pub same_fund : (names : List (List ℕ)) (x y : FundRequest) → fund_words names x ≡ fund_words names y → IsFirstNamed names x.policy → IsFirstNamed names y.policy → x ≡ y
same_fund names x y e first other =
    let school : decimal x.school ≡ decimal y.school = cc in
    let year : decimal x.year ≡ decimal y.year = cc in
    let term : decimal x.term ≡ decimal y.term = cc in
    let amount : decimal x.amount ≡ decimal y.amount = cc in
    let policy : get_or names x.policy [] ≡ get_or names y.policy [] = cc in
    let number : decimal x.number ≡ decimal y.number = cc in
    same_round x y
    (same_number x.school y.school (omega (arith, x.in_range)) (omega (arith, y.in_range)) school)
    (same_number x.year y.year (omega (arith, x.in_range)) (omega (arith, y.in_range)) year)
    (same_number x.term y.term (omega (arith, x.in_range)) (omega (arith, y.in_range)) term)
    (same_number x.amount y.amount (omega (arith, x.in_range)) (omega (arith, y.in_range)) amount)
    (same_place names x.policy y.policy policy first other)
    (same_number x.number y.number (omega (arith, x.in_range)) (omega (arith, y.in_range)) number)

pub reads_fund : (names words : List (List ℕ)) (f : FundRequest) → words ≡ fund_words names f → IsFirstNamed names f.policy → ReadsFund names words (Some f)
reads_fund names words f is first g = (
  λ same. let at : f ≡ g = cc in (is ∙ ap (fund_words names) at, subst (λ (h : FundRequest). IsFirstNamed names h.policy) at first),
  λ told. ap Some (same_fund names f g (sym is ∙ told.0) first told.1),
)

-- no round has a word that names no policy
pub reads_no_fund : (names words : List (List ℕ)) (name : List ℕ) → place_in names name ≡ None → get_or words 4 [] ≡ name → ReadsFund names words None
reads_no_fund names words name none word fund = (
  λ same. let bad : ⊥ = cc in absurd bad,
  λ told. absurd (not_named names name fund.policy none (sym word ∙ ap (λ (ws : List (List ℕ)). get_or ws 4 []) told.0) told.1),
)

-- the names of items
prefix_of : {X : Type 0} (name : X → List ℕ) (test : List ℕ → Bool) (xs : List X) → position_or_len test (map name xs) ≡ position_or_len (λ x. test (name x)) xs
prefix_of name test [] = refl
prefix_of name test (x ∷ xs) = rw (prefix_of name test xs) refl

pub place_of_item : {X : Type 0} (name : X → List ℕ) (test : List ℕ → Bool) (xs : List X) → position test (map name xs) ≡ position (λ x. test (name x)) xs
place_of_item name test xs = rw (prefix_of name test xs, length-map xs name) refl
