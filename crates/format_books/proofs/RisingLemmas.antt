-- The first row of a table that fails, as the code finds it.
use Rattle.std.proofs.Common.{◌≡◌, ℕ, zero, suc, ◌+◌, ◌<◌, ℤ, pos, int_lt, ◌<ℤ◌, Bool, true, false, List, [], ◌∷◌, length, Option, Some, None, refl, sym, ap, ◌∙◌, subst, arith}
use Rattle.std.specs.Prelude.{◌&&◌, if◌then◌else◌, slice_get}
use Rattle.std.specs.Bool.{Decides}
use Rattle.std.specs.Ordering.{int_eq}
use Rattle.std.proofs.lemmas.Bool.Decides.{Decides-and, Decides-int_eq, Decides-like, not_from_Decides}
use Rattle.std.proofs.lemmas.Int.{ints}
use Rattle.aid_types.proofs.SignedLemmas.{int_lt-true}
use Rattle.aid_types.specs.Nearest.{share}
use Rattle.aid_books.specs.Marginal.{row_value}
use Rattle.aid_books.specs.declared.ages.AgeRow.{AgeRow}
use Rattle.aid_books.specs.declared.marginal.Bracket.{Bracket}
use Rattle.toml.specs.Data.{Members}
use Rattle.format_books.specs.Causes.{AgeGoesOn, BracketGoesOn, BusinessGoesOn, Continues, FailsAt, GoesOn, IsFirstToFail}
use Rattle.format_books.specs.Causes.FailsAt.{in_age, in_bracket, in_business}
use Rattle.format_books.specs.Tables.{age_rows, begins_ages, begins_business, begins_schedule, book_break, bracket_rows, break_from, break_in, business_rows, continues, first_break, first_rate_of, is_older}
use Rattle.format_books.specs.declared.error.BookError.{BookError}
use Rattle.format_books.specs.declared.error.BookError.TheVariants.{NotRising}

-- ---- the tests of rows
less : (a b : ℤ) → Decides (int_lt a b) (a <ℤ b)
less a b = (λ h. omega (arith, ints, h), int_lt-true a b)

continues_tells : (row next : Bracket) → Decides (continues row next) (Continues row next)
continues_tells row next =
    Decides-like (continues row next) (λ p. record { above = p.0; base = p.1 }) (λ c. (c.above, c.base))
    (Decides-and (int_lt row.over next.over) (int_eq next.base (row_value row next.over)) (less row.over next.over) (Decides-int_eq next.base (row_value row next.over)))

business_tells : (row : Bracket) → Decides (begins_business row) ((row.over ≡ pos 0) × (row.base ≡ pos 0))
business_tells row = Decides-and (int_eq row.over (pos 0)) (int_eq row.base (pos 0)) (Decides-int_eq row.over (pos 0)) (Decides-int_eq row.base (pos 0))

-- ---- rows of any table
none_at : {X : Type 0} (k : ℕ) (x : X) → slice_get [] k ≡ Some x → ⊥
none_at zero x h = cc
none_at (suc k) x h = cc

-- the first of these rows goes on to the next, and the others go on
went : {Row : Type 0} (goes : Row → Row → Bool) (n : ℕ) (row next : Row) (rows : List Row) → break_from goes n row (next ∷ rows) ≡ None → (goes row next ≡ true) × (break_from goes (suc n) next rows ≡ None)
went goes n row next rows h = by (goes row next) refl h
  where
    by : (b : Bool) → goes row next ≡ b → (if b then break_from goes (suc n) next rows else Some n) ≡ None → (goes row next ≡ true) × (break_from goes (suc n) next rows ≡ None)
    by true e k = (e, k)
    by false e k = cc

pair : {Row : Type 0} (Goes : Row → Row → Type 0) (row next a b : Row) → Goes row next → Some row ≡ Some a → Some next ≡ Some b → Goes a b
pair Goes row next a b h x y =
    let one : row ≡ a = cc in
    let two : next ≡ b = cc in
    subst (λ z. Goes z b) one (subst (λ z. Goes row z) two h)

later_go : {Row : Type 0} (goes : Row → Row → Bool) (Begins : Row → Type 0) (Goes : Row → Row → Type 0) → ((row next : Row) → Decides (goes row next) (Goes row next))
    → (n : ℕ) (row : Row) (rows : List Row) → break_from goes n row rows ≡ None → (k : ℕ) → GoesOn Begins Goes (row ∷ rows) (suc k)
later_go goes Begins Goes tells n row [] h k = λ a b x y. absurd (none_at k b y)
later_go goes Begins Goes tells n row (next ∷ rows) h zero = λ a b x y. pair Goes row next a b ((tells row next).0 (went goes n row next rows h).0) x y
later_go goes Begins Goes tells n row (next ∷ rows) h (suc k) = later_go goes Begins Goes tells (suc n) next rows (went goes n row next rows h).1 k

-- the row behind so many others fails, and those between don't
record FailsBehind {Row : Type 0} (Begins : Row → Type 0) (Goes : Row → Row → Type 0) (n m : ℕ) (rows : List Row) : Type 0 where
  behind : ℕ
  number : m ≡ n + behind
  there : suc behind < length rows
  fails : GoesOn Begins Goes rows (suc behind) → ⊥
  earlier : (k : ℕ) → k < behind → GoesOn Begins Goes rows (suc k)

later_fails : {Row : Type 0} (goes : Row → Row → Bool) (Begins : Row → Type 0) (Goes : Row → Row → Type 0) → ((row next : Row) → Decides (goes row next) (Goes row next))
    → (n m : ℕ) (row : Row) (rows : List Row) → break_from goes n row rows ≡ Some m → FailsBehind Begins Goes n m (row ∷ rows)
later_fails goes Begins Goes tells n m row [] h = cc
later_fails goes Begins Goes tells n m row (next ∷ rows) h = by (goes row next) refl h (later_fails goes Begins Goes tells (suc n) m next rows)
  where
    onward : (rest : FailsBehind Begins Goes (suc n) m (next ∷ rows)) → goes row next ≡ true → (k : ℕ) → k < suc rest.behind → GoesOn Begins Goes (row ∷ next ∷ rows) (suc k)
    onward rest e zero l = λ a b x y. pair Goes row next a b ((tells row next).0 e) x y
    onward rest e (suc k) l = rest.earlier k (omega (arith, l))

    by : (b : Bool) → goes row next ≡ b → (if b then break_from goes (suc n) next rows else Some n) ≡ Some m → (break_from goes (suc n) next rows ≡ Some m → FailsBehind Begins Goes (suc n) m (next ∷ rows))
        → FailsBehind Begins Goes n m (row ∷ next ∷ rows)
    by true e k more =
        let rest = more k in
        record { behind = suc rest.behind; number = omega (arith, rest.number); there = omega (arith, rest.there); fails = rest.fails; earlier = onward rest e }
    by false e k more =
        let same : n ≡ m = cc in
        record {
          behind = zero;
          number = omega (arith, same);
          there = omega arith;
          fails = λ go. not_from_Decides (goes row next) (tells row next) e (go row next refl refl);
          earlier = λ j l. absurd (omega (arith, l));
        }

-- no row of a table fails
begun : {Row : Type 0} (begins : Row → Bool) (goes : Row → Row → Bool) (row : Row) (rows : List Row) → break_in begins goes (row ∷ rows) ≡ None → (begins row ≡ true) × (break_from goes 2 row rows ≡ None)
begun begins goes row rows h = by (begins row) refl h
  where
    by : (b : Bool) → begins row ≡ b → (if b then break_from goes 2 row rows else Some 1) ≡ None → (begins row ≡ true) × (break_from goes 2 row rows ≡ None)
    by true e k = (e, k)
    by false e k = cc

first_is : {Row : Type 0} (Begins : Row → Type 0) (row a : Row) → Begins row → Some row ≡ Some a → Begins a
first_is Begins row a h x = let one : row ≡ a = cc in subst (λ z. Begins z) one h

all_go : {Row : Type 0} (begins : Row → Bool) (goes : Row → Row → Bool) (Begins : Row → Type 0) (Goes : Row → Row → Type 0) → ((row : Row) → Decides (begins row) (Begins row))
    → ((row next : Row) → Decides (goes row next) (Goes row next)) → (rows : List Row) → break_in begins goes rows ≡ None → (k : ℕ) → GoesOn Begins Goes rows k
all_go begins goes Begins Goes opens tells [] h zero = λ a x. absurd (none_at 0 a x)
all_go begins goes Begins Goes opens tells [] h (suc k) = λ a b x y. absurd (none_at k a x)
all_go begins goes Begins Goes opens tells (row ∷ rows) h zero = λ a x. first_is Begins row a ((opens row).0 (begun begins goes row rows h).0) x
all_go begins goes Begins Goes opens tells (row ∷ rows) h (suc k) = later_go goes Begins Goes tells 2 row rows (begun begins goes row rows h).1 k

-- one does, and none before it
first_fails : {Row : Type 0} (begins : Row → Bool) (goes : Row → Row → Bool) (Begins : Row → Type 0) (Goes : Row → Row → Type 0) → ((row : Row) → Decides (begins row) (Begins row))
    → ((row next : Row) → Decides (goes row next) (Goes row next)) → (rows : List Row) (n : ℕ) → break_in begins goes rows ≡ Some n → IsFirstToFail (GoesOn Begins Goes rows) (length rows) n
first_fails begins goes Begins Goes opens tells [] n h = cc
first_fails begins goes Begins Goes opens tells (row ∷ rows) n h = by (begins row) refl h
  where
    onward : (rest : FailsBehind Begins Goes 2 n (row ∷ rows)) → begins row ≡ true → (k : ℕ) → k < suc rest.behind → GoesOn Begins Goes (row ∷ rows) k
    onward rest e zero l = λ a x. first_is Begins row a ((opens row).0 e) x
    onward rest e (suc k) l = rest.earlier k (omega (arith, l))

    by : (b : Bool) → begins row ≡ b → (if b then break_from goes 2 row rows else Some 1) ≡ Some n → IsFirstToFail (GoesOn Begins Goes (row ∷ rows)) (length (row ∷ rows)) n
    by true e k =
        let rest = later_fails goes Begins Goes tells 2 n row rows k in
        record { before = suc rest.behind; number = omega (arith, rest.number); there = rest.there; fails = rest.fails; earlier = onward rest e }
    by false e k =
        let same : 1 ≡ n = cc in
        record { before = zero; number = sym same; there = omega arith; fails = λ go. not_from_Decides (begins row) (opens row) e (go row refl); earlier = λ j l. absurd (omega (arith, l)) }

-- ---- the tables of a text
business_go : (t : Members) → break_in begins_business continues (business_rows t) ≡ None → (k : ℕ) → BusinessGoesOn t k
business_go t h = all_go begins_business continues (λ row. (row.over ≡ pos 0) × (row.base ≡ pos 0)) Continues business_tells continues_tells (business_rows t) h

ages_go : (t : Members) → break_in begins_ages is_older (age_rows t) ≡ None → (k : ℕ) → AgeGoesOn t k
ages_go t h = all_go begins_ages is_older (λ row. row.start ≡ pos 0) (λ row next. row.start <ℤ next.start) (λ row. Decides-int_eq row.start (pos 0)) (λ row next. less row.start next.start) (age_rows t) h

business_fails : (t : Members) (n : ℕ) → break_in begins_business continues (business_rows t) ≡ Some n → IsFirstToFail (BusinessGoesOn t) (length (business_rows t)) n
business_fails t n h = first_fails begins_business continues (λ row. (row.over ≡ pos 0) × (row.base ≡ pos 0)) Continues business_tells continues_tells (business_rows t) n h

ages_fail : (t : Members) (n : ℕ) → break_in begins_ages is_older (age_rows t) ≡ Some n → IsFirstToFail (AgeGoesOn t) (length (age_rows t)) n
ages_fail t n h = first_fails begins_ages is_older (λ row. row.start ≡ pos 0) (λ row next. row.start <ℤ next.start) (λ row. Decides-int_eq row.start (pos 0)) (λ row next. less row.start next.start) (age_rows t) n h

brackets_fail : (t : Members) (n : ℕ) → break_in (begins_schedule (first_rate_of t)) continues (bracket_rows t) ≡ Some n → IsFirstToFail (BracketGoesOn t) (length (bracket_rows t)) n
brackets_fail t n h =
    first_fails (begins_schedule (first_rate_of t)) continues (λ row. row.base ≡ share row.over (first_rate_of t)) Continues (λ row. Decides-int_eq row.base (share row.over (first_rate_of t))) continues_tells (bracket_rows t) n h

pub row_fails : (t : Members) (table row : ℕ) → book_break t ≡ Some (NotRising table row) → FailsAt t table row
row_fails t table row h =
    by (break_in begins_business continues (business_rows t)) (break_in begins_ages is_older (age_rows t)) (break_in (begins_schedule (first_rate_of t)) continues (bracket_rows t)) refl refl refl h
  where
    by : (a b c : Option ℕ) → break_in begins_business continues (business_rows t) ≡ a → break_in begins_ages is_older (age_rows t) ≡ b → break_in (begins_schedule (first_rate_of t)) continues (bracket_rows t) ≡ c
        → first_break a b c ≡ Some (NotRising table row) → FailsAt t table row
    by (Some x) b c ea eb ec k =
        let here : 1 ≡ table = cc in
        let same : x ≡ row = cc in
        in_business (sym here) (business_fails t row (ea ∙ ap Some same))
    by None (Some x) c ea eb ec k =
        let here : 2 ≡ table = cc in
        let same : x ≡ row = cc in
        in_age (sym here) (business_go t ea) (ages_fail t row (eb ∙ ap Some same))
    by None None (Some x) ea eb ec k =
        let here : 3 ≡ table = cc in
        let same : x ≡ row = cc in
        in_bracket (sym here) (business_go t ea) (ages_go t eb) (brackets_fail t row (ec ∙ ap Some same))
    by None None None ea eb ec k = cc
