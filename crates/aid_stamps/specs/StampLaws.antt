-- What holds of the bytes of stamps.
use Rattle.std.proofs.Common.{◌≡◌, ◌∙◌, sym, ap, ℕ, ◌+◌, ◌^◌, ◌<◌, ◌≤◌, List, ◌∷◌, ◌++◌, length, take, drop, arith, append_assoc, length-append}
use Rattle.std.specs.Int.{w32, from_le_bytes, cast_unsigned}
use Rattle.std.proofs.lemmas.Int.{ints}
use Rattle.std.proofs.lemmas.List.{take_at, drop_at}
use Rattle.std.proofs.lemmas.Nat.{from_le_bytes-to_le_bytes_4}
use Rattle.aid_stamps.specs.Clerks.{clerk_bytes}
use Rattle.aid_stamps.specs.declared.stamp.Stamp.{Stamp}
use Rattle.aid_stamps.specs.Stamps.{IsDay, IsStamp, day_bytes, day_number, stamp_bytes}

-- lists with fronts of one length are equal where the fronts are, and what follows
pub record AreParts (A : Type 0) (one other rest others : List A) : Type 0 where
  pub front : one ≡ other
  pub behind : rest ≡ others

pub parts : {A : Type 0} (one other rest others : List A) → length one ≡ length other → one ++ rest ≡ other ++ others → AreParts A one other rest others
parts one other rest others len same = record {
  front = sym (take_at one rest (length other) len) ∙ ap (take (length other)) same ∙ take_at other others (length other) (λ i. length other);
  behind = sym (drop_at one rest (length other) len) ∙ ap (drop (length other)) same ∙ drop_at other others (length other) (λ i. length other);
}

-- the word of a day fits four bytes, and is that of no other day
pub word_fits : (day : ℕ) → IsDay day → cast_unsigned w32 (day_number day) < 2 ^ 32
word_fits day is = omega (arith, ints)

pub day_of_word : (one other : ℕ) → IsDay one → IsDay other → cast_unsigned w32 (day_number one) ≡ cast_unsigned w32 (day_number other) → one ≡ other
day_of_word one other is also same = omega (arith, ints, same)

pub day_of_bytes : (one other : ℕ) → IsDay one → IsDay other → day_bytes one ≡ day_bytes other → one ≡ other
day_of_bytes one other is also same =
    let word = cast_unsigned w32 (day_number one) in
    let another = cast_unsigned w32 (day_number other) in
    day_of_word one other is also
    (sym (from_le_bytes-to_le_bytes_4 word (word_fits one is)) ∙ ap (from_le_bytes w32) same ∙ from_le_bytes-to_le_bytes_4 another (word_fits other also))

-- two lists that begin with stamps are equal where these are, and what follows
pub record AreSame (one other : Stamp) (rest others : List ℕ) : Type 0 where
  pub stamp : one ≡ other
  pub behind : rest ≡ others

pub stamp_alone : (one other : Stamp) (rest others : List ℕ) → IsStamp one → IsStamp other
    → stamp_bytes one ++ rest ≡ stamp_bytes other ++ others → AreSame one other rest others
stamp_alone one other rest others is also same =
    let whole : day_bytes one.day ++ (length one.clerk ∷ (one.clerk ++ rest)) ≡ day_bytes other.day ++ (length other.clerk ∷ (other.clerk ++ others))
    = sym (append_assoc (day_bytes one.day) (clerk_bytes one.clerk) rest) ∙ same ∙ append_assoc (day_bytes other.day) (clerk_bytes other.clerk) others in
    let fronts = parts (day_bytes one.day) (day_bytes other.day) (length one.clerk ∷ (one.clerk ++ rest)) (length other.clerk ∷ (other.clerk ++ others)) (λ i. 4) whole in
    let counts : length one.clerk ≡ length other.clerk = cc (fronts.behind) in
    let tails : one.clerk ++ rest ≡ other.clerk ++ others = cc (fronts.behind) in
    let names = parts one.clerk other.clerk rest others counts tails in
    let p = day_of_bytes one.day other.day is.day also.day fronts.front in
    let q = names.front in
    record { stamp = λ i. record { day = p i; clerk = q i }; behind = names.behind }

-- a stamp has some bytes, and 37 at most
pub record IsShort (s : Stamp) : Type 0 where
  pub some : 1 ≤ length (stamp_bytes s)
  pub few : length (stamp_bytes s) ≤ 37

pub stamp_short : (s : Stamp) → IsStamp s → IsShort s
stamp_short s is =
    let whole : length (stamp_bytes s) ≡ 4 + (length s.clerk + 1) = length-append (day_bytes s.day) (clerk_bytes s.clerk) ∙ omega arith in
    record { some = omega (arith, whole); few = omega (arith, whole, is.clerk.short) }
