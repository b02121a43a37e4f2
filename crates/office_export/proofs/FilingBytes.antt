-- The spellings of a filing and of a stamp are bytes.
use Rattle.std.proofs.Common.{◌≡◌, ◌∙◌, ℕ, zero, suc, ◌<◌, ◌≤◌, ℤ, Bool, true, false, ◌&&◌, ◌||◌, List, [], ◌∷◌, ◌++◌, length, take, refl, sym, ap, arith}
use Rattle.std.specs.Prelude.{◌==◌, nat_le, not}
use Rattle.std.specs.List.{AllByRecursion, list_all}
use Rattle.std.specs.Int.{w32, w64, to_le_bytes, cast_unsigned}
use Rattle.std.proofs.lemmas.Bool.{and_parts, leb-false, leb-true, lt-leb, ne_eqb, true≢false}
use Rattle.aid_filings.specs.declared.filing.Filing.{Filing}
use Rattle.aid_stamps.specs.Clerks.{clerk_bytes, is_clerk, is_clerk_byte}
use Rattle.aid_stamps.specs.Stamps.{IsStamp, day_bytes, day_number, stamp_bytes}
use Rattle.aid_stamps.specs.declared.stamp.Stamp.{Stamp}
use Rattle.format_table.specs.Spelling.{number_bytes, numbers_bytes}
use Rattle.format_table.specs.Layout.{after}
use Rattle.format_table.specs.Parts.{Slot, width_of}
use Rattle.format_bytes.specs.Spelling.{spelling}
use Rattle.format_kinds.specs.Kinds.{code_of, slots_of_kind, table_row_of}
use Rattle.format_kinds.specs.declared.kind.Kind.{Kind}
use Rattle.format_kinds.specs.declared.kind.Kind.TheVariants.{Book, School, Calendar, Prior, Apply, Enroll, Originate, Pay, Withdraw, Repay, Adjust, Cost, Sent, Amend}
use Rattle.format_bytes.specs.Numbers.{kind_of, numbers_of}
use Rattle.hex.specs.Hex.{IsBytes}

abbrev Bytes : List ℕ → Type 0
Bytes bytes = AllByRecursion (λ b. b < 256) bytes

-- the eight bytes of a number, and a front of them
eight : (n : ℕ) → Bytes (to_le_bytes w64 n)
eight n = (omega arith, (omega arith, (omega arith, (omega arith, (omega arith, (omega arith, (omega arith, (omega arith, tt))))))))

front : (n : ℕ) (bytes : List ℕ) → Bytes bytes → Bytes (take n bytes)
front zero bytes h = tt
front (suc n) [] h = tt
front (suc n) (b ∷ bytes) h = (h.0, front n bytes h.1)

joined : (xs ys : List ℕ) → Bytes xs → Bytes ys → Bytes (xs ++ ys)
joined [] ys h k = k
joined (x ∷ xs) ys h k = (h.0, joined xs ys h.1 k)

numbers : (slots : List Slot) (zs : List ℤ) → Bytes (numbers_bytes slots zs)
numbers slots [] = tt
numbers [] (z ∷ zs) = tt
numbers (slot ∷ slots) (z ∷ zs) =
    joined (number_bytes slot.line.form z) _ (front (width_of slot.line.form) _ (eight (cast_unsigned w64 z))) (numbers (after (slot ∷ slots) z) zs)

code : (kind : Kind) → code_of kind < 256
unfolding table_row_of
code Book = omega arith
code School = omega arith
code Calendar = omega arith
code Prior = omega arith
code Apply = omega arith
code Enroll = omega arith
code Originate = omega arith
code Pay = omega arith
code Withdraw = omega arith
code Repay = omega arith
code Adjust = omega arith
code Cost = omega arith
code Sent = omega arith
code Amend = omega arith

at : (bytes : List ℕ) → Bytes bytes → IsBytes bytes
at [] h i = omega arith
at (b ∷ bytes) h zero = h.0
at (b ∷ bytes) h (suc i) = at bytes h.1 i

of_filing : (f : Filing) → Bytes (spelling f)
of_filing f = (code (kind_of f.what), numbers (slots_of_kind (kind_of f.what)) (numbers_of f))

pub bytes-spelling : (f : Filing) → IsBytes (spelling f)
bytes-spelling f = at (spelling f) (of_filing f)

-- ---- of a stamp
four : (n : ℕ) → Bytes (to_le_bytes w32 n)
four n = (omega arith, (omega arith, (omega arith, (omega arith, tt))))

large_is_none : (b : ℕ) → 256 ≤ b → is_clerk_byte b ≡ false
large_is_none b large =
    let z : nat_le b 122 ≡ false = lt-leb b 122 (omega (arith, large)) in
    let y : nat_le b 90 ≡ false = lt-leb b 90 (omega (arith, large)) in
    let nine : nat_le b 57 ≡ false = lt-leb b 57 (omega (arith, large)) in
    let dot : (b == 46) ≡ false = ne_eqb b 46 (λ e. omega (arith, e, large)) in
    let low : (b == 95) ≡ false = ne_eqb b 95 (λ e. omega (arith, e, large)) in
    let hyphen : (b == 45) ≡ false = ne_eqb b 45 (λ e. omega (arith, e, large)) in
    rw (z, y, nine, dot, low, hyphen) (no_more (nat_le 97 b) (nat_le 65 b) (nat_le 48 b))
  where
    no_more : (x y z : Bool) → (x && false || y && false || z && false || false || false || false) ≡ false
    no_more true true true = refl
    no_more true true false = refl
    no_more true false true = refl
    no_more true false false = refl
    no_more false true true = refl
    no_more false true false = refl
    no_more false false true = refl
    no_more false false false = refl

clerk_byte : (b : ℕ) → is_clerk_byte b ≡ true → b < 256
clerk_byte b h = go (nat_le b 255) refl
  where
    go : (small : Bool) → nat_le b 255 ≡ small → b < 256
    go true e = omega (arith, leb-true b 255 e)
    go false e = absurd (true≢false (sym h ∙ large_is_none b (omega (arith, leb-false b 255 e))))

clerk_each : (name : List ℕ) → list_all is_clerk_byte name ≡ true → Bytes name
clerk_each [] h = tt
clerk_each (b ∷ name) h = let parts = and_parts (is_clerk_byte b) (list_all is_clerk_byte name) h in (clerk_byte b parts.0, clerk_each name parts.1)

clerk : (name : List ℕ) → is_clerk name ≡ true → Bytes name
clerk [] h = tt
clerk (b ∷ name) h = clerk_each (b ∷ name) (and_parts (not (b == 45)) (list_all is_clerk_byte (b ∷ name)) h).1

of_stamp : (s : Stamp) → IsStamp s → Bytes (stamp_bytes s)
of_stamp s is =
    let counted : length s.clerk < 256 = omega (arith, is.clerk.short) in
    joined (day_bytes s.day) (clerk_bytes s.clerk) (four (cast_unsigned w32 (day_number s.day))) (counted, clerk s.clerk is.clerk.bytes)

-- a filing behind its stamp
pub bytes-payload : (s : Stamp) (f : Filing) → IsStamp s → IsBytes (stamp_bytes s ++ spelling f)
bytes-payload s f is = at (stamp_bytes s ++ spelling f) (joined (stamp_bytes s) (spelling f) (of_stamp s is) (of_filing f))
