-- What was read, and what stands there.
use Rattle.std.proofs.Common.{◌≡◌, inr, ℕ, zero, suc, ◌+◌, ◌^◌, ◌<◌, ◌≤◌, List, [], ◌∷◌, ◌++◌, length, take, drop, get_or, refl, sym, ◌∙◌, ap, subst, arith, append_assoc, length-append, take-append-drop}
use Rattle.std.proofs.lemmas.List.{take_at, drop_at}
use Rattle.std.proofs.lemmas.Nat.{le_bytes_4, from_le_bytes-to_le_bytes_4}
use Rattle.std.specs.Int.{to_le_bytes, from_le_bytes, w32}
use Rattle.std.specs.Prelude.{min}
use Rattle.io_traits.specs.DiskState.{Fronts}
use Rattle.log_journal.specs.Stands.{front_of, gate_place, body_of, IsPayload}
use Rattle.log_journal.specs.Record.{IsNoRecord, StartsWith, RecordAt}
use Rattle.log_journal.specs.declared.record.Start.TheVariants.{Size}
use Rattle.log_journal.specs.declared.record.Record.TheVariants.{Whole}
use Rattle.log_journal.specs.declared.header.Header.{Header}
use Rattle.log_journal.proofs.Headers.{length-front_of}
use Rattle.log_journal.proofs.Bytes.{length-take_le, same_front, same_back}

take-min : (n : ℕ) (s : List ℕ) → take (min (length s) n) s ≡ take n s
take-min zero s = ap (λ (k : ℕ). take k s) (let e : min (length s) 0 ≡ 0 = omega arith in e)
take-min (suc n) [] = ap (λ (k : ℕ). take k []) (let e : min 0 (suc n) ≡ 0 = omega arith in e)
take-min (suc n) (x ∷ s) = ap (λ (k : ℕ). take k (x ∷ s)) (let e : min (suc (length s)) (suc n) ≡ suc (min (length s) n) = omega arith in e) ∙ ap (λ (l : List ℕ). x ∷ l) (take-min n s)

-- the bytes that came are the front of what stands there
pub came : (bytes : List ℕ) (at n : ℕ) (old new : List ℕ) → Fronts bytes at n old new → take n new ≡ take (length old) (drop at bytes)
came bytes at n old new f =
    let size : length (take n (drop at bytes)) ≡ n = length-take_le n (drop at bytes) (omega (arith, f.count)) in
    ap (λ (l : List ℕ). take n l) f.filled ∙ take_at (take n (drop at bytes)) (drop n old) n size
    ∙ ap (λ (k : ℕ). take k (drop at bytes)) f.count ∙ take-min (length old) (drop at bytes)

-- a gate that is open, and a length
pub sized : (got file : List ℕ) (n : ℕ) → 5 ≤ length got → get_or got 0 0 ≡ 1 → ((i : ℕ) → get_or got i 0 < 256)
    → n ≡ from_le_bytes w32 (get_or got 1 0 ∷ get_or got 2 0 ∷ get_or got 3 0 ∷ get_or got 4 0 ∷ []) → got ≡ take 5 file → file ≡ 1 ∷ (to_le_bytes w32 n ++ drop 5 file)
sized got [] n long one fits is same = absurd (omega (arith, ap length same))
sized got (a ∷ []) n long one fits is same = absurd (omega (arith, ap length same))
sized got (a ∷ b ∷ []) n long one fits is same = absurd (omega (arith, ap length same))
sized got (a ∷ b ∷ c ∷ []) n long one fits is same = absurd (omega (arith, ap length same))
sized got (a ∷ b ∷ c ∷ d ∷ []) n long one fits is same = absurd (omega (arith, ap length same))
sized got (a ∷ b ∷ c ∷ d ∷ e ∷ rest) n long one fits is same =
    let bytes = b ∷ c ∷ d ∷ e ∷ [] in
    let first : a ≡ 1 = sym (ap (λ (l : List ℕ). get_or l 0 0) same) ∙ one in
    let small : (i : ℕ) → get_or bytes i 0 < 256 = λ i. subst (λ (x : ℕ). x < 256) (ap (λ (l : List ℕ). get_or l (suc i) 0) same ∙ front_of i) (fits (suc i)) in
    let number : n ≡ from_le_bytes w32 bytes = is ∙ ap (λ (l : List ℕ). from_le_bytes w32 (get_or l 1 0 ∷ get_or l 2 0 ∷ get_or l 3 0 ∷ get_or l 4 0 ∷ [])) same in
    ap (λ (x : ℕ). x ∷ b ∷ c ∷ d ∷ e ∷ rest) first ∙ ap (λ (l : List ℕ). 1 ∷ (l ++ rest)) (sym (le_bytes_4 bytes n refl small number))
  where
    front_of : (i : ℕ) → get_or (a ∷ b ∷ c ∷ d ∷ e ∷ []) (suc i) 0 ≡ get_or (b ∷ c ∷ d ∷ e ∷ []) i 0
    front_of i = refl

-- what follows a front
pub behind : (header : Header) (file rest : List ℕ) (h : List (List ℕ)) (gate : ℕ) → file ≡ front_of header h ++ rest → gate ≡ gate_place h → drop gate file ≡ rest
behind header file rest h gate whole place = ap (λ (l : List ℕ). drop gate l) whole ∙ drop_at (front_of header h) rest gate (length-front_of header h ∙ sym place)

pub drop-past : (at n : ℕ) (s : List ℕ) → drop (at + n) s ≡ drop n (drop at s)
drop-past zero n s = ap (λ (k : ℕ). drop k s) (let e : 0 + n ≡ n = omega arith in e)
drop-past (suc at) n [] = nothing (suc at + n) ∙ sym (nothing n)
  where
    nothing : (k : ℕ) → drop {A = ℕ} k [] ≡ []
    nothing zero = refl
    nothing (suc k) = refl
drop-past (suc at) n (x ∷ s) = ap (λ (k : ℕ). drop k (x ∷ s)) (let e : suc at + n ≡ suc (at + n) = omega arith in e) ∙ drop-past at n s

-- a length that is spelled the same is the same
pub le_same : (m n : ℕ) → m < 2 ^ 32 → n < 2 ^ 32 → to_le_bytes w32 m ≡ to_le_bytes w32 n → m ≡ n
le_same m n hm hn is = sym (from_le_bytes-to_le_bytes_4 m hm) ∙ ap (λ (l : List ℕ). from_le_bytes w32 l) is ∙ from_le_bytes-to_le_bytes_4 n hn

-- two bodies that begin one list are one, with what follows
pub body_same : (n : ℕ) (s p after : List ℕ) → n ≤ 8192 → IsPayload p → to_le_bytes w32 n ++ s ≡ body_of p ++ after → (n ≡ length p) × (s ≡ p ++ after)
body_same n s p after small payload is =
    let whole : to_le_bytes w32 n ++ s ≡ to_le_bytes w32 (length p) ++ (p ++ after) = is ∙ append_assoc (to_le_bytes w32 (length p)) p after in (
      le_same n (length p) (omega arith) (omega (arith, payload.fits)) (same_front (to_le_bytes w32 n) (to_le_bytes w32 (length p)) s (p ++ after) refl whole),
      same_back (to_le_bytes w32 n) (to_le_bytes w32 (length p)) s (p ++ after) refl whole,
    )

pub whole_record : (rest room : List ℕ) (n : ℕ) → StartsWith rest (Size n) → room ≡ take n (drop 5 rest) → n ≤ length (drop 5 rest) → RecordAt rest (Whole n) room
whole_record rest room n start is long =
    let after = start.0 in
    let five : drop 5 rest ≡ after = ap (λ (l : List ℕ). drop 5 l) start.3 in
    let size : length room ≡ n = ap length is ∙ length-take_le n (drop 5 rest) long in
    let parts : after ≡ room ++ drop n after = sym (take-append-drop n after) ∙ ap (λ (l : List ℕ). l ++ drop n after) (ap (λ (l : List ℕ). take n l) (sym five) ∙ sym is) in (
      (
        drop n after,
        record { some = omega (arith, size, start.1); fits = omega (arith, size, start.2) },
        start.3 ∙ ap (λ (l : List ℕ). 1 ∷ (to_le_bytes w32 n ++ l)) parts ∙ ap (λ (k : ℕ). 1 ∷ (to_le_bytes w32 k ++ (room ++ drop n after))) (sym size)
            ∙ ap (λ (l : List ℕ). 1 ∷ l) (sym (append_assoc (to_le_bytes w32 (length room)) room (drop n after))),
      ),
      sym size,
    )

pub short_record : (rest : List ℕ) (n : ℕ) → StartsWith rest (Size n) → length (drop 5 rest) < n → IsNoRecord rest
short_record rest n start short =
    let after = start.0 in
    let five : drop 5 rest ≡ after = ap (λ (l : List ℕ). drop 5 l) start.3 in
    inr (to_le_bytes w32 n ++ after, start.3, λ p behind payload is. ends p behind after (body_same n after p behind start.2 payload is) (ap length five) short)
  where
    ends : (p behind after : List ℕ) → (n ≡ length p) × (after ≡ p ++ behind) → length (drop 5 rest) ≡ length after → length (drop 5 rest) < n → ⊥
    ends p behind after same long less = omega (arith, same.0, ap length same.1, length-append p behind)
