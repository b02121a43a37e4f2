-- Lines that read alike tell of one seal.
use Rattle.std.proofs.Common.{◌≡◌, ◌∙◌, refl, sym, ap, arith, ℕ, zero, suc, ◌*◌, ◌⊎◌, List, [], ◌∷◌, ◌++◌, length, length-append, codes, slice_index, Ok}
use Rattle.std.specs.Prelude.{decimal}
use Rattle.std.specs.Int.{to_be_bytes, w32}
use Rattle.hex.specs.Hex.{IsBytes, decode_of, encode_lower, lower_digits}
use Rattle.hex.proofs.HexLemmas.{decode_of-encode_lower, length-encode_with}
use Rattle.sha2.specs.Sha256.{digest_bytes, final_hash, initial_hash_256, sha256}
use Rattle.aid_seals.specs.Seals.{AreOne, IsCollision, IsName, clash, message, seal, sealed_line}
use Rattle.aid_seals.proofs.Clashes.{length-seal, one_or_clash, same_fronts, same_rests}

-- ---- a digest is bytes
bytes-append : (xs ys : List ℕ) → IsBytes xs → IsBytes ys → IsBytes (xs ++ ys)
bytes-append [] ys few more i = more i
bytes-append (x ∷ xs) ys few more zero = few 0
bytes-append (x ∷ xs) ys few more (suc i) = bytes-append xs ys (λ k. few (suc k)) more i

bytes-word : (n : ℕ) → IsBytes (to_be_bytes w32 n)
bytes-word n zero = omega arith
bytes-word n (suc zero) = omega arith
bytes-word n (suc (suc zero)) = omega arith
bytes-word n (suc (suc (suc zero))) = omega arith
bytes-word n (suc (suc (suc (suc i)))) = omega arith

bytes-digest : (h : List ℕ) (n : ℕ) → IsBytes (digest_bytes h n)
unfolding digest_bytes
bytes-digest h zero = λ i. omega arith
bytes-digest h (suc n) = bytes-append (digest_bytes h n) (to_be_bytes w32 (slice_index h n)) (bytes-digest h n) (bytes-word (slice_index h n))

pub bytes-sha256 : (m : List ℕ) → IsBytes (sha256 m)
unfolding sha256
bytes-sha256 m = bytes-digest (final_hash initial_hash_256 m) 8

bytes-seal : (name : List ℕ) (past : List (List ℕ)) → IsBytes (seal name past)
bytes-seal name [] = bytes-sha256 (message name [])
bytes-seal name (entry ∷ past) = bytes-sha256 (message name (entry ∷ past))

-- ---- what is written
same_digits : (s t : List ℕ) → IsBytes s → IsBytes t → encode_lower s ≡ encode_lower t → s ≡ t
same_digits s t few also same =
    let two : Ok s ≡ Ok t = sym (decode_of-encode_lower s few) ∙ ap decode_of same ∙ decode_of-encode_lower t also in
    let one : s ≡ t = cc in
    one

same_lines : (m n : ℕ) (s t : List ℕ) → length s ≡ 32 → length t ≡ 32 → sealed_line m s ≡ sealed_line n t → encode_lower s ≡ encode_lower t
same_lines m n s t long also same =
    let behind_word : decimal m ++ (codes " " ++ (encode_lower s ++ codes "\n")) ≡ decimal n ++ (codes " " ++ (encode_lower t ++ codes "\n")) =
    same_rests (codes "sealed ") (codes "sealed ") _ _ refl same in
    let one_digits : length (encode_lower s) ≡ 64 = length-encode_with lower_digits s ∙ ap (λ k. 2 * k) long in
    let two_digits : length (encode_lower t) ≡ 64 = length-encode_with lower_digits t ∙ ap (λ k. 2 * k) also in
    let one_end = length-append (encode_lower s) (codes "\n") in
    let two_end = length-append (encode_lower t) (codes "\n") in
    let one_rest = length-append (codes " ") (encode_lower s ++ codes "\n") in
    let two_rest = length-append (codes " ") (encode_lower t ++ codes "\n") in
    let one_all = length-append (decimal m) (codes " " ++ (encode_lower s ++ codes "\n")) in
    let two_all = length-append (decimal n) (codes " " ++ (encode_lower t ++ codes "\n")) in
    let lengths = ap length behind_word in
    let counts : length (decimal m) ≡ length (decimal n) = omega (arith, one_digits, two_digits, one_end, two_end, one_rest, two_rest, one_all, two_all, lengths) in
    let numbers = same_fronts (decimal m) (decimal n) _ _ counts behind_word in
    let behind_number = same_rests (decimal m) (decimal n) _ _ numbers behind_word in
    let behind_blank = same_rests (codes " ") (codes " ") _ _ refl behind_number in
    same_fronts (encode_lower s) (encode_lower t) (codes "\n") (codes "\n") (one_digits ∙ sym two_digits) behind_blank

-- two lists of which the lines read alike are one, or show a collision
pub line_or_clash : (name : List ℕ) (past : List (List ℕ)) (other_name : List ℕ) (other : List (List ℕ)) (count other_count : ℕ) → IsName name → IsName other_name
    → sealed_line count (seal name past) ≡ sealed_line other_count (seal other_name other)
    → AreOne name past other_name other ⊎ IsCollision (clash name past other_name other)
line_or_clash name past other_name other count other_count short also same =
    let digits = same_lines count other_count (seal name past) (seal other_name other) (length-seal name past) (length-seal other_name other) same in
    one_or_clash name past other_name other short also (same_digits (seal name past) (seal other_name other) (bytes-seal name past) (bytes-seal other_name other) digits)
