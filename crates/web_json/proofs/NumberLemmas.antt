-- The place of a word, as the code finds it.
use Rattle.std.proofs.Common.{◌≡◌, ℕ, ◌+◌, List, [], ◌∷◌, Bool, Bor, bytes_eq, refl, ap, ◌∙◌}
use Rattle.std.specs.Prelude.{not, cond, map}
use Rattle.std.specs.List.{position, position_or_len}
use Rattle.std.proofs.lemmas.List.{length-map}

position_or_len-map : {X Y : Type 0} (p : Y → Bool) (f : X → Y) (xs : List X) → position_or_len p (map f xs) ≡ position_or_len (λ x. p (f x)) xs
position_or_len-map p f [] = refl
position_or_len-map p f (x ∷ xs) = ap (λ n. cond (not (p (f x))) (1 + n) 0) (position_or_len-map p f xs)

position-map : {X Y : Type 0} (p : Y → Bool) (f : X → Y) (xs : List X) → position (λ x. p (f x)) xs ≡ position p (map f xs)
position-map p f xs =
    let place = position_or_len-map p f xs in
    let many = length-map xs f in
    rw (place, many) refl

-- the place of a word among words behind references
pub place_of-words : (words : List (Bor (List ℕ))) (text : List ℕ) {known : List (List ℕ)} → map (λ word. word.now) words ≡ known
    → position (λ word. bytes_eq word.now text) words ≡ position (λ word. bytes_eq word text) known
place_of-words words text e = position-map (λ word. bytes_eq word text) (λ word. word.now) words ∙ ap (position (λ word. bytes_eq word text)) e
