-- How many bytes are held.
use Rattle.std.proofs.Common.{arith, ◌≡◌, ◌∙◌, ap, ℕ, zero, suc, ◌+◌, ◌<◌, ◌≤◌, List, [], ◌∷◌, ◌++◌, length, length-append, take, append_assoc, Some}
use Rattle.web_session.specs.Ends.{head_end}
use Rattle.web_session.specs.ConnectionState.{IsPrefix}
use Rattle.web_session.specs.declared.head_state.HeadState.TheVariants.{Before}
use Rattle.web_session.proofs.EndWalk.{end_from-le}

-- a piece more, where fewer were held than are sought
pub room_kept : (held left held' left' : List ℕ) (most : ℕ) → held' ++ left' ≡ held ++ left → length left ≤ length left' + 4096 → length held < most → most ≤ 81920 → length held' ≤ 86015
room_kept held left held' left' most is taken few le = omega (arith, length-append held' left', length-append held left, ap (λ (l : List ℕ). length l) is, taken, few, le)

take_most : (n : ℕ) (xs : List ℕ) → length (take n xs) ≤ n
take_most zero xs = omega arith
take_most (suc n) [] = omega arith
take_most (suc n) (x ∷ xs) = omega (arith, take_most n xs)

-- a head block has no more bytes than are looked at
pub end_most : (held : List ℕ) (k : ℕ) → head_end (take 16384 held) ≡ Some k → k ≤ 16384
end_most held k is = omega (arith, end_from-le Before 0 (take 16384 held) k is, take_most 16384 held)

pub room_behind : (held left held' left' : List ℕ) → held' ++ left' ≡ held ++ left → length (held ++ left) ≤ length left' + 86015 → length held' ≤ 86015
room_behind held left held' left' is le = omega (arith, length-append held' left', ap (λ (l : List ℕ). length l) is, le)

pub room_as : (all all' left : List ℕ) → all ≡ all' → length all ≤ length left + 86015 → length all' ≤ length left + 86015
room_as all all' left is le = omega (arith, ap (λ (l : List ℕ). length l) is, le)

pub front_more : (first held held' got : List ℕ) → held' ≡ held ++ got → IsPrefix first held → IsPrefix first held'
front_more first held held' got is (rest, was) = (rest ++ got, is ∙ ap (λ (l : List ℕ). l ++ got) was ∙ append_assoc first rest got)
