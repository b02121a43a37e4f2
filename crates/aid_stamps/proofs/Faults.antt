-- Where bytes begin with no stamp.
use Rattle.std.proofs.Common.{◌≡◌, ◌∙◌, sym, ap, subst, refl, ℕ, ◌+◌, ◌-◌, ◌<◌, ◌≤◌, true, false, List, [], ◌∷◌, ◌++◌, length, take, drop, get_or, arith, append_assoc, length-append}
use Rattle.std.proofs.Math.Seq.{take-length}
use Rattle.std.proofs.lemmas.Bool.{true≢false}
use Rattle.std.proofs.lemmas.List.{take_at}
use Rattle.aid_stamps.specs.Clerks.{IsClerk, clerk_bytes}
use Rattle.aid_stamps.specs.Reading.{IsNoClerk, no_count, no_name, IsNoStamp, no_day, no_clerk}
use Rattle.aid_stamps.specs.StampLaws.{parts}
use Rattle.aid_stamps.specs.Stamps.{IsDay, IsStamp, day_bytes, stamp_bytes}
use Rattle.aid_stamps.specs.declared.stamp.Stamp.{Stamp}

-- what stands behind the first bytes
abbrev pub behind_of : ℕ → List ℕ → List ℕ
behind_of n bytes = take (length bytes - n) (drop n bytes)

-- the first four
abbrev pub four_of : List ℕ → List ℕ
four_of bytes = get_or bytes 0 0 ∷ get_or bytes 1 0 ∷ get_or bytes 2 0 ∷ get_or bytes 3 0 ∷ []

whole_one : (bytes : List ℕ) → 1 ≤ length bytes → bytes ≡ get_or bytes 0 0 ∷ behind_of 1 bytes
whole_one [] some = absurd (let bad : ⊥ = omega arith in bad)
whole_one (b ∷ bs) some = let e : length (b ∷ bs) - 1 ≡ length bs = omega arith in rw (e, take-length) refl

whole_four : (bytes : List ℕ) → 4 ≤ length bytes → bytes ≡ four_of bytes ++ behind_of 4 bytes
whole_four [] some = absurd (let bad : ⊥ = omega arith in bad)
whole_four (a ∷ []) some = absurd (let bad : ⊥ = omega arith in bad)
whole_four (a ∷ b ∷ []) some = absurd (let bad : ⊥ = omega arith in bad)
whole_four (a ∷ b ∷ c ∷ []) some = absurd (let bad : ⊥ = omega arith in bad)
whole_four (a ∷ b ∷ c ∷ d ∷ bs) some = let e : length (a ∷ b ∷ c ∷ d ∷ bs) - 4 ≡ length bs = omega arith in rw (e, take-length) refl

-- ---- a name
pub no_bytes : (bytes : List ℕ) → length bytes < 1 → IsNoClerk bytes 4
no_bytes bytes few = no_count (λ count rest le e. let n : length bytes ≡ length rest + 1 = ap length e ∙ omega arith in absurd (omega arith))

pub past_limit : (bytes : List ℕ) → 32 < get_or bytes 0 0 → IsNoClerk bytes 4
past_limit bytes past = no_count (λ count rest le e. let n : get_or bytes 0 0 ≡ count = ap (λ (bs : List ℕ). get_or bs 0 0) e in absurd (omega arith))

pub too_short : (bytes : List ℕ) → 1 ≤ length bytes → get_or bytes 0 0 ≤ 32 → length (behind_of 1 bytes) < get_or bytes 0 0 → IsNoClerk bytes 5
too_short bytes some le few =
    no_name (get_or bytes 0 0) (behind_of 1 bytes) le (whole_one bytes some)
    (λ name behind len is e. let n : length (behind_of 1 bytes) ≡ length name + length behind = ap length e ∙ length-append name behind in absurd (omega arith))

pub no_clerk_bytes : (bytes front : List ℕ) → 1 ≤ length bytes → get_or bytes 0 0 ≤ 32 → front ≡ take (get_or bytes 0 0) (behind_of 1 bytes) → (IsClerk front → false ≡ true) → IsNoClerk bytes 5
no_clerk_bytes bytes front some le e law =
    no_name (get_or bytes 0 0) (behind_of 1 bytes) le (whole_one bytes some)
    (λ name behind len is same.
    let one : front ≡ name = e ∙ ap (take (get_or bytes 0 0)) same ∙ take_at name behind (get_or bytes 0 0) len in
    let clerk : IsClerk name = record { short = omega arith; bytes = is } in
    true≢false (sym (law (subst IsClerk (sym one) clerk))))

-- ---- a stamp
pub no_day_bytes : (bytes : List ℕ) → length bytes < 4 → IsNoStamp bytes 0
no_day_bytes bytes few =
    no_day (λ day rest is e. let n : length bytes ≡ 4 + length rest = ap length e ∙ length-append (day_bytes day) rest in absurd (omega arith))

pub no_such_day : (bytes : List ℕ) → ((day : ℕ) → IsDay day → four_of bytes ≡ day_bytes day → ⊥) → IsNoStamp bytes 0
no_such_day bytes law = no_day (λ day rest is e. law day is (ap four_of e))

pub no_clerk_behind : (bytes : List ℕ) (day place : ℕ) → 4 ≤ length bytes → IsDay day → four_of bytes ≡ day_bytes day → IsNoClerk (behind_of 4 bytes) place → IsNoStamp bytes place
no_clerk_behind bytes day place some is same none =
    no_clerk day (behind_of 4 bytes) place is (whole_four bytes some ∙ ap (λ (four : List ℕ). four ++ behind_of 4 bytes) same) none

-- a list with such a fault begins with no stamp
no_name_there : (bytes name rest : List ℕ) (place : ℕ) → IsNoClerk bytes place → IsClerk name → bytes ≡ clerk_bytes name ++ rest → ⊥
no_name_there bytes name rest place (no_count law) is e = law (length name) (name ++ rest) is.short e
no_name_there bytes name rest place (no_name count behind le whole law) is e =
    let both : length name ∷ (name ++ rest) ≡ count ∷ behind = sym e ∙ whole in
    let len : length name ≡ count = cc in
    let tail : behind ≡ name ++ rest = cc in
    law name rest len is.bytes tail

pub no_stamp_there : (bytes rest : List ℕ) (place : ℕ) (stamp : Stamp) → IsNoStamp bytes place → IsStamp stamp → bytes ≡ stamp_bytes stamp ++ rest → ⊥
no_stamp_there bytes rest place stamp (no_day law) is e =
    law stamp.day (clerk_bytes stamp.clerk ++ rest) is.day (e ∙ append_assoc (day_bytes stamp.day) (clerk_bytes stamp.clerk) rest)
no_stamp_there bytes rest place stamp (no_clerk day behind at isday whole none) is e =
    let same = parts (day_bytes day) (day_bytes stamp.day) behind (clerk_bytes stamp.clerk ++ rest) (λ i. 4)
    (sym whole ∙ e ∙ append_assoc (day_bytes stamp.day) (clerk_bytes stamp.clerk) rest) in
    no_name_there behind stamp.clerk rest place none is.clerk same.behind
