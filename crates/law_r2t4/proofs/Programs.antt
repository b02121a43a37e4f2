-- Lists by program.
use Rattle.std.proofs.Common.{◌≡◌, ℕ, zero, suc, ◌≤◌, ◌+◌, ◌-◌, ◌<◌, min, refl, ap, ◌∙◌, List, [], ◌∷◌, ◌++◌, length, get_or, take, drop, set, arith, append_assoc, drop-cons, add-one}
use Rattle.std.specs.Prelude.{slice_index, sum}
use Rattle.std.proofs.lemmas.List.{take_more_set}
use Rattle.std.proofs.lemmas.List.Sums.{sum_by-cons}
use Rattle.aid_types.specs.Programs.{minus}
use Rattle.law_r2t4.specs.Worksheet.{spread, worksheet_of}

-- one step of a spread
pub spread_step : (amounts parts whole : List ℕ) (p rest n : ℕ) → p < length amounts → p < length parts → n ≡ get_or amounts p 0 →
    whole ≡ take p parts ++ spread rest (drop p amounts) →
    whole ≡ take (p + 1) (set parts p (min n rest)) ++ spread (rest - min n rest) (drop (p + 1) amounts)
spread_step amounts parts whole p rest n la lp e h =
    let d : drop p amounts ≡ get_or amounts p 0 ∷ drop (suc p) amounts = drop-cons amounts p 0 la in
    let s : spread rest (drop p amounts) ≡ min (get_or amounts p 0) rest ∷ spread (rest - get_or amounts p 0) (drop (suc p) amounts) = ap (spread rest) d in
    let r : rest - min n rest ≡ rest - get_or amounts p 0 = omega arith in
    let m : min n rest ≡ min (get_or amounts p 0) rest = omega arith in
    h ∙ rw (take_more_set parts p (min n rest) lp, append_assoc, r, m, s, add-one p) refl

sum-cons : (n : ℕ) (ns : List ℕ) → sum (n ∷ ns) ≡ n + sum ns
sum-cons n ns = sum_by-cons (λ x. x) n ns

-- what is spread sums to what there is to spread, up to the sum of the amounts
pub sum-spread : (left : ℕ) (ns : List ℕ) → sum (spread left ns) ≡ min left (sum ns)
sum-spread left [] = omega arith
sum-spread left (n ∷ ns) = omega (arith, sum-spread (left - n) ns, sum-cons n ns, sum-cons (min n left) (spread (left - n) ns))

sum-minus : (left : ℕ) (ns : List ℕ) → sum (minus ns (spread left ns)) ≡ sum ns - left
sum-minus left [] = omega arith
sum-minus left (n ∷ ns) =
    omega (arith, sum-minus (left - n) ns, sum-cons n ns, sum-cons (n - min n left) (minus ns (spread (left - n) ns)))

-- a second spread takes what the first one left
both-within : (left more : ℕ) (ns : List ℕ) (p : ℕ) →
    slice_index (spread left ns) p + slice_index (spread more (minus ns (spread left ns))) p ≤ slice_index ns p
both-within left more [] p = omega arith
both-within left more (n ∷ ns) zero = omega arith
both-within left more (n ∷ ns) (suc p) = both-within (left - n) (more - (n - min n left)) ns p

-- the school's part and the student's part, program by program
pub sum-returned : (completed total charges : ℕ) (net could : List ℕ) →
    sum (worksheet_of completed total charges net could).returned ≡ (worksheet_of completed total charges net could).school
unfolding worksheet_of
sum-returned completed total charges net could =
    let k = sum-spread (worksheet_of completed total charges net could).school net in
    omega arith

pub sum-laid : (completed total charges : ℕ) (net could : List ℕ) →
    sum (worksheet_of completed total charges net could).laid ≡ (worksheet_of completed total charges net could).student
unfolding worksheet_of
sum-laid completed total charges net could =
    let k = sum-spread (worksheet_of completed total charges net could).student (minus net (worksheet_of completed total charges net could).returned) in
    let m = sum-minus (worksheet_of completed total charges net could).school net in
    omega arith

pub within-net : (completed total charges : ℕ) (net could : List ℕ) (p : ℕ) →
    slice_index (worksheet_of completed total charges net could).returned p
    + slice_index (worksheet_of completed total charges net could).laid p ≤ slice_index net p
unfolding worksheet_of
within-net completed total charges net could p =
    both-within (worksheet_of completed total charges net could).school (worksheet_of completed total charges net could).student net p
