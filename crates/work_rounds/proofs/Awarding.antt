-- The filings of the awards so far.
use Rattle.std.proofs.Common.{◌≡◌, ℕ, zero, suc, ◌+◌, ◌<◌, ◌≤◌, refl, sym, subst, ap, ◌∙◌, arith, List, [], ◌∷◌, ◌++◌, length, drop, get_or, drop-cons, add-one, append_assoc, append-nil, length-append, cond, Bool, true, false}
use Rattle.std.specs.Prelude.{sum, ◌==◌}
use Rattle.std.proofs.lemmas.List.Sums.{sum_by-cons}
use Rattle.law_funds.specs.Rounds.{AreWithinNeeds}
use Rattle.law_funds.specs.declared.candidate.Candidate.{Candidate}
use Rattle.work_rounds.specs.Plans.{AreAwarded, IsAwarded}
use Rattle.work_rounds.specs.declared.words.RoundRequest.{RoundRequest}
use Rattle.law_work.specs.declared.filing.WorkFiling.{WorkFiling}
use Rattle.law_work.specs.declared.filing.WorkWhat.{WorkWhat}
use Rattle.law_work.specs.declared.filing.WorkWhat.TheVariants.{Fund, Award, Earn, Release}
use Rattle.law_work.specs.Funds.{dollars_of, fund, fund_at, is_fund, rest}

-- an award within its candidate's need is none, or one of 100 to 4,000 dollars
pub award_in_range : (cs : List Candidate) (awards : List ℕ) → AreWithinNeeds cs awards → (i : ℕ) (award : ℕ) → i < length cs → award ≡ get_or awards i award → 0 < award → (100 ≤ award) × (award ≤ 4000)
award_in_range [] awards within i award lt at some = absurd (omega arith)
award_in_range (c ∷ cs) awards within zero award lt at some =
    let e : award ≡ within.0 = at ∙ ap (λ (l : List ℕ). get_or l 0 award) within.2 in
    let fits = (within.3 (omega (arith, e))).0 in
    (omega (arith, e, fits.0), omega (arith, e, fits.1))
award_in_range (c ∷ cs) awards within (suc i) award lt at some =
    award_in_range cs within.1 within.4 i award (omega arith) (at ∙ ap (λ (l : List ℕ). get_or l (suc i) award) within.2) some

-- whatever filings of the others follow, the whole are those of all
abbrev pub AreSoFar : RoundRequest → List Candidate → List ℕ → ℕ → ℕ → List WorkFiling → Type 0
AreSoFar r cs awards i number filings =
    (others : List WorkFiling) → AreAwarded r number (drop i cs) (drop i awards) others → AreAwarded r r.number cs awards (filings ++ others)

pub award_start : (r : RoundRequest) (cs : List Candidate) (awards : List ℕ) (filings : List WorkFiling) → filings ≡ [] → AreSoFar r cs awards 0 r.number filings
award_start r cs awards filings none others all = subst (λ (before : List WorkFiling). AreAwarded r r.number cs awards (before ++ others)) (sym none) all

there : {X : Type 0} (xs : List X) (i : ℕ) (x : X) → i < length xs → x ≡ get_or xs i x → drop i xs ≡ x ∷ drop (i + 1) xs
there xs i x lt at = rw (drop-cons xs i x lt, add-one i) (ap (λ d. d ∷ drop (suc i) xs) (sym at))

-- an award of nothing
pub award_none : (r : RoundRequest) (cs : List Candidate) (awards : List ℕ) (i number : ℕ) (filings : List WorkFiling) (c : Candidate) (award : ℕ)
    → i < length cs → i < length awards → c ≡ get_or cs i c → award ≡ get_or awards i award → award ≡ 0
    → AreSoFar r cs awards i number filings → AreSoFar r cs awards (i + 1) number filings
award_none r cs awards i number filings c award lt le here at none so_far others all =
    so_far others
    (subst (λ (ns : List ℕ). AreAwarded r number (drop i cs) ns others) (sym (there awards i 0 le (sym (subst (λ n. get_or awards i n ≡ n) none (sym at)))))
    (subst (λ (l : List Candidate). AreAwarded r number l (0 ∷ drop (i + 1) awards) others) (sym (there cs i c lt here)) all))

-- an award that is filed
pub award_one : (r : RoundRequest) (cs : List Candidate) (awards : List ℕ) (i number : ℕ) (filings more : List WorkFiling) (c : Candidate) (award : ℕ) (f : WorkFiling)
    → i < length cs → i < length awards → c ≡ get_or cs i c → award ≡ get_or awards i award → 0 < award → more ≡ filings ++ f ∷ [] → IsAwarded r number c.student award f
    → AreSoFar r cs awards i number filings → AreSoFar r cs awards (i + 1) (number + 1) more
award_one r cs awards i number filings more c zero f lt le here at some one filed so_far others all = absurd (omega arith)
award_one r cs awards i number filings more c (suc n) f lt le here at some one filed so_far others all =
    let next : AreAwarded r number (drop i cs) (drop i awards) (f ∷ others) =
    subst (λ (ns : List ℕ). AreAwarded r number (drop i cs) ns (f ∷ others)) (sym (there awards i (suc n) le at))
    (subst (λ (l : List Candidate). AreAwarded r number l (suc n ∷ drop (i + 1) awards) (f ∷ others)) (sym (there cs i c lt here))
    (f, others, refl, filed, all)) in
    subst (λ (fs : List WorkFiling). AreAwarded r r.number cs awards fs) (sym (ap (λ (fs : List WorkFiling). fs ++ others) one ∙ append_assoc filings (f ∷ []) others)) (so_far (f ∷ others) next)

-- one filing more
pub longer : (filings more : List WorkFiling) (f : WorkFiling) → more ≡ filings ++ f ∷ [] → length more ≡ length filings + 1
longer filings more f is = omega (arith, ap length is, length-append filings (f ∷ []))

-- where no candidate is left, the filings so far are all
pub award_end : (r : RoundRequest) (cs : List Candidate) (awards : List ℕ) (i number : ℕ) (filings : List WorkFiling) → drop i cs ≡ [] → AreSoFar r cs awards i number filings
    → AreAwarded r r.number cs awards filings
award_end r cs awards i number filings none so_far =
    subst (λ (fs : List WorkFiling). AreAwarded r r.number cs awards fs) (append-nil filings)
    (so_far [] (subst (λ (l : List Candidate). AreAwarded r number l (drop i awards) []) (sym none) refl))

-- the sum of the awards from a place on
pub sum_from : (awards : List ℕ) (i award : ℕ) → i < length awards → award ≡ get_or awards i award → sum (drop i awards) ≡ award + sum (drop (i + 1) awards)
sum_from awards i award lt at = ap (λ (l : List ℕ). sum l) (there awards i award lt at) ∙ sum_by-cons (λ x. x) award (drop (i + 1) awards)

-- ---- a fund has at most 9,999,999 dollars
fund_dollars : (school year of : ℕ) (what : WorkWhat) → cond (is_fund school year of what) (dollars_of what) 0 ≤ 9999999
fund_dollars school year of (Fund x) = go (is_fund school year of (Fund x))
  where
    go : (b : Bool) → cond b x.dollars 0 ≤ 9999999
    go true = x.in_range
    go false = omega arith
fund_dollars school year of (Award a) = omega arith
fund_dollars school year of (Earn e) = omega arith
fund_dollars school year of (Release a) = omega arith

fund_most : (past : List WorkFiling) (school year : ℕ) → fund past school year ≤ 9999999
fund_most [] school year = omega arith
fund_most (f ∷ past) school year = go (fund_at past school year == 0) (fund_most past school year)
  where
    go : (b : Bool) → fund past school year ≤ 9999999 → cond b (cond (is_fund school year f.key.school f.what) (dollars_of f.what) 0) (fund past school year) ≤ 9999999
    go true earlier = fund_dollars school year f.key.school f.what
    go false earlier = earlier

pub rest_most : (past : List WorkFiling) (school year : ℕ) → rest past school year ≤ 9999999
rest_most past school year = let most = fund_most past school year in omega (arith, most)
