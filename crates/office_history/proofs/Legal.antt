-- What a legal history is.
use Rattle.std.proofs.Common.{◌≡◌, ◌≢◌, ℕ, zero, suc, ◌+◌, ◌<◌, ◌≤◌, refl, sym, ap, subst, ◌∙◌, arith, Bool, true, false, List, [], ◌∷◌, ◌++◌, length, reverse, take, drop, Option, Some, None, All, eqb-true, eq-eqb, cond, get_or}
use Rattle.std.specs.Prelude.{◌==◌, is_none, nat_le}
use Rattle.std.specs.Bool.{Decides}
use Rattle.std.specs.List.{AllPairs}
use Rattle.std.proofs.lemmas.Bool.Decides.{nat_tests}
use Rattle.aid_types.specs.declared.number.Key.{Key}
use Rattle.aid_filings.specs.declared.filing.Filing.{Filing}
use Rattle.aid_filings.specs.declared.filing.What.{What}
use Rattle.aid_filings.specs.declared.filing.What.TheVariants.{Book as BookFiled, School, Calendar, Prior, Apply, Enroll, Originate, Pay, Withdraw, Repay, Adjust, Cost, Sent, Amend}
use Rattle.aid_types.specs.declared.award.Refusal.{Refusal}
use Rattle.aid_types.specs.RuleLines.{first_broken}
use Rattle.office_history.specs.Past.{same_filing, same_key, first_of_two, key_at, filing_at}
use Rattle.office_history.specs.Rules.{rules_of}
use Rattle.office_history.specs.Answer.{IsLegal, is_legal, breaks, answer_of, judged, is_admit}
use Rattle.office_history.proofs.Cases.{answer_of-new}
use Rattle.office_history.proofs.Oldest.{reverse-at}
use Rattle.std.proofs.lemmas.List.Kept.{AllPairs-cons}
use Rattle.std.proofs.lemmas.List.Elements.{All-cons}
use Rattle.std.proofs.lemmas.Bool.{and_parts}
use Rattle.aid_types.proofs.Same.{tells_key}

-- the same filing has the same key
key_of_same : (f g : Filing) → same_filing f g ≡ true → same_key f.key g.key ≡ true
key_of_same f g h = (and_parts (same_key f.key g.key) _ h).0

never : (k n : ℕ) → first_of_two true k (n + 1) ≡ 0 → ⊥
never zero n h = absurd (omega arith)
never (suc k) n h = absurd (omega arith)

-- where a key is new, no filing with it stands
pub filing_at-new : (past : List Filing) (f : Filing) → key_at f.key past ≡ 0 → filing_at f past ≡ 0
filing_at-new [] f h = refl
filing_at-new (g ∷ past) f h = go (same_key f.key g.key) (same_filing f g) refl refl h (filing_at-new past f)
  where
    go : (a b : Bool) → same_key f.key g.key ≡ a → same_filing f g ≡ b → first_of_two a (key_at f.key past) (length past + 1) ≡ 0 →
        (key_at f.key past ≡ 0 → filing_at f past ≡ 0) → first_of_two b (filing_at f past) (length past + 1) ≡ 0
    go false false ea eb h ih = ih h
    go false true ea eb h ih = let k = key_of_same f g eb in cc
    go true b ea eb h ih = absurd (never (key_at f.key past) (length past) h)

is_nothing : (o : Option Refusal) → is_none o ≡ true → o ≡ None
is_nothing None h = refl
is_nothing (Some r) h = cc

pub is_legal-Decides : (past : List Filing) → Decides (is_legal past) (IsLegal past)
is_legal-Decides [] = (λ h. tt, λ h. refl)
is_legal-Decides (f ∷ past) = let ih = is_legal-Decides past in (
  λ h.
      let p = and_parts (is_legal past) _ h in
      let q = and_parts (key_at f.key past == 0) (is_none (breaks past f)) p.1 in
      (ih.0 p.0, eqb-true (key_at f.key past) 0 q.0, is_nothing (breaks past f) q.1),
  λ h.
      let a : is_legal past ≡ true = ih.1 h.0 in
      let b : (key_at f.key past == 0) ≡ true = eq-eqb (key_at f.key past) 0 h.1 in
      let c : is_none (breaks past f) ≡ true = ap (λ (o : Option Refusal). is_none o) h.2 in
      rw (a, b, c) refl,
)

-- an older part of a legal history is legal
pub older_legal : (newer past : List Filing) → IsLegal (newer ++ past) → IsLegal past
older_legal [] past h = h
older_legal (f ∷ newer) past h = older_legal newer past h.0

-- the office is not full where a filing breaks no rule
pub room_left : (past : List Filing) (f : Filing) → breaks past f ≡ None → length past < 1000000
room_left past f h = by (f.what) h
  where
    first : (b : Bool) (n : ℕ) (r : Refusal) (rest : Option Refusal) → nat_le 1000000 n ≡ b → cond b (Some r) rest ≡ None → n < 1000000
    first true n r rest e h = cc
    first false n r rest e h = grind (arith, nat_tests)

    by : (what : What) → first_broken (rules_of past f.key what) ≡ None → length past < 1000000
    by (BookFiled x) h = first (nat_le 1000000 (length past)) (length past) _ _ refl h
    by (School x) h = first (nat_le 1000000 (length past)) (length past) _ _ refl h
    by (Calendar x) h = first (nat_le 1000000 (length past)) (length past) _ _ refl h
    by (Prior x) h = first (nat_le 1000000 (length past)) (length past) _ _ refl h
    by (Apply x) h = first (nat_le 1000000 (length past)) (length past) _ _ refl h
    by (Enroll x) h = first (nat_le 1000000 (length past)) (length past) _ _ refl h
    by (Originate x) h = first (nat_le 1000000 (length past)) (length past) _ _ refl h
    by (Pay x) h = first (nat_le 1000000 (length past)) (length past) _ _ refl h
    by (Withdraw x) h = first (nat_le 1000000 (length past)) (length past) _ _ refl h
    by (Repay x) h = first (nat_le 1000000 (length past)) (length past) _ _ refl h
    by (Adjust x) h = first (nat_le 1000000 (length past)) (length past) _ _ refl h
    by (Cost x) h = first (nat_le 1000000 (length past)) (length past) _ _ refl h
    by (Sent x) h = first (nat_le 1000000 (length past)) (length past) _ _ refl h
    by (Amend x) h = first (nat_le 1000000 (length past)) (length past) _ _ refl h

-- a legal history has at most 1,000,000 filings
pub legal_is_short : (past : List Filing) → IsLegal past → length past ≤ 1000000
legal_is_short [] h = omega arith
legal_is_short (f ∷ past) h = omega (arith, room_left past f h.2)

-- a key that stands nowhere is no filing's key
new_apart : (past : List Filing) (key : Key) → key_at key past ≡ 0 → All (λ g. key ≢ g.key) past
new_apart [] key h = λ k d lt. absurd (omega arith)
new_apart (g ∷ past) key h = All-cons (λ g. key ≢ g.key) g past (λ e. apart (same_key key g.key) (told e) h) (new_apart past key (rest (same_key key g.key) (key_at key past) h))
  where
    told : key ≡ g.key → same_key key g.key ≡ true
    told e = ap (same_key key) (sym e) ∙ tells_key.told key

    apart : (b : Bool) → b ≡ true → first_of_two b (key_at key past) (length past + 1) ≡ 0 → ⊥
    apart true e h = never (key_at key past) (length past) h
    apart false e h = cc

    rest : (b : Bool) (n : ℕ) → first_of_two b n (length past + 1) ≡ 0 → n ≡ 0
    rest false n h = h
    rest true zero h = refl
    rest true (suc n) h = h

-- no key stands twice in a legal history
pub legal_keys_apart : (past : List Filing) → IsLegal past → AllPairs (λ f g. f.key ≢ g.key) past
legal_keys_apart [] h = λ i j d lt le. absurd (omega arith)
legal_keys_apart (f ∷ past) h = AllPairs-cons (λ f g. f.key ≢ g.key) f past (new_apart past f.key h.1) (legal_keys_apart past h.0)

-- a filing of a legal history was admitted after those before it
pub legal_admitted : (newer past : List Filing) (f : Filing) → IsLegal (newer ++ f ∷ past) → is_admit (answer_of past f) ≡ true
legal_admitted newer past f h =
    let now = older_legal newer (f ∷ past) h in
    ap is_admit (answer_of-new past f (filing_at-new past f now.1) now.1 ∙ ap (judged past f) now.2)

-- a list with a filing that is not admitted after those before it is not legal
pub illegal : (h : List Filing) (i : ℕ) (f : Filing) → i < length h → f ≡ get_or h i f → is_admit (answer_of (reverse (take i h)) f) ≡ false → IsLegal (reverse h) → ⊥
illegal h i f lt at not_admitted legal =
    let newer = reverse (drop (suc i) h) in
    let past = reverse (take i h) in
    let split : IsLegal (newer ++ get_or h i f ∷ past) = subst IsLegal (reverse-at h i f lt) legal in
    let split_at : IsLegal (newer ++ f ∷ past) = subst (λ (g : Filing). IsLegal (newer ++ g ∷ past)) (sym at) split in
    let admitted = legal_admitted newer past f split_at in
    cc (not_admitted, admitted)
