-- The term that is told is the least of those that pass, and so is the code.
use Rattle.std.proofs.Common.{◌≡◌, ℕ, ◌+◌, ◌*◌, ◌≤◌, refl, sym, ap, ◌∙◌, subst, arith, cond, Bool, true, false, ◌||◌, ◌&&◌, List, [], ◌∷◌, Option, Some, None}
use Rattle.std.specs.Prelude.{◌==◌, nat_lt}
use Rattle.std.specs.List.{All, Contains, filter}
use Rattle.std.proofs.lemmas.Bool.Decides.{nat_tests}
use Rattle.std.proofs.lemmas.List.Elements.{All-nil, All-cons, All-weaker, All-contains, filter_passes}
use Rattle.office_history.specs.Past.{FiledTerm}
use Rattle.office_history.specs.Positions.{earlier_term, least_term}
use Rattle.office_history.specs.Least.{NonePasses, IsLeastBy, is_before}
use Rattle.office_history.proofs.Among.{among_head, among_rest, among_kept, all_that_pass, none_kept, nothing_kept}
use Rattle.office_history.proofs.Terms.{least_none}

-- a term's number is at most 8, so nine times the code and the number are in the same order

by_place : (t u : FiledTerm) → is_before t u ≡ nat_lt (9 * t.school + t.term.number) (9 * u.school + u.term.number)
by_place t u = go t.school t.term.number u.school u.term.number t.term.in_range.1 u.term.in_range.1
  where
    go : (s m r n : ℕ) → m ≤ 8 → n ≤ 8 → (nat_lt s r || (s == r && nat_lt m n)) ≡ nat_lt (9 * s + m) (9 * r + n)
    go s m r n h k = grind (arith, nat_tests)

-- this term is among those of a list, and none of them comes before it
abbrev Leads : List FiledTerm → FiledTerm → Type 0
Leads ts t = Contains ts t × All (λ u. is_before u t ≡ false) ts

not_itself : (t : FiledTerm) → is_before t t ≡ false
not_itself t = by_place t t ∙ go (9 * t.school + t.term.number)
  where
    go : (n : ℕ) → nat_lt n n ≡ false
    go n = grind (arith, nat_tests)

-- what doesn't come before a term doesn't come before an earlier one
passed_on : (t u v : FiledTerm) → is_before v u ≡ false → is_before t u ≡ true → is_before v t ≡ false
passed_on t u v h k = by_place v t ∙ go _ _ _ (sym (by_place v u) ∙ h) (sym (by_place t u) ∙ k)
  where
    go : (a b c : ℕ) → nat_lt c b ≡ false → nat_lt a b ≡ true → nat_lt c a ≡ false
    go a b c h k = grind (arith, nat_tests)

-- the earlier of a term and of the one that leads the rest leads them all
leads_both : (s u t : FiledTerm) (ts : List FiledTerm) → Leads ts u → earlier_term s (Some u) ≡ Some t → Leads (s ∷ ts) t
leads_both s u t ts ih h = go (is_before s u) refl (ap (λ (b : Bool). cond b (Some s) (Some u)) (by_place s u) ∙ h)
  where
    go : (b : Bool) → is_before s u ≡ b → cond (is_before s u) (Some s) (Some u) ≡ Some t → Leads (s ∷ ts) t
    go true e h =
        let own : s ≡ t = cc in
        subst (Leads (s ∷ ts)) own (
          among_head s ts,
          All-cons (λ v. is_before v s ≡ false) s ts (not_itself s)
              (All-weaker (λ v. is_before v u ≡ false) (λ v. is_before v s ≡ false) (λ v k. passed_on s u v k e) ts ih.1),
        )
    go false e h =
        let own : u ≡ t = cc in
        subst (Leads (s ∷ ts)) own (among_rest s ts u ih.0, All-cons (λ v. is_before v u ≡ false) s ts e ih.1)

leads : (ts : List FiledTerm) (t : FiledTerm) → least_term ts ≡ Some t → Leads ts t
leads [] t h = absurd (cc)
leads (s ∷ ts) t h = go (least_term ts) refl h (leads ts)
  where
    go : (o : Option FiledTerm) → least_term ts ≡ o → earlier_term s o ≡ Some t → ((u : FiledTerm) → least_term ts ≡ Some u → Leads ts u) → Leads (s ∷ ts) t
    go None e h ih =
        let own : s ≡ t = cc in
        subst (Leads (s ∷ ts)) own (among_head s ts, alone (least_none ts e))
      where
        alone : ts ≡ [] → All (λ v. is_before v s ≡ false) (s ∷ ts)
        alone none =
            All-cons (λ v. is_before v s ≡ false) s ts (not_itself s)
            (subst (All (λ v. is_before v s ≡ false)) (sym none) (All-nil (λ v. is_before v s ≡ false)))
    go (Some u) e h ih = leads_both s u t ts (ih u e) h

-- of terms that pass the one found is the least
pub least_found : (p : FiledTerm → Bool) (ts : List FiledTerm) (t : FiledTerm) → least_term (filter p ts) ≡ Some t → IsLeastBy is_before p ts t
least_found p ts t h =
    let k : Leads (filter p ts) t = leads (filter p ts) t h in
    record {
      among = among_kept p ts t k.0;
      accepted = All-contains (λ x. p x ≡ true) (filter p ts) t (filter_passes p ts) k.0;
      least = all_that_pass p (λ u. is_before u t ≡ false) ts k.1;
    }

-- none is found exactly where none passes
pub none_found : (p : FiledTerm → Bool) (ts : List FiledTerm) → least_term (filter p ts) ≡ None → NonePasses p ts
none_found p ts h = none_kept p ts (least_none (filter p ts) h)

pub nothing_found : (p : FiledTerm → Bool) (ts : List FiledTerm) → NonePasses p ts → least_term (filter p ts) ≡ None
nothing_found p ts h = ap least_term (nothing_kept p ts h)
