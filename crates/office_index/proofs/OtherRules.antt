-- Rule 15 is no rule of a kind's own.
use Rattle.std.proofs.Common.{◌≡◌, ℕ, ◌+◌, refl, ap, subst, ◌∙◌, cond, Bool, true, false, not, ◌&&◌, List, [], ◌∷◌, ◌++◌, Option, Some, None}
use Rattle.std.specs.Prelude.{◌==◌, ◌*◌, nat_le, nat_lt, slice_index, sum}
use Rattle.std.proofs.lemmas.Bool.{and_parts}
use Rattle.aid_types.specs.Programs.{rank}
use Rattle.aid_types.specs.declared.award.Refusal.{Refusal}
use Rattle.aid_types.specs.declared.number.Key.{Key}
use Rattle.aid_types.specs.declared.term.Term.{Term}
use Rattle.aid_types.specs.declared.application.Application.{Application}
use Rattle.aid_books.specs.declared.book.Book.{Book}
use Rattle.aid_filings.specs.Calendars.{term_of}
use Rattle.aid_filings.specs.declared.filing.Filing.{Filing}
use Rattle.aid_filings.specs.declared.filing.What.{What}
use Rattle.aid_filings.specs.declared.filing.WithdrawFacts.{WithdrawFacts}
use Rattle.law_terms.specs.Used.{use_of}
use Rattle.aid_filings.specs.declared.filing.What.TheVariants.{Book as BookFiled, School, Calendar, Prior, Apply, Enroll, Originate, Pay, Withdraw, Repay, Adjust, Cost, Sent, Amend}
use Rattle.law_sai.specs.Fits.{is_size, size_for}
use Rattle.law_sai.specs.Formulas.{formula}
use Rattle.law_rules.specs.declared.facts.Facts.{Facts}
use Rattle.aid_types.specs.declared.line.RuleLine.{RuleLine}
use Rattle.aid_types.specs.RuleLines.{first_broken, lacks, only, stands, told, told_by, too_early, where_true, over}
use Rattle.law_rules.specs.Rules.{breaks_in_order, breaks_inside, first_break_in_order, rule_21, rule_23, rule_24, rule_62, rule_91}
use Rattle.law_rules.specs.Lines.{amount_lines, past_cost, past_fseog, past_lifetime, past_payment, past_year, pell_lines, rule_52, rule_63, rule_93}
use Rattle.office_history.specs.Award.{unfit_under}
use Rattle.office_history.specs.FactsOf.{facts_of}
use Rattle.office_history.specs.Positions.{school_at, told_over}
use Rattle.office_history.specs.Past.{FiledTerm, the_book}
use Rattle.office_history.specs.Rules.{rules_of}
use Rattle.office_history.specs.Answer.{breaks}

-- no line of a list has rule 15
abbrev are_others : List RuleLine → Bool
are_others [] = true
are_others (line ∷ lines) = not (line.rule == 15) && are_others lines

others_both : (xs ys : List RuleLine) → are_others xs ≡ true → are_others ys ≡ true → are_others (xs ++ ys) ≡ true
others_both [] ys h k = k
others_both (x ∷ xs) ys h k =
    let p = and_parts (not (x.rule == 15)) (are_others xs) h in
    rw (p.0, others_both xs ys p.1 k) refl

others_only : (b : Bool) (xs : List RuleLine) → are_others xs ≡ true → are_others (only b xs) ≡ true
others_only true xs h = h
others_only false xs h = refl

-- what such a list tells first isn't under rule 15
told_other : (lines : List RuleLine) (r : Refusal) → are_others lines ≡ true → first_broken lines ≡ Some r → r.rule ≡ 15 → ⊥
told_other [] r h e fifteen = cc
told_other (line ∷ lines) r h e fifteen =
    let p = and_parts (not (line.rule == 15)) (are_others lines) h in
    go (λ k. told_other lines r p.1 k fifteen) line.is_broken p.0 e
  where
    go : (first_broken lines ≡ Some r → ⊥) → (b : Bool) → not (line.rule == 15) ≡ true → cond b (Some (told_by line)) (first_broken lines) ≡ Some r → ⊥
    go ih false other e = ih e
    go ih true other e =
        let same : told_by line ≡ r = cc in
        let rule : line.rule ≡ 15 = ap (λ (x : Refusal). x.rule) same ∙ fifteen in
        let bad : not (15 == 15) ≡ true = subst (λ (n : ℕ). not (n == 15) ≡ true) rule other in
        cc

-- ---- each kind's lines
others_unfit : (o : Option Book) (a : Application) → are_others (told (unfit_under o a)) ≡ true
others_unfit None a = refl
others_unfit (Some b) a = go (nat_lt b.year a.birth_year) (is_size (formula b a) (size_for (formula b a) a.married) a.family)
  where
    go : (x y : Bool) →
        are_others (told (cond x (Some (record { rule = 92; kept = a.birth_year; bound = b.year }))
        (cond y None (Some (record { rule = 92; kept = a.family; bound = size_for (formula b a) a.married }))))) ≡ true
    go true y = refl
    go false true = refl
    go false false = refl

others_over : (past : List Filing) (award student year : ℕ) (o : Option FiledTerm) → are_others (told (told_over past award student year o)) ≡ true
others_over past award student year None = refl
others_over past award student year (Some t) = refl

others_order : (before : ℕ) (bs : List (ℕ × ℕ)) → are_others (breaks_in_order before bs) ≡ true
others_order before [] = refl
others_order before (b ∷ bs) = others_order b.1 bs

others_first : (bs : List (ℕ × ℕ)) → are_others (first_break_in_order bs) ≡ true
others_first [] = refl
others_first (b ∷ bs) = others_order b.1 bs

others_inside : (t : Term) (n : ℕ) (bs : List (ℕ × ℕ)) → are_others (breaks_inside t n bs) ≡ true
others_inside t n [] = refl
others_inside t n (b ∷ bs) = others_inside t (n + 1) bs

others_days : (last : ℕ) (o : Option Term) → are_others (rule_62 last o) ≡ true
others_days last None = refl
others_days last (Some t) = refl

others_payment : (f : Facts) (school program cents : ℕ) → are_others (amount_lines f school program cents) ≡ true
others_payment f school program cents =
    let is_pell = program == 3 in
    let limits = past_payment 54 f cents ∷ past_year 55 f cents ∷ past_lifetime 56 f cents ∷ [] in
    let pell = only is_pell limits in
    let fseog = only (program == 4) (past_fseog 55 f cents ∷ []) in
    let cost = past_cost 57 f cents ∷ [] in
    let post = rule_52 f program cents in
    others_both (only is_pell (pell_lines f school)) (post ++ (pell ++ (fseog ++ cost))) (others_only is_pell (pell_lines f school) refl)
    (others_both post (pell ++ (fseog ++ cost))
    (others_only (nat_lt 0 f.withdrawn_at) (over 52 (f.after + cents) (slice_index f.could program) ∷ over 52 (f.after_all + cents) f.post ∷ []) refl)
    (others_both pell (fseog ++ cost) (others_only is_pell limits refl)
    (others_both fseog cost (others_only (program == 4) (past_fseog 55 f cents ∷ []) refl) refl)))

others_withdrawal : (f : Facts) (w : WithdrawFacts) → are_others (rule_62 w.last f.term ++ (too_early 21 w.determined w.last ∷ rule_63 f w.could)) ≡ true
others_withdrawal f w =
    let pell = slice_index w.could 3 in
    let fseog = slice_index w.could 4 in
    let limits = past_payment 63 f pell ∷ past_year 63 f pell ∷ past_lifetime 63 f pell ∷ [] in
    let cost = past_cost 63 f (sum w.could) ∷ [] in
    others_both (rule_62 w.last f.term) (too_early 21 w.determined w.last ∷ rule_63 f w.could) (others_days w.last f.term)
    (others_both (only (nat_lt 0 pell) limits) (only (nat_lt 0 fseog) (past_fseog 63 f fseog ∷ []) ++ only (nat_lt 0 (sum w.could)) cost)
    (others_only (nat_lt 0 pell) limits refl)
    (others_both (only (nat_lt 0 fseog) (past_fseog 63 f fseog ∷ [])) (only (nat_lt 0 (sum w.could)) cost)
    (others_only (nat_lt 0 fseog) (past_fseog 63 f fseog ∷ []) refl) (others_only (nat_lt 0 (sum w.could)) cost refl)))

others_of : (past : List Filing) (key : Key) (what : What) → are_others (rules_of past key what) ≡ true
others_of past key (BookFiled b) = refl
others_of past key (School s) = refl
others_of past key (Prior p) = refl
others_of past key (Enroll e) = refl
others_of past key (Originate o) = refl
others_of past key (Repay a) = refl
others_of past key (Adjust a) = refl
others_of past key (Cost o) = refl
others_of past key (Sent o) = refl
others_of past key (Amend o) = others_only (nat_lt 0 key.school) (lacks 12 (school_at past key.school) key.school 0 ∷ []) refl
others_of past key (Calendar c) =
    let f = facts_of past key (Calendar c) in
    let t = term_of c in
    others_both (rule_21 t) (rule_23 t ++ (stands 22 f.overlap_at c.term ∷ rule_24 t f.main_terms f.terms)) (others_first t.breaks)
    (others_both (rule_23 t) (stands 22 f.overlap_at c.term ∷ rule_24 t f.main_terms f.terms) (others_inside t 1 t.breaks)
    (others_only (not t.extra) (where_true 24 (nat_le f.terms f.main_terms) f.main_terms f.terms ∷ []) refl))
others_of past key (Apply a) =
    let f = facts_of past key (Apply a) in
    let own = over 93 f.pell_main (100 * f.next_scheduled) ∷ over 93 f.pell_year (150 * f.next_scheduled)
    ∷ over 93 (f.used_else + use_of f.pell_year f.next_scheduled) 600000 ∷ [] in
    others_both (only (nat_lt 0 key.school) (lacks 12 f.school_at key.school 0 ∷ [])) (lacks 10 f.book_at a.year 0 ∷ told f.unfit ++ (rule_91 a.transaction f.transaction ∷ rule_93 f))
    (others_only (nat_lt 0 key.school) (lacks 12 f.school_at key.school 0 ∷ []) refl)
    (others_both (told f.unfit) (rule_91 a.transaction f.transaction ∷ rule_93 f) (others_unfit (the_book past a.year) a)
    (others_both (told f.term_over) own (others_over past f.next_scheduled a.student a.year _) refl))
others_of past key (Pay a) = others_payment (facts_of past key (Pay a)) key.school (rank a.program) a.cents
others_of past key (Withdraw w) = others_withdrawal (facts_of past key (Withdraw w)) w

-- no filing is refused under rule 15 by a rule of its kind
pub other_rule : (past : List Filing) (f : Filing) (r : Refusal) → breaks past f ≡ Some r → r.rule ≡ 15 → ⊥
other_rule past f r h fifteen = told_other (rules_of past f.key f.what) r (others_of past f.key f.what) h fifteen
