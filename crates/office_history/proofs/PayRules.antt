-- What a payment that breaks no rule tells of the facts, and that a smaller one breaks none.
use Rattle.std.proofs.Common.{◌≡◌, ℕ, ◌+◌, ◌*◌, ◌≤◌, ◌<◌, arith, Bool, List, [], ◌∷◌, ◌++◌, None, eq-eqb, ltb-false, lt-ltb}
use Rattle.std.specs.Prelude.{◌==◌, nat_lt, slice_index}
use Rattle.aid_types.specs.declared.number.Key.{Key}
use Rattle.aid_filings.specs.declared.filing.Amount.{Amount}
use Rattle.law_rules.specs.declared.facts.Facts.{Facts}
use Rattle.aid_filings.specs.declared.filing.What.TheVariants.{Pay}
use Rattle.law_terms.specs.Used.{use_of}
use Rattle.aid_types.specs.Programs.{rank}
use Rattle.aid_types.specs.declared.line.RuleLine.{RuleLine}
use Rattle.aid_types.specs.RuleLines.{over, only}
use Rattle.law_rules.specs.Lines.{lines_of, broken_of, pell_lines, rule_52, past_payment, past_year, past_fseog, past_lifetime, past_cost, payment_here, year_limit}
use Rattle.aid_types.proofs.Holds.{AllHold, all_hold, over_holds, hold_front, hold_back, hold_only, lacks_holds}
use Rattle.office_history.proofs.Numbers.{use_mono}

-- the money lines of a payment, as inequalities
pub record Affords (f : Facts) (program cents : ℕ) : Type 0 where
  pub withdrawn : 0 < f.withdrawn_at → (f.after + cents ≤ slice_index f.could program) × (f.after_all + cents ≤ f.post)
  pub payment : program ≡ 3 → f.pell_term + cents ≤ payment_here f
  pub year : program ≡ 3 → f.pell_year + cents ≤ year_limit f
  pub fseog : program ≡ 4 → f.fseog_year + cents ≤ 400000
  pub lifetime : program ≡ 3 → f.used_else + use_of (f.pell_year + cents) f.scheduled ≤ 600000
  pub cost : f.net_all + cents ≤ 100 * f.cost

-- less is afforded too
pub affords_less : (f : Facts) (program n m : ℕ) → n ≤ m → Affords f program m → Affords f program n
affords_less f program n m le a = record {
  withdrawn = λ h. let k = a.withdrawn h in (omega arith, omega arith);
  payment = λ h. let k = a.payment h in omega arith;
  year = λ h. let k = a.year h in omega arith;
  fseog = λ h. let k = a.fseog h in omega arith;
  lifetime = λ h. let k = a.lifetime h in let u = use_mono (f.pell_year + n) (f.pell_year + m) f.scheduled (omega arith) in omega arith;
  cost = let k = a.cost in omega arith;
}

module _ (f : Facts) (key : Key) (a : Amount) where
  abbrev is_pell : Bool
  is_pell = rank a.program == 3

  abbrev l1 : List RuleLine
  l1 = only is_pell (pell_lines f key.school)

  abbrev l2 : List RuleLine
  l2 = rule_52 f (rank a.program) a.cents

  abbrev pell_limits : List RuleLine
  pell_limits = past_payment 54 f a.cents ∷ past_year 55 f a.cents ∷ past_lifetime 56 f a.cents ∷ []

  abbrev l3 : List RuleLine
  l3 = only is_pell pell_limits

  abbrev l4 : List RuleLine
  l4 = only (rank a.program == 4) (past_fseog 55 f a.cents ∷ [])

  abbrev l5 : List RuleLine
  l5 = past_cost 57 f a.cents ∷ []

  -- the lines after the amount's own
  tail : broken_of f key (Pay a) ≡ None → AllHold (l1 ++ (l2 ++ (l3 ++ (l4 ++ l5))))
  tail h = (all_hold (lines_of f key.school (Pay a)) h).1.1.1.1.1.1.1

  within : broken_of f key (Pay a) ≡ None → rank a.program ≡ 3 → AllHold pell_limits
  within h e = hold_only is_pell pell_limits (eq-eqb _ _ e) (hold_front l3 (l4 ++ l5) (hold_back l2 (l3 ++ (l4 ++ l5)) (hold_back l1 (l2 ++ (l3 ++ (l4 ++ l5))) (tail h))))

  pub affords : broken_of f key (Pay a) ≡ None → Affords f (rank a.program) a.cents
  affords h =
      let k1 = hold_back l1 (l2 ++ (l3 ++ (l4 ++ l5))) (tail h) in
      let k3 = hold_back l3 (l4 ++ l5) (hold_back l2 (l3 ++ (l4 ++ l5)) k1) in
      record {
        withdrawn = λ w.
            let q = hold_only (nat_lt 0 f.withdrawn_at) (over 52 (f.after + a.cents) (slice_index f.could (rank a.program)) ∷ over 52 (f.after_all + a.cents) f.post ∷ [])
            (lt-ltb 0 f.withdrawn_at w) (hold_front l2 (l3 ++ (l4 ++ l5)) k1) in
            (over_holds 52 (f.after + a.cents) (slice_index f.could (rank a.program)) q.0, over_holds 52 (f.after_all + a.cents) f.post q.1.0);
        payment = λ e. over_holds 54 (f.pell_term + a.cents) (payment_here f) (within h e).0;
        year = λ e. over_holds 55 (f.pell_year + a.cents) (year_limit f) (within h e).1.0;
        fseog = λ e. over_holds 55 (f.fseog_year + a.cents) 400000
            (hold_only (rank a.program == 4) (past_fseog 55 f a.cents ∷ []) (eq-eqb _ _ e) (hold_front l4 l5 k3)).0;
        lifetime = λ e. over_holds 56 (f.used_else + use_of (f.pell_year + a.cents) f.scheduled) 600000 (within h e).1.1.0;
        cost = over_holds 57 (f.net_all + a.cents) (100 * f.cost) (hold_back l4 l5 k3).0;
      }

  -- the term is on file, and Pell stands beside no other school's
  pub term_filed : broken_of f key (Pay a) ≡ None → 0 < f.term_at
  term_filed h = lacks_holds 30 f.term_at a.term 0 (all_hold (lines_of f key.school (Pay a)) h).1.1.0

  pub none_beside : broken_of f key (Pay a) ≡ None → rank a.program ≡ 3 → f.other_school ≡ 0
  none_beside h e =
      let q = hold_only is_pell (pell_lines f key.school) (eq-eqb _ _ e) (hold_front l1 (l2 ++ (l3 ++ (l4 ++ l5))) (tail h)) in
      let n : f.other_school ≤ 0 = ltb-false 0 f.other_school q.1.1.0 in
      omega arith
