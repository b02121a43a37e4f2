-- The cents of each program.
use Rattle.std.proofs.Common.{◌≡◌, ℕ, pos, true, List, [], ◌∷◌, length, drop, arith}
use Rattle.std.specs.Prelude.{IsTrue}
use Rattle.std.specs.List.{list_all}
use Rattle.std.proofs.lemmas.Bool.{and_parts}
use Rattle.std.proofs.lemmas.Bool.Decides.{nat_tests}
use Rattle.aid_types.specs.Ranges.{EachIsCents, is_cents}
use Rattle.format_kinds.specs.Kinds.{withdraw_slots}
use Rattle.format_table.specs.Limits.{is_between}
use Rattle.format_bytes.specs.Parts.{FitAnywhere, could_numbers}
use Rattle.format_bytes.proofs.Ranges.{is_natural_within}

cents_fit : (n : ℕ) → is_cents n ≡ true → IsTrue (is_between (pos 0) (pos 99999999) (pos n))
cents_fit n h = is_natural_within 0 99999999 n (omega arith) (grind (arith, nat_tests))

pub could_fit : (could : List ℕ) → length could ≡ 6 → EachIsCents could → FitAnywhere (drop 6 withdraw_slots) (could_numbers could)
could_fit (a ∷ b ∷ c ∷ d ∷ e ∷ f ∷ []) len h earlier =
    let ha = and_parts (is_cents a) (list_all is_cents (b ∷ c ∷ d ∷ e ∷ f ∷ [])) h in
    let hb = and_parts (is_cents b) (list_all is_cents (c ∷ d ∷ e ∷ f ∷ [])) ha.1 in
    let hc = and_parts (is_cents c) (list_all is_cents (d ∷ e ∷ f ∷ [])) hb.1 in
    let hd = and_parts (is_cents d) (list_all is_cents (e ∷ f ∷ [])) hc.1 in
    let he = and_parts (is_cents e) (list_all is_cents (f ∷ [])) hd.1 in
    let hf = and_parts (is_cents f) true he.1 in
    (cents_fit a ha.0, (cents_fit b hb.0, (cents_fit c hc.0, (cents_fit d hd.0, (cents_fit e he.0, (cents_fit f hf.0, tt))))))
could_fit could len h earlier = absurd (omega arith)
