-- Lists that a pass over filings makes.
use Rattle.std.proofs.Common.{◌≡◌, ℕ, ◌+◌, ◌<◌, ◌≤◌, arith, sym, ap, ◌∙◌, List, [], ◌∷◌, ◌++◌, length, reverse, take, get_or, append-nil}
use Rattle.std.specs.Prelude.{Option, Some, None}
use Rattle.std.specs.List.{cons_option}
use Rattle.std.specs.Option.{option_to_list}
use Rattle.std.proofs.lemmas.List.{length-reverse, length-take-le, reverse-append, take_more}
use Rattle.aid_filings.specs.declared.filing.Filing.{Filing}
use Rattle.aid_filings.specs.declared.filing.SentFacts.{SentFacts}
use Rattle.office_history.proofs.Slices.{one_more}
use Rattle.office_export.proofs.Told.{length-told_by}
use Rattle.sheet_returns.specs.Sendings.{sending, sendings}
use Rattle.sheet_returns.specs.Withdrawals.{withdrawals, withdrawn}
use Rattle.sheet_returns.specs.declared.rows.Withdrawn.{Withdrawn}

behind : {A : Type 0} (o : Option A) (xs : List A) → reverse xs ++ option_to_list o ≡ reverse (cons_option o xs)
behind None xs = append-nil (reverse xs)
behind (Some a) xs = sym (reverse-append (a ∷ []) xs)

-- an item more is one more at the head of those that are read from the last on
pub item_more : {A : Type 0} (h : List A) (i : ℕ) (a : A) → i < length h → a ≡ get_or h i a → reverse (take (i + 1) h) ≡ a ∷ reverse (take i h)
item_more {A = A} h i a lt at =
    ap (λ (l : List A). reverse l) (take_more h i a lt) ∙ reverse-append (take i h) (get_or h i a ∷ [])
    ∙ ap (λ (b : A). b ∷ reverse (take i h)) (sym at)

-- the withdrawals with a filing more
pub withdrawals-more : (school : ℕ) (h : List Filing) (i : ℕ) (f : Filing) → i < length h → f ≡ get_or h i f → (out more : List Withdrawn)
    → out ≡ reverse (withdrawals school (reverse (take i h))) → more ≡ out ++ option_to_list (withdrawn school (i + 1) f.key f.what)
    → more ≡ reverse (withdrawals school (reverse (take (i + 1) h)))
withdrawals-more school h i f lt at out more is e =
    let past = reverse (take i h) in
    let size : length past ≡ i = omega (arith, length-reverse (take i h), length-take-le i h (omega (arith, lt))) in
    e ∙ ap (λ xs. xs ++ option_to_list (withdrawn school (i + 1) f.key f.what)) is
    ∙ behind (withdrawn school (i + 1) f.key f.what) (withdrawals school past)
    ∙ ap (λ n. reverse (cons_option (withdrawn school (n + 1) f.key f.what) (withdrawals school past))) (sym size)
    ∙ ap (λ (now : List Filing). reverse (withdrawals school now)) (sym (one_more h i f lt at))

-- no more was sent back, filing by filing, than there are filings
pub few_sendings : (school year front : ℕ) (now : List Filing) (sent : List SentFacts) → sent ≡ reverse (sendings school year now) → front ≡ length now → front ≤ 1000000 → length sent ≤ 1000000
few_sendings school year front now sent is size few =
    omega (arith, ap length is, length-reverse (sendings school year now), length-told_by (λ f. sending school year f.key f.what) now, size, few)
