-- Behind good lines one cause applies at most, and none to a good line.
use Rattle.std.proofs.Common.{◌≡◌, ◌≢◌, ◌⊎◌, inl, inr, ℕ, ◌<◌, refl, sym, ap, subst, ◌∙◌, arith, Bool, true, false, List, [], ◌∷◌, ◌++◌, length, Option, Some, None}
use Rattle.aid_filings.specs.declared.filing.Filing.{Filing}
use Rattle.aid_stamps.specs.Stamps.{IsStamp}
use Rattle.aid_stamps.specs.declared.stamp.Stamp.{Stamp}
use Rattle.format_bytes.specs.Numbers.{IsFiling}
use Rattle.office_history.specs.Answer.{breaks}
use Rattle.office_history.specs.Past.{key_at}
use Rattle.office_export.specs.Forms.{LineForm, end_form, filing_form, form_of, standing_form}
use Rattle.office_export.specs.Lines.{end_line, filing_line}
use Rattle.office_export.specs.Seals.{office_seal}
use Rattle.office_export.proofs.Laws.{form_of-filing_line, same_filing_line}
use Rattle.audit.specs.Findings.{Asked, IsBad, IsInPlace, IsStray, Rises, right_line, behind_end, behind_standing, broken, counts, formless, full, missing, stray, unspelled, used, wrong}
use Rattle.audit.specs.Steps.{Goes, Told, closed, filed, stood}

-- a line has one form
no_form : (o : Option LineForm) (form : LineForm) → o ≡ None → o ≡ Some form → ⊥
no_form o form n s = cc

not_both : (b : Bool) → b ≡ true → b ≡ false → ⊥
not_both b t f = cc

filing_or_end : (o : Option LineForm) → o ≡ Some filing_form → o ≡ Some end_form → ⊥
filing_or_end o f e = cc

filing_or_standing : (o : Option LineForm) (student year : ℕ) → o ≡ Some filing_form → o ≡ Some (standing_form student year) → ⊥
filing_or_standing o student year f s = cc

standing_or_end : (o : Option LineForm) (student year : ℕ) → o ≡ Some (standing_form student year) → o ≡ Some end_form → ⊥
standing_or_end o student year s e = cc

one_student : (o : Option LineForm) (s y t z : ℕ) → o ≡ Some (standing_form s y) → o ≡ Some (standing_form t z) → (s ≡ t) × (y ≡ z)
one_student o s y t z a b = (cc, cc)

-- where a filing stands in its place, a line isn't stray, nor is a standing or an end line before the end
placed_is_kept : (asked : List Asked) (ended : Bool) (line : List ℕ) → IsInPlace asked ended line → IsStray asked ended line → ⊥
placed_is_kept asked ended line here (formless none) = no_form _ _ none here.form
placed_is_kept asked ended line here (behind_end over) = not_both _ over here.before_end
placed_is_kept asked ended line here (behind_standing form some) = some here.before_standings

standing_is_kept : (asked : List Asked) (ended : Bool) (line : List ℕ) (student year : ℕ) → ended ≡ false → form_of line ≡ Some (standing_form student year) → IsStray asked ended line → ⊥
standing_is_kept asked ended line student year early form (formless none) = no_form _ _ none form
standing_is_kept asked ended line student year early form (behind_end over) = not_both _ over early
standing_is_kept asked ended line student year early form (behind_standing filing some) = filing_or_standing _ _ _ filing form

end_is_kept : (asked : List Asked) (ended : Bool) (line : List ℕ) → ended ≡ false → form_of line ≡ Some end_form → IsStray asked ended line → ⊥
end_is_kept asked ended line early form (formless none) = no_form _ _ none form
end_is_kept asked ended line early form (behind_end over) = not_both _ over early
end_is_kept asked ended line early form (behind_standing filing some) = filing_or_end _ filing form

-- ---- each cause is the only one
stray_only : (most : ℕ) (past : List Filing) (stamps : List Stamp) (asked : List Asked) (ended : Bool) (line : List ℕ) (rest : List (List ℕ)) (c : ℕ) → IsStray asked ended line → IsBad most past stamps asked ended (line ∷ rest) c → c ≡ 1
stray_only most past stamps asked ended line rest c s (stray _ _ t) = refl
stray_only most past stamps asked ended line rest c s (full _ _ here n) = absurd (placed_is_kept asked ended line here s)
stray_only most past stamps asked ended line rest c s (unspelled _ _ here n none) = absurd (placed_is_kept asked ended line here s)
stray_only most past stamps asked ended line rest c s (used z f _ here n is_z are key) = absurd (placed_is_kept asked ended (filing_line z f) here s)
stray_only most past stamps asked ended line rest c s (broken z f r _ here n is_z are key breaks_it) = absurd (placed_is_kept asked ended (filing_line z f) here s)
stray_only most past stamps asked ended line rest c s (wrong student year _ _ early form w) = absurd (standing_is_kept asked ended line student year early form s)
stray_only most past stamps asked ended line rest c s (counts _ _ early form w) = absurd (end_is_kept asked ended line early form s)

full_only : (most : ℕ) (past : List Filing) (stamps : List Stamp) (asked : List Asked) (ended : Bool) (line : List ℕ) (rest : List (List ℕ)) (c : ℕ) → IsInPlace asked ended line → length past ≡ most → IsBad most past stamps asked ended (line ∷ rest) c → c ≡ 8
full_only most past stamps asked ended line rest c here n (stray _ _ s) = absurd (placed_is_kept asked ended line here s)
full_only most past stamps asked ended line rest c here n (full _ _ h m) = refl
full_only most past stamps asked ended line rest c here n (unspelled _ _ h m none) = absurd (omega arith)
full_only most past stamps asked ended line rest c here n (used z f _ h m is_z are key) = absurd (omega arith)
full_only most past stamps asked ended line rest c here n (broken z f r _ h m is_z are key breaks_it) = absurd (omega arith)
full_only most past stamps asked ended line rest c here n (wrong student year _ _ early form w) = absurd (filing_or_standing _ _ _ here.form form)
full_only most past stamps asked ended line rest c here n (counts _ _ early form w) = absurd (filing_or_end _ here.form form)

unspelled_only : (most : ℕ) (past : List Filing) (stamps : List Stamp) (asked : List Asked) (ended : Bool) (line : List ℕ) (rest : List (List ℕ)) (c : ℕ) → IsInPlace asked ended line → length past < most
    → ((z : Stamp) (f : Filing) → IsStamp z → IsFiling f → line ≢ filing_line z f) → IsBad most past stamps asked ended (line ∷ rest) c → c ≡ 2
unspelled_only most past stamps asked ended line rest c here n none (stray _ _ s) = absurd (placed_is_kept asked ended line here s)
unspelled_only most past stamps asked ended line rest c here n none (full _ _ h m) = absurd (omega arith)
unspelled_only most past stamps asked ended line rest c here n none (unspelled _ _ h m none') = refl
unspelled_only most past stamps asked ended line rest c here n none (used z f _ h m is_z are key) = absurd (none z f is_z are refl)
unspelled_only most past stamps asked ended line rest c here n none (broken z f r _ h m is_z are key breaks_it) = absurd (none z f is_z are refl)
unspelled_only most past stamps asked ended line rest c here n none (wrong student year _ _ early form w) = absurd (filing_or_standing _ _ _ here.form form)
unspelled_only most past stamps asked ended line rest c here n none (counts _ _ early form w) = absurd (filing_or_end _ here.form form)

-- a filing whose key was used before, and one that breaks a rule, by the filing that the line spells
used_only : (most : ℕ) (past : List Filing) (stamps : List Stamp) (asked : List Asked) (ended : Bool) (line : List ℕ) (rest : List (List ℕ)) (c : ℕ) (z : Stamp) (f : Filing) → IsInPlace asked ended line → length past < most
    → IsStamp z → IsFiling f → line ≡ filing_line z f → key_at f.key past ≢ 0 → IsBad most past stamps asked ended (line ∷ rest) c → c ≡ 3
used_only most past stamps asked ended line rest c z f here n is_z are e key (stray _ _ s) = absurd (placed_is_kept asked ended line here s)
used_only most past stamps asked ended line rest c z f here n is_z are e key (full _ _ h m) = absurd (omega arith)
used_only most past stamps asked ended line rest c z f here n is_z are e key (unspelled _ _ h m none) = absurd (none z f is_z are e)
used_only most past stamps asked ended line rest c z f here n is_z are e key (used w g _ h m is_w are_g key_g) = refl
used_only most past stamps asked ended line rest c z f here n is_z are e key (broken w g r _ h m is_w are_g key_g breaks_it) =
    absurd (key (ap (λ (x : Filing). key_at x.key past) (same_filing_line z w f g is_z is_w are are_g (sym e)).filing ∙ key_g))
used_only most past stamps asked ended line rest c z f here n is_z are e key (wrong student year _ _ early form w) = absurd (filing_or_standing _ _ _ here.form form)
used_only most past stamps asked ended line rest c z f here n is_z are e key (counts _ _ early form w) = absurd (filing_or_end _ here.form form)

broken_only : (most : ℕ) (past : List Filing) (stamps : List Stamp) (asked : List Asked) (ended : Bool) (line : List ℕ) (rest : List (List ℕ)) (c : ℕ) (z : Stamp) (f : Filing) → IsInPlace asked ended line → length past < most
    → IsStamp z → IsFiling f → line ≡ filing_line z f → key_at f.key past ≡ 0 → IsBad most past stamps asked ended (line ∷ rest) c → c ≡ 4
broken_only most past stamps asked ended line rest c z f here n is_z are e key (stray _ _ s) = absurd (placed_is_kept asked ended line here s)
broken_only most past stamps asked ended line rest c z f here n is_z are e key (full _ _ h m) = absurd (omega arith)
broken_only most past stamps asked ended line rest c z f here n is_z are e key (unspelled _ _ h m none) = absurd (none z f is_z are e)
broken_only most past stamps asked ended line rest c z f here n is_z are e key (used w g _ h m is_w are_g key_g) =
    absurd (key_g (ap (λ (x : Filing). key_at x.key past) (same_filing_line w z g f is_w is_z are_g are e).filing ∙ key))
broken_only most past stamps asked ended line rest c z f here n is_z are e key (broken w g r _ h m is_w are_g key_g breaks_it) = refl
broken_only most past stamps asked ended line rest c z f here n is_z are e key (wrong student year _ _ early form w) = absurd (filing_or_standing _ _ _ here.form form)
broken_only most past stamps asked ended line rest c z f here n is_z are e key (counts _ _ early form w) = absurd (filing_or_end _ here.form form)

wrong_only : (most : ℕ) (past : List Filing) (stamps : List Stamp) (asked : List Asked) (ended : Bool) (line : List ℕ) (rest : List (List ℕ)) (c student year : ℕ) → ended ≡ false
    → form_of line ≡ Some (standing_form student year) → IsBad most past stamps asked ended (line ∷ rest) c → c ≡ 5
wrong_only most past stamps asked ended line rest c student year early form (stray _ _ s) = absurd (standing_is_kept asked ended line student year early form s)
wrong_only most past stamps asked ended line rest c student year early form (full _ _ h m) = absurd (filing_or_standing _ _ _ h.form form)
wrong_only most past stamps asked ended line rest c student year early form (unspelled _ _ h m none) = absurd (filing_or_standing _ _ _ h.form form)
wrong_only most past stamps asked ended line rest c student year early form (used z f _ h m is_z are key) = absurd (filing_or_standing _ _ _ h.form form)
wrong_only most past stamps asked ended line rest c student year early form (broken z f r _ h m is_z are key breaks_it) = absurd (filing_or_standing _ _ _ h.form form)
wrong_only most past stamps asked ended line rest c student year early form (wrong student' year' _ _ early' form' w) = refl
wrong_only most past stamps asked ended line rest c student year early form (counts _ _ early' form' w) = absurd (standing_or_end _ _ _ form form')

counts_only : (most : ℕ) (past : List Filing) (stamps : List Stamp) (asked : List Asked) (ended : Bool) (line : List ℕ) (rest : List (List ℕ)) (c : ℕ) → ended ≡ false
    → form_of line ≡ Some end_form → IsBad most past stamps asked ended (line ∷ rest) c → c ≡ 6
counts_only most past stamps asked ended line rest c early form (stray _ _ s) = absurd (end_is_kept asked ended line early form s)
counts_only most past stamps asked ended line rest c early form (full _ _ h m) = absurd (filing_or_end _ h.form form)
counts_only most past stamps asked ended line rest c early form (unspelled _ _ h m none) = absurd (filing_or_end _ h.form form)
counts_only most past stamps asked ended line rest c early form (used z f _ h m is_z are key) = absurd (filing_or_end _ h.form form)
counts_only most past stamps asked ended line rest c early form (broken z f r _ h m is_z are key breaks_it) = absurd (filing_or_end _ h.form form)
counts_only most past stamps asked ended line rest c early form (wrong student year _ _ early' form' w) = absurd (standing_or_end _ _ _ form' form)
counts_only most past stamps asked ended line rest c early form (counts _ _ early' form' w) = refl

missing_only : (most : ℕ) (past : List Filing) (stamps : List Stamp) (asked : List Asked) (ended : Bool) (c : ℕ) → IsBad most past stamps asked ended [] c → c ≡ 7
missing_only most past stamps asked ended c (missing early) = refl

-- behind good lines one cause applies
pub one_cause : (most : ℕ) (past : List Filing) (stamps : List Stamp) (asked : List Asked) (ended : Bool) (lines : List (List ℕ)) (c d : ℕ) → IsBad most past stamps asked ended lines c → IsBad most past stamps asked ended lines d → d ≡ c
one_cause most past stamps asked ended lines c d (stray line rest s) bad = stray_only most past stamps asked ended line rest d s bad
one_cause most past stamps asked ended lines c d (full line rest here n) bad = full_only most past stamps asked ended line rest d here n bad
one_cause most past stamps asked ended lines c d (unspelled line rest here n none) bad = unspelled_only most past stamps asked ended line rest d here n none bad
one_cause most past stamps asked ended lines c d (used z f rest here n is_z are key) bad = used_only most past stamps asked ended (filing_line z f) rest d z f here n is_z are refl key bad
one_cause most past stamps asked ended lines c d (broken z f r rest here n is_z are key breaks_it) bad = broken_only most past stamps asked ended (filing_line z f) rest d z f here n is_z are refl key bad
one_cause most past stamps asked ended lines c d (wrong student year line rest early form w) bad = wrong_only most past stamps asked ended line rest d student year early form bad
one_cause most past stamps asked ended lines c d (counts line rest early form w) bad = counts_only most past stamps asked ended line rest d early form bad
one_cause most past stamps asked ended lines c d (missing early) bad = missing_only most past stamps asked ended d bad

-- ---- a good line is good in one way
pub one_way : (most : ℕ) (told : Told) (line : List ℕ) (a b : Told) → Goes most told line a → Goes most told line b → a ≡ b
one_way most told line a b (filed z f early none few is_z are key sound e) (filed w g early' none' few' is_w are' key' sound' e') =
    let same = same_filing_line z w f g is_z is_w are are' (sym e ∙ e') in
    λ i. record { past = same.filing i ∷ told.past; stamps = same.stamp i ∷ told.stamps; asked = []; ended = false }
one_way most told line a b (filed z f early none few is_z are key sound e) (stood asked early' form operations rises e') =
    absurd (filing_or_standing _ _ _ (ap form_of e ∙ form_of-filing_line z f is_z) form)
one_way most told line a b (filed z f early none few is_z are key sound e) (closed early' form e') = absurd (filing_or_end _ (ap form_of e ∙ form_of-filing_line z f is_z) form)
one_way most told line a b (stood asked early form operations rises e) (filed w g early' none few is_w are key sound e') =
    absurd (filing_or_standing _ _ _ (ap form_of e' ∙ form_of-filing_line w g is_w) form)
one_way most told line a b (stood asked early form operations rises e) (stood asked' early' form' asks' rises' e') =
    let same = one_student _ _ _ _ _ form form' in
    λ i. record { past = told.past; stamps = told.stamps; asked = told.asked ++ (same.0 i, same.1 i) ∷ []; ended = false }
one_way most told line a b (stood asked early form operations rises e) (closed early' form' e') = absurd (standing_or_end _ _ _ form form')
one_way most told line a b (closed early form e) (filed w g early' none few is_w are key sound e') = absurd (filing_or_end _ (ap form_of e' ∙ form_of-filing_line w g is_w) form)
one_way most told line a b (closed early form e) (stood asked early' form' operations rises e') = absurd (standing_or_end _ _ _ form' form)
one_way most told line a b (closed early form e) (closed early' form' e') = refl

-- ---- and is not bad
filed_is_good : (most : ℕ) (past : List Filing) (stamps : List Stamp) (asked : List Asked) (ended : Bool) (line : List ℕ) (rest : List (List ℕ)) (c : ℕ) (z : Stamp) (f : Filing) → IsInPlace asked ended line → length past < most
    → IsStamp z → IsFiling f → key_at f.key past ≡ 0 → breaks past f ≡ None → line ≡ filing_line z f → IsBad most past stamps asked ended (line ∷ rest) c → ⊥
filed_is_good most past stamps asked ended line rest c z f here n is_z are key sound e (stray _ _ s) = placed_is_kept asked ended line here s
filed_is_good most past stamps asked ended line rest c z f here n is_z are key sound e (full _ _ h m) = absurd (omega arith)
filed_is_good most past stamps asked ended line rest c z f here n is_z are key sound e (unspelled _ _ h m none) = none z f is_z are e
filed_is_good most past stamps asked ended line rest c z f here n is_z are key sound e (used w g _ h m is_w are_g key_g) =
    key_g (ap (λ (x : Filing). key_at x.key past) (same_filing_line w z g f is_w is_z are_g are e).filing ∙ key)
filed_is_good most past stamps asked ended line rest c z f here n is_z are key sound e (broken w g r _ h m is_w are_g key_g breaks_it) =
    let told = sym breaks_it ∙ ap (breaks past) (same_filing_line w z g f is_w is_z are_g are e).filing ∙ sound in cc told
filed_is_good most past stamps asked ended line rest c z f here n is_z are key sound e (wrong student year _ _ early form w) = filing_or_standing _ _ _ here.form form
filed_is_good most past stamps asked ended line rest c z f here n is_z are key sound e (counts _ _ early form w) = filing_or_end _ here.form form

right_or_wrong : (past : List Filing) (asked : List Asked) (line : List ℕ) (s t : Asked) → s ≡ t → line ≡ right_line past s → Rises asked s.0 → (line ≢ right_line past t) ⊎ (Rises asked t.0 → ⊥) → ⊥
right_or_wrong past asked line s t e right rises (inl not) = not (right ∙ ap (right_line past) e)
right_or_wrong past asked line s t e right rises (inr not) = not (subst (λ (x : Asked). Rises asked x.0) e rises)

stood_is_good : (most : ℕ) (past : List Filing) (stamps : List Stamp) (asked : List Asked) (ended : Bool) (line : List ℕ) (rest : List (List ℕ)) (c : ℕ) (s : Asked) → ended ≡ false
    → form_of line ≡ Some (standing_form s.0 s.1) → Rises asked s.0 → line ≡ right_line past s → IsBad most past stamps asked ended (line ∷ rest) c → ⊥
stood_is_good most past stamps asked ended line rest c s early form rises e (stray _ _ t) = standing_is_kept asked ended line s.0 s.1 early form t
stood_is_good most past stamps asked ended line rest c s early form rises e (full _ _ h m) = filing_or_standing _ _ _ h.form form
stood_is_good most past stamps asked ended line rest c s early form rises e (unspelled _ _ h m none) = filing_or_standing _ _ _ h.form form
stood_is_good most past stamps asked ended line rest c s early form rises e (used z f _ h m is_z are key) = filing_or_standing _ _ _ h.form form
stood_is_good most past stamps asked ended line rest c s early form rises e (broken z f r _ h m is_z are key breaks_it) = filing_or_standing _ _ _ h.form form
stood_is_good most past stamps asked ended line rest c s early form rises e (wrong student year _ _ early' form' w) =
    let same = one_student _ _ _ _ _ form form' in
    let pair : s ≡ (student, year) = λ i. (same.0 i, same.1 i) in
    right_or_wrong past asked line s (student, year) pair e rises w
stood_is_good most past stamps asked ended line rest c s early form rises e (counts _ _ early' form' w) = standing_or_end _ _ _ form form'

closed_is_good : (most : ℕ) (past : List Filing) (stamps : List Stamp) (asked : List Asked) (ended : Bool) (line : List ℕ) (rest : List (List ℕ)) (c : ℕ) → ended ≡ false
    → form_of line ≡ Some end_form → line ≡ end_line (length past) (length asked) (office_seal past stamps) → IsBad most past stamps asked ended (line ∷ rest) c → ⊥
closed_is_good most past stamps asked ended line rest c early form e (stray _ _ t) = end_is_kept asked ended line early form t
closed_is_good most past stamps asked ended line rest c early form e (full _ _ h m) = filing_or_end _ h.form form
closed_is_good most past stamps asked ended line rest c early form e (unspelled _ _ h m none) = filing_or_end _ h.form form
closed_is_good most past stamps asked ended line rest c early form e (used z f _ h m is_z are key) = filing_or_end _ h.form form
closed_is_good most past stamps asked ended line rest c early form e (broken z f r _ h m is_z are key breaks_it) = filing_or_end _ h.form form
closed_is_good most past stamps asked ended line rest c early form e (wrong student year _ _ early' form' w) = standing_or_end _ _ _ form' form
closed_is_good most past stamps asked ended line rest c early form e (counts _ _ early' form' not) = not e

pub good_or_bad : (most : ℕ) (told : Told) (line : List ℕ) (after : Told) (rest : List (List ℕ)) (c : ℕ) → Goes most told line after → IsBad most told.past told.stamps told.asked told.ended (line ∷ rest) c → ⊥
good_or_bad most told line after rest c (filed z f early none few is_z are key sound e) bad =
    let here : IsInPlace told.asked told.ended line = record { form = ap form_of e ∙ form_of-filing_line z f is_z; before_end = early; before_standings = none } in
    filed_is_good most told.past told.stamps told.asked told.ended line rest c z f here few is_z are key sound e bad
good_or_bad most told line after rest c (stood asked early form operations rises e) bad = stood_is_good most told.past told.stamps told.asked told.ended line rest c asked early form rises e bad
good_or_bad most told line after rest c (closed early form e) bad = closed_is_good most told.past told.stamps told.asked told.ended line rest c early form e bad
