-- What is kept with a filing more.
use Rattle.std.proofs.Common.{◌≡◌, ℕ, ◌+◌, refl, sym, ap, subst, ◌∙◌, cond, Bool, true, false, ◌&&◌, ◌==◌, List, [], ◌∷◌, ◌++◌, length, reverse, Option, Some, None}
use Rattle.std.specs.Cmp.{both_tied, unsigned_tied}
use Rattle.std.specs.Ordering.{is_eq}
use Rattle.std.proofs.lemmas.Cmp.{nat_eq_equiv}
use Rattle.std.proofs.lemmas.List.{reverse-append}
use Rattle.sorted_rows.specs.Places.{IsWritten}
use Rattle.aid_types.specs.declared.number.Key.{Key}
use Rattle.aid_types.proofs.Same.{tells_key}
use Rattle.log_rules.specs.Kept.{AreKeys, IsKept, place_of}
use Rattle.log_rules.specs.Names.{filing_cmp, filing_name}
use Rattle.log_rules.specs.Ruled.{Standing, answer_of, earlier, entries_of, here_if, history_of, same_key, standing_after, standing_of}
use Rattle.log_rules.specs.RuledLaws.{admitted_parts}
use Rattle.log_rules.specs.Ruling.{Ruling}
use Rattle.log_rules.specs.declared.number.FilingNumber.{FilingNumber}
use Rattle.log_rules.specs.declared.rules.Filed.{Filed}
use Rattle.log_rules.specs.declared.response.RuleResponse.TheVariants.{Admit}

-- the order of filings' names tells where two keys are the same
key-same : (a b : Key) → is_eq (filing_cmp (filing_name a) (filing_name b)) ≡ same_key b a
key-same a b =
    sym (both_tied _ _ _ _ (sym (unsigned_tied a.number b.number)) (sym (unsigned_tied a.school b.school)))
    ∙ (λ i. nat_eq_equiv.symm a.number b.number i && nat_eq_equiv.symm a.school b.school i)
    ∙ turned (b.number == a.number) (b.school == a.school)
  where
    turned : (m n : Bool) → (m && n) ≡ (n && m)
    turned true true = refl
    turned true false = refl
    turned false true = refl
    turned false false = refl

-- the position that is told once a filing more stands
place-earlier : {Entry Outcome : Type 0} (b : Bool) (before : Option (Standing Entry Outcome)) (here : Standing Entry Outcome) → (b ≡ true → before ≡ None)
    → cond b (Some here.position) (place_of before) ≡ place_of (earlier before (here_if b here))
place-earlier {Entry} {Outcome} true before here none = sym (ap (λ (o : Option (Standing Entry Outcome)). place_of (earlier o (Some here))) (none refl))
place-earlier false None here none = refl
place-earlier false (Some s) here none = refl

module _ {Entry Outcome : Type 0} (ruling : Ruling Entry Outcome) where
  -- a new key's position is written under its name
  keys_after : (past : List Entry) (f : Entry) (position : ℕ) (old new : List (FilingNumber × ℕ)) → position ≡ length past + 1 → standing_of ruling (ruling.key_of f) past ≡ None
      → IsWritten filing_cmp (filing_name (ruling.key_of f)) position old new → AreKeys ruling past old → AreKeys ruling (f ∷ past) new
  keys_after past f position old new here none written told key =
      written (filing_name key)
      ∙ (λ i. cond (key-same (ruling.key_of f) key i) (Some (here i)) (told key i))
      ∙ place-earlier (same_key key (ruling.key_of f)) (standing_of ruling key past) (standing_after ruling past f)
      (λ e. ap (λ (k : Key). standing_of ruling k past) (tells_key.same key (ruling.key_of f) e) ∙ none)

  pub kept_grown : (filed : List (Filed Entry Outcome)) (f : Entry) (o : Outcome) (position : ℕ) (old new : List (FilingNumber × ℕ)) (was is : List Entry)
      → IsKept ruling filed old was → answer_of ruling (entries_of filed) f ≡ Admit o → position ≡ length (entries_of filed) + 1
      → IsWritten filing_cmp (filing_name (ruling.key_of f)) position old new → is ≡ f ∷ was
      → IsKept ruling (record { entry = f; outcome = o } ∷ filed) new is
  kept_grown filed f o position old new was is kept admitted here written grown =
      let parts = admitted_parts ruling (entries_of filed) f o admitted in
      record {
        legal = (kept.legal, parts.0, parts.1);
        outcomes = (kept.outcomes, parts.2);
        keys = keys_after (entries_of filed) f position old new here parts.0 written kept.keys;
        index = grown ∙ ap (λ (l : List Entry). f ∷ l) kept.index;
      }

  -- the same of filings that are read oldest first
  pub kept_pushed : (h pushed : List (Filed Entry Outcome)) (f : Entry) (o : Outcome) (position : ℕ) (old new : List (FilingNumber × ℕ)) (was is : List Entry)
      → pushed ≡ h ++ record { entry = f; outcome = o } ∷ []
      → IsKept ruling (reverse h) old was → answer_of ruling (history_of h) f ≡ Admit o → position ≡ length (history_of h) + 1
      → IsWritten filing_cmp (filing_name (ruling.key_of f)) position old new → is ≡ f ∷ was
      → IsKept ruling (reverse pushed) new is
  kept_pushed h pushed f o position old new was is push kept admitted here written grown =
      let turned : reverse pushed ≡ record { entry = f; outcome = o } ∷ reverse h = ap (λ (l : List (Filed Entry Outcome)). reverse l) push ∙ reverse-append h (record { entry = f; outcome = o } ∷ []) in
      subst (λ (l : List (Filed Entry Outcome)). IsKept ruling l new is) (sym turned) (kept_grown (reverse h) f o position old new was is kept admitted here written grown)
