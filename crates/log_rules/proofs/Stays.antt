-- A filing that was admitted stands.
use Rattle.std.proofs.Common.{◌≡◌, ◌+◌, ℕ, Bool, true, ap, sym, ◌∙◌, List, [], ◌∷◌, ◌++◌, length, Option, Some}
use Rattle.std.specs.Prelude.{if◌then◌else◌}
use Rattle.aid_types.specs.declared.number.Key.{Key}
use Rattle.aid_types.proofs.Same.{tells_key}
use Rattle.log_rules.specs.Ruling.{Ruling}
use Rattle.log_rules.specs.Ruled.{Standing, answer_at, answer_of, earlier, here_if, same_key, standing_after, standing_of}
use Rattle.log_rules.specs.RuledLaws.{admitted_parts}
use Rattle.log_rules.specs.declared.response.RuleResponse.TheVariants.{Again, Refused, Admit}

module _ {Entry Outcome : Type 0} (ruling : Ruling Entry Outcome) (f : Entry) where
  -- what stands is found, whatever is newer
  stays : (newer older : List Entry) (key : Key) (s : Standing Entry Outcome) → standing_of ruling key older ≡ Some s → standing_of ruling key (newer ++ older) ≡ Some s
  stays [] older key s is = is
  stays (g ∷ newer) older key s is =
      ap (λ (o : Option (Standing Entry Outcome)). earlier o (here_if (same_key key (ruling.key_of g)) (standing_after ruling (newer ++ older) g))) (stays newer older key s is)

  pub again_is : ruling.is_same f f ≡ true → (newer past : List Entry) (o : Outcome) → answer_of ruling past f ≡ Admit o → answer_of ruling (newer ++ f ∷ past) f ≡ Again (length past + 1) o
  again_is self newer past o is =
      let parts = admitted_parts ruling past f o is in
      let own : same_key (ruling.key_of f) (ruling.key_of f) ≡ true = tells_key.told (ruling.key_of f) in
      let here : standing_of ruling (ruling.key_of f) (f ∷ past) ≡ Some (standing_after ruling past f) =
      ap (λ (s : Option (Standing Entry Outcome)). earlier s (here_if (same_key (ruling.key_of f) (ruling.key_of f)) (standing_after ruling past f))) parts.0
      ∙ ap (λ (b : Bool). here_if b (standing_after ruling past f)) own in
      ap (λ (s : Option (Standing Entry Outcome)). answer_at ruling (newer ++ f ∷ past) f s) (stays newer (f ∷ past) (ruling.key_of f) (standing_after ruling past f) here)
      ∙ again (ruling.is_same f f) self (length past + 1) (ruling.outcome past f)
      ∙ ap (λ (p : Outcome). Again (length past + 1) p) (sym parts.2)
    where
      again : (b : Bool) → b ≡ true → (position : ℕ) (first : Outcome)
          → (if b then Again position first else Refused (record { rule = 15; kept = position; bound = (ruling.key_of f).number })) ≡ Again position first
      again b is position first = ap (λ (t : Bool). if t then Again position first else Refused (record { rule = 15; kept = position; bound = (ruling.key_of f).number })) is
