-- How a filing is taken behind legal ones.
use Rattle.std.specs.Prelude.{◌≡◌, ◌≢◌, ℕ, List, ◌∷◌, Option, Some, None}
use Rattle.aid_filings.specs.declared.filing.Filing.{Filing}
use Rattle.aid_types.specs.declared.award.Refusal.{Refusal}
use Rattle.office_history.specs.Answer.{breaks}
use Rattle.office_history.specs.Past.{key_at}

-- it is legal and stands behind the others, or this is the cause why it is bad: 3 a key that was used before, 4 a rule that is broken
pub data IsTaken (past : List Filing) (f : Filing) (after : List Filing) : Option ℕ → Type 0 where
  taken : key_at f.key past ≡ 0 → breaks past f ≡ None → after ≡ f ∷ past → IsTaken past f after None
  used : key_at f.key past ≢ 0 → IsTaken past f after (Some 3)
  broken : (refusal : Refusal) → key_at f.key past ≡ 0 → breaks past f ≡ Some refusal → IsTaken past f after (Some 4)
