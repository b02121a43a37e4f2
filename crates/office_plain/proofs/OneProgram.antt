-- What an amount of one program moves in a term.
use Rattle.std.proofs.Common.{◌≡◌, ℕ, ◌+◌, sym, ap, subst, ◌∙◌, arith, Bool, List, [], ◌∷◌, Some}
use Rattle.std.specs.Prelude.{◌==◌, if◌then◌else◌}
use Rattle.aid_types.specs.Programs.{rank, six}
use Rattle.aid_types.specs.declared.number.Key.{Key}
use Rattle.aid_types.specs.declared.number.Program.{Program}
use Rattle.aid_filings.specs.declared.filing.Amount.{Amount}
use Rattle.aid_filings.specs.declared.filing.Filing.{Filing}
use Rattle.aid_filings.specs.declared.filing.What.TheVariants.{Pay, Repay, Adjust}
use Rattle.office_history.specs.Net.{Cell, Move, is_cell, moved, payments_in, takings_in}
use Rattle.office_history.specs.Own.{own_place}
use Rattle.office_history.specs.declared.place.Place.{Place}
use Rattle.office_history.proofs.Own.{at, own-cell}
use Rattle.office_history.proofs.Sixes.{six-ext}

-- the amounts of one program
abbrev pub one_of : Program → ℕ → ℕ → ℕ
one_of program cents p = if rank program == p then cents else 0

-- one move at a cell of the term
abbrev move_of : Place → Program → ℕ → List Move
move_of o program cents = record { at = at o (rank program); cents = cents } ∷ []

one-there : (o : Place) (program : Program) (cents : ℕ) → six (one_of program cents) ≡ six (λ p. moved (is_cell (at o p)) (move_of o program cents))
one-there o program cents = six-ext (one_of program cents) (λ p. moved (is_cell (at o p)) (move_of o program cents)) (λ p.
    let same : is_cell (at o p) (at o (rank program)) ≡ (rank program == p) = own-cell o p (rank program) in
    let none : one_of program cents p ≡ one_of program cents p + 0 = omega arith in
    none ∙ ap (λ (b : Bool). (if b then cents else 0) + 0) (sym same))

same_place : (x y : Place) → Some x ≡ Some y → x ≡ y
same_place x y e = cc

there : (key : Key) (a : Amount) (o : Place) → Some (record { school = key.school; student = a.student; year = a.year; term = a.term }) ≡ Some o
    → six (one_of a.program a.cents) ≡ six (λ p. moved (is_cell (at o p)) (move_of (record { school = key.school; student = a.student; year = a.year; term = a.term }) a.program a.cents))
there key a o e =
    subst (λ (q : Place). six (one_of a.program a.cents) ≡ six (λ p. moved (is_cell (at q p)) (move_of (record { school = key.school; student = a.student; year = a.year; term = a.term }) a.program a.cents)))
    (same_place (record { school = key.school; student = a.student; year = a.year; term = a.term }) o e)
    (one-there (record { school = key.school; student = a.student; year = a.year; term = a.term }) a.program a.cents)

pub paid-there : (key : Key) (a : Amount) (o : Place) → own_place key (Pay a) ≡ Some o → six (one_of a.program a.cents) ≡ six (λ p. moved (is_cell (at o p)) (payments_in key (Pay a)))
paid-there key a o e = there key a o e

pub repaid-there : (past : List Filing) (net : Cell → ℕ) (key : Key) (a : Amount) (o : Place) → own_place key (Repay a) ≡ Some o
    → six (one_of a.program a.cents) ≡ six (λ p. moved (is_cell (at o p)) (takings_in past net key (Repay a)))
repaid-there past net key a o e = there key a o e

pub adjusted-there : (past : List Filing) (net : Cell → ℕ) (key : Key) (a : Amount) (o : Place) → own_place key (Adjust a) ≡ Some o
    → six (one_of a.program a.cents) ≡ six (λ p. moved (is_cell (at o p)) (takings_in past net key (Adjust a)))
adjusted-there past net key a o e = there key a o e
