-- The derived `==` of programs, amounts by program, days and breaks is equality.
use Rattle.std.proofs.Common.{◌≡◌, ℕ, pos, arith, true, refl, sym}
use Rattle.std.specs.Prelude.{◌-ℤ◌}
use Rattle.std.proofs.lemmas.Int.{ints}
use Rattle.std.proofs.lemmas.Bool.{true≢false}
use Rattle.aid_types.proofs.Same.{Tells, tells_by, tells_filled, tells_list, tells_pair, tells_ℕ, tells_ℤ}
use Rattle.aid_types.specs.declared.number.Program.{Program}
use Rattle.aid_types.specs.declared.number.Program.TheVariants.{Unsub, Sub, Plus, Pell, Fseog, Teach}
use Rattle.aid_types.specs.contracts.number.ProgramPartialEq.TheImpl.{eq-value as program_eq}
use Rattle.aid_types.specs.contracts.day.DayPartialEq.TheImpl.{eq-value as day_eq}
use Rattle.aid_types.specs.contracts.term.BreaksPartialEq.TheImpl.{eq-value as breaks_eq}
use Rattle.aid_types.specs.contracts.by_program.ByProgramPartialEq.TheImpl.{eq-value as by_program_eq}

pub tells_program : Tells program_eq.it
tells_program = record { same = same; told = told } where
  same : (x y : Program) → program_eq.it x y ≡ true → x ≡ y
  same Unsub Unsub h = refl
  same Sub Sub h = refl
  same Plus Plus h = refl
  same Pell Pell h = refl
  same Fseog Fseog h = refl
  same Teach Teach h = refl
  same _ _ h = absurd (true≢false (sym h))

  told : (x : Program) → program_eq.it x x ≡ true
  told Unsub = refl
  told Sub = refl
  told Plus = refl
  told Pell = refl
  told Fseog = refl
  told Teach = refl

pub tells_day : Tells day_eq.it
tells_day = tells_by (λ (n : ℕ). pos n -ℤ pos 25567) whole tells_ℤ where
  whole : (x y : ℕ) → pos x -ℤ pos 25567 ≡ pos y -ℤ pos 25567 → x ≡ y
  whole x y e = omega (arith, ints, e)

pub tells_breaks : Tells breaks_eq.it
tells_breaks = tells_filled 8 (25567, 25567) (tells_pair tells_day tells_day)

pub tells_by_program : Tells by_program_eq.it
tells_by_program = tells_list tells_ℕ
