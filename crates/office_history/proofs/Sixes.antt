-- Lists by program.
use Rattle.std.proofs.Common.{◌≡◌, ℕ, zero, suc, ◌+◌, ◌≤◌, refl, arith, ◌^◌, zero-le}
use Rattle.std.specs.Prelude.{slice_index}
use Rattle.aid_types.specs.Programs.{plus, rank, six}
use Rattle.aid_types.specs.declared.number.Program.{Program}
use Rattle.aid_types.specs.declared.number.Program.TheVariants.{Unsub, Sub, Plus, Pell, Fseog, Teach}
use Rattle.aid_types.specs.Ranges.{EachIsCents}
use Rattle.aid_types.proofs.ProgramLemmas.{each_cents}
use Rattle.office_history.specs.Accounts.{AreSums}

-- the same at each program
pub six-ext : (g h : ℕ → ℕ) → ((p : ℕ) → g p ≡ h p) → six g ≡ six h
six-ext g h e = rw (e 0, e 1, e 2, e 3, e 4, e 5) refl

-- the amount of a program
pub six-rank : (g : ℕ → ℕ) (program : Program) → slice_index (six g) (rank program) ≡ g (rank program)
six-rank g Unsub = refl
six-rank g Sub = refl
six-rank g Plus = refl
six-rank g Pell = refl
six-rank g Fseog = refl
six-rank g Teach = refl

-- sums program by program
pub plus-six : (g h s : ℕ → ℕ) → ((p : ℕ) → s p ≡ h p + g p) → plus (six g) (six h) ≡ six s
plus-six g h s e =
    six-ext (λ p. g p + h p) s (λ p. let k = e p in omega arith)

-- what bounds each bounds the amount at any place
pub six-most : (g : ℕ → ℕ) (most : ℕ) → ((p : ℕ) → g p ≤ most) → (p : ℕ) → slice_index (six g) p ≤ most
six-most g most h zero = h 0
six-most g most h (suc zero) = h 1
six-most g most h (suc (suc zero)) = h 2
six-most g most h (suc (suc (suc zero))) = h 3
six-most g most h (suc (suc (suc (suc zero)))) = h 4
six-most g most h (suc (suc (suc (suc (suc zero))))) = h 5
six-most g most h (suc (suc (suc (suc (suc (suc p)))))) = zero-le

-- amounts that can be added
pub six-sums : (g : ℕ → ℕ) (most : ℕ) → ((p : ℕ) → g p ≤ most) → most ≤ 10 ^ 18 → AreSums (six g)
six-sums g most h b p = omega (arith, six-most g most h p)

-- amounts of one filing each
pub six-cents : (g : ℕ → ℕ) → ((p : ℕ) → g p ≤ 99999999) → EachIsCents (six g)
six-cents g h = each_cents (six g) (six-most g 99999999 h)
