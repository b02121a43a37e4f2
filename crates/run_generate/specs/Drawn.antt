-- The draws of a generated year. Own: a sequence of numbers below 2 ^ 64, each from the one before it.
use Rattle.std.specs.Prelude.{ℕ, ◌+◌, ◌*◌, ◌/◌, ◌%◌, ◌^◌}
use Rattle.run_generate.specs.declared.draws.Draws.{Draws}

-- the next number of the sequence
unfoldable pub next_number : ℕ → ℕ
next_number x = (x * 6364136223846793005 + 1442695040888963407) % 2 ^ 64

-- what a number gives: its upper half
abbrev pub drawn : ℕ → ℕ
drawn x = x / 2 ^ 32

-- the number behind which the next student is drawn
abbrev pub later : ℕ → ℕ
later x = next_number (next_number (next_number (next_number x)))

-- the four draws of a student behind a number, the first giving the school
abbrev pub draws_behind : ℕ → Draws
draws_behind x = record {
  school = drawn (next_number x);
  income = drawn (next_number (next_number x));
  credits = drawn (next_number (next_number (next_number x)));
  leave = drawn (later x);
}
