-- What a counter's answer says of entries.
use Rattle.std.specs.Prelude.{ℕ, Bool, true, false, List, [], ◌∷◌}
use Rattle.lock_tests.specs.declared.counter.Answer.{Answer}
use Rattle.lock_tests.specs.declared.counter.Answer.TheVariants as answer
use Rattle.log_lock.specs.Turning.{Says, Admitted, Undecided, Nothing}

abbrev pub said : Answer → Says
said (answer.Accepted position) = Admitted position
said (answer.Undecided position) = Undecided position
said answer.NoMemory = Nothing

-- the answer tells of want of memory
abbrev pub wants_memory : Answer → Bool
wants_memory (answer.Accepted position) = false
wants_memory (answer.Undecided position) = false
wants_memory answer.NoMemory = true

-- the entry that an answer says was admitted, with its position
abbrev pub accepted : Answer → ℕ → List (ℕ × ℕ)
accepted (answer.Accepted position) operation = (position, operation) ∷ []
accepted (answer.Undecided position) operation = []
accepted answer.NoMemory operation = []
