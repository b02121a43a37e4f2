-- What a student's account in a term of a school holds.
use Rattle.std.specs.Prelude.{◌≡◌, ℕ, ◌+◌, ◌^◌, ◌≤◌, List, [], ◌∷◌, Option, Some, None, slice_index}
use Rattle.aid_types.specs.Programs.{plus, six}
use Rattle.aid_types.specs.declared.number.Key.{Key}
use Rattle.aid_filings.specs.declared.filing.Filing.{Filing}
use Rattle.aid_filings.specs.declared.filing.What.{What}
use Rattle.office_history.specs.Net.{is_cell, in_term, moved, net_at, paid, taken, owed, repaid, returned, sent, post, paid_after, payments_in, takings_in, owings_in, repayments_in, returns_in, sendings_in, payments_after, posts_in, cell_at}
use Rattle.office_history.specs.declared.account.Account.{Account}

-- by program the sums of what moved at its cell, and the sums over all programs of the term
pub record IsAccount (past : List Filing) (school student year term : ℕ) (a : Account) : Type 0 where
  pub paid : a.paid ≡ six (λ p. paid past (is_cell (cell_at school student year term p)))
  pub taken : a.taken ≡ six (λ p. taken past (is_cell (cell_at school student year term p)))
  pub owed : a.owed ≡ six (λ p. owed past (is_cell (cell_at school student year term p)))
  pub repaid : a.repaid ≡ six (λ p. repaid past (is_cell (cell_at school student year term p)))
  pub returned : a.returned ≡ six (λ p. returned past (is_cell (cell_at school student year term p)))
  pub sent : a.sent ≡ six (λ p. sent past (is_cell (cell_at school student year term p)))
  pub after : a.after ≡ six (λ p. paid_after past (is_cell (cell_at school student year term p)))
  pub after_all : a.after_all ≡ paid_after past (in_term school student year term)
  pub post : a.post ≡ post past (in_term school student year term)

-- the same of one filing alone
pub record IsEntry (past : List Filing) (key : Key) (what : What) (school student year term : ℕ) (a : Account) : Type 0 where
  pub paid : a.paid ≡ six (λ p. moved (is_cell (cell_at school student year term p)) (payments_in key what))
  pub taken : a.taken ≡ six (λ p. moved (is_cell (cell_at school student year term p)) (takings_in past (net_at past) key what))
  pub owed : a.owed ≡ six (λ p. moved (is_cell (cell_at school student year term p)) (owings_in past key what))
  pub repaid : a.repaid ≡ six (λ p. moved (is_cell (cell_at school student year term p)) (repayments_in key what))
  pub returned : a.returned ≡ six (λ p. moved (is_cell (cell_at school student year term p)) (returns_in past key what))
  pub sent : a.sent ≡ six (λ p. moved (is_cell (cell_at school student year term p)) (sendings_in key what))
  pub after : a.after ≡ six (λ p. moved (is_cell (cell_at school student year term p)) (payments_after past key what))
  pub after_all : a.after_all ≡ moved (in_term school student year term) (payments_after past key what)
  pub post : a.post ≡ moved (in_term school student year term) (posts_in past key what)

-- an account that holds nothing
abbrev pub nothing : Account
nothing = record {
  paid = 0 ∷ 0 ∷ 0 ∷ 0 ∷ 0 ∷ 0 ∷ [];
  taken = 0 ∷ 0 ∷ 0 ∷ 0 ∷ 0 ∷ 0 ∷ [];
  owed = 0 ∷ 0 ∷ 0 ∷ 0 ∷ 0 ∷ 0 ∷ [];
  repaid = 0 ∷ 0 ∷ 0 ∷ 0 ∷ 0 ∷ 0 ∷ [];
  returned = 0 ∷ 0 ∷ 0 ∷ 0 ∷ 0 ∷ 0 ∷ [];
  sent = 0 ∷ 0 ∷ 0 ∷ 0 ∷ 0 ∷ 0 ∷ [];
  after = 0 ∷ 0 ∷ 0 ∷ 0 ∷ 0 ∷ 0 ∷ [];
  after_all = 0;
  post = 0;
}

-- what a filing moves, where it moves nothing too
abbrev pub or_nothing : Option Account → Account
or_nothing None = nothing
or_nothing (Some a) = a

-- two accounts in one
abbrev pub joined : Account → Account → Account
joined a b = record {
  paid = plus a.paid b.paid;
  taken = plus a.taken b.taken;
  owed = plus a.owed b.owed;
  repaid = plus a.repaid b.repaid;
  returned = plus a.returned b.returned;
  sent = plus a.sent b.sent;
  after = plus a.after b.after;
  after_all = a.after_all + b.after_all;
  post = a.post + b.post;
}

-- amounts that can be added
abbrev pub AreSums : List ℕ → Type 0
AreSums ns = (p : ℕ) → slice_index ns p ≤ 10 ^ 18

pub record HasSums (a : Account) : Type 0 where
  pub paid : AreSums a.paid
  pub taken : AreSums a.taken
  pub owed : AreSums a.owed
  pub repaid : AreSums a.repaid
  pub returned : AreSums a.returned
  pub sent : AreSums a.sent
  pub after : AreSums a.after
  pub after_all : a.after_all ≤ 10 ^ 18
  pub post : a.post ≤ 10 ^ 18
