-- What 1,000,000 filings can hold, at the cells that pass.
use Rattle.std.proofs.Common.{◌≤◌, ◌<◌, ◌^◌, arith, Bool, List, length, reverse}
use Rattle.std.proofs.lemmas.List.{length-reverse}
use Rattle.aid_filings.specs.declared.filing.Filing.{Filing}
use Rattle.office_history.specs.Net.{Cell, paid, taken, owed, repaid, returned, sent, post, paid_after}
use Rattle.office_history.specs.Answer.{IsLegal}
use Rattle.office_history.proofs.Legal.{legal_is_short}
use Rattle.office_history.proofs.Ranges.{paid_is_small, taken_is_small, owed_is_small, repaid_is_small, returned_is_small, sent_is_small, after_is_paid, post_is_small}

pub paid-most : (past : List Filing) → IsLegal past → (sel : Cell → Bool) → paid past sel ≤ 100000000000000
paid-most past legal sel = omega (arith, paid_is_small past sel, legal_is_short past legal)

pub taken-most : (past : List Filing) → IsLegal past → (sel : Cell → Bool) → taken past sel ≤ 100000000000000
taken-most past legal sel = omega (arith, taken_is_small past legal sel, legal_is_short past legal)

pub owed-most : (past : List Filing) → IsLegal past → (sel : Cell → Bool) → owed past sel ≤ 200000000000000
owed-most past legal sel = omega (arith, owed_is_small past legal sel, legal_is_short past legal)

pub repaid-most : (past : List Filing) → IsLegal past → (sel : Cell → Bool) → repaid past sel ≤ 100000000000000
repaid-most past legal sel = omega (arith, repaid_is_small past sel, legal_is_short past legal)

pub returned-most : (past : List Filing) → IsLegal past → (sel : Cell → Bool) → returned past sel ≤ 100000000000000
returned-most past legal sel = omega (arith, returned_is_small past legal sel, legal_is_short past legal)

pub sent-most : (past : List Filing) → IsLegal past → (sel : Cell → Bool) → sent past sel ≤ 100000000000000
sent-most past legal sel = omega (arith, sent_is_small past sel, legal_is_short past legal)

pub after-most : (past : List Filing) → IsLegal past → (sel : Cell → Bool) → paid_after past sel ≤ 100000000000000
after-most past legal sel = omega (arith, after_is_paid past sel, paid-most past legal sel)

pub post-most : (past : List Filing) → IsLegal past → (sel : Cell → Bool) → post past sel ≤ 100000000000000
post-most past legal sel = omega (arith, post_is_small past legal sel, legal_is_short past legal)

-- a legal list is short, oldest first too
pub short : (h : List Filing) → IsLegal (reverse h) → length h < 2 ^ 32
short h legal = omega (arith, legal_is_short (reverse h) legal, length-reverse h)
