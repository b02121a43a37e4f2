-- What a filing moves in the student's term that it is about.
use Rattle.std.specs.Prelude.{◌≡◌, ◌==◌, ◌&&◌, Bool, List, Option, Some, None}
use Rattle.aid_types.specs.declared.number.Key.{Key}
use Rattle.aid_filings.specs.declared.filing.Filing.{Filing}
use Rattle.aid_filings.specs.declared.filing.What.{What}
use Rattle.aid_filings.specs.declared.filing.What.TheVariants.{Adjust, Pay, Repay, Sent, Withdraw}
use Rattle.law_r2t4.specs.declared.Lines.{Lines}
use Rattle.office_history.specs.Accounts.{IsAccount, IsEntry, nothing}
use Rattle.office_history.specs.declared.account.Account.{Account}
use Rattle.office_history.specs.declared.place.Place.{Place}

-- the term in which a filing moves money, or says that it was sent back
abbrev pub own_place : Key → What → Option Place
own_place key (Pay a) = Some (record { school = key.school; student = a.student; year = a.year; term = a.term })
own_place key (Repay a) = Some (record { school = key.school; student = a.student; year = a.year; term = a.term })
own_place key (Adjust a) = Some (record { school = key.school; student = a.student; year = a.year; term = a.term })
own_place key (Withdraw w) = Some (record { school = key.school; student = w.student; year = w.year; term = w.term })
own_place key (Sent s) = Some (record { school = key.school; student = s.student; year = s.year; term = s.term })
own_place key what = None

abbrev pub is_place : Place → Place → Bool
is_place a b = a.school == b.school && (a.student == b.student && (a.year == b.year && a.term == b.term))

-- what it moves there, and nothing where it moves no money
abbrev pub IsEntryAt : List Filing → Key → What → Option Place → Account → Type 0
IsEntryAt past key what None moved = moved ≡ nothing
IsEntryAt past key what (Some p) moved = IsEntry past key what p.school p.student p.year p.term moved

abbrev pub IsOwnEntry : List Filing → Key → What → Account → Type 0
IsOwnEntry past key what moved = IsEntryAt past key what (own_place key what) moved

-- the account of that term
abbrev pub IsOwnAccount : List Filing → Option Place → Account → Type 0
IsOwnAccount past None a = Unit {0}
IsOwnAccount past (Some p) a = IsAccount past p.school p.student p.year p.term a

-- what a withdrawal with this worksheet moves: what is given back, what is left owed, and what is left to be disbursed
abbrev pub of_lines : Lines → Account
of_lines l = record nothing { taken = l.returned; owed = l.owed; returned = l.returned; post = l.post }
