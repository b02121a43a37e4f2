-- The words of a worksheet's lines. The letters are those of the Department's worksheet for credit-hour programs.
use Rattle.std.specs.Prelude.{ℕ, List, codes}
use Rattle.sheet_r2t4.specs.declared.entry.Label.{Label}
use Rattle.sheet_r2t4.specs.declared.entry.Label.TheVariants.{Disbursed, CouldHaveBeen, Both, TermDays, CompletedDays, PercentEarned, Earned, PostWithdrawal, Unearned, Charges, PercentUnearned, UnearnedCharges, SchoolReturns, LaidOnStudent, LoansLeft, GrantsAtFirst, GrantsKept, GrantsReturned, HalfOfGrants, OwedByProgram, RepaidSince, StillOwed, PaidSince, NetNow, SentSince, StillToSend}

-- the letter of a line, and a space
abbrev pub letter_text : Label → List ℕ
letter_text Disbursed = codes "E "
letter_text Both = codes "G "
letter_text PercentEarned = codes "H "
letter_text Earned = codes "I "
letter_text PostWithdrawal = codes "J "
letter_text Unearned = codes "K "
letter_text Charges = codes "L "
letter_text PercentUnearned = codes "M "
letter_text UnearnedCharges = codes "N "
letter_text SchoolReturns = codes "O "
letter_text LaidOnStudent = codes "Q "
letter_text LoansLeft = codes "R "
letter_text GrantsAtFirst = codes "S "
letter_text GrantsKept = codes "T "
letter_text GrantsReturned = codes "U "
letter_text _ = codes "  "

-- its words. Own format
abbrev pub words_text : Label → List ℕ
words_text Disbursed = codes "disbursed, net"
words_text CouldHaveBeen = codes "could have been disbursed"
words_text Both = codes "both"
words_text TermDays = codes "days of the term"
words_text CompletedDays = codes "days completed"
words_text PercentEarned = codes "percent earned"
words_text Earned = codes "earned"
words_text PostWithdrawal = codes "post-withdrawal amount"
words_text Unearned = codes "unearned"
words_text Charges = codes "institutional charges"
words_text PercentUnearned = codes "percent unearned"
words_text UnearnedCharges = codes "unearned part of the charges"
words_text SchoolReturns = codes "the school returns"
words_text LaidOnStudent = codes "laid on the student"
words_text LoansLeft = codes "loans the student repays"
words_text GrantsAtFirst = codes "grants to return, at first"
words_text GrantsKept = codes "half of both, of all grants"
words_text GrantsReturned = codes "grants the student returns"
words_text HalfOfGrants = codes "half of both, of grants"
words_text OwedByProgram = codes "owed, program by program"
words_text RepaidSince = codes "repaid since"
words_text StillOwed = codes "still owed"
words_text PaidSince = codes "paid since"
words_text NetNow = codes "net now"
words_text SentSince = codes "sent back since"
words_text StillToSend = codes "still to send back"
