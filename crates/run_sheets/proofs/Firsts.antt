-- The list as it stood when so many filings were on it.
use Rattle.std.proofs.Common.{◌≡◌, ℕ, zero, suc, ◌-◌, ◌≤◌, Bool, true, false, List, [], ◌∷◌, ◌++◌, Option, Some, length, reverse, take, drop, codes, take-append-drop, refl, sym, ap, ◌∙◌, arith}
use Rattle.std.specs.Prelude.{nat_le, if◌then◌else◌}
use Rattle.std.proofs.lemmas.List.{length-drop, length-reverse, length-take-le, reverse-append, reverse-reverse}
use Rattle.std.proofs.Math.Seq.{drop-append_seam}
use Rattle.aid_filings.specs.declared.filing.Filing.{Filing}
use Rattle.log_stamps.specs.Entries.{entries, stamps_of}
use Rattle.log_stamps.specs.StampedLaws.{length-entries}
use Rattle.log_stamps.specs.declared.entry.StampedEntry.{StampedEntry}
use Rattle.aid_stamps.specs.declared.stamp.Stamp.{Stamp}
use Rattle.run_sheets.specs.Texts.{first_of, sheet_of, sheet_on, sheet_upto}
use Rattle.run_sheets.specs.declared.request.Position.{Position}
use Rattle.run_sheets.specs.declared.request.SheetRequest.{SheetRequest}

-- the first items of a list that is read oldest first are the last of it read newest first
pub reverse-take : {A : Type 0} (n : ℕ) (xs : List A) → n ≤ length xs → reverse (take n xs) ≡ drop (length xs - n) (reverse xs)
reverse-take {A} n xs few =
    let newer = reverse (drop n xs) in
    let older = reverse (take n xs) in
    let split : newer ++ older ≡ reverse xs = sym (reverse-append (take n xs) (drop n xs)) ∙ ap (λ (l : List A). reverse l) (take-append-drop n xs) in
    let size : length newer ≡ length xs - n = omega (arith, length-reverse (drop n xs), length-drop n xs) in
    sym (drop-append_seam newer older) ∙ ap (λ (k : ℕ). drop k (newer ++ older)) size ∙ ap (λ (l : List A). drop (length xs - n) l) split

pub length-stamps : {E : Type 0} (past : List (StampedEntry E)) → length (stamps_of past) ≡ length past
length-stamps [] = refl
length-stamps (e ∷ past) = ap (λ (n : ℕ). suc n) (length-stamps past)

entries-drop : {E : Type 0} (n : ℕ) (past : List (StampedEntry E)) → entries (drop n past) ≡ drop n (entries past)
entries-drop zero past = refl
entries-drop (suc n) [] = refl
entries-drop (suc n) (e ∷ past) = entries-drop n past

stamps-drop : {E : Type 0} (n : ℕ) (past : List (StampedEntry E)) → stamps_of (drop n past) ≡ drop n (stamps_of past)
stamps-drop zero past = refl
stamps-drop (suc n) [] = refl
stamps-drop (suc n) (e ∷ past) = stamps-drop n past

-- a sheet on the first filings and their stamps is one on the list as it stood then
first_sheet : (request : SheetRequest) (n : ℕ) (past : List (StampedEntry Filing))
    → sheet_on request (drop (length (entries past) - n) (entries past)) (drop (length (entries past) - n) (stamps_of past)) ≡ sheet_of request (first_of n past)
first_sheet request n past =
    let size = length-entries past in
    ap (λ (k : ℕ). sheet_on request (drop k (entries past)) (drop k (stamps_of past))) (ap (λ (m : ℕ). m - n) size)
    ∙ (λ i. sheet_on request (sym (entries-drop (length past - n) past) i) (sym (stamps-drop (length past - n) past) i))

-- an office has the filings of a list, and beside it stand their stamps, the oldest first
module _ (h : List Filing) (stamps : List Stamp) (past : List (StampedEntry Filing)) (filed : h ≡ entries past) (stamped : stamps ≡ reverse (stamps_of past)) where
  -- there are as many of the ones as of the others
  pub as_many : length stamps ≡ length h
  as_many = ap length stamped ∙ (length-reverse (stamps_of past) ∙ (length-stamps past ∙ (sym (length-entries past) ∙ sym (ap length filed))))

  newest_first : reverse stamps ≡ stamps_of past
  newest_first = ap (λ (l : List Stamp). reverse l) stamped ∙ reverse-reverse (stamps_of past)

  -- a sheet on both is one on the list
  pub whole_text : (request : SheetRequest) → sheet_on request h (reverse stamps) ≡ sheet_of request past
  whole_text request = λ i. sheet_on request (filed i) (newest_first i)

  -- and so is one on the first of both
  pub first_text : (request : SheetRequest) (n : ℕ) → sheet_on request (drop (length h - n) h) (drop (length h - n) (reverse stamps)) ≡ sheet_of request (first_of n past)
  first_text request n = (λ i. sheet_on request (drop (length (filed i) - n) (filed i)) (drop (length (filed i) - n) (newest_first i))) ∙ first_sheet request n past

  -- whether there are so many
  pub same_test : (n : ℕ) → nat_le n (length h) ≡ nat_le n (length past)
  same_test n = ap (λ (k : ℕ). nat_le n k) (ap length filed ∙ length-entries past)

-- the text up to a position
pub upto_first : (upto : Option Position) (p : Position) (request : SheetRequest) (past : List (StampedEntry Filing)) → upto ≡ Some p → nat_le p.number (length past) ≡ true
    → sheet_of request (first_of p.number past) ≡ sheet_upto upto request past
upto_first upto p request past is few =
    sym (ap (λ (o : Option Position). sheet_upto o request past) is ∙ ap (λ (b : Bool). if b then sheet_of request (first_of p.number past) else codes "none\n") few)

pub upto_none : (upto : Option Position) (p : Position) (request : SheetRequest) (past : List (StampedEntry Filing)) → upto ≡ Some p → nat_le p.number (length past) ≡ false
    → codes "none\n" ≡ sheet_upto upto request past
upto_none upto p request past is more =
    sym (ap (λ (o : Option Position). sheet_upto o request past) is ∙ ap (λ (b : Bool). if b then sheet_of request (first_of p.number past) else codes "none\n") more)

-- the sheet on the office and the stamps that stand in front
pub front_text : (request : SheetRequest) (n : ℕ) (h made : List Filing) (stamps front : List Stamp) → length stamps ≡ length h → n ≤ length h → made ≡ drop (length h - n) h → front ≡ take n stamps
    → sheet_on request made (reverse front) ≡ sheet_on request (drop (length h - n) h) (drop (length h - n) (reverse stamps))
front_text request n h made stamps front same few is are =
    let fits : n ≤ length stamps = omega (arith, same, few) in
    let newest : reverse front ≡ drop (length h - n) (reverse stamps) = ap (λ (l : List Stamp). reverse l) are ∙ (reverse-take n stamps fits ∙ ap (λ (k : ℕ). drop (k - n) (reverse stamps)) same) in
    λ i. sheet_on request (is i) (newest i)

-- there are as many of the ones as of the others
pub as_many_first : (n : ℕ) (h made : List Filing) (stamps front : List Stamp) → length stamps ≡ length h → n ≤ length h → made ≡ drop (length h - n) h → front ≡ take n stamps → length front ≡ length made
as_many_first n h made stamps front same few is are =
    let taken : length front ≡ n = ap length are ∙ length-take-le n stamps (omega (arith, same, few)) in
    let left : length made ≡ length h - (length h - n) = ap length is ∙ length-drop (length h - n) h in
    omega (arith, few, taken, left)
