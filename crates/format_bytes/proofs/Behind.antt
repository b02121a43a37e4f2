-- What stands behind a stamp.
use Rattle.std.proofs.Common.{◌≡◌, ◌≢◌, ℕ, ◌+◌, ◌-◌, ◌<◌, ◌^◌, List, ◌++◌, length, Result, Ok, Err, sym, ap, ◌∙◌, arith, subst, length-append}
use Rattle.aid_filings.specs.declared.filing.Filing.{Filing}
use Rattle.aid_stamps.specs.Stamps.{IsStamp, stamp_bytes}
use Rattle.aid_stamps.specs.declared.stamp.Stamp.{Stamp}
use Rattle.aid_stamps.specs.StampLaws.{stamp_alone}
use Rattle.format_bytes.specs.Spelling.{spelling}
use Rattle.format_bytes.specs.Stamped.{IsNoStamped, moved, no_filing, no_memory}
use Rattle.format_bytes.specs.Taking.{Gives, taken}
use Rattle.format_bytes.specs.declared.reading.TakeError.{TakeError}
use Rattle.format_bytes.specs.declared.reading.TakeError.TheVariants.{NotFiling, NoMemory}
use Rattle.format_bytes.proofs.Places.{taken_place}

-- the width of a stamp is what was read of the bytes
pub width : (stamp : Stamp) (bytes rest : List ℕ) → bytes ≡ stamp_bytes stamp ++ rest → length bytes - length rest ≡ length (stamp_bytes stamp)
width stamp bytes rest is = let whole = ap length is ∙ length-append (stamp_bytes stamp) rest in omega (arith, whole)

-- a fault of the filing behind the stamp
pub fault_behind : (stamp : Stamp) (bytes rest : List ℕ) (error : TakeError) → IsStamp stamp → bytes ≡ stamp_bytes stamp ++ rest → Gives (Err error) (taken rest)
    → IsNoStamped bytes (moved (length bytes - length rest) error)
fault_behind stamp bytes rest (NotFiling place) ok is fault =
    subst (λ (n : ℕ). IsNoStamped bytes (NotFiling (n + place))) (sym (width stamp bytes rest is)) (no_filing stamp rest place ok is fault)
fault_behind stamp bytes rest NoMemory ok is fault = no_memory stamp rest ok is

-- its place has room in 64 bits
pub place_fits : (stamp : Stamp) (bytes rest : List ℕ) (error : TakeError) (place : ℕ) → length bytes < 2 ^ 64 → bytes ≡ stamp_bytes stamp ++ rest → Gives (Err error) (taken rest)
    → error ≡ NotFiling place → (length bytes - length rest) + place < 2 ^ 64
place_fits stamp bytes rest error place few is fault same =
    let at = taken_place rest place (subst (λ (e : TakeError). Gives (Err e) (taken rest)) same fault) in
    let whole = ap length is ∙ length-append (stamp_bytes stamp) rest in
    omega (arith, at, whole, few)

-- what was read is the one filing behind the one stamp
pub record IsRead (one other : Stamp) (filing : Filing) (rest : List ℕ) : Type 0 where
  pub stamp : one ≡ other
  pub behind : rest ≡ spelling filing

pub read_one : (stamp other : Stamp) (filing : Filing) (bytes rest : List ℕ) → IsStamp stamp → IsStamp other → bytes ≡ stamp_bytes stamp ++ rest → bytes ≡ stamp_bytes other ++ spelling filing
    → IsRead stamp other filing rest
read_one stamp other filing bytes rest is also one two =
    let same = stamp_alone stamp other rest (spelling filing) is also (sym one ∙ two) in
    record { stamp = same.stamp; behind = same.behind }

-- answers of the reading of a filing, and of one behind a stamp
abbrev found_as : Filing → Result Filing TakeError
found_as filing = Ok filing

abbrev refused_as : TakeError → Result Filing TakeError
refused_as error = Err error

abbrev read_as : Stamp × Filing → Result (Stamp × Filing) TakeError
read_as pair = Ok pair

abbrev unread_as : TakeError → Result (Stamp × Filing) TakeError
unread_as error = Err error

-- and is taken
pub is_taken : (stamp other : Stamp) (filing found : Filing) (bytes rest : List ℕ) → IsStamp stamp → IsStamp other → bytes ≡ stamp_bytes stamp ++ rest → bytes ≡ stamp_bytes other ++ spelling filing
    → (rest ≡ spelling filing → found_as found ≡ found_as filing) → read_as (stamp, found) ≡ read_as (other, filing)
is_taken stamp other filing found bytes rest is also one two only =
    let read = read_one stamp other filing bytes rest is also one two in
    let same : found ≡ filing = cc (only read.behind) in
    let s = read.stamp in
    λ i. read_as (s i, same i)

-- where memory didn't run out, a fault shows that no filing stands there
pub none_behind : (stamp other : Stamp) (filing : Filing) (bytes rest : List ℕ) (error moved_error : TakeError) → IsStamp stamp → IsStamp other → bytes ≡ stamp_bytes stamp ++ rest → bytes ≡ stamp_bytes other ++ spelling filing
    → (rest ≡ spelling filing → refused_as error ≢ refused_as NoMemory → refused_as error ≡ found_as filing) → moved_error ≡ moved (length bytes - length rest) error
    → unread_as moved_error ≢ unread_as NoMemory → ⊥
none_behind stamp other filing bytes rest (NotFiling place) moved_error is also one two only same good =
    let read = read_one stamp other filing bytes rest is also one two in
    let bad = only read.behind (λ (e : refused_as (NotFiling place) ≡ refused_as NoMemory). cc) in cc
none_behind stamp other filing bytes rest NoMemory moved_error is also one two only same good = good (ap unread_as same)
