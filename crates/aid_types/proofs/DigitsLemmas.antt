-- The value of digits, kept within 64 bits as they come.
use Rattle.std.proofs.Common.{◌≡◌, ℕ, ◌+◌, ◌-◌, ◌*◌, ◌<◌, ◌≤◌, min, true, List, length, take, get_or, arith}
use Rattle.std.specs.Char.{is_ascii_digit}
use Rattle.std.specs.List.{list_all}
use Rattle.std.specs.Str.Parse.{digits_value}
use Rattle.std.proofs.lemmas.Int.Digits.{digits_value_more}
use Rattle.std.proofs.lemmas.List.Sums.{AllPass-from_list_all}
use Rattle.aid_types.proofs.WholeLemmas.{digit_is, digit_range}

-- the greatest u64
abbrev pub most : ℕ
most = 18446744073709551615

pub digit_at : (digits : List ℕ) (i : ℕ) → list_all is_ascii_digit digits ≡ true → i < length digits → 48 ≤ get_or digits i 0
digit_at digits i h l = (digit_range (get_or digits i 0) (AllPass-from_list_all is_ascii_digit digits h i 0 l)).0

pub value_step : (digits : List ℕ) (i v : ℕ) → list_all is_ascii_digit digits ≡ true → i < length digits
    → v ≡ min (digits_value 10 (take i digits)) most
    → min (min (v * 10) most + (get_or digits i 0 - 48)) most ≡ min (digits_value 10 (take (i + 1) digits)) most
value_step digits i v h l e =
    let c = get_or digits i 0 in
    let more = digits_value_more 10 digits i l in
    let is = digit_is c (AllPass-from_list_all is_ascii_digit digits h i 0 l) in
    omega arith
