-- A journal whose first byte isn't 1 yet.
use Rattle.std.specs.Prelude.{◌≡◌, ◌≢◌, ℕ, List, ◌∷◌, ◌++◌, drop, map}
use Rattle.std.specs.List.{AllByRecursion}
use Rattle.log_journal.specs.Stands.{Payloads, ArePayloads, front_of, gate_place}
use Rattle.log_journal.specs.declared.header.Header.{Header}

-- the first byte is there, and isn't 1
pub record IsShut (file : List ℕ) : Type 0 where
  pub first : ℕ
  pub rest : List ℕ
  pub whole : file ≡ first ∷ rest
  pub shut : first ≢ 1

-- but for its first byte the file begins as a journal of these payloads does
pub record IsLaid (header : Header) (payloads : Payloads) (file : List ℕ) : Type 0 where
  pub first : ℕ
  pub rest : List ℕ
  pub whole : file ≡ first ∷ (drop 1 (front_of header payloads) ++ rest)
  pub shut : first ≢ 1
  pub sizes : ArePayloads payloads

-- and a closed gate stands behind it
pub record IsReady (header : Header) (payloads : Payloads) (file : List ℕ) : Type 0 where
  pub laid : IsLaid header payloads file
  pub gate : ℕ
  pub free : List ℕ
  pub closed : gate ≢ 1
  pub behind : laid.rest ≡ gate ∷ free

-- so far entries were laid, and these are left
pub record HasLaid {Entry : Type 0} (header : Header) (spelling : Entry → List ℕ) (IsEntry : Entry → Type 0) (all left : List Entry) (place : ℕ) (file : List ℕ) : Type 0 where
  pub done : List Entry
  pub split : all ≡ done ++ left
  pub laid : IsLaid header (map spelling done) file
  pub place_is : place ≡ gate_place (map spelling done)
  pub in_range : AllByRecursion IsEntry done
