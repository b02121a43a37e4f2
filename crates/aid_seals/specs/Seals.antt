-- The seal of a list: a chain of SHA-256 over the bytes of its entries. A list is read newest first. Own.
use Rattle.std.specs.Prelude.{◌≡◌, ◌≢◌, ◌≤◌, ◌-◌, ℕ, List, [], ◌∷◌, ◌++◌, length, drop, codes, decimal, bytes_eq, if◌then◌else◌}
use Rattle.std.specs.Int.{to_le_bytes, w32}
use Rattle.hex.specs.Hex.{encode_lower}
use Rattle.sha2.specs.Sha256.{sha256}

-- the name of a journal's lists has at most 16 bytes
abbrev pub IsName : List ℕ → Type 0
IsName name = length name ≤ 16

-- what is hashed where there is no entry: which seals these are, and the name of the lists
abbrev pub first_message : List ℕ → List ℕ
first_message name = codes "dalthyrm seal 1 " ++ name

-- how many bytes an entry has, in four bytes with the lowest first, and these bytes: as a record has them behind its gate
abbrev pub framed : List ℕ → List ℕ
framed entry = to_le_bytes w32 (length entry) ++ entry

-- the seal of a list with one entry more
abbrev pub next_seal : List ℕ → List ℕ → List ℕ
next_seal before entry = sha256 (before ++ framed entry)

-- the seal of a list of this name, by the bytes of its entries
abbrev pub seal : List ℕ → List (List ℕ) → List ℕ
seal name [] = sha256 (first_message name)
seal name (entry ∷ past) = next_seal (seal name past) entry

-- the list as it stood when so many entries were on it
abbrev pub first_of : ℕ → List (List ℕ) → List (List ℕ)
first_of front past = drop (length past - front) past

-- `sealed`, how many entries a list has, and its seal in digits of lower case
abbrev pub sealed_line : ℕ → List ℕ → List ℕ
sealed_line count bytes = codes "sealed " ++ (decimal count ++ (codes " " ++ (encode_lower bytes ++ codes "\n")))

-- ---- what two lists with one seal show

-- what was hashed for the seal of a list
abbrev pub message : List ℕ → List (List ℕ) → List ℕ
message name [] = first_message name
message name (entry ∷ past) = seal name past ++ framed entry

-- Two messages: the newest ones that differ, from the ends of both lists on, or those of no entry where none does. What they are
-- is worked out from both lists: that some two texts have one SHA-256 is true, and says nothing.
abbrev pub clash : List ℕ → List (List ℕ) → List ℕ → List (List ℕ) → List ℕ × List ℕ
clash name [] other_name other = (message name [], message other_name other)
clash name (entry ∷ past) other_name [] = (message name (entry ∷ past), message other_name [])
clash name (entry ∷ past) other_name (other ∷ others) =
    if bytes_eq (message name (entry ∷ past)) (message other_name (other ∷ others)) then clash name past other_name others
    else (message name (entry ∷ past), message other_name (other ∷ others))

-- two messages that differ, and have one SHA-256
pub record IsCollision (messages : List ℕ × List ℕ) : Type 0 where
  pub differ : messages.0 ≢ messages.1
  pub same : sha256 messages.0 ≡ sha256 messages.1

-- one list, of one name
pub record AreOne (name : List ℕ) (list : List (List ℕ)) (other_name : List ℕ) (other : List (List ℕ)) : Type 0 where
  pub names : name ≡ other_name
  pub lists : list ≡ other
