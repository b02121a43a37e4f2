-- The length of a header, and of a file's front.
use Rattle.std.proofs.Common.{◌≡◌, ◌++◌, [], ◌∷◌, ℕ, List, length, sym, ◌∙◌, ap, arith, append_assoc, take, drop, length-append}
use Rattle.std.proofs.lemmas.List.{append-nil, take_at, drop_at}
use Rattle.std.specs.Prelude.{replicate}
use borrow.Rule.Slice.PartMut.{put_mid}
use Rattle.std.specs.Int.{to_le_bytes, w32}
use Rattle.log_journal.specs.Header.{header_bytes}
use Rattle.log_journal.specs.Stands.{Payloads, StandsFor, front_of, gate_place, records}
use Rattle.log_journal.specs.declared.header.Header.{Header}

pub length-header_bytes : (header : Header) → length (header_bytes header) ≡ 16
length-header_bytes header =
    let version = to_le_bytes w32 header.version in
    omega (arith, header.name_size, length-append (header.name ++ version) (0 ∷ 0 ∷ 0 ∷ []), length-append header.name version)

-- the gate stands behind the front
pub length-front_of : (header : Header) (h : Payloads) → length (front_of header h) ≡ gate_place h
length-front_of header h = omega (arith, length-append (header_bytes header) (records h), length-header_bytes header)

-- the file of a journal without payloads
pub empty_stands : (header : Header) (file : List ℕ) → file ≡ header_bytes header ++ 0 ∷ [] → StandsFor header file []
empty_stands header file is = record {
  gate = 0;
  free = [];
  closed = omega arith;
  whole = is ∙ ap (λ (l : List ℕ). l ++ 0 ∷ []) (sym (append-nil (header_bytes header)));
  sizes = tt;
}

-- a name and a version laid into a block whose first byte is 1
pub laid : (x y : List ℕ) → length x ≡ 8 → put_mid 9 4 (put_mid 1 8 (1 ∷ replicate 16 0) x) y ≡ 1 ∷ (x ++ y ++ 0 ∷ 0 ∷ 0 ∷ []) ++ 0 ∷ []
laid x y eight =
    let zeros = replicate 8 0 in
    let front : take 8 (x ++ zeros) ≡ x = take_at x zeros 8 eight in
    let behind : drop 4 (drop 8 (x ++ zeros)) ≡ replicate 4 0 = ap (λ (l : List ℕ). drop 4 l) (drop_at x zeros 8 eight) in
    ap (λ (l : List ℕ). 1 ∷ (l ++ (y ++ drop 4 (drop 8 (x ++ zeros))))) front
    ∙ ap (λ (l : List ℕ). 1 ∷ (x ++ (y ++ l))) behind
    ∙ ap (λ (l : List ℕ). 1 ∷ l) (sym (append_assoc x y (0 ∷ 0 ∷ 0 ∷ 0 ∷ [])) ∙ sym (append_assoc (x ++ y) (0 ∷ 0 ∷ 0 ∷ []) (0 ∷ [])))

-- what such a file has at its front
pub length-empty : (header : Header) (file : List ℕ) → file ≡ header_bytes header ++ 0 ∷ [] → length file ≡ 17
length-empty header file is = omega (arith, ap length is, length-append (header_bytes header) (0 ∷ []), length-header_bytes header)

pub take-empty : (header : Header) (file : List ℕ) → file ≡ header_bytes header ++ 0 ∷ [] → take 16 file ≡ header_bytes header
take-empty header file is = ap (λ (l : List ℕ). take 16 l) is ∙ take_at (header_bytes header) (0 ∷ []) 16 (length-header_bytes header)
