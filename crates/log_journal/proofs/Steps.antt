-- What the images of the three steps of a founding stand for.
use Rattle.std.proofs.Common.{◌≡◌, ◌⊎◌, inl, inr, ℕ, suc, ◌+◌, ◌<◌, ◌≤◌, List, [], ◌∷◌, ◌++◌, length, take, drop, sym, ◌∙◌, ap, arith, length-append, length-drop}
use Rattle.std.proofs.lemmas.Bool.{cases_eq}
use Rattle.std.proofs.lemmas.List.{append-nil, take_all, drop_all}
use Rattle.std.specs.Prelude.{slice_index}
use Rattle.io_traits.specs.DiskState.{Torn, overwrite}
use Rattle.log_journal.specs.Header.{header_bytes}
use Rattle.log_journal.specs.declared.header.Header.{Header}
use Rattle.log_journal.specs.Founded.{UnbornOrEmpty, IsStarted}
use Rattle.log_journal.proofs.Headers.{length-header_bytes, empty_stands}

-- the name, the version, three zeros and a closed gate
abbrev pub rest_of : Header → List ℕ
rest_of header = drop 1 (header_bytes header ++ 0 ∷ [])

pub length-rest_of : (header : Header) → length (rest_of header) ≡ 16
length-rest_of header = omega (arith, length-header_bytes header, length-append (header_bytes header) (0 ∷ []))

pub rest_is : (header : Header) (file : List ℕ) → file ≡ header_bytes header ++ 0 ∷ [] → take 16 (drop 1 file) ≡ rest_of header
rest_is header file is = ap (λ (l : List ℕ). take 16 (drop 1 l)) is ∙ take_all 16 (rest_of header) (omega (arith, length-rest_of header))

-- a torn write of n bytes at `at` makes a file that ends by then no longer than that
torn_length : (at n : ℕ) (d c : List ℕ) → length d ≤ at + n → Torn at n d c → length c ≤ at + n
torn_length at n d c le torn = omega (arith, length-drop (at + n) c, ap length (torn.behind ∙ drop_all (at + n) d le))

-- the first step
pub emptied : (header : Header) (d c : List ℕ) → length d < 17 → Torn 0 1 d c → UnbornOrEmpty header c
emptied header d c short torn = inl (inl (omega (arith, length-drop 1 c, length-drop 1 d, ap length torn.behind)))

pub emptied_started : (d c : List ℕ) → length d < 17 → c ≡ overwrite 0 (0 ∷ []) d → IsStarted c
emptied_started d c short is =
    let size : length c ≡ suc (length (drop 1 d)) = ap length is in
    record {
      some = omega arith;
      short = omega (arith, length-drop 1 d);
      first = λ one. let zero_is : 0 ≡ 1 = sym (ap (λ (l : List ℕ). slice_index l 0) is) ∙ one in omega arith;
    }

-- the second step
pub named : (header : Header) (d c : List ℕ) → IsStarted d → Torn 1 16 d c → UnbornOrEmpty header c
named header [] c s torn = absurd (omega (arith, s.some))
named header (x ∷ d) [] s torn = absurd (omega (arith, torn.no_shorter))
named header (x ∷ d) (y ∷ c) s torn = elim (lt_or (length (y ∷ c)) (torn_length 1 16 (x ∷ d) (y ∷ c) s.short torn)) [
  | inl less ↦ inl (inl less)
  | inr all ↦ inl (inr (all, λ one. s.first (sym same ∙ one)))
]
  where
    same : y ≡ x
    same = ap (λ (l : List ℕ). slice_index l 0) torn.before

    lt_or : (n : ℕ) → n ≤ 17 → (n < 17) ⊎ (n ≡ 17)
    lt_or n le = elim (cases_eq n 17) [ inl is ↦ inr is | inr not ↦ inl (omega arith) ]

-- the file once the second step is on the disk
pub record IsNamed (header : Header) (file : List ℕ) : Type 0 where
  pub first : ℕ
  pub whole : file ≡ first ∷ rest_of header

pub named_done : (header : Header) (d c : List ℕ) → IsStarted d → c ≡ overwrite 1 (rest_of header) d → IsNamed header c
named_done header [] c s is = absurd (omega (arith, s.some))
named_done header (x ∷ d) c s is = record { first = x; whole = is ∙ ap (λ (l : List ℕ). x ∷ (rest_of header ++ l)) (drop_all (1 + length (rest_of header)) (x ∷ d) (omega (arith, length-rest_of header, s.short))) ∙ ap (λ (l : List ℕ). x ∷ l) (append-nil (rest_of header)) }

-- the third step
pub born : (header : Header) (d c : List ℕ) → IsNamed header d → Torn 0 1 d c → UnbornOrEmpty header c
born header d [] s torn = absurd (omega (arith, torn.no_shorter, ap length s.whole))
born header d (y ∷ c) s torn = elim (cases_eq y 1) [
  | inl one ↦ inr (empty_stands header (y ∷ c) (ap (λ (x : ℕ). x ∷ c) one ∙ ap (λ (l : List ℕ). 1 ∷ l) tail))
  | inr not ↦ inl (inr (omega (arith, ap length tail, length-rest_of header), not))
]
  where
    tail : c ≡ rest_of header
    tail = torn.behind ∙ ap (λ (l : List ℕ). drop 1 l) s.whole

pub born_done : (header : Header) (d c : List ℕ) → IsNamed header d → c ≡ overwrite 0 (1 ∷ []) d → c ≡ header_bytes header ++ 0 ∷ []
born_done header d c s is = is ∙ ap (λ (l : List ℕ). overwrite 0 (1 ∷ []) l) s.whole
