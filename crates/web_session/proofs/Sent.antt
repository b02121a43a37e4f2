-- What stands written of a text.
use Rattle.std.proofs.Common.{arith, ◌≡◌, ◌∙◌, sym, ap, refl, ℕ, ◌≤◌, inl, inr, List, [], ◌∷◌, ◌++◌, length, take, drop, append_assoc}
use Rattle.std.proofs.lemmas.List.{take-append-drop}
use Rattle.io_traits.specs.Faults.{Rose}
use Rattle.web_session.specs.ConnectionState.{AppendsFront}

-- all of the text but the rest
pub record Sent (old new text rest : List ℕ) : Type 0 where
  pub front : List ℕ
  pub whole : text ≡ front ++ rest
  pub written : new ≡ old ++ front

append_nil : (xs : List ℕ) → xs ++ [] ≡ xs
append_nil [] = refl
append_nil (x ∷ xs) = ap (λ (l : List ℕ). x ∷ l) (append_nil xs)

pub sent_none : (old text : List ℕ) → Sent old old text text
sent_none old text = record { front = []; whole = refl; written = sym (append_nil old) }

pub sent_more : (old mid new text rest : List ℕ) (n : ℕ) → Sent old mid text rest → new ≡ mid ++ take n rest → Sent old new text (drop n rest)
sent_more old mid new text rest n sent is = record {
  front = sent.front ++ take n rest;
  whole = sent.whole ∙ ap (λ (l : List ℕ). sent.front ++ l) (sym (take-append-drop n rest)) ∙ sym (append_assoc sent.front (take n rest) (drop n rest));
  written = is ∙ ap (λ (l : List ℕ). l ++ take n rest) sent.written ∙ append_assoc old sent.front (take n rest);
}

pub sent_front : (old new text rest : List ℕ) → Sent old new text rest → AppendsFront old new text
sent_front old new text rest sent = (sent.front, (rest, sent.whole), sent.written)

pub sent_all : (old new text rest : List ℕ) → Sent old new text rest → length rest ≡ 0 → new ≡ old ++ text
sent_all old new text [] sent is = sent.written ∙ ap (λ (l : List ℕ). old ++ l) (sym (sent.whole ∙ append_nil sent.front))
sent_all old new text (x ∷ rest) sent is = absurd (omega (arith, is))

pub rose_later : (a b c : ℕ) → a ≤ b → Rose b c → Rose a c
rose_later a b c le (inl lt) = inl (omega arith)
rose_later a b c le (inr top) = inr top
