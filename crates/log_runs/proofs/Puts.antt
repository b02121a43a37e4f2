-- Texts that are written one after the other.
use Rattle.std.proofs.Common.{◌≡◌, ℕ, suc, ◌+◌, ◌<◌, ◌≤◌, List, [], ◌∷◌, ◌++◌, Result, Ok, Err, IsTrue, length, take, refl, sym, ap, ◌∙◌, subst, arith, append-nil, append_assoc, length-append}
use Rattle.std.proofs.lemmas.List.{take-append-le}
use Rattle.std.specs.Prelude.{OnOk, OnErr}
use Rattle.io_traits.specs.Faults.{Rose}
use Rattle.io_traits.specs.Whole.{IsCutShort}
use Rattle.io_traits.specs.declared.sink.Sink.{Ghosts}
use Rattle.log_runs.specs.Puts.{HasPut, HasCut, Puts}

take_past : (one other : List ℕ) (n : ℕ) → take (length one + n) (one ++ other) ≡ one ++ take n other
take_past [] other n = let count : 0 + n ≡ n = omega arith in ap (λ (m : ℕ). take m other) count
take_past (x ∷ one) other n =
    let count : length (x ∷ one) + n ≡ suc (length one + n) = omega arith in
    ap (λ (m : ℕ). take m ((x ∷ one) ++ other)) count ∙ ap (λ l. x ∷ l) (take_past one other n)

take_front : (one other : List ℕ) (n : ℕ) → n < length one → take n (one ++ other) ≡ take n one
take_front one other n lt = take-append-le n one other (omega (arith, lt))

-- a text that is cut short is cut short with more behind it, and behind a text before it
cut_more : (one other before after : List ℕ) → IsCutShort one before after → IsCutShort (one ++ other) before after
cut_more one other before after (n, less, is) =
    (n, omega (arith, less, length-append one other), is ∙ ap (λ l. before ++ l) (sym (take_front one other n less)))

cut_behind : (one other before after : List ℕ) → IsCutShort other (before ++ one) after → IsCutShort (one ++ other) before after
cut_behind one other before after (n, less, is) =
    (length one + n, omega (arith, less, length-append one other), is ∙ (append_assoc before one (take n other) ∙ ap (λ l. before ++ l) (sym (take_past one other n))))

module _ {K : Type 0} (sink : Ghosts K) where
  pub put_none : (at : K) → HasPut sink [] at at
  put_none at = record { honest = refl; written = λ honest. sym (append-nil (sink.text at)); unmoved = refl }

  pub put_then : (one other : List ℕ) (old mid new : K) → HasPut sink one old mid → HasPut sink other mid new → HasPut sink (one ++ other) old new
  put_then one other old mid new p q = record {
    honest = q.honest ∙ p.honest;
    written = λ honest. q.written (subst IsTrue (sym p.honest) honest) ∙ (ap (λ t. t ++ other) (p.written honest) ∙ append_assoc (sink.text old) one other);
    unmoved = q.unmoved ∙ p.unmoved;
  }

  pub cut_then : (one other : List ℕ) (old mid new : K) → HasPut sink one old mid → HasCut sink other mid new → HasCut sink (one ++ other) old new
  cut_then one other old mid new p q = record {
    honest = q.honest ∙ p.honest;
    cut = λ honest. cut_behind one other (sink.text old) (sink.text new) (subst (λ t. IsCutShort other t (sink.text new)) (p.written honest) (q.cut (subst IsTrue (sym p.honest) honest)));
    later = subst (λ n. n ≤ sink.faults new) p.unmoved q.later;
    rose = subst (λ n. Rose n (sink.faults new)) p.unmoved q.rose;
  }

  pub cut_early : (one other : List ℕ) (old new : K) → HasCut sink one old new → HasCut sink (one ++ other) old new
  cut_early one other old new p = record {
    honest = p.honest;
    cut = λ honest. cut_more one other (sink.text old) (sink.text new) (p.cut honest);
    later = p.later;
    rose = p.rose;
  }

  pub puts_then : {E : Type 0} (one other : List ℕ) (ended : Result Unit E) (old mid new : K) → HasPut sink one old mid → Puts sink other ended mid new → Puts sink (one ++ other) ended old new
  puts_then one other (Ok done) old mid new p q = put_then one other old mid new p q
  puts_then one other (Err fault) old mid new p q = cut_then one other old mid new p q

  -- what a write says, in one fact
  pub puts_of : {E : Type 0} (text : List ℕ) (ended : Result Unit E) (old new : K) → sink.honest new ≡ sink.honest old
      → (IsTrue (sink.honest old) → OnOk ended (sink.text new ≡ sink.text old ++ text))
      → (IsTrue (sink.honest old) → OnErr ended (IsCutShort text (sink.text old) (sink.text new)))
      → sink.faults old ≤ sink.faults new → OnErr ended (Rose (sink.faults old) (sink.faults new)) → OnOk ended (sink.faults new ≡ sink.faults old)
      → Puts sink text ended old new
  puts_of text (Ok done) old new honest written cut later rose unmoved = record { honest = honest; written = written; unmoved = unmoved }
  puts_of text (Err fault) old new honest written cut later rose unmoved = record { honest = honest; cut = cut; later = later; rose = rose }
