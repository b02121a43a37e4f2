-- What the first 18 bytes of a file say is what all of them say.
use Rattle.std.proofs.Common.{◌≡◌, inl, inr, ℕ, List, [], ◌∷◌, length, take, refl, sym, ◌∙◌, subst, arith}
use Rattle.std.specs.Prelude.{slice_index, min}
use Rattle.std.proofs.lemmas.List.{length-take, take-take}
use Rattle.log_journal.specs.Head.{IsBorn, IsOld, StartsOld, HasHead}
use Rattle.log_journal.specs.Stands.{IsUnborn}
use Rattle.log_journal.specs.declared.header.Header.{Header}
use Rattle.log_journal.specs.declared.head.FileHead.{FileHead}
use Rattle.log_journal.specs.declared.head.FileHead.TheVariants.{Short, Unfinished, Born, Old, Foreign}

-- two files that begin alike
record AreAlike (file other : List ℕ) : Type 0 where
  size : min 18 (length file) ≡ min 18 (length other)
  starts : take 16 file ≡ take 16 other
  first : slice_index file 0 ≡ slice_index other 0

back : (file other : List ℕ) → AreAlike file other → AreAlike other file
back file other alike = record { size = sym alike.size; starts = sym alike.starts; first = sym alike.first }

alike : (file : List ℕ) → AreAlike (take 18 file) file
alike file = record { size = omega (arith, length-take 18 file); starts = take-take 16 18 file (omega arith); first = first file }
  where
    first : (file : List ℕ) → slice_index (take 18 file) 0 ≡ slice_index file 0
    first [] = refl
    first (x ∷ file) = refl

module _ (header : Header) (file other : List ℕ) (both : AreAlike file other) where
  born_too : IsBorn header file → IsBorn header other
  born_too born = record { long = omega (arith, born.long, both.size); starts = sym both.starts ∙ born.starts }

  starts_old_too : StartsOld header file → StartsOld header other
  starts_old_too (version, named, starts) = (version, named, sym both.starts ∙ starts)

  unborn_too : IsUnborn file → IsUnborn other
  unborn_too (inl short) = inl (omega (arith, short, both.size))
  unborn_too (inr (exact, first)) = inr (omega (arith, exact, both.size), λ is. first (both.first ∙ is))

old_too : (header : Header) (file other : List ℕ) → AreAlike file other → IsOld header file → IsOld header other
old_too header file other both old = record {
  long = omega (arith, old.long, both.size);
  starts = starts_old_too header file other both old.starts;
  not_born = λ born. old.not_born (born_too header other file (back file other both) born);
}

head_too : (header : Header) (file other : List ℕ) (head : FileHead) → AreAlike file other → HasHead header file head → HasHead header other head
head_too header file other Short both short = omega (arith, short, both.size)
head_too header file other Unfinished both (exact, first) = (omega (arith, exact, both.size), λ is. first (both.first ∙ is))
head_too header file other Born both born = born_too header file other both born
head_too header file other Old both old = old_too header file other both old
head_too header file other Foreign both foreign =
    let other_way = back file other both in
    record {
      not_unborn = λ unborn. foreign.not_unborn (unborn_too header other file other_way unborn);
      not_born = λ born. foreign.not_born (born_too header other file other_way born);
      not_old = λ old. foreign.not_old (old_too header other file other_way old);
    }

pub head_of_front : (header : Header) (file front : List ℕ) (head : FileHead) → front ≡ take 18 file → HasHead header front head → HasHead header file head
head_of_front header file front head is said = head_too header (take 18 file) file head (alike file) (subst (λ (bytes : List ℕ). HasHead header bytes head) is said)
