-- The final index that a standing tells is in its range.
use Rattle.std.proofs.Common.{ℕ, arith, Bool, true, false, ℤ, pos, neg_ℤ, Option, Some, None, List, cond}
use Rattle.std.specs.Prelude.{int_le}
use Rattle.std.specs.Int.{int_min}
use Rattle.std.proofs.lemmas.Int.{ints, clamps}
use Rattle.aid_types.specs.Ranges.{IsIndex}
use Rattle.aid_types.specs.declared.application.Application.{Application}
use Rattle.aid_types.specs.declared.award.Formula.{Formula}
use Rattle.aid_books.specs.declared.book.Book.{Book}
use Rattle.aid_filings.specs.declared.filing.Filing.{Filing}
use Rattle.law_pell.specs.Award.{calculated, decision_under, is_at_ceiling, is_barred, is_maximum, is_minimum, must_file}
use Rattle.law_pell.specs.declared.Decision.{Decision}
use Rattle.law_sai.specs.Formulas.{formula}
use Rattle.law_sai.specs.Index.{bounded}
use Rattle.law_sai.specs.Indices.{index_of, raw_index}
use Rattle.office_history.specs.Answer.{standing_of, standing_under}
use Rattle.office_history.specs.Net.{pell_year, used}
use Rattle.office_history.specs.Past.{application, the_book}

-- a raw index that is brought to the range is in it
bounded_fits : (raw : ℤ) → IsIndex (bounded raw)
bounded_fits raw = (omega (arith, ints, clamps), omega (arith, ints, clamps))

-- so is the final index of each case
either : (b : Bool) (d e : Decision) → IsIndex d.sai → IsIndex e.sai → IsIndex (cond b d e).sai
either true d e h k = h
either false d e h k = k

least_fits : IsIndex (neg_ℤ (pos 1500))
least_fits = (omega (arith, ints), omega (arith, ints))

lower_fits : (index : ℤ) → IsIndex index → IsIndex (int_min index (pos 0))
lower_fits index h = let low = h.0 in let high = h.1 in (omega (arith, ints, clamps), omega (arith, ints, clamps))

decided_fits : (f : Formula) (book : Book) (a : Application) (index : ℤ) → IsIndex index → IsIndex (decision_under f book a index).sai
decided_fits f book a index h =
    either (is_barred a) _ _ h
    (either (is_at_ceiling book index) _ _ h
    (either (must_file f a) _ _
    (either (is_maximum book f a) _ _ (lower_fits index h)
    (either (int_le book.pell.minimum (calculated book index)) _ _ h
    (either (is_minimum book f a) _ _ h h)))
    least_fits))

none_fits : IsIndex (pos 0)
none_fits = (omega (arith, ints), omega (arith, ints))

-- the final index that a standing tells
pub index_fits : (past : List Filing) (student year : ℕ) → IsIndex (standing_of past student year).sai
index_fits past student year = go (the_book past year) (application past student year) (pell_year past student year) (used past student)
  where
    go : (b : Option Book) (a : Option Application) (paid units : ℕ) → IsIndex (standing_under b a paid units).sai
    go (Some b) (Some a) paid units = decided_fits (formula b a) b a (index_of b a) (bounded_fits (raw_index (formula b a) b a))
    go (Some b) None paid units = none_fits
    go None (Some a) paid units = none_fits
    go None None paid units = none_fits
