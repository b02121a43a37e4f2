use Rattle.std.proofs.Common.{◌≡◌, pos, option_map, slice_get, refl, lit≤}
use Rattle.aid_types.specs.Nearest.{half_up, share}
use Rattle.aid_books.specs.declared.marginal.Bracket.{Bracket}
use Rattle.specimen.specs.Specimen.{bracket_rows}
use Rattle.specimen.proofs.specimen_book.Goals as goal

-- the brackets begin with what the first rate gives there
first_base : option_map (λ (row : Bracket). row.base) (slice_get bracket_rows 0) ≡ option_map (λ (row : Bracket). share row.over (pos 2200)) (slice_get bracket_rows 0)
unfolding half_up
first_base = refl

pub invariant_of-result-2 : goal.invariant_of-result-2
invariant_of-result-2 c = record {
  ceiling_in_range = lit≤ tt;
  business_over = rw c.business.ensures refl;
  business_base = rw c.business.ensures refl;
  age_start = rw c.ages.ensures refl;
  bracket_base = rw (c.schedule.ensures.first_rate, c.brackets.ensures) first_base;
}
