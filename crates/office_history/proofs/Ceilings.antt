-- An application that has an award is below the ceiling.
use Rattle.std.proofs.Common.{◌≡◌, refl, Option, Some, None}
use Rattle.aid_books.specs.declared.book.Book.{Book}
use Rattle.aid_types.specs.declared.application.Application.{Application}
use Rattle.law_sai.specs.Indices.{index_of}
use Rattle.law_pell.specs.Award.{no_ceiling}
use Rattle.law_pell.proofs.CeilingLaws.{none_awarded}
use Rattle.office_history.specs.Award.{award_under, ceiling_by, ceiling_under, scheduled_of}

pub none_under : (b : Option Book) (a : Application) → (award_under b (Some a) ≡ 0 → ⊥) → ceiling_under b (Some a) ≡ no_ceiling
unfolding scheduled_of ceiling_by
none_under None a awarded = refl
none_under (Some b) a awarded = none_awarded b a (index_of b a) awarded
