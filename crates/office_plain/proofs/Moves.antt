-- What a filing pays and takes back at the cells of a net.
use Rattle.std.proofs.Common.{◌≡◌, ℕ, ◌+◌, ◌^◌, ◌<◌, ◌≤◌, refl, sym, ap, subst, ◌∙◌, arith, Bool, true, false, ◌&&◌, List, ◌∷◌}
use Rattle.std.specs.Prelude.{◌==◌, not, slice_index}
use Rattle.aid_types.specs.Programs.{rank, six}
use Rattle.aid_filings.specs.declared.filing.Filing.{Filing}
use Rattle.office_history.specs.Past.{is_extra, the_term}
use Rattle.office_history.specs.Accounts.{AreSums}
use Rattle.office_history.specs.Answer.{IsLegal}
use Rattle.office_history.specs.Net.{Cell, Move, in_year, is_cell, moved, net_at, onto, paid, payments_in, taken, takings_in}
use Rattle.office_plain.specs.CellTests.{are_at, cents_of, test_of}
use Rattle.office_plain.specs.declared.moved.Cells.{Cells}
use Rattle.office_plain.specs.declared.moved.Cells.TheVariants.{InYear, InMainTerms, AtSchool}
use Rattle.office_history.specs.declared.place.Place.{Place}
use Rattle.office_history.proofs.Own.{AreIn, at, moved-agree, moved-all, moved-none, own-cell}
use Rattle.office_history.proofs.Bounds.{paid-most, taken-most}
use Rattle.office_history.proofs.Cells.{onto_is}
use Rattle.office_history.proofs.Sixes.{six-ext, six-rank, six-sums}

-- a test of a student's year passes a cell of one of his terms there where it is of the program
second : (a b c : Bool) → (a && b) ≡ true → (a && (b && c)) ≡ c
second true true c h = refl
second true false c h = absurd cc
second false b c h = absurd cc

in_main : (a b c d : Bool) → (a && (b && d)) ≡ true → ((a && (b && c)) && d) ≡ c
in_main true true true true h = refl
in_main true true false true h = refl
in_main true true c false h = absurd cc
in_main true false c d h = absurd cc
in_main false b c d h = absurd cc

no_second : (a b c : Bool) → (a && b) ≡ false → (a && (b && c)) ≡ false
no_second true true c h = absurd cc
no_second true false c h = refl
no_second false b c h = refl

not_in_main : (a b c d : Bool) → (a && (b && d)) ≡ false → ((a && (b && c)) && d) ≡ false
not_in_main true true true d h = h
not_in_main true true false d h = refl
not_in_main true false c d h = refl
not_in_main false b c d h = refl

-- at some of the cells moves what stands there of the term's amounts, and elsewhere nothing
pub moved-there : (past : List Filing) (cells : Cells) (p : Place) (ms : List Move) (ns : List ℕ) → AreIn p ms →
    ns ≡ six (λ r. moved (is_cell (at p r)) ms) → are_at past cells p ≡ true → cents_of cells ns ≡ moved (test_of past cells) ms
moved-there past (InYear student year program) p ms ns here is there =
    ap (λ (l : List ℕ). slice_index l (rank program)) is
    ∙ six-rank (λ r. moved (is_cell (at p r)) ms) program
    ∙ moved-agree (is_cell (at p (rank program))) (test_of past (InYear student year program)) p ms here
    (λ q. own-cell p (rank program) q ∙ sym (second (p.student == student) (p.year == year) (q == rank program) there))
moved-there past (InMainTerms student year) p ms ns here is there =
    ap (λ (l : List ℕ). slice_index l 3) is
    ∙ moved-agree (is_cell (at p 3)) (test_of past (InMainTerms student year)) p ms here
    (λ q. own-cell p 3 q ∙ sym (in_main (p.student == student) (p.year == year) (q == 3) (not (is_extra (the_term past p.school p.year p.term))) there))
moved-there past (AtSchool school student year) p ms ns here is there =
    ap (cents_of (AtSchool school student year)) is
    ∙ moved-all (test_of past (AtSchool school student year)) p ms here (λ q. there)

pub moved-elsewhere : (past : List Filing) (cells : Cells) (p : Place) (ms : List Move) → AreIn p ms → are_at past cells p ≡ false →
    moved (test_of past cells) ms ≡ 0
moved-elsewhere past (InYear student year program) p ms here away =
    moved-none (test_of past (InYear student year program)) p ms here (λ q. no_second (p.student == student) (p.year == year) (q == rank program) away)
moved-elsewhere past (InMainTerms student year) p ms here away =
    moved-none (test_of past (InMainTerms student year)) p ms here
    (λ q. not_in_main (p.student == student) (p.year == year) (q == 3) (not (is_extra (the_term past p.school p.year p.term))) away)
moved-elsewhere past (AtSchool school student year) p ms here away = moved-none (test_of past (AtSchool school student year)) p ms here (λ q. away)

-- what one filing moves can be added
part : (sel : Cell → Bool) (ms : List Move) (n : ℕ) {most : ℕ} → onto sel ms n ≤ most → moved sel ms ≤ most
part sel ms n {most} h = let o = onto_is sel ms n in omega arith

pub paid-parts : (past : List Filing) (f : Filing) → IsLegal (f ∷ past) → (cell : ℕ → Cell → Bool) → AreSums (six (λ p. moved (cell p) (payments_in f.key f.what)))
paid-parts past f legal cell =
    six-sums (λ p. moved (cell p) (payments_in f.key f.what)) 100000000000000
    (λ p. part (cell p) (payments_in f.key f.what) (paid past (cell p)) (paid-most (f ∷ past) legal (cell p))) (omega arith)

pub taken-parts : (past : List Filing) (f : Filing) → IsLegal (f ∷ past) → (cell : ℕ → Cell → Bool) → AreSums (six (λ p. moved (cell p) (takings_in past (net_at past) f.key f.what)))
taken-parts past f legal cell =
    six-sums (λ p. moved (cell p) (takings_in past (net_at past) f.key f.what)) 100000000000000
    (λ p. part (cell p) (takings_in past (net_at past) f.key f.what) (taken past (cell p)) (taken-most (f ∷ past) legal (cell p))) (omega arith)

pub paid-sums : (past : List Filing) (f : Filing) (p : Place) (ns : List ℕ) → IsLegal (f ∷ past) → ns ≡ six (λ r. moved (is_cell (at p r)) (payments_in f.key f.what)) → AreSums ns
paid-sums past f p ns legal is = subst AreSums (sym is) (paid-parts past f legal (λ r. is_cell (at p r)))

pub taken-sums : (past : List Filing) (f : Filing) (p : Place) (ns : List ℕ) → IsLegal (f ∷ past) → ns ≡ six (λ r. moved (is_cell (at p r)) (takings_in past (net_at past) f.key f.what)) → AreSums ns
taken-sums past f p ns legal is = subst AreSums (sym is) (taken-parts past f legal (λ r. is_cell (at p r)))

-- by program, in the student's year of the term and in other years
pub moved-in-year : (student year : ℕ) (p : Place) (ms : List Move) → AreIn p ms → (p.student == student && p.year == year) ≡ true →
    six (λ r. moved (is_cell (at p r)) ms) ≡ six (λ r. moved (in_year student year r) ms)
moved-in-year student year p ms here is =
    six-ext (λ r. moved (is_cell (at p r)) ms) (λ r. moved (in_year student year r) ms)
    (λ r. moved-agree (is_cell (at p r)) (in_year student year r) p ms here (λ q. own-cell p r q ∙ sym (second (p.student == student) (p.year == year) (q == r) is)))

pub moved-in-none : (student year : ℕ) (p : Place) (ms : List Move) → AreIn p ms → (p.student == student && p.year == year) ≡ false →
    six (λ r. 0) ≡ six (λ r. moved (in_year student year r) ms)
moved-in-none student year p ms here away =
    six-ext (λ r. 0) (λ r. moved (in_year student year r) ms)
    (λ r. sym (moved-none (in_year student year r) p ms here (λ q. no_second (p.student == student) (p.year == year) (q == r) away)))

pub both : (a b : Bool) → a ≡ true → b ≡ true → (a && b) ≡ true
both true true h k = refl
both true false h k = absurd cc
both false b h k = absurd cc

-- and so can the sums before it
pub paid-so_far : (past : List Filing) → IsLegal past → (cell : ℕ → Cell → Bool) → AreSums (six (λ p. paid past (cell p)))
paid-so_far past legal cell = six-sums (λ p. paid past (cell p)) 100000000000000 (λ p. paid-most past legal (cell p)) (omega arith)

pub taken-so_far : (past : List Filing) → IsLegal past → (cell : ℕ → Cell → Bool) → AreSums (six (λ p. taken past (cell p)))
taken-so_far past legal cell = six-sums (λ p. taken past (cell p)) 100000000000000 (λ p. taken-most past legal (cell p)) (omega arith)

pub fit : (ns ks ms ls : List ℕ) → ns ≡ ks → AreSums ks → ms ≡ ls → AreSums ls → (p : ℕ) → slice_index ns p + slice_index ms p < 2 ^ 64
fit ns ks ms ls is s js t p =
    let a = subst AreSums (sym is) s p in
    let b = subst AreSums (sym js) t p in
    omega (arith, a, b)
