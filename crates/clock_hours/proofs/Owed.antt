-- What a student owes of a program is at most what was disbursed of it.
use Rattle.std.proofs.Common.{◌≡◌, ℕ, ◌≤◌, List, true, refl, arith}
use Rattle.std.specs.Prelude.{slice_index}
use Rattle.std.proofs.lemmas.Bool.Decides.{nat_tests}
use Rattle.aid_types.proofs.ProgramLemmas.{cents_at}
use Rattle.aid_types.specs.Ranges.{EachIsCents, is_cents}
use Rattle.law_r2t4.specs.Worksheet.{grant_owed, owed_by_program, owed_of, worksheet_of}
use Rattle.law_r2t4.proofs.Programs.{within-net}

grant_owed_small : (laid half : ℕ) → laid ≤ 99999999 → is_cents (grant_owed laid half) ≡ true
grant_owed_small laid half h = grind (arith, nat_tests)

owed_small : (laid net could : List ℕ) → ((p : ℕ) → slice_index laid p ≤ 99999999) → EachIsCents (owed_by_program laid net could)
owed_small laid net could h =
    let pell : is_cents (owed_of laid net could 3) ≡ true = grant_owed_small (slice_index laid 3) _ (h 3) in
    let fseog : is_cents (owed_of laid net could 4) ≡ true = grant_owed_small (slice_index laid 4) _ (h 4) in
    let teach : is_cents (owed_of laid net could 5) ≡ true = grant_owed_small (slice_index laid 5) _ (h 5) in
    rw (pell, fseog, teach) refl

-- the worksheet's
pub owed_cents : (completed total charges : ℕ) (net could : List ℕ) → EachIsCents net → EachIsCents (worksheet_of completed total charges net could).owed
unfolding worksheet_of
owed_cents completed total charges net could small =
    owed_small (worksheet_of completed total charges net could).laid net could (λ p.
    let most = cents_at net p small in
    let both = within-net completed total charges net could p in
    omega arith)
