use Rattle.std.proofs.Common.{◌≡◌, ◌<◌, ◌^◌, ◌++◌, List, ℕ, length, subst, sym}
use Rattle.aid_stamps.specs.Stamps.{stamp_bytes}
use Rattle.format_bytes.specs.Stamped.{IsNoStamped, no_stamp}
use Rattle.format_bytes.specs.declared.reading.TakeError.{TakeError}
use Rattle.format_bytes.proofs.Behind.{fault_behind, is_taken, none_behind, place_fits}
use Rattle.format_bytes.proofs.stamped.take_stamped.Goals as goal

pub returns-in-Err-clause-place : goal.returns-in-Err-clause-place
returns-in-Err-clause-place c = no_stamp c.in-Err.place c.in-Err.ensures.place

pub returns-in-Ok-take-clause-found : goal.returns-in-Ok-take-clause-found
returns-in-Ok-take-clause-found c =
    let found = c.in-Ok.ensures.found in
    let spelled = c.in-Ok-take.ensures.found in
    (found.0, spelled.0, subst (λ (l : List ℕ). c.args.bytes.now ≡ stamp_bytes c.in-Ok.read.0 ++ l) spelled.1 found.1)

pub behind-requires : goal.behind-requires
behind-requires c place same =
    let few : length c.args.bytes.now < 2 ^ 64 = search in
    place_fits c.in-Ok.read.0 c.args.bytes.now c.in-Ok.read.1.now c.in-Err-take.error place few c.in-Ok.ensures.found.1 c.in-Err-take.ensures.exact same

pub returns-in-Ok-take-clause-only : goal.returns-in-Ok-take-clause-only
returns-in-Ok-take-clause-only c stamp filing is ok spelled good =
    is_taken c.in-Ok.read.0 stamp filing c.in-Ok-take.filing c.args.bytes.now c.in-Ok.read.1.now c.in-Ok.ensures.found.0 is c.in-Ok.ensures.found.1 spelled
    (λ same. c.in-Ok-take.ensures.only filing ok same (λ e. cc))

pub returns-in-Err-take-clause-only : goal.returns-in-Err-take-clause-only
returns-in-Err-take-clause-only c stamp filing is ok spelled good =
    absurd (none_behind c.in-Ok.read.0 stamp filing c.args.bytes.now c.in-Ok.read.1.now c.in-Err-take.error c.behind.result c.in-Ok.ensures.found.0 is c.in-Ok.ensures.found.1 spelled
    (λ same other. c.in-Err-take.ensures.only filing ok same other) c.behind.ensures good)

pub returns-in-Err-take-clause-place : goal.returns-in-Err-take-clause-place
returns-in-Err-take-clause-place c =
    subst (λ (e : TakeError). IsNoStamped c.args.bytes.now e) (sym c.behind.ensures)
    (fault_behind c.in-Ok.read.0 c.args.bytes.now c.in-Ok.read.1.now c.in-Err-take.error c.in-Ok.ensures.found.0 c.in-Ok.ensures.found.1 c.in-Err-take.ensures.exact)
