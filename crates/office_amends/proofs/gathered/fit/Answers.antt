use Rattle.std.proofs.Common.{◌≡◌, Some, None, refl, rules}
use Rattle.office_amends.specs.Gathered.{misfit}
use Rattle.office_amends.proofs.Gathering.{fits_more, misfit_more}
use Rattle.office_amends.proofs.gathered.fit.Goals as goal

pub returns-in_ok-put_misfit-in-Some-clause-gathered : goal.returns-in_ok-put_misfit-in-Some-clause-gathered
returns-in_ok-put_misfit-in-Some-clause-gathered c rows texts has at says =
    let why : misfit c.args.old.now.history c.args.gathered.now.fits.items c.args.said.change ≡ Some c.in-Some.cause = search rules in
    misfit_more c.args.old.now.history c.args.number rows texts c.args.gathered.now _ has c.args.row c.args.said c.in-Some.cause at says why refl refl refl c.in_ok-put_misfit-in-Some.ensures

pub returns-in_ok-keep-in-None-clause-gathered : goal.returns-in_ok-keep-in-None-clause-gathered
returns-in_ok-keep-in-None-clause-gathered c rows texts has at says =
    let none : misfit c.args.old.now.history c.args.gathered.now.fits.items c.args.said.change ≡ None = search rules in
    let kept = c.in_ok-keep-in-None.ensures.kept in
    fits_more c.args.old.now.history c.args.number rows texts c.args.gathered.now c.keep.new.gathered has c.args.row c.args.said kept.0 at says none kept.1 kept.2
    c.in_ok-keep-in-None.ensures.own c.keep.ensures.errors c.keep.ensures.text
