use Rattle.std.proofs.Common.{Global, map, refl, string_bytes}
use Rattle.aid_stamps.specs.Stamps.{plain_stamp}
use Rattle.run_words.proofs.StampedWords.{no_command, only_command, row_is_stamped}
use Rattle.run_words.proofs.stamped.command_of.Goals as goal

pub returns-in_default-clause-plain : goal.returns-in_default-clause-plain
returns-in_default-clause-plain g c d row = absurd (c.in_default.ensures.none refl plain_stamp _ (row_is_stamped _ _ d row).1)

pub returns-in-Some-2-clause-only : goal.returns-in-Some-2-clause-only
returns-in-Some-2-clause-only g c =
    only_command _ (map (string_bytes {Z = Global}) c.args.words.now) (map (string_bytes {Z = Global}) c.in-Some.rest.now) c.in-Some.stamp c.in-Some.ensures.some
    c.in_ok-command.field-0 c.in_ok-command.ensures.only c.in-Some-2.command c.in-Some-2.is

pub returns-in-Some-2-clause-plain : goal.returns-in-Some-2-clause-plain
returns-in-Some-2-clause-plain g c d row =
    only_command _ (map (string_bytes {Z = Global}) c.args.words.now) (map (string_bytes {Z = Global}) c.in-Some.rest.now) c.in-Some.stamp c.in-Some.ensures.some
    c.in_ok-command.field-0 c.in_ok-command.ensures.only c.in-Some-2.command c.in-Some-2.is plain_stamp d (row_is_stamped _ _ d row)

pub returns-in-None-clause-none : goal.returns-in-None-clause-none
returns-in-None-clause-none g c none =
    no_command _ (map (string_bytes {Z = Global}) c.args.words.now) (map (string_bytes {Z = Global}) c.in-Some.rest.now) c.in-Some.stamp c.in-Some.ensures.some
    c.in_ok-command.field-0 c.in_ok-command.ensures.only c.in-None.is

pub returns-in-None-clause-only : goal.returns-in-None-clause-only
returns-in-None-clause-only g c s d row =
    absurd (no_command _ (map (string_bytes {Z = Global}) c.args.words.now) (map (string_bytes {Z = Global}) c.in-Some.rest.now) c.in-Some.stamp c.in-Some.ensures.some
    c.in_ok-command.field-0 c.in_ok-command.ensures.only c.in-None.is s d row)

pub returns-in-None-clause-plain : goal.returns-in-None-clause-plain
returns-in-None-clause-plain g c d row =
    absurd (no_command _ (map (string_bytes {Z = Global}) c.args.words.now) (map (string_bytes {Z = Global}) c.in-Some.rest.now) c.in-Some.stamp c.in-Some.ensures.some
    c.in_ok-command.field-0 c.in_ok-command.ensures.only c.in-None.is plain_stamp d (row_is_stamped _ _ d row))
