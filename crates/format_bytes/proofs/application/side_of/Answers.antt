use Rattle.std.proofs.Common.{◌≡◌, [], length, refl, rules}
use Rattle.format_kinds.specs.Kinds.{household_slots}
use Rattle.format_bytes.proofs.Applications.{side_is}
use Rattle.format_bytes.proofs.Slots.{as_many}
use Rattle.format_bytes.proofs.application.side_of.Goals as goal

pub unreachable-requires : goal.unreachable-requires
unreachable-requires c =
    let len : length c.args.numbers.now ≡ 16 = as_many (household_slots []) c.requires.in_range.0 c.args.numbers.now refl c.requires.in_range.1 in
    search rules

pub overflow_cast-result : goal.overflow_cast-result
overflow_cast-result c = (side_is c.args.numbers.now c.requires.in_range).casts.0

pub overflow_cast-result-2 : goal.overflow_cast-result-2
overflow_cast-result-2 c = (side_is c.args.numbers.now c.requires.in_range).casts.1

pub overflow_cast-result-3 : goal.overflow_cast-result-3
overflow_cast-result-3 c = (side_is c.args.numbers.now c.requires.in_range).casts.2

pub overflow_cast-result-4 : goal.overflow_cast-result-4
overflow_cast-result-4 c = (side_is c.args.numbers.now c.requires.in_range).casts.3

pub overflow_cast-result-5 : goal.overflow_cast-result-5
overflow_cast-result-5 c = (side_is c.args.numbers.now c.requires.in_range).casts.4

pub overflow_cast-result-6 : goal.overflow_cast-result-6
overflow_cast-result-6 c = (side_is c.args.numbers.now c.requires.in_range).casts.5

pub overflow_cast-result-7 : goal.overflow_cast-result-7
overflow_cast-result-7 c = (side_is c.args.numbers.now c.requires.in_range).casts.6

pub overflow_cast-result-8 : goal.overflow_cast-result-8
overflow_cast-result-8 c = (side_is c.args.numbers.now c.requires.in_range).casts.7

pub overflow_cast-result-9 : goal.overflow_cast-result-9
overflow_cast-result-9 c = (side_is c.args.numbers.now c.requires.in_range).casts.8

pub overflow_cast-result-10 : goal.overflow_cast-result-10
overflow_cast-result-10 c = (side_is c.args.numbers.now c.requires.in_range).casts.9

pub overflow_cast-result-11 : goal.overflow_cast-result-11
overflow_cast-result-11 c = (side_is c.args.numbers.now c.requires.in_range).casts.10

pub overflow_cast-result-12 : goal.overflow_cast-result-12
overflow_cast-result-12 c = (side_is c.args.numbers.now c.requires.in_range).casts.11

pub overflow_cast-result-13 : goal.overflow_cast-result-13
overflow_cast-result-13 c = (side_is c.args.numbers.now c.requires.in_range).casts.12

pub overflow_cast-result-14 : goal.overflow_cast-result-14
overflow_cast-result-14 c = (side_is c.args.numbers.now c.requires.in_range).casts.13

pub overflow_cast-result-15 : goal.overflow_cast-result-15
overflow_cast-result-15 c = (side_is c.args.numbers.now c.requires.in_range).casts.14

pub overflow_cast-result-16 : goal.overflow_cast-result-16
overflow_cast-result-16 c = (side_is c.args.numbers.now c.requires.in_range).casts.15

pub invariant_of-result : goal.invariant_of-result
invariant_of-result c = record { in_range = (side_is c.args.numbers.now c.requires.in_range).ranges }

pub returns : goal.returns
returns c = record { value = (side_is c.args.numbers.now c.requires.in_range).whole }
