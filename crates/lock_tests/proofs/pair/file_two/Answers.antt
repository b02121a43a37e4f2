use Rattle.std.proofs.Common.{◌≡◌, [], ◌++◌, rules, subst}
use Rattle.lock_tests.specs.Counts.{accepted}
use Rattle.lock_tests.proofs.Counted.{both_stand}
use Rattle.lock_tests.proofs.pair.file_two.Goals as goal

pub returns-in-Ok : goal.returns-in-Ok
returns-in-Ok g c =
    let none : c.split-mine.result.0.mine ≡ [] = search rules in
    let none_too : c.split-mine.result.1.mine ≡ [] = search rules in
    record {
      snapshot = both_stand c.join-handle.result.0.0 c.join-handle.result.1.0 c.join.new.handle _ c.join-handle.result.0.1 c.join-handle.result.1.1 c.args.one c.args.other c.close.ensures.closes (search rules)
          (subst (λ l. c.join-handle.result.0.0.mine ≡ l ++ accepted c.join-handle.result.0.1 c.args.one) none c.join-handle.ensures.first.1)
          (subst (λ l. c.join-handle.result.1.0.mine ≡ l ++ accepted c.join-handle.result.1.1 c.args.other) none_too c.join-handle.ensures.second.1);
    }
