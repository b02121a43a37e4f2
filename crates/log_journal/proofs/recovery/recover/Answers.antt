use Rattle.std.proofs.Common.{List, ℕ, drop, ap, sym, subst, ◌∙◌, ◌++◌, take-append-drop}
use Rattle.std.proofs.lemmas.List.{append-nil}
use Rattle.log_journal.specs.Header.{header_bytes}
use Rattle.log_journal.specs.Head.{IsBorn, HasHead}
use Rattle.log_journal.proofs.recovery.recover.Goals as goal

pub returns-in-Ok-Born-clause-begun : goal.returns-in-Ok-Born-clause-begun
returns-in-Ok-Born-clause-begun g c honest =
    let reads = (g.D.Disk.tells c.args.disk).reads in
    let b = c.new.ensures in
    let head : IsBorn c.args.header reads = subst (λ x. HasHead c.args.header reads x) c.in-Ok-Born.field-0-is (c.in-Ok-Born.ensures.head honest) in
    record {
      rest = drop 16 reads;
      whole = ap (λ d. (g.D.Disk.tells d).reads) b.disk ∙ (c.look.ensures.told honest).reads ∙ sym (take-append-drop 16 reads) ∙ ap (λ (l : List ℕ). l ++ drop 16 reads) (head.starts ∙ sym (append-nil (header_bytes c.args.header)));
      sizes = tt;
      gate = b.gate;
      count = b.count;
    }
