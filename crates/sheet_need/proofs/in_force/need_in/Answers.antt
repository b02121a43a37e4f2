use Rattle.sheet_need.proofs.NeedFound.{found}
use Rattle.sheet_need.proofs.in_force.need_in.Goals as goal

pub returns : goal.returns
returns g c =
    found c.args.plain.now c.args.student c.args.year _ c.application-at.result.1 c.application-at.result.0 c.book_at-book_at.result c.new-out.result.items c.put_found.new.out.items
    c.book-book.ensures.value c.application-at.ensures.application c.application-at.ensures.position c.book_at-book_at.ensures.value c.new-out.ensures.items c.in_ok-put_found.ensures
