use Rattle.office_rounds.proofs.InLine.{award_order_total, rises}
use Rattle.office_rounds.proofs.OneList.{one_list}
use Rattle.office_rounds.proofs.laws.one_list_of_candidates.Goals as goal

pub returns : goal.returns
returns c = λ cs ds one other.
    one_list award_order_total cs ds (rises cs one.0) (rises ds other.0) (λ q. ((λ h. (other.1 q).1 ((one.1 q).0 h)), (λ h. (one.1 q).1 ((other.1 q).0 h))))
