-- The request that stands in front of the bytes held.
use Rattle.std.proofs.Common.{arith, ◌≡◌, ◌∙◌, sym, ap, ap₂, ℕ, ◌+◌, ◌-◌, ◌≤◌, List, ◌++◌, length, take, drop, length-drop}
use Rattle.std.proofs.lemmas.List.{take-append-le, drop-append-le}
use Rattle.web_session.specs.Exchange.{request_at}
use Rattle.web_session.specs.declared.head.Head.{Head}

pub same_request : (held seen left : List ℕ) (head : Head) (end : ℕ) → end + head.length ≤ length held → seen ≡ held
    → record { head = head; body = take (end + head.length - end) (drop end seen) } ≡ (request_at (held ++ left) end head).request
same_request held seen left head end le is =
    let fits : head.length ≤ length (drop end held) = omega (arith, le, length-drop {A = ℕ} end held) in
    let size : end + head.length - end ≡ head.length = omega arith in
    let all : take head.length (drop end (held ++ left)) ≡ take head.length (drop end held) =
    ap (take head.length) (drop-append-le end held left (omega (arith, le))) ∙ take-append-le head.length (drop end held) left fits in
    ap (λ (b : List ℕ). record { head = head; body = b }) (ap₂ (λ (n : ℕ) (l : List ℕ). take n (drop end l)) size is ∙ sym all)
