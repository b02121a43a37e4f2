-- What the bytes held tell is what all the bytes tell.
use Rattle.std.proofs.Common.{rules, arith, ◌≡◌, ◌∙◌, sym, ap, subst, ℕ, Bool, true, false, ◌+◌, ◌≤◌, ◌<◌, if◌then◌else◌, nat_le, List, [], ◌++◌, length, take, None, Some, Result, Ok, Err, length-append, inl, inr}
use Rattle.std.proofs.lemmas.List.{take-append-le}
use Rattle.httparse.proofs.GrammarLemmas.{request_unique}
use Rattle.web_session.specs.Ends.{head_end}
use Rattle.web_session.specs.Heads.{Judges, head_said}
use Rattle.web_session.specs.Exchange.{Told, more, bad, whole, Tells, unended, too_large, ended, told_body, request_at}
use Rattle.std.specs.Prelude.{IfOk}
use Rattle.web_session.specs.NextRequests.{told_of}
use Rattle.web_session.specs.declared.next_request.NextRequest.{NextRequest}
use Rattle.web_session.specs.declared.stop.Stop.{Stop}
use Rattle.web_session.specs.declared.head.Head.{Head}
use Rattle.web_session.specs.declared.status.Status.{Status}
use Rattle.web_session.specs.declared.status.Status.TheVariants.{HeadTooLarge}
use Rattle.web_session.proofs.EndWalk.{append_nil, end_room}

-- a head block says one thing
pub judges_unique : (block : List ℕ) (a b : Result Head Status) → Judges block a → Judges block b → a ≡ b
judges_unique block a b (inl x) (inl y) = x.1 ∙ sym y.1
judges_unique block a b (inl x) (inr y) = absurd (omega (arith, x.0, y.0))
judges_unique block a b (inr x) (inl y) = absurd (omega (arith, x.0, y.0))
judges_unique block a b (inr (few, inl (h, is, said))) (inr (few', inl (k, is', said'))) = said ∙ ap head_said (request_unique block h k [] [] is is').0 ∙ sym said'
judges_unique block a b (inr (few, inl (h, is, said))) (inr (few', inr (none, said'))) = absurd (none h is)
judges_unique block a b (inr (few, inr (none, said))) (inr (few', inl (h, is, said'))) = absurd (none h is)
judges_unique block a b (inr (few, inr (none, said))) (inr (few', inr (none', said'))) = said ∙ sym said'

le_true : (a b : ℕ) → a ≤ b → nat_le a b ≡ true
le_true a b le = search rules

le_false : (a b : ℕ) → b < a → nat_le a b ≡ false
le_false a b lt = search rules

-- what was read of the head block among the bytes held is said of all the bytes
pub tell_end : (held left : List ℕ) (end : ℕ) (said : Result Head Status) (t : Told) → end ≤ length held → head_end (take 16384 held) ≡ Some end → Judges (take end held) said → t ≡ told_body (held ++ left) end said → Tells (held ++ left) t
tell_end held left end said t within found judges is =
    subst (λ (x : Told). Tells (held ++ left) x) (sym is)
    (ended end said (end_room 16384 held left end found) (subst (λ (l : List ℕ). Judges l said) (sym (take-append-le end held left within)) judges))

pub tell_whole : (bytes held left : List ℕ) (end : ℕ) (head : Head) (said : Result Head Status) → said ≡ Ok head → held ++ left ≡ bytes → end + head.length ≤ length held → whole (request_at bytes end head) ≡ told_body bytes end said
tell_whole bytes held left end head said is all le =
    let enough : end + head.length ≤ length bytes = omega (arith, le, length-append held left, ap (λ (l : List ℕ). length l) all) in
    sym (ap (told_body bytes end) is ∙ ap (λ (e : Bool). if e then whole (request_at bytes end head) else more) (le_true (end + head.length) (length bytes) enough))

pub tell_short : (bytes held left : List ℕ) (end : ℕ) (head : Head) (said : Result Head Status) → said ≡ Ok head → held ++ left ≡ bytes → left ≡ [] → length held < end + head.length → more ≡ told_body bytes end said
tell_short bytes held left end head said is all is_over lt =
    let whole_is : held ≡ bytes = sym (append_nil held) ∙ ap (λ (l : List ℕ). held ++ l) (sym is_over) ∙ all in
    let few : length bytes < end + head.length = omega (arith, lt, ap (λ (l : List ℕ). length l) whole_is) in
    sym (ap (told_body bytes end) is ∙ ap (λ (e : Bool). if e then whole (request_at bytes end head) else more) (le_false (end + head.length) (length bytes) few))

-- the head block is too large
pub tell_large : (held left all : List ℕ) → held ++ left ≡ all → head_end (take 16384 held) ≡ None → 16384 ≤ length held → Tells all (bad HeadTooLarge)
tell_large held left all is none le =
    let same : head_end (take 16384 all) ≡ None = ap (λ (l : List ℕ). head_end (take 16384 l)) (sym is) ∙ ap head_end (take-append-le 16384 held left le) ∙ none in
    let long : 16384 ≤ length all = omega (arith, le, length-append held left, ap (λ (l : List ℕ). length l) is) in
    too_large same long

-- the input ended within a head block, or before it
pub tell_ended : (held left all : List ℕ) → held ++ left ≡ all → left ≡ [] → head_end (take 16384 held) ≡ None → length held < 16384 → Tells all more
tell_ended held left all is is_over none lt =
    let whole_is : held ≡ all = sym (append_nil held) ∙ ap (λ (l : List ℕ). held ++ l) (sym is_over) ∙ is in
    let same : head_end (take 16384 all) ≡ None = ap (λ (l : List ℕ). head_end (take 16384 l)) (sym whole_is) ∙ none in
    let short : length all < 16384 = omega (arith, lt, ap (λ (l : List ℕ). length l) whole_is) in
    unended same short

-- the same of bytes that are the same
pub tell_behind : (bytes all : List ℕ) (r : Result NextRequest Stop) → bytes ≡ all → IfOk r (λ l. Tells bytes (told_of bytes l)) → IfOk r (λ l. Tells all (told_of all l))
tell_behind bytes all (Ok l) is tells = subst (λ (x : List ℕ). Tells x (told_of x l)) is tells
tell_behind bytes all (Err e) is tells = tt
