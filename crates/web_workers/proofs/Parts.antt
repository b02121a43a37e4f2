-- What a session leaves that can't go on begins the exchange of all the bytes.
use Rattle.std.proofs.Common.{◌≡◌, ℕ, suc, List, [], ◌∷◌, ◌++◌, length, refl, sym, ap, ◌∙◌, subst, arith, append_assoc, length-append}
use Rattle.std.proofs.lemmas.List.{append-nil}
use Rattle.web_session.specs.Asks.{Request}
use Rattle.web_session.specs.Exchange.{Brings, Ending, IsFront, Run, Stops, unasked, asked, refused, written}
use Rattle.web_session.specs.Responses.{Answer}
use Rattle.web_session.specs.ConnectionState.{IsPrefix}
use Rattle.web_session.proofs.Brought.{front_begins}
use Rattle.web_workers.specs.Closed.{IsBegunBy, IsPart, StopsAt, silent, answering, rejecting}

-- a clerk that does nothing but note what it was asked and what it answered
abbrev Noted : Type 0
Noted = List Request × List Answer

abbrev Notes : Noted → Request → Answer → Noted → Type 0
Notes before request answer after = after ≡ (before.0 ++ request ∷ [], before.1 ++ answer ∷ [])

run_notes : (rs : List Request) (answers : List Answer) (before : Noted) → length answers ≡ length rs → (after : Noted) × Run Notes before rs answers after
run_notes [] [] before same = (before, refl)
run_notes [] (a ∷ answers) before same = absurd (omega (arith, same))
run_notes (r ∷ rs) [] before same = absurd (omega (arith, same))
run_notes (r ∷ rs) (a ∷ answers) before same =
    let mid : Noted = (before.0 ++ r ∷ [], before.1 ++ a ∷ []) in
    let more = run_notes rs answers mid (omega (arith, same)) in
    (more.0, (mid, refl, more.1))

requests_noted : (rs : List Request) (answers : List Answer) (before after : Noted) → Run Notes before rs answers after → after.0 ≡ before.0 ++ rs
requests_noted [] [] before after same = ap (λ (n : Noted). n.0) same ∙ sym (append-nil before.0)
requests_noted [] (a ∷ answers) before after run = absurd run
requests_noted (r ∷ rs) [] before after run = absurd run
requests_noted (r ∷ rs) (a ∷ answers) before after (mid, is, run) = requests_noted rs answers mid after run ∙ (ap (λ (n : Noted). n.0 ++ rs) is ∙ append_assoc before.0 (r ∷ []) rs)

answers_noted : (rs : List Request) (answers : List Answer) (before after : Noted) → Run Notes before rs answers after → after.1 ≡ before.1 ++ answers
answers_noted [] [] before after same = ap (λ (n : Noted). n.1) same ∙ sym (append-nil before.1)
answers_noted [] (a ∷ answers) before after run = absurd run
answers_noted (r ∷ rs) [] before after run = absurd run
answers_noted (r ∷ rs) (a ∷ answers) before after (mid, is, run) = answers_noted rs answers mid after run ∙ (ap (λ (n : Noted). n.1 ++ answers) is ∙ append_assoc before.1 (a ∷ []) answers)

stops_size : (rest out : List ℕ) (last : List Request) (reply : List Answer) (n : ℕ) → StopsAt rest out last reply n → length reply ≡ length last
stops_size rest out _ _ n (silent _ empty) = refl
stops_size rest out _ _ (suc n) (answering _ s answer tells front) = refl
stops_size rest out _ _ (suc n) (rejecting _ status tells front) = refl

-- the clerk's notes where the session stopped
pub record Stopped (rest out : List ℕ) (last : List Request) (reply : List Answer) (n : ℕ) (mid : Noted) : Type 0 where
  pub after : Noted
  pub requests : after.0 ≡ mid.0 ++ last
  pub answers : after.1 ≡ mid.1 ++ reply
  pub stops : Stops Notes rest mid after out n

stops_noted : (rest out : List ℕ) (last : List Request) (reply : List Answer) (n : ℕ) (mid : Noted) → StopsAt rest out last reply n → Stopped rest out last reply n mid
stops_noted rest out _ _ n mid (silent _ empty) = record { after = mid; requests = sym (append-nil mid.0); answers = sym (append-nil mid.1); stops = unasked n refl empty }
stops_noted rest out _ _ (suc n) mid (answering _ s answer tells front) = record {
  after = (mid.0 ++ s.request ∷ [], mid.1 ++ answer ∷ []);
  requests = refl;
  answers = refl;
  stops = asked n s answer tells refl front;
}
stops_noted rest out _ _ (suc n) mid (rejecting _ status tells front) = record { after = mid; requests = sym (append-nil mid.0); answers = sym (append-nil mid.1); stops = refused n status tells refl front }

pub part_begins : (bytes text : List ℕ) (done : List Request) (answers : List Answer) (requests : List Request) (ending : Ending) → IsPart bytes text done answers → length answers ≡ length done → Brings 10000 bytes requests ending → IsBegunBy text done answers requests ending
part_begins bytes text done answers requests ending p same b =
    let start : Noted = ([], []) in
    let sizes : length p.replies ≡ length p.first = omega (
      arith,
      same,
      ap (λ (l : List Request). length l) p.done_is,
      ap (λ (l : List Answer). length l) p.answers_is,
      length-append p.first p.last,
      length-append p.replies p.reply,
      stops_size p.rest p.out p.last p.reply p.left p.stops,
    ) in
    let first = run_notes p.first p.replies start sizes in
    let s = stops_noted p.rest p.out p.last p.reply p.left first.0 p.stops in
    let front : IsFront Notes 10000 bytes start s.after [] text = record {
      done = p.first;
      left = p.left;
      rest = p.rest;
      begins = p.begins;
      replies = p.replies;
      mid = first.0;
      run = first.1;
      out = p.out;
      stops = s.stops;
      text = p.text_is;
    } in
    let f = front_begins Notes 10000 bytes requests ending start s.after [] text front b in
    let done_is : f.done ≡ done =
    sym (requests_noted f.done f.replies start s.after f.run) ∙ (s.requests ∙ (ap (λ (l : List Request). l ++ p.last) (requests_noted p.first p.replies start first.0 first.1) ∙ sym p.done_is)) in
    let answers_is : f.replies ≡ answers =
    sym (answers_noted f.done f.replies start s.after f.run) ∙ (s.answers ∙ (ap (λ (l : List Answer). l ++ p.reply) (answers_noted p.first p.replies start first.0 first.1) ∙ sym p.answers_is)) in
    record {
      others = f.others;
      cut = f.cut ∙ ap (λ (l : List Request). l ++ f.others) done_is;
      front = λ later.
          subst (λ (t : List ℕ). IsPrefix t (written requests (answers ++ later) ending)) (sym f.text)
          (subst (λ (l : List Answer). IsPrefix f.out (written requests (l ++ later) ending)) answers_is (f.front later));
    }
