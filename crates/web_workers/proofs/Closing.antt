-- What the connections of a port were told, of the list at the end.
use Rattle.std.proofs.Common.{◌≡◌, ◌⊎◌, inl, inr, ℕ, suc, ◌+◌, Bool, IsTrue, List, [], ◌∷◌, ◌++◌, Option, Some, refl, sym, subst, arith}
use Rattle.std.specs.Prelude.{Contains}
use Rattle.std.proofs.lemmas.List.{append-nil}
use Rattle.std.proofs.lemmas.List.Elements.{Contains-append_left, Contains-append_cases, All-contains}
use Rattle.log_machine.specs.Scheme.{Semantics}
use Rattle.log_machine.specs.declared.reply.LogReply.{LogReply}
use Rattle.log_lock.specs.Passes.{IsOlder, Known}
use Rattle.log_lock.proofs.Lists.{older_refl, older_trans}
use Rattle.log_machine.specs.Names.{entries_of}
use Rattle.log_machine.specs.declared.names.Filed.{Filed}
use Rattle.log_machine.specs.declared.names.RowName.{RowName}
use Rattle.web_session.specs.Asks.{Scheme, Request}
use Rattle.web_session.specs.Exchange.{Begins, IsExchange, IsFront, Run, Serves, Stops, unasked, asked, refused, responses}
use Rattle.web_session.specs.Responses.{Answer}
use Rattle.web_session.specs.declared.end.End.{End}
use Rattle.web_session.specs.declared.end.End.TheVariants.{Closed, Cut, Rejected, Limit, ConnectionFault, NoMemory}
use Rattle.web_session.proofs.Steps.{run_append}
use Rattle.web_workers.specs.Clerks.{Clerking, HandleAnswers}
use Rattle.web_workers.specs.Closed.{AreToldOf, HaveTold, IsBroughtBy, IsPart, IsTextOf, IsToldOf, IsWhole, silent, answering, rejecting}
use Rattle.web_workers.specs.Sessions.{AreSessions, Session}
use Rattle.web_workers.specs.NewEntry.{TellsFaults}
use Rattle.web_workers.specs.Told.{HasTold, IsOwnOf}
use Rattle.web_workers.proofs.Rejections.{done_available}
use Rattle.web_workers.proofs.Telling.{answers_later, told_run}

module _ {Entry Operation Response : Type 0} (semantics : Semantics Entry Operation Response) (own : Operation → Option Entry) (scheme : Scheme Operation (LogReply Response)) (own_added : (past : List Entry) (operation : Operation) (entry : Entry) → semantics.added past operation ≡ Some entry → own operation ≡ Some entry) (unavailable : TellsFaults scheme) where
  -- the requests of a session that were answered, and what they made of what the pass knows
  pub record Answered (by : RowName) (before : Known (Filed Entry)) (s : Session Entry) : Type 0 where
    pub done : List Request
    pub answers : List Answer
    pub text : IsTextOf s.bytes s.text done answers s.end
    pub told : HasTold semantics own scheme by done answers before s.after

  module _ (by : RowName) (before : Known (Filed Entry)) (bytes text : List ℕ) (faults : ℕ) (after : Known (Filed Entry)) where
    abbrev session : End → Session Entry
    session end = record { bytes = bytes; text = text; faults = faults; end = end; after = after }

    abbrev start : Clerking Entry
    start = record { by = by; handle = before }

    abbrev stop : Clerking Entry
    stop = record { by = by; handle = after }

    whole_answered : (end : End) → IsExchange (HandleAnswers semantics own scheme) 10000 bytes start stop [] text end
        → ((requests : List Request) (answers : List Answer) → IsWhole bytes text requests answers end → IsTextOf bytes text requests answers end) → Answered by before (session end)
    whole_answered end x is = record {
      done = x.requests;
      answers = x.replies;
      text = is x.requests x.replies (record { ending = x.ending; brings = x.brings; text_is = x.text; way_is = x.way_is });
      told = told_run semantics own scheme by own_added unavailable x.requests x.replies start stop refl x.run;
    }

    -- the requests that come first, and the one that was asked besides, if one was
    part_answered : (end : End) (first : List Request) (left : ℕ) (rest : List ℕ) → Begins 10000 bytes first left rest
        → (replies : List Answer) (mid : Clerking Entry) → Run (HandleAnswers semantics own scheme) start first replies mid
        → (out : List ℕ) → Stops (HandleAnswers semantics own scheme) rest mid stop out left → text ≡ responses first replies ++ out
        → ((requests : List Request) (answers : List Answer) → IsPart bytes text requests answers → IsTextOf bytes text requests answers end) → Answered by before (session end)
    part_answered end first left rest begins replies mid run out (unasked _ same empty) text_is is = record {
      done = first;
      answers = replies;
      text = is first replies (record {
        first = first;
        left = left;
        rest = rest;
        begins = begins;
        replies = replies;
        last = [];
        reply = [];
        out = out;
        stops = silent left empty;
        done_is = sym (append-nil first);
        answers_is = sym (append-nil replies);
        text_is = text_is;
      });
      told = told_run semantics own scheme by own_added unavailable first replies start stop refl (subst (λ (c : Clerking Entry). Run (HandleAnswers semantics own scheme) start first replies c) (sym same) run);
    }
    part_answered end first (suc left) rest begins replies mid run out (asked _ s reply tells submit front) text_is is = record {
      done = first ++ s.request ∷ [];
      answers = replies ++ reply ∷ [];
      text = is (first ++ s.request ∷ []) (replies ++ reply ∷ []) (record {
        first = first;
        left = suc left;
        rest = rest;
        begins = begins;
        replies = replies;
        last = s.request ∷ [];
        reply = reply ∷ [];
        out = out;
        stops = answering left s reply tells front;
        done_is = refl;
        answers_is = refl;
        text_is = text_is;
      });
      told = told_run semantics own scheme by own_added unavailable (first ++ s.request ∷ []) (replies ++ reply ∷ []) start stop refl
          (run_append (HandleAnswers semantics own scheme) first replies (s.request ∷ []) (reply ∷ []) start mid stop run (stop, submit, refl));
    }
    part_answered end first (suc left) rest begins replies mid run out (refused _ status tells same front) text_is is = record {
      done = first;
      answers = replies;
      text = is first replies (record {
        first = first;
        left = suc left;
        rest = rest;
        begins = begins;
        replies = replies;
        last = [];
        reply = [];
        out = out;
        stops = rejecting left status tells front;
        done_is = sym (append-nil first);
        answers_is = sym (append-nil replies);
        text_is = text_is;
      });
      told = told_run semantics own scheme by own_added unavailable first replies start stop refl (subst (λ (c : Clerking Entry). Run (HandleAnswers semantics own scheme) start first replies c) (sym same) run);
    }

    front_answered : (end : End) → IsFront (HandleAnswers semantics own scheme) 10000 bytes start stop [] text
        → ((requests : List Request) (answers : List Answer) → IsPart bytes text requests answers → IsTextOf bytes text requests answers end) → Answered by before (session end)
    front_answered end x is = part_answered end x.done x.left x.rest x.begins x.replies x.mid x.run x.out x.stops x.text is

    answered : (end : End) → Serves (HandleAnswers semantics own scheme) 10000 bytes start stop [] text end → Answered by before (session end)
    answered ConnectionFault x = front_answered ConnectionFault x (λ requests answers is. is)
    answered NoMemory x = front_answered NoMemory x (λ requests answers is. is)
    answered Closed x = whole_answered Closed x (λ requests answers is. is)
    answered Cut x = whole_answered Cut x (λ requests answers is. is)
    answered Rejected x = whole_answered Rejected x (λ requests answers is. is)
    answered Limit x = whole_answered Limit x (λ requests answers is. is)

  module _ (port : ℕ) (honest : Bool) (is_honest : IsTrue honest) where
    -- what is known of the pass at the end, of a list that goes on from what it has seen
    pub record Known_of (seen : List Entry) (number : ℕ) (sessions : List (Session Entry)) (first last : Known (Filed Entry)) : Type 0 where
      pub have : HaveTold semantics own scheme port seen number sessions first last
      pub later : IsOlder (entries_of first.seen) (entries_of last.seen)
      pub kept : (entry : ℕ × Filed Entry) → Contains first.mine entry → Contains last.mine entry

    -- one connection more, before those
    module _ (seen : List Entry) (number : ℕ) (first : Known (Filed Entry)) (s : Session Entry) (sessions : List (Session Entry)) (last : Known (Filed Entry)) (older : IsOlder (entries_of last.seen) seen) (here : Answered (record { desk = port; row = number }) first s) (more : Known_of seen (number + 1) sessions s.after last) where
      abbrev by : RowName
      by = record { desk = port; row = number }

      abbrev first_told : IsToldOf semantics own scheme seen last.mine by s
      first_told = record {
        done = here.done;
        answers = here.answers;
        text = here.text;
        each = answers_later semantics own scheme by (entries_of s.after.seen) seen s.after.mine last.mine (older_trans (entries_of s.after.seen) (entries_of last.seen) seen more.later older) more.kept here.done here.answers here.told.each;
      }

      abbrev both_told : AreToldOf semantics own scheme port seen last.mine number (s ∷ sessions)
      both_told = (first_told, more.have.told)

      abbrev IsBrought : Filed Entry → Type 0
      IsBrought filed = IsBroughtBy semantics own scheme port seen last.mine number (s ∷ sessions) both_told filed

      mine_first : (entry : ℕ × Filed Entry) → Contains first.mine entry ⊎ Contains here.told.added entry → Contains first.mine entry ⊎ IsBrought entry.1
      mine_first entry (inl had) = inl had
      mine_first entry (inr new) = inr (inl (All-contains (λ (e : ℕ × Filed Entry). IsOwnOf semantics own scheme by here.done e.1) here.told.added entry here.told.owned new))

      mine_of : (entry : ℕ × Filed Entry) → Contains s.after.mine entry ⊎ IsBroughtBy semantics own scheme port seen last.mine (number + 1) sessions more.have.told entry.1 → Contains first.mine entry ⊎ IsBrought entry.1
      mine_of entry (inl had) = mine_first entry (Contains-append_cases first.mine here.told.added entry (subst (λ l. Contains l entry) here.told.mine had))
      mine_of entry (inr later) = inr (inr later)

      left_first : (entry : ℕ × Filed Entry) → Contains first.left entry ⊎ IsOwnOf semantics own scheme by here.done entry.1 → Contains first.left entry ⊎ IsBrought entry.1
      left_first entry (inl had) = inl had
      left_first entry (inr new) = inr (inl new)

      left_of : (entry : ℕ × Filed Entry) → Contains s.after.left entry ⊎ IsBroughtBy semantics own scheme port seen last.mine (number + 1) sessions more.have.told entry.1 → Contains first.left entry ⊎ IsBrought entry.1
      left_of entry (inl had) = left_first entry (here.told.left entry had)
      left_of entry (inr later) = inr (inr later)

      told_more : Known_of seen number (s ∷ sessions) first last
      told_more = record {
        have = record {
          told = both_told;
          mine = λ entry has. mine_of entry (more.have.mine entry has);
          left = λ entry has. left_of entry (more.have.left entry has);
          faults =
              let one = here.told.faults (done_available s.bytes s.text here.done here.answers s.end here.text) in
              let other = more.have.faults in
              omega (arith, one, other);
          wants =
              let one = here.told.wants (done_available s.bytes s.text here.done here.answers s.end here.text) in
              let other = more.have.wants in
              omega (arith, one, other);
          turns = let one = here.told.turns in let other = more.have.turns in omega (arith, one, other);
        };
        later = older_trans (entries_of first.seen) (entries_of s.after.seen) (entries_of last.seen) here.told.seen more.later;
        kept = λ entry has. more.kept entry (subst (λ l. Contains l entry) (sym here.told.mine) (Contains-append_left first.mine here.told.added entry has));
      }

    pub told_sessions : (seen : List Entry) (number : ℕ) (first : Known (Filed Entry)) (sessions : List (Session Entry)) (last : Known (Filed Entry)) → IsOlder (entries_of last.seen) seen → AreSessions semantics own scheme honest port number first sessions last → Known_of seen number sessions first last
    told_sessions seen number first [] last older same =
        subst (λ l. Known_of seen number [] first l) (sym same) (record {
          have = record { told = tt; mine = λ entry has. inl has; left = λ entry has. inl has; faults = omega arith; wants = omega arith; turns = omega arith };
          later = older_refl (entries_of first.seen);
          kept = λ entry has. has;
        })
    told_sessions seen number first (s ∷ sessions) last older (one, rest) =
        told_more seen number first s sessions last older (answered (record { desk = port; row = number }) first s.bytes s.text s.faults s.after s.end (one.exchange is_honest)) (told_sessions seen (number + 1) s.after sessions last older rest)
