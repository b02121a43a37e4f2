-- What the requests of a connection were told, by the turns of one pass.
use Rattle.std.proofs.Common.{◌≡◌, ◌≢◌, ◌⊎◌, inl, inr, ℕ, ◌+◌, ◌≤◌, false, IsTrue, List, [], ◌∷◌, ◌++◌, Option, Some, None, Result, Ok, Err, length, refl, sym, ap, ◌∙◌, subst, arith, append_assoc}
use Rattle.std.specs.Prelude.{Contains}
use Rattle.std.specs.List.{All}
use Rattle.std.proofs.lemmas.List.{append-nil}
use Rattle.std.proofs.lemmas.List.Elements.{All-nil, All-cons, All-append, All-weaker, All-head, All-tail, Contains-append_left, Contains-append_right}
use Rattle.log_machine.specs.Scheme.{Semantics}
use Rattle.log_machine.specs.Submits.{after_ask, with_entry}
use Rattle.log_machine.specs.declared.reply.LogReply.{LogReply}
use Rattle.log_machine.specs.declared.reply.LogReply.TheVariants as reply
use Rattle.log_lock.specs.Passes.{IsOlder, Known}
use Rattle.log_lock.proofs.Lists.{older_refl, older_trans, older_length}
use Rattle.log_desks.specs.Answered.{placed}
use Rattle.log_machine.specs.Names.{entries_of, filed_by}
use Rattle.log_lock.specs.Turning.{wants_in}
use Rattle.log_desks.specs.Rows.{Replies}
use Rattle.log_desks.specs.Shares.{wants_memory}
use Rattle.log_machine.specs.declared.names.Filed.{Filed}
use Rattle.log_machine.specs.declared.names.RowName.{RowName}
use Rattle.log_desks.proofs.Turning.{entries_length}
use Rattle.web_session.specs.Asks.{Scheme, Request, AnswersOperation, AnswersCall}
use Rattle.web_session.specs.Exchange.{Run}
use Rattle.web_session.specs.Responses.{Answer, failure_of}
use Rattle.web_session.specs.declared.call.ApiCall.{ApiCall}
use Rattle.web_session.specs.declared.status.Status.{Status}
use Rattle.web_session.specs.declared.status.Status.TheVariants.{Okay, Created, BadRequest, NotFound, MethodNotAllowed, LengthRequired, ContentTooLarge, Unprocessable, HeadTooLarge, NotImplemented, Unavailable, NoStorage}
use Rattle.web_workers.specs.Clerks.{Clerking, SubmitsOperation, HandleAnswers, clerk_faults}
use Rattle.web_workers.specs.NewEntry.{TellsFaults}
use Rattle.web_workers.specs.Told.{AreAnswersTo, HasTold, IsAnswerTo, IsAvailable, IsOwnOf, IsSaidOf, Rise, ask_by, ask_in, count_no_storage, count_unavailable, one_if_no_storage, one_if_some, one_if_unavailable, refusal_of}

-- ---- 503 and 507
not_one : (s : Status) → s ≢ Unavailable → one_if_unavailable s ≡ 0
not_one Okay ne = refl
not_one Created ne = refl
not_one BadRequest ne = refl
not_one NotFound ne = refl
not_one MethodNotAllowed ne = refl
not_one LengthRequired ne = refl
not_one ContentTooLarge ne = refl
not_one Unprocessable ne = refl
not_one HeadTooLarge ne = refl
not_one NotImplemented ne = refl
not_one Unavailable ne = absurd (ne refl)
not_one NoStorage ne = refl

not_stored : (s : Status) → s ≢ NoStorage → one_if_no_storage s ≡ 0
not_stored Okay ne = refl
not_stored Created ne = refl
not_stored BadRequest ne = refl
not_stored NotFound ne = refl
not_stored MethodNotAllowed ne = refl
not_stored LengthRequired ne = refl
not_stored ContentTooLarge ne = refl
not_stored Unprocessable ne = refl
not_stored HeadTooLarge ne = refl
not_stored NotImplemented ne = refl
not_stored Unavailable ne = refl
not_stored NoStorage ne = absurd (ne refl)

-- ---- positions that rise
module _ {E : Type 0} where
  pub rise_from : (low mid high : ℕ) (es : List (ℕ × E)) → low ≤ mid → Rise mid high es → Rise low high es
  rise_from low mid high [] le rise = omega (arith, le, rise)
  rise_from low mid high (e ∷ es) le rise = (omega (arith, le, rise.0), rise.1)

  pub rise_append : (low mid high : ℕ) (es fs : List (ℕ × E)) → Rise low mid es → Rise mid high fs → Rise low high (es ++ fs)
  rise_append low mid high [] fs one other = rise_from low mid high fs one other
  rise_append low mid high (e ∷ es) fs one other = (one.0, rise_append e.0 mid high es fs one.1 other)

module _ {Entry Operation Response : Type 0} (semantics : Semantics Entry Operation Response) (own : Operation → Option Entry) (scheme : Scheme Operation (LogReply Response)) (by : RowName) where
  -- ---- a longer list tells as much
  module _ (seen seen' : List Entry) (mine mine' : List (ℕ × Filed Entry)) (older : IsOlder seen seen') (more : (entry : ℕ × Filed Entry) → Contains mine entry → Contains mine' entry) where
    said_later : (operation : Operation) (said : LogReply Response) → IsSaidOf semantics own scheme by seen mine operation said → IsSaidOf semantics own scheme by seen' mine' operation said
    said_later operation (reply.Answered response front) of = record {
      past = of.past;
      answer = of.answer;
      size = of.size;
      stands = older_trans (after_ask semantics of.past operation) seen seen' of.stands older;
      added = λ entry has. more entry (of.added entry has);
    }
    said_later operation (reply.DiskFault undecided) of = tt
    said_later operation reply.NoMemory of = tt

    answer_later : (refusal : Status) (o : Option Operation) (answer : Answer) → IsAnswerTo semantics own scheme by seen mine refusal o answer → IsAnswerTo semantics own scheme by seen' mine' refusal o answer
    answer_later refusal None answer is = is
    answer_later refusal (Some operation) answer (said, is, of) = (said, is, said_later operation said of)

    pub answers_later : (requests : List Request) (answers : List Answer) → AreAnswersTo semantics own scheme by seen mine requests answers → AreAnswersTo semantics own scheme by seen' mine' requests answers
    answers_later [] [] all = tt
    answers_later [] (answer ∷ answers) all = all
    answers_later (request ∷ requests) [] all = all
    answers_later (request ∷ requests) (answer ∷ answers) all = (answer_later (refusal_of request.head.call) (ask_in semantics own scheme by request) answer all.0, answers_later requests answers all.1)

  pub own_more : (front requests rest : List Request) (filed : Filed Entry) → IsOwnOf semantics own scheme by requests filed → IsOwnOf semantics own scheme by (front ++ (requests ++ rest)) filed
  own_more front requests rest filed (request, operation, has, is, same) = (request, operation, Contains-append_right front (requests ++ rest) request (Contains-append_left requests rest request has), is, same)

  -- ---- no request
  pub told_none : (before : Known (Filed Entry)) → HasTold semantics own scheme by [] [] before before
  told_none before = record {
    each = tt;
    added = [];
    mine = sym (append-nil before.mine);
    rise = omega arith;
    owned = All-nil (λ (entry : ℕ × Filed Entry). IsOwnOf semantics own scheme by [] entry.1);
    left = λ entry has. inl has;
    faults = λ available. omega arith;
    wants = λ available. omega arith;
    turns = omega arith;
    seen = older_refl (entries_of before.seen);
    opening = refl;
    lock = refl;
    share = refl;
  }

  -- ---- one request more
  module _ (request : Request) (answer : Answer) (requests : List Request) (answers : List Answer) (before mid after : Known (Filed Entry)) (one : HasTold semantics own scheme by (request ∷ []) (answer ∷ []) before mid) (rest : HasTold semantics own scheme by requests answers mid after) where
    of_one : (filed : Filed Entry) → IsOwnOf semantics own scheme by (request ∷ []) filed → IsOwnOf semantics own scheme by (request ∷ requests) filed
    of_one filed is = own_more [] (request ∷ []) requests filed is

    of_rest : (filed : Filed Entry) → IsOwnOf semantics own scheme by requests filed → IsOwnOf semantics own scheme by (request ∷ requests) filed
    of_rest filed (r, operation, has, is, same) = (r, operation, Contains-append_right (request ∷ []) requests r has, is, same)

    left_of_both : (entry : ℕ × Filed Entry) → Contains before.left entry ⊎ IsOwnOf semantics own scheme by (request ∷ []) entry.1 → Contains before.left entry ⊎ IsOwnOf semantics own scheme by (request ∷ requests) entry.1
    left_of_both entry (inl had) = inl had
    left_of_both entry (inr is) = inr (of_one entry.1 is)

    left_of : (entry : ℕ × Filed Entry) → Contains mid.left entry ⊎ IsOwnOf semantics own scheme by requests entry.1 → Contains before.left entry ⊎ IsOwnOf semantics own scheme by (request ∷ requests) entry.1
    left_of entry (inl had) = left_of_both entry (one.left entry had)
    left_of entry (inr is) = inr (of_rest entry.1 is)

    faults_of : All IsAvailable (request ∷ requests) → after.faults ≡ before.faults + count_unavailable (answer ∷ answers)
    faults_of all =
        let first = one.faults (All-cons IsAvailable request [] (All-head IsAvailable request requests all) (All-nil IsAvailable)) in
        let more = rest.faults (All-tail IsAvailable request requests all) in
        omega (arith, first, more)

    wants_of : All IsAvailable (request ∷ requests) → after.wants ≡ before.wants + count_no_storage (answer ∷ answers)
    wants_of all =
        let first = one.wants (All-cons IsAvailable request [] (All-head IsAvailable request requests all) (All-nil IsAvailable)) in
        let more = rest.wants (All-tail IsAvailable request requests all) in
        omega (arith, first, more)

    pub told_more : HasTold semantics own scheme by (request ∷ requests) (answer ∷ answers) before after
    told_more = record {
      each = (
        answer_later (entries_of mid.seen) (entries_of after.seen) mid.mine after.mine rest.seen (λ entry has. subst (λ l. Contains l entry) (sym rest.mine) (Contains-append_left mid.mine rest.added entry has)) (refusal_of request.head.call) (ask_in semantics own scheme by request) answer one.each.0,
        rest.each,
      );
      added = one.added ++ rest.added;
      mine = rest.mine ∙ (ap (λ l. l ++ rest.added) one.mine ∙ append_assoc before.mine one.added rest.added);
      rise = rise_append (length before.seen) (length mid.seen) (length after.seen) one.added rest.added one.rise rest.rise;
      owned = All-append (λ (entry : ℕ × Filed Entry). IsOwnOf semantics own scheme by (request ∷ requests) entry.1) one.added rest.added
          (All-weaker (λ (entry : ℕ × Filed Entry). IsOwnOf semantics own scheme by (request ∷ []) entry.1) (λ (entry : ℕ × Filed Entry). IsOwnOf semantics own scheme by (request ∷ requests) entry.1) (λ entry is. of_one entry.1 is) one.added one.owned)
          (All-weaker (λ (entry : ℕ × Filed Entry). IsOwnOf semantics own scheme by requests entry.1) (λ (entry : ℕ × Filed Entry). IsOwnOf semantics own scheme by (request ∷ requests) entry.1) (λ entry is. of_rest entry.1 is) rest.added rest.owned);
      left = λ entry has. left_of entry (rest.left entry has);
      faults = faults_of;
      wants = wants_of;
      turns = let first = one.turns in let more = rest.turns in omega (arith, first, more);
      seen = older_trans (entries_of before.seen) (entries_of mid.seen) (entries_of after.seen) one.seen rest.seen;
      opening = rest.opening ∙ one.opening;
      lock = rest.lock ∙ one.lock;
      share = rest.share ∙ one.share;
    }

  -- ---- one request
  module _ (request : Request) (answer : Answer) where
    -- it asks nobody
    told_nobody : (before after : Known (Filed Entry)) (status : Status) → ask_in semantics own scheme by request ≡ None → refusal_of request.head.call ≡ status → answer ≡ failure_of status → (IsAvailable request → (status ≢ Unavailable) × (status ≢ NoStorage)) → after ≡ before → HasTold semantics own scheme by (request ∷ []) (answer ∷ []) before after
    told_nobody before after status none refused is available same =
        subst (λ a. HasTold semantics own scheme by (request ∷ []) (answer ∷ []) before a) (sym same) (record {
          each = (
            subst (λ o. IsAnswerTo semantics own scheme by (entries_of before.seen) before.mine (refusal_of request.head.call) o answer) (sym none) (is ∙ ap failure_of (sym refused)),
            tt,
          );
          added = [];
          mine = sym (append-nil before.mine);
          rise = omega arith;
          owned = All-nil (λ (entry : ℕ × Filed Entry). IsOwnOf semantics own scheme by (request ∷ []) entry.1);
          left = λ entry has. inl has;
          faults = λ all. let zero_of : one_if_unavailable answer.status ≡ 0 = ap (λ (a : Answer). one_if_unavailable a.status) is ∙ not_one status (available (All-head IsAvailable request [] all)).0 in omega (arith, zero_of);
          wants = λ all. let zero_of : one_if_no_storage answer.status ≡ 0 = ap (λ (a : Answer). one_if_no_storage a.status) is ∙ not_stored status (available (All-head IsAvailable request [] all)).1 in omega (arith, zero_of);
          turns = let no_ask : one_if_some (ask_in semantics own scheme by request) ≡ 0 = ap one_if_some none in omega (arith, no_ask);
          seen = older_refl (entries_of before.seen);
          opening = refl;
          lock = refl;
          share = refl;
        })

    module _ (own_added : (past : List Entry) (operation : Operation) (entry : Entry) → semantics.added past operation ≡ Some entry → own operation ≡ Some entry) (unavailable : TellsFaults scheme) where
      module _ (operation : Operation) (operations : ask_in semantics own scheme by request ≡ Some operation) (before after : Known (Filed Entry)) (lock_is : after.lock ≡ before.lock) (share_is : after.allowance ≡ before.allowance) where
        own_here : (filed : Filed Entry) → filed_by (own operation) by ≡ Some filed → IsOwnOf semantics own scheme by (request ∷ []) filed
        own_here filed is = (request, operation, (0, omega arith, refl), operations, is)

        placed_own : (past : List Entry) (o : Option Entry) → semantics.added past operation ≡ o → All (λ (entry : ℕ × Filed Entry). IsOwnOf semantics own scheme by (request ∷ []) entry.1) (placed (length past + 1) o by)
        placed_own past None is = All-nil (λ (entry : ℕ × Filed Entry). IsOwnOf semantics own scheme by (request ∷ []) entry.1)
        placed_own past (Some e) is =
            All-cons (λ (entry : ℕ × Filed Entry). IsOwnOf semantics own scheme by (request ∷ []) entry.1) (length past + 1, record { entry = e; by = by }) []
            (own_here (record { entry = e; by = by }) (ap (λ o. filed_by o by) (own_added past operation e is)))
            (All-nil (λ (entry : ℕ × Filed Entry). IsOwnOf semantics own scheme by (request ∷ []) entry.1))

        placed_rise : (past : List Entry) (low high : ℕ) (o : Option Entry) → low ≤ length past → length (with_entry o past) ≤ high → Rise low high (placed (length past + 1) o by)
        placed_rise past low high None le most = omega (arith, le, most)
        placed_rise past low high (Some e) le most = (omega (arith, le), omega (arith, most))

        told_said : (said : LogReply Response) → answer ≡ record { status = scheme.status said; text = scheme.text said } → after.wants ≡ before.wants + wants_in (wants_memory said) → after.turns ≡ before.turns + 1
            → Replies Unit semantics own by operation said before after → HasTold semantics own scheme by (request ∷ []) (answer ∷ []) before after
        told_said (reply.Answered response front) is wants_is turns_is (past, judged, size, on) = record {
          each = (
            subst (λ o. IsAnswerTo semantics own scheme by (entries_of after.seen) after.mine (refusal_of request.head.call) o answer) (sym operations) (
              reply.Answered response front,
              is,
              record {
                past = past;
                answer = judged;
                size = size;
                stands = on.later;
                added = λ entry has. subst (λ l. Contains l entry) (sym on.mine)
                    (Contains-append_right before.mine (placed (length past + 1) (semantics.added past operation) by) entry (subst (λ n. Contains (placed (n + 1) (semantics.added past operation) by) entry) size has));
              },
            ),
            tt,
          );
          added = placed (length past + 1) (semantics.added past operation) by;
          mine = on.mine;
          rise =
              let low = older_length (entries_of before.seen) past on.earlier in
              let high = older_length (after_ask semantics past operation) (entries_of after.seen) on.later in
              placed_rise past (length before.seen) (length after.seen) (semantics.added past operation) (omega (arith, low, entries_length before.seen)) (omega (arith, high, entries_length after.seen));
          owned = placed_own past (semantics.added past operation) refl;
          left = λ entry has. inl (on.left entry has);
          faults = λ all.
              let none : one_if_unavailable answer.status ≡ 0 = ap (λ (a : Answer). one_if_unavailable a.status) is ∙ not_one (scheme.status (reply.Answered response front)) (λ bad. let no : IsTrue false = (unavailable (reply.Answered response front)).0 bad in let wrong : ⊥ = cc in wrong) in
              omega (arith, none, on.faults);
          wants = λ all.
              let none : one_if_no_storage answer.status ≡ 0 = ap (λ (a : Answer). one_if_no_storage a.status) is ∙ not_stored (scheme.status (reply.Answered response front)) (λ bad. let no : IsTrue false = (unavailable (reply.Answered response front)).2 bad in let wrong : ⊥ = cc in wrong) in
              omega (arith, none, wants_is);
          turns = let one : one_if_some (ask_in semantics own scheme by request) ≡ 1 = ap one_if_some operations in omega (arith, one, turns_is);
          seen = older_trans (entries_of before.seen) past (entries_of after.seen) on.earlier (older_trans past (after_ask semantics past operation) (entries_of after.seen) (older_with (semantics.added past operation) past) on.later);
          opening = on.opening;
          lock = lock_is;
          share = share_is;
        }
          where
            older_with : (o : Option Entry) (past : List Entry) → IsOlder past (with_entry o past)
            older_with None past = older_refl past
            older_with (Some e) past = (e ∷ [], refl)
        told_said (reply.DiskFault undecided) is wants_is turns_is failed = record {
          each = (subst (λ o. IsAnswerTo semantics own scheme by (entries_of after.seen) after.mine (refusal_of request.head.call) o answer) (sym operations) (reply.DiskFault undecided, is, tt), tt);
          added = [];
          mine = failed.mine ∙ sym (append-nil before.mine);
          rise = let le = older_length (entries_of before.seen) (entries_of after.seen) failed.earlier in omega (arith, le, entries_length before.seen, entries_length after.seen);
          owned = All-nil (λ (entry : ℕ × Filed Entry). IsOwnOf semantics own scheme by (request ∷ []) entry.1);
          left = λ entry has. left_now entry (failed.left entry has);
          faults = λ all.
              let one : one_if_unavailable answer.status ≡ 1 = ap (λ (a : Answer). one_if_unavailable a.status) is ∙ ap one_if_unavailable ((unavailable (reply.DiskFault undecided)).1 refl) in
              omega (arith, one, failed.faults);
          wants = λ all.
              let none : one_if_no_storage answer.status ≡ 0 = ap (λ (a : Answer). one_if_no_storage a.status) is ∙ not_stored (scheme.status (reply.DiskFault undecided)) (λ bad. let no : IsTrue false = (unavailable (reply.DiskFault undecided)).2 bad in let wrong : ⊥ = cc in wrong) in
              omega (arith, none, wants_is);
          turns = let one : one_if_some (ask_in semantics own scheme by request) ≡ 1 = ap one_if_some operations in omega (arith, one, turns_is);
          seen = failed.earlier;
          opening = failed.opening;
          lock = lock_is;
          share = share_is;
        }
          where
            left_now : (entry : ℕ × Filed Entry) → Contains before.left entry ⊎ ((undecided ≡ Some entry.0) × (filed_by (own operation) by ≡ Some entry.1)) → Contains before.left entry ⊎ IsOwnOf semantics own scheme by (request ∷ []) entry.1
            left_now entry (inl had) = inl had
            left_now entry (inr (at, of)) = inr (own_here entry.1 of)
        told_said reply.NoMemory is wants_is turns_is starved = record {
          each = (subst (λ o. IsAnswerTo semantics own scheme by (entries_of after.seen) after.mine (refusal_of request.head.call) o answer) (sym operations) (reply.NoMemory, is, tt), tt);
          added = [];
          mine = starved.mine ∙ sym (append-nil before.mine);
          rise = let le = older_length (entries_of before.seen) (entries_of after.seen) starved.earlier in omega (arith, le, entries_length before.seen, entries_length after.seen);
          owned = All-nil (λ (entry : ℕ × Filed Entry). IsOwnOf semantics own scheme by (request ∷ []) entry.1);
          left = λ entry has. inl (starved.left entry has);
          faults = λ all.
              let none : one_if_unavailable answer.status ≡ 0 = ap (λ (a : Answer). one_if_unavailable a.status) is ∙ not_one (scheme.status reply.NoMemory) (λ bad. let no : IsTrue false = (unavailable reply.NoMemory).0 bad in let wrong : ⊥ = cc in wrong) in
              omega (arith, none, starved.faults);
          wants = λ all.
              let one : one_if_no_storage answer.status ≡ 1 = ap (λ (a : Answer). one_if_no_storage a.status) is ∙ ap one_if_no_storage ((unavailable reply.NoMemory).3 refl) in
              omega (arith, one, wants_is);
          turns = let one : one_if_some (ask_in semantics own scheme by request) ≡ 1 = ap one_if_some operations in omega (arith, one, turns_is);
          seen = starved.earlier;
          opening = starved.opening;
          lock = lock_is;
          share = share_is;
        }

      module _ (before after : Clerking Entry) (named : before.by ≡ by) where
        told_ask : (o : Option Operation) → ask_in semantics own scheme by request ≡ o → refusal_of request.head.call ≡ BadRequest → AnswersOperation scheme (SubmitsOperation semantics own) clerk_faults before o answer after
            → HasTold semantics own scheme by (request ∷ []) (answer ∷ []) before.handle after.handle × (after.by ≡ by)
        told_ask None none refused (is, same) =
            (told_nobody before.handle after.handle BadRequest none refused is (λ a. ((λ e. let no : ⊥ = cc in no), (λ e. let no : ⊥ = cc in no))) (ap (λ (c : Clerking Entry). c.handle) same), ap (λ (c : Clerking Entry). c.by) same ∙ named)
        told_ask (Some operation) some refused (said, asked, is) =
            let submit = asked.step in
            (told_said operation some before.handle after.handle submit.lock submit.share said is submit.wants submit.turns (subst (λ n. Replies Unit semantics own n operation said before.handle after.handle) named submit.replies), submit.by ∙ named)

        told_call : (call : Result ApiCall Status) → request.head.call ≡ call → AnswersCall scheme (SubmitsOperation semantics own) clerk_faults before call request.body answer after
            → HasTold semantics own scheme by (request ∷ []) (answer ∷ []) before.handle after.handle × (after.by ≡ by)
        told_call (Err status) at (is, same) =
            (told_nobody before.handle after.handle status (ap (λ c. ask_by semantics own scheme by c request.body) at) (ap refusal_of at) is (λ available. ((λ bad. available.0 (at ∙ ap Err bad)), (λ bad. available.1 (at ∙ ap Err bad)))) (ap (λ (c : Clerking Entry). c.handle) same), ap (λ (c : Clerking Entry). c.by) same ∙ named)
        told_call (Ok call) at asked = told_ask (scheme.ask_of call request.body) (ap (λ c. ask_by semantics own scheme by c request.body) at) (ap refusal_of at) asked

  -- ---- a run of requests
  module _ (own_added : (past : List Entry) (operation : Operation) (entry : Entry) → semantics.added past operation ≡ Some entry → own operation ≡ Some entry) (unavailable : TellsFaults scheme) where
    pub told_run : (requests : List Request) (answers : List Answer) (before after : Clerking Entry) → before.by ≡ by → Run (HandleAnswers semantics own scheme) before requests answers after → HasTold semantics own scheme by requests answers before.handle after.handle
    told_run [] [] before after named same = subst (λ (c : Clerking Entry). HasTold semantics own scheme by [] [] before.handle c.handle) (sym same) (told_none before.handle)
    told_run [] (answer ∷ answers) before after named run = absurd run
    told_run (request ∷ requests) [] before after named run = absurd run
    told_run (request ∷ requests) (answer ∷ answers) before after named (mid, one, rest) =
        let first = told_call request answer own_added unavailable before mid named request.head.call refl one in
        told_more request answer requests answers before.handle mid.handle after.handle first.0 (told_run requests answers mid after first.1 rest)
