-- What a pass knows after the turn of a row.
use Rattle.std.proofs.Common.{◌≡◌, ◌⊎◌, inl, inr, ⊎_elim, ℕ, suc, ◌+◌, Bool, true, false, List, [], ◌∷◌, ◌++◌, Option, Some, None, length, refl, sym, ap, ◌∙◌, subst, arith}
use Rattle.std.specs.Prelude.{is_some, if◌then◌else◌, Contains}
use Rattle.std.proofs.lemmas.List.{append-nil}
use Rattle.log_machine.specs.Scheme.{Semantics}
use Rattle.log_machine.specs.Submits.{IsAnswered, with_entry, after_ask}
use Rattle.log_machine.specs.declared.reply.LogReply.{LogReply}
use Rattle.log_machine.specs.declared.reply.LogReply.TheVariants.{Answered, DiskFault, NoMemory}
use Rattle.log_lock.specs.declared.turned.Snapshot.{Snapshot}
use Rattle.log_lock.specs.Turning.{Says, Admitted, Undecided, Failed, Nothing, Goes, stays, stays_pending, settles, fails, admits, leaves, faults_in}
use Rattle.log_lock.specs.Passes.{Known, IsOlder, TakesSubmit, with_turn}
use Rattle.log_lock.proofs.Lists.{older_refl, older_trans}
use Rattle.log_lock.proofs.Laws.{admitted_by, mine_after, left_after}
use Rattle.log_lock.proofs.Learning.{turn_seen}
use Rattle.log_machine.specs.declared.names.RowName.{RowName}
use Rattle.log_machine.specs.declared.names.Filed.{Filed}
use Rattle.log_machine.specs.Names.{filed_by, entries_of, entry_of}
use Rattle.log_desks.specs.Notes.{says_of}
use Rattle.log_desks.specs.Shares.{IsTurn}
use Rattle.log_desks.specs.Answered.{placed}
use Rattle.log_desks.specs.Rows.{IsFaulted, Replies}

module _ {E : Type 0} where
  pub entries_append : (a b : List (Filed E)) → entries_of (a ++ b) ≡ entries_of a ++ entries_of b
  entries_append [] b = refl
  entries_append (f ∷ a) b = ap (λ l. f.entry ∷ l) (entries_append a b)

  pub entries_length : (a : List (Filed E)) → length (entries_of a) ≡ length a
  entries_length [] = refl
  entries_length (f ∷ a) = ap (λ n. suc n) (entries_length a)

  pub entries_older : (a b : List (Filed E)) → IsOlder a b → IsOlder (entries_of a) (entries_of b)
  entries_older a b (added, is) = (entries_of added, ap entries_of is ∙ entries_append added a)

  pub older_with : (a : List E) (o : Option E) → IsOlder a (with_entry o a)
  older_with a None = older_refl a
  older_with a (Some e) = (e ∷ [], refl)

  pub older_is : (a b c : List E) → IsOlder a b → b ≡ c → IsOlder a c
  older_is a b c older is = subst (IsOlder a) is older

module _ {Entry Operation Response : Type 0} (Error : Type 0) (semantics : Semantics Entry Operation Response) (own : Operation → Option Entry) (adds : Response → Bool) (own_added : (past : List Entry) (operation : Operation) (entry : Entry) → semantics.added past operation ≡ Some entry → own operation ≡ Some entry) (adds_added : (past : List Entry) (operation : Operation) → adds (semantics.answer past operation) ≡ is_some (semantics.added past operation)) where
  -- what a reply says was admitted is what its row adds
  says_placed : (past : List Entry) (operation : Operation) (by : RowName) (response : Response) (front : ℕ) → response ≡ semantics.answer past operation → front ≡ length past
      → admitted_by (filed_by (own operation) by) (says_of adds (Answered response front)) ≡ placed (length past + 1) (semantics.added past operation) by
  says_placed past operation by response front is seen = go (semantics.added past operation) refl
    where
      nothing : (o : Option (Filed Entry)) → admitted_by o Nothing ≡ []
      nothing None = refl
      nothing (Some f) = refl

      go : (added : Option Entry) → semantics.added past operation ≡ added → admitted_by (filed_by (own operation) by) (says_of adds (Answered response front)) ≡ placed (length past + 1) (semantics.added past operation) by
      go None none =
          let no : adds response ≡ false = ap adds is ∙ (adds_added past operation ∙ ap is_some none) in
          ap (λ b. admitted_by (filed_by (own operation) by) (if b then Admitted (front + 1) else Nothing)) no ∙ (nothing (filed_by (own operation) by) ∙ sym (ap (λ a. placed (length past + 1) a by) none))
      go (Some e) some =
          let yes : adds response ≡ true = ap adds is ∙ (adds_added past operation ∙ ap is_some some) in
          ap (λ b. admitted_by (filed_by (own operation) by) (if b then Admitted (front + 1) else Nothing)) yes
          ∙ (ap (λ o. admitted_by (filed_by o by) (Admitted (front + 1))) (own_added past operation e some)
          ∙ (ap (λ n. placed (n + 1) (Some e) by) seen ∙ sym (ap (λ a. placed (length past + 1) a by) some)))

  module _ (by : RowName) (operation : Operation) (before after : Known (Filed Entry)) where
    abbrev Turn : LogReply Response → Type 0
    Turn reply = TakesSubmit (filed_by (own operation) by) (says_of adds reply) (λ old new. IsTurn semantics old operation reply new) before after

    opening_with : (says : Says) (old new : Snapshot (Filed Entry)) (goes : Goes (filed_by (own operation) by) old says new) → (with_turn goes before).opening ≡ before.opening
    opening_with says old new (stays a b c) = refl
    opening_with says old new (stays_pending e a b c d) = refl
    opening_with says old new (settles a b c) = refl
    opening_with says old new (fails a b c) = refl
    opening_with says old new (admits e a b c d) = refl
    opening_with says old new (leaves e a b c d) = refl

    module _ (reply : LogReply Response) (submit : Turn reply) where
      opening_is : after.opening ≡ before.opening
      opening_is = ap (λ (k : Known (Filed Entry)). k.opening) submit.whole ∙ opening_with (says_of adds reply) submit.old submit.new submit.goes

      faults_is : after.faults ≡ before.faults + faults_in (says_of adds reply)
      faults_is = ap (λ (k : Known (Filed Entry)). k.faults) submit.whole

      seen_is : after.seen ≡ submit.new.list
      seen_is = ap (λ (k : Known (Filed Entry)). k.seen) submit.whole

      older : IsOlder (entries_of before.seen) (entries_of after.seen)
      older = entries_older before.seen after.seen (turn_seen (filed_by (own operation) by) (says_of adds reply) (λ old new. IsTurn semantics old operation reply new) before after submit)

      mine_is : after.mine ≡ before.mine ++ admitted_by (filed_by (own operation) by) (says_of adds reply)
      mine_is = mine_after (filed_by (own operation) by) (says_of adds reply) (λ old new. IsTurn semantics old operation reply new) before after submit

      left_is : (entry : ℕ × Filed Entry) → Contains after.left entry → Contains before.left entry ⊎ ((filed_by (own operation) by ≡ Some entry.1) × (says_of adds reply ≡ Undecided entry.0))
      left_is = left_after (filed_by (own operation) by) (says_of adds reply) (λ old new. IsTurn semantics old operation reply new) before after submit

    -- an answer that isn't undecided leaves nothing
    left_same : (reply : LogReply Response) (submit : Turn reply) → ((position : ℕ) → says_of adds reply ≡ Undecided position → ⊥) → (entry : ℕ × Filed Entry) → Contains after.left entry → Contains before.left entry
    left_same reply submit differs entry has = ⊎_elim (λ a. a) (λ b. absurd (differs entry.0 b.1)) (left_is reply submit entry has)

    none_more : (says : Says) → ((position : ℕ) → says ≡ Admitted position → ⊥) → (o : Option (Filed Entry)) → admitted_by o says ≡ []
    none_more says differs None = refl
    none_more (Admitted p) differs (Some f) = absurd (differs p refl)
    none_more (Undecided p) differs (Some f) = refl
    none_more Failed differs (Some f) = refl
    none_more Nothing differs (Some f) = refl

    mine_same : (reply : LogReply Response) (submit : Turn reply) → ((position : ℕ) → says_of adds reply ≡ Admitted position → ⊥) → after.mine ≡ before.mine
    mine_same reply submit differs = mine_is reply submit ∙ (ap (λ l. before.mine ++ l) (none_more (says_of adds reply) differs (filed_by (own operation) by)) ∙ append-nil before.mine)

    answered : (response : Response) (front : ℕ) (submit : Turn (Answered response front)) → Replies Error semantics own by operation (Answered response front) before after
    answered response front submit =
        let past = with_entry (entry_of submit.old.pending) (entries_of submit.old.list) in
        let meets : IsAnswered semantics past operation response front (entries_of submit.new.list) (entry_of submit.new.pending) = submit.meets in
        let begins : IsOlder (entries_of before.seen) past = older_trans (entries_of before.seen) (entries_of submit.old.list) past (entries_older before.seen submit.old.list submit.earlier) (older_with (entries_of submit.old.list) (entry_of submit.old.pending)) in
        let list : after_ask semantics past operation ≡ entries_of after.seen = sym (ap entries_of (seen_is (Answered response front) submit) ∙ meets.list) in (
          past,
          meets.answer,
          meets.seen,
          record {
            earlier = begins;
            later = older_is (after_ask semantics past operation) (after_ask semantics past operation) (entries_of after.seen) (older_refl (after_ask semantics past operation)) list;
            mine = mine_is (Answered response front) submit ∙ ap (λ l. before.mine ++ l) (says_placed past operation by response front meets.answer meets.seen);
            left = left_same (Answered response front) submit (undecided_not (adds response) front);
            faults = faults_is (Answered response front) submit ∙ plus_none (adds response) front;
            opening = opening_is (Answered response front) submit;
          },
        )
      where
        undecided_not : (b : Bool) (front position : ℕ) → (if b then Admitted (front + 1) else Nothing) ≡ Undecided position → ⊥
        undecided_not true front position same = cc
        undecided_not false front position same = cc

        plus_none : (b : Bool) (front : ℕ) → before.faults + faults_in (if b then Admitted (front + 1) else Nothing) ≡ before.faults
        plus_none true front = omega arith
        plus_none false front = omega arith

    faulted : (undecided : Option ℕ) (submit : Turn (DiskFault undecided)) → IsFaulted own by operation undecided before after
    faulted None submit = record {
      earlier = older (DiskFault None) submit;
      mine = mine_same (DiskFault None) submit (λ p e. let no : ⊥ = cc in no);
      left = λ entry has. inl (left_same (DiskFault None) submit (λ p e. let no : ⊥ = cc in no) entry has);
      named = λ p e. absurd (let no : ⊥ = cc in no);
      faults = faults_is (DiskFault None) submit;
      opening = opening_is (DiskFault None) submit;
    }
    faulted (Some position) submit = record {
      earlier = older (DiskFault (Some position)) submit;
      mine = mine_same (DiskFault (Some position)) submit (λ p e. let no : ⊥ = cc in no);
      left = λ entry has. ⊎_elim (λ a. inl a) (λ b. inr (let same : position ≡ entry.0 = position_of position entry.0 b.1 in ap Some same, b.0)) (left_is (DiskFault (Some position)) submit entry has);
      named = λ p e. let same : position ≡ p = cc in sym same ∙ (place submit.meets ∙ ap (λ n. n + 1) (entries_length submit.new.list ∙ sym (ap length (seen_is (DiskFault (Some position)) submit))));
      faults = faults_is (DiskFault (Some position)) submit;
      opening = opening_is (DiskFault (Some position)) submit;
    }
      where
        position_of : (p q : ℕ) → Undecided p ≡ Undecided q → p ≡ q
        position_of p q same = cc

        place : IsTurn semantics submit.old operation (DiskFault (Some position)) submit.new → position ≡ length (entries_of submit.new.list) + 1
        place (inl u) = u.next ∙ ap (λ l. length l + 1) (sym u.list)
        place (inr l) = l.next ∙ ap (λ k. length k + 1) (sym l.list)

    pub replies : (reply : LogReply Response) → Turn reply → Replies Error semantics own by operation reply before after
    replies (Answered response front) submit = answered response front submit
    replies (DiskFault undecided) submit = faulted undecided submit
    replies NoMemory submit = record {
      earlier = older NoMemory submit;
      mine = mine_same NoMemory submit (λ p e. let no : ⊥ = cc in no);
      left = left_same NoMemory submit (λ p e. let no : ⊥ = cc in no);
      faults = faults_is NoMemory submit ∙ (let none : before.faults + 0 ≡ before.faults = omega arith in none);
      opening = opening_is NoMemory submit;
    }
