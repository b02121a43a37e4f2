-- The connections of a port, one after the other.
use Rattle.std.proofs.Common.{◌≡◌, ◌≢◌, ℕ, ◌+◌, Bool, true, false, IsTrue, List, [], ◌∷◌, ◌++◌, Option, Some, None, length, map, refl, sym, ap, ◌∙◌, subst, arith, append_assoc, length-append}
use Rattle.std.specs.Prelude.{◌||◌, IfSome, IfNone}
use Rattle.std.specs.List.{list_any}
use Rattle.std.proofs.lemmas.List.{append-nil}
use Rattle.io_traits.specs.Faults.{Rose}
use Rattle.log_machine.specs.Scheme.{Semantics}
use Rattle.log_machine.specs.declared.reply.LogReply.{LogReply}
use Rattle.log_lock.specs.Passes.{Known}
use Rattle.log_machine.specs.declared.names.Filed.{Filed}
use Rattle.log_machine.specs.declared.names.RowName.{RowName}
use Rattle.web_session.specs.Asks.{Scheme}
use Rattle.web_session.specs.Exchange.{Serves, ServesNear}
use Rattle.web_session.specs.ConnectionState.{IsHonest, ConnectionState}
use Rattle.web_session.specs.declared.end.End.{End}
use Rattle.web_session.specs.declared.end.End.TheVariants.{ConnectionFault}
use Rattle.web_workers.specs.Clerks.{HandleAnswers, HandleReaches}
use Rattle.web_session.specs.Ports.{HandsOut, AcceptorState, TakesBack}
use Rattle.web_workers.specs.Sessions.{AreSessions, FailsNext, IsSession, Served, ServesNext, Session, closed_as, is_starved_end, was_starved}

-- a fact at the arm that an option took
pub at_some : {A : Type 0} (P : A → Type 0) (o : Option A) (x : A) → o ≡ Some x → IfSome o P → P x
at_some P o x is holds = subst (λ o. IfSome o P) is holds

pub at_none : {A : Type 0} (P : Type 0) (o : Option A) → o ≡ None → IfNone o P → P
at_none P o is holds = subst (λ o. IfNone o P) is holds

map_append : {A B : Type 0} (f : A → B) (xs ys : List A) → map f (xs ++ ys) ≡ map f xs ++ map f ys
map_append f [] ys = refl
map_append f (x ∷ xs) ys = ap (λ l. f x ∷ l) (map_append f xs ys)

any_snoc : {A : Type 0} (p : A → Bool) (xs : List A) (x : A) → list_any p (xs ++ x ∷ []) ≡ (list_any p xs || p x)
any_snoc p [] x = or_false (p x)
  where
    or_false : (b : Bool) → (b || false) ≡ (false || b)
    or_false true = refl
    or_false false = refl
any_snoc p (y ∷ xs) x = ap (λ b. p y || b) (any_snoc p xs x) ∙ or_assoc (p y) (list_any p xs) (p x)
  where
    or_assoc : (a b c : Bool) → (a || (b || c)) ≡ ((a || b) || c)
    or_assoc true b c = refl
    or_assoc false b c = refl

module _ {Entry Operation Response : Type 0} (semantics : Semantics Entry Operation Response) (own : Operation → Option Entry) (scheme : Scheme Operation (LogReply Response)) where
  -- the next connection came, was served and taken back
  pub next_served : (by : RowName) (before after : Known (Filed Entry)) (old mid new : AcceptorState) (link link' : ConnectionState) (faults faults' : ℕ) (end : End)
      → mid.honest ≡ old.honest → (IsTrue old.honest → HandsOut old mid link) → faults ≡ 0
      → (IsHonest link → ServesNear (HandleAnswers semantics own scheme) 10000 link.left link'.left (record { by = by; handle = before }) (record { by = by; handle = after }) link.text link'.text end)
      → HandleReaches semantics own scheme (record { by = by; handle = before }) (record { by = by; handle = after })
      → (end ≡ ConnectionFault → Rose faults faults') → (end ≢ ConnectionFault → faults' ≡ faults)
      → new.honest ≡ mid.honest → (IsTrue mid.honest → TakesBack mid new (record { text = link'.text; faults = faults' }))
      → ServesNext semantics own scheme by before after old new end
  next_served by before after old mid new link link' faults faults' end same handed none exchange reached cause still same' taken = record {
    session = record { bytes = link.left; text = link'.text; faults = faults'; end = end; after = after };
    is = record {
      exchange = λ honest. subst (λ t. Serves (HandleAnswers semantics own scheme) 10000 link.left (record { by = by; handle = before }) (record { by = by; handle = after }) t link'.text end) (handed honest).empty (exchange (handed honest).honest).0;
      reached = reached;
      fault = λ is. subst (λ n. Rose n faults') none (cause is);
      still = λ other. still other ∙ none;
    };
    after_is = refl;
    end_is = refl;
    honest = same' ∙ same;
    coming = λ honest. (handed honest).bytes ∙ ap (λ l. link.left ∷ l) (sym (taken (subst IsTrue (sym same) honest)).coming);
    closed = λ honest. (taken (subst IsTrue (sym same) honest)).closed ∙ ap (λ l. l ++ record { text = link'.text; faults = faults' } ∷ []) (handed honest).closed;
  }

  -- one connection more
  sessions_snoc : (honest : Bool) (port number : ℕ) (before mid : Known (Filed Entry)) (sessions : List (Session Entry)) (s : Session Entry) → AreSessions semantics own scheme honest port number before sessions mid
      → IsSession semantics own scheme honest (record { desk = port; row = number + length sessions }) mid s → AreSessions semantics own scheme honest port number before (sessions ++ s ∷ []) s.after
  sessions_snoc honest port number before mid [] s same is =
      let none : number + 0 ≡ number = omega arith in
      (subst (λ n. IsSession semantics own scheme honest (record { desk = port; row = n }) before s) none (subst (λ k. IsSession semantics own scheme honest (record { desk = port; row = number + 0 }) k s) same is), refl)
  sessions_snoc honest port number before mid (first ∷ sessions) s (one, rest) is =
      let moved : number + length (first ∷ sessions) ≡ number + 1 + length sessions = omega arith in
      (one, sessions_snoc honest port (number + 1) first.after mid sessions s rest (subst (λ n. IsSession semantics own scheme honest (record { desk = port; row = n }) mid s) moved is))

  module _ (port : ℕ) where
    pub served_none : (before : Known (Filed Entry)) (old : AcceptorState) → Served semantics own scheme port before before old old 0 false
    served_none before old = record {
      sessions = [];
      each = refl;
      count = refl;
      starved_is = refl;
      honest = refl;
      coming = λ honest. refl;
      closed = λ honest. sym (append-nil old.closed);
    }

    module _ (before mid : Known (Filed Entry)) (old now : AcceptorState) (served : ℕ) (starved : Bool) (so_far : Served semantics own scheme port before mid old now served starved) where
      pub served_next : (after : Known (Filed Entry)) (new : AcceptorState) (end : End) (starved' : Bool) → starved' ≡ (starved || is_starved_end end) → ServesNext semantics own scheme (record { desk = port; row = served + 1 }) mid after now new end
          → Served semantics own scheme port before after old new (served + 1) starved'
      served_next after new end starved' now_is next =
          let s = next.session in
          let place : served + 1 ≡ 1 + length so_far.sessions = omega (arith, so_far.count) in
          let is : IsSession semantics own scheme old.honest (record { desk = port; row = 1 + length so_far.sessions }) mid s =
          subst (λ n. IsSession semantics own scheme old.honest (record { desk = port; row = n }) mid s) place (subst (λ h. IsSession semantics own scheme h (record { desk = port; row = served + 1 }) mid s) so_far.honest next.is) in
          record {
            sessions = so_far.sessions ++ s ∷ [];
            each = subst (AreSessions semantics own scheme old.honest port 1 before (so_far.sessions ++ s ∷ [])) next.after_is (sessions_snoc old.honest port 1 before mid so_far.sessions s so_far.each is);
            count = omega (arith, so_far.count, length-append so_far.sessions (s ∷ []));
            starved_is = now_is ∙ (ap (λ b. b || is_starved_end end) so_far.starved_is ∙ (ap (λ e. list_any was_starved so_far.sessions || is_starved_end e) (sym next.end_is) ∙ sym (any_snoc was_starved so_far.sessions s)));
            honest = next.honest ∙ so_far.honest;
            coming = λ honest.
                let now_honest = subst IsTrue (sym so_far.honest) honest in
                so_far.coming honest ∙ (ap (λ l. map (λ (x : Session Entry). x.bytes) so_far.sessions ++ l) (next.coming now_honest)
                ∙ (sym (append_assoc (map (λ (x : Session Entry). x.bytes) so_far.sessions) (s.bytes ∷ []) new.coming) ∙ ap (λ l. l ++ new.coming) (sym (map_append (λ (x : Session Entry). x.bytes) so_far.sessions (s ∷ [])))));
            closed = λ honest.
                let now_honest = subst IsTrue (sym so_far.honest) honest in
                next.closed now_honest ∙ (ap (λ l. l ++ closed_as s ∷ []) (so_far.closed honest)
                ∙ (append_assoc old.closed (map closed_as so_far.sessions) (closed_as s ∷ []) ∙ ap (λ l. old.closed ++ l) (sym (map_append closed_as so_far.sessions (s ∷ [])))));
          }

      pub served_failed : (after : Known (Filed Entry)) (new : AcceptorState) → FailsNext mid after now new → Served semantics own scheme port before after old new served starved
      served_failed after new failed = record {
        sessions = so_far.sessions;
        each = subst (AreSessions semantics own scheme old.honest port 1 before so_far.sessions) (sym failed.same) so_far.each;
        count = so_far.count;
        starved_is = so_far.starved_is;
        honest = failed.honest ∙ so_far.honest;
        coming = λ honest. so_far.coming honest ∙ ap (λ (t : AcceptorState). map (λ (x : Session Entry). x.bytes) so_far.sessions ++ t.coming) (sym (failed.tells (subst IsTrue (sym so_far.honest) honest)));
        closed = λ honest. ap (λ (t : AcceptorState). t.closed) (failed.tells (subst IsTrue (sym so_far.honest) honest)) ∙ so_far.closed honest;
      }
