-- Bytes bring one list of requests, and end a session in one way.
use Rattle.std.proofs.Common.{arith, ◌≡◌, ◌∙◌, sym, ap, ap₂, subst, refl, ℕ, suc, zero, Bool, true, false, List, [], ◌∷◌, ◌++◌, take, drop, append_assoc, Option, None, Some, Result}
use Rattle.web_session.specs.Asks.{Request}
use Rattle.web_session.specs.Ends.{head_end}
use Rattle.web_session.specs.Heads.{Judges}
use Rattle.web_session.specs.Responses.{Answer}
use Rattle.web_session.specs.Exchange.{Sized, Told, more, bad, whole, told_body, Tells, unended, too_large, ended, Begins, none, goes, Ending, Finishes, full, over, rejected, closing, Brings, Stops, unasked, asked, refused, IsFront, IsFrontOf, response_to, rejection_of, responses, written}
use Rattle.web_session.specs.declared.head.Head.{Head}
use Rattle.web_session.specs.declared.status.Status.{Status}
use Rattle.web_session.specs.declared.end.End.TheVariants.{Rejected}
use Rattle.web_session.proofs.NextRequestLemmas.{judges_unique}
use Rattle.web_session.proofs.Steps.{run_append, append_requests, written_append}

abbrev count_of : Option ℕ → ℕ
count_of None = 0
count_of (Some k) = suc k

none_some : (o : Option ℕ) (k : ℕ) → o ≡ None → o ≡ Some k → ⊥
none_some o k is is' = omega (arith, ap count_of (sym is ∙ is'))

abbrev end_of_some : ℕ → Option ℕ → ℕ
end_of_some d None = d
end_of_some d (Some k) = k

same_end : (o : Option ℕ) (k k' : ℕ) → o ≡ Some k → o ≡ Some k' → k ≡ k'
same_end o k k' is is' = ap (end_of_some k) (sym is ∙ is')

-- bytes tell one thing
pub one_telling : (bytes : List ℕ) (a b : Told) → Tells bytes a → Tells bytes b → a ≡ b
one_telling bytes _ _ (unended void lt) (unended void' lt') = refl
one_telling bytes _ _ (unended void lt) (too_large void' le) = absurd (omega (arith, lt, le))
one_telling bytes _ _ (unended void lt) (ended k said is judges) = absurd (none_some (head_end (take 16384 bytes)) k void is)
one_telling bytes _ _ (too_large void le) (unended void' lt) = absurd (omega (arith, lt, le))
one_telling bytes _ _ (too_large void le) (too_large void' le') = refl
one_telling bytes _ _ (too_large void le) (ended k said is judges) = absurd (none_some (head_end (take 16384 bytes)) k void is)
one_telling bytes _ _ (ended k said is judges) (unended void lt) = absurd (none_some (head_end (take 16384 bytes)) k void is)
one_telling bytes _ _ (ended k said is judges) (too_large void le) = absurd (none_some (head_end (take 16384 bytes)) k void is)
one_telling bytes _ _ (ended k said is judges) (ended k' said' is' judges') =
    let at : k ≡ k' = same_end (head_end (take 16384 bytes)) k k' is is' in
    ap₂ (λ (n : ℕ) (r : Result Head Status). told_body bytes n r) at
    (judges_unique (take k' bytes) said said' (subst (λ (n : ℕ). Judges (take n bytes) said) at judges) judges')

abbrev kind_of : Told → ℕ
kind_of more = 0
kind_of (bad status) = 1
kind_of (whole s) = 2

abbrev sized_of : Sized → Told → Sized
sized_of d more = d
sized_of d (bad status) = d
sized_of d (whole s) = s

abbrev status_of : Status → Told → Status
status_of d more = d
status_of d (bad status) = status
status_of d (whole s) = d

one_sized : (bytes : List ℕ) (s s' : Sized) → Tells bytes (whole s) → Tells bytes (whole s') → s ≡ s'
one_sized bytes s s' t t' = ap (sized_of s) (one_telling bytes (whole s) (whole s') t t')

one_status : (bytes : List ℕ) (a b : Status) → Tells bytes (bad a) → Tells bytes (bad b) → a ≡ b
one_status bytes a b t t' = ap (status_of a) (one_telling bytes (bad a) (bad b) t t')

more_bad : (bytes : List ℕ) (a : Status) → Tells bytes more → Tells bytes (bad a) → ⊥
more_bad bytes a t t' = omega (arith, ap kind_of (one_telling bytes more (bad a) t t'))

more_whole : (bytes : List ℕ) (s : Sized) → Tells bytes more → Tells bytes (whole s) → ⊥
more_whole bytes s t t' = omega (arith, ap kind_of (one_telling bytes more (whole s) t t'))

bad_whole : (bytes : List ℕ) (a : Status) (s : Sized) → Tells bytes (bad a) → Tells bytes (whole s) → ⊥
bad_whole bytes a s t t' = omega (arith, ap kind_of (one_telling bytes (bad a) (whole s) t t'))

abbrev bit_of : Bool → ℕ
bit_of true = 1
bit_of false = 0

both : (b : Bool) → b ≡ true → b ≡ false → ⊥
both b t f = omega (arith, ap bit_of (sym t ∙ f))

-- where a request goes on, nothing finishes
no_finish : (n : ℕ) (bytes : List ℕ) (s : Sized) (last : List Request) (e : Ending) → Tells bytes (whole s) → s.request.head.closes ≡ false → Finishes (suc n) bytes last e → ⊥
no_finish n bytes s _ _ t still (over _ _ t') = more_whole bytes s t' t
no_finish n bytes s _ _ t still (rejected _ _ status t') = bad_whole bytes status s t' t
no_finish n bytes s _ _ t still (closing _ _ s' t' closes) = both s.request.head.closes (ap (λ (x : Sized). x.request.head.closes) (one_sized bytes s s' t t') ∙ closes) still

one_finish : (n : ℕ) (bytes : List ℕ) (last last' : List Request) (e e' : Ending) → Finishes n bytes last e → Finishes n bytes last' e' → (last ≡ last') × (e ≡ e')
one_finish zero bytes _ _ _ _ (full _) (full _) = (refl, refl)
one_finish (suc n) bytes _ _ _ _ (over _ _ t) (over _ _ t') = (refl, refl)
one_finish (suc n) bytes _ _ _ _ (over _ _ t) (rejected _ _ status t') = absurd (more_bad bytes status t t')
one_finish (suc n) bytes _ _ _ _ (over _ _ t) (closing _ _ s t' closes) = absurd (more_whole bytes s t t')
one_finish (suc n) bytes _ _ _ _ (rejected _ _ status t) (over _ _ t') = absurd (more_bad bytes status t' t)
one_finish (suc n) bytes _ _ _ _ (rejected _ _ status t) (rejected _ _ status' t') = (refl, ap (λ (x : Status). record { text = rejection_of x; way = Rejected }) (one_status bytes status status' t t'))
one_finish (suc n) bytes _ _ _ _ (rejected _ _ status t) (closing _ _ s t' closes) = absurd (bad_whole bytes status s t t')
one_finish (suc n) bytes _ _ _ _ (closing _ _ s t closes) (over _ _ t') = absurd (more_whole bytes s t' t)
one_finish (suc n) bytes _ _ _ _ (closing _ _ s t closes) (rejected _ _ status t') = absurd (bad_whole bytes status s t' t)
one_finish (suc n) bytes _ _ _ _ (closing _ _ s t closes) (closing _ _ s' t' closes') = (ap (λ (x : Sized). x.request ∷ []) (one_sized bytes s s' t t'), refl)

-- behind the requests that come first, the bytes bring what they bring
pub behind_begins : (n : ℕ) (bytes : List ℕ) (done : List Request) (m : ℕ) (rest : List ℕ) (done' : List Request) (m' : ℕ) (rest' : List ℕ) (last : List Request) (e : Ending)
    → Begins n bytes done m rest → Begins n bytes done' m' rest' → Finishes m' rest' last e → (later : List Request) × (done' ≡ done ++ later) × Begins m rest later m' rest'
behind_begins n bytes [] m rest done' m' rest' last e (none _ _) two finishes = (done', refl, two)
behind_begins (suc n) bytes _ m rest _ m' rest' last e (goes _ _ s rs _ _ t still one) (none _ _) finishes = absurd (no_finish n bytes s last e t still finishes)
behind_begins (suc n) bytes _ m rest _ m' rest' last e (goes _ _ s rs _ _ t still one) (goes _ _ s' rs' _ _ t' still' two) finishes =
    let same : s' ≡ s = one_sized bytes s' s t' t in
    let later = behind_begins n (drop s.size bytes) rs m rest rs' m' rest' last e one (subst (λ (x : Sized). Begins n (drop x.size bytes) rs' m' rest') same two) finishes in
    (later.0, ap₂ (λ (x : Sized) (l : List Request). x.request ∷ l) same later.1, later.2)

brings_behind : (n : ℕ) (bytes : List ℕ) (done : List Request) (m : ℕ) (rest : List ℕ) (rs : List Request) (e : Ending) → Begins n bytes done m rest → Brings n bytes rs e → (later : List Request) × (rs ≡ done ++ later) × Brings m rest later e
brings_behind n bytes done m rest rs e one b =
    let found = behind_begins n bytes done m rest b.done b.left b.rest b.last e one b.begins b.finishes in (
      found.0 ++ b.last,
      b.all ∙ ap (λ (l : List Request). l ++ b.last) found.1 ∙ append_requests done found.0 b.last,
      record { done = found.0; left = b.left; rest = b.rest; begins = found.2; last = b.last; finishes = b.finishes; all = refl },
    )

no_begin : (m : ℕ) (rest : List ℕ) (later : List Request) (m' : ℕ) (rest' : List ℕ) (last : List Request) (e : Ending) (last' : List Request) (e' : Ending) → Begins m rest later m' rest' → Finishes m' rest' last e → Finishes m rest last' e' → (later ++ last ≡ last') × (e ≡ e')
no_begin m rest _ _ _ last e last' e' (none _ _) one two = one_finish m rest last last' e e' one two
no_begin (suc m) rest _ m' rest' last e last' e' (goes _ _ s rs _ _ t still begins) one two = absurd (no_finish m rest s last' e' t still two)

-- one list of requests, and one way to end
pub one_brought : (n : ℕ) (bytes : List ℕ) (rs rs' : List Request) (e e' : Ending) → Brings n bytes rs e → Brings n bytes rs' e' → (rs ≡ rs') × (e ≡ e')
one_brought n bytes rs rs' e e' a b =
    let found = behind_begins n bytes b.done b.left b.rest a.done a.left a.rest a.last e b.begins a.begins a.finishes in
    let met = no_begin b.left b.rest found.0 a.left a.rest a.last e b.last e' found.2 a.finishes b.finishes in
    (a.all ∙ ap (λ (l : List Request). l ++ a.last) found.1 ∙ append_requests b.done found.0 a.last ∙ ap (λ (l : List Request). b.done ++ l) met.0 ∙ sym b.all, met.1)

-- the next request that the bytes tell whole is the first that they bring
first_brought : (n : ℕ) (bytes : List ℕ) (s : Sized) (rs : List Request) (e : Ending) (done : List Request) (m : ℕ) (rest : List ℕ) (last : List Request) → Tells bytes (whole s) → Begins (suc n) bytes done m rest → Finishes m rest last e → (others : List Request) × (done ++ last ≡ s.request ∷ others)
first_brought n bytes s rs e _ _ _ _ t (none _ _) (over _ _ t') = absurd (more_whole bytes s t' t)
first_brought n bytes s rs e _ _ _ _ t (none _ _) (rejected _ _ status t') = absurd (bad_whole bytes status s t' t)
first_brought n bytes s rs e _ _ _ _ t (none _ _) (closing _ _ s' t' closes) = ([], ap (λ (x : Sized). x.request ∷ []) (one_sized bytes s' s t' t))
first_brought n bytes s rs e _ m rest last t (goes _ _ s' rs' _ _ t' still begins) finishes = (rs' ++ last, ap (λ (x : Sized). x.request ∷ (rs' ++ last)) (one_sized bytes s' s t' t))

none_brought : (n : ℕ) (bytes : List ℕ) (status : Status) (e : Ending) (done : List Request) (m : ℕ) (rest : List ℕ) (last : List Request) → Tells bytes (bad status) → Begins (suc n) bytes done m rest → Finishes m rest last e → (done ++ last ≡ []) × (e ≡ record { text = rejection_of status; way = Rejected })
none_brought n bytes status e done m rest last t begins finishes = no_begin (suc n) bytes done m rest last e [] (record { text = rejection_of status; way = Rejected }) begins finishes (rejected n bytes status t)

-- where a session stopped, a front of what was still to be written stands
stops_front : {C : Type 0} (answers : C → Request → Answer → C → Type 0) (rest : List ℕ) (mid after : C) (out : List ℕ) (n : ℕ) (rs : List Request) (e : Ending) → Stops answers rest mid after out n → Brings n rest rs e → IsFrontOf answers rs e mid after [] out
stops_front answers rest mid after out n rs e (unasked _ same empty) b = record {
  done = [];
  others = rs;
  replies = [];
  cut = refl;
  run = same;
  out = out;
  text = refl;
  front = λ later. (written rs later e, ap (λ (l : List ℕ). l ++ written rs later e) (sym empty));
}
stops_front answers rest mid after out (suc n) rs e (asked _ s reply t answered front) b =
    let found = first_brought n rest s rs e b.done b.left b.rest b.last t b.begins b.finishes in
    let cut : rs ≡ s.request ∷ found.0 = b.all ∙ found.1 in
    record {
      done = s.request ∷ [];
      others = found.0;
      replies = reply ∷ [];
      cut = cut;
      run = (after, answered, refl);
      out = out;
      text = refl;
      front = λ later. (
        front.0 ++ (responses found.0 later ++ e.text),
        (ap (λ (l : List Request). written l (reply ∷ later) e) cut
            ∙ append_assoc (response_to s.request reply) (responses found.0 later) (e.text)
            ∙ ap (λ (l : List ℕ). l ++ (responses found.0 later ++ e.text)) front.1
            ∙ append_assoc out front.0 (responses found.0 later ++ e.text)),
      );
    }
stops_front answers rest mid after out (suc n) rs e (refused _ status t same front) b =
    let found = none_brought n rest status e b.done b.left b.rest b.last t b.begins b.finishes in
    let cut : rs ≡ [] = b.all ∙ found.0 in
    record {
      done = [];
      others = rs;
      replies = [];
      cut = refl;
      run = same;
      out = out;
      text = refl;
      front = λ later. (
        front.0,
        (ap (λ (l : List Request). written l later e) cut ∙ ap (λ (x : Ending). x.text) found.1 ∙ front.1),
      );
    }

-- a front of an exchange begins every exchange of the bytes
pub front_begins : {C : Type 0} (answers : C → Request → Answer → C → Type 0) (limit : ℕ) (bytes : List ℕ) (rs : List Request) (e : Ending) (before after : C) (old new : List ℕ) → IsFront answers limit bytes before after old new → Brings limit bytes rs e → IsFrontOf answers rs e before after old new
front_begins answers limit bytes rs e before after old new f b =
    let behind = brings_behind limit bytes f.done f.left f.rest rs e f.begins b in
    let h = stops_front answers f.rest f.mid after f.out f.left behind.0 e f.stops behind.2 in
    record {
      done = f.done ++ h.done;
      others = h.others;
      replies = f.replies ++ h.replies;
      cut = behind.1 ∙ ap (λ (l : List Request). f.done ++ l) h.cut ∙ sym (append_requests f.done h.done h.others);
      run = run_append answers f.done f.replies h.done h.replies before f.mid after f.run h.run;
      out = responses f.done f.replies ++ h.out;
      text = f.text ∙ ap (λ (l : List ℕ). old ++ (responses f.done f.replies ++ l)) h.text;
      front = λ later. (
        (h.front later).0,
        (ap (λ (l : List Answer). written rs l e) (append_replies f.replies h.replies later)
            ∙ ap (λ (l : List Request). written l (f.replies ++ (h.replies ++ later)) e) behind.1
            ∙ written_append answers f.done f.replies behind.0 (h.replies ++ later) e before f.mid f.run
            ∙ ap (λ (l : List ℕ). responses f.done f.replies ++ l) (h.front later).1
            ∙ sym (append_assoc (responses f.done f.replies) h.out (h.front later).0)),
      );
    }
  where
    append_replies : (xs ys zs : List Answer) → (xs ++ ys) ++ zs ≡ xs ++ (ys ++ zs)
    append_replies xs ys zs = append_assoc xs ys zs
