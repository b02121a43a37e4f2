-- What a connection was told, in few words: each response is of the history at the end.
use Rattle.std.proofs.Common.{◌≡◌, ◌≢◌, ◌⊎◌, inl, inr, ℕ, zero, suc, ◌+◌, ◌<◌, ◌≤◌, ◌^◌, Bool, true, false, List, [], ◌∷◌, ◌++◌, Option, Some, None, Result, Ok, Err, length, take, drop, refl, sym, ap, ◌∙◌, subst, arith, append_assoc, codes, decimal, leb-true, length-append, IsUtf8, pos}
use Rattle.std.proofs.lemmas.List.Elements.{All-head}
use Rattle.std.specs.Prelude.{Contains, bytes_eq, is_none, nat_le, nat_lt, option_map, if◌then◌else◌}
use Rattle.std.specs.List.{All}
use Rattle.std.proofs.lemmas.List.{append-nil, drop-drop, length-drop, length-take, take-append-drop}
use Rattle.httparse.specs.Grammar.{RequestHead, print_request}
use Rattle.aid_types.proofs.WholeLemmas.{decimal-natural_text}
use Rattle.aid_types.specs.Whole.{natural_text}
use Rattle.aid_types.specs.declared.award.Refusal.{Refusal}
use Rattle.aid_filings.specs.declared.filing.Filing.{Filing}
use Rattle.aid_filings.proofs.SameFiling.{tells_filing}
use Rattle.aid_filings.specs.declared.reply.Operation.{Operation}
use Rattle.aid_filings.specs.declared.reply.Operation.TheVariants.{File, Quote, Standing}
use Rattle.aid_filings.specs.declared.reply.Outcome.{Outcome}
use Rattle.aid_filings.specs.declared.reply.Response.{Response}
use Rattle.aid_filings.specs.declared.reply.Response.TheVariants as response
use Rattle.aid_stamps.specs.declared.stamp.Stamp.{Stamp}
use Rattle.log_lock.proofs.Lists.{older_trans}
use Rattle.log_lock.specs.Passes.{IsOlder}
use Rattle.log_machine.specs.Submits.{with_entry}
use Rattle.log_machine.specs.declared.names.Filed.{Filed}
use Rattle.log_machine.specs.declared.names.RowName.{RowName}
use Rattle.log_machine.specs.declared.reply.LogReply.{LogReply}
use Rattle.log_machine.specs.declared.reply.LogReply.TheVariants as said_is
use Rattle.log_stamps.specs.Entries.{entries, with_stamp}
use Rattle.log_stamps.specs.Rows.{own_under, semantics_under}
use Rattle.log_stamps.specs.StampedLaws.{length-entries}
use Rattle.log_stamps.specs.declared.entry.StampedEntry.{StampedEntry}
use Rattle.office_history.specs.Answer.{IsLegal, answer_at, answer_new, breaks, is_admit, judged, outcome_at, outcome_of}
use Rattle.office_history.specs.Past.{filing_at, first_of_two, key_at, same_filing}
use Rattle.office_history.proofs.FirstFilings.{skipped}
use Rattle.office_history.proofs.Recorded.{outcome_at-stays, same_itself}
use Rattle.office_log.specs.Submits.{filing_asked, filing_semantics}
use Rattle.run_claims.proofs.Admitted.{keys_differ, may_follow_is}
use Rattle.run_claims.specs.Written.{IsInRange, ranged, whole as whole_number, written}
use Rattle.web_json.specs.Forms.{answer_status}
use Rattle.web_json.specs.Replies.{answer_body, filed_body}
use Rattle.web_session.specs.Asks.{Request}
use Rattle.web_session.specs.Calls.{call_at, call_by, call_of, method_of}
use Rattle.web_session.specs.ConnectionState.{IsPrefix}
use Rattle.web_session.specs.Exchange.{Begins, Ending, Finishes, Sized, Tells, Told, bad, closing, ended, full, goes, more, none, over, rejected as turned_away, rejection_of, request_at, response_to, responses, told_body, too_large, unended, whole}
use Rattle.web_session.specs.Heads.{IsHead, Judges, asks_more, body_length, closes_of, fields_of, head_with, is_post, length_by, length_said, number_said, values}
use Rattle.web_session.specs.Responses.{Answer, closing_line, failure_of, length_lines, response_of, status_line}
use Rattle.web_session.specs.declared.call.ApiCall.{ApiCall}
use Rattle.web_session.specs.declared.end.End.{End}
use Rattle.web_session.specs.declared.end.End.TheVariants.{Closed, Cut, Rejected, Limit, ConnectionFault, NoMemory}
use Rattle.web_session.specs.declared.head.Head.{Head}
use Rattle.web_session.specs.declared.status.Status.{Status}
use Rattle.web_session.specs.declared.status.Status.TheVariants.{Okay, Created, BadRequest, NotFound, MethodNotAllowed, LengthRequired, ContentTooLarge, Unprocessable, HeadTooLarge, NotImplemented, Unavailable, NoStorage}
use Rattle.web_workers.specs.Closed.{IsPart, IsTextOf, IsToldOf, IsWhole, StopsAt, silent, answering, rejecting}
use Rattle.web_workers.specs.Sessions.{Session}
use Rattle.web_workers.specs.Told.{AreAnswersTo, IsAnswerTo, IsAnsweredIn, IsSaidOf, ask_by, ask_in, refusal_of}
use Rattle.run_server.proofs.Posting.{asks_filing}
use Rattle.run_server.proofs.Target.{calls_filings}
use Rattle.run_server.specs.Posted.{Posts}
use Rattle.run_server.specs.Exchanged.{BeginsWith, Exchanged, IsLength, PostsAlone, Replied, accepted, again, answered, failed, other, refused, rejected, response as response_text, stopped}
use Rattle.run_server.specs.OfficeApi.{office_web}

-- ---- responses
-- a status as the first line of its response has it
abbrev pub line : Status → List ℕ
line Okay = codes "200 OK"
line Created = codes "201 Created"
line BadRequest = codes "400 Bad Request"
line NotFound = codes "404 Not Found"
line MethodNotAllowed = codes "405 Method Not Allowed"
line LengthRequired = codes "411 Length Required"
line ContentTooLarge = codes "413 Payload Too Large"
line Unprocessable = codes "422 Unprocessable Entity"
line HeadTooLarge = codes "431 Request Header Fields Too Large"
line NotImplemented = codes "501 Not Implemented"
line Unavailable = codes "503 Service Unavailable"
line NoStorage = codes "507 Insufficient Storage"

-- the statuses of these answers
abbrev pub statuses_of : List Answer → List (List ℕ)
statuses_of [] = []
statuses_of (answer ∷ answers) = line answer.status ∷ statuses_of answers

-- a code in digits, before its phrase
line_by : (code : ℕ) (phrase : List ℕ) → code < 10 ^ 64 → codes "HTTP/1.1 " ++ (decimal code ++ phrase) ≡ codes "HTTP/1.1 " ++ (natural_text code ++ phrase)
line_by code phrase few = ap (λ (l : List ℕ). codes "HTTP/1.1 " ++ (l ++ phrase)) (decimal-natural_text code few)

line_is : (s : Status) → status_line s ≡ codes "HTTP/1.1 " ++ (line s ++ codes "\r\n")
line_is Okay = line_by 200 (codes " OK\r\n") (omega arith)
line_is Created = line_by 201 (codes " Created\r\n") (omega arith)
line_is BadRequest = line_by 400 (codes " Bad Request\r\n") (omega arith)
line_is NotFound = line_by 404 (codes " Not Found\r\n") (omega arith)
line_is MethodNotAllowed = line_by 405 (codes " Method Not Allowed\r\n") (omega arith)
line_is LengthRequired = line_by 411 (codes " Length Required\r\n") (omega arith)
line_is ContentTooLarge = line_by 413 (codes " Payload Too Large\r\n") (omega arith)
line_is Unprocessable = line_by 422 (codes " Unprocessable Entity\r\n") (omega arith)
line_is HeadTooLarge = line_by 431 (codes " Request Header Fields Too Large\r\n") (omega arith)
line_is NotImplemented = line_by 501 (codes " Not Implemented\r\n") (omega arith)
line_is Unavailable = line_by 503 (codes " Service Unavailable\r\n") (omega arith)
line_is NoStorage = line_by 507 (codes " Insufficient Storage\r\n") (omega arith)

response_is : (s : Status) (last : Bool) (text : List ℕ) → response_of last (record { status = s; text = text }) ≡ response_text (line s) last text
response_is s last text =
    let rest : List ℕ = closing_line last ++ text in
    let lines : List ℕ = length_lines (length text) ++ rest in
    ap (λ (l : List ℕ). l ++ lines) (line_is s)
    ∙ append_assoc (codes "HTTP/1.1 ") (line s ++ codes "\r\n") lines
    ∙ ap (λ (l : List ℕ). codes "HTTP/1.1 " ++ l) (append_assoc (line s) (codes "\r\n") lines)
    ∙ ap (λ (l : List ℕ). codes "HTTP/1.1 " ++ (line s ++ (codes "\r\n" ++ l))) (append_assoc (codes "Content-Length: ") (decimal (length text) ++ codes "\r\nContent-Type: application/json\r\n") rest)
    ∙ ap (λ (l : List ℕ). codes "HTTP/1.1 " ++ (line s ++ (codes "\r\n" ++ (codes "Content-Length: " ++ l)))) (append_assoc (decimal (length text)) (codes "\r\nContent-Type: application/json\r\n") rest)

-- ---- heads
-- the length that a head that is fine says
size_one : (o : Option ℕ) (asks posts : Bool) (n : ℕ) → body_length (length_by o) asks posts ≡ Ok n → o ≡ Some n
size_one None asks posts n is = absurd (let no : ⊥ = cc in no)
size_one (Some m) true posts n is = absurd (let no : ⊥ = cc in no)
size_one (Some m) false posts n is = go (nat_lt 65536 m) is
  where
    go : (b : Bool) → (if b then Err ContentTooLarge else Ok m) ≡ Ok n → Some m ≡ Some n
    go true same = absurd (let no : ⊥ = cc in no)
    go false same = let one : m ≡ n = cc in ap (λ (k : ℕ). Some k) one

size_said : (vs : List (List ℕ)) (asks posts : Bool) (n : ℕ) → body_length (length_said vs) asks posts ≡ Ok n → IsLength vs n
size_said [] true posts n is = absurd (let no : ⊥ = cc in no)
size_said [] false true n is = absurd (let no : ⊥ = cc in no)
size_said [] false false n is = let same : 0 ≡ n = cc in sym same
size_said (v ∷ []) asks posts n is = size_one (number_said v) asks posts n is
size_said (v ∷ w ∷ vs) asks posts n is = absurd (let no : ⊥ = cc in no)

-- what a head block says that is fine
record IsFine (block : List ℕ) (head : Head) : Type 0 where
  pub request : RequestHead
  pub reads : IsHead block request
  pub call : call_of request.method request.target ≡ head.call
  pub size : IsLength (values (codes "content-length") (fields_of request)) head.length

fine_by : (block : List ℕ) (h : RequestHead) (head : Head) → IsHead block h → (size : Result ℕ Status) → body_length (length_said (values (codes "content-length") (fields_of h))) (asks_more (fields_of h)) (is_post h.method) ≡ size
    → head_with h.method h.target (closes_of h.minor (fields_of h)) size ≡ Ok head → IsFine block head
fine_by block h head reads (Err status) size is = absurd (let no : ⊥ = cc in no)
fine_by block h head reads (Ok n) size is =
    let same : record { call = call_of h.method h.target; length = n; closes = closes_of h.minor (fields_of h) } ≡ head = cc in
    record {
      request = h;
      reads = reads;
      call = ap (λ (x : Head). x.call) same;
      size = subst (IsLength (values (codes "content-length") (fields_of h))) (ap (λ (x : Head). x.length) same) (size_said (values (codes "content-length") (fields_of h)) (asks_more (fields_of h)) (is_post h.method) n size);
    }

fine : (block : List ℕ) (said : Result Head Status) (head : Head) → Judges block said → said ≡ Ok head → IsFine block head
fine block said head (inl (lines, is)) at = absurd (let wrong : Err HeadTooLarge ≡ Ok head = sym is ∙ at in let no : ⊥ = cc in no)
fine block said head (inr (lines, inl (h, of, is))) at = fine_by block h head of _ refl (sym is ∙ at)
fine block said head (inr (lines, inr (void, is))) at = absurd (let wrong : Err BadRequest ≡ Ok head = sym is ∙ at in let no : ⊥ = cc in no)

-- the statuses that reject a head
abbrev rejections : List (List ℕ)
rejections = codes "400 Bad Request" ∷ codes "411 Length Required" ∷ codes "413 Payload Too Large" ∷ codes "431 Request Header Fields Too Large" ∷ codes "501 Not Implemented" ∷ []

abbrev IsRejection : Status → Type 0
IsRejection status = Contains rejections (line status)

is_bad : IsRejection BadRequest
is_bad = (0, omega arith, refl)

is_unsized : IsRejection LengthRequired
is_unsized = (1, omega arith, refl)

is_large : IsRejection ContentTooLarge
is_large = (2, omega arith, refl)

is_long : IsRejection HeadTooLarge
is_long = (3, omega arith, refl)

is_undone : IsRejection NotImplemented
is_undone = (4, omega arith, refl)

by_status : (one status : Status) → one ≡ status → IsRejection one → IsRejection status
by_status one status same is = subst IsRejection same is

size_refused : (r : Result (Option ℕ) Status) (asks posts : Bool) (status : Status) → ((s : Status) → r ≡ Err s → IsRejection s) → body_length r asks posts ≡ Err status → IsRejection status
size_refused (Err s) asks posts status each is = let same : s ≡ status = cc in by_status s status same (each s refl)
size_refused (Ok (Some n)) true posts status each is = let same : NotImplemented ≡ status = cc in by_status NotImplemented status same is_undone
size_refused (Ok (Some n)) false posts status each is = go (nat_lt 65536 n) is
  where
    go : (b : Bool) → (if b then Err ContentTooLarge else Ok n) ≡ Err status → IsRejection status
    go true at = let same : ContentTooLarge ≡ status = cc in by_status ContentTooLarge status same is_large
    go false at = absurd (let no : ⊥ = cc in no)
size_refused (Ok None) true posts status each is = let same : NotImplemented ≡ status = cc in by_status NotImplemented status same is_undone
size_refused (Ok None) false true status each is = let same : LengthRequired ≡ status = cc in by_status LengthRequired status same is_unsized
size_refused (Ok None) false false status each is = absurd (let no : ⊥ = cc in no)

length_refused : (vs : List (List ℕ)) (status : Status) → length_said vs ≡ Err status → IsRejection status
length_refused [] status is = absurd (let no : ⊥ = cc in no)
length_refused (v ∷ []) status is = go (number_said v) is
  where
    go : (o : Option ℕ) → length_by o ≡ Err status → IsRejection status
    go None at = let same : BadRequest ≡ status = cc in by_status BadRequest status same is_bad
    go (Some n) at = absurd (let no : ⊥ = cc in no)
length_refused (v ∷ w ∷ vs) status is = let same : BadRequest ≡ status = cc in by_status BadRequest status same is_bad

head_refused : (h : RequestHead) (size : Result ℕ Status) (status : Status) → body_length (length_said (values (codes "content-length") (fields_of h))) (asks_more (fields_of h)) (is_post h.method) ≡ size
    → head_with h.method h.target (closes_of h.minor (fields_of h)) size ≡ Err status → IsRejection status
head_refused h (Ok n) status size is = absurd (let no : ⊥ = cc in no)
head_refused h (Err s) status size is =
    let same : s ≡ status = cc in
    by_status s status same (size_refused (length_said (values (codes "content-length") (fields_of h))) (asks_more (fields_of h)) (is_post h.method) s (λ t at. length_refused (values (codes "content-length") (fields_of h)) t at) size)

refused_by : (block : List ℕ) (said : Result Head Status) (status : Status) → Judges block said → said ≡ Err status → IsRejection status
refused_by block said status (inl (lines, is)) at = let same : Err HeadTooLarge ≡ Err status = sym is ∙ at in let one : HeadTooLarge ≡ status = cc in by_status HeadTooLarge status one is_long
refused_by block said status (inr (lines, inl (h, of, is))) at = head_refused h _ status refl (sym is ∙ at)
refused_by block said status (inr (lines, inr (void, is))) at = let same : Err BadRequest ≡ Err status = sym is ∙ at in let one : BadRequest ≡ status = cc in by_status BadRequest status one is_bad

-- ---- requests
-- a request that has come whole
pub record IsCome (bytes : List ℕ) (s : Sized) : Type 0 where
  pub head : RequestHead
  pub call : call_of head.method head.target ≡ s.request.head.call
  pub begins : BeginsWith bytes head s.request.body (drop s.size bytes)

come : (bytes : List ℕ) (k : ℕ) (head : Head) → k + head.length ≤ length bytes → IsFine (take k bytes) head → IsCome bytes (request_at bytes k head)
come bytes k head within f =
    let n = head.length in
    let first : take k bytes ≡ print_request f.request = f.reads.1 ∙ append-nil (print_request f.request) in
    let last : take n (drop k bytes) ++ drop (k + n) bytes ≡ drop k bytes = ap (λ (l : List ℕ). take n (drop k bytes) ++ l) (sym (drop-drop n k bytes)) ∙ take-append-drop n (drop k bytes) in
    let all : bytes ≡ print_request f.request ++ (take n (drop k bytes) ++ drop (k + n) bytes) =
    sym (take-append-drop k bytes) ∙ ap (λ (l : List ℕ). l ++ drop k bytes) first ∙ ap (λ (l : List ℕ). print_request f.request ++ l) (sym last) in
    let size : n ≡ length (take n (drop k bytes)) = omega (arith, length-take n (drop k bytes), length-drop k bytes, within) in
    record { head = f.request; call = f.call; begins = record { reads = (f.reads.0, all); size = subst (IsLength (values (codes "content-length") (fields_of f.request))) size f.size } }

abbrev IsKnown : List ℕ → Told → Type 0
IsKnown bytes more = Unit {0}
IsKnown bytes (bad status) = IsRejection status
IsKnown bytes (whole s) = IsCome bytes s

known_body : (bytes : List ℕ) (k : ℕ) (said : Result Head Status) → Judges (take k bytes) said → IsKnown bytes (told_body bytes k said)
known_body bytes k (Err status) judges = refused_by (take k bytes) (Err status) status judges refl
known_body bytes k (Ok head) judges = go (nat_le (k + head.length) (length bytes)) refl
  where
    go : (b : Bool) → nat_le (k + head.length) (length bytes) ≡ b → IsKnown bytes (if b then whole (request_at bytes k head) else more)
    go true is = come bytes k head (leb-true (k + head.length) (length bytes) is) (fine (take k bytes) (Ok head) head judges refl)
    go false is = tt

known : (bytes : List ℕ) (t : Told) → Tells bytes t → IsKnown bytes t
known bytes _ (unended void lt) = tt
known bytes _ (too_large void le) = is_long
known bytes _ (ended k said is judges) = known_body bytes k said judges

pub come_whole : (bytes : List ℕ) (s : Sized) → Tells bytes (whole s) → IsCome bytes s
come_whole bytes s tells = known bytes (whole s) tells

-- ---- histories
legal_behind : (added old : List (StampedEntry Filing)) → IsLegal (entries (added ++ old)) → IsLegal (entries old)
legal_behind [] old legal = legal
legal_behind (e ∷ added) old legal = legal_behind added old legal.0

joined : (o : Option (StampedEntry Filing)) (past : List (StampedEntry Filing)) → IsOlder past (with_entry o past)
joined None past = ([], refl)
joined (Some e) past = (e ∷ [], refl)

entries_append : (newer older : List (StampedEntry Filing)) → entries (newer ++ older) ≡ entries newer ++ entries older
entries_append [] older = refl
entries_append (e ∷ newer) older = ap (λ (l : List Filing). e.entry ∷ l) (entries_append newer older)

-- a filing stands, at a position that is one more than there are filings before it
record Stands (past : List (StampedEntry Filing)) (f : Filing) (position : ℕ) : Type 0 where
  entry : StampedEntry Filing
  newer : List (StampedEntry Filing)
  older : List (StampedEntry Filing)
  whole : past ≡ newer ++ entry ∷ older
  same : entry.entry ≡ f
  place : position ≡ length older + 1

one_more : (e : StampedEntry Filing) (past : List (StampedEntry Filing)) (f : Filing) (n : ℕ) → Stands past f n → Stands (e ∷ past) f n
one_more e past f n s = record { entry = s.entry; newer = e ∷ s.newer; older = s.older; whole = ap (λ (l : List (StampedEntry Filing)). e ∷ l) s.whole; same = s.same; place = s.place }

-- where a filing is found it stands
found : (past : List (StampedEntry Filing)) (f : Filing) (n : ℕ) → filing_at f (entries past) ≡ suc n → Stands past f (suc n)
found [] f n is = absurd (let no : ⊥ = cc in no)
found (e ∷ past) f n is = go (found past f n) (same_filing f e.entry) (filing_at f (entries past)) refl refl is
  where
    go : (filing_at f (entries past) ≡ suc n → Stands past f (suc n)) → (same : Bool) (before : ℕ) → same_filing f e.entry ≡ same → filing_at f (entries past) ≡ before
        → first_of_two same before (length (entries past) + 1) ≡ suc n → Stands (e ∷ past) f (suc n)
    go rest false before same at is = one_more e past f (suc n) (rest (at ∙ is))
    go rest true zero same at is = record { entry = e; newer = []; older = past; whole = refl; same = sym (tells_filing.same f e.entry same); place = sym is ∙ ap (λ (m : ℕ). m + 1) (length-entries past) }
    go rest true (suc before) same at is = one_more e past f (suc n) (rest (at ∙ is))

-- where it isn't found it doesn't stand
not_found : (past : List Filing) (f : Filing) → filing_at f past ≡ 0 → All (λ g. g ≢ f) past
not_found past f is = λ k d lt same. differs _ same (skipped (λ g. same_filing f g) past is k d lt)
  where
    differs : (g : Filing) → g ≡ f → same_filing f g ≡ false → ⊥
    differs g same is = let itself = same_itself f in let told : same_filing f g ≡ true = ap (λ (x : Filing). same_filing f x) same ∙ itself in cc

-- what it brought then
outcome_told : (past : List (StampedEntry Filing)) (f : Filing) (n : ℕ) (s : Stands past f n) → outcome_at (entries past) n ≡ outcome_of (entries s.older) s.entry.entry
outcome_told past f n s =
    let place : n ≡ length (entries s.older) + 1 = s.place ∙ ap (λ (m : ℕ). m + 1) (sym (length-entries s.older)) in
    ap (λ (l : List Filing). outcome_at l n) (ap (λ (l : List (StampedEntry Filing)). entries l) s.whole ∙ entries_append s.newer (s.entry ∷ s.older))
    ∙ ap (λ (p : ℕ). outcome_at (entries s.newer ++ s.entry.entry ∷ entries s.older) p) place
    ∙ outcome_at-stays (entries s.newer) (entries s.older) s.entry.entry

-- ---- replies
module _ (stamp : Stamp) (closed : List (StampedEntry Filing)) (legal : IsLegal (entries closed)) (mine : List (ℕ × Filed (StampedEntry Filing))) (by : RowName) where
  -- what a request asks
  abbrev asked_in : Request → Option Operation
  asked_in request = ask_in (semantics_under stamp filing_semantics) (own_under stamp filing_asked) office_web by request

  abbrev asked_by : Result ApiCall Status → List ℕ → Option Operation
  asked_by call body = ask_by (semantics_under stamp filing_semantics) (own_under stamp filing_asked) office_web by call body

  module _ (request : Request) (head : RequestHead) (text : IsUtf8 head.target) (call : call_of head.method head.target ≡ request.head.call) where
    -- a request that posts a filing asks that it is filed
    asks_it : (f : Filing) → Posts head request.body f → asked_in request ≡ Some (File f)
    asks_it f posted =
        let few : f.key.school ≤ 999999 = (All-head IsInRange (ranged 4 0 999999 f.key.school) (whole_number 8 (pos f.key.number) ∷ (written f.what).2) posted.2.0).1 in
        ap (λ (c : Result ApiCall Status). asked_by c request.body) (sym call ∙ calls_filings head.method head.target f.key.school few text posted.0 posted.1) ∙ asks_filing head request.body f posted

    -- so it posts no other
    alone : (f : Filing) → asked_in request ≡ Some (File f) → PostsAlone head request.body f
    alone f is g posted = let file = asks_it g posted in let same : File g ≡ File f = cc in let one : g ≡ f = cc in one

    -- a request that asks for no filing posts none
    posts_none : asked_in request ≡ None → (f : Filing) → Posts head request.body f → ⊥
    posts_none is f posted = let file = asks_it f posted in let no : ⊥ = cc in no

    posts_other : (operation : Operation) → ((f : Filing) → operation ≡ File f → ⊥) → asked_in request ≡ Some operation → (f : Filing) → Posts head request.body f → ⊥
    posts_other operation differs is f posted = let file = asks_it f posted in let same : operation ≡ File f = cc in differs f same

    -- ---- of a filing
    module _ (f : Filing) (posted : PostsAlone head request.body f) (past : List (StampedEntry Filing)) (lawful : IsLegal (entries past)) where
      abbrev Verdict : Response → Type 0
      Verdict v = IsOlder (with_entry (option_map (with_stamp stamp) (if is_admit v then Some f else None)) past) closed → Replied stamp closed head request.body (line (answer_status v)) (answer_body v (length past))

      by_rules : key_at f.key (entries past) ≡ 0 → All (λ g. g ≢ f) (entries past) → (broken : Option Refusal) → breaks (entries past) f ≡ broken → Verdict (judged (entries past) f broken)
      by_rules new differ (Some r) is older = refused f r past posted older differ (λ keys. may_follow_is (entries past) f lawful ∙ ap (λ (o : Option Refusal). is_none o) is)
      by_rules new differ None is older = accepted f past posted older

      by_key : All (λ g. g ≢ f) (entries past) → (kept : ℕ) → key_at f.key (entries past) ≡ kept → Verdict (answer_new (entries past) f kept)
      by_key differ zero is older = by_rules is differ (breaks (entries past) f) refl older
      by_key differ (suc n) is older =
          refused f (record { rule = 15; kept = suc n; bound = f.key.number }) past posted older differ (λ keys. let none = (keys_differ f.key (entries past)).1 keys in absurd (let no : ⊥ = cc in no))

      by_filing : (position : ℕ) → filing_at f (entries past) ≡ position → Verdict (answer_at (entries past) f position)
      by_filing zero is older = by_key (not_found (entries past) f is) (key_at f.key (entries past)) refl older
      by_filing (suc n) is older =
          let s = found past f n is in
          let text : filed_body (codes "again") (length s.older + 1) (length past) (outcome_of (entries s.older) s.entry.entry) ≡ filed_body (codes "again") (suc n) (length past) (outcome_at (entries past) (suc n)) =
          ap (λ (p : ℕ). filed_body (codes "again") p (length past) (outcome_of (entries s.older) s.entry.entry)) (sym s.place)
          ∙ ap (λ (o : Outcome). filed_body (codes "again") (suc n) (length past) o) (sym (outcome_told past f (suc n) s)) in
          subst (Replied stamp closed head request.body (codes "200 OK")) text (again s.entry past s.newer s.older (subst (PostsAlone head request.body) (sym s.same) posted) older s.whole)

    -- ---- of any answer
    abbrev Answers : Answer → Type 0
    Answers answer = Replied stamp closed head request.body (line answer.status) answer.text

    quoted : (status text : List ℕ) → status ≡ codes "200 OK" → ((f : Filing) → Posts head request.body f → ⊥) → Replied stamp closed head request.body status text
    quoted status text is files = other status text files (0, omega arith, sym is)

    of_answered : (operation : Operation) (response : Response) (front : ℕ) → asked_in request ≡ Some operation → IsAnsweredIn (semantics_under stamp filing_semantics) (own_under stamp filing_asked) office_web by closed mine operation response front
        → Replied stamp closed head request.body (line (answer_status response)) (answer_body response front)
    of_answered (File f) response front operations of =
        let lawful : IsLegal (entries of.past) =
        let (added, is) = older_trans of.past _ closed (joined _ of.past) of.stands in legal_behind added of.past (subst (λ (l : List (StampedEntry Filing)). IsLegal (entries l)) is legal) in
        subst (λ (n : ℕ). Replied stamp closed head request.body (line (answer_status response)) (answer_body response n)) (sym of.size)
        (subst (λ (v : Response). Replied stamp closed head request.body (line (answer_status v)) (answer_body v (length of.past))) (sym of.answer)
        (by_filing f (alone f operations) of.past lawful (filing_at f (entries of.past)) refl of.stands))
    of_answered (Quote school student year term) response front operations of =
        quoted (line (answer_status response)) (answer_body response front) (ap (λ (v : Response). line (answer_status v)) of.answer) (posts_other (Quote school student year term) (λ f same. let no : ⊥ = cc in no) operations)
    of_answered (Standing student year) response front operations of =
        quoted (line (answer_status response)) (answer_body response front) (ap (λ (v : Response). line (answer_status v)) of.answer) (posts_other (Standing student year) (λ f same. let no : ⊥ = cc in no) operations)

    of_said : (operation : Operation) (said : LogReply Response) → asked_in request ≡ Some operation → IsSaidOf (semantics_under stamp filing_semantics) (own_under stamp filing_asked) office_web by closed mine operation said
        → Answers (record { status = office_web.status said; text = office_web.text said })
    of_said operation (said_is.Answered response front) operations of = of_answered operation response front operations of
    of_said operation (said_is.DiskFault undecided) operations of = failed (line Unavailable) _ (inl refl)
    of_said operation said_is.NoMemory operations of = failed (line NoStorage) _ (inr refl)

    -- a target that asks nothing
    rejects_call : (method : List ℕ) (found : Option ApiCall) (status : Status) → call_by method found ≡ Err status → (status ≡ NotFound) ⊎ (status ≡ MethodNotAllowed)
    rejects_call method None status is = inl (let same : NotFound ≡ status = cc in sym same)
    rejects_call method (Some asked) status is = go (bytes_eq method (method_of asked)) is
      where
        go : (b : Bool) → (if b then Ok asked else Err MethodNotAllowed) ≡ Err status → (status ≡ NotFound) ⊎ (status ≡ MethodNotAllowed)
        go true at = absurd (let no : ⊥ = cc in no)
        go false at = inr (let same : MethodNotAllowed ≡ status = cc in sym same)

    abbrev unasked : List (List ℕ)
    unasked = codes "200 OK" ∷ codes "400 Bad Request" ∷ codes "404 Not Found" ∷ codes "405 Method Not Allowed" ∷ []

    of_status : (status : Status) → (status ≡ NotFound) ⊎ (status ≡ MethodNotAllowed) → Contains unasked (line status)
    of_status status (inl is) = subst (λ (s : Status). Contains unasked (line s)) (sym is) (2, omega arith, refl)
    of_status status (inr is) = subst (λ (s : Status). Contains unasked (line s)) (sym is) (3, omega arith, refl)

    of_none : (c : Result ApiCall Status) → request.head.call ≡ c → Contains unasked (line (refusal_of c))
    of_none (Err status) at = of_status status (rejects_call head.method (call_at head.target) status (call ∙ at))
    of_none (Ok asked) at = (1, omega arith, refl)

    of_answer : (o : Option Operation) (answer : Answer) → asked_in request ≡ o → IsAnswerTo (semantics_under stamp filing_semantics) (own_under stamp filing_asked) office_web by closed mine (refusal_of request.head.call) o answer → Answers answer
    of_answer None answer operations is =
        subst Answers (sym is) (other (line (refusal_of request.head.call)) (failure_of (refusal_of request.head.call)).text (posts_none operations) (of_none request.head.call refl))
    of_answer (Some operation) answer operations (said, is, of) = subst Answers (sym is) (of_said operation said operations of)

  -- ---- connections
  abbrev AreAnswered : List Request → List Answer → Type 0
  AreAnswered requests answers = AreAnswersTo (semantics_under stamp filing_semantics) (own_under stamp filing_asked) office_web by closed mine requests answers

  -- the text is an exchange of the bytes, with replies of these statuses
  abbrev IsExchanged : List ℕ → List ℕ → List (List ℕ) → Type 0
  IsExchanged bytes text statuses = Exchanged stamp closed bytes text statuses

  nothing : (bytes : List ℕ) → IsExchanged bytes [] []
  nothing bytes = rejected bytes (line BadRequest) [] [] _ is_bad refl

  replied : (bytes : List ℕ) (s : Sized) (answer : Answer) → (is : IsCome bytes s) → IsAnswerTo (semantics_under stamp filing_semantics) (own_under stamp filing_asked) office_web by closed mine (refusal_of s.request.head.call) (asked_in s.request) answer
      → Replied stamp closed is.head s.request.body (line answer.status) answer.text
  replied bytes s answer is of = of_answer s.request is.head is.begins.reads.0.target_text is.call (asked_in s.request) answer refl of

  first_exchanged : (bytes : List ℕ) (s : Sized) (answer : Answer) (text : List ℕ) (statuses : List (List ℕ)) → Tells bytes (whole s) → IsAnswerTo (semantics_under stamp filing_semantics) (own_under stamp filing_asked) office_web by closed mine (refusal_of s.request.head.call) (asked_in s.request) answer
      → IsExchanged (drop s.size bytes) text statuses → IsExchanged bytes (response_to s.request answer ++ text) (line answer.status ∷ statuses)
  first_exchanged bytes s answer text statuses tells of rest =
      let is = come_whole bytes s tells in
      subst (λ (l : List ℕ). IsExchanged bytes (l ++ text) (line answer.status ∷ statuses)) (sym (response_is answer.status s.request.head.closes answer.text))
      (answered bytes is.head s.request.body (drop s.size bytes) (line answer.status) answer.text text s.request.head.closes statuses is.begins (replied bytes s answer is of) rest)

  rejection : (bytes out : List ℕ) (status : Status) → Tells bytes (bad status) → IsPrefix out (rejection_of status) → IsExchanged bytes out []
  rejection bytes out status tells (rest, is) =
      rejected bytes (line status) (failure_of status).text out rest (known bytes (bad status) tells) (sym is ∙ response_is status true (failure_of status).text)

  -- all requests of the bytes were answered
  of_begins : (n : ℕ) (bytes : List ℕ) (first : List Request) (m : ℕ) (rest : List ℕ) → Begins n bytes first m rest → (last : List Request) (tail : List ℕ)
      → ((answers : List Answer) → AreAnswered last answers → IsExchanged rest (responses last answers ++ tail) (statuses_of answers))
      → (answers : List Answer) → AreAnswered (first ++ last) answers → IsExchanged bytes (responses (first ++ last) answers ++ tail) (statuses_of answers)
  of_begins n bytes [] m rest (none _ _) last tail behind answers all = behind answers all
  of_begins (suc n) bytes _ m rest (goes _ _ s rs _ _ tells still begins) last tail behind [] all = absurd all
  of_begins (suc n) bytes _ m rest (goes _ _ s rs _ _ tells still begins) last tail behind (answer ∷ answers) all =
      subst (λ (l : List ℕ). IsExchanged bytes l (statuses_of (answer ∷ answers))) (sym (append_assoc (response_to s.request answer) (responses (rs ++ last) answers) tail))
      (first_exchanged bytes s answer (responses (rs ++ last) answers ++ tail) (statuses_of answers) tells all.0 (of_begins n (drop s.size bytes) rs m rest begins last tail behind answers all.1))

  of_finish : (n : ℕ) (bytes : List ℕ) (last : List Request) (ending : Ending) → Finishes n bytes last ending → (answers : List Answer) → AreAnswered last answers → IsExchanged bytes (responses last answers ++ ending.text) (statuses_of answers)
  of_finish zero bytes _ _ (full _) [] all = nothing bytes
  of_finish zero bytes _ _ (full _) (answer ∷ answers) all = absurd all
  of_finish (suc n) bytes _ _ (over _ _ tells) [] all = nothing bytes
  of_finish (suc n) bytes _ _ (over _ _ tells) (answer ∷ answers) all = absurd all
  of_finish (suc n) bytes _ _ (turned_away _ _ status tells) (answer ∷ answers) all = absurd all
  of_finish (suc n) bytes _ _ (turned_away _ _ status tells) [] all = rejection bytes (rejection_of status) status tells ([], sym (append-nil (rejection_of status)))
  of_finish (suc n) bytes _ _ (closing _ _ s tells closes) [] all = absurd all
  of_finish (suc n) bytes _ _ (closing _ _ s tells closes) (answer ∷ b ∷ answers) all = absurd all.1
  of_finish (suc n) bytes _ _ (closing _ _ s tells closes) (answer ∷ []) all =
      subst (λ (l : List ℕ). IsExchanged bytes l (line answer.status ∷ [])) (sym (append_assoc (response_to s.request answer) [] [])) (first_exchanged bytes s answer [] [] tells all.0 (nothing (drop s.size bytes)))

  -- some of them were, and the session stopped
  of_stop : (bytes out : List ℕ) (last : List Request) (reply : List Answer) (n : ℕ) → StopsAt bytes out last reply n → AreAnswered last reply → IsExchanged bytes out (statuses_of reply)
  of_stop bytes out _ _ n (silent _ empty) all = subst (λ (l : List ℕ). IsExchanged bytes l []) (sym empty) (nothing bytes)
  of_stop bytes out _ _ (suc n) (answering _ s answer tells (rest, is)) all =
      let is_come = come_whole bytes s tells in
      stopped bytes is_come.head s.request.body (drop s.size bytes) (line answer.status) answer.text out rest s.request.head.closes is_come.begins (replied bytes s answer is_come all.0)
      (sym is ∙ response_is answer.status s.request.head.closes answer.text)
  of_stop bytes out _ _ (suc n) (rejecting _ status tells front) all = rejection bytes out status tells front

  of_part : (n : ℕ) (bytes : List ℕ) (first : List Request) (m : ℕ) (rest : List ℕ) → Begins n bytes first m rest → (last : List Request) (replies reply : List Answer) (out : List ℕ) → length replies ≡ length first
      → AreAnswered (first ++ last) (replies ++ reply) → (AreAnswered last reply → IsExchanged rest out (statuses_of reply)) → IsExchanged bytes (responses first replies ++ out) (statuses_of (replies ++ reply))
  of_part n bytes [] m rest (none _ _) last [] reply out same all behind = behind all
  of_part n bytes [] m rest (none _ _) last (answer ∷ replies) reply out same all behind = absurd (omega (arith, same))
  of_part (suc n) bytes _ m rest (goes _ _ s rs _ _ tells still begins) last [] reply out same all behind = absurd (omega (arith, same))
  of_part (suc n) bytes _ m rest (goes _ _ s rs _ _ tells still begins) last (answer ∷ replies) reply out same all behind =
      subst (λ (l : List ℕ). IsExchanged bytes l (line answer.status ∷ statuses_of (replies ++ reply))) (sym (append_assoc (response_to s.request answer) (responses rs replies) out))
      (first_exchanged bytes s answer (responses rs replies ++ out) (statuses_of (replies ++ reply)) tells all.0 (of_part n (drop s.size bytes) rs m rest begins last replies reply out (omega (arith, same)) all.1 behind))

  as_many : (requests : List Request) (answers : List Answer) → AreAnswered requests answers → length answers ≡ length requests
  as_many [] [] all = refl
  as_many [] (answer ∷ answers) all = absurd all
  as_many (request ∷ requests) [] all = absurd all
  as_many (request ∷ requests) (answer ∷ answers) all = ap (λ (n : ℕ). suc n) (as_many requests answers all.1)

  stop_size : (bytes out : List ℕ) (last : List Request) (reply : List Answer) (n : ℕ) → StopsAt bytes out last reply n → length reply ≡ length last
  stop_size bytes out _ _ n (silent _ empty) = refl
  stop_size bytes out _ _ (suc n) (answering _ s answer tells front) = refl
  stop_size bytes out _ _ (suc n) (rejecting _ status tells front) = refl

  part_exchanged : (bytes text : List ℕ) (done : List Request) (answers : List Answer) → IsPart bytes text done answers → AreAnswered done answers → IsExchanged bytes text (statuses_of answers)
  part_exchanged bytes text done answers p all =
      let sizes : length p.replies ≡ length p.first = omega (
        arith,
        as_many done answers all,
        ap (λ (l : List Request). length l) p.done_is,
        ap (λ (l : List Answer). length l) p.answers_is,
        length-append p.first p.last,
        length-append p.replies p.reply,
        stop_size p.rest p.out p.last p.reply p.left p.stops,
      ) in
      subst (λ (l : List ℕ). IsExchanged bytes l (statuses_of answers)) (sym p.text_is)
      (subst (λ (l : List Answer). IsExchanged bytes (responses p.first p.replies ++ p.out) (statuses_of l)) (sym p.answers_is)
      (of_part 10000 bytes p.first p.left p.rest p.begins p.last p.replies p.reply p.out sizes
      (subst (λ (l : List Request). AreAnswered l (p.replies ++ p.reply)) p.done_is (subst (AreAnswered done) p.answers_is all)) (λ last. of_stop p.rest p.out p.last p.reply p.left p.stops last)))

  whole_exchanged : (bytes text : List ℕ) (done : List Request) (answers : List Answer) (way : End) → IsWhole bytes text done answers way → AreAnswered done answers → IsExchanged bytes text (statuses_of answers)
  whole_exchanged bytes text done answers way w all =
      let b = w.brings in
      subst (λ (l : List ℕ). IsExchanged bytes l (statuses_of answers)) (sym (w.text_is ∙ ap (λ (l : List Request). responses l answers ++ w.ending.text) b.all))
      (of_begins 10000 bytes b.done b.left b.rest b.begins b.last w.ending.text (λ more all. of_finish b.left b.rest b.last w.ending b.finishes more all) answers (subst (λ (l : List Request). AreAnswered l answers) b.all all))

  text_exchanged : (bytes text : List ℕ) (done : List Request) (answers : List Answer) (end : End) → IsTextOf bytes text done answers end → AreAnswered done answers → IsExchanged bytes text (statuses_of answers)
  text_exchanged bytes text done answers ConnectionFault t all = part_exchanged bytes text done answers t all
  text_exchanged bytes text done answers NoMemory t all = part_exchanged bytes text done answers t all
  text_exchanged bytes text done answers Closed t all = whole_exchanged bytes text done answers Closed t all
  text_exchanged bytes text done answers Cut t all = whole_exchanged bytes text done answers Cut t all
  text_exchanged bytes text done answers Rejected t all = whole_exchanged bytes text done answers Rejected t all
  text_exchanged bytes text done answers Limit t all = whole_exchanged bytes text done answers Limit t all

  pub session_exchanged : (s : Session (StampedEntry Filing)) → (told : IsToldOf (semantics_under stamp filing_semantics) (own_under stamp filing_asked) office_web closed mine by s) → IsExchanged s.bytes s.text (statuses_of told.answers)
  session_exchanged s told = text_exchanged s.bytes s.text told.done told.answers s.end told.text told.each
