-- The exchange of one literal request, and of one head that is rejected.
use Rattle.std.proofs.Common.{arith, refl, inl, inr, ℕ, true, IsTrue, List, [], ◌∷◌, codes, IsUtf8}
use Rattle.std.proofs.lemmas.List.Elements.{All-nil, All-cons}
use Rattle.httparse.specs.Grammar.{RequestHead, IsRequestHead, IsField, ReadsRequest, print_request, crlf, is_token_byte, is_uri_byte}
use Rattle.web_session.specs.Asks.{Request}
use Rattle.web_session.specs.Calls.{call_of}
use Rattle.web_session.specs.Heads.{head_said}
use Rattle.web_session.specs.Exchange.{Tells, ended, whole, bad, none, closing, rejected, Brings, rejection_of}
use Rattle.web_session.specs.declared.status.Status.TheVariants.{LengthRequired}
use Rattle.web_session.specs.declared.end.End.TheVariants.{Closed, Rejected}

slash : IsUtf8 (codes "/")
unfolding lib.Utf8.encode
slash = (codes "/", (refl, refl))

-- `GET / HTTP/1.0`
abbrev get : RequestHead
get = record { blank = []; method = codes "GET"; target = codes "/"; minor = 0; line_end = crlf; fields = []; last = crlf }

get_is : IsRequestHead get
unfolding is_token_byte
get_is = record {
  method = (omega arith, All-cons (λ (b : ℕ). IsTrue (is_token_byte b)) 71 (69 ∷ 84 ∷ []) refl (All-cons (λ (b : ℕ). IsTrue (is_token_byte b)) 69 (84 ∷ []) refl (All-cons (λ (b : ℕ). IsTrue (is_token_byte b)) 84 [] refl (All-nil (λ (b : ℕ). IsTrue (is_token_byte b))))));
  target = (omega arith, All-cons (λ (b : ℕ). IsTrue (is_uri_byte b)) 47 [] refl (All-nil (λ (b : ℕ). IsTrue (is_uri_byte b))));
  target_text = slash;
  minor = omega arith;
  fields = All-nil IsField;
}

abbrev get_text : List ℕ
get_text = codes "GET / HTTP/1.0\r\n\r\n"

abbrev get_request : Request
get_request = record { head = record { call = call_of (codes "GET") (codes "/"); length = 0; closes = true }; body = [] }

get_reads : ReadsRequest get_text get []
unfolding print_request
get_reads = (get_is, refl)

get_tells : Tells get_text (whole (record { request = get_request; size = 18 }))
get_tells = ended 18 (head_said get) refl (inr (omega arith, inl (get, get_reads, refl)))

pub get_brings : Brings 10000 get_text (get_request ∷ []) (record { text = []; way = Closed })
get_brings = record { done = []; left = 10000; rest = get_text; begins = none 10000 get_text; last = get_request ∷ []; finishes = closing 9999 get_text (record { request = get_request; size = 18 }) get_tells refl; all = refl }

-- `POST / HTTP/1.1` without a length
abbrev post : RequestHead
post = record { blank = []; method = codes "POST"; target = codes "/"; minor = 1; line_end = crlf; fields = []; last = crlf }

post_is : IsRequestHead post
unfolding is_token_byte
post_is = record {
  method = (omega arith, All-cons (λ (b : ℕ). IsTrue (is_token_byte b)) 80 (79 ∷ 83 ∷ 84 ∷ []) refl (All-cons (λ (b : ℕ). IsTrue (is_token_byte b)) 79 (83 ∷ 84 ∷ []) refl (All-cons (λ (b : ℕ). IsTrue (is_token_byte b)) 83 (84 ∷ []) refl (All-cons (λ (b : ℕ). IsTrue (is_token_byte b)) 84 [] refl (All-nil (λ (b : ℕ). IsTrue (is_token_byte b)))))));
  target = (omega arith, All-cons (λ (b : ℕ). IsTrue (is_uri_byte b)) 47 [] refl (All-nil (λ (b : ℕ). IsTrue (is_uri_byte b))));
  target_text = slash;
  minor = omega arith;
  fields = All-nil IsField;
}

abbrev post_text : List ℕ
post_text = codes "POST / HTTP/1.1\r\n\r\n"

post_reads : ReadsRequest post_text post []
unfolding print_request
post_reads = (post_is, refl)

post_tells : Tells post_text (bad LengthRequired)
post_tells = ended 19 (head_said post) refl (inr (omega arith, inl (post, post_reads, refl)))

pub post_brings : Brings 10000 post_text [] (record { text = rejection_of LengthRequired; way = Rejected })
post_brings = record { done = []; left = 10000; rest = post_text; begins = none 10000 post_text; last = []; finishes = rejected 9999 post_text LengthRequired post_tells; all = refl }
