-- The target of a school's filings is that route, with that school.
use Rattle.std.proofs.Common.{◌≡◌, ◌≢◌, ℕ, zero, suc, ◌+◌, ◌-◌, ◌≤◌, pos, Bool, true, false, not, List, [], ◌∷◌, ◌++◌, Option, Some, None, Ok, length, drop, codes, cond, refl, sym, ap, ◌∙◌, arith, ltb, ◌==◌, length-append, IsUtf8}
use Rattle.std.specs.Prelude.{if◌then◌else◌, option_map, int_le}
use Rattle.std.specs.Char.{is_ascii_digit}
use Rattle.std.specs.List.{list_all}
use Rattle.std.specs.Str.{is_utf8}
use Rattle.std.proofs.lemmas.Bool.{and_parts, lt-ltb}
use Rattle.std.proofs.lemmas.Int.{ints}
use Rattle.std.proofs.lemmas.Str.{is_utf8-from_IsUtf8}
use Rattle.matchit.specs.Rows.{RowsOf, param_token}
use Rattle.matchit.specs.Router.{RouteOf}
use Rattle.matchit.specs.Seek.{cuts, first, has_slash, longest_suffix, or_else, param_step, seek, segment, step, with_suffix}
use Rattle.matchit.proofs.OnLiterals.{matchit_on_literals}
use Rattle.aid_types.proofs.WholeLemmas.{digit_range, natural_of-natural_text, whole_of-whole_text}
use Rattle.aid_types.specs.Whole.{is_natural, natural_of, natural_text, whole_between, whole_text}
use Rattle.web_session.specs.Calls.{and_then, before_slash, call_at, call_by, call_of, call_on, piece, route_of, school_in, size_of, the_routes}
use Rattle.web_session.specs.declared.call.ApiCall.{ApiCall}
use Rattle.web_session.specs.declared.call.ApiCall.TheVariants as calls
use Rattle.web_session.specs.declared.call.Route.{Route}
use Rattle.web_session.specs.declared.call.Route.TheVariants as the_route

-- ---- digits
unequal : (a b : ℕ) → a ≢ b → (a == b) ≡ false
unequal a b differ = grind arith

no_slash : (c : ℕ) → is_ascii_digit c ≡ true → (c == 47) ≡ false
no_slash c is = let range = digit_range c is in unequal c 47 (λ e. omega (arith, e, range.0))

no_token : (c : ℕ) → is_ascii_digit c ≡ true → (256 == c) ≡ false
no_token c is = let range = digit_range c is in unequal 256 c (λ e. omega (arith, e, range.1))

-- the text of a number has a digit, and nothing else
all_digits : (text : List ℕ) → is_natural text ≡ true → list_all is_ascii_digit text ≡ true
all_digits [] is = refl
all_digits (c ∷ []) is = let first : is_ascii_digit c ≡ true = is in rw first refl
all_digits (c ∷ d ∷ ds) is = (and_parts (not (c == 48)) (list_all is_ascii_digit (c ∷ d ∷ ds)) is).1

is_number : (n : ℕ) → is_natural (natural_text n) ≡ true
is_number n = go (is_natural (natural_text n)) refl (natural_of-natural_text n)
  where
    go : (b : Bool) → is_natural (natural_text n) ≡ b → natural_of (natural_text n) ≡ Some n → is_natural (natural_text n) ≡ true
    go true is read = is
    go false is read = absurd (let none : natural_of (natural_text n) ≡ None = rw is refl in let no : ⊥ = cc in no)

-- what stands before a slash
segment_is : (ds rest : List ℕ) → list_all is_ascii_digit ds ≡ true → segment (ds ++ 47 ∷ rest) ≡ ds ++ 47 ∷ []
segment_is [] rest all = refl
segment_is (d ∷ ds) rest all =
    let parts = and_parts (is_ascii_digit d) (list_all is_ascii_digit ds) all in
    let here : (d == 47) ≡ false = no_slash d parts.0 in
    ap (λ (b : Bool). cond b (d ∷ []) (d ∷ segment (ds ++ 47 ∷ rest))) here ∙ ap (λ (l : List ℕ). d ∷ l) (segment_is ds rest parts.1)

before_is : (ds rest : List ℕ) → list_all is_ascii_digit ds ≡ true → before_slash (ds ++ 47 ∷ rest) ≡ ds
before_is [] rest all = refl
before_is (d ∷ ds) rest all =
    let parts = and_parts (is_ascii_digit d) (list_all is_ascii_digit ds) all in
    ap (λ (b : Bool). if b then [] else d ∷ before_slash (ds ++ 47 ∷ rest)) (no_slash d parts.0) ∙ ap (λ (l : List ℕ). d ∷ l) (before_is ds rest parts.1)

drop_all : (ds rest : List ℕ) → drop (length ds) (ds ++ rest) ≡ rest
drop_all [] rest = refl
drop_all (d ∷ ds) rest = drop_all ds rest

-- a segment with something before its slash
is_cut : (d : ℕ) (ds : List ℕ) → cuts (d ∷ ds ++ 47 ∷ []) (47 ∷ []) ≡ true
is_cut d ds =
    let size : length (d ∷ ds ++ 47 ∷ []) ≡ length ds + 2 = omega (arith, length-append ds (47 ∷ [])) in
    let longer : ltb 1 (length (d ∷ ds ++ 47 ∷ [])) ≡ true = lt-ltb 1 (length (d ∷ ds ++ 47 ∷ [])) (omega (arith, size)) in
    let place : length (d ∷ ds ++ 47 ∷ []) - 1 ≡ length (d ∷ ds) = omega (arith, size) in
    let end : drop (length (d ∷ ds ++ 47 ∷ []) - 1) (d ∷ ds ++ 47 ∷ []) ≡ 47 ∷ [] = ap (λ (n : ℕ). drop n (d ∷ ds ++ 47 ∷ [])) place ∙ drop_all (d ∷ ds) (47 ∷ []) in
    rw (longer, end) refl

-- ---- the router
abbrev Rows : Type 0
Rows = RowsOf (RouteOf Route)

abbrev value : Option (RouteOf Route) → Option Route
value o = option_map (λ (r : RouteOf Route). r.value) o

either : (one other : Option (RouteOf Route)) (v : Route) → value one ≡ Some v → value (or_else one other) ≡ Some v
either None other v is = absurd (let no : ⊥ = cc in no)
either (Some r) other v is = is

-- where no row goes on with a parameter
abbrev stops : Bool → List ℕ → ℕ × Rows
stops h path = cond h (0, []) (length path, [])

-- no row leads nowhere
nowhere : (skip : ℕ) (path : List ℕ) → seek {K = RouteOf Route} skip [] path ≡ None
unfolding seek param_step
nowhere zero [] = refl
nowhere (suc skip) [] = refl
nowhere (suc skip) (b ∷ path) = nowhere skip path
nowhere zero (b ∷ path) = go (has_slash (b ∷ path)) (nowhere 0 path) (nowhere (length (b ∷ path) - 1) path)
  where
    go : (h : Bool) → seek {K = RouteOf Route} 0 [] path ≡ None → seek {K = RouteOf Route} (length (b ∷ path) - 1) [] path ≡ None
        → or_else (seek {K = RouteOf Route} 0 [] path) (or_else (seek {K = RouteOf Route} ((stops h (b ∷ path)).0 - 1) (stops h (b ∷ path)).1 path) None) ≡ None
    go true none skipped = rw none refl
    go false none skipped = rw (none, skipped) refl

-- a byte that rows go on with
by_byte : (rows : Rows) (b : ℕ) (path : List ℕ) (v : Route) → value (seek 0 (step b rows) path) ≡ Some v → value (seek 0 rows (b ∷ path)) ≡ Some v
unfolding seek
by_byte rows b path v is = either (seek 0 (step b rows) path) _ v is

skipped_all : (ds : List ℕ) (rows : Rows) (rest : List ℕ) → seek (length ds) rows (ds ++ rest) ≡ seek 0 rows rest
unfolding seek
skipped_all [] rows rest = refl
skipped_all (d ∷ ds) rows rest = skipped_all ds rows rest

-- the rows behind `/desks/`, and those behind the school
abbrev desks : Rows
desks = step 47 (step 115 (step 107 (step 115 (step 101 (step 100 (step 47 the_routes))))))

abbrev schools : Rows
schools = step param_token desks

behind_school : value (seek 0 schools (codes "/filings")) ≡ Some the_route.Filings
unfolding matchit_on_literals
behind_school = refl

longest : (seg : List ℕ) → cuts seg (47 ∷ []) ≡ true → longest_suffix seg schools ≡ 47 ∷ []
unfolding matchit_on_literals
longest seg cut = rw cut refl

param : (d : ℕ) (ds : List ℕ) → list_all is_ascii_digit (d ∷ ds) ≡ true → param_step schools (d ∷ ds ++ codes "/filings") ≡ (length (d ∷ ds), schools)
unfolding matchit_on_literals
param d ds all =
    let path : List ℕ = d ∷ ds ++ codes "/filings" in
    let other : ℕ × Rows = cond (has_slash path) (0, []) (length path, schools) in
    let seg : List ℕ = d ∷ ds ++ 47 ∷ [] in
    let taken : List ℕ → List ℕ → ℕ × Rows = λ s suffix. cond (ltb 0 (length suffix)) (length s - length suffix, with_suffix suffix schools) other in
    let size : length seg - 1 ≡ length (d ∷ ds) = omega (arith, length-append ds (47 ∷ [])) in
    ap (λ (s : List ℕ). taken s (longest_suffix s schools)) (segment_is (d ∷ ds) (codes "filings") all) ∙ ap (taken seg) (longest seg (is_cut d ds)) ∙ ap (λ (n : ℕ). (n, schools)) size

no_byte : (d : ℕ) → is_ascii_digit d ≡ true → step d desks ≡ []
unfolding matchit_on_literals
no_byte d is = let differ = no_token d is in rw differ refl

at_school : (d : ℕ) (ds : List ℕ) → list_all is_ascii_digit (d ∷ ds) ≡ true → value (seek 0 desks (d ∷ ds ++ codes "/filings")) ≡ Some the_route.Filings
unfolding seek
at_school d ds all =
    let path : List ℕ = ds ++ codes "/filings" in
    let parts = and_parts (is_ascii_digit d) (list_all is_ascii_digit ds) all in
    let none : seek 0 (step d desks) path ≡ None = ap (λ (rows : Rows). seek 0 rows path) (no_byte d parts.0) ∙ nowhere 0 path in
    let behind : length (d ∷ ds) - 1 ≡ length ds = omega arith in
    let second : value (seek ((param_step schools (d ∷ path)).0 - 1) (param_step schools (d ∷ path)).1 path) ≡ Some the_route.Filings =
    ap (λ (p : ℕ × Rows). value (seek (p.0 - 1) p.1 path)) (param d ds all)
    ∙ ap (λ (n : ℕ). value (seek n schools path)) behind
    ∙ ap (λ (o : Option (RouteOf Route)). value o) (skipped_all ds schools (codes "/filings")) ∙ behind_school in
    rw none (either (seek ((param_step schools (d ∷ path)).0 - 1) (param_step schools (d ∷ path)).1 path) _ the_route.Filings second)

found : (d : ℕ) (ds : List ℕ) → list_all is_ascii_digit (d ∷ ds) ≡ true → value (first the_routes (codes "/desks/" ++ d ∷ ds ++ codes "/filings")) ≡ Some the_route.Filings
found d ds all =
    by_byte the_routes 47 _ the_route.Filings (by_byte (step 47 the_routes) 100 _ the_route.Filings (by_byte (step 100 (step 47 the_routes)) 101 _ the_route.Filings
    (by_byte (step 101 (step 100 (step 47 the_routes))) 115 _ the_route.Filings (by_byte (step 115 (step 101 (step 100 (step 47 the_routes)))) 107 _ the_route.Filings
    (by_byte (step 107 (step 115 (step 101 (step 100 (step 47 the_routes))))) 115 _ the_route.Filings (by_byte (step 115 (step 107 (step 115 (step 101 (step 100 (step 47 the_routes)))))) 47 _ the_route.Filings (at_school d ds all)))))))

-- ---- the number of the school
in_range : (n : ℕ) → n ≤ 999999 → school_in (whole_text (pos n)) ≡ Some n
in_range n few =
    let low : int_le (pos 0) (pos n) ≡ true = grind (arith, ints) in
    let high : int_le (pos n) (pos 999999) ≡ true = grind (arith, ints) in
    ap (λ o. size_of (whole_between (pos 0) (pos 999999) o)) (whole_of-whole_text (pos n)) ∙ rw (low, high) refl

abbrev target_of : ℕ → List ℕ
target_of n = codes "/desks/" ++ whole_text (pos n) ++ codes "/filings"

calls_school : (n : ℕ) → n ≤ 999999 → is_utf8 (target_of n) ≡ true → call_at (target_of n) ≡ Some (calls.File n)
calls_school n few text = go (natural_text n) (is_number n) refl
  where
    go : (ds : List ℕ) → is_natural ds ≡ true → natural_text n ≡ ds → call_at (target_of n) ≡ Some (calls.File n)
    go [] is at = absurd (let no : ⊥ = cc in no)
    go (d ∷ ds) is at =
        let all = all_digits (d ∷ ds) is in
        let routed : value (first the_routes (target_of n)) ≡ Some the_route.Filings = ap (λ (l : List ℕ). value (first the_routes (codes "/desks/" ++ l ++ codes "/filings"))) at ∙ found d ds all in
        let route : route_of (target_of n) ≡ Some the_route.Filings = ap (λ (b : Bool). if b then value (first the_routes (target_of n)) else None) text ∙ routed in
        let school : piece 2 (target_of n) ≡ whole_text (pos n) =
        ap (λ (l : List ℕ). before_slash (l ++ codes "/filings")) at ∙ before_is (d ∷ ds) (codes "filings") all ∙ sym at in
        ap (λ (o : Option Route). and_then o (λ route. call_on route (target_of n))) route
        ∙ ap (λ (l : List ℕ). and_then (school_in l) (λ (s : ℕ). Some (calls.File s))) school
        ∙ ap (λ (o : Option ℕ). and_then o (λ (s : ℕ). Some (calls.File s))) (in_range n few)

pub calls_filings : (method target : List ℕ) (n : ℕ) → n ≤ 999999 → IsUtf8 target → method ≡ codes "POST" → target ≡ codes "/desks/" ++ whole_text (pos n) ++ codes "/filings" → call_of method target ≡ Ok (calls.File n)
calls_filings method target n few text is at =
    (λ i. call_of (is i) (at i))
    ∙ ap (λ (o : Option ApiCall). call_by (codes "POST") o) (calls_school n few (ap is_utf8 (sym at) ∙ is_utf8-from_IsUtf8 target text))
