-- What a request's method and target ask. Own routes, found by `matchit`.
use Rattle.std.specs.Prelude.{ℕ, zero, suc, ℤ, pos, ◌==◌, if◌then◌else◌, List, [], ◌∷◌, Option, Some, None, Result, Ok, Err, codes, option_map, unsigned_abs}
use Rattle.std.specs.Str.{bytes_eq, is_utf8}
use Rattle.matchit.specs.Rows.{RowsOf}
use Rattle.matchit.specs.Order.{placed}
use Rattle.matchit.specs.Route.{Scan, parse_route}
use Rattle.matchit.specs.Router.{RouteOf, route_from}
use Rattle.matchit.specs.Seek.{first}
use Rattle.matchit.specs.declared.error.InsertError.{InsertError}
use Rattle.aid_types.specs.Whole.{whole_of, whole_between}
use Rattle.aid_types.specs.declared.text.Malformed.{Malformed}
use Rattle.web_session.specs.declared.call.ApiCall.{ApiCall}
use Rattle.web_session.specs.declared.call.ApiCall.TheVariants as calls
use Rattle.web_session.specs.declared.call.Route.{Route}
use Rattle.web_session.specs.declared.call.Route.TheVariants as the_route
use Rattle.web_session.specs.declared.status.Status.{Status}
use Rattle.web_session.specs.declared.status.Status.TheVariants.{NotFound, MethodNotAllowed}

-- the rows of `matchit` with one more pattern
abbrev pub placed_read : Result Scan InsertError → Route → RowsOf (RouteOf Route) → RowsOf (RouteOf Route)
placed_read (Ok s) value rows = placed (s.pattern, route_from s value) rows
placed_read (Err e) value rows = rows

abbrev pub with_route : List ℕ → Route → RowsOf (RouteOf Route) → RowsOf (RouteOf Route)
with_route text value rows = placed_read (parse_route text) value rows

-- the three patterns
abbrev pub the_routes : RowsOf (RouteOf Route)
the_routes =
    with_route (codes "/standing/{student}/{year}") the_route.Standing
    (with_route (codes "/desks/{school}/quote/{student}/{year}/{term}") the_route.Quote (with_route (codes "/desks/{school}/filings") the_route.Filings []))

-- the pattern that `matchit` finds for a target; one that isn't UTF-8 has none
abbrev pub route_of : List ℕ → Option Route
route_of target = if is_utf8 target then option_map (λ r. r.value) (first the_routes target) else None

-- a target's pieces: 47 is `/`
abbrev pub before_slash : List ℕ → List ℕ
before_slash [] = []
before_slash (b ∷ rest) = if b == 47 then [] else b ∷ before_slash rest

abbrev pub after_slash : List ℕ → List ℕ
after_slash [] = []
after_slash (b ∷ rest) = if b == 47 then rest else after_slash rest

-- the piece behind so many slashes
abbrev pub behind : ℕ → List ℕ → List ℕ
behind zero target = target
behind (suc n) target = behind n (after_slash target)

abbrev pub piece : ℕ → List ℕ → List ℕ
piece n target = before_slash (behind n target)

-- the number that a text spells, in a range that has no number below 0
abbrev pub size_of : Result ℤ Malformed → Option ℕ
size_of (Ok z) = Some (unsigned_abs z)
size_of (Err e) = None

abbrev pub number_in : ℤ → ℤ → List ℕ → Option ℕ
number_in low high text = size_of (whole_between low high (whole_of text))

-- what there is of both
abbrev pub and_then : {A B : Type 0} → Option A → (A → Option B) → Option B
and_then None next = None
and_then (Some a) next = next a

-- a school, a student, a year and a term in their one spelling and range
abbrev pub school_in : List ℕ → Option ℕ
school_in text = number_in (pos 0) (pos 999999) text

abbrev pub student_in : List ℕ → Option ℕ
student_in text = number_in (pos 1) (pos 999999999999) text

abbrev pub year_in : List ℕ → Option ℕ
year_in text = number_in (pos 2000) (pos 2099) text

abbrev pub term_in : List ℕ → Option ℕ
term_in text = number_in (pos 1) (pos 8) text

-- what a target on a route asks
abbrev pub call_on : Route → List ℕ → Option ApiCall
call_on the_route.Filings target = and_then (school_in (piece 2 target)) (λ school. Some (calls.File school))
call_on the_route.Quote target =
    and_then (school_in (piece 2 target)) (λ school.
    and_then (student_in (piece 4 target)) (λ student.
    and_then (year_in (piece 5 target)) (λ year.
    and_then (term_in (piece 6 target)) (λ term.
    Some (calls.Quote school student year term)))))
call_on the_route.Standing target =
    and_then (student_in (piece 2 target)) (λ student.
    and_then (year_in (piece 3 target)) (λ year.
    Some (calls.Standing student year)))

-- what a target asks: a parameter that is no number in range is no route
abbrev pub call_at : List ℕ → Option ApiCall
call_at target = and_then (route_of target) (λ route. call_on route target)

abbrev pub method_of : ApiCall → List ℕ
method_of (calls.File school) = codes "POST"
method_of (calls.Quote school student year term) = codes "GET"
method_of (calls.Standing student year) = codes "GET"

-- what a method and a target ask, or the status of the first check that they don't pass
abbrev pub call_by : List ℕ → Option ApiCall → Result ApiCall Status
call_by method None = Err NotFound
call_by method (Some call) = if bytes_eq method (method_of call) then Ok call else Err MethodNotAllowed

abbrev pub call_of : List ℕ → List ℕ → Result ApiCall Status
call_of method target = call_by method (call_at target)
