-- The filing that a kind and its numbers say. Each number is brought into its range, so that every list of numbers has one;
-- those of a filing stay as they are, and give it back (`filing_again` of proofs/FilingLemmas).
use Rattle.std.specs.Prelude.{ℕ, ℤ, pos, ◌+ℤ◌, ◌==◌, min, Bool, List, [], ◌∷◌, drop, take, Option, Some, None, option_map, slice_index_or, unsigned_abs, if◌then◌else◌}
use Rattle.aid_types.specs.declared.application.Application.{Application}
use Rattle.aid_types.specs.declared.application.Region.{Region}
use Rattle.aid_types.specs.declared.application.Region.TheVariants.{Contiguous, Alaska, Hawaii}
use Rattle.aid_types.specs.declared.application.Side.{Side}
use Rattle.aid_types.specs.declared.number.Key.{Key}
use Rattle.aid_types.specs.declared.number.Program.{Program}
use Rattle.aid_types.specs.declared.number.Program.TheVariants.{Unsub, Sub, Plus, Pell, Fseog, Teach}
use Rattle.aid_filings.specs.declared.filing.AmendFacts.{AmendFacts}
use Rattle.aid_filings.specs.declared.filing.Amount.{Amount}
use Rattle.aid_filings.specs.declared.filing.CalendarFacts.{CalendarFacts}
use Rattle.aid_filings.specs.declared.filing.EnrollFacts.{EnrollFacts}
use Rattle.aid_filings.specs.declared.filing.Filing.{Filing}
use Rattle.aid_filings.specs.declared.filing.OriginateFacts.{OriginateFacts}
use Rattle.aid_filings.specs.declared.filing.PriorFacts.{PriorFacts}
use Rattle.aid_filings.specs.declared.filing.SchoolFacts.{SchoolFacts}
use Rattle.aid_filings.specs.declared.filing.SentFacts.{SentFacts}
use Rattle.aid_filings.specs.declared.filing.What.{What}
use Rattle.aid_filings.specs.declared.filing.What.TheVariants as whats
use Rattle.aid_filings.specs.declared.filing.WithdrawFacts.{WithdrawFacts}
use Rattle.format_kinds.specs.declared.kind.Kind.{Kind}
use Rattle.format_kinds.specs.declared.kind.Kind.TheVariants as kinds
use Rattle.web_json.specs.Brought.{brought, is_brought, is_capped, amount_of, is_amount_of, signed_of, is_signed_of, cents_of, are_cents}

-- the number at a place, with its sign and without
abbrev pub at : List ℤ → ℕ → ℤ
at zs k = slice_index_or zs k (pos 0)

abbrev pub natural : List ℤ → ℕ → ℕ
natural zs k = unsigned_abs (at zs k)

-- a day, a yes, a region and a program by their numbers
abbrev pub day_of : ℤ → ℕ
day_of z = unsigned_abs (z +ℤ pos 25567)

abbrev pub flag_of : ℤ → Bool
flag_of z = unsigned_abs z == 1

abbrev pub region_of : ℤ → Region
region_of z = if unsigned_abs z == 0 then Contiguous else (if unsigned_abs z == 1 then Alaska else Hawaii)

abbrev pub program_at : ℕ → Program
program_at n = if n == 0 then Unsub else (if n == 1 then Sub else (if n == 2 then Plus else (if n == 3 then Pell else (if n == 4 then Fseog else Teach))))

-- the breaks of a term, two numbers each
abbrev pub breaks_of : List ℤ → List (ℕ × ℕ)
breaks_of [] = []
breaks_of (first ∷ []) = []
breaks_of (first ∷ last ∷ rest) = (day_of first, day_of last) ∷ breaks_of rest

-- a term's number
abbrev pub term_of : ℕ → ℕ
term_of n = brought 1 7 n

abbrev pub key_of : List ℤ → Key
key_of zs = record { school = natural zs 0; number = brought 1 999999999998 (natural zs 1); in_range = is_brought 1 999999999998 (natural zs 1) }

abbrev pub school_of : List ℤ → SchoolFacts
school_of zs = record {
  code = brought 1 999998 (natural zs 0);
  terms = brought 2 1 (natural zs 1);
  full = brought 1 39 (natural zs 2);
  in_range = (is_brought 1 999998 (natural zs 0), is_brought 2 1 (natural zs 1), is_brought 1 39 (natural zs 2));
}

abbrev pub calendar_of : List ℤ → CalendarFacts
calendar_of zs = record {
  year = natural zs 0;
  term = term_of (natural zs 1);
  extra = flag_of (at zs 2);
  first = day_of (at zs 3);
  last = day_of (at zs 4);
  breaks = breaks_of (drop 6 zs);
  in_range = is_brought 1 7 (natural zs 1);
}

abbrev pub prior_of : List ℤ → PriorFacts
prior_of zs = record { student = natural zs 0; units = natural zs 1 }

abbrev pub enroll_of : List ℤ → EnrollFacts
enroll_of zs = record {
  student = natural zs 0;
  year = natural zs 1;
  term = term_of (natural zs 2);
  credits = natural zs 3;
  in_range = is_brought 1 7 (natural zs 2);
}

abbrev pub originate_of : List ℤ → OriginateFacts
originate_of zs = record { student = natural zs 0; year = natural zs 1; cost = min 999999 (natural zs 2); in_range = is_capped 999999 (natural zs 2) }

abbrev pub money_of : List ℤ → Amount
money_of zs = record {
  student = natural zs 0;
  year = natural zs 1;
  term = term_of (natural zs 2);
  program = program_at (natural zs 3);
  cents = min 99999999 (natural zs 4);
  in_range = (is_brought 1 7 (natural zs 2), is_capped 99999999 (natural zs 4));
}

abbrev pub withdraw_of : List ℤ → WithdrawFacts
withdraw_of zs = record {
  student = natural zs 0;
  year = natural zs 1;
  term = term_of (natural zs 2);
  last = day_of (at zs 3);
  determined = day_of (at zs 4);
  charges = min 99999999 (natural zs 5);
  could = cents_of (drop 6 zs);
  in_range = (is_brought 1 7 (natural zs 2), is_capped 99999999 (natural zs 5));
  could_in_range = are_cents (drop 6 zs);
}

abbrev pub sent_of : List ℤ → SentFacts
sent_of zs = record {
  student = natural zs 0;
  year = natural zs 1;
  term = term_of (natural zs 2);
  program = program_at (natural zs 3);
  cents = min 99999999 (natural zs 4);
  day = day_of (at zs 5);
  reference = min 999999999999 (natural zs 6);
  in_range = (is_brought 1 7 (natural zs 2), is_capped 99999999 (natural zs 4), is_capped 999999999999 (natural zs 6));
}

abbrev pub amend_of : List ℤ → AmendFacts
amend_of zs = record {
  of = key_of (take 2 zs);
  change = brought 1 2 (natural zs 2);
  reason = brought 1 6 (natural zs 3);
  reference = min 999999999999 (natural zs 4);
  in_range = (is_brought 1 2 (natural zs 2), is_brought 1 6 (natural zs 3), is_capped 999999999999 (natural zs 4));
}

abbrev pub side_of : List ℤ → Side
side_of zs = record {
  agi = signed_of (at zs 0);
  ira = amount_of (at zs 1);
  interest = amount_of (at zs 2);
  ira_untaxed = amount_of (at zs 3);
  pension = amount_of (at zs 4);
  foreign = amount_of (at zs 5);
  grants = amount_of (at zs 6);
  credits = amount_of (at zs 7);
  work_study = amount_of (at zs 8);
  tax = signed_of (at zs 9);
  earned_first = amount_of (at zs 10);
  earned_second = amount_of (at zs 11);
  support = amount_of (at zs 12);
  cash = amount_of (at zs 13);
  investments = amount_of (at zs 14);
  business = amount_of (at zs 15);
  in_range = (
    is_signed_of (at zs 0),
    is_amount_of (at zs 1),
    is_amount_of (at zs 2),
    is_amount_of (at zs 3),
    is_amount_of (at zs 4),
    is_amount_of (at zs 5),
    is_amount_of (at zs 6),
    is_amount_of (at zs 7),
    is_amount_of (at zs 8),
    is_signed_of (at zs 9),
    is_amount_of (at zs 10),
    is_amount_of (at zs 11),
    is_amount_of (at zs 12),
    is_amount_of (at zs 13),
    is_amount_of (at zs 14),
    is_amount_of (at zs 15),
  );
}

abbrev pub application_of : List ℤ → Application
application_of zs = record {
  student = natural zs 0;
  year = natural zs 1;
  transaction = brought 1 98 (natural zs 2);
  birth_year = brought 1900 199 (natural zs 3);
  region = region_of (at zs 4);
  family = brought 1 29 (natural zs 5);
  married = flag_of (at zs 6);
  graduate = flag_of (at zs 7);
  bachelor = flag_of (at zs 8);
  veteran = flag_of (at zs 9);
  dependents = flag_of (at zs 10);
  orphan = flag_of (at zs 11);
  ward = flag_of (at zs 12);
  foster = flag_of (at zs 13);
  emancipated = flag_of (at zs 14);
  homeless = flag_of (at zs 15);
  student_file = flag_of (at zs 16);
  own = side_of (take 16 (drop 17 zs));
  parents_married = flag_of (at zs 33);
  parents_file = flag_of (at zs 34);
  parent_age = brought 0 120 (natural zs 35);
  parents = side_of (drop 36 zs);
  in_range = (is_brought 1 98 (natural zs 2), is_brought 1900 199 (natural zs 3), is_brought 1 29 (natural zs 5), is_brought 0 120 (natural zs 35));
}

-- what is filed; a book is a text of its own
abbrev pub what_of : Kind → List ℤ → Option What
what_of kinds.Book zs = None
what_of kinds.School zs = Some (whats.School (school_of zs))
what_of kinds.Calendar zs = Some (whats.Calendar (calendar_of zs))
what_of kinds.Prior zs = Some (whats.Prior (prior_of zs))
what_of kinds.Apply zs = Some (whats.Apply (application_of zs))
what_of kinds.Enroll zs = Some (whats.Enroll (enroll_of zs))
what_of kinds.Originate zs = Some (whats.Originate (originate_of zs))
what_of kinds.Pay zs = Some (whats.Pay (money_of zs))
what_of kinds.Withdraw zs = Some (whats.Withdraw (withdraw_of zs))
what_of kinds.Repay zs = Some (whats.Repay (money_of zs))
what_of kinds.Adjust zs = Some (whats.Adjust (money_of zs))
what_of kinds.Cost zs = Some (whats.Cost (originate_of zs))
what_of kinds.Sent zs = Some (whats.Sent (sent_of zs))
what_of kinds.Amend zs = Some (whats.Amend (amend_of zs))

-- a kind and the numbers of a key and of what is filed
abbrev pub filing_with : Kind × List ℤ → Option Filing
filing_with said = option_map (λ what. record { key = key_of (take 2 said.1); what = what }) (what_of said.0 (drop 2 said.1))
