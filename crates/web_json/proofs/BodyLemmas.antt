-- A body says no book, and so its filing is that of its kind and its numbers.
use Rattle.std.proofs.Common.{◌≡◌, ℕ, ℤ, pos, Bool, true, false, List, [], ◌∷◌, Option, Some, None, refl, ap, subst}
use Rattle.std.specs.Prelude.{◌&&◌, if◌then◌else◌, option_and_then, option_map}
use Rattle.serde_json.specs.Data.{Data}
use Rattle.aid_filings.specs.declared.filing.Filing.{Filing}
use Rattle.aid_filings.specs.declared.reply.Operation.TheVariants.{File}
use Rattle.format_kinds.specs.Kinds.{slots_of_kind}
use Rattle.format_kinds.specs.declared.kind.Kind.{Kind}
use Rattle.format_bytes.specs.Numbers.{kind_of, numbers_of}
use Rattle.web_json.specs.Bodies.{are_numbers, fields_of, filing_by_fields, filing_in, filing_of_body, filing_of_kind, has_bodies, keys_of, kind_in, said, within}
use Rattle.web_json.specs.Values.{has_exactly, numbers_said, value_of}
use Rattle.web_json.specs.Filings.{filing_with}
use Rattle.web_json.proofs.FilingLemmas.{filing_again}

same_kind : (b : Bool) (kind k : Kind) (zs ys : List ℤ) → if◌then◌else◌ {A = Option (Kind × List ℤ)} b (Some (kind, zs)) None ≡ Some (k, ys) → kind ≡ k
same_kind true kind k zs ys e = let pair : ◌≡◌ {A = Kind × List ℤ} (kind, zs) (k, ys) = cc in ap (λ (p : Kind × List ℤ). p.0) pair
same_kind false kind k zs ys e = absurd cc

kind_by_fields : (school : ℕ) (d : Data) (kind k : Kind) (ys : List ℤ) → filing_by_fields school d kind ≡ Some (k, ys) → kind ≡ k
kind_by_fields school d kind k ys e = go (numbers_said (fields_of kind) d) e
  where
    go : (zs : Option (List ℤ)) → option_and_then (λ zs. within kind (pos school ∷ zs)) zs ≡ Some (k, ys) → kind ≡ k
    go None e = absurd cc
    go (Some zs) e = same_kind (are_numbers (slots_of_kind kind) [] (pos school ∷ zs)) kind k (pos school ∷ zs) ys e

bodies_of_kind : (school : ℕ) (d : Data) (kind k : Kind) (ys : List ℤ) → filing_of_kind school d kind ≡ Some (k, ys) → has_bodies k ≡ true
unfolding filing_of_kind
bodies_of_kind school d kind k ys e = go (has_bodies kind) refl (has_exactly (keys_of kind) d) e
  where
    go : (a : Bool) → has_bodies kind ≡ a → (b : Bool) → if◌then◌else◌ {A = Option (Kind × List ℤ)} (a && b) (filing_by_fields school d kind) None ≡ Some (k, ys) → has_bodies k ≡ true
    go true is true e = subst (λ (x : Kind). has_bodies x ≡ true) (kind_by_fields school d kind k ys e) is
    go true is false e = absurd cc
    go false is b e = absurd cc

bodies_of_value : (school : ℕ) (d : Data) (k : Kind) (ys : List ℤ) → filing_in school d ≡ Some (k, ys) → has_bodies k ≡ true
bodies_of_value school d k ys e = go (kind_in d) e
  where
    go : (kind : Option Kind) → option_and_then (filing_of_kind school d) kind ≡ Some (k, ys) → has_bodies k ≡ true
    go None e = absurd cc
    go (Some kind) e = bodies_of_kind school d kind k ys e

bodies_of_body : (school : ℕ) (body : List ℕ) (k : Kind) (ys : List ℤ) → filing_of_body school body ≡ Some (k, ys) → has_bodies k ≡ true
bodies_of_body school body k ys e = go (value_of body) e
  where
    go : (d : Option Data) → option_and_then (filing_in school) d ≡ Some (k, ys) → has_bodies k ≡ true
    go None e = absurd cc
    go (Some d) e = bodies_of_value school d k ys e

-- the filing that a body says is the one that is asked
pub asked_filing : (school : ℕ) (body : List ℕ) (filing : Filing) → filing_of_body school body ≡ Some (said filing)
    → Some (File filing) ≡ option_map File (option_and_then filing_with (filing_of_body school body))
asked_filing school body filing e =
    let is = bodies_of_body school body (kind_of filing.what) (numbers_of filing) e in
    rw (e, filing_again filing is) refl
