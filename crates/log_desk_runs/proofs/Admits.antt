-- The row of an answer that admits an entry.
use Rattle.std.proofs.Common.{◌≡◌, ◌⊎◌, inl, inr, ℕ, zero, suc, ◌+◌, ◌<◌, List, [], ◌∷◌, Option, Some, None, Result, Ok, Err, length, map, get_or, refl, sym, ap, arith}
use Rattle.std.specs.Prelude.{Contains}
use Rattle.std.proofs.lemmas.List.Elements.{Contains-append_cases}
use Rattle.log_machine.specs.Scheme.{Semantics}
use Rattle.log_machine.specs.declared.names.Filed.{Filed}
use Rattle.log_machine.specs.declared.names.RowName.{RowName}
use Rattle.log_desks.specs.Answered.{Answer, admitted_of, admitted_row, placed}

-- what an ask adds has its place and its row
pub in_placed : {Entry : Type 0} (position : ℕ) (o : Option Entry) (by : RowName) (entry : ℕ × Filed Entry) → Contains (placed position o by) entry → (o ≡ Some entry.1.entry) × (entry.0 ≡ position) × (entry.1.by ≡ by)
in_placed {Entry} position None by entry (k, lt, is) = absurd (omega (arith, lt))
in_placed {Entry} position (Some f) by entry (zero, lt, is) = (ap (λ (p : ℕ × Filed Entry). Some p.1.entry) is, sym (ap (λ (p : ℕ × Filed Entry). p.0) is), sym (ap (λ (p : ℕ × Filed Entry). p.1.by) is))
in_placed {Entry} position (Some f) by entry (suc k, lt, is) = absurd (omega (arith, lt))

module _ {Entry Operation Response Error : Type 0} (semantics : Semantics Entry Operation Response) (own : Operation → Option Entry)
    (own_added : (past : List Entry) (operation : Operation) (entry : Entry) → semantics.added past operation ≡ Some entry → own operation ≡ Some entry) where
  -- the row of one answer that admits an entry
  row_admits : (by : RowName) (past : List Entry) (row : Result Operation Error) (entry : ℕ × Filed Entry) → Contains (admitted_row semantics by past row) entry
      → (operation : Operation) × (row ≡ Ok operation) × (own operation ≡ Some entry.1.entry) × (entry.1.by ≡ by)
  row_admits by past (Err error) entry (k, lt, is) = absurd (omega (arith, lt))
  row_admits by past (Ok operation) entry has = let (added, at, from) = in_placed (length past + 1) (semantics.added past operation) by entry has in (operation, refl, own_added past operation entry.1.entry added, from)

  -- an answer that admits an entry has its place among the answers
  abbrev AdmitsAt : ℕ → ℕ → List (Answer Entry Operation Error) → ℕ × Filed Entry → Type 0
  AdmitsAt desk number answers entry = (i : ℕ) × (operation : Operation) × (i < length answers) × (get_or (map (λ (a : Answer Entry Operation Error). a.row) answers) i (Ok operation) ≡ Ok operation)
      × (own operation ≡ Some entry.1.entry) × (entry.1.by.desk ≡ desk) × (entry.1.by.row ≡ number + i)

  first_or_later : (desk number : ℕ) (a : Answer Entry Operation Error) (answers : List (Answer Entry Operation Error)) (entry : ℕ × Filed Entry)
      → (Contains (admitted_of semantics desk (number + 1) answers) entry → AdmitsAt desk (number + 1) answers entry)
      → Contains (admitted_row semantics (record { desk = desk; row = number }) a.past a.row) entry ⊎ Contains (admitted_of semantics desk (number + 1) answers) entry
      → AdmitsAt desk number (a ∷ answers) entry
  first_or_later desk number a answers entry more (inl here) =
      let (operation, is, files, by) = row_admits (record { desk = desk; row = number }) a.past a.row entry here in
      let row : entry.1.by.row ≡ number = ap (λ (r : RowName). r.row) by in
      (0, operation, omega arith, is, files, ap (λ (r : RowName). r.desk) by, omega (arith, row))
  first_or_later desk number a answers entry more (inr later) =
      let (i, operation, lt, is, files, of, row) = more later in
      (suc i, operation, omega (arith, lt), is, files, of, omega (arith, row))

  pub admits_at : (desk number : ℕ) (answers : List (Answer Entry Operation Error)) (entry : ℕ × Filed Entry) → Contains (admitted_of semantics desk number answers) entry → AdmitsAt desk number answers entry
  admits_at desk number [] entry (k, lt, is) = absurd (omega (arith, lt))
  admits_at desk number (a ∷ answers) entry has =
      first_or_later desk number a answers entry (admits_at desk (number + 1) answers entry)
      (Contains-append_cases (admitted_row semantics (record { desk = desk; row = number }) a.past a.row) (admitted_of semantics desk (number + 1) answers) entry has)
