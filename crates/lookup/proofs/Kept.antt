-- What is known of a record that can be met. Assumes nothing.
use mathlib.Core.Path.{◌≡◌}
use mathlib.Core.Bool.{Bool, true, false, cond, ◌&&◌}
use mathlib.Core.List.{List}
use Prim.Native.Nat.{ℕ, ◌+◌, ◌≤◌}
use lib.Dec.{leb, eqb}
use lib.IntN.{pos}
use borrow.Author.Tests.{eqb-true, leb-true, le-leb, eq-eqb}
use Rattle.format.specs.Fields.{end_of}
use Rattle.records.specs.Rules.{size_at, typed_at}
use Rattle.records.specs.Attributes.{adr_rule, aedr_rule}
use Rattle.format.proofs.Tests.{both}
use Rattle.variables.specs.Vdr.{carried_of, variable_of}
use Rattle.lookup.specs.Lists.{lands_on, vdr_kept, rule_kept, meets}

-- a record of type t lies at o
pub record Lies (f : List ℕ) (t o : ℕ) : Type 0 where
  pub placed : 8 ≤ o
  pub begins : o + 8 ≤ end_of f
  pub typed : typed_at f o (pos t) ≡ true
  pub inside : o + size_at f o ≤ end_of f

module _ (f : List ℕ) (t o : ℕ) where
  pub lands_lies : lands_on f t o ≡ true → Lies f t o
  unfolding lands_on
  lands_lies e =
      let inside = leb (o + size_at f o) (end_of f) in
      let a = both (leb 8 o) (leb (o + 8) (end_of f) && (typed_at f o (pos t) && inside)) e in
      let b = both (leb (o + 8) (end_of f)) (typed_at f o (pos t) && inside) a.1 in
      let c = both (typed_at f o (pos t)) inside b.1 in
      record {
        placed = leb-true 8 o a.0;
        begins = leb-true (o + 8) (end_of f) b.0;
        typed = c.0;
        inside = leb-true (o + size_at f o) (end_of f) c.1;
      }

  pub lies_lands : Lies f t o → lands_on f t o ≡ true
  unfolding lands_on
  lies_lands l = rw (le-leb 8 o l.placed, le-leb (o + 8) (end_of f) l.begins, l.typed, le-leb (o + size_at f o) (end_of f) l.inside)

  pub meets_parts : meets f t o ≡ true → Lies f t o × (rule_kept f t o ≡ true)
  unfolding meets
  meets_parts e = let a = both (lands_on f t o) (rule_kept f t o) e in (lands_lies a.0, a.1)

  pub parts_meet : Lies f t o → rule_kept f t o ≡ true → meets f t o ≡ true
  unfolding meets
  parts_meet l e = rw (lies_lands l, e)

-- ---- the rule by the type: an ADR, an AEDR, a VDR
module _ (f : List ℕ) (o : ℕ) where
  pub attribute_kept : rule_kept f 4 o ≡ true → adr_rule f o ≡ 0
  unfolding rule_kept
  attribute_kept e = eqb-true (adr_rule f o) 0 e

  pub kept_attribute : adr_rule f o ≡ 0 → rule_kept f 4 o ≡ true
  unfolding rule_kept
  kept_attribute e = eq-eqb (adr_rule f o) 0 e

  pub entry_kept : (b : Bool) → rule_kept f (cond b 5 9) o ≡ true → aedr_rule f o ≡ 0
  unfolding rule_kept
  entry_kept true e = eqb-true (aedr_rule f o) 0 e
  entry_kept false e = eqb-true (aedr_rule f o) 0 e

  pub kept_entry : (b : Bool) → aedr_rule f o ≡ 0 → rule_kept f (cond b 5 9) o ≡ true
  unfolding rule_kept
  kept_entry true e = eq-eqb (aedr_rule f o) 0 e
  kept_entry false e = eq-eqb (aedr_rule f o) 0 e

  vdr_parts : (t : ℕ) → vdr_kept f t o ≡ true → (carried_of f o ≡ 0) × ((variable_of f t o).fault ≡ 0)
  unfolding vdr_kept
  vdr_parts t e =
      let a = both (eqb (carried_of f o) 0) (eqb (variable_of f t o).fault 0) e in
      (eqb-true (carried_of f o) 0 a.0, eqb-true (variable_of f t o).fault 0 a.1)

  parts_vdr : (t : ℕ) → carried_of f o ≡ 0 → (variable_of f t o).fault ≡ 0 → vdr_kept f t o ≡ true
  unfolding vdr_kept
  parts_vdr t a b = rw (a, b)

  pub variable_kept : (b : Bool) → rule_kept f (cond b 3 8) o ≡ true → (carried_of f o ≡ 0) × ((variable_of f (cond b 3 8) o).fault ≡ 0)
  unfolding rule_kept
  variable_kept true e = vdr_parts 3 e
  variable_kept false e = vdr_parts 8 e

  pub kept_variable : (b : Bool) → carried_of f o ≡ 0 → (variable_of f (cond b 3 8) o).fault ≡ 0 → rule_kept f (cond b 3 8) o ≡ true
  unfolding rule_kept
  kept_variable true c e = parts_vdr 3 c e
  kept_variable false c e = parts_vdr 8 c e
