-- The rules of records by their fields: of an ADR, an AEDR, a VXR, a VVR and a UIR. Assumes nothing.
use mathlib.Core.Path.{◌≡◌}
use mathlib.Core.Logic.{◌↔◌}
use mathlib.Core.Bool.{true}
use mathlib.Core.List.{List, [], ◌∷◌}
use Prim.Native.Nat.{ℕ, ◌+◌, ◌*◌, ◌≤◌}
use native.Mathlib.Omega.{arith}
use lib.Dec.{leb, eqb}
use lib.IntN.{pos}
use borrow.Author.Tests.{leb-true, eqb-true, le-leb, eq-eqb}
use Rattle.format.specs.Fields.{nat_at, at_least, within_at, in_order}
use Rattle.format.proofs.Tests.{every}
use Rattle.records.specs.Layout.{scope_at, entry_type_at, entry_num_at, entry_elements_at, vxr_entries_at, vxr_used_at}
use Rattle.records.specs.Rules.{size_at}
use Rattle.records.specs.Attributes.{adr_right, adr_rule, element_size, aedr_right, aedr_rule}
use Rattle.records.specs.Index.{entries_at, used_at, vxr_right, vxr_rule, vvr_rule}
use Rattle.records.specs.Unused.{uir_rule}
use Rattle.records.proofs.Judged.{Judged, judged_law, judged_cases}
use Rattle.records.proofs.Ranges.{order_natural}

module _ (f : List ℕ) (o : ℕ) where
  -- ---- each rule is 0 exactly if the record's fields can be judged and are right
  pub adr_law : adr_rule f o ≡ 0 ↔ Judged f o 116 (adr_right f o)
  unfolding adr_rule
  adr_law = judged_law f o 116 (adr_right f o)

  pub aedr_law : aedr_rule f o ≡ 0 ↔ Judged f o 48 (aedr_right f o)
  unfolding aedr_rule
  aedr_law = judged_law f o 48 (aedr_right f o)

  pub vxr_law : vxr_rule f o ≡ 0 ↔ Judged f o 20 (vxr_right f o)
  unfolding vxr_rule
  vxr_law = judged_law f o 20 (vxr_right f o)

  pub vvr_law : (n bytes : ℕ) → vvr_rule f o n bytes ≡ 0 ↔ Judged f o 8 (eqb (size_at f o) (8 + n * bytes))
  unfolding vvr_rule
  vvr_law n bytes = judged_law f o 8 (eqb (size_at f o) (8 + n * bytes))

  pub uir_law : uir_rule f o ≡ 0 ↔ Judged f o 16 true
  unfolding uir_rule
  uir_law = judged_law f o 16 true

  -- ---- what 0, 10 and 20 have, the number of each rule has
  module _ (Q : ℕ → Type 0) (keeps : Q 0) (wrong : Q 10) (past : Q 20) where
    pub adr_has : Q (adr_rule f o)
    unfolding adr_rule
    adr_has = judged_cases f o 116 (adr_right f o) Q wrong past (λ _. keeps)

    pub aedr_has : Q (aedr_rule f o)
    unfolding aedr_rule
    aedr_has = judged_cases f o 48 (aedr_right f o) Q wrong past (λ _. keeps)

    pub vxr_has : Q (vxr_rule f o)
    unfolding vxr_rule
    vxr_has = judged_cases f o 20 (vxr_right f o) Q wrong past (λ _. keeps)

    pub vvr_has : (n bytes : ℕ) → Q (vvr_rule f o n bytes)
    unfolding vvr_rule
    vvr_has n bytes = judged_cases f o 8 (eqb (size_at f o) (8 + n * bytes)) Q wrong past (λ _. keeps)

    pub uir_has : Q (uir_rule f o)
    unfolding uir_rule
    uir_has = judged_cases f o 16 true Q wrong past (λ _. keeps)

  -- ---- an ADR
  pub record AdrFields : Type 0 where
    pub size : size_at f o ≡ 116
    pub scope : within_at f (scope_at o) (pos 1) (pos 2) ≡ true

  pub adr_fields : adr_right f o ≡ true ↔ AdrFields
  unfolding adr_right
  adr_fields =
      let tests = eqb (size_at f o) 116 ∷ within_at f (scope_at o) (pos 1) (pos 2) ∷ [] in (
        λ e. let p = every tests e in record { size = eqb-true (size_at f o) 116 (p 0); scope = p 1 },
        λ p. rw (eq-eqb (size_at f o) 116 p.size, p.scope),
      )

  -- ---- an AEDR
  pub record AedrFields : Type 0 where
    pub typed : 1 ≤ element_size f (entry_type_at o)
    pub number : at_least f (entry_num_at o) (pos 0) ≡ true
    pub elements : at_least f (entry_elements_at o) (pos 1) ≡ true
    pub size : size_at f o ≡ 48 + nat_at f (entry_elements_at o) * element_size f (entry_type_at o)

  pub aedr_fields : aedr_right f o ≡ true ↔ AedrFields
  unfolding aedr_right
  aedr_fields =
      let type = element_size f (entry_type_at o) in
      let bytes = 48 + nat_at f (entry_elements_at o) * type in
      let tests = leb 1 type ∷ at_least f (entry_num_at o) (pos 0) ∷ at_least f (entry_elements_at o) (pos 1) ∷ eqb (size_at f o) bytes ∷ [] in (
        λ e. let p = every tests e in record { typed = leb-true 1 type (p 0); number = p 1; elements = p 2; size = eqb-true (size_at f o) bytes (p 3) },
        λ p. rw (le-leb 1 type p.typed, p.number, p.elements, eq-eqb (size_at f o) bytes p.size),
      )

  -- ---- a VXR
  pub record VxrFields : Type 0 where
    pub least : at_least f (vxr_used_at o) (pos 0) ≡ true
    pub order : in_order f (vxr_used_at o) (vxr_entries_at o) ≡ true
    pub size : size_at f o ≡ 20 + 12 * entries_at f o

  pub vxr_fields : vxr_right f o ≡ true ↔ VxrFields
  unfolding vxr_right
  vxr_fields =
      let bytes = 20 + 12 * entries_at f o in
      let tests = at_least f (vxr_used_at o) (pos 0) ∷ in_order f (vxr_used_at o) (vxr_entries_at o) ∷ eqb (size_at f o) bytes ∷ [] in (
        λ e. let p = every tests e in record { least = p 0; order = p 1; size = eqb-true (size_at f o) bytes (p 2) },
        λ p. rw (p.least, p.order, eq-eqb (size_at f o) bytes p.size),
      )

  -- ---- the sizes that follow
  pub adr_size : adr_right f o ≡ true → size_at f o ≡ 116
  adr_size e = (adr_fields.0 e).size

  pub aedr_size : aedr_right f o ≡ true → 48 ≤ size_at f o
  aedr_size e = rw (aedr_fields.0 e).size (omega arith)

  pub vxr_size : vxr_right f o ≡ true → (size_at f o ≡ 20 + 12 * entries_at f o) × (used_at f o ≤ entries_at f o)
  vxr_size e = let p = vxr_fields.0 e in (p.size, order_natural f (o + 16) (o + 12) p.order)
