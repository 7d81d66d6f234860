-- The rule of a VDR: when its number is 0, and what follows from that. Assumes nothing.
use mathlib.Core.Path.{◌≡◌, refl, sym, ◌∙◌}
use mathlib.Core.Logic.{◌↔◌}
use mathlib.Core.Bool.{Bool, true, false, cond, ◌||◌}
use mathlib.Core.List.{List, [], ◌∷◌}
use Prim.Native.Nat.{ℕ, ◌+◌, ◌*◌, ◌≤◌, ◌<◌}
use native.Mathlib.Nat.{mul-le-mul, one-mul, le_refl}
use native.Mathlib.Omega.{arith}
use lib.Dec.{ltb, leb, eqb}
use lib.ListN.{length}
use lib.IntN.{ℤ, pos, negsuc}
use borrow.Author.Tests.{ltb-true, ltb-false, lt-ltb, le-ltb, leb-true, le-leb, eqb-true, eqb-false}
use Rattle.format.specs.Bytes.{big_at}
use Rattle.format.specs.Fields.{end_of, is_at, at_least, within_at, nat_at, bit_at}
use Rattle.format.proofs.Tests.{every, cond_keeps, cond_cases, cond_right}
use Rattle.format.proofs.FieldRanges.{end_is, some_is}
use Rattle.records.specs.Layout.{data_type_at, max_rec_at, var_flags_at, s_records_at, elements_at}
use Rattle.records.specs.Rules.{size_at, reach_of}
use Rattle.records.specs.Attributes.{element_size}
use Rattle.records.proofs.Judged.{Reach, reach_cases, reach_reads, reach_makes}
use Rattle.variables.specs.declared.vdr.Layout.{Layout}
use Rattle.variables.specs.Vdr.{Variable}
use Rattle.variables.specs.Limit.{capped}
use Rattle.variables.specs.Bounds.{LayoutInside}
use Rattle.variables.specs.Vdr.{carried_of, vdr_fields, head_of, num_dims_at, count_right, layout_of, value_bytes, size_exact, dimensions_right, values_per_record, record_bytes, vdr_fault, dimensioned, variable_of}
use Rattle.variables.specs.Place.{element_place, indices_right}
use Rattle.variables.proofs.Bound.{place_exact}

module _ (f : List ℕ) (o : ℕ) where
  -- ---- compressed values
  pub carried_reads : Reach f o 32 → carried_of f o ≡ 0 → bit_at f (var_flags_at o) 4 ≡ false
  unfolding carried_of
  carried_reads r e =
      let a : ◌≡◌ {A = ℕ} (cond (bit_at f (var_flags_at o) 4) 14 0) 0 = rw (le-ltb (end_of f) (o + 32) r.lies, le-ltb (size_at f o) 32 r.holds) at e in
      (cond_right (bit_at f (var_flags_at o) 4) 13 0 a).0

  pub carried_makes : Reach f o 32 → bit_at f (var_flags_at o) 4 ≡ false → carried_of f o ≡ 0
  unfolding carried_of
  carried_makes r e = rw (le-ltb (end_of f) (o + 32) r.lies, le-ltb (size_at f o) 32 r.holds, e)

  pub carried_cases : (Q : ℕ → Type 0) → Q 0 → (bit_at f (var_flags_at o) 4 ≡ true → Q 14) → Q (carried_of f o)
  unfolding carried_of
  carried_cases Q none compressed =
      cond_keeps Q (ltb (end_of f) (o + 32)) none
      (cond_keeps Q (ltb (size_at f o) 32) none (cond_cases Q (bit_at f (var_flags_at o) 4) compressed (λ _. none)))

  -- ---- the fields before the dimensions
  pub record VdrFields : Type 0 where
    pub typed : 1 ≤ element_size f (data_type_at o)
    pub max_rec : at_least f (max_rec_at o) (negsuc 0) ≡ true
    pub flags : big_at f (var_flags_at o) 4 < 8
    pub sparse : within_at f (s_records_at o) (pos 0) (pos 2) ≡ true
    pub elements : at_least f (elements_at o) (pos 1) ≡ true
    pub one : (is_at f (data_type_at o) (pos 51) || is_at f (data_type_at o) (pos 52) || is_at f (elements_at o) (pos 1)) ≡ true

  pub vdr_fields_lem : vdr_fields f o ≡ true ↔ VdrFields
  unfolding vdr_fields
  vdr_fields_lem =
      let type = element_size f (data_type_at o) in
      let flags = big_at f (var_flags_at o) 4 in
      let tests =
      leb 1 type
      ∷ at_least f (max_rec_at o) (negsuc 0)
      ∷ ltb flags 8
      ∷ within_at f (s_records_at o) (pos 0) (pos 2)
      ∷ at_least f (elements_at o) (pos 1)
      ∷ (is_at f (data_type_at o) (pos 51) || is_at f (data_type_at o) (pos 52) || is_at f (elements_at o) (pos 1))
      ∷ [] in (
        λ e.
            let p = every tests e in
            record { typed = leb-true 1 type (p 0); max_rec = p 1; flags = ltb-true flags 8 (p 2); sparse = p 3; elements = p 4; one = p 5 },
        λ p. rw (le-leb 1 type p.typed, p.max_rec, lt-ltb flags 8 p.flags, p.sparse, p.elements, p.one),
      )

module _ (f : List ℕ) (o : ℕ) where
  -- a value has a byte or more
  pub value_some : vdr_fields f o ≡ true → 1 ≤ value_bytes f o
  unfolding value_bytes
  value_some e =
      let p = (vdr_fields_lem f o).0 e in
      mul-le-mul {n₁ = 1} {m₁ = 1} (leb-true 1 (nat_at f (elements_at o)) (sym (some_is f (elements_at o)) ∙ p.elements)) p.typed

-- ---- the whole rule
pub record VdrParts (f : List ℕ) (k o : ℕ) : Type 0 where
  pub reach : Reach f o (head_of k)
  pub fields : vdr_fields f o ≡ true
  pub counted : num_dims_at f k o + 4 ≤ end_of f
  pub count : count_right f (num_dims_at f k o) ≡ true
  pub exact : size_exact f o (layout_of f k o) ≡ true
  pub sizes : (layout_of f k o).sizes + 4 * (layout_of f k o).count ≤ end_of f
  pub variances : (layout_of f k o).variances + 4 * (layout_of f k o).count ≤ end_of f
  pub dimensions : dimensions_right f (layout_of f k o) ≡ true
  pub small : record_bytes f o (layout_of f k o) ≤ 2147483647

module _ (f : List ℕ) (k o : ℕ) where
  abbrev dims : Layout
  dims = layout_of f k o

  abbrev found : Variable
  found = record { fault = 0; dimensions = dims; value = capped (value_bytes f o); bytes = capped (record_bytes f o dims) }

  -- what 10, 20 and a VDR that keeps its rule have, what is found has
  pub vdr_cases : (Q : Variable → Type 0) → Q (vdr_fault 10) → Q (vdr_fault 20) → (VdrParts f k o → Q found) → Q (variable_of f k o)
  unfolding variable_of dimensioned
  vdr_cases Q wrong past keeps =
      let at = num_dims_at f k o in
      let sizes = dims.sizes + 4 * dims.count in
      let variances = dims.variances + 4 * dims.count in
      let bytes = record_bytes f o dims in
      cond_cases Q (eqb (reach_of f o (head_of k)) 0)
      (λ a. cond_cases Q (vdr_fields f o)
      (λ b. cond_cases Q (ltb (end_of f) (at + 4)) (λ _. past)
      (λ c. cond_cases Q (count_right f at)
      (λ d. cond_cases Q (size_exact f o dims)
      (λ e. cond_cases Q (ltb (end_of f) sizes) (λ _. past)
      (λ g. cond_cases Q (ltb (end_of f) variances) (λ _. past)
      (λ h. cond_cases Q (dimensions_right f dims)
      (λ i. cond_cases Q (ltb 2147483647 bytes) (λ _. wrong)
      (λ j. keeps (record {
        reach = reach_reads f o (head_of k) (eqb-true (reach_of f o (head_of k)) 0 a);
        fields = b;
        counted = ltb-false (end_of f) (at + 4) c;
        count = d;
        exact = e;
        sizes = ltb-false (end_of f) sizes g;
        variances = ltb-false (end_of f) variances h;
        dimensions = i;
        small = ltb-false 2147483647 bytes j;
      })))
      (λ _. wrong)))) (λ _. wrong)) (λ _. wrong))) (λ _. wrong))
      (λ a. reach_cases f o (λ v. (v ≡ 0 → ⊥) → Q (vdr_fault v)) (head_of k) (λ _. wrong) (λ _. past) (λ _ h. absurd (h refl))
      (eqb-false (reach_of f o (head_of k)) 0 a))

  pub vdr_reads : (variable_of f k o).fault ≡ 0 → VdrParts f k o
  vdr_reads e = vdr_cases (λ u. u.fault ≡ 0 → VdrParts f k o) (λ z. absurd (omega arith)) (λ z. absurd (omega arith)) (λ p z. p) e

  pub vdr_makes : VdrParts f k o → variable_of f k o ≡ found
  unfolding variable_of dimensioned
  vdr_makes p =
      rw (
        reach_makes f o (head_of k) p.reach,
        p.fields,
        le-ltb (end_of f) (num_dims_at f k o + 4) p.counted,
        p.count,
        p.exact,
        le-ltb (end_of f) (dims.sizes + 4 * dims.count) p.sizes,
        le-ltb (end_of f) (dims.variances + 4 * dims.count) p.variances,
        p.dimensions,
        le-ltb 2147483647 (record_bytes f o dims) p.small,
      )

  -- the record bytes that a VVR is judged by
  pub vdr_bytes : VdrParts f k o → ((variable_of f k o).fault ≡ 0) × ((variable_of f k o).bytes ≡ record_bytes f o dims)
  unfolding capped
  vdr_bytes p = let s = p.small in rw (vdr_makes p) (refl, omega arith)

-- ---- what is known of every VDR that is looked at: its rows of dimensions lie in the file, and its bytes are told up to a limit
pub record Dimensions (f : List ℕ) (u : Variable) : Type 0 where
  pub rows : LayoutInside f u.dimensions
  pub value : u.value ≤ 2147483648
  pub bytes : u.bytes ≤ 2147483648

module _ (f : List ℕ) (k o : ℕ) where
  of_fault : (v : ℕ) → Dimensions f (vdr_fault v)
  of_fault v = record { rows = record { sizes = omega arith; variances = omega arith }; value = omega arith; bytes = omega arith }

  pub of_variable : Dimensions f (variable_of f k o)
  unfolding capped
  of_variable =
      vdr_cases f k o (Dimensions f) (of_fault 10) (of_fault 20) (λ p.
      let l = end_is f in
      record { rows = record { sizes = omega (arith, p.sizes); variances = omega (arith, p.variances) }; value = omega arith; bytes = omega arith })

  -- the bytes of a record are told up to 2,147,483,648
  pub bytes_small : (variable_of f k o).bytes ≤ 2147483648
  bytes_small = of_variable.bytes

  -- ---- of a VDR that keeps its rule
  module _ (e : (variable_of f k o).fault ≡ 0) where
    -- it lies in the file up to its dimensions
    pub vdr_inside : o + 128 ≤ length f
    vdr_inside = omega (arith, (vdr_reads f k o e).reach.lies, tall (eqb k 8), end_is f)
      where
        tall : (b : Bool) → 128 ≤ cond b 132 128
        tall true = omega arith
        tall false = omega arith

    -- the number of its dimensions stands in the file
    pub count_inside : num_dims_at f k o + 4 ≤ length f
    count_inside = omega (arith, (vdr_reads f k o e).counted, end_is f)

    -- the values of a record can be counted, so the place of right indices in it is not capped
    values_small : values_per_record f (layout_of f k o).count (layout_of f k o).sizes (layout_of f k o).variances ≤ 2147483647
    unfolding record_bytes
    values_small =
        let p = vdr_reads f k o e in
        let n = values_per_record f (layout_of f k o).count (layout_of f k o).sizes (layout_of f k o).variances in
        let x : 1 * n ≤ value_bytes f o * n = mul-le-mul (value_some f o p.fields) (le_refl n) in
        omega (arith, p.small, one-mul n)

    pub place_is : (row : Bool) (is : List ℤ) → indices_right f (layout_of f k o).sizes is (layout_of f k o).count ≡ true
        → capped (element_place f (layout_of f k o) row is) ≡ element_place f (layout_of f k o) row is
    place_is row is h = place_exact f (layout_of f k o) row is h (omega (arith, values_small))
