-- Variables: the rule of a VDR of either kind, and record bytes. A kind is a record type: 8 for zVariables, 3 for rVariables. Assumes nothing.
use Rattle.std.specs.Prelude.{ℕ, zero, suc, ◌+◌, ◌*◌, Bool, cond, ◌&&◌, ◌||◌, List, ltb, leb, eqb, pos, negsuc, Result, Ok, Err}
use Rattle.format.specs.Bytes.{big_at}
use Rattle.format.specs.Fields.{end_of, is_at, at_least, within_at, each_within, nat_at, bit_at}
use Rattle.records.specs.Layout.{r_num_dims_at, data_type_at, max_rec_at, var_flags_at, s_records_at, elements_at, r_variances_at, z_num_dims_at}
use Rattle.records.specs.Rules.{size_at, reach_of}
use Rattle.records.specs.Opening.{gdr_at}
use Rattle.records.specs.Attributes.{element_size}
use Rattle.records.specs.declared.breaches.Breach.{Breach}
use Rattle.records.specs.Breaches.{number_of}
use Rattle.variables.specs.declared.vdr.Layout.{Layout}
use Rattle.variables.specs.declared.vdr.Shape.{Shape}
use Rattle.variables.specs.Limit.{capped}

-- 5.15: "14 looks at Flags only in a VDR of 32 bytes or more": 14 if bit 2 is set there, else 0. Where the file ends before them the VDR's
-- rule says whether that is 10 or 20
unfoldable pub carried_of : List ℕ → ℕ → ℕ
carried_of f o = cond (ltb (end_of f) (o + 32)) 0 (cond (ltb (size_at f o) 32) 0 (cond (bit_at f (var_flags_at o) 4) 14 0))

-- 5.9: "A data type of 3.6, MaxRec -1 or more, flags with bits 3 to 31 clear, sRecords 0 to 2, elements 1 or more, and exactly 1 unless the
-- type is 51 or 52"; 3.7: "Any other number is no data type, and a record that has it breaks its rule"
unfoldable pub vdr_fields : List ℕ → ℕ → Bool
vdr_fields f o =
    leb 1 (element_size f (data_type_at o))
    && at_least f (max_rec_at o) (negsuc 0)
    && ltb (big_at f (var_flags_at o) 4) 8
    && within_at f (s_records_at o) (pos 0) (pos 2)
    && at_least f (elements_at o) (pos 1)
    && (is_at f (data_type_at o) (pos 51) || is_at f (data_type_at o) (pos 52) || is_at f (elements_at o) (pos 1))

-- 4.9: "An rVDR has variances at 128, as many as rNumDims; its sizes stand in the GDR. A zVDR has a dimension count at 128, then sizes,
-- then variances": the bytes before its dimensions, and where their count stands, in the zVDR or in the GDR
abbrev pub head_of : ℕ → ℕ
head_of k = cond (eqb k 8) 132 128

unfoldable pub num_dims_at : List ℕ → ℕ → ℕ → ℕ
num_dims_at f k o = cond (eqb k 8) (z_num_dims_at o) (r_num_dims_at (gdr_at f))

-- 5.10: "is 0 to 10"
unfoldable pub count_right : List ℕ → ℕ → Bool
count_right f p = within_at f p (pos 0) (pos 10)

-- n dimensions counted at p: where their sizes and variances stand. An rVariable's sizes stand in the GDR (60); where it has no
-- dimensions nothing more of the GDR is needed, and their offset is that of the variances
abbrev pub r_sizes_at : ℕ → ℕ → ℕ → ℕ
r_sizes_at o p n = cond (eqb n 0) (r_variances_at o) (p + 24)

unfoldable pub layout_at : ℕ → ℕ → ℕ → ℕ → Layout
layout_at k o p n =
    cond (eqb k 8) (record { count = n; sizes = p + 4; variances = p + 4 + 4 * n })
    (record { count = n; sizes = r_sizes_at o p n; variances = r_variances_at o })

unfoldable pub layout_of : List ℕ → ℕ → ℕ → Layout
layout_of f k o = layout_at k o (num_dims_at f k o) (nat_at f (num_dims_at f k o))

-- the bytes of one value: elements × element size
unfoldable pub value_bytes : List ℕ → ℕ → ℕ
value_bytes f o = nat_at f (elements_at o) * element_size f (data_type_at o)

-- 5.12: "comes last if bit 1 is set. Size is exact"
unfoldable pub pad_bytes : List ℕ → ℕ → ℕ
pad_bytes f o = cond (bit_at f (var_flags_at o) 2) (value_bytes f o) 0

unfoldable pub size_exact : List ℕ → ℕ → Layout → Bool
size_exact f o l = eqb (o + size_at f o) (l.variances + 4 * l.count + pad_bytes f o)

-- 5.11: "Each dimension's size is 1 or more"; "a variance is -1 (true) or 0 (false)"
unfoldable pub dimensions_right : List ℕ → Layout → Bool
dimensions_right f l =
    each_within f l.sizes l.count (pos 1) (pos 2147483647) && each_within f l.variances l.count (negsuc 0) (pos 0)

-- what a dimension with its size at p and its variance at q multiplies the values of a record by
unfoldable pub factor_of : List ℕ → ℕ → ℕ → ℕ
factor_of f p q = cond (is_at f q (negsuc 0)) (nat_at f p) 1

-- 5.13: "the sizes of dimensions whose variance is true", multiplied: of n dimensions, sizes from p and variances from q on
unfoldable pub values_per_record : List ℕ → ℕ → ℕ → ℕ → ℕ
values_per_record f zero p q = 1
values_per_record f (suc n) p q = factor_of f p q * values_per_record f n (p + 4) (q + 4)

-- 5.13: "Record bytes: elements × element size × the sizes of dimensions whose variance is true"
unfoldable pub record_bytes : List ℕ → ℕ → Layout → ℕ
record_bytes f o l = value_bytes f o * values_per_record f l.count l.sizes l.variances

-- a VDR: the number of its rule, and where that is 0 its dimensions, the bytes of a value and the bytes of a record
pub record Variable : Type 0 where
  pub fault : ℕ
  pub dimensions : Layout
  pub value : ℕ
  pub bytes : ℕ

abbrev pub shape_of : Variable → Shape
shape_of v = record { dimensions = v.dimensions; value = v.value; bytes = v.bytes }

abbrev pub vdr_fault : ℕ → Variable
vdr_fault v = record { fault = v; dimensions = record { count = 0; sizes = 0; variances = 0 }; value = 0; bytes = 0 }

-- what a shape, or the breach in its place, says of a VDR
abbrev pub variable_told : Result Shape Breach → Variable
variable_told (Ok s) = record { fault = 0; dimensions = s.dimensions; value = s.value; bytes = s.bytes }
variable_told (Err b) = vdr_fault (number_of b)

-- a VDR whose fields are right, with its dimensions: 10 unless its size is exact; 20 if the dimensions pass the file's end; 10 unless they
-- are right; 5.13: "Above 2,147,483,647 the VDR breaks its rule"
unfoldable pub dimensioned : List ℕ → ℕ → Layout → Variable
dimensioned f o l =
    cond (size_exact f o l)
    (cond (ltb (end_of f) (l.sizes + 4 * l.count)) (vdr_fault 20)
    (cond (ltb (end_of f) (l.variances + 4 * l.count)) (vdr_fault 20)
    (cond (dimensions_right f l)
    (cond (ltb 2147483647 (record_bytes f o l)) (vdr_fault 10)
    (record { fault = 0; dimensions = l; value = capped (value_bytes f o); bytes = capped (record_bytes f o l) }))
    (vdr_fault 10))))
    (vdr_fault 10)

-- the VDR of a kind at an offset: the number of its rule, 0, 10 or 20, and where that is 0 its dimensions and bytes; the tests are in the
-- order of 5.14
unfoldable pub variable_of : List ℕ → ℕ → ℕ → Variable
variable_of f k o =
    cond (eqb (reach_of f o (head_of k)) 0)
    (cond (vdr_fields f o)
    (cond (ltb (end_of f) (num_dims_at f k o + 4)) (vdr_fault 20)
    (cond (count_right f (num_dims_at f k o)) (dimensioned f o (layout_of f k o)) (vdr_fault 10)))
    (vdr_fault 10))
    (vdr_fault (reach_of f o (head_of k)))
