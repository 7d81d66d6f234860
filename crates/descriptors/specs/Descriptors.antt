-- Descriptors: what the CDR, the GDR, a VDR, an ADR and an AEDR say. Section 16 of docs/RULES.md. Assumes nothing.
use Rattle.std.specs.Prelude.{ℕ, zero, suc, ◌+◌, ◌-◌, ◌*◌, Bool, cond, ◌&&◌, ◌||◌, List, [], ◌∷◌, length, get_or, leb, eqb, ℤ, pos, Result, Ok, Err}
use Rattle.format.specs.Fields.{field_at, bit_at, nat_or}
use Rattle.records.specs.Layout.{encoding_at, cdr_flags_at, nr_vars_at, num_attr_at, r_num_dims_at, nz_vars_at, r_dim_sizes_at, scope_at, attr_num_at, gr_count_at, z_count_at, maximum_after, attr_name_at, entry_attr_at, entry_type_at, entry_num_at, entry_elements_at, data_type_at, max_rec_at, var_flags_at, s_records_at, elements_at, var_num_at, var_name_at, z_num_dims_at}
use Rattle.records.specs.Opening.{gdr_at, r_num_dims, file_end, body_of}
use Rattle.variables.specs.Vdr.{variable_of}
use Rattle.variables.specs.Place.{index_right}
use Rattle.variables.specs.declared.vdr.Layout.{Layout}
use Rattle.lookup.specs.Refusals.{among}
use Rattle.lookup.specs.Lists.{Way, opened, is_entry_kind, kind_among, variable_way, attribute_way, entry_way}
use Rattle.lookup.specs.declared.refusals.Refusal.{Refusal}
use Rattle.lookup.specs.declared.refusals.Refusal.TheVariants.{Breach, OutOfRange}
use Rattle.lookup.specs.declared.lists.Wanted.{Wanted}
use Rattle.lookup.specs.Indexes.{levels_way}
use Rattle.descriptors.specs.declared.Name.{Name}

-- ---- a field of a record, asked by its offset in the record
-- 16.2: "fields other than size, record type, links, tail, compression offset, blocking and rfu": of an ADR scope, Num, both counts and
-- maxima; of an AEDR Num, data type, entry number, elements; of a VDR data type, MaxRec, flags, sRecords, elements, Num
abbrev pub attribute_fields : List ℕ
attribute_fields = scope_at 0 ∷ attr_num_at 0 ∷ gr_count_at 0 ∷ maximum_after (gr_count_at 0) ∷ z_count_at 0 ∷ maximum_after (z_count_at 0) ∷ []

abbrev pub entry_fields : List ℕ
entry_fields = entry_attr_at 0 ∷ entry_type_at 0 ∷ entry_num_at 0 ∷ entry_elements_at 0 ∷ []

abbrev pub variable_fields : List ℕ
variable_fields = data_type_at 0 ∷ max_rec_at 0 ∷ var_flags_at 0 ∷ s_records_at 0 ∷ elements_at 0 ∷ var_num_at 0 ∷ []

-- of a record of type t; of a zVDR also the number of its dimensions
unfoldable pub is_shown : ℕ → ℕ → Bool
is_shown t field =
    cond (eqb t 4) (among attribute_fields field)
    (cond (is_entry_kind t) (among entry_fields field) (among variable_fields field || (eqb t 8 && eqb field (z_num_dims_at 0))))

-- of the record of type t at o
abbrev pub field_of : List ℕ → ℕ → ℕ → ℕ → Result ℤ Refusal
field_of f t field o = cond (is_shown t field) (Ok (field_at f (o + field))) (Err OutOfRange)

-- of the record of type t at the end of a way
abbrev pub field_on : List ℕ → ℕ → ℕ → Way → Result ℤ Refusal
field_on f t field (Ok m) = field_of f t field m.at
field_on f t field (Err v) = Err v

unfoldable pub variable_field : List ℕ → ℤ → ℤ → ℕ → Result ℤ Refusal
variable_field f k n field = field_on (body_of f) (kind_among 3 8 k) field (variable_way f k n)

unfoldable pub attribute_field : List ℕ → ℤ → ℕ → Result ℤ Refusal
attribute_field f n field = field_on (body_of f) 4 field (attribute_way f n)

unfoldable pub entry_field : List ℕ → ℤ → ℤ → Wanted → ℕ → Result ℤ Refusal
entry_field f a k w field = field_on (body_of f) (kind_among 5 9 k) field (entry_way f a k w)

-- ---- dimensions: the d-th of n fields from p on; 16.3: "a dimension that is not there is 18"
unfoldable pub row_field : List ℕ → ℕ → ℕ → ℤ → Result ℤ Refusal
row_field f p n d = cond (index_right d n) (Ok (field_at f (p + 4 * nat_or 0 d))) (Err OutOfRange)

-- the GDR's, of the rVariables: "sizes 60" (4.5)
abbrev pub gdr_size : List ℕ → ℤ → Result ℤ Refusal
gdr_size f d = row_field f (r_dim_sizes_at (gdr_at f)) (r_num_dims f (gdr_at f)) d

unfoldable pub dimension_size : List ℕ → ℤ → Result ℤ Refusal
dimension_size f d = cond (opened f) (gdr_size (body_of f) d) (Err Breach)

-- the dimensions of the VDR that a way has found, or where the way stopped
abbrev pub dimensions_on : List ℕ → ℕ → Way → Result Layout Refusal
dimensions_on f k (Ok m) = Ok (variable_of f k m.at).dimensions
dimensions_on f k (Err v) = Err v

unfoldable pub variable_dimensions : List ℕ → ℤ → ℤ → Result Layout Refusal
variable_dimensions f k n = dimensions_on (body_of f) (kind_among 3 8 k) (variable_way f k n)

-- a zVariable's own sizes; an rVariable has none
abbrev pub size_on : List ℕ → ℕ → ℤ → Result Layout Refusal → Result ℤ Refusal
size_on f k d (Ok l) = cond (eqb k 8) (row_field f l.sizes l.count d) (Err OutOfRange)
size_on f k d (Err v) = Err v

unfoldable pub variable_size : List ℕ → ℤ → ℤ → ℤ → Result ℤ Refusal
variable_size f k n d = size_on (body_of f) (kind_among 3 8 k) d (variable_dimensions f k n)

abbrev pub variance_on : List ℕ → ℤ → Result Layout Refusal → Result ℤ Refusal
variance_on f d (Ok l) = row_field f l.variances l.count d
variance_on f d (Err v) = Err v

unfoldable pub variable_variance : List ℕ → ℤ → ℤ → ℤ → Result ℤ Refusal
variable_variance f k n d = variance_on (body_of f) d (variable_dimensions f k n)

-- ---- how many levels the index of a variable has on the way to a record: 1 where the covering entry of the top chain names no index
-- record; what the lowest entry names is not looked at
abbrev pub levels_field : Result ℕ Refusal → Result ℤ Refusal
levels_field (Ok n) = Ok (pos n)
levels_field (Err v) = Err v

abbrev pub levels_on : List ℕ → ℤ → Way → Result ℤ Refusal
levels_on f r (Ok m) = levels_field (levels_way f m.at r m.left)
levels_on f r (Err v) = Err v

unfoldable pub variable_levels : List ℕ → ℤ → ℤ → ℤ → Result ℤ Refusal
variable_levels f k n r = levels_on (body_of f) r (variable_way f k n)

-- ---- names: "names up to the NUL" (16.4), 64 bytes at most: of the n bytes from p on, those before the first that is 0
unfoldable pub until_nul : List ℕ → ℕ → ℕ → ℕ
until_nul f p zero = 0
until_nul f p (suc n) = cond (eqb (get_or f p 0) 0) 0 (suc (until_nul f (suc p) n))

abbrev pub name_of : List ℕ → ℕ → Name
name_of f p = record { offset = p; length = until_nul f p 64 }

-- the name in a field of the record that a way has found
abbrev pub name_on : List ℕ → ℕ → Way → Result Name Refusal
name_on f field (Ok m) = Ok (name_of f (m.at + field))
name_on f field (Err v) = Err v

-- 4.8: "name 64"; 4.6: "name 52 64 bytes"
unfoldable pub variable_name : List ℕ → ℤ → ℤ → Result Name Refusal
variable_name f k n = name_on (body_of f) (var_name_at 0) (variable_way f k n)

unfoldable pub attribute_name : List ℕ → ℤ → Result Name Refusal
attribute_name f n = name_on (body_of f) (attr_name_at 0) (attribute_way f n)

-- ---- 16.1: "majority (1 row, 0 column), encoding, counts (NrVars, NzVars, NumAttr), rVariable dimensions": 0 majority, 1 for row and 0
-- for column; 1 encoding; 2 NrVars, 3 NzVars, 4 NumAttr; 5 the number of dimensions of the rVariables; 6 how many bytes of padding lie
-- behind the end; any other 18
abbrev pub majority : Bool → ℤ
majority row = cond row (pos 1) (pos 0)

-- the offsets of the fields that are asked for by 1 to 5
abbrev pub file_field_at : List ℕ → ℕ → ℕ
file_field_at f what =
    cond (eqb what 1) encoding_at
    (cond (eqb what 2) (nr_vars_at (gdr_at f)) (cond (eqb what 3) (nz_vars_at (gdr_at f)) (cond (eqb what 4) (num_attr_at (gdr_at f)) (r_num_dims_at (gdr_at f)))))

abbrev pub file_field_in : List ℕ → ℕ → Result ℤ Refusal
file_field_in f what =
    cond (eqb what 0) (Ok (majority (bit_at f cdr_flags_at 1))) (cond (leb what 5) (Ok (field_at f (file_field_at f what))) (Err OutOfRange))

-- 16.1: "its length less its end"
abbrev pub padding : List ℕ → ℤ
padding f = pos (length f - file_end f)

unfoldable pub file_field : List ℕ → ℕ → Result ℤ Refusal
file_field f what = cond (opened f) (cond (eqb what 6) (Ok (padding f)) (file_field_in (body_of f) what)) (Err Breach)
