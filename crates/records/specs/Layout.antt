-- Where the fields of each record stand, "offsets of fields are from the record's start" (4.1): section 4 of docs/RULES.md. A name ends in
-- _at for a field, and begins with head_of for the link to the first record of a list. Assumes nothing.
use Rattle.std.specs.Prelude.{ℕ, ◌+◌}

-- 4.1: "Every record has its size at 0 and its type at 4"; 4.3: "the link to the next one at 8" of every record in a list
abbrev pub type_at : ℕ → ℕ
type_at o = o + 4

abbrev pub next_at : ℕ → ℕ
next_at o = o + 8

-- ---- 4.4: "CDR (1), at file offset 8 .. GDR offset 8 .. version 12 .. encoding 20 .. flags 24"
abbrev pub cdr_offset : ℕ
cdr_offset = 8

abbrev pub gdr_link_at : ℕ
gdr_link_at = 16

abbrev pub version_at : ℕ
version_at = 20

abbrev pub encoding_at : ℕ
encoding_at = 28

abbrev pub cdr_flags_at : ℕ
cdr_flags_at = 32

-- ---- 4.5: "rVDR head 8 .. zVDR head 12 .. ADR head 16 .. eof 20 .. NrVars 24 .. NumAttr 28 .. rMaxRec 32 .. rNumDims 36 .. NzVars 40 ..
-- UIR head 44 .. sizes 60"
abbrev pub head_of_r_variables : ℕ → ℕ
head_of_r_variables g = g + 8

abbrev pub head_of_z_variables : ℕ → ℕ
head_of_z_variables g = g + 12

abbrev pub head_of_attributes : ℕ → ℕ
head_of_attributes g = g + 16

abbrev pub head_of_unused : ℕ → ℕ
head_of_unused g = g + 44

abbrev pub eof_at : ℕ → ℕ
eof_at g = g + 20

abbrev pub nr_vars_at : ℕ → ℕ
nr_vars_at g = g + 24

abbrev pub num_attr_at : ℕ → ℕ
num_attr_at g = g + 28

abbrev pub r_max_rec_at : ℕ → ℕ
r_max_rec_at g = g + 32

abbrev pub r_num_dims_at : ℕ → ℕ
r_num_dims_at g = g + 36

abbrev pub nz_vars_at : ℕ → ℕ
nz_vars_at g = g + 40

abbrev pub r_dim_sizes_at : ℕ → ℕ
r_dim_sizes_at g = g + 60

-- ---- 4.6: "AgrEDR head 12 .. scope 16 .. Num 20 .. count 24 .. maximum 28 .. AzEDR head 36 .. count 40 .. maximum 44 .. name 52"
abbrev pub head_of_gr_entries : ℕ → ℕ
head_of_gr_entries a = a + 12

abbrev pub scope_at : ℕ → ℕ
scope_at a = a + 16

abbrev pub attr_num_at : ℕ → ℕ
attr_num_at a = a + 20

abbrev pub gr_count_at : ℕ → ℕ
gr_count_at a = a + 24

abbrev pub head_of_z_entries : ℕ → ℕ
head_of_z_entries a = a + 36

abbrev pub z_count_at : ℕ → ℕ
z_count_at a = a + 40

-- the maximum stands behind the count
abbrev pub maximum_after : ℕ → ℕ
maximum_after c = c + 4

abbrev pub attr_name_at : ℕ → ℕ
attr_name_at a = a + 52

-- ---- 4.7: "Num 12 .. data type 16 .. entry number 20 .. elements 24 .. value 48"
abbrev pub entry_attr_at : ℕ → ℕ
entry_attr_at e = e + 12

abbrev pub entry_type_at : ℕ → ℕ
entry_type_at e = e + 16

abbrev pub entry_num_at : ℕ → ℕ
entry_num_at e = e + 20

abbrev pub entry_elements_at : ℕ → ℕ
entry_elements_at e = e + 24

abbrev pub entry_value_at : ℕ → ℕ
entry_value_at e = e + 48

-- ---- 4.8: "data type 12 .. MaxRec 16 .. VXRhead 20 .. VXRtail 24 .. flags 28 .. sRecords 32 .. elements 48 .. Num 52 .. name 64"
abbrev pub data_type_at : ℕ → ℕ
data_type_at v = v + 12

abbrev pub max_rec_at : ℕ → ℕ
max_rec_at v = v + 16

abbrev pub head_of_index : ℕ → ℕ
head_of_index v = v + 20

abbrev pub tail_of_index : ℕ → ℕ
tail_of_index v = v + 24

abbrev pub var_flags_at : ℕ → ℕ
var_flags_at v = v + 28

abbrev pub s_records_at : ℕ → ℕ
s_records_at v = v + 32

abbrev pub elements_at : ℕ → ℕ
elements_at v = v + 48

abbrev pub var_num_at : ℕ → ℕ
var_num_at v = v + 52

abbrev pub var_name_at : ℕ → ℕ
var_name_at v = v + 64

-- 4.9: "An rVDR has variances at 128 .. A zVDR has a dimension count at 128, then sizes, then variances"
abbrev pub r_variances_at : ℕ → ℕ
r_variances_at v = v + 128

abbrev pub z_num_dims_at : ℕ → ℕ
z_num_dims_at v = v + 128

-- ---- 4.10: "next 8 .. entries 12 .. used 16 .. Firsts 20 .. Lasts .. Offsets"
abbrev pub vxr_entries_at : ℕ → ℕ
vxr_entries_at x = x + 12

abbrev pub vxr_used_at : ℕ → ℕ
vxr_used_at x = x + 16

abbrev pub firsts_at : ℕ → ℕ
firsts_at x = x + 20

-- ---- 4.11: "VVR (7)": the values stand behind size and type
abbrev pub values_at : ℕ → ℕ
values_at o = o + 8

-- ---- 4.12: "next 8 .. previous 12"
abbrev pub previous_at : ℕ → ℕ
previous_at u = u + 12
