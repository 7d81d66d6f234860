-- The small files of section 18 of docs/RULES.md, some with lower index records and some that are padded, and their plain runs, in one
-- table: verdict, location, steps and marks. Assumes nothing.
use Rattle.std.specs.Prelude.{◌≡◌, refl, Bool, true, false, ◌&&◌, List, [], ◌∷◌, ◌++◌, ℕ, zero, suc, ◌+◌, ◌*◌, ◌/◌, ◌%◌, length, get_or, take, replicate, eqb, ℤ, pos, negsuc}
use Rattle.format.specs.Bytes.{big_at, little_at}
use Rattle.format.specs.Fields.{end_of, field_at, eq_z, is_at, at_least, at_most, in_order, same_at, each_within, nat_at, after_at, link_at, bit_at}
use Rattle.format.specs.Types.{type_of}
use Rattle.format.specs.Encodings.{encoding_of}
use Rattle.records.specs.Rules.{reach_of, judged}
use Rattle.records.specs.Opening.{too_long, magics_right, wholly_compressed, cdr_right, single_file, gdr_at, eof_of, eof_right, gdr_fields, gdr_right, magics_number, descriptors_number, opening, file_end, body_of}
use Rattle.records.specs.Tiles.{type_known, tile_fields, tile_right, type_uncarried, tile}
use Rattle.records.specs.Attributes.{adr_right, adr_rule, element_size, aedr_right, aedr_rule}
use Rattle.records.specs.Index.{vxr_right, vxr_rule, rises, closes, range_number, entry_of, vvr_rule}
use Rattle.records.specs.Unused.{uir_rule}
use Rattle.variables.specs.Limit.{capped}
use Rattle.variables.specs.Vdr.{carried_of, vdr_fields, num_dims_at, count_right, layout_at, layout_of, value_bytes, pad_bytes, size_exact, dimensions_right, factor_of, values_per_record, record_bytes, dimensioned, variable_of}
use Rattle.variables.specs.Place.{place_after, element_place, indices_right, row_fits, placed, place_of}
use Rattle.vax.specs.Vax.{sign_at, exponent_at, mantissa_at}
use Rattle.vax.specs.Rounding.{vax_of, vax_at}
use Rattle.values.specs.Values.{raw_at, value_of, bits_of, is_vax, is_nothing, decoded_of}
use Rattle.values.specs.declared.value.Value.{Value}
use Rattle.values.specs.declared.value.Value.TheVariants.{Signed, Unsigned, Single, Double, Code}
use Rattle.lookup.specs.Lists.{opened, allowance, lands_on, vdr_kept, rule_kept, meets, last_link, sought, place_way, variable_way}
use Rattle.lookup.specs.Indexes.{record_there, record_read, record_number, scanned, index_met, last_index, indexed, lower_met, lowered, values_met, record_way}
use Rattle.lookup.specs.Refusals.{refusal_number}
use Rattle.answers.specs.Answers.{element_there, element_read, in_record, in_variable, value_read}
use Rattle.reader.specs.Questions.{ask_value, Reply, Value as Given, Field, Name, Refused, answer_to}
use Rattle.walk.specs.Walk.{type_number, leads_to, list_step, lower_next, gdr_named, field_number, tallied, vars_tally, var_number, chain_tally, attr_number, values_number, lower_number, entries_tally, num_number, entry_number, one_more, unused_number, walk_step_by}
use Rattle.walk.specs.Levels.{is_none, most_of, room_below}
use Rattle.marks.specs.Marks.{cleared, marked, start_at, unclaimed_at, followed_at, left_from, left_of}
use Rattle.faults.specs.Holder.{holder_of}
use Rattle.faults.specs.Fault.{fault_at}
use Rattle.checker.specs.Step.{Run, open_number, swept, link_number, stepped, step_by, run_of, plain_run}
use Rattle.states.specs.Stages.{answer_of, location_in}

-- ---- files
-- numbers as control fields, one after the other
unfoldable pub words_of : List ℕ → List ℕ
words_of [] = []
words_of (x ∷ xs) = x / 16777216 ∷ x / 65536 % 256 ∷ x / 256 % 256 ∷ x % 256 ∷ words_of xs

-- -1 as a control field
abbrev pub minus_one : ℕ
minus_one = 4294967295

-- 18.1: "Base file: magics, CDR at 8 (encoding 6, flags 3, GDR at 312), GDR at 312, no lists, rMaxRec -1", and what follows: an encoding
-- and flags, a length, the head and count of its zVariables, the head of its unused records, and the records after the GDR. 18.1: "In every
-- file here eof is the length"
unfoldable pub file_by : ℕ → ℕ → ℕ → ℕ → ℕ → ℕ → List ℕ → List ℕ
file_by encoding flags len z_head z_vars u_head rest =
    words_of (0xCDF26002 ∷ 0x0000FFFF ∷ 304 ∷ 1 ∷ 312 ∷ 2 ∷ 0 ∷ encoding ∷ flags ∷ [])
    ++ (replicate 276 0
    ++ (words_of (60 ∷ 2 ∷ 0 ∷ z_head ∷ 0 ∷ len ∷ 0 ∷ 0 ∷ minus_one ∷ 0 ∷ z_vars ∷ u_head ∷ 0 ∷ 0 ∷ 0 ∷ []) ++ rest))

unfoldable pub file_of : ℕ → ℕ → ℕ → ℕ → List ℕ → List ℕ
file_of len z_head z_vars u_head rest = file_by 6 3 len z_head z_vars u_head rest

-- a VXR of one used entry that names what stands at an offset, of a range, and of 0..2
unfoldable pub index_by : ℕ → ℕ → ℕ → List ℕ
index_by first last offset = words_of (32 ∷ 6 ∷ 0 ∷ 1 ∷ 1 ∷ first ∷ last ∷ offset ∷ [])

unfoldable pub index_to : ℕ → List ℕ
index_to offset = index_by 0 2 offset

-- 18.4: "one zVariable, type 2, one element, no dimensions, no pad, record variance set, MaxRec 2, VDR at 372", of a data type and MaxRec, its
-- index from 504 on, then its VVR, of a size and with values
unfoldable pub variable_by : ℕ → ℕ → List ℕ → ℕ → List ℕ → List ℕ
variable_by type most index size values =
    words_of (132 ∷ 8 ∷ 0 ∷ type ∷ most ∷ 504 ∷ 504 ∷ 1 ∷ 0 ∷ 0 ∷ 0 ∷ 0 ∷ 1 ∷ 0 ∷ 0 ∷ 0 ∷ [])
    ++ (replicate 64 0 ++ (words_of (0 ∷ []) ++ (index ++ (words_of (size ∷ 7 ∷ []) ++ values))))

-- 18.4: "VXR of one used entry 0..2 at 504, VVR .. at 536"
unfoldable pub variable : ℕ → List ℕ → List ℕ
variable size values = variable_by 2 2 (index_to 536) size values

-- 18.7: "n levels of one entry each": VXRs one below the other, from an offset on; the last names what stands behind it
unfoldable pub levels : ℕ → ℕ → List ℕ
levels zero at = []
levels (suc n) at = index_to (at + 32) ++ levels n (at + 32)

-- a zVariable of type 1 with two dimensions, of sizes a and b and variances v and w, and one record: VDR at 372, VXR at 520, VVR at 552;
-- the value at each place is that place
unfoldable pub plane : ℕ → ℕ → ℕ → ℕ → List ℕ → List ℕ
plane a b v w values =
    words_of (148 ∷ 8 ∷ 0 ∷ 1 ∷ 0 ∷ 520 ∷ 520 ∷ 1 ∷ 0 ∷ 0 ∷ 0 ∷ 0 ∷ 1 ∷ 0 ∷ 0 ∷ 0 ∷ [])
    ++ (replicate 64 0
    ++ (words_of (2 ∷ a ∷ b ∷ v ∷ w ∷ 32 ∷ 6 ∷ 0 ∷ 1 ∷ 1 ∷ 0 ∷ 0 ∷ 552 ∷ (8 + length values) ∷ 7 ∷ []) ++ values))

-- 18.2: "A: the base file"
unfoldable pub file_a : List ℕ
file_a = file_of 372 0 0 0 []

unfoldable pub file_b : List ℕ
file_b = []

-- A cut by a byte, and eof with it
unfoldable pub file_c : List ℕ
file_c = take 371 (file_of 371 0 0 0 [])

-- 18.3: "an unlisted 8-byte unused record"
unfoldable pub file_d : List ℕ
file_d = file_of 380 0 0 0 (words_of (8 ∷ minus_one ∷ []))

-- 18.3: "the same with type 7"
unfoldable pub file_e : List ℕ
file_e = file_of 380 0 0 0 (words_of (8 ∷ 7 ∷ []))

-- 18.3: "a listed 16-byte UIR"
unfoldable pub file_f : List ℕ
file_f = file_of 388 0 0 372 (words_of (16 ∷ minus_one ∷ 0 ∷ 0 ∷ []))

-- 18.3: "F with the UIR naming itself as next"
unfoldable pub file_g : List ℕ
file_g = file_of 388 0 0 372 (words_of (16 ∷ minus_one ∷ 372 ∷ 0 ∷ []))

unfoldable pub file_h : List ℕ
file_h = file_of 550 372 1 0 (variable 14 (replicate 6 0))

-- 18.4: "H with a VVR of 15 bytes"
unfoldable pub file_i : List ℕ
file_i = file_of 551 372 1 0 (variable 15 (replicate 7 0))

-- H with an index of n levels; its values are 0, 1 and 2; 18.7: "H with n levels of one entry each"
unfoldable pub deep : ℕ → List ℕ
deep n = file_of (518 + 32 * n) 372 1 0 (variable_by 2 2 (levels n 504) 14 (0 ∷ 0 ∷ 1 ∷ 0 ∷ 2 ∷ 0 ∷ []))

-- 18.7: H with n bytes behind its eof
unfoldable pub padded : ℕ → List ℕ
padded n = file_h ++ replicate n 9

-- 18.5: "in H, bytes FF FE at 546", in an encoding
unfoldable pub file_j : ℕ → List ℕ
file_j encoding = file_by encoding 3 550 372 1 0 (variable 14 (0 ∷ 0 ∷ 255 ∷ 254 ∷ 0 ∷ 0 ∷ []))

-- 18.6: "sizes 2,3 both varying", by row with flags 3, by column with flags 2
unfoldable pub file_l : ℕ → List ℕ
file_l flags = file_by 6 flags 566 372 1 0 (plane 2 3 minus_one minus_one (0 ∷ 1 ∷ 2 ∷ 3 ∷ 4 ∷ 5 ∷ []))

-- 18.6: "sizes 3,5, variances true, false"
unfoldable pub file_m : List ℕ
file_m = file_by 6 3 563 372 1 0 (plane 3 5 minus_one 0 (0 ∷ 1 ∷ 2 ∷ []))

-- 18.8: "H whose index begins at record 1"
unfoldable pub gapped : List ℕ
gapped = file_of 548 372 1 0 (variable_by 2 2 (index_by 1 2 536) 12 (replicate 4 0))

-- 18.8: "H of type 21 with the bytes 00 80 00 00 as its only record, in encoding 3"
unfoldable pub operand : List ℕ
operand = file_by 3 3 548 372 1 0 (variable_by 21 0 (index_by 0 0 536) 12 (0 ∷ 128 ∷ 0 ∷ 0 ∷ []))

-- ---- rows
-- the marks at some offsets
unfoldable pub marks_are : List ℕ → List (ℕ × ℕ) → Bool
marks_are m [] = true
marks_are m (p ∷ ps) = eqb (get_or m p.0 0) p.1 && marks_are m ps

-- the plain run over a file, with marks that are all 7 to begin with, gives this verdict and location in this many steps and leaves
-- these marks
unfoldable pub ends : ℤ → ℕ → ℕ → List (ℕ × ℕ) → Run → Bool
ends v p n ps r =
    eq_z (answer_of r.at.state.stage) v && eqb (location_in r.at.state.stage) p && eqb r.made n && marks_are r.at.marks ps

unfoldable pub checks : List ℕ → ℤ → ℕ → ℕ → List (ℕ × ℕ) → Bool
checks f v p n ps = ends v p n ps (plain_run f (replicate (length f) 7) (length f / 4 + 1))

-- an answer is a signed value that was read at an offset, or a refusal
unfoldable pub is_signed : ℤ → Value → Bool
is_signed x (Signed y) = eq_z y x
is_signed x (Unsigned n) = false
is_signed x (Single z) = false
is_signed x (Double z) = false
is_signed x (Code n) = false

unfoldable pub gives : ℤ → ℕ → Reply → Bool
gives x at (Given a) = is_signed x a.value && eqb a.offset at
gives x at (Field y) = false
gives x at (Name o n) = false
gives x at (Refused v) = false

unfoldable pub refuses : ℕ → Reply → Bool
refuses n (Given a) = false
refuses n (Field y) = false
refuses n (Name o m) = false
refuses n (Refused v) = eqb (refusal_number v) n

-- the first element of a value of the first zVariable
unfoldable pub reads : List ℕ → ℕ → List ℤ → Reply
reads f rec is = answer_to f (ask_value (pos 8) (pos 0) (pos rec) is (pos 0))

unfoldable pub all_of : List Bool → Bool
all_of [] = true
all_of (b ∷ bs) = b && all_of bs

-- a row for each file, with the marks at record starts; then what is read of J (both encodings), K, L (by row and by column) and M, and
-- through two, eight and nine levels, and of H with padding
unfoldable pub rows : List Bool
rows =
    checks file_a (pos 0) 0 8 ((0, 7) ∷ (8, 1) ∷ (312, 2) ∷ [])
    ∷ checks file_b (pos 3) 0 1 []
    ∷ checks file_c (pos 3) 0 1 ((8, 7) ∷ (312, 7) ∷ [])
    ∷ checks file_d (pos 0) 0 9 ((8, 1) ∷ (312, 2) ∷ (372, 1) ∷ [])
    ∷ checks file_e (pos 13) 372 9 ((8, 1) ∷ (312, 2) ∷ (372, 1) ∷ [])
    ∷ checks file_f (pos 0) 0 10 ((8, 1) ∷ (312, 2) ∷ (372, 2) ∷ [])
    ∷ checks file_g (pos 9) 372 10 ((8, 1) ∷ (312, 2) ∷ (372, 2) ∷ [])
    ∷ checks file_h (pos 0) 0 15 ((8, 1) ∷ (312, 2) ∷ (372, 2) ∷ (504, 2) ∷ (536, 2) ∷ [])
    ∷ checks file_i (pos 10) 536 11 ((8, 1) ∷ (312, 2) ∷ (372, 2) ∷ (504, 2) ∷ (536, 1) ∷ [])
    -- two levels, eight, and nine: 23 at the entry of the eighth record, for the ninth
    ∷ checks (deep 2) (pos 0) 0 18 ((8, 1) ∷ (312, 2) ∷ (372, 2) ∷ (504, 2) ∷ (536, 2) ∷ (568, 2) ∷ [])
    ∷ checks (deep 8) (pos 0) 0 36 ((504, 2) ∷ (728, 2) ∷ (760, 2) ∷ [])
    ∷ checks (deep 9) (pos 23) 760 26 ((504, 2) ∷ (728, 2) ∷ (760, 1) ∷ (792, 1) ∷ [])
    -- padding of 1, 140 and 511 bytes, whose marks stay, and of 512
    ∷ checks (padded 1) (pos 0) 0 15 ((312, 2) ∷ (536, 2) ∷ (549, 0) ∷ (550, 7) ∷ [])
    ∷ checks (padded 140) (pos 0) 0 15 ((312, 2) ∷ (536, 2) ∷ (549, 0) ∷ (550, 7) ∷ (689, 7) ∷ [])
    ∷ checks (padded 511) (pos 0) 0 15 ((312, 2) ∷ (536, 2) ∷ (549, 0) ∷ (550, 7) ∷ (1060, 7) ∷ [])
    ∷ checks (padded 512) (pos 6) 0 1 ((8, 7) ∷ (549, 7) ∷ (550, 7) ∷ [])
    ∷ gives (negsuc 256) 546 (reads (file_j 6) 1 [])
    ∷ gives (negsuc 1) 546 (reads (file_j 1) 1 [])
    ∷ refuses 16 (reads file_h 3 [])
    ∷ gives (pos 3) 563 (reads (file_l 3) 0 (pos 1 ∷ pos 0 ∷ []))
    ∷ gives (pos 1) 561 (reads (file_l 2) 0 (pos 1 ∷ pos 0 ∷ []))
    ∷ gives (pos 2) 562 (reads file_m 0 (pos 2 ∷ pos 4 ∷ []))
    ∷ gives (pos 1) 578 (reads (deep 2) 1 [])
    ∷ gives (pos 2) 772 (reads (deep 8) 2 [])
    ∷ refuses 20 (reads (deep 9) 2 [])
    ∷ gives (pos 0) 546 (reads (padded 511) 1 [])
    ∷ refuses 20 (reads (padded 512) 1 [])
    -- one number of each refusal: no second variable, a gap, an index too many, one of false variance out of range, a reserved operand
    ∷ refuses 15 (answer_to file_h (ask_value (pos 8) (pos 1) (pos 0) [] (pos 0)))
    ∷ refuses 17 (reads gapped 0 [])
    ∷ refuses 18 (reads file_h 0 (pos 0 ∷ []))
    ∷ refuses 18 (reads file_m 0 (pos 2 ∷ pos 5 ∷ []))
    ∷ refuses 22 (reads operand 0 [])
    ∷ []

-- THE TABLE
pub small_files : all_of rows ≡ true
unfolding big_at end_of field_at is_at at_least at_most in_order same_at each_within nat_at after_at link_at bit_at type_of encoding_of
    reach_of judged too_long magics_right wholly_compressed cdr_right single_file gdr_at eof_of eof_right gdr_fields gdr_right magics_number descriptors_number opening file_end body_of type_known
    tile_fields tile_right type_uncarried tile adr_right adr_rule element_size aedr_right aedr_rule vxr_right vxr_rule rises closes range_number
    entry_of vvr_rule uir_rule capped carried_of vdr_fields num_dims_at count_right layout_at layout_of value_bytes pad_bytes
    size_exact dimensions_right factor_of values_per_record record_bytes dimensioned variable_of type_number leads_to list_step lower_next gdr_named field_number tallied vars_tally
    var_number chain_tally attr_number values_number lower_number entries_tally num_number entry_number one_more unused_number is_none most_of room_below walk_step_by cleared marked start_at unclaimed_at
    followed_at left_from left_of holder_of fault_at open_number swept link_number stepped step_by run_of little_at place_after element_place indices_right
    row_fits placed place_of vax_of vax_at sign_at exponent_at mantissa_at raw_at value_of bits_of is_vax is_nothing decoded_of opened allowance lands_on vdr_kept rule_kept meets
    last_link sought place_way variable_way record_there record_read record_number scanned index_met last_index indexed lower_met lowered values_met
    record_way element_there element_read in_record in_variable value_read words_of file_by file_of index_by index_to variable_by variable levels deep padded plane file_a file_b
    file_c file_d file_e file_f file_g file_h file_i file_j file_l file_m gapped operand marks_are ends checks is_signed gives refuses reads all_of
    rows
small_files = refl
