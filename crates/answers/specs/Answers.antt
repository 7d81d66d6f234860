-- The answers to questions for values: of a variable, of an entry, of a pad value. Sections 13 and 14 of docs/RULES.md. Assumes nothing.
use Rattle.std.specs.Prelude.{ℕ, ◌+◌, ◌*◌, Bool, cond, ◌&&◌, List, ℤ, pos, Option, Some, None, Result, Ok, Err}
use Rattle.std.specs.Int.Signed.{le_z, lt_z}
use Rattle.format.specs.Fields.{field_at, nat_at, bit_at}
use Rattle.values.specs.declared.value.Answer.{Answer}
use Rattle.values.specs.declared.value.Undecoded.{Undecoded}
use Rattle.values.specs.Values.{decoded_of}
use Rattle.records.specs.Layout.{encoding_at, entry_type_at, entry_elements_at, entry_value_at, data_type_at, var_flags_at, elements_at}
use Rattle.records.specs.Opening.{body_of}
use Rattle.variables.specs.Vdr.{variable_of, shape_of}
use Rattle.variables.specs.Place.{place_of}
use Rattle.variables.specs.declared.vdr.Shape.{Shape}
use Rattle.lookup.specs.Refusals.{refusal_of}
use Rattle.lookup.specs.Lists.{Way, kind_among, variable_way, entry_way}
use Rattle.lookup.specs.Indexes.{record_way}
use Rattle.lookup.specs.declared.refusals.Refusal.{Refusal}
use Rattle.lookup.specs.declared.refusals.Refusal.TheVariants.{OutOfRange}
use Rattle.lookup.specs.declared.lists.Wanted.{Wanted}
use Rattle.answers.specs.Offsets.{row_majority, element_at}

-- what was decoded, as an answer
abbrev pub answered : Result Answer Undecoded → Result Answer Refusal
answered (Ok a) = Ok a
answered (Err u) = Err (refusal_of u)

-- 4.4: "encoding 20"; the CDR stands at 8
abbrev pub file_encoding : List ℕ → ℕ
file_encoding f = nat_at f encoding_at

-- an element of those that the field at p counts; else 18, "element out of range" (14.2)
unfoldable pub element_there : List ℕ → ℕ → ℤ → Bool
element_there f p x = le_z (pos 0) x && lt_z x (field_at f p)

-- what data type and encoding make of the bytes at an offset
abbrev pub element_of : List ℕ → ℕ → ℕ → Result Answer Undecoded
element_of f at t = decoded_of f at (nat_at f t) (file_encoding f)

-- element x of those values, whose count stands at c
unfoldable pub element_read : List ℕ → ℕ → ℕ → ℕ → ℤ → Result Answer Refusal
element_read f at t c x = cond (element_there f c x) (answered (element_of f (element_at f at t x) t)) (Err OutOfRange)

-- of a record that begins at an offset: the value at a place, the VDR at v saying its data type and elements; 14.7: "place × elements ×
-- element size"
abbrev pub at_place : List ℕ → ℕ → ℕ → ℕ → ℤ → Option ℕ → Result Answer Refusal
at_place f v bytes at x (Some p) = element_read f (at + p * bytes) (data_type_at v) (elements_at v) x
at_place f v bytes at x None = Err OutOfRange

unfoldable pub in_record : List ℕ → ℕ → Shape → ℕ → List ℤ → ℤ → Result Answer Refusal
in_record f v u at is x = at_place f v u.value at x (place_of f u.dimensions (row_majority f) is)

abbrev pub in_values : List ℕ → ℕ → Shape → List ℤ → ℤ → Result ℕ Refusal → Result Answer Refusal
in_values f v u is x (Ok at) = in_record f v u at is x
in_values f v u is x (Err n) = Err n

-- of the variable whose VDR is at v, where left more records may be met
unfoldable pub in_variable : List ℕ → ℕ → ℕ → Shape → ℤ → List ℤ → ℤ → Result Answer Refusal
in_variable f v left u r is x = in_values f v u is x (record_way f v u.bytes r left)

abbrev pub value_on : List ℕ → ℕ → ℤ → List ℤ → ℤ → Way → Result Answer Refusal
value_on f k r is x (Ok m) = in_variable f m.at m.left (shape_of (variable_of f k m.at)) r is x
value_on f k r is x (Err n) = Err n

-- A VALUE: "asked by kind, number, record, indices and element" (14.1)
unfoldable pub value_read : List ℕ → ℤ → ℤ → ℤ → List ℤ → ℤ → Result Answer Refusal
value_read f k n r is x = value_on (body_of f) (kind_among 3 8 k) r is x (variable_way f k n)

-- 4.7: "data type 16 .. elements 24 .. value 48"
abbrev pub entry_on : List ℕ → ℤ → Way → Result Answer Refusal
entry_on f x (Ok m) = element_read f (entry_value_at m.at) (entry_type_at m.at) (entry_elements_at m.at) x
entry_on f x (Err n) = Err n

-- AN ENTRY'S VALUE, of the entry that is wanted, at a place of its list or of a number
unfoldable pub entry_value : List ℕ → ℤ → ℤ → Wanted → ℤ → Result Answer Refusal
entry_value f a k w x = entry_on (body_of f) x (entry_way f a k w)

-- 4.9: "A pad value comes last, if bit 1 is set"; 14.7: "a pad value's behind the variances"
abbrev pub pad_value_at : Shape → ℕ
pad_value_at u = u.dimensions.variances + 4 * u.dimensions.count

unfoldable pub pad_in : List ℕ → ℕ → Shape → ℤ → Result Answer Refusal
pad_in f v u x = cond (bit_at f (var_flags_at v) 2) (element_read f (pad_value_at u) (data_type_at v) (elements_at v) x) (Err OutOfRange)

abbrev pub pad_on : List ℕ → ℕ → ℤ → Way → Result Answer Refusal
pad_on f k x (Ok m) = pad_in f m.at (shape_of (variable_of f k m.at)) x
pad_on f k x (Err n) = Err n

-- A PAD VALUE: "A pad value is given as elements, 18 if there is none" (14.2)
unfoldable pub pad_read : List ℕ → ℤ → ℤ → ℤ → Result Answer Refusal
pad_read f k n x = pad_on (body_of f) (kind_among 3 8 k) x (variable_way f k n)
