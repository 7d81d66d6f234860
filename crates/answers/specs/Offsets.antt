-- WHERE AN ELEMENT STANDS: of a value, of an entry, of a pad value. Clause 14.7 of docs/RULES.md. Assumes nothing.
use Rattle.std.specs.Prelude.{ℕ, ◌+◌, ◌-◌, ◌*◌, Bool, List, ℤ}
use Rattle.format.specs.Fields.{nat_or, bit_at}
use Rattle.records.specs.Layout.{cdr_flags_at, entry_type_at, entry_value_at, data_type_at, values_at}
use Rattle.records.specs.Rules.{size_at}
use Rattle.records.specs.Attributes.{element_size}
use Rattle.records.specs.Tree.{Slot, first_of, named_by}
use Rattle.variables.specs.Vdr.{layout_of, value_bytes, record_bytes}
use Rattle.variables.specs.Numbering.{element_begins}

-- 4.4: flags (24): "bit 0 row majority"; the CDR stands at 8
abbrev pub row_majority : List ℕ → Bool
row_majority f = bit_at f cdr_flags_at 1

-- element x of the values from an offset on, whose data type stands at t: "+ element × element size" (14.7)
abbrev pub element_at : List ℕ → ℕ → ℕ → ℤ → ℕ
element_at f at t x = at + nat_or 0 x * element_size f t

-- where layout and majority put element x of the value at the indices `is`, in the record that begins at o, of the VDR at v, of kind k
abbrev pub in_record_at : List ℕ → ℕ → ℕ → ℕ → List ℤ → ℤ → ℕ
in_record_at f k v o is x = o + element_begins f v (layout_of f k v) (row_majority f) is (nat_or 0 x)

-- in record r, which the lowest entry s covers: "VVR + 8 + (record - First) × record bytes" (14.7)
abbrev pub value_at : List ℕ → ℕ → ℕ → Slot → ℕ → List ℤ → ℤ → ℕ
value_at f k v s r is x = in_record_at f k v (values_at (named_by f s) + (r - first_of f s) * record_bytes f v (layout_of f k v)) is x

-- 4.7: "data type 16 .. value 48": element x of the entry at e
abbrev pub entry_at : List ℕ → ℕ → ℤ → ℕ
entry_at f e x = element_at f (entry_value_at e) (entry_type_at e) x

-- 4.9: "A pad value comes last, if bit 1 is set": it ends with the VDR at v
abbrev pub pad_at : List ℕ → ℕ → ℤ → ℕ
pad_at f v x = element_at f (v + size_at f v - value_bytes f v) (data_type_at v) x
