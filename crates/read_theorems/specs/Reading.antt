-- WHAT THE READER ANSWERS of every file, accepted or not. Sections 13 to 16 of docs/RULES.md. Assumes nothing.
use Rattle.std.specs.Prelude.{◌≡◌, ◌≢◌, ◌⊎◌, Bool, true, false, cond, ◌&&◌, List, [], ◌∷◌, ◌++◌, ℕ, zero, suc, ◌+◌, ◌-◌, ◌*◌, ◌≤◌, ◌<◌, length, get_or, eqb, ℤ, pos, Ok}
use Rattle.std.specs.Int.Signed.{le_z}
use Rattle.format.specs.Bytes.{OfBytes}
use Rattle.format.specs.Fields.{field_at, nat_at, nat_or, link_at, bit_at}
use Rattle.format.specs.Types.{signed, type_of, kind_in}
use Rattle.format.specs.Encodings.{encoding_of, order_in, float_in}
use Rattle.values.specs.Values.{raw_at, is_vax, reserved_float}
use Rattle.values.specs.Agreement.{Agrees, VaxGiven}
use Rattle.values.specs.declared.value.Answer.{Answer}
use Rattle.records.specs.Layout.{next_at, encoding_at, nr_vars_at, num_attr_at, nz_vars_at, r_num_dims_at, r_dim_sizes_at, attr_name_at, entry_type_at, entry_elements_at, data_type_at, head_of_index, var_flags_at, elements_at, var_name_at}
use Rattle.records.specs.Rules.{size_at, typed_at}
use Rattle.records.specs.Opening.{gdr_at, r_num_dims, body_of, Unpadded}
use Rattle.records.specs.Attributes.{adr_right, element_size, aedr_right}
use Rattle.records.specs.Index.{vxr_right, no_limit}
use Rattle.records.specs.Tree.{Slot, used_entries, first_of, last_of, named_by, levels_below, names_index, lower_slots, lowest}
use Rattle.variables.specs.Vdr.{vdr_fields, num_dims_at, count_right, layout_of, size_exact, dimensions_right, record_bytes}
use Rattle.variables.specs.Place.{index_right, indices_right}
use Rattle.variables.specs.declared.vdr.Layout.{Layout}
use Rattle.demands.specs.Acceptance.{◌∈◌, RangeRight}
use Rattle.lookup.specs.Entries.{records}
use Rattle.lookup.specs.Lists.{wanted_at, head_of_list, head_of_entries, of_kinds, kind_among}
use Rattle.lookup.specs.Indexes.{record_there, record_read}
use Rattle.lookup.specs.declared.refusals.Refusal.TheVariants.{Breach, NoSuch, NoNumber, Gap, OutOfRange, Operand}
use Rattle.lookup.specs.declared.lists.Wanted.{Wanted}
use Rattle.answers.specs.Offsets.{row_majority, value_at, entry_at, pad_at}
use Rattle.answers.specs.Answers.{file_encoding, element_there, element_of}
use Rattle.descriptors.specs.Descriptors.{is_shown}
use Rattle.reader.specs.Questions.{Question, ask_value, ask_entry, ask_pad, ask_file, ask_dimension, ask_variable, ask_attribute, ask_entry_field, ask_size, ask_variance, ask_levels, ask_variable_name, ask_attribute_name, Reply, Value, Field, Name, Refused, answer_to}

-- 6.4: "the sweep, links and indexes end at eof". What is found is said of the bytes f before the end of a file, `body_of` of it

-- 13.2: "the list from its head to the wanted place": the n-th record, from 0, of the list whose head link stands at p
abbrev pub nth_record : List ℕ → ℕ → ℕ → ℕ
nth_record f p zero = link_at f p
nth_record f p (suc n) = nth_record f (next_at (link_at f p)) n

-- ---- A RECORD THAT IS MET, in the terms of the rules of acceptance: crates/demands/specs/Acceptance.antt

-- a record of type t lies at o; 13.4: "lie inside the file, each link land at 8 or above on the right type"
pub record Lands (f : List ℕ) (t o : ℕ) : Type 0 where
  pub start : 8 ≤ o
  pub inside : o + size_at f o ≤ length f
  pub typed : typed_at f o (pos t) ≡ true

-- the rule of the VDR of kind k at o
pub record VdrKept (f : List ℕ) (k o : ℕ) : Type 0 where
  -- 13.4: "Flags bit 2 set is a breach"
  pub carried : bit_at f (var_flags_at o) 4 ≡ false
  -- 5.9: "A data type of 3.6, MaxRec -1 or more, flags with bits 3 to 31 clear, sRecords 0 to 2, elements 1 or more, and exactly 1 unless
  -- the type is 51 or 52"
  pub fields : vdr_fields f o ≡ true
  -- 5.10: "in the zVDR or, of an rVDR, in the GDR, is 0 to 10"
  pub count : count_right f (num_dims_at f k o) ≡ true
  -- 5.12: "comes last if bit 1 is set. Size is exact"
  pub exact : size_exact f o (layout_of f k o) ≡ true
  -- 5.11: "Each dimension's size is 1 or more .. a variance is -1 (true) or 0 (false)"
  pub dimensions : dimensions_right f (layout_of f k o) ≡ true
  -- 5.13: "Above 2,147,483,647 the VDR breaks its rule"
  pub bytes : record_bytes f o (layout_of f k o) ≤ 2147483647

-- 13.4: "Each record met must meet its rule (section 5)": the record of type t at o lies there and keeps the rule of its type
pub record Kept (f : List ℕ) (t o : ℕ) : Type 0 where
  pub lands : Lands f t o
  pub vdr : (t ≡ 3) ⊎ (t ≡ 8) → VdrKept f t o
  -- 5.6: "Size is 116, scope is 1 or 2"
  pub adr : t ≡ 4 → adr_right f o ≡ true
  -- 5.7: "A data type of 3.6, entry number 0 or more, elements 1 or more .. Size is 48 + elements × element size"
  pub aedr : (t ≡ 5) ⊎ (t ≡ 9) → aedr_right f o ≡ true
  -- 5.16: "Used is 0 to entries, size is 20 + 12 × entries"
  pub vxr : t ≡ 6 → vxr_right f o ≡ true

-- the record of type t at o was met as the n-th of the list whose head link stands at p
pub record Met (f : List ℕ) (t p n o : ℕ) : Type 0 where
  pub place : nth_record f p n ≡ o
  -- 13.4: "also in records passed over"
  pub rules : (h : ℕ) → h ≤ n → Kept f t (nth_record f p h)

-- 13.7: "The index entry whose First..Last covers it"
pub record CoveredBy (f : List ℕ) (r : ℕ) (s : Slot) : Type 0 where
  pub first : first_of f s ≤ r
  pub last : r ≤ last_of f s

-- 13.7: "Index entries rise as in the check (8.8)": each range of ss begins at floor or above the Last before it, and ends at most or below
abbrev pub Rise : List ℕ → ℕ → ℕ → List Slot → Type 0
Rise f floor most [] = Unit {0}
Rise f floor most (s ∷ ss) = RangeRight f s × (floor ≤ first_of f s) × (last_of f s ≤ most) × Rise f (suc (last_of f s)) most ss

-- s is the first of ss that covers r, and the ranges up to its own rise; 13.7: "entries after the covering one are not judged"
pub record FirstCovering (f : List ℕ) (r floor most : ℕ) (ss : List Slot) (s : Slot) : Type 0 where
  pub earlier : List Slot
  pub later : List Slot
  pub split : ss ≡ earlier ++ (s ∷ later)
  pub rise : Rise f floor most (earlier ++ (s ∷ []))
  pub none : (t : Slot) → t ∈ earlier → CoveredBy f r t → ⊥
  pub covered : CoveredBy f r s

-- 8.9: "one lower index record (6)": the entry s names one, which is met
pub record LowerMet (f : List ℕ) (s : Slot) : Type 0 where
  pub named : names_index f s ≡ true
  pub rules : Kept f 6 (named_by f s)
  -- 8.10: "A lower record has next 0"
  pub alone : link_at f (next_at (named_by f s)) ≡ 0

-- 13.9: "A lookup goes down level by level": from the entry s, one entry a level, each but the last naming a lower record, the last naming
-- none; 8.11: "ranges rise within the naming entry's"
abbrev pub WayDown : List ℕ → ℕ → Slot → List Slot → Type 0
WayDown f r s [] = names_index f s ≡ false
WayDown f r s (t ∷ ts) = LowerMet f s × FirstCovering f r (first_of f s) (last_of f s) (lower_slots f s) t × WayDown f r t ts

abbrev pub last_entry : Slot → List Slot → Slot
last_entry s [] = s
last_entry s (t ∷ ts) = last_entry t ts

-- the way through the index of the VDR at v to the lowest entry that covers record r
pub record IndexWay (f : List ℕ) (v r : ℕ) : Type 0 where
  -- 13.2: "the index chain to the covering entry": how many VXRs of the chain are met, and the first of their used entries that covers r
  pub many : ℕ
  pub rules : (x : ℕ) → x ∈ records f (head_of_index v) many → Kept f 6 x
  pub top : Slot
  pub first : FirstCovering f r 0 no_limit (used_entries f (records f (head_of_index v) many)) top
  -- and down from it: "carried to eight, top included" (8.9)
  pub below : List Slot
  pub down : WayDown f r top below
  pub few : length below ≤ levels_below

-- ---- AN ELEMENT: its offset and its decoding, by the offset t of its data type

-- a float of that data type in encoding 3, 14 or 15, and one whose bytes at an offset are the reserved operand
abbrev pub vax_float : List ℕ → ℕ → Bool
vax_float f t = is_vax (kind_in (type_of (nat_at f t))) (float_in (encoding_of (file_encoding f)))

abbrev pub reserved : List ℕ → ℕ → ℕ → Bool
reserved f at t = reserved_float f at (kind_in (type_of (nat_at f t))) (float_in (encoding_of (file_encoding f)))

-- the answer a is the element at an offset
pub record ElementShown (f : List ℕ) (at t : ℕ) (a : Answer) : Type 0 where
  -- 14.6: "With a value comes the file offset it was read from"
  pub offset : a.offset ≡ at
  -- what data type and encoding make of the bytes there
  pub decoded : element_of f at t ≡ Ok a
  -- the bits are those of the value, where the numbers of f are bytes, as those of every file are
  pub bits : OfBytes f → Agrees a.value a.bits
  -- 15.5: "The answer is a double"
  pub vax : vax_float f t ≡ true → VaxGiven f at (kind_in (type_of (nat_at f t))) (float_in (encoding_of (file_encoding f))) a
  -- any other value but a signed one has the bits that stand in the file, a NaN too; 14.5: "Floats keep their bits"
  pub stored : vax_float f t ≡ false → eqb (kind_in (type_of (nat_at f t))) signed ≡ false
      → a.bits ≡ raw_at f at (element_size f t) (order_in (encoding_of (file_encoding f)))

-- n bytes from an offset lie in the record at o, behind its first h bytes
pub record LiesIn (f : List ℕ) (o h offset n : ℕ) : Type 0 where
  pub begins : o + h ≤ offset
  pub ends : offset + n ≤ o + size_at f o

-- ---- WHAT A LOOKUP FINDS

-- the VDR of kind k and number n
pub record VariableFound (f : List ℕ) (k n : ℤ) (vdr : ℕ) : Type 0 where
  -- 13.5: "Kinds are record types 3, 8"; "a number of a variable or attribute below 0, is 15"
  pub kind : of_kinds 3 8 k ≡ true
  pub number : le_z (pos 0) n ≡ true
  pub variable : Met f (kind_among 3 8 k) (head_of_list f (kind_among 3 8 k)) (nat_or 0 n) vdr

-- the ADR of number n
pub record AttributeFound (f : List ℕ) (n : ℤ) (adr : ℕ) : Type 0 where
  pub number : le_z (pos 0) n ≡ true
  pub attribute : Met f 4 (head_of_list f 4) (nat_or 0 n) adr

-- the entry that is wanted, by its number or its place, of kind k, of attribute b
pub record EntryFound (f : List ℕ) (b k : ℤ) (w : Wanted) (aedr : ℕ) : Type 0 where
  -- 13.5: "Kinds are record types .. 5, 9"
  pub kind : of_kinds 5 9 k ≡ true
  pub adr : ℕ
  pub attribute : AttributeFound f b adr
  -- 13.2: "for an entry, the ADR's list to the first of that number": the entry is a wanted one, none before it is
  pub place : ℕ
  pub entry : Met f (kind_among 5 9 k) (head_of_entries adr (kind_among 5 9 k)) place aedr
  pub first : wanted_at f w place aedr ≡ true
  pub earlier : (h : ℕ) → h < place → wanted_at f w h (nth_record f (head_of_entries adr (kind_among 5 9 k)) h) ≡ false

-- the way through its index to record r
pub record IndexFound (f : List ℕ) (k n r : ℤ) (vdr : ℕ) : Type 0 where
  pub variable : VariableFound f k n vdr
  -- 13.6: "A record number from 0 to MaxRec is looked up; with record variance clear any number from 0 reads record 0"
  pub there : record_there f vdr r ≡ true
  pub way : IndexWay f vdr (record_read f vdr r)

-- and the values that the lowest entry on it names
pub record RecordFound (f : List ℕ) (k n r : ℤ) (vdr : ℕ) (slot : Slot) : Type 0 where
  pub index : IndexFound f k n r vdr
  pub last : last_entry index.way.top index.way.below ≡ slot
  pub is_lowest : slot ∈ lowest f levels_below index.way.top
  pub covered : CoveredBy f (record_read f vdr r) slot
  -- 13.2: "then the VVR"; 5.17: "Size is 8 + (Last - First + 1) × record bytes"
  pub lands : Lands f 7 (named_by f slot)
  pub size : size_at f (named_by f slot) ≡ 8 + (last_of f slot - first_of f slot + 1) * record_bytes f vdr (layout_of f (kind_among 3 8 k) vdr)

-- ---- WHAT IS SAID of what was found

-- as many indices as dimensions, each right, and an element that is there
abbrev pub indices_given : List ℕ → Layout → List ℤ → Bool
indices_given f l is = eqb (length is) l.count && indices_right f l.sizes is l.count

abbrev pub question_right : List ℕ → ℕ → ℕ → List ℤ → ℤ → Bool
question_right f t v is x = indices_given f (layout_of f t v) is && element_there f (elements_at v) x

-- a pad value, and an element of it that is there
abbrev pub pad_right : List ℕ → ℕ → ℤ → Bool
pad_right f v x = bit_at f (var_flags_at v) 2 && element_there f (elements_at v) x

-- an element that is asked for: whether the question is right, its offset, the offset of its data type, the record that holds it, and how many
-- bytes of that it stands behind
pub record Asked : Type 0 where
  pub right : Bool
  pub at : ℕ
  pub type : ℕ
  pub holder : ℕ
  pub behind : ℕ

-- the value, if the question is right; 18 by 14.2: "dimension index or element out of range, or wrong number of indices"; 22 by 15.4: "the
-- reserved operand"
pub record ValueSaid (f : List ℕ) (q : Asked) (a : Answer) : Type 0 where
  pub right : q.right ≡ true
  pub inside : LiesIn f q.holder q.behind q.at (element_size f q.type)
  pub shown : ElementShown f q.at q.type a

abbrev pub ElementSaid : List ℕ → Asked → Reply → Type 0
ElementSaid f q (Value a) = ValueSaid f q a
ElementSaid f q (Field x) = ⊥
ElementSaid f q (Name o n) = ⊥
ElementSaid f q (Refused Breach) = ⊥
ElementSaid f q (Refused NoSuch) = ⊥
ElementSaid f q (Refused NoNumber) = ⊥
ElementSaid f q (Refused Gap) = ⊥
ElementSaid f q (Refused OutOfRange) = q.right ≡ false
ElementSaid f q (Refused Operand) = (q.right ≡ true) × (reserved f q.at q.type ≡ true)

abbrev pub value_asked : List ℕ → ℕ → ℕ → Slot → ℕ → List ℤ → ℤ → Asked
value_asked f t v s r is x =
    record { right = question_right f t v is x; at = value_at f t v s r is x; type = data_type_at v; holder = named_by f s; behind = 8 }

abbrev pub entry_asked : List ℕ → ℕ → ℤ → Asked
entry_asked f e x = record { right = element_there f (entry_elements_at e) x; at = entry_at f e x; type = entry_type_at e; holder = e; behind = 48 }

abbrev pub pad_asked : List ℕ → ℕ → ℤ → Asked
pad_asked f v x = record { right = pad_right f v x; at = pad_at f v x; type = data_type_at v; holder = v; behind = 128 }

-- a fact of every answer that comes after the way; the way stops with 20, 15, 16 or 17
abbrev pub UnlessStopped : (Reply → Type 0) → Reply → Type 0
UnlessStopped Said (Refused Breach) = Unit {0}
UnlessStopped Said (Refused NoSuch) = Unit {0}
UnlessStopped Said (Refused NoNumber) = Unit {0}
UnlessStopped Said (Refused Gap) = Unit {0}
UnlessStopped Said (Refused OutOfRange) = Said (Refused OutOfRange)
UnlessStopped Said (Refused Operand) = Said (Refused Operand)
UnlessStopped Said (Value a) = Said (Value a)
UnlessStopped Said (Field x) = Said (Field x)
UnlessStopped Said (Name o n) = Said (Name o n)

-- a field, if it is there, and else 18
abbrev pub part_told : Bool → ℤ → Reply
part_told right x = cond right (Field x) (Refused OutOfRange)

-- of the record of type t at o, at an offset in it; 16.2: "fields other than size, record type, links, tail, compression offset, blocking and
-- rfu"
abbrev pub field_told : List ℕ → ℕ → ℕ → ℕ → Reply
field_told f t o p = part_told (is_shown t p) (field_at f (o + p))

-- the d-th of n fields from p on; 16.3: "a dimension that is not there is 18"
abbrev pub row_told : List ℕ → ℕ → ℕ → ℤ → Reply
row_told f p n d = part_told (index_right d n) (field_at f (p + 4 * nat_or 0 d))

-- a zVariable's own sizes; an rVariable has none
abbrev pub size_told : List ℕ → ℕ → Layout → ℤ → Reply
size_told f t l d = part_told (eqb t 8 && index_right d l.count) (field_at f (l.sizes + 4 * nat_or 0 d))

-- 16.4: "names up to the NUL, 64 bytes at most": n bytes from an offset, none of them 0, and a 0 behind them unless they are 64
pub record NameEnds (f : List ℕ) (at n : ℕ) : Type 0 where
  pub most : n ≤ 64
  pub bytes : (i : ℕ) → i < n → get_or f (at + i) 0 ≢ 0
  pub ends : (n ≡ 64) ⊎ (get_or f (at + n) 0 ≡ 0)

abbrev pub NameSaid : List ℕ → ℕ → Reply → Type 0
NameSaid f at reply = (n : ℕ) × (reply ≡ Name at n) × NameEnds f at n

-- 16.1: "majority (1 row, 0 column), encoding, counts (NrVars, NzVars, NumAttr), rVariable dimensions", asked by 0 to 5, of the part f before
-- the end of a file of n bytes, given its counts; 6 is the padding: "its length less its end"
abbrev pub file_told : ℕ → List ℕ → ℤ → ℤ → ℤ → ℕ → Reply
file_told n f rs zs ads what =
    cond (eqb what 0) (Field (cond (row_majority f) (pos 1) (pos 0)))
    (cond (eqb what 1) (Field (field_at f encoding_at))
    (cond (eqb what 2) (Field rs)
    (cond (eqb what 3) (Field zs)
    (cond (eqb what 4) (Field ads)
    (cond (eqb what 5) (Field (field_at f (r_num_dims_at (gdr_at f))))
    (cond (eqb what 6) (Field (pos (n - length f))) (Refused OutOfRange)))))))

abbrev pub FileSaid : ℕ → List ℕ → ℕ → Reply → Type 0
FileSaid n f what reply =
    reply ≡ file_told n f (field_at f (nr_vars_at (gdr_at f))) (field_at f (nz_vars_at (gdr_at f))) (field_at f (num_attr_at (gdr_at f))) what

-- WHAT AN ANSWER SAYS, of every file, accepted or not: f is the part before the end of a file of `bytes` bytes. It is of the thing that the
-- lookup found
abbrev pub Says : ℕ → List ℕ → Question → Reply → Type 0
Says bytes f (ask_value k n r is x) reply =
    (v : ℕ) × (s : Slot) × RecordFound f k n r v s × ElementSaid f (value_asked f (kind_among 3 8 k) v s (record_read f v r) is x) reply
Says bytes f (ask_entry b k w x) reply = (e : ℕ) × EntryFound f b k w e × ElementSaid f (entry_asked f e x) reply
Says bytes f (ask_pad k n x) reply = (v : ℕ) × VariableFound f k n v × ElementSaid f (pad_asked f v x) reply
Says bytes f (ask_file what) reply = FileSaid bytes f what reply
Says bytes f (ask_dimension d) reply = reply ≡ row_told f (r_dim_sizes_at (gdr_at f)) (r_num_dims f (gdr_at f)) d
Says bytes f (ask_variable k n p) reply = (v : ℕ) × VariableFound f k n v × (reply ≡ field_told f (kind_among 3 8 k) v p)
Says bytes f (ask_attribute n p) reply = (a : ℕ) × AttributeFound f n a × (reply ≡ field_told f 4 a p)
Says bytes f (ask_entry_field b k w p) reply = (e : ℕ) × EntryFound f b k w e × (reply ≡ field_told f (kind_among 5 9 k) e p)
Says bytes f (ask_size k n d) reply = (v : ℕ) × VariableFound f k n v × (reply ≡ size_told f (kind_among 3 8 k) (layout_of f (kind_among 3 8 k) v) d)
Says bytes f (ask_variance k n d) reply =
    (v : ℕ) × VariableFound f k n v × (reply ≡ row_told f (layout_of f (kind_among 3 8 k) v).variances (layout_of f (kind_among 3 8 k) v).count d)
Says bytes f (ask_levels k n r) reply = (v : ℕ) × (i : IndexFound f k n r v) × (reply ≡ Field (pos (length (i.way.top ∷ i.way.below))))
Says bytes f (ask_variable_name k n) reply = (v : ℕ) × VariableFound f k n v × NameSaid f (var_name_at v) reply
Says bytes f (ask_attribute_name n) reply = (a : ℕ) × AttributeFound f n a × NameSaid f (attr_name_at a) reply

abbrev pub AnswersSay : Type 0
AnswersSay = (f : List ℕ) (q : Question) → UnlessStopped (Says (length f) (body_of f) q) (answer_to f q)

-- ---- PADDING UNREAD: "Bytes and marks from eof on are neither judged nor written" (6.6), and no answer is taken from them: behind the bytes
-- b, whose eof is their number, stand p or as many others q, up to 511
abbrev pub PaddingUnread : Type 0
PaddingUnread = (b p q : List ℕ) → Unpadded b → length p ≡ length q → length p ≤ 511 → (x : Question) → answer_to (b ++ p) x ≡ answer_to (b ++ q) x
