-- The way along the lists: CDR and GDR, a list from its head to the wanted record. Section 13 of docs/RULES.md. Assumes nothing.
use Rattle.std.specs.Prelude.{ℕ, zero, suc, ◌+◌, ◌-◌, ◌/◌, Bool, cond, not, ◌&&◌, ◌||◌, List, length, leb, eqb, ℤ, pos, negsuc, Option, Some, None, Result, Ok, Err}
use Rattle.format.specs.Fields.{end_of, eq_z, is_at, link_at}
use Rattle.records.specs.Layout.{next_at, head_of_r_variables, head_of_z_variables, head_of_attributes, head_of_gr_entries, head_of_z_entries, entry_num_at}
use Rattle.records.specs.Rules.{size_at, typed_at}
use Rattle.records.specs.Opening.{too_long, gdr_at, opening, body_of}
use Rattle.records.specs.Attributes.{adr_rule, aedr_rule}
use Rattle.variables.specs.Vdr.{carried_of, variable_of}
use Rattle.lookup.specs.declared.refusals.Refusal.{Refusal}
use Rattle.lookup.specs.declared.refusals.Refusal.TheVariants.{Breach, NoSuch, NoNumber}
use Rattle.lookup.specs.declared.lists.Wanted.{Wanted}
use Rattle.lookup.specs.declared.lists.Wanted.TheVariants.{Place, Number}
use Rattle.lookup.specs.declared.lists.Met.{Met}

-- the file opens; 13.1: "A file refused 1, 3, 4, 5, 14 or 6 at opening is 20"
unfoldable pub opened : List ℕ → Bool
opened f = not (too_long f) && eqb (opening f) 0

-- 13.3: "more than length/8 records met": how many may be met after the CDR and the GDR, by the whole length, padding too; 6.5: "By the
-- length go .. the reader's allowance"
unfoldable pub allowance : List ℕ → ℕ
allowance f = length f / 8 - 2

-- 13.4: "Each record met must .. lie inside the file, each link land at 8 or above on the right type"
unfoldable pub lands_on : List ℕ → ℕ → ℕ → Bool
lands_on f t o = leb 8 o && (leb (o + 8) (end_of f) && (typed_at f o (pos t) && leb (o + size_at f o) (end_of f)))

abbrev pub is_entry_kind : ℕ → Bool
is_entry_kind t = eqb t 5 || eqb t 9

-- the VDR of a kind keeps its rule; 13.4: "Flags bit 2 set" is a breach too
unfoldable pub vdr_kept : List ℕ → ℕ → ℕ → Bool
vdr_kept f k o = eqb (carried_of f o) 0 && eqb (variable_of f k o).fault 0

-- 13.4: "Each record met must meet its rule": 4 an ADR, 5 and 9 an AEDR, 3 and 8 a VDR
unfoldable pub rule_kept : List ℕ → ℕ → ℕ → Bool
rule_kept f t o =
    cond (eqb t 4) (eqb (adr_rule f o) 0)
    (cond (is_entry_kind t) (eqb (aedr_rule f o) 0) (vdr_kept f t o))

-- the record of type t at o can be met
unfoldable pub meets : List ℕ → ℕ → ℕ → Bool
meets f t o = lands_on f t o && rule_kept f t o

-- the record at o, at the place i of its list, is the wanted one: "the wanted place" (13.2), or "the first of that number" (13.2); 13.8:
-- "by its number, the first that has it, or by its place in the list"
abbrev pub wanted_at : List ℕ → Wanted → ℕ → ℕ → Bool
wanted_at f (Place n) i o = eqb i n
wanted_at f (Number n) i o = is_at f (entry_num_at o) n

-- where a way ends: at a record, with how many more may be met, or at a refusal
abbrev pub Way : Type 0
Way = Result Met Refusal

-- at the record at o, with left more that may be met
abbrev pub met_at : ℕ → ℕ → Way
met_at o left = Ok (record { at = o; left = left })

-- a list is over: 13.2: "15 (list over)", and 16 for a list of entries
abbrev pub over_of : ℕ → Refusal
over_of t = cond (is_entry_kind t) NoNumber NoSuch

-- the link at p where no more records may be met
unfoldable pub last_link : List ℕ → ℕ → ℕ → Refusal
last_link f t p = cond (eqb (link_at f p) 0) (over_of t) Breach

-- a list of records of type t from the link at p, at the place i, to the wanted record: where it is, and how many more may be met
unfoldable pub sought : List ℕ → ℕ → Wanted → ℕ → ℕ → ℕ → Way
sought f t w p i zero = Err (last_link f t p)
sought f t w p i (suc left) =
    let o = link_at f p in
    cond (eqb o 0) (Err (over_of t))
    (cond (meets f t o) (cond (wanted_at f w i o) (met_at o left) (sought f t w (next_at o) (suc i) left)) (Err Breach))

-- 4.5: "rVDR head 8 .. zVDR head 12 .. ADR head 16": the offset of the GDR's link to its list of records of type t
abbrev pub head_of_list : List ℕ → ℕ → ℕ
head_of_list f t = cond (eqb t 3) (head_of_r_variables (gdr_at f)) (cond (eqb t 8) (head_of_z_variables (gdr_at f)) (head_of_attributes (gdr_at f)))

-- a list of the GDR from its head to a place, where left records may be met; 13.5: "a number of a variable or attribute below 0, is 15
-- after the GDR"
unfoldable pub place_way : List ℕ → ℕ → ℤ → ℕ → Way
place_way f t (pos n) left = sought f t (Place n) (head_of_list f t) 0 left
place_way f t (negsuc n) left = Err NoSuch

-- 6.4: "the sweep, links and indexes end at eof": of a file that opens the part before its end is gone through, where as many records may
-- be met as the whole length allows
abbrev pub file_way : List ℕ → ℕ → ℤ → Way
file_way f t n = place_way (body_of f) t n (allowance f)

-- 13.5: "Kinds are record types 3, 8 for variables and 5, 9 for entries; any other .. is 15 after the GDR"
abbrev pub of_kinds : ℕ → ℕ → ℤ → Bool
of_kinds a b k = eq_z k (pos a) || eq_z k (pos b)

-- that kind as a record type, where it is one of the two
abbrev pub kind_among : ℕ → ℕ → ℤ → ℕ
kind_among a b k = cond (eq_z k (pos a)) a b

-- the record type that a question asks for, of two, or why it is refused before a list is followed
abbrev pub kind_asked : List ℕ → ℕ → ℕ → ℤ → Result ℕ Refusal
kind_asked f a b k = cond (opened f) (cond (of_kinds a b k) (Ok (kind_among a b k)) (Err NoSuch)) (Err Breach)

-- THE WAY TO A VARIABLE of a kind and a number
unfoldable pub variable_way : List ℕ → ℤ → ℤ → Way
variable_way f k n = cond (opened f) (cond (of_kinds 3 8 k) (file_way f (kind_among 3 8 k) n) (Err NoSuch)) (Err Breach)

-- THE WAY TO AN ATTRIBUTE
unfoldable pub attribute_way : List ℕ → ℤ → Way
attribute_way f n = cond (opened f) (file_way f 4 n) (Err Breach)

-- 4.6: "AgrEDR head 12", "AzEDR head 36": the link to the entries of kind k of the ADR at a
abbrev pub head_of_entries : ℕ → ℕ → ℕ
head_of_entries a k = cond (eqb k 9) (head_of_z_entries a) (head_of_gr_entries a)

-- 13.2: "for an entry, the ADR's list to the first of that number or its end"
abbrev pub entries_of : List ℕ → ℕ → Wanted → Way → Way
entries_of f k w (Ok m) = sought f k w (head_of_entries m.at k) 0 m.left
entries_of f k w (Err v) = Err v

-- THE WAY TO AN ENTRY of an attribute, of a kind
unfoldable pub entry_way : List ℕ → ℤ → ℤ → Wanted → Way
entry_way f a k w =
    cond (opened f) (cond (of_kinds 5 9 k) (entries_of (body_of f) (kind_among 5 9 k) w (file_way f 4 a)) (Err NoSuch)) (Err Breach)
