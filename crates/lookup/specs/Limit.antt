-- THE LIMIT: the ways where so many records may be met, and the records that are met on them, in order: "each record each time it is met"
-- (13.3). Section 13 of docs/RULES.md. Assumes nothing.
use Rattle.std.specs.Prelude.{ℕ, zero, suc, cond, List, [], ◌∷◌, eqb, ℤ, pos, negsuc, Option, Some, None, Result, Ok, Err}
use Rattle.format.specs.Fields.{link_at}
use Rattle.records.specs.Layout.{next_at, head_of_index}
use Rattle.records.specs.Index.{used_at, index_at, no_limit}
use Rattle.records.specs.Tree.{levels_below}
use Rattle.records.specs.declared.index.Range.{Range}
use Rattle.records.specs.Opening.{body_of}
use Rattle.lookup.specs.Lists.{Way, opened, meets, wanted_at, head_of_list, place_way, of_kinds, kind_among, head_of_entries, entries_of}
use Rattle.lookup.specs.Indexes.{scanned, index_met, lower_met, lower_scan, record_number}
use Rattle.lookup.specs.declared.refusals.Refusal.{Refusal}
use Rattle.lookup.specs.declared.refusals.Refusal.TheVariants.{Breach, NoSuch}
use Rattle.lookup.specs.declared.lists.Wanted.{Wanted}
use Rattle.lookup.specs.declared.lists.Wanted.TheVariants.{Place}
use Rattle.lookup.specs.declared.indexes.Scan.{Scan}
use Rattle.lookup.specs.declared.indexes.Scan.TheVariants.{Covering, Passed}

-- ---- THE WAYS, where `left` records may be met behind CDR and GDR: those of a file allow as many as its length does
abbrev pub place_within : ℕ → List ℕ → ℕ → ℤ → Way
place_within left f t n = place_way (body_of f) t n left

abbrev pub variable_within : ℕ → List ℕ → ℤ → ℤ → Way
variable_within left f k n = cond (opened f) (cond (of_kinds 3 8 k) (place_within left f (kind_among 3 8 k) n) (Err NoSuch)) (Err Breach)

abbrev pub attribute_within : ℕ → List ℕ → ℤ → Way
attribute_within left f n = cond (opened f) (place_within left f 4 n) (Err Breach)

abbrev pub entry_within : ℕ → List ℕ → ℤ → ℤ → Wanted → Way
entry_within left f a k w =
    cond (opened f) (cond (of_kinds 5 9 k) (entries_of (body_of f) (kind_among 5 9 k) w (place_within left f 4 a)) (Err NoSuch)) (Err Breach)

-- ---- THE RECORDS MET: a record is met where a link that is not zero leads to it, whether it keeps its rule or not, and the way goes on if it
-- does. Lists are followed for `count` records and one more, so that this ends on rings

-- 13.2: "the list from its head to the wanted place": the records of type t from the link at p, at the place i, to the wanted one, and what
-- is met behind that
unfoldable pub list_met : List ℕ → ℕ → Wanted → (ℕ → ℕ → List ℕ) → ℕ → ℕ → ℕ → List ℕ
list_met f t w behind p i zero = let o = link_at f p in cond (eqb o 0) [] (o ∷ [])
list_met f t w behind p i (suc count) =
    let o = link_at f p in
    cond (eqb o 0) []
    (o ∷ cond (meets f t o) (cond (wanted_at f w i o) (behind o count) (list_met f t w behind (next_at o) (suc i) count)) [])

-- a list of the GDR; a number below 0 meets none
abbrev pub place_met : List ℕ → ℕ → ℤ → (ℕ → ℕ → List ℕ) → ℕ → List ℕ
place_met f t (pos n) behind count = list_met f t (Place n) behind (head_of_list f t) 0 count
place_met f t (negsuc n) behind count = []

-- a kind that is none of the two meets none
abbrev pub variable_met : List ℕ → ℤ → ℤ → (ℕ → ℕ → List ℕ) → ℕ → List ℕ
variable_met f k n behind count = cond (of_kinds 3 8 k) (place_met f (kind_among 3 8 k) n behind count) []

-- 13.2: "for an entry, the ADR's list to the first of that number or its end"
abbrev pub entries_met : List ℕ → ℕ → Wanted → ℕ → ℕ → List ℕ
entries_met f t w a count = list_met f t w (λ e left. []) (head_of_entries a t) 0 count

abbrev pub entry_met : List ℕ → ℤ → ℤ → Wanted → ℕ → List ℕ
entry_met f a k w count = cond (of_kinds 5 9 k) (place_met f 4 a (entries_met f (kind_among 5 9 k) w) count) []

-- 13.2: "the index chain to the covering entry or its end", and what is met behind that entry
abbrev pub chain_on : Result Scan Refusal → (Range → List ℕ) → (ℕ → List ℕ) → List ℕ
chain_on (Ok (Covering e)) behind next = behind e
chain_on (Ok (Passed floor)) behind next = next floor
chain_on (Err v) behind next = []

unfoldable pub chain_met : List ℕ → ℕ → (Range → List ℕ) → ℕ → ℕ → ℕ → List ℕ
chain_met f r behind p floor zero = let x = link_at f p in cond (eqb x 0) [] (x ∷ [])
chain_met f r behind p floor (suc count) =
    let x = link_at f p in
    cond (eqb x 0) []
    (x ∷ cond (index_met f x) (chain_on (scanned f x r no_limit (used_at f x) 0 floor) behind (λ upper. chain_met f r behind (next_at x) upper count)) [])

-- 13.9: "A lookup goes down level by level": the lower records from the entry e on, and what is met behind the lowest entry; none at "a ninth
-- level" (13.9)
abbrev pub lower_on : Result Scan Refusal → (Range → List ℕ) → List ℕ
lower_on (Ok (Covering d)) next = next d
lower_on (Ok (Passed floor)) next = []
lower_on (Err v) next = []

unfoldable pub lower_records : ℕ → List ℕ → ℕ → (Range → List ℕ) → Range → List ℕ
lower_records zero f r behind e = cond (index_at f e.link) [] (behind e)
lower_records (suc n) f r behind e =
    cond (index_at f e.link) (e.link ∷ cond (lower_met f e.link) (lower_on (lower_scan f r e) (lower_records n f r behind)) []) (behind e)

-- the way through the index of the VDR at v to a record; a record number that is not looked up meets none
abbrev pub record_met : List ℕ → ℕ → (Range → List ℕ) → ℕ → Option ℕ → List ℕ
record_met f v behind count (Some r) = chain_met f r (lower_records levels_below f r behind) (head_of_index v) 0 count
record_met f v behind count None = []

-- 13.2: "then the VVR", behind the lowest entry
abbrev pub values_behind : Range → List ℕ
values_behind e = e.link ∷ []

-- 13.12: "What the lowest entry names is not met"
abbrev pub none_behind : Range → List ℕ
none_behind e = []

abbrev pub record_way_met : List ℕ → ℕ → ℤ → ℕ → List ℕ
record_way_met f v r count = record_met f v values_behind count (record_number f v r)

abbrev pub levels_way_met : List ℕ → ℕ → ℤ → ℕ → List ℕ
levels_way_met f v r count = record_met f v none_behind count (record_number f v r)
