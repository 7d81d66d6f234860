-- The way through the index of a variable to the values of a record. Section 13 of docs/RULES.md. Assumes nothing.
use Rattle.std.specs.Prelude.{ℕ, zero, suc, ◌+◌, ◌-◌, ◌*◌, Bool, cond, ◌&&◌, List, leb, eqb, ℤ, pos, Option, Some, None, Result, Ok, Err}
use Rattle.std.specs.Int.Signed.{le_z}
use Rattle.format.specs.Fields.{field_at, at_least, link_at, nat_or, bit_at}
use Rattle.records.specs.Layout.{next_at, max_rec_at, head_of_index, var_flags_at, values_at}
use Rattle.records.specs.Index.{used_at, vxr_rule, index_at, no_limit, entry_of, entry_covers, vvr_rule}
use Rattle.records.specs.Tree.{levels_below}
use Rattle.records.specs.Index.{Entry}
use Rattle.records.specs.declared.index.Range.{Range}
use Rattle.lookup.specs.Lists.{lands_on}
use Rattle.lookup.specs.declared.refusals.Refusal.{Refusal}
use Rattle.lookup.specs.declared.refusals.Refusal.TheVariants.{Breach, NoNumber, Gap}
use Rattle.lookup.specs.declared.indexes.Scan.{Scan}
use Rattle.lookup.specs.declared.indexes.Scan.TheVariants.{Covering, Passed}
use Rattle.lookup.specs.declared.indexes.Covered.{Covered}

-- 4.8: "bit 0 record variance" of the VDR at v
abbrev pub record_varies : List ℕ → ℕ → Bool
record_varies f v = bit_at f (var_flags_at v) 1

-- 13.6: "A record number from 0 to MaxRec is looked up; with record variance clear any number from 0 reads record 0, and 16 is given if MaxRec
-- is -1"
unfoldable pub record_there : List ℕ → ℕ → ℤ → Bool
record_there f v r = le_z (pos 0) r && cond (record_varies f v) (le_z r (field_at f (max_rec_at v))) (at_least f (max_rec_at v) (pos 0))

unfoldable pub record_read : List ℕ → ℕ → ℤ → ℕ
record_read f v r = cond (record_varies f v) (nat_or 0 r) 0

-- the record number that is looked up, or none
unfoldable pub record_number : List ℕ → ℕ → ℤ → Option ℕ
record_number f v r = cond (record_there f v r) (Some (record_read f v r)) None

-- the range of an entry that keeps its rule, and what it names
abbrev pub range_of : Entry → Range
range_of e = record { first = e.first; last = e.last; link = e.link }

-- record r lies in a range
abbrev pub range_covers : Range → ℕ → Bool
range_covers e r = leb e.first r && leb r e.last

-- n used entries of the VXR x from entry i on, to the one that covers r; 13.7: "Index entries rise as in the check (8.8), offsets passed
-- over unjudged"; none ends above most
unfoldable pub scanned : List ℕ → ℕ → ℕ → ℕ → ℕ → ℕ → ℕ → Result Scan Refusal
scanned f x r most zero i floor = Ok (Passed floor)
scanned f x r most (suc n) i floor =
    let e = entry_of f x i floor most in
    cond (eqb e.fault 0) (cond (entry_covers e r) (Ok (Covering (range_of e))) (scanned f x r most n (suc i) (suc e.last))) (Err Breach)

-- the VXR at x can be met
unfoldable pub index_met : List ℕ → ℕ → Bool
index_met f x = lands_on f 6 x && eqb (vxr_rule f x) 0

-- where a way through an index ends: at the entry that covers the record, with how many more records may be met, or at a refusal
abbrev pub Index : Type 0
Index = Result Covered Refusal

-- at the entry e, with left more that may be met
abbrev pub covered_by : Range → ℕ → Index
covered_by e left = Ok (record { range = e; left = left })

-- what comes after the entries of a VXR: nothing, or the next VXR
abbrev pub after_scan : Result Scan Refusal → ℕ → (ℕ → Index) → Index
after_scan (Ok (Covering e)) left next = covered_by e left
after_scan (Ok (Passed floor)) left next = next floor
after_scan (Err v) left next = Err v

-- the link at p where no more records may be met
unfoldable pub last_index : List ℕ → ℕ → Refusal
last_index f p = cond (eqb (link_at f p) 0) Gap Breach

-- 13.2: "the index chain to the covering entry or its end": from the link at p; 17 at its end
unfoldable pub indexed : List ℕ → ℕ → ℕ → ℕ → ℕ → Index
indexed f r p floor zero = Err (last_index f p)
indexed f r p floor (suc left) =
    let x = link_at f p in
    cond (eqb x 0) (Err Gap)
    (cond (index_met f x) (after_scan (scanned f x r no_limit (used_at f x) 0 floor) left (λ upper. indexed f r (next_at x) upper left)) (Err Breach))

-- ---- 8.9: a lower record can be met; 8.10: "a lower record has next 0"
unfoldable pub lower_met : List ℕ → ℕ → Bool
lower_met f x = index_met f x && eqb (link_at f (next_at x)) 0

-- the used entries of the lower record that the entry e names, to the one that covers r: "ranges rise within the naming entry's" (8.11)
abbrev pub lower_scan : List ℕ → ℕ → Range → Result Scan Refusal
lower_scan f r e = scanned f e.link r e.last (used_at f e.link) 0 e.first

-- 13.9: "a lower record that ends without covering is 17"
abbrev pub after_lower : Result Scan Refusal → (Range → Index) → Index
after_lower (Ok (Covering d)) next = next d
after_lower (Ok (Passed floor)) next = Err Gap
after_lower (Err v) next = Err v

-- 13.9: "A lookup goes down level by level, each with one level fewer left": from the covering entry e to the lowest one, where left more
-- records may be met; 13.9: "A breach of 8.10 or 8.11, or a ninth level, is 20"
unfoldable pub lowered : ℕ → List ℕ → ℕ → Range → ℕ → Index
lowered zero f r e left = cond (index_at f e.link) (Err Breach) (covered_by e left)
lowered (suc n) f r e left =
    cond (index_at f e.link)
    (cond (leb 1 left && lower_met f e.link) (after_lower (lower_scan f r e) (λ d. lowered n f r d (left - 1))) (Err Breach))
    (covered_by e left)

abbrev pub lowest_of : List ℕ → ℕ → Index → Index
lowest_of f r (Ok c) = lowered levels_below f r c.range c.left
lowest_of f r (Err v) = Err v

-- 13.2: "then the VVR", one more record met
unfoldable pub values_met : List ℕ → Range → ℕ → ℕ → Bool
values_met f e bytes left = leb 1 left && (lands_on f 7 e.link && eqb (vvr_rule f e.link (e.last - e.first + 1) bytes) 0)

-- the offset of record r in the values that an entry names: "VVR + 8 + (record - First) × record bytes" (14.7)
abbrev pub record_at : Range → ℕ → ℕ → ℕ
record_at e r bytes = values_at e.link + (r - e.first) * bytes

-- the values of record r that an entry names
abbrev pub values_named : List ℕ → ℕ → ℕ → Range → ℕ → Result ℕ Refusal
values_named f r bytes e left = cond (values_met f e bytes left) (Ok (record_at e r bytes)) (Err Breach)

-- and those where its index ends
abbrev pub values_of : List ℕ → ℕ → ℕ → Index → Result ℕ Refusal
values_of f r bytes (Ok c) = values_named f r bytes c.range c.left
values_of f r bytes (Err v) = Err v

-- the values by record number
abbrev pub values_by : List ℕ → ℕ → ℕ → ℕ → Option ℕ → Result ℕ Refusal
values_by f v bytes left (Some r) = values_of f r bytes (lowest_of f r (indexed f r (head_of_index v) 0 left))
values_by f v bytes left None = Err NoNumber

-- THE WAY TO A RECORD of the variable whose VDR is at v, where left more records may be met
unfoldable pub record_way : List ℕ → ℕ → ℕ → ℤ → ℕ → Result ℕ Refusal
record_way f v bytes r left = values_by f v bytes left (record_number f v r)

-- ---- the levels of an index on the way to r, from the covering entry e down to the lowest one, where at most n lie below e's. One where
-- e names no lower record, whatever else it names; else one more than from the entry that covers r there
abbrev pub levels_there : Result Scan Refusal → (Range → ℕ) → ℕ
levels_there (Ok (Covering d)) from = from d
levels_there (Ok (Passed floor)) from = 0
levels_there (Err v) from = 0

-- 13.12: "1 where an entry of the top chain names its values, and one more with each lower record"
unfoldable pub levels_from : ℕ → List ℕ → ℕ → Range → ℕ
levels_from zero f r e = 1
levels_from (suc n) f r e = cond (index_at f e.link) (1 + levels_there (lower_scan f r e) (λ d. levels_from n f r d)) 1

-- they are told where the way down from e, the entry of the top chain, comes to a lowest entry; what that names is not met
abbrev pub levels_told : List ℕ → ℕ → Range → Index → Result ℕ Refusal
levels_told f r e (Ok d) = Ok (levels_from levels_below f r e)
levels_told f r e (Err v) = Err v

abbrev pub levels_of : List ℕ → ℕ → Index → Result ℕ Refusal
levels_of f r (Ok c) = levels_told f r c.range (lowered levels_below f r c.range c.left)
levels_of f r (Err v) = Err v

abbrev pub levels_by : List ℕ → ℕ → ℕ → Option ℕ → Result ℕ Refusal
levels_by f v left (Some r) = levels_of f r (indexed f r (head_of_index v) 0 left)
levels_by f v left None = Err NoNumber

-- HOW MANY LEVELS the index of the variable whose VDR is at v has on the way to a record, where left more records may be met
unfoldable pub levels_way : List ℕ → ℕ → ℤ → ℕ → Result ℕ Refusal
levels_way f v r left = levels_by f v left (record_number f v r)
