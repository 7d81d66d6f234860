-- Index records, their entries, and value records; lower index records. Sections 4, 5 and 8 of docs/RULES.md. Assumes nothing.
use Rattle.std.specs.Prelude.{ℕ, ◌+◌, ◌*◌, Bool, cond, ◌&&◌, List, ltb, leb, eqb, pos, Result, Ok, Err}
use Rattle.format.specs.Fields.{end_of, at_least, in_order, nat_at, link_at}
use Rattle.records.specs.Layout.{vxr_entries_at, vxr_used_at, firsts_at}
use Rattle.records.specs.Rules.{size_at, typed_at, judged}
use Rattle.records.specs.declared.breaches.Breach.{Breach}
use Rattle.records.specs.declared.index.Range.{Range}
use Rattle.records.specs.Breaches.{number_of}

-- 5.16: "Used is 0 to entries, size is 20 + 12 × entries"; 8.20: "A negative number of entries .. counts as 0"
abbrev pub entries_at : List ℕ → ℕ → ℕ
entries_at f x = nat_at f (vxr_entries_at x)

abbrev pub used_at : List ℕ → ℕ → ℕ
used_at f x = nat_at f (vxr_used_at x)

unfoldable pub vxr_right : List ℕ → ℕ → Bool
vxr_right f x = at_least f (vxr_used_at x) (pos 0) && in_order f (vxr_used_at x) (vxr_entries_at x) && eqb (size_at f x) (20 + 12 * entries_at f x)

unfoldable pub vxr_rule : List ℕ → ℕ → ℕ
vxr_rule f x = judged f x 20 (vxr_right f x)

-- 4.10: "Firsts 20 .. Lasts behind the Firsts .. Offsets behind the Lasts": where those of entry i of n stand
abbrev pub first_field_at : ℕ → ℕ → ℕ
first_field_at x i = firsts_at x + 4 * i

abbrev pub last_field_at : ℕ → ℕ → ℕ → ℕ
last_field_at x n i = first_field_at x i + 4 * n

abbrev pub offset_field_at : ℕ → ℕ → ℕ → ℕ
offset_field_at x n i = last_field_at x n i + 4 * n

-- size and type at o lie before the file's end, and the type is an index record's
abbrev pub index_at : List ℕ → ℕ → Bool
index_at f o = leb (o + 8) (end_of f) && typed_at f o (pos 6)

-- 8.8: "First at least 0, above the previous Last in the whole chain"; floor is the previous Last + 1, or 0, or the naming entry's First
unfoldable pub rises : List ℕ → ℕ → ℕ → Bool
rises f first floor = at_least f first (pos 0) && leb floor (nat_at f first)

-- 8.8: "Last at least First", and at most the naming entry's Last: "ranges rise within the naming entry's" (8.11)
unfoldable pub closes : List ℕ → ℕ → ℕ → ℕ → Bool
closes f first last most = in_order f first last && leb (nat_at f last) most

-- the entries of the top chain have no such limit: no Last is greater
abbrev pub no_limit : ℕ
no_limit = 2147483647

-- the range and the Offset of an entry whose First stands before the file's end: 12 unless it rises; 20 if Last passes the end; 12 unless
-- it closes; 20 if Offset passes the end; 8.16: "of an entry First, Last and Offset, each after the test of the one before"
unfoldable pub range_number : List ℕ → ℕ → ℕ → ℕ → ℕ → ℕ → ℕ
range_number f first last offset floor most =
    cond (rises f first floor)
    (cond (ltb (end_of f) (last + 4)) 20 (cond (closes f first last most) (cond (ltb (end_of f) (offset + 4)) 20 0) 12))
    12

-- an index entry: the number of its rule, and where that is 0 its range and what it names
pub record Entry : Type 0 where
  pub fault : ℕ
  pub first : ℕ
  pub last : ℕ
  pub link : ℕ

-- record r lies in an entry's range
abbrev pub entry_covers : Entry → ℕ → Bool
entry_covers e r = leb e.first r && leb r e.last

abbrev pub entry_fault : ℕ → Entry
entry_fault v = record { fault = v; first = 0; last = 0; link = 0 }

-- what a range, or the breach in its place, says of an entry
abbrev pub entry_told : Result Range Breach → Entry
entry_told (Ok r) = record { fault = 0; first = r.first; last = r.last; link = r.link }
entry_told (Err b) = entry_fault (number_of b)

-- its range and what it names, or the number that refuses it
abbrev pub entry_by : List ℕ → ℕ → ℕ → ℕ → ℕ → Entry
entry_by f first last offset number =
    cond (eqb number 0) (record { fault = 0; first = nat_at f first; last = nat_at f last; link = link_at f offset }) (entry_fault number)

-- entry i of the n of the VXR at x: first 20 if its First passes the file's end
abbrev pub entry_among : List ℕ → ℕ → ℕ → ℕ → ℕ → ℕ → Entry
entry_among f x n i floor most =
    let first = first_field_at x i in
    let last = last_field_at x n i in
    let offset = offset_field_at x n i in
    cond (ltb (end_of f) (first + 4)) (entry_fault 20) (entry_by f first last offset (range_number f first last offset floor most))

unfoldable pub entry_of : List ℕ → ℕ → ℕ → ℕ → ℕ → Entry
entry_of f x i floor most = entry_among f x (entries_at f x) i floor most

-- 5.17: "Size is 8 + (Last - First + 1) × record bytes": of n records of the given bytes each
unfoldable pub vvr_rule : List ℕ → ℕ → ℕ → ℕ → ℕ
vvr_rule f o n bytes = judged f o 8 (eqb (size_at f o) (8 + n * bytes))
