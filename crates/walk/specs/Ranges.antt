-- THE NUMBERS of a position of the walk and of a level, each with its range: docs/STATE.md has them in words. Assumes nothing.
use Rattle.std.specs.Prelude.{ℕ, Bool, true, false, ◌&&◌, ◌||◌, List, [], ◌∷◌, leb, eqb}
use Rattle.walk.specs.declared.positions.Level.{Level}
use Rattle.walk.specs.declared.positions.Walk as W
use Rattle.walk.specs.declared.positions.Walk.TheVariants.{Start, Vars, Chain, Entry, Attrs, Entries, Unused}

-- a number and the greatest that it may be; a number and the two that it may be; one without a meaning: "All others are exactly 0" (10.3)
pub data Range : Type 0 where
  up_to : ℕ → ℕ → Range
  one_of : ℕ → ℕ → ℕ → Range
  absent : Range

-- 10.4: "offsets, places and an entry's number up to 2,147,483,647; where a link stands up to 2,147,483,711; counts and numbers + 1 up to
-- 2,147,483,648"
abbrev pub offset : ℕ → Range
offset o = up_to o 2147483647

abbrev pub link : ℕ → Range
link p = up_to p 2147483711

abbrev pub count : ℕ → Range
count n = up_to n 2147483648

-- kinds are record types
abbrev pub var_kind : ℕ → Range
var_kind k = one_of k 3 8

abbrev pub entry_kind : ℕ → Range
entry_kind k = one_of k 5 9

-- 10.2: "kind, link, count, greatest, owner, before, entry, floor, covered"; covered is false where it has no meaning
pub record Row : Type 0 where
  pub phase : ℕ
  pub kind : Range
  pub link : Range
  pub count : Range
  pub greatest : Range
  pub owner : Range
  pub before : Range
  pub entry : Range
  pub floor : Range
  pub covered : Bool

abbrev pub row : ℕ → Range → Range → Range → Range → Range → Range → Range → Range → Bool → Row
row phase kind link count greatest owner before entry floor covered = record {
  phase = phase;
  kind = kind;
  link = link;
  count = count;
  greatest = greatest;
  owner = owner;
  before = before;
  entry = entry;
  floor = floor;
  covered = covered;
}

-- 10.3: "The phases, and the numbers that have a meaning there", in the order of 10.2
abbrev pub row_of : W.Walk → Row
row_of Start = row 2 absent absent absent absent absent absent absent absent false
row_of (Vars k p n g) = row 3 (var_kind k) (link p) (count n) (count g) absent absent absent absent false
row_of (Chain u p x floor c) =
    row 4 (var_kind u.kind) (link p) (offset u.place) (count u.greatest) (offset u.vdr) (offset x) absent (count floor) c
row_of (Entry u x i floor c) =
    row 5 (var_kind u.kind) absent (offset u.place) (count u.greatest) (offset u.vdr) (offset x) (offset i) (count floor) c
row_of (Attrs p n) = row 6 absent (link p) (count n) absent absent absent absent absent false
row_of (Entries k a n p e g) = row 7 (entry_kind k) (link p) (offset n) absent (offset a) absent (count e) (count g) false
row_of (Unused p b) = row 8 absent (link p) absent absent absent (offset b) absent absent false

abbrev pub ranges_of : Row → List Range
ranges_of r = r.kind ∷ r.link ∷ r.count ∷ r.greatest ∷ r.owner ∷ r.before ∷ r.entry ∷ r.floor ∷ []

-- of a level the record, the entry + 1 and the Last
abbrev pub level_ranges : Level → List Range
level_ranges l = offset l.vxr ∷ count l.next ∷ offset l.last ∷ []

-- the number that is saved
abbrev pub number_of : Range → ℕ
number_of (up_to n most) = n
number_of (one_of n a b) = n
number_of absent = 0

abbrev pub in_range : Range → Bool
in_range (up_to n most) = leb n most
in_range (one_of n a b) = eqb n a || eqb n b
in_range absent = true

-- each number is in its range
abbrev pub all_in : List Range → Bool
all_in [] = true
all_in (r ∷ rs) = in_range r && all_in rs
