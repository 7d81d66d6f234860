-- The entries of an index, and the tree that they make: an entry names values or one lower index record. Section 8 of docs/RULES.md.
-- Assumes nothing.
use Rattle.std.specs.Prelude.{ℕ, zero, suc, ◌+◌, Bool, cond, List, [], ◌∷◌, ◌++◌}
use Rattle.format.specs.Fields.{nat_at, link_at}
use Rattle.records.specs.Index.{entries_at, used_at, first_field_at, last_field_at, offset_field_at, index_at}

-- entry number `entry` of the VXR at `vxr`
pub record Slot : Type 0 where
  pub vxr : ℕ
  pub entry : ℕ

-- n entries of the VXR at x, from entry i on
abbrev pub slots_from : ℕ → ℕ → ℕ → List Slot
slots_from x i zero = []
slots_from x i (suc n) = record { vxr = x; entry = i } ∷ slots_from x (i + 1) n

abbrev pub slots_of : List ℕ → ℕ → List Slot
slots_of f x = slots_from x 0 (used_at f x)

-- where an entry's First, Last and Offset stand, and what they say
abbrev pub first_at : Slot → ℕ
first_at s = first_field_at s.vxr s.entry

abbrev pub last_at : List ℕ → Slot → ℕ
last_at f s = last_field_at s.vxr (entries_at f s.vxr) s.entry

abbrev pub first_of : List ℕ → Slot → ℕ
first_of f s = nat_at f (first_at s)

abbrev pub last_of : List ℕ → Slot → ℕ
last_of f s = nat_at f (last_at f s)

abbrev pub named_by : List ℕ → Slot → ℕ
named_by f s = link_at f (offset_field_at s.vxr (entries_at f s.vxr) s.entry)

abbrev pub named_by_all : List ℕ → List Slot → List ℕ
named_by_all f [] = []
named_by_all f (s ∷ ss) = named_by f s ∷ named_by_all f ss

-- what each of xs gives, one after the other
abbrev pub flat : {X Y : Type 0} → (X → List Y) → List X → List Y
flat of [] = []
flat of (x ∷ xs) = of x ++ flat of xs

-- the used entries of a whole chain
abbrev pub used_entries : List ℕ → List ℕ → List Slot
used_entries f xs = flat (slots_of f) xs

-- ---- levels

-- 8.9: "Levels are carried to eight, top included": how many lie below the top chain
abbrev pub levels_below : ℕ
levels_below = 7

-- 8.9: "An index entry names values (7) or one lower index record (6)"
abbrev pub names_index : List ℕ → Slot → Bool
names_index f s = index_at f (named_by f s)

-- the used entries of the record that s names
abbrev pub lower_slots : List ℕ → Slot → List Slot
lower_slots f s = slots_of f (named_by f s)

-- THE LOWEST ENTRIES under s, in order, where n levels may lie below it: s itself, or those under the entries of the record that it names
abbrev pub lowest : List ℕ → ℕ → Slot → List Slot
lowest f zero s = s ∷ []
lowest f (suc n) s = cond (names_index f s) (flat (lowest f n) (lower_slots f s)) (s ∷ [])

-- the lowest entries of an index, in order; xs is its top chain
abbrev pub lowest_entries : List ℕ → List ℕ → List Slot
lowest_entries f xs = flat (lowest f levels_below) (used_entries f xs)

-- the entries of all levels from s on, each before those under it: "entries are taken before the naming entry's neighbour" (8.12)
abbrev pub entries_under : List ℕ → ℕ → Slot → List Slot
entries_under f zero s = s ∷ []
entries_under f (suc n) s = s ∷ cond (names_index f s) (flat (entries_under f n) (lower_slots f s)) []
