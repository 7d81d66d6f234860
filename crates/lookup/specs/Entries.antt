-- The lowest entries of an index in order, in any file, and what a lookup is among them. Sections 8 and 13 of docs/RULES.md. Assumes
-- nothing.
use Rattle.std.specs.Prelude.{◌≡◌, ℕ, zero, suc, ◌+◌, ◌≤◌, Bool, true, false, cond, ◌&&◌, List, [], ◌∷◌, ◌++◌, eqb, Err}
use Rattle.format.specs.Fields.{link_at}
use Rattle.records.specs.Layout.{next_at, head_of_index}
use Rattle.records.specs.Index.{no_limit, entry_of}
use Rattle.records.specs.Tree.{Slot, slots_of, first_of, last_of, named_by, levels_below, names_index, lower_slots}
use Rattle.records.specs.declared.index.Range.{Range}
use Rattle.lookup.specs.Indexes.{Index, covered_by, range_covers, index_met, indexed, lower_met, lowest_of}
use Rattle.lookup.specs.declared.refusals.Refusal.TheVariants.{Gap}

-- each of a list has Q
abbrev pub All : {X : Type 0} → (X → Type 0) → List X → Type 0
All Q [] = Unit {0}
All Q (x ∷ xs) = Q x × All Q xs

-- 4.3: "A record of a list has the link to the next one at 8": the first n records of the list whose head link stands at p
abbrev pub records : List ℕ → ℕ → ℕ → List ℕ
records f p zero = []
records f p (suc n) = link_at f p ∷ records f (next_at (link_at f p)) n

-- 4.10: "the ranges First to Last of record numbers, each with the Offset of what has their values": what an entry that keeps its rule says
abbrev pub slot_entry : List ℕ → Slot → Range
slot_entry f s = record { first = first_of f s; last = last_of f s; link = named_by f s }

-- ---- THE LOWEST ENTRIES, up to a breach

-- entries in order, and whether they are all: false where a breach ends them; 13.4: "Any breach is 20"
pub record Upto : Type 0 where
  pub slots : List Slot
  pub whole : Bool

abbrev pub wholly : List Slot → Upto
wholly ss = record { slots = ss; whole = true }

abbrev pub breach : Upto
breach = record { slots = []; whole = false }

-- those of a, and behind them those of b, if a has no breach
abbrev pub joined : Upto → Upto → Upto
joined a b = record { slots = a.slots ++ cond a.whole b.slots []; whole = a.whole && b.whole }

-- what `under` gives of each of ss, one after the other: to the first whose range does not rise, from floor on, or ends above most. 13.7:
-- "Index entries rise as in the check (8.8)"
unfoldable pub under_each : List ℕ → (Slot → Upto) → ℕ → ℕ → List Slot → Upto
under_each f under most floor [] = wholly []
under_each f under most floor (s ∷ ss) =
    cond (eqb (entry_of f s.vxr s.entry floor most).fault 0) (joined (under s) (under_each f under most (suc (last_of f s)) ss)) breach

-- under the entry s, where n levels may lie below it: s itself, or what lies under the entries of the lower record that it names. 13.9: "A
-- breach of 8.10 or 8.11, or a ninth level"
unfoldable pub lowest_under : List ℕ → ℕ → Slot → Upto
lowest_under f zero s = cond (names_index f s) breach (wholly (s ∷ []))
lowest_under f (suc n) s =
    cond (names_index f s)
    (cond (lower_met f (named_by f s)) (under_each f (lowest_under f n) (last_of f s) (first_of f s) (lower_slots f s)) breach)
    (wholly (s ∷ []))

-- the used entries of the chain from the link at p, to a VXR that cannot be met; 13.3: "a link that is not zero where none more may be
-- met", after left VXRs
unfoldable pub chain_upto : List ℕ → ℕ → ℕ → Upto
chain_upto f p zero = cond (eqb (link_at f p) 0) (wholly []) breach
chain_upto f p (suc left) =
    let x = link_at f p in
    cond (eqb x 0) (wholly []) (cond (index_met f x) (joined (wholly (slots_of f x)) (chain_upto f (next_at x) left)) breach)

-- the lowest entries of the index of the VDR at v, where left VXRs of its chain may be met
unfoldable pub lowest_upto : List ℕ → ℕ → ℕ → Upto
lowest_upto f v left =
    let chain = chain_upto f (head_of_index v) left in
    let under = under_each f (lowest_under f levels_below) no_limit 0 chain.slots in
    record { slots = under.slots; whole = under.whole && chain.whole }

-- ---- THE LOOKUP AMONG THEM

-- what the lookup of record r comes to, by the entries u of its index: to any of them that covers r, so to the first, with at least `more`
-- records that may still be met; to 17 where none covers r and u has no breach
pub record FirstThatCovers (f : List ℕ) (r more : ℕ) (u : Upto) (lookup : Index) : Type 0 where
  -- 13.7: "The index entry whose First..Last covers it is used"
  pub covered : All (λ s. range_covers (slot_entry f s) r ≡ true → (rest : ℕ) × (more ≤ rest) × (lookup ≡ covered_by (slot_entry f s) rest)) u.slots
  -- 13.7: "17 exactly if no used entry does"; 13.9: "A lower record that ends without covering is 17"
  pub gap : u.whole ≡ true → All (λ s. range_covers (slot_entry f s) r ≡ false) u.slots → lookup ≡ Err Gap

-- in every file: where left VXRs of the chain may be met, and seven records more, one for each lower level
abbrev pub LookupIsFirst : Type 0
LookupIsFirst = (f : List ℕ) (v r left more : ℕ)
    → FirstThatCovers f r more (lowest_upto f v left) (lowest_of f r (indexed f r (head_of_index v) 0 (left + levels_below + more)))
