-- In an accepted file the lowest entries of an index are all there: no breach ends them. Assumes nothing.
use mathlib.Core.Path.{◌≡◌, refl, sym, ◌∙◌, subst}
use mathlib.Core.Logic.{inl, inr}
use mathlib.Core.Bool.{Bool, true, false, cond}
use mathlib.Core.List.{List, [], ◌∷◌}
use Prim.Native.Nat.{ℕ, zero, suc, ◌+◌, ◌≤◌}
use native.Mathlib.Numerals.{add-one}
use native.Mathlib.Omega.{arith}
use lib.Dec.{leb}
use lib.IntN.{pos}
use lib.ListN.{length}
use borrow.Author.Tests.{ne_eqb, eq-eqb}
use Rattle.format.specs.Fields.{end_of}
use Rattle.format.proofs.Tests.{both}
use Rattle.records.specs.Layout.{next_at, head_of_index}
use Rattle.records.specs.Rules.{typed_at}
use Rattle.records.specs.Opening.{body_of}
use Rattle.records.specs.Index.{vxr_rule}
use Rattle.records.specs.Tree.{Slot, slots_of, used_entries, first_of, last_of, named_by, named_by_all, levels_below, flat, lower_slots, lowest, lowest_entries, entries_under}
use Rattle.records.proofs.Ranges.{entry_is_lem}
use Rattle.variables.proofs.Rule.{VdrParts}
use Rattle.walk.specs.Levels.{most_of}
use Rattle.lookup.specs.Lists.{head_of_list}
use Rattle.lookup.specs.Indexes.{index_met}
use Rattle.lookup.specs.Entries.{wholly, under_each, lowest_under, chain_upto, lowest_upto}
use Rattle.lookup.proofs.Kept.{lies_lands}
use Rattle.demands.specs.Acceptance.{◌∈◌, ListedVdr, Lists, index_offsets}
use Rattle.demands.proofs.Records.{Stands, type_reads}
use Rattle.demands.proofs.Lists.{Listed}
use Rattle.demands.proofs.Levels.{levels_of as levels_above, most_named, most_top}
use Rattle.demands.proofs.Nested.{Carried, carried, EntryGood, after_entry, RowGood, chain_rules}
use Rattle.demands.proofs.Splits.{offset_in}
use Rattle.demands.proofs.IndexFacts.{used_named, under_lower, after_floor, ranged_of}
use Rattle.demands.proofs.NestedDemand.{NestedAccepted}
use Rattle.demands.proofs.Demand2.{lists_of, makes, lists_kept}
use Rattle.read_theorems.specs.Answering.{ListedIn, IndexesWhole}
use Rattle.read_theorems.proofs.Indexes.{stands_lies, lower_met_lem, rows}
use Rattle.read_theorems.proofs.Ways.{Indexed, listed_indexed}
use Rattle.read_theorems.proofs.Accepted.{vars_of, vars_kept}
use Rattle.read_theorems.proofs.AnsweringWays.{laid}

module _ (f : List ℕ) (k v : ℕ) where
  -- ---- a row of entries that keep the rules, and what lies under each
  row_whole : (n : ℕ) (above ss : List Slot) (c : Carried) → RowGood f k v n above c ss
      → ((s : Slot) → s ∈ ss → (d : Carried) → EntryGood f k v n above d s → lowest_under f n s ≡ wholly (lowest f n s))
      → under_each f (lowest_under f n) (most_of (levels_above f above).a) c.floor ss ≡ wholly (flat (lowest f n) ss)
  unfolding under_each
  row_whole n above [] c g h = refl
  row_whole n above (s ∷ ss) c g h =
      let floor : (after_entry f k v n c s).floor ≡ suc (last_of f s) = after_floor f k v n c s ∙ add-one (last_of f s) in
      let rest = row_whole n above ss (after_entry f k v n c s) g.1 (λ t m. h t (inr m)) in
      rw (
        entry_is_lem f s.vxr s.entry c.floor (most_of (levels_above f above).a) (ranged_of f k v n above c s g.0),
        h s (inl refl) c g.0,
        sym floor,
        rest,
      )

  -- ---- under an entry
  under_whole : (n : ℕ) (above : List Slot) (c : Carried) (s : Slot) → EntryGood f k v n above c s
      → ((t : Slot) → t ∈ entries_under f n s → Stands f (named_by f t)) → lowest_under f n s ≡ wholly (lowest f n s)
  unfolding lowest_under
  under_whole zero above c s g ok = rw g.0
  under_whole (suc n) above c s (inl g) ok = rw g.0
  under_whole (suc n) above c s (inr g) ok =
      let typed = (both (leb (named_by f s + 8) (end_of f)) (typed_at f (named_by f s) (pos 6)) g.0).1 in
      rw (g.0, lower_met_lem f 0 k v (named_by f s) (ok s (inl refl)) typed g.1.lower)
      (subst (λ (m : ℕ). under_each f (lowest_under f n) m (first_of f s) (lower_slots f s) ≡ wholly (flat (lowest f n) (lower_slots f s))) (most_named f s)
      (row_whole n (s ∷ above) (lower_slots f s) (carried (first_of f s) c.covered) g.2
      (λ t m d e. under_whole n (s ∷ above) d t e (λ u i. ok u (under_lower f n s t u g.0 m i)))))

  -- ---- the top chain
  chain_whole : (xs bs : List ℕ) (p left : ℕ) → Listed f (chain_rules f k v) bs p xs → ((o : ℕ) → o ∈ xs → Stands f o) → length xs ≤ left
      → chain_upto f p left ≡ wholly (used_entries f xs)
  unfolding chain_upto index_met
  chain_whole [] bs p zero l h n = rw l.1
  chain_whole [] bs p (suc left) l h n = rw l.1
  chain_whole (x ∷ xs) bs p zero l h n = absurd (omega arith)
  chain_whole (x ∷ xs) bs p (suc left) l h n =
      rw (
        l.1,
        ne_eqb x 0 l.2,
        lies_lands f 6 x (stands_lies f 6 x (h x (inl refl)) (type_reads f x (pos 6) l.3.0).1),
        eq-eqb (vxr_rule f x) 0 l.3.1,
        chain_whole xs (x ∷ bs) (next_at x) left l.5 (λ o m. h o (inr m)) (omega arith),
      )

  -- ---- all of an index
  index_whole : (xs : List ℕ) → VdrParts f k v → Listed f (chain_rules f k v) [] (head_of_index v) xs → ((o : ℕ) → o ∈ index_offsets f xs → Stands f o)
      → (left : ℕ) → length xs ≤ left → lowest_upto f v left ≡ wholly (lowest_entries f xs)
  unfolding lowest_upto
  index_whole xs parts listed stands left h =
      rw (
        chain_whole xs [] (head_of_index v) left listed
            (λ o m. stands o (offset_in (λ x. x) (λ x. named_by_all f (flat (entries_under f levels_below) (slots_of f x))) xs o m)) h,
        subst (λ (m : ℕ). under_each f (lowest_under f levels_below) m 0 (used_entries f xs) ≡ wholly (lowest_entries f xs)) most_top
            (row_whole levels_below [] (used_entries f xs) (carried 0 false) (rows f k v xs parts listed stands (pos 0))
            (λ s m d e. under_whole levels_below [] d s e (λ t i. stands (named_by f t) (used_named f xs s t m i)))),
      )

-- ---- of the lists of a file
lists_whole : (f : List ℕ) (n : NestedAccepted f) (starts : List ℕ) (d : ListedVdr) → ListedIn (laid f n starts) d → (left : ℕ) → length d.vxrs ≤ left
    → lowest_upto (body_of f) d.vdr left ≡ wholly (lowest_entries (body_of f) d.vxrs)
lists_whole f n starts d i left h = go i
  where
    one : (b : Bool) → Indexed (body_of f) (cond b 3 8) d → lowest_upto (body_of f) d.vdr left ≡ wholly (lowest_entries (body_of f) d.vxrs)
    one b x = index_whole (body_of f) (cond b 3 8) d.vdr d.vxrs x.parts x.index x.stands left h

    go : ListedIn (laid f n starts) d → lowest_upto (body_of f) d.vdr left ≡ wholly (lowest_entries (body_of f) d.vxrs)
    go (inl m) = one true (listed_indexed (body_of f) true (head_of_list (body_of f) 3) (vars_of f n true) (vars_kept f n true).0 (vars_kept f n true).1 d m)
    go (inr m) = one false (listed_indexed (body_of f) false (head_of_list (body_of f) 8) (vars_of f n false) (vars_kept f n false).0 (vars_kept f n false).1 d m)

-- THE THEOREM
pub indexes_whole : IndexesWhole
unfolding lists_of
indexes_whole f a =
    subst
    (λ (l : Lists). (d : ListedVdr) → ListedIn l d → (left : ℕ) → length d.vxrs ≤ left → lowest_upto (body_of f) d.vdr left ≡ wholly (lowest_entries (body_of f) d.vxrs))
    (lists_kept f a) (lists_whole f (makes f a) a.lists.starts)
