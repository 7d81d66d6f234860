-- The way through an index that keeps the rules of acceptance: to the one lowest entry that covers a record, or to 17. Assumes nothing.
use mathlib.Core.Path.{◌≡◌, refl, sym, ◌∙◌, subst}
use mathlib.Core.Logic.{◌⊎◌, inl, inr}
use mathlib.Core.Bool.{Bool, true, false, cond, ◌&&◌}
use mathlib.Core.List.{List, [], ◌∷◌, ◌++◌}
use Prim.Native.Nat.{ℕ, zero, suc, ◌+◌, ◌-◌, ◌≤◌}
use native.Mathlib.Numerals.{add-one}
use native.Mathlib.Omega.{arith}
use lib.Dec.{leb}
use lib.IntN.{ℤ, pos}
use lib.ListN.{length, length-append}
use borrow.Author.Tests.{le-leb, ne_eqb, eq-eqb}
use Rattle.format.specs.Fields.{end_of, is_at, link_at}
use Rattle.records.specs.Layout.{head_of_index, next_at}
use Rattle.records.specs.Rules.{typed_at}
use Rattle.records.specs.Index.{used_at, vxr_rule, no_limit, vvr_rule}
use Rattle.records.specs.Tree.{Slot, slots_from, slots_of, used_entries, first_at, last_at, first_of, last_of, named_by, named_by_all, levels_below, flat, lower_slots, lowest, lowest_entries, entries_under}
use Rattle.records.specs.declared.index.Range.{Range}
use Rattle.records.proofs.Ranges.{order_natural, entry_is_lem}
use Rattle.variables.specs.Vdr.{variable_of}
use Rattle.walk.specs.Walk.{type_number, values_number, lower_number}
use Rattle.walk.specs.Levels.{most_of}
use Rattle.lookup.specs.Indexes.{Index, scanned, index_met, after_scan, last_index, indexed, lower_met, lower_scan, after_lower, lowered, lowest_of, values_met, values_of, values_by, record_there, record_read, record_number, record_way, levels_told, levels_of, levels_by, levels_way}
use Rattle.lookup.specs.declared.refusals.Refusal.{Refusal}
use Rattle.lookup.specs.declared.refusals.Refusal.TheVariants.{NoNumber, Gap}
use Rattle.lookup.specs.declared.indexes.Scan.{Scan}
use Rattle.lookup.specs.declared.indexes.Scan.TheVariants.{Covering, Passed}
use Rattle.demands.specs.Acceptance.{◌∈◌, index_offsets, EntryRight}
use Rattle.read_theorems.specs.Reading.{CoveredBy}
use Rattle.format.proofs.Tests.{both}
use Rattle.format.specs.Numbers.{unless}
use Rattle.format.proofs.Numbers.{zeros}
use Rattle.lookup.proofs.Kept.{Lies, lies_lands}
use Rattle.variables.proofs.Rule.{VdrParts}
use Rattle.demands.proofs.Records.{Stands, stands_begins, type_reads, values_read}
use Rattle.demands.proofs.Lists.{Listed}
use Rattle.demands.proofs.Levels.{levels_of as levels_above, most_named, most_top}
use Rattle.lookup.specs.Entries.{slot_entry}
use Rattle.demands.proofs.Nested.{entry_is, Carried, carried, EntryGood, after_entry, RowGood, after_row, chain_carried, chain_rules}
use Rattle.demands.proofs.Splits.{in_left, in_right, in_either, each_in, each_along, listed_reads, offset_in}
use Rattle.demands.proofs.IndexFacts.{along_rows, row_each, used_named, under_lower, other_type, after_floor, ranged_of, lower_parts, entry_right}
use Rattle.demands.proofs.Lowest.{Rises, covered_once}
use Rattle.read_theorems.proofs.Down.{in_flat, out_flat, only, lowest_under, covers_is, covers_not}
use Rattle.std.specs.Prelude.{Some, None, Result, Ok, Err, IfErr}

pub stands_lies : (f : List ℕ) (t o : ℕ) → Stands f o → typed_at f o (pos t) ≡ true → Lies f t o
stands_lies f t o s e = record { placed = s.placed; begins = stands_begins f o s; typed = e; inside = s.inside }

length_flat : {X Y : Type 0} (of : X → List Y) (xs : List X) (x : X) → x ∈ xs → length (of x) ≤ length (flat of xs)
length_flat of [] x m = absurd m
length_flat {X} of (y ∷ xs) x (inl e) = rw e (omega (arith, length-append (of y) (flat of xs)))
length_flat of (y ∷ xs) x (inr m) = omega (arith, length_flat of xs x m, length-append (of y) (flat of xs))

flat_join_length : {X Y : Type 0} (of : X → List Y) (xs ys : List X) → length (flat of (xs ++ ys)) ≡ length (flat of xs) + length (flat of ys)
flat_join_length of [] ys = omega arith
flat_join_length of (x ∷ xs) ys =
    omega (arith, flat_join_length of xs ys, length-append (of x) (flat of (xs ++ ys)), length-append (of x) (flat of xs))

module _ (f : List ℕ) (r : ℕ) where
  -- the entry e is that of one of the slots, and covers r
  pub record CoveringIn (ss : List Slot) (e : Range) : Type 0 where
    pub slot : Slot
    pub member : slot ∈ ss
    pub is : e ≡ slot_entry f slot
    pub covered : CoveredBy f r slot

  -- no slot covers r
  abbrev pub Free : List Slot → Type 0
  Free ss = (s : Slot) → s ∈ ss → CoveredBy f r s → ⊥

  none_first : (s : Slot) (ss : List Slot) → (CoveredBy f r s → ⊥) → Free ss → Free (s ∷ ss)
  none_first s ss h n t (inl e) c = h (subst (CoveredBy f r) e c)
  none_first s ss h n t (inr m) c = n t m c

  none_join : (ss ts : List Slot) → Free ss → Free ts → Free (ss ++ ts)
  none_join ss ts a b s m c = go (in_either ss ts s m)
    where
      go : (s ∈ ss) ⊎ (s ∈ ts) → ⊥
      go (inl i) = a s i c
      go (inr i) = b s i c

  module _ (k v : ℕ) where
    -- ---- the entries of a VXR below which n levels may lie
    abbrev ScanOn : ℕ → Carried → List Slot → Result Scan Refusal → Type 0
    ScanOn n c ss (Ok (Covering e)) = CoveringIn ss e
    ScanOn n c ss (Ok (Passed l)) = (l ≡ (after_row f k v n c ss).floor) × Free ss
    ScanOn n c ss (Err m) = ⊥

    module _ (n : ℕ) (above : List Slot) where
      abbrev most : ℕ
      most = most_of (levels_above f above).a

      scan_row : (x m i : ℕ) (c : Carried) → RowGood f k v n above c (slots_from x i m) → ScanOn n c (slots_from x i m) (scanned f x r most m i c.floor)
      unfolding scanned
      scan_row x zero i c g = (refl, λ s m c. absurd m)
      scan_row x (suc m) i c g =
          rw (entry_is_lem f x i c.floor most (ranged_of f k v n above c here g.0))
          (go (leb (first_of f here) r && leb r (last_of f here)) refl (scanned f x r most m (suc i) (suc (last_of f here)))
          (subst (λ (j : ℕ). ScanOn n next (slots_from x (i + 1) m) (scanned f x r most m j (suc (last_of f here)))) (add-one i)
          (subst (λ (l : ℕ). ScanOn n next (slots_from x (i + 1) m) (scanned f x r most m (i + 1) l)) (after_floor f k v n c here ∙ add-one (last_of f here))
          (scan_row x m (i + 1) next g.1))))
        where
          here : Slot
          here = record { vxr = x; entry = i }

          next : Carried
          next = after_entry f k v n c (record { vxr = x; entry = i })

          go : (b : Bool) → (leb (first_of f here) r && leb r (last_of f here)) ≡ b → (s : Result Scan Refusal) → ScanOn n next (slots_from x (i + 1) m) s
              → ScanOn n c (here ∷ slots_from x (i + 1) m) (cond b (Ok (Covering (slot_entry f here))) s)
          go true e s a = record { slot = here; member = inl refl; is = refl; covered = covers_is f r here e }
          go false e (Ok (Covering y)) a = record { slot = a.slot; member = inr a.member; is = a.is; covered = a.covered }
          go false e (Ok (Passed l)) a = (a.0, none_first here (slots_from x (i + 1) m) (covers_not f r here e) a.1)
          go false e (Err m) a = a

      -- their ranges rise, so no two cover r
      row_rises : (ss : List Slot) (c : Carried) → RowGood f k v n above c ss → Rises f c.floor ss
      row_rises [] c g = tt
      row_rises (s ∷ ss) c g =
          let p = ranged_of f k v n above c s g.0 in
          let rest = subst (λ (l : ℕ). Rises f l ss) (after_floor f k v n c s) (row_rises ss (after_entry f k v n c s) g.1) in
          (p.above, order_natural f (first_at s) (last_at f s) p.order, rest)

      row_once : (ss : List Slot) (c : Carried) → RowGood f k v n above c ss → (s t : Slot) → s ∈ ss → t ∈ ss → CoveredBy f r s → CoveredBy f r t → s ≡ t
      row_once ss c g s t i j a b = covered_once f ss c.floor r s t (row_rises ss c g) i j a.first a.last b.first b.last

    -- ---- down from an entry: where it ends
    abbrev LowestOn : List Slot → Index → Type 0
    LowestOn ls (Ok e) = CoveringIn ls e.range × (1 ≤ e.left)
    LowestOn ls (Err m) = (m ≡ Gap) × Free ls

    -- where one under an entry that keeps its rule covers r, so does the entry
    in_range_lem : (n : ℕ) (s t : Slot) → EntryRight f k v n s → t ∈ entries_under f n s → CoveredBy f r t → CoveredBy f r s
    in_range_lem zero s t e m c = subst (CoveredBy f r) (only s t m) c
    in_range_lem (suc n) s t e (inl q) c = subst (CoveredBy f r) q c
    in_range_lem (suc n) s t (e, inl p) (inr m) c = absurd (rw (other_type f (named_by f s) p.typed) at m)
    in_range_lem (suc n) s t (e, inr p) (inr m) c =
        let w = out_flat (entries_under f n) (lower_slots f s) t (rw p.typed at m) in
        let h = each_in (λ t. (first_of f s ≤ first_of f t) × (last_of f t ≤ last_of f s)) (lower_slots f s) p.within w.0 w.1 in
        let d = in_range_lem n w.0 t (each_in (EntryRight f k v n) (lower_slots f s) p.entries w.0 w.1) w.2 c in
        record { first = omega (arith, h.0, d.first); last = omega (arith, h.1, d.last) }

    -- a lower record that stands and keeps its rule can be met
    pub lower_met_lem : (x : ℕ) → Stands f x → typed_at f x (pos 6) ≡ true → lower_number f x ≡ 0 → lower_met f x ≡ true
    unfolding lower_met index_met lower_number
    lower_met_lem x s t e =
        let p = zeros (vxr_rule f x ∷ unless 11 (is_at f (next_at x) (pos 0)) ∷ []) e in
        rw (lies_lands f 6 x (stands_lies f 6 x s t), eq-eqb (vxr_rule f x) 0 (p 0), eq-eqb (link_at f (next_at x)) 0 (lower_parts f k v x e).1)

    module _ (vdr : VdrParts f k v) where
      -- ---- a row of entries, and the lowest ones under them
      module _ (n : ℕ) (above ss : List Slot) (c : Carried) (g : RowGood f k v n above c ss) where
        abbrev Under : List Slot
        Under = flat (lowest f n) ss

        -- the entry of the row under which one covers r
        over : (t : Slot) → t ∈ flat (lowest f n) ss → CoveredBy f r t → (s : Slot) × (s ∈ ss) × (t ∈ lowest f n s) × CoveredBy f r s
        over t m d =
            let w = out_flat (lowest f n) ss t m in
            let e = row_each f k v n above ss c g w.0 w.1 in
            (w.0, w.1, w.2, in_range_lem n w.0 t (entry_right f k v vdr n above e.0 w.0 e.1) (lowest_under f n w.0 t w.2) d)

        -- where none of the row covers r, none under it does
        free_row : Free ss → Free Under
        free_row h t m d = let w = over t m d in h w.0 w.1 w.3

        -- where one does, those under it count alone
        module _ (u : Slot) (here : u ∈ ss) (covers : CoveredBy f r u) where
          free_one : Free (lowest f n u) → Free Under
          free_one h t m d =
              let w = over t m d in
              h t (subst (λ (s : Slot). t ∈ lowest f n s) (row_once n above ss c g w.0 u w.1 here w.3 covers) w.2) d

          on_row : (i : Index) → LowestOn (lowest f n u) i → LowestOn Under i
          on_row (Ok e) a = (
            record { slot = a.0.slot; member = in_flat (lowest f n) ss u a.0.slot here a.0.member; is = a.0.is; covered = a.0.covered },
            a.1,
          )
          on_row (Err x) a = (a.0, free_one a.1)

      abbrev inner : Slot → Carried → Carried
      inner s c = carried (first_of f s) c.covered

      -- ---- down from an entry that covers r
      lower_way : (n : ℕ) (above : List Slot) (c : Carried) (s : Slot) (left : ℕ) → EntryGood f k v n above c s
          → ((t : Slot) → t ∈ entries_under f n s → Stands f (named_by f t)) → CoveredBy f r s → length (entries_under f n s) ≤ left
          → LowestOn (lowest f n s) (lowered n f r (slot_entry f s) left)
      unfolding lowered
      lower_way zero above c s left g ok w h = rw g.0 (record { slot = s; member = inl refl; is = refl; covered = w }, omega arith)
      lower_way (suc n) above c s left (inl g) ok w h = rw g.0 (record { slot = s; member = inl refl; is = refl; covered = w }, omega arith)
      lower_way (suc n) above c s left (inr g) ok w h =
          let under : suc (length (flat (entries_under f n) (lower_slots f s))) ≤ left = rw g.0 at h in
          let typed = (both (leb (named_by f s + 8) (end_of f)) (typed_at f (named_by f s) (pos 6)) g.0).1 in
          rw (g.0, le-leb 1 left (omega (arith, under)), lower_met_lem (named_by f s) (ok s (inl refl)) typed g.1.lower)
          (go (lower_scan f r (slot_entry f s))
          (subst (λ (m : ℕ). ScanOn n (inner s c) (lower_slots f s) (scanned f (named_by f s) r m (used_at f (named_by f s)) 0 (first_of f s))) (most_named f s)
          (scan_row n (s ∷ above) (named_by f s) (used_at f (named_by f s)) 0 (inner s c) g.2))
          (λ u m a.
          let e = row_each f k v n (s ∷ above) (lower_slots f s) (inner s c) g.2 u m in
          lower_way n (s ∷ above) e.0 u (left - 1) e.1 (λ t i. ok t (under_lower f n s u t g.0 m i)) a
          (omega (arith, under, length_flat (entries_under f n) (lower_slots f s) u m))))
        where
          go : (q : Result Scan Refusal) → ScanOn n (inner s c) (lower_slots f s) q
              → ((u : Slot) → u ∈ lower_slots f s → CoveredBy f r u → LowestOn (lowest f n u) (lowered n f r (slot_entry f u) (left - 1)))
              → LowestOn (flat (lowest f n) (lower_slots f s)) (after_lower q (λ d. lowered n f r d (left - 1)))
          go (Ok (Covering e)) a ih =
              rw a.is
              (on_row n (s ∷ above) (lower_slots f s) (inner s c) g.2 a.slot a.member a.covered
              (lowered n f r (slot_entry f a.slot) (left - 1)) (ih a.slot a.member a.covered))
          go (Ok (Passed l)) a ih = (refl, free_row n (s ∷ above) (lower_slots f s) (inner s c) g.2 a.1)
          go (Err m) a ih = absurd a

    -- ---- the top chain
    abbrev IndexOn : ℕ → List ℕ → Index → Type 0
    IndexOn left xs (Ok e) = CoveringIn (used_entries f xs) e.range × (left ≤ e.left + length xs)
    IndexOn left xs (Err m) = (m ≡ Gap) × Free (used_entries f xs)

    index_way : (xs bs : List ℕ) (p left : ℕ) → Listed f (chain_rules f k v) bs p xs → ((o : ℕ) → o ∈ xs → Stands f o) → length xs ≤ left
        → IndexOn left xs (indexed f r p (chain_carried f k v bs).floor left)
    unfolding indexed last_index index_met
    index_way [] bs p zero l h n = rw l.1 (refl, λ s m c. absurd m)
    index_way [] bs p (suc left) l h n = rw l.1 (refl, λ s m c. absurd m)
    index_way (x ∷ xs) bs p zero l h n = absurd (omega arith)
    index_way (x ∷ xs) bs p (suc left) l h n =
        rw (
          l.1,
          ne_eqb x 0 l.2,
          lies_lands f 6 x (stands_lies f 6 x (h x (inl refl)) (type_reads f x (pos 6) l.3.0).1),
          eq-eqb (vxr_rule f x) 0 l.3.1,
        )
        (go (scanned f x r no_limit (used_at f x) 0 before.floor)
        (subst (λ (m : ℕ). ScanOn levels_below before (slots_of f x) (scanned f x r m (used_at f x) 0 before.floor)) most_top
        (scan_row levels_below [] x (used_at f x) 0 before l.4))
        (index_way xs (x ∷ bs) (next_at x) left l.5 (λ o m. h o (inr m)) (omega arith)))
      where
        before : Carried
        before = chain_carried f k v bs

        further : (s : Index) → Free (slots_of f x) → IndexOn left xs s → IndexOn (suc left) (x ∷ xs) s
        further (Ok e) a i = (
          record {
            slot = i.0.slot;
            member = in_right (slots_of f x) (used_entries f xs) i.0.slot i.0.member;
            is = i.0.is;
            covered = i.0.covered;
          },
          omega (arith, i.1),
        )
        further (Err m) a i = (i.0, none_join (slots_of f x) (used_entries f xs) a i.1)

        go : (s : Result Scan Refusal) → ScanOn levels_below before (slots_of f x) s → IndexOn left xs (indexed f r (next_at x) (chain_carried f k v (x ∷ bs)).floor left)
            → IndexOn (suc left) (x ∷ xs) (after_scan s left (λ upper. indexed f r (next_at x) upper left))
        go (Ok (Covering e)) a ih = (
          record { slot = a.slot; member = in_left (slots_of f x) (used_entries f xs) a.slot a.member; is = a.is; covered = a.covered },
          omega arith,
        )
        go (Ok (Passed l)) a ih =
            further (indexed f r (next_at x) l left) a.1 (subst (λ (l : ℕ). IndexOn left xs (indexed f r (next_at x) l left)) (sym a.0) ih)
        go (Err m) a ih = absurd a

-- ---- the offsets of an index: its VXRs, and what the entries of all levels name
module _ (f : List ℕ) where
  named_length : (ss : List Slot) → length (named_by_all f ss) ≡ length ss
  named_length [] = refl
  named_length (s ∷ ss) = omega (arith, named_length ss)

  pub index_length : (xs : List ℕ) → length xs + length (flat (entries_under f levels_below) (used_entries f xs)) ≡ length (index_offsets f xs)
  index_length [] = refl
  index_length (x ∷ xs) =
      let here = flat (entries_under f levels_below) (slots_of f x) in
      omega (
        arith,
        index_length xs,
        named_length here,
        length-append (named_by_all f here) (index_offsets f xs),
        flat_join_length (entries_under f levels_below) (slots_of f x) (used_entries f xs),
      )

-- ---- why a lookup comes to nothing: 16 or 17
abbrev pub Lost : List ℕ → ℕ → List ℕ → ℤ → Refusal → Type 0
Lost f v xs r m =
    ((m ≡ NoNumber) × (record_there f v r ≡ false)) ⊎ ((m ≡ Gap) × (record_there f v r ≡ true) × Free f (record_read f v r) (lowest_entries f xs))

-- ---- THE WAY TO A RECORD of a variable that keeps the rules of acceptance
module _ (f : List ℕ) (k v : ℕ) (xs : List ℕ) (vdr : VdrParts f k v) (listed : Listed f (chain_rules f k v) [] (head_of_index v) xs)
    (stands : (o : ℕ) → o ∈ index_offsets f xs → Stands f o) (r : ℤ)
  where
    pub rows : RowGood f k v levels_below [] (carried 0 false) (used_entries f xs)
    rows =
        along_rows f k v xs []
        (each_along (λ bs x. RowGood f k v levels_below [] (chain_carried f k v bs) (slots_of f x)) xs
        (λ earlier later x q. ((listed_reads f (chain_rules f k v) (head_of_index v) xs listed).each earlier later x q).1))

    good : (s : Slot) → s ∈ used_entries f xs → (c : Carried) × EntryGood f k v levels_below [] c s
    good s m = let e = row_each f k v levels_below [] (used_entries f xs) (carried 0 false) rows s m in (e.0, e.1)

    abbrev On : Index → Type 0
    On = LowestOn f (record_read f v r) k v (lowest_entries f xs)

    -- to the lowest entry that covers the record, with a record more that may be met; or to 17
    lowest_way : (left : ℕ) → length (index_offsets f xs) ≤ left → On (lowest_of f (record_read f v r) (indexed f (record_read f v r) (head_of_index v) 0 left))
    lowest_way left h =
        go (indexed f (record_read f v r) (head_of_index v) 0 left)
        (index_way f (record_read f v r) k v xs [] (head_of_index v) left listed
        (λ o m. stands o (offset_in (λ x. x) (λ x. named_by_all f (flat (entries_under f levels_below) (slots_of f x))) xs o m))
        (omega (arith, h, index_length f xs)))
      where
        go : (i : Index) → IndexOn f (record_read f v r) k v left xs i → On (lowest_of f (record_read f v r) i)
        go (Err m) a = (a.0, free_row f (record_read f v r) k v vdr levels_below [] (used_entries f xs) (carried 0 false) rows a.1)
        go (Ok e) (a, n) =
            let s = a.slot in
            let g = good s a.member in
            rw a.is
            (on_row f (record_read f v r) k v vdr levels_below [] (used_entries f xs) (carried 0 false) rows s a.member a.covered
            (lowered levels_below f (record_read f v r) (slot_entry f s) e.left)
            (lower_way f (record_read f v r) k v vdr levels_below [] g.0 s e.left g.1 (λ t i. stands (named_by f t) (used_named f xs s t a.member i)) a.covered
            (omega (arith, n, h, index_length f xs, length_flat (entries_under f levels_below) (used_entries f xs) s a.member))))

    -- ---- the values that a lowest entry names can be met
    lowest_good : (n : ℕ) (above : List Slot) (c : Carried) (s t : Slot) → EntryGood f k v n above c s → t ∈ lowest f n s
        → (type_number f (named_by f t) (pos 7) ≡ 0) × (values_number f (variable_of f k v) (entry_is f t) ≡ 0)
    lowest_good zero above c s t g m = rw (only s t m) (g.1.typed, g.1.values)
    lowest_good (suc n) above c s t (inl g) m = rw (only s t (rw g.0 at m)) (g.1.typed, g.1.values)
    lowest_good (suc n) above c s t (inr g) m =
        let w = out_flat (lowest f n) (lower_slots f s) t (rw g.0 at m) in
        let e = row_each f k v n (s ∷ above) (lower_slots f s) (carried (first_of f s) c.covered) g.2 w.0 w.1 in
        lowest_good n (s ∷ above) e.0 w.0 t e.1 w.2

    values_met_lem : (t : Slot) (rest : ℕ) → t ∈ lowest_entries f xs → 1 ≤ rest → values_met f (slot_entry f t) (variable_of f k v).bytes rest ≡ true
    unfolding values_met
    values_met_lem t rest m h =
        let w = out_flat (lowest f levels_below) (used_entries f xs) t m in
        let g = good w.0 w.1 in
        let q = lowest_good levels_below [] g.0 w.0 t g.1 w.2 in
        let o = stands (named_by f t) (used_named f xs w.0 t w.1 (lowest_under f levels_below w.0 t w.2)) in
        rw (
          le-leb 1 rest h,
          lies_lands f 7 (named_by f t) (stands_lies f 7 (named_by f t) o (type_reads f (named_by f t) (pos 7) q.0).1),
          eq-eqb (vvr_rule f (named_by f t) (last_of f t - first_of f t + 1) (variable_of f k v).bytes) 0 (values_read f k v (entry_is f t) q.1),
        )

    pub record_on : (left : ℕ) → length (index_offsets f xs) ≤ left → IfErr (record_way f v (variable_of f k v).bytes r left) (Lost f v xs r)
    unfolding record_way record_number
    record_on left h = go (record_there f v r) refl
      where
        on : record_there f v r ≡ true → (i : Index) → On i → IfErr (values_of f (record_read f v r) (variable_of f k v).bytes i) (Lost f v xs r)
        on e (Err m) a = inr (a.0, e, a.1)
        on e (Ok y) (a, n) =
            rw (subst (λ (d : Range). values_met f d (variable_of f k v).bytes y.left ≡ true) (sym a.is) (values_met_lem a.slot y.left a.member n)) tt

        go : (b : Bool) → record_there f v r ≡ b
            → IfErr (values_by f v (variable_of f k v).bytes left (cond b (Some (record_read f v r)) None)) (Lost f v xs r)
        go true e = on e (lowest_of f (record_read f v r) (indexed f (record_read f v r) (head_of_index v) 0 left)) (lowest_way left h)
        go false e = inl (refl, e)

    pub levels_on_lem : (left : ℕ) → length (index_offsets f xs) ≤ left → IfErr (levels_way f v r left) (Lost f v xs r)
    unfolding levels_way record_number
    levels_on_lem left h = go (record_there f v r) refl
      where
        told : record_there f v r ≡ true → (top : Range) (i : Index) → On i → IfErr (levels_told f (record_read f v r) top i) (Lost f v xs r)
        told e top (Ok y) a = tt
        told e top (Err m) a = inr (a.0, e, a.1)

        on : record_there f v r ≡ true → (i : Index) → On (lowest_of f (record_read f v r) i) → IfErr (levels_of f (record_read f v r) i) (Lost f v xs r)
        on e (Ok y) a = told e y.range (lowered levels_below f (record_read f v r) y.range y.left) a
        on e (Err m) a = inr (a.0, e, a.1)

        go : (b : Bool) → record_there f v r ≡ b → IfErr (levels_by f v left (cond b (Some (record_read f v r)) None)) (Lost f v xs r)
        go true e = on e (indexed f (record_read f v r) (head_of_index v) 0 left) (lowest_way left h)
        go false e = inl (refl, e)
