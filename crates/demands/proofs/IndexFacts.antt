-- The index of a variable: the nested rules are the named facts. Assumes nothing.
use mathlib.Core.Path.{◌≡◌, refl, sym, ap, ◌∙◌, subst}
use mathlib.Core.Logic.{◌⊎◌, inl, inr}
use mathlib.Core.Bool.{Bool, true, false, cond, ◌&&◌, ◌||◌, true≢false, or-true, and-false}
use mathlib.Core.List.{List, [], ◌∷◌, ◌++◌, append_assoc, reverse_aux}
use Prim.Native.Nat.{ℕ, zero, suc, ◌+◌, ◌-◌, ◌*◌, ◌≤◌, ◌<◌}
use native.Mathlib.Omega.{arith}
use lib.Dec.{leb}
use lib.IntN.{ℤ, pos, negsuc}
use lib.Signed.{le_z}
use borrow.Author.Tests.{leb-true, le-leb, eqb-true, eq-eqb}
use Rattle.format.specs.Fields.{end_of, field_at, eq_z, is_at, at_least, nat_or, nat_at, link_at}
use Rattle.format.proofs.SignedTests.{eq_z_true}
use Rattle.records.specs.Rules.{size_at, typed_at}
use Rattle.records.specs.Index.{used_at, vxr_right, vxr_rule, index_at, vvr_rule}
use Rattle.records.specs.Tree.{Slot, slots_from, slots_of, used_entries, first_at, last_at, first_of, last_of, named_by, named_by_all, levels_below, flat, names_index, lower_slots, lowest, lowest_entries, entries_under}
use Rattle.records.proofs.Ranges.{order_natural}
use Rattle.variables.specs.Vdr.{vdr_fields, layout_of, record_bytes, variable_of}
use Rattle.walk.specs.Walk.{field_number, chain_tally, covers, values_number, lower_number}
use Rattle.walk.specs.Levels.{most_of}
use Rattle.demands.specs.Acceptance.{◌∈◌, Each, Consecutive, last_or0, index_offsets, ValuesRight, RangeRight, EntryRight, IndexRight}
use Rattle.format.proofs.Tests.{both, or_left, cond_keeps}
use Rattle.format.specs.Numbers.{unless}
use Rattle.format.proofs.Numbers.{unless_zero, zeros}
use Rattle.format.proofs.FieldRanges.{nat_small}
use Rattle.records.proofs.Judged.{Reach, reach_makes}
use Rattle.records.proofs.Fielded.{vxr_law, vvr_law, vxr_size}
use Rattle.variables.proofs.Rule.{vdr_fields_lem, VdrParts, vdr_bytes}
use Rattle.demands.proofs.Records.{Stands, stands_reach, stands_begins, stands_nonzero, type_reads, type_makes, field_reads, field_makes, values_read}
use Rattle.demands.proofs.Lists.{Listed}
use Rattle.demands.proofs.Trees.{TreeRules}
use Rattle.demands.proofs.Levels.{levels_of, most_named, most_top}
use Rattle.demands.proofs.Nested.{head_or0, entry_is, Carried, carried, Ranged, ValuesGood, index_rules, EntryGood, after_entry, RowGood, after_row, chain_carried, chain_rules, zero_link}
use Rattle.demands.proofs.Rules.{lowest_right, lowest_parts}
use Rattle.demands.proofs.Splits.{Along, split_in, in_left, in_right, in_either, along_each, each_along, each_in, listed_reads, listed_makes, is_moved, last_back, offset_in}

-- MaxRec is -1 or more
pub max_rec_least : (f : List ℕ) (o : ℕ) → vdr_fields f o ≡ true → at_least f (o + 16) (negsuc 0) ≡ true
max_rec_least f o e = ((vdr_fields_lem f o).0 e).max_rec

minus_one : (z : ℤ) → le_z (negsuc 0) z ≡ true → le_z (pos 0) z ≡ false → eq_z z (negsuc 0) ≡ true
minus_one (pos n) h e = absurd (true≢false (sym (le-leb 0 n (omega arith)) ∙ e))
minus_one (negsuc n) h e = eq-eqb n 0 (omega (arith, leb-true n 0 h))

is_minus_one : (f : List ℕ) (p : ℕ) → at_least f p (negsuc 0) ≡ true → at_least f p (pos 0) ≡ false → is_at f p (negsuc 0) ≡ true
unfolding at_least is_at
is_minus_one f p a b = minus_one (field_at f p) a b

-- ---- entries of a VXR, and of a chain
in_slots : (x i n : ℕ) (s : Slot) → s ∈ slots_from x i n → (s.vxr ≡ x) × (s.entry < i + n)
in_slots x i zero s m = absurd m
in_slots x i (suc n) s (inl e) = let a : s.vxr ≡ x = ap (λ (s : Slot). s.vxr) e in let b : s.entry ≡ i = ap (λ (s : Slot). s.entry) e in (a, omega arith)
in_slots x i (suc n) s (inr m) = let r = in_slots x (i + 1) n s m in (r.0, omega (arith, r.1))

module _ (f : List ℕ) where
  pub in_used : (xs : List ℕ) (s : Slot) → s ∈ used_entries f xs → (s.vxr ∈ xs) × (s.entry < used_at f s.vxr)
  in_used [] s m = absurd m
  in_used (x ∷ xs) s m = go (in_either (slots_of f x) (used_entries f xs) s m) (in_used xs s)
    where
      go : (s ∈ slots_of f x) ⊎ (s ∈ used_entries f xs) → (s ∈ used_entries f xs → (s.vxr ∈ xs) × (s.entry < used_at f s.vxr))
          → (s.vxr ∈ (x ∷ xs)) × (s.entry < used_at f s.vxr)
      go (inl j) ih = let r = in_slots x 0 (used_at f x) s j in (inl r.0, rw r.0 (omega (arith, r.1)))
      go (inr j) ih = let r = ih j in (inr r.0, r.1)

  pub named_in : (ss : List Slot) (s : Slot) → s ∈ ss → named_by f s ∈ named_by_all f ss
  named_in [] s m = absurd m
  named_in (t ∷ ss) s (inl e) = inl (ap (named_by f) e)
  named_in (t ∷ ss) s (inr m) = inr (named_in ss s m)

  in_flat : {X : Type 0} (of : Slot → List X) (ss : List Slot) (s : Slot) (x : X) → s ∈ ss → x ∈ of s → x ∈ flat of ss
  in_flat of [] s x m i = absurd m
  in_flat of (t ∷ ss) s x (inl e) i = in_left (of t) (flat of ss) x (subst (λ (r : Slot). x ∈ of r) e i)
  in_flat of (t ∷ ss) s x (inr m) i = in_right (of t) (flat of ss) x (in_flat of ss s x m i)

  flat_join : {X : Type 0} (of : Slot → List X) (ss ts : List Slot) → flat of (ss ++ ts) ≡ flat of ss ++ flat of ts
  flat_join of [] ts = refl
  flat_join of (s ∷ ss) ts = ap (λ l. of s ++ l) (flat_join of ss ts) ∙ sym (append_assoc (of s) (flat of ss) (flat of ts))

  -- what is under an entry of the record that s names is under s
  pub under_lower : (n : ℕ) (s t u : Slot) → names_index f s ≡ true → t ∈ lower_slots f s → u ∈ entries_under f n t → u ∈ entries_under f (suc n) s
  under_lower n s t u e m i = inr (rw e (in_flat (entries_under f n) (lower_slots f s) t u m i))

  -- what an entry of the chain leads to, at any level, is reached
  pub used_named : (xs : List ℕ) (s t : Slot) → s ∈ used_entries f xs → t ∈ entries_under f levels_below s → named_by f t ∈ index_offsets f xs
  used_named [] s t m i = absurd m
  used_named (x ∷ xs) s t m i = inr (go (in_either (slots_of f x) (used_entries f xs) s m) (λ m. used_named xs s t m i))
    where
      below : List Slot
      below = flat (entries_under f levels_below) (slots_of f x)

      go : (s ∈ slots_of f x) ⊎ (s ∈ used_entries f xs) → (s ∈ used_entries f xs → named_by f t ∈ index_offsets f xs)
          → named_by f t ∈ (named_by_all f (flat (entries_under f levels_below) (slots_of f x)) ++ index_offsets f xs)
      go (inl j) ih =
          in_left (named_by_all f below) (index_offsets f xs) (named_by f t) (named_in below t (in_flat (entries_under f levels_below) (slots_of f x) s t j i))
      go (inr j) ih = in_right (named_by_all f below) (index_offsets f xs) (named_by f t) (ih j)

-- a record of type 7 is none of type 6
pub other_type : (f : List ℕ) (o : ℕ) → typed_at f o (pos 7) ≡ true → index_at f o ≡ false
unfolding is_at
other_type f o e = rw (eq_z_true (field_at f (o + 4)) (pos 7) e) (and-false (leb (o + 8) (end_of f)))

-- a zero link is a zero field
zero_field : (f : List ℕ) (p : ℕ) → link_at f p ≡ 0 → is_at f p (pos 0) ≡ true
unfolding is_at link_at
zero_field f p = go (field_at f p)
  where
    go : (z : ℤ) → nat_or 1 z ≡ 0 → eq_z z (pos 0) ≡ true
    go (pos n) e = eq-eqb n 0 e
    go (negsuc n) e = absurd (omega arith)

module _ (f : List ℕ) (k v : ℕ) where
  abbrev rules : TreeRules Carried
  rules = index_rules f k v

  -- MaxRec is covered by one of the entries, or was before
  abbrev covered_after : Bool → List Slot → Bool
  covered_after c [] = c
  covered_after c (s ∷ ss) = covered_after (c || covers f v (entry_is f s)) ss

  covered_join : (ss ts : List Slot) (c : Bool) → covered_after c (ss ++ ts) ≡ covered_after (covered_after c ss) ts
  covered_join [] ts c = refl
  covered_join (s ∷ ss) ts c = covered_join ss ts (c || covers f v (entry_is f s))

  covered_some : (ss : List Slot) (c : Bool) → covered_after c ss ≡ true → (c ≡ true) ⊎ ((s : Slot) × (s ∈ ss) × (covers f v (entry_is f s) ≡ true))
  covered_some [] c e = inl e
  covered_some (s ∷ ss) c e = go c refl (covers f v (entry_is f s)) refl (covered_some ss (c || covers f v (entry_is f s)) e)
    where
      go : (b : Bool) → c ≡ b → (d : Bool) → covers f v (entry_is f s) ≡ d
          → ((c || covers f v (entry_is f s)) ≡ true) ⊎ ((t : Slot) × (t ∈ ss) × (covers f v (entry_is f t) ≡ true))
          → (c ≡ true) ⊎ ((t : Slot) × (t ∈ (s ∷ ss)) × (covers f v (entry_is f t) ≡ true))
      go true p d q h = inl p
      go false p true q h = inr (s, inl refl, q)
      go false p false q (inl h) = absurd (true≢false (sym h ∙ rw (p, q)))
      go false p false q (inr h) = inr (h.0, inr h.1, h.2)

  some_covered : (ss : List Slot) (c : Bool) → (c ≡ true) ⊎ ((s : Slot) × (s ∈ ss) × (covers f v (entry_is f s) ≡ true)) → covered_after c ss ≡ true
  some_covered [] c (inl e) = e
  some_covered [] c (inr h) = absurd h.1
  some_covered (s ∷ ss) c h = some_covered ss (c || covers f v (entry_is f s)) (go h)
    where
      at : (t : Slot) → t ∈ (s ∷ ss) → covers f v (entry_is f t) ≡ true
          → ((c || covers f v (entry_is f s)) ≡ true) ⊎ ((t : Slot) × (t ∈ ss) × (covers f v (entry_is f t) ≡ true))
      at t (inl e) q = inl (rw (ap (λ (s : Slot). covers f v (entry_is f s)) (sym e) ∙ q) (or-true c))
      at t (inr m) q = inr (t, m, q)

      go : (c ≡ true) ⊎ ((t : Slot) × (t ∈ (s ∷ ss)) × (covers f v (entry_is f t) ≡ true))
          → ((c || covers f v (entry_is f s)) ≡ true) ⊎ ((t : Slot) × (t ∈ ss) × (covers f v (entry_is f t) ≡ true))
      go (inl e) = inl (rw e)
      go (inr t) = at t.0 t.1 t.2

  -- ---- what is carried: the floor is the entry's own, and MaxRec is covered by the lowest entries
  pub after_floor : (n : ℕ) (c : Carried) (s : Slot) → (after_entry f k v n c s).floor ≡ last_of f s + 1
  after_floor zero c s = refl
  after_floor (suc n) c s =
      cond_keeps (λ (d : Carried). d.floor ≡ last_of f s + 1) (names_index f s)
      {x = rules.back c s (after_row f k v n (rules.down c s) (lower_slots f s))} {y = rules.past c s} refl refl

  row_covered : (n : ℕ) → ((c : Carried) (s : Slot) → (after_entry f k v n c s).covered ≡ covered_after c.covered (lowest f n s))
      → (ss : List Slot) (c : Carried) → (after_row f k v n c ss).covered ≡ covered_after c.covered (flat (lowest f n) ss)
  row_covered n one [] c = refl
  row_covered n one (s ∷ ss) c =
      row_covered n one ss (after_entry f k v n c s)
      ∙ (ap (λ (b : Bool). covered_after b (flat (lowest f n) ss)) (one c s) ∙ sym (covered_join (lowest f n s) (flat (lowest f n) ss) c.covered))

  after_covered : (n : ℕ) (c : Carried) (s : Slot) → (after_entry f k v n c s).covered ≡ covered_after c.covered (lowest f n s)
  after_covered zero c s = refl
  after_covered (suc n) c s = go (names_index f s) (row_covered n (λ c s. after_covered n c s) (lower_slots f s) (rules.down c s))
    where
      inner : Carried
      inner = after_row f k v n (rules.down c s) (lower_slots f s)

      under : List Slot
      under = flat (lowest f n) (lower_slots f s)

      go : (b : Bool) → inner.covered ≡ covered_after c.covered under
          → (cond b (rules.back c s inner) (rules.past c s)).covered ≡ covered_after c.covered (cond b under (s ∷ []))
      go true h = h
      go false h = refl

  chain_covered : (xs bs : List ℕ) → (chain_carried f k v (reverse_aux xs bs)).covered ≡ covered_after (chain_carried f k v bs).covered (lowest_entries f xs)
  chain_covered [] bs = refl
  chain_covered (x ∷ xs) bs =
      let low = flat (lowest f levels_below) (slots_of f x) in
      let c = chain_carried f k v bs in
      chain_covered xs (x ∷ bs)
      ∙ (ap (λ (b : Bool). covered_after b (lowest_entries f xs)) (row_covered levels_below (after_covered levels_below) (slots_of f x) c)
      ∙ (sym (covered_join low (lowest_entries f xs) c.covered)
      ∙ ap (λ (l : List Slot). covered_after c.covered l) (sym (flat_join f (lowest f levels_below) (slots_of f x) (used_entries f xs)))))

  -- ---- rows one after the other
  row_join : (n : ℕ) (above ss ts : List Slot) (c : Carried) → RowGood f k v n above c ss → RowGood f k v n above (after_row f k v n c ss) ts
      → RowGood f k v n above c (ss ++ ts)
  row_join n above [] ts c a b = b
  row_join n above (s ∷ ss) ts c a b = (a.0, row_join n above ss ts (after_entry f k v n c s) a.1 b)

  row_split : (n : ℕ) (above ss ts : List Slot) (c : Carried) → RowGood f k v n above c (ss ++ ts)
      → RowGood f k v n above c ss × RowGood f k v n above (after_row f k v n c ss) ts
  row_split n above [] ts c a = (tt, a)
  row_split n above (s ∷ ss) ts c a = let r = row_split n above ss ts (after_entry f k v n c s) a.1 in ((a.0, r.0), r.1)

  abbrev row_of : List ℕ → ℕ → Type 0
  row_of bs x = RowGood f k v levels_below [] (chain_carried f k v bs) (slots_of f x)

  pub along_rows : (xs bs : List ℕ) → Along row_of bs xs → RowGood f k v levels_below [] (chain_carried f k v bs) (used_entries f xs)
  along_rows [] bs a = tt
  along_rows (x ∷ xs) bs a = row_join levels_below [] (slots_of f x) (used_entries f xs) (chain_carried f k v bs) a.0 (along_rows xs (x ∷ bs) a.1)

  rows_along : (xs bs : List ℕ) → RowGood f k v levels_below [] (chain_carried f k v bs) (used_entries f xs) → Along row_of bs xs
  rows_along [] bs a = tt
  rows_along (x ∷ xs) bs a = let r = row_split levels_below [] (slots_of f x) (used_entries f xs) (chain_carried f k v bs) a in (r.0, rows_along xs (x ∷ bs) r.1)

  -- ---- ranges: floors rise, and so do they
  pub ranged_of : (n : ℕ) (above : List Slot) (c : Carried) (s : Slot) → EntryGood f k v n above c s → Ranged f above c.floor s
  ranged_of zero above c s g = g.1.range
  ranged_of (suc n) above c s (inl g) = g.1.range
  ranged_of (suc n) above c s (inr g) = g.1.range

  pub row_each : (n : ℕ) (above ss : List Slot) (c : Carried) → RowGood f k v n above c ss → (s : Slot) → s ∈ ss
      → (d : Carried) × EntryGood f k v n above d s × (c.floor ≤ d.floor)
  row_each n above [] c a s m = absurd m
  row_each n above (t ∷ ss) c a s (inl e) = (c, subst (EntryGood f k v n above c) (sym e) a.0, omega arith)
  row_each n above (t ∷ ss) c a s (inr m) =
      let r = row_each n above ss (after_entry f k v n c t) a.1 s m in
      let p = ranged_of n above c t a.0 in
      (r.0, r.1, omega (arith, r.2, after_floor n c t, p.above, order_natural f (first_at t) (last_at f t) p.order))

  row_rises : (n : ℕ) (above : List Slot) (c : Carried) (ss : List Slot) → RowGood f k v n above c ss → Consecutive ss (λ a b. last_of f a < first_of f b)
  row_rises n above c ss g earlier later a b e =
      let r = (row_split n above earlier (a ∷ b ∷ later) c (subst (RowGood f k v n above c) e g)).1 in
      let d = after_row f k v n c earlier in
      omega (arith, after_floor n d a, (ranged_of n above (after_entry f k v n d a) b r.1.0).above)

  rise_row : (n : ℕ) (above ss : List Slot) (c : Carried) → ((s : Slot) (later : List Slot) → ss ≡ s ∷ later → c.floor ≤ first_of f s)
      → ((s : Slot) → s ∈ ss → (d : Carried) → d.floor ≤ first_of f s → EntryGood f k v n above d s) → Consecutive ss (λ a b. last_of f a < first_of f b)
      → RowGood f k v n above c ss
  rise_row n above [] c h g r = tt
  rise_row n above (s ∷ ss) c h g r = (
    g s (inl refl) c (h s ss refl),
    rise_row n above ss (after_entry f k v n c s)
        (λ t later e. omega (arith, after_floor n c s, r [] later s t (ap (λ (l : List Slot). s ∷ l) e))) (λ t m. g t (inr m))
        (λ earlier later a b e. r (s ∷ earlier) later a b (ap (λ (l : List Slot). s ∷ l) e)),
  )

  range_right : (above : List Slot) (floor : ℕ) (s : Slot) → Ranged f above floor s → RangeRight f s
  range_right above floor s r = record { first = r.least; last = r.order }

  range_good : (above : List Slot) (floor : ℕ) (s : Slot) → Stands f s.vxr → vxr_right f s.vxr ≡ true → s.entry < used_at f s.vxr
      → RangeRight f s → floor ≤ first_of f s → last_of f s ≤ most_of (levels_of f above).a
      → Ranged f above floor s
  range_good above floor s x w i e h b =
      let z = vxr_size f s.vxr w in
      let p = z.0 in
      let q = z.1 in
      let c = x.inside in
      record { least = e.first; above = h; last_lies = omega arith; order = e.last; under = b; offset_lies = omega arith }

  -- the size that the rule of values asks for
  abbrev value_size : Slot → ℕ
  value_size s = 8 + (last_of f s - first_of f s + 1) * record_bytes f v (layout_of f k v)

  -- ---- lower records
  vxr_reads : (x : ℕ) → vxr_rule f x ≡ 0 → vxr_right f x ≡ true
  vxr_reads x e = ((vxr_law f x).0 e).right

  vxr_makes : (x : ℕ) → Stands f x → vxr_right f x ≡ true → vxr_rule f x ≡ 0
  vxr_makes x s e = let z = (vxr_size f x e).0 in (vxr_law f x).1 (record { reach = stands_reach f x 20 s (omega arith); right = e })

  pub lower_parts : (x : ℕ) → lower_number f x ≡ 0 → (vxr_right f x ≡ true) × (link_at f (x + 8) ≡ 0)
  unfolding lower_number
  lower_parts x e =
      let p = zeros (vxr_rule f x ∷ unless 11 (is_at f (x + 8) (pos 0)) ∷ []) e in
      (vxr_reads x (p 0), zero_link f (x + 8) (unless_zero 10 (is_at f (x + 8) (pos 0)) (p 1)))

  lower_makes : (x : ℕ) → Stands f x → vxr_right f x ≡ true → link_at f (x + 8) ≡ 0 → lower_number f x ≡ 0
  unfolding lower_number
  lower_makes x s e z = rw (vxr_makes x s e, zero_field f (x + 8) z)

  module _ (vdr : VdrParts f k v) where
    -- ---- an entry that names values
    vvr_is : (s : Slot)
        → vvr_rule f (named_by f s) (last_of f s - first_of f s + 1) (variable_of f k v).bytes ≡ vvr_rule f (named_by f s) (last_of f s - first_of f s + 1) (record_bytes f v (layout_of f k v))
    vvr_is s = ap (vvr_rule f (named_by f s) (last_of f s - first_of f s + 1)) (vdr_bytes f k v vdr).1

    values_make : (s : Slot) → Reach f (named_by f s) 8
        → vvr_rule f (named_by f s) (last_of f s - first_of f s + 1) (record_bytes f v (layout_of f k v)) ≡ 0
        → values_number f (variable_of f k v) (entry_is f s) ≡ 0
    unfolding values_number
    values_make s r e = rw (reach_makes f (named_by f s) 8 r, (vdr_bytes f k v vdr).0, vvr_is s ∙ e)

    values_right : (above : List Slot) (c : Carried) (s : Slot) → ValuesGood f k v above c s → ValuesRight f k v s
    values_right above c s g =
        let w = (vvr_law f (named_by f s) _ _).0 (sym (vvr_is s) ∙ values_read f k v (entry_is f s) g.values) in
        record { typed = (type_reads f (named_by f s) (pos 7) g.typed).1; size = eqb-true (size_at f (named_by f s)) (value_size s) w.right }

    values_good : (above : List Slot) (c : Carried) (s : Slot) → Ranged f above c.floor s → Stands f (named_by f s) → ValuesRight f k v s
        → (names_index f s ≡ false) × ValuesGood f k v above c s
    values_good above c s r n e = (
      other_type f (named_by f s) e.typed,
      record {
        range = r;
        typed = type_makes f (named_by f s) (pos 7) (stands_begins f (named_by f s) n) e.typed;
        values = values_make s (stands_reach f (named_by f s) 8 n n.wide)
            ((vvr_law f (named_by f s) _ _).1 (record {
              reach = stands_reach f (named_by f s) 8 n n.wide;
              right = eq-eqb (size_at f (named_by f s)) (value_size s) e.size;
            }));
      },
    )

    -- ---- an entry, by the levels below it
    pub entry_right : (n : ℕ) (above : List Slot) (c : Carried) (s : Slot) → EntryGood f k v n above c s → EntryRight f k v n s
    entry_right zero above c s g = lowest_right f k v s (range_right above c.floor s g.1.range, values_right above c s g.1)
    entry_right (suc n) above c s (inl g) = (range_right above c.floor s g.1.range, inl (values_right above c s g.1))
    entry_right (suc n) above c s (inr g) =
        let ss = lower_slots f s in
        let d = rules.down c s in
        let r = lower_parts (named_by f s) g.1.lower in
        let each = row_each n (s ∷ above) ss d g.2 in (
          range_right above c.floor s g.1.range,
          inr (record {
            typed = g.0;
            right = r.0;
            alone = r.1;
            entries = λ earlier later t q. let e = each t (split_in ss earlier later t q) in entry_right n (s ∷ above) e.0 t e.1;
            rise = row_rises n (s ∷ above) d ss g.2;
            within = λ earlier later t q.
                let e = each t (split_in ss earlier later t q) in
                let w = ranged_of n (s ∷ above) e.0 t e.1 in
                (omega (arith, e.2, w.above), omega (arith, w.under, most_named f s));
          }),
        )

    pub entry_good : (n : ℕ) (above : List Slot) (c : Carried) (s : Slot) → Stands f s.vxr → vxr_right f s.vxr ≡ true → s.entry < used_at f s.vxr
        → ((t : Slot) → t ∈ entries_under f n s → Stands f (named_by f t)) → EntryRight f k v n s → c.floor ≤ first_of f s
        → last_of f s ≤ most_of (levels_of f above).a
        → EntryGood f k v n above c s
    entry_good zero above c s x w i ok e h b =
        let p = lowest_parts f k v s e in
        values_good above c s (range_good above c.floor s x w i p.0 h b) (ok s (inl refl)) p.1
    entry_good (suc n) above c s x w i ok (e, inl p) h b = inl (values_good above c s (range_good above c.floor s x w i e h b) (ok s (inl refl)) p)
    entry_good (suc n) above c s x w i ok (e, inr p) h b =
        let y = ok s (inl refl) in
        let ss = lower_slots f s in
        inr (
          p.typed,
          record { range = range_good above c.floor s x w i e h b; lower = lower_makes (named_by f s) y p.right p.alone },
          rise_row n (s ∷ above) ss (rules.down c s) (λ t later q. (p.within [] later t q).0)
              (λ t m d g.
              let q = in_slots (named_by f s) 0 (used_at f (named_by f s)) t m in
              entry_good n (s ∷ above) d t (subst (Stands f) (sym q.0) y) (subst (λ (o : ℕ). vxr_right f o ≡ true) (sym q.0) p.right)
              (subst (λ (o : ℕ). t.entry < used_at f o) (sym q.0) (omega (arith, q.1)))
              (λ u j. ok u (under_lower f n s t u p.typed m j)) (each_in (EntryRight f k v n) ss p.entries t m) g
              (omega (arith, most_named f s, (each_in (λ t. (first_of f s ≤ first_of f t) × (last_of f t ≤ last_of f s)) ss p.within t m).1)))
              p.rise,
        )

    -- ---- the end of the chain
    covers_parts : (s : Slot) → covers f v (entry_is f s) ≡ true → (first_of f s ≤ nat_at f (v + 16)) × (nat_at f (v + 16) ≤ last_of f s)
    covers_parts s e =
        let a = (both (at_least f (v + 16) (pos 0)) (leb (first_of f s) (nat_at f (v + 16)) && leb (nat_at f (v + 16)) (last_of f s)) e).1 in
        let b = both (leb (first_of f s) (nat_at f (v + 16))) (leb (nat_at f (v + 16)) (last_of f s)) a in
        (leb-true (first_of f s) (nat_at f (v + 16)) b.0, leb-true (nat_at f (v + 16)) (last_of f s) b.1)

    Covered : List ℕ → Type 0
    Covered xs =
        (is_at f (v + 16) (negsuc 0) ≡ true) ⊎
        ((s : Slot) × (s ∈ lowest_entries f xs) × (first_of f s ≤ nat_at f (v + 16)) × (nat_at f (v + 16) ≤ last_of f s))

    end_reads : (xs : List ℕ) → chain_tally f v (head_or0 (reverse_aux xs [])) (chain_carried f k v (reverse_aux xs [])).covered ≡ 0
        → (is_at f (v + 24) (pos (last_or0 xs)) ≡ true) × Covered xs
    unfolding chain_tally Covered
    end_reads xs e =
        let c = (chain_carried f k v (reverse_aux xs [])).covered in
        let p = zeros (field_number f (v + 24) (pos (head_or0 (reverse_aux xs []))) ∷ unless 12 (is_at f (v + 16) (negsuc 0) || c) ∷ []) e in (
          is_moved f (v + 24) (last_back xs) (field_reads f (v + 24) (pos (head_or0 (reverse_aux xs []))) (p 0)).1,
          go (is_at f (v + 16) (negsuc 0)) refl (unless_zero 11 (is_at f (v + 16) (negsuc 0) || c) (p 1)),
        )
      where
        some : (false ≡ true) ⊎ ((s : Slot) × (s ∈ lowest_entries f xs) × (covers f v (entry_is f s) ≡ true)) → Covered xs
        some (inl h) = absurd (true≢false (sym h))
        some (inr h) = let q = covers_parts h.0 h.2 in inr (h.0, h.1, q.0, q.1)

        go : (b : Bool) → is_at f (v + 16) (negsuc 0) ≡ b → (b || (chain_carried f k v (reverse_aux xs [])).covered) ≡ true → Covered xs
        go true q h = inl q
        go false q h = some (covered_some (lowest_entries f xs) false (sym (chain_covered xs []) ∙ h))

    end_makes : (xs : List ℕ) → v + 28 ≤ end_of f → is_at f (v + 24) (pos (last_or0 xs)) ≡ true → Covered xs
        → chain_tally f v (head_or0 (reverse_aux xs [])) (chain_carried f k v (reverse_aux xs [])).covered ≡ 0
    unfolding chain_tally Covered
    end_makes xs l t h = rw (last_back xs, field_makes f (v + 24) (pos (last_or0 xs)) (omega arith) t, go h)
      where
        least : at_least f (v + 16) (negsuc 0) ≡ true
        least = max_rec_least f v vdr.fields

        at : (s : Slot) → s ∈ lowest_entries f xs → first_of f s ≤ nat_at f (v + 16) → nat_at f (v + 16) ≤ last_of f s → (b : Bool)
            → at_least f (v + 16) (pos 0) ≡ b
            → (is_at f (v + 16) (negsuc 0) || (chain_carried f k v (reverse_aux xs [])).covered) ≡ true
        at s m lo hi true e =
            let c : covers f v (entry_is f s) ≡ true =
            rw (e, le-leb (first_of f s) (nat_at f (v + 16)) lo, le-leb (nat_at f (v + 16)) (last_of f s) hi) in
            rw (chain_covered xs [] ∙ some_covered (lowest_entries f xs) false (inr (s, m, c))) (or-true (is_at f (v + 16) (negsuc 0)))
        at s m lo hi false e = or_left (is_at f (v + 16) (negsuc 0)) (chain_carried f k v (reverse_aux xs [])).covered (is_minus_one f (v + 16) least e)

        go : (is_at f (v + 16) (negsuc 0) ≡ true) ⊎ ((s : Slot) × (s ∈ lowest_entries f xs) × (first_of f s ≤ nat_at f (v + 16)) × (nat_at f (v + 16) ≤ last_of f s))
            → (is_at f (v + 16) (negsuc 0) || (chain_carried f k v (reverse_aux xs [])).covered) ≡ true
        go (inl e) = or_left (is_at f (v + 16) (negsuc 0)) (chain_carried f k v (reverse_aux xs [])).covered e
        go (inr s) = at s.0 s.1 s.2 s.3 (at_least f (v + 16) (pos 0)) refl

    -- ---- the whole index
    pub index_reads : (xs : List ℕ) → Listed f (chain_rules f k v) [] (v + 20) xs → IndexRight f k v xs
    unfolding Covered
    index_reads xs l =
        let a = listed_reads f (chain_rules f k v) (v + 20) xs l in
        let e = a.each in
        let g = along_rows xs [] (each_along row_of xs (λ earlier later x q. (e earlier later x q).1)) in
        let t = end_reads xs a.tally in
        record {
          linked = a.linked;
          typed = λ earlier later x q. (type_reads f x (pos 6) (e earlier later x q).0.0).1;
          right = λ earlier later x q. vxr_reads x (e earlier later x q).0.1;
          entries = λ earlier later s q.
              let r = row_each levels_below [] (used_entries f xs) (carried 0 false) g s (split_in (used_entries f xs) earlier later s q) in
              entry_right levels_below [] r.0 s r.1;
          rise = λ earlier later a b e. omega (arith, row_rises levels_below [] (carried 0 false) (used_entries f xs) g earlier later a b e);
          tail = t.0;
          covered = t.1;
        }

    pub index_makes : (xs : List ℕ) → v + 28 ≤ end_of f → ((o : ℕ) → o ∈ index_offsets f xs → Stands f o) → IndexRight f k v xs
        → Listed f (chain_rules f k v) [] (v + 20) xs
    unfolding Covered
    index_makes xs h ok r =
        listed_makes f (chain_rules f k v) (v + 20) xs (omega arith) r.linked
        (λ earlier later x q.
        let s = stands x (split_in xs earlier later x q) in
        let w = r.right earlier later x q in
        let z = (vxr_size f x w).0 in (
          stands_nonzero f x s,
          (type_makes f x (pos 6) (stands_begins f x s) (r.typed earlier later x q), vxr_makes x s w),
          rows earlier later x q,
          let i = s.inside in omega arith,
        ))
        (end_makes xs h r.tail r.covered)
      where
        stands : (x : ℕ) → x ∈ xs → Stands f x
        stands x m = ok x (offset_in (λ x. x) (λ x. named_by_all f (flat (entries_under f levels_below) (slots_of f x))) xs x m)

        slot : (s : Slot) → s ∈ used_entries f xs → (c : Carried) → c.floor ≤ first_of f s → EntryGood f k v levels_below [] c s
        slot s m c h =
            let u = in_used f xs s m in
            entry_good levels_below [] c s (stands s.vxr u.0) (each_in (λ x. vxr_right f x ≡ true) xs r.right s.vxr u.0) u.1
            (λ t j. ok (named_by f t) (used_named f xs s t m j)) (each_in (EntryRight f k v levels_below) (used_entries f xs) r.entries s m) h
            (omega (arith, most_top, nat_small f (last_at f s)))

        rows : Each xs (λ earlier x. row_of (reverse_aux earlier []) x)
        rows = along_each row_of xs (rows_along xs [] (rise_row levels_below [] (used_entries f xs) (carried 0 false) (λ s later e. omega arith) slot
            (λ earlier later a b e. omega (arith, r.rise earlier later a b e))))
