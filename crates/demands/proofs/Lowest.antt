-- The lowest entries of an index rise: so at most one of them covers a record number. Assumes nothing.
use mathlib.Core.Path.{◌≡◌, refl, sym, ap, ◌∙◌}
use mathlib.Core.Logic.{inl, inr}
use mathlib.Core.List.{List, [], ◌∷◌, ◌++◌}
use Prim.Native.Nat.{ℕ, zero, suc, ◌+◌, ◌≤◌, ◌<◌}
use native.Mathlib.Omega.{arith}
use Rattle.records.specs.Tree.{Slot, used_entries, first_at, last_at, first_of, last_of, named_by, levels_below, flat, lower_slots, lowest, lowest_entries}
use Rattle.records.proofs.Ranges.{order_natural}
use Rattle.demands.specs.Acceptance.{◌∈◌, Consecutive, RangeRight, EntryRight, IndexRight}
use Rattle.demands.proofs.Splits.{each_in}
use Rattle.demands.proofs.IndexFacts.{other_type}

-- ranges that rise from a floor on, each in order
abbrev pub Rises : List ℕ → ℕ → List Slot → Type 0
Rises f floor [] = Unit {0}
Rises f floor (s ∷ ss) = (floor ≤ first_of f s) × (first_of f s ≤ last_of f s) × Rises f (last_of f s + 1) ss

-- no range ends above most
abbrev pub Below : List ℕ → ℕ → List Slot → Type 0
Below f most [] = Unit {0}
Below f most (s ∷ ss) = (last_of f s ≤ most) × Below f most ss

module _ (f : List ℕ) where
  rises_from : (ss : List Slot) (low high : ℕ) → low ≤ high → Rises f high ss → Rises f low ss
  rises_from [] low high h r = tt
  rises_from (s ∷ ss) low high h r = (omega (arith, r.0), r.1, r.2)

  below_to : (ss : List Slot) (low high : ℕ) → low ≤ high → Below f low ss → Below f high ss
  below_to [] low high h r = tt
  below_to (s ∷ ss) low high h r = (omega (arith, r.0), below_to ss low high h r.1)

  below_join : (ss ts : List Slot) (most : ℕ) → Below f most ss → Below f most ts → Below f most (ss ++ ts)
  below_join [] ts most a b = b
  below_join (s ∷ ss) ts most a b = (a.0, below_join ss ts most a.1 b)

  rises_join : (ss ts : List Slot) (floor most : ℕ) → floor ≤ most + 1 → Rises f floor ss → Below f most ss → Rises f (most + 1) ts → Rises f floor (ss ++ ts)
  rises_join [] ts floor most h a b r = rises_from ts floor (most + 1) h r
  rises_join (s ∷ ss) ts floor most h a b r = (a.0, a.1, rises_join ss ts (last_of f s + 1) most (omega (arith, b.0)) a.2 b.1 r)

  -- rows that rise, by the rule that consecutive ranges do
  row_rises : (ss : List Slot) (floor : ℕ) → ((s : Slot) → s ∈ ss → RangeRight f s) → ((s : Slot) (later : List Slot) → ss ≡ s ∷ later → floor ≤ first_of f s)
      → Consecutive ss (λ a b. last_of f a < first_of f b) → Rises f floor ss
  row_rises [] floor r h c = tt
  row_rises (s ∷ ss) floor r h c = (
    h s ss refl,
    order_natural f (first_at s) (last_at f s) (r s (inl refl)).last,
    row_rises ss (last_of f s + 1) (λ t m. r t (inr m)) (λ t later e. omega (arith, c [] later s t (ap (λ (l : List Slot). s ∷ l) e)))
        (λ earlier later a b e. c (s ∷ earlier) later a b (ap (λ (l : List Slot). s ∷ l) e)),
  )

  row_below : (ss : List Slot) (most : ℕ) → ((s : Slot) → s ∈ ss → last_of f s ≤ most) → Below f most ss
  row_below [] most h = tt
  row_below (s ∷ ss) most h = (h s (inl refl), row_below ss most (λ t m. h t (inr m)))

  -- what lies under each entry lies in its range, so all of it rises
  abbrev pub Nested : ℕ → Slot → Type 0
  Nested n s = Rises f (first_of f s) (lowest f n s) × Below f (last_of f s) (lowest f n s)

  flat_rises : (n : ℕ) (ss : List Slot) (floor : ℕ) → Rises f floor ss → ((s : Slot) → s ∈ ss → Nested n s) → Rises f floor (flat (lowest f n) ss)
  flat_rises n [] floor r h = tt
  flat_rises n (s ∷ ss) floor r h =
      let g = h s (inl refl) in
      rises_join (lowest f n s) (flat (lowest f n) ss) floor (last_of f s) (omega (arith, r.0, r.1))
      (rises_from (lowest f n s) floor (first_of f s) r.0 g.0) g.1
      (flat_rises n ss (last_of f s + 1) r.2 (λ t m. h t (inr m)))

  flat_below : (n : ℕ) (ss : List Slot) (most : ℕ) → Below f most ss → ((s : Slot) → s ∈ ss → Nested n s) → Below f most (flat (lowest f n) ss)
  flat_below n [] most b h = tt
  flat_below n (s ∷ ss) most b h =
      below_join (lowest f n s) (flat (lowest f n) ss) most (below_to (lowest f n s) (last_of f s) most b.0 (h s (inl refl)).1)
      (flat_below n ss most b.1 (λ t m. h t (inr m)))

  module _ (k v : ℕ) where
    range_of : (n : ℕ) (s : Slot) → EntryRight f k v n s → RangeRight f s
    range_of zero s e = e.0
    range_of (suc n) s e = e.0

    alone : (s : Slot) → RangeRight f s → Rises f (first_of f s) (s ∷ []) × Below f (last_of f s) (s ∷ [])
    alone s r = ((omega arith, order_natural f (first_at s) (last_at f s) r.last, tt), (omega arith, tt))

    pub nested : (n : ℕ) (s : Slot) → EntryRight f k v n s → Nested n s
    nested zero s e = alone s e.0
    nested (suc n) s (r, inl e) = rw (other_type f (named_by f s) e.typed) (alone s r)
    nested (suc n) s (r, inr e) =
        let ss = lower_slots f s in
        let g : (t : Slot) → t ∈ ss → EntryRight f k v n t = each_in (EntryRight f k v n) ss e.entries in
        let w = each_in (λ t. (first_of f s ≤ first_of f t) × (last_of f t ≤ last_of f s)) ss e.within in
        let h : (t : Slot) → t ∈ ss → Nested n t = λ t m. nested n t (g t m) in
        rw e.typed (
          flat_rises n ss (first_of f s) (row_rises ss (first_of f s) (λ t m. range_of n t (g t m)) (λ t later q. (e.within [] later t q).0) e.rise) h,
          flat_below n ss (last_of f s) (row_below ss (last_of f s) (λ t m. (w t m).1)) h,
        )

    -- THE LEMMA of the reader: the lowest entries of an index rise
    pub lowest_rise : (xs : List ℕ) → IndexRight f k v xs → Rises f 0 (lowest_entries f xs)
    lowest_rise xs i =
        let ss = used_entries f xs in
        let g = each_in (EntryRight f k v levels_below) ss i.entries in
        flat_rises levels_below ss 0 (row_rises ss 0 (λ s m. range_of levels_below s (g s m)) (λ s later e. omega arith) i.rise)
        (λ s m. nested levels_below s (g s m))

  -- at most one of ranges that rise covers a number
  after : (ss : List Slot) (floor r : ℕ) (t : Slot) → Rises f floor ss → t ∈ ss → first_of f t ≤ r → floor ≤ r
  after [] floor r t h m a = absurd m
  after (s ∷ ss) floor r t h (inl e) a = let z : first_of f t ≡ first_of f s = ap (first_of f) e in omega (arith, h.0, a, z)
  after (s ∷ ss) floor r t h (inr m) a = omega (arith, h.0, h.1, after ss (last_of f s + 1) r t h.2 m a)

  pub covered_once : (ss : List Slot) (floor r : ℕ) (s t : Slot) → Rises f floor ss → s ∈ ss → t ∈ ss
      → first_of f s ≤ r → r ≤ last_of f s → first_of f t ≤ r → r ≤ last_of f t → s ≡ t
  covered_once [] floor r s t h m n a b c d = absurd m
  covered_once (u ∷ ss) floor r s t h (inl e) (inl g) a b c d = e ∙ sym g
  covered_once (u ∷ ss) floor r s t h (inl e) (inr n) a b c d =
      let z : last_of f s ≡ last_of f u = ap (last_of f) e in absurd (omega (arith, b, z, after ss (last_of f u + 1) r t h.2 n c))
  covered_once (u ∷ ss) floor r s t h (inr m) (inl g) a b c d =
      let z : last_of f t ≡ last_of f u = ap (last_of f) g in absurd (omega (arith, d, z, after ss (last_of f u + 1) r s h.2 m a))
  covered_once (u ∷ ss) floor r s t h (inr m) (inr n) a b c d = covered_once ss (last_of f u + 1) r s t h.2 m n a b c d
