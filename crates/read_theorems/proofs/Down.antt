-- The way through an index to the lowest entry that covers a record, of any file. Assumes nothing.
use mathlib.Core.Path.{◌≡◌, refl, sym, ◌∙◌, subst}
use mathlib.Core.Logic.{◌⊎◌, inl, inr}
use mathlib.Core.Bool.{Bool, true, false, cond, true≢false}
use mathlib.Core.List.{List, [], ◌∷◌, ◌++◌}
use Prim.Native.Nat.{ℕ, zero, suc, ◌+◌, ◌≤◌}
use native.Mathlib.Omega.{arith}
use lib.Dec.{leb}
use lib.IntN.{ℤ}
use lib.ListN.{length}
use borrow.Author.Tests.{leb-true, le-leb}
use Rattle.format.specs.Fields.{link_at}
use Rattle.records.specs.Layout.{head_of_index}
use Rattle.records.specs.Index.{no_limit, entry_of}
use Rattle.records.specs.Tree.{Slot, used_entries, first_of, last_of, levels_below, flat, names_index, lower_slots, lowest, entries_under}
use Rattle.records.specs.declared.index.Range.{Range}
use Rattle.records.proofs.Ranges.{entry_reads}
use Rattle.lookup.specs.Indexes.{range_covers, index_met, record_read}
use Rattle.lookup.specs.Entries.{All, records, slot_entry}
use Rattle.format.proofs.Tests.{both}
use Rattle.lookup.proofs.Sought.{nth}
use Rattle.lookup.proofs.Chains.{Passes, Scanned, Under, ToLowest}
use Rattle.demands.specs.Acceptance.{◌∈◌}
use Rattle.demands.proofs.Splits.{split_in, in_left, in_right, in_either}
use Rattle.read_theorems.specs.Reading.{nth_record, CoveredBy, Rise, FirstCovering, WayDown, last_entry, IndexWay}
use Rattle.read_theorems.proofs.Rules.{index_kept, lower_kept}

pub nth_same : (f : List ℕ) (p n : ℕ) → nth f p n ≡ nth_record f p n
nth_same f p zero = refl
nth_same f p (suc n) = nth_same f (link_at f p + 8) n

-- ---- members
pub in_flat : {X Y : Type 0} (of : X → List Y) (xs : List X) (x : X) (y : Y) → x ∈ xs → y ∈ of x → y ∈ flat of xs
in_flat of [] x y m i = absurd m
in_flat {X} of (z ∷ xs) x y (inl e) i = in_left (of z) (flat of xs) y (subst (λ (x : X). y ∈ of x) e i)
in_flat of (z ∷ xs) x y (inr m) i = in_right (of z) (flat of xs) y (in_flat of xs x y m i)

pub out_flat : {X Y : Type 0} (of : X → List Y) (xs : List X) (y : Y) → y ∈ flat of xs → (x : X) × (x ∈ xs) × (y ∈ of x)
out_flat of [] y m = absurd m
out_flat {X} of (x ∷ xs) y m = go (in_either (of x) (flat of xs) y m) (out_flat of xs y)
  where
    go : (y ∈ of x) ⊎ (y ∈ flat of xs) → (y ∈ flat of xs → (z : X) × (z ∈ xs) × (y ∈ of z)) → (z : X) × (z ∈ (x ∷ xs)) × (y ∈ of z)
    go (inl i) ih = (x, inl refl, i)
    go (inr i) ih = let r = ih i in (r.0, inr r.1, r.2)

pub only : {X : Type 0} (x y : X) → y ∈ (x ∷ []) → y ≡ x
only x y (inl e) = e
only x y (inr m) = absurd m

all_in_lem : {X : Type 0} (Q : X → Type 0) (xs : List X) → All Q xs → (x : X) → x ∈ xs → Q x
all_in_lem Q [] h x i = absurd i
all_in_lem Q (y ∷ ys) h x (inl e) = subst Q (sym e) h.0
all_in_lem Q (y ∷ ys) h x (inr i) = all_in_lem Q ys h.1 x i

module _ (f : List ℕ) where
  -- the last entry of a way down is a lowest entry, and covers what its entries cover
  pub last_lowest : (r n : ℕ) (s : Slot) (ts : List Slot) → WayDown f r s ts → length ts ≤ n → last_entry s ts ∈ lowest f n s
  last_lowest r zero s [] d h = inl refl
  last_lowest r zero s (t ∷ ts) d h = absurd (omega arith)
  last_lowest r (suc n) s [] d h = rw d (inl refl)
  last_lowest r (suc n) s (t ∷ ts) d h =
      let q = d.1 in
      rw d.0.named
      (in_flat (lowest f n) (lower_slots f s) t (last_entry t ts) (split_in (lower_slots f s) q.earlier q.later t q.split)
      (last_lowest r n t ts d.2 (omega arith)))

  last_covers : (r : ℕ) (s : Slot) (ts : List Slot) → CoveredBy f r s → WayDown f r s ts → CoveredBy f r (last_entry s ts)
  last_covers r s [] c d = c
  last_covers r s (t ∷ ts) c d = last_covers r t ts d.1.covered d.2

  -- the lowest entries are among those under an entry
  pub lowest_under : (n : ℕ) (s t : Slot) → t ∈ lowest f n s → t ∈ entries_under f n s
  lowest_under zero s t m = m
  lowest_under (suc n) s t m = go (names_index f s) m (λ u. lowest_under n u t)
    where
      go : (b : Bool) → t ∈ cond b (flat (lowest f n) (lower_slots f s)) (s ∷ []) → ((u : Slot) → t ∈ lowest f n u → t ∈ entries_under f n u)
          → t ∈ (s ∷ cond b (flat (entries_under f n) (lower_slots f s)) [])
      go true i ih =
          let w = out_flat (lowest f n) (lower_slots f s) t i in
          inr (in_flat (entries_under f n) (lower_slots f s) w.0 t w.1 (ih w.0 w.2))
      go false i ih = inl (only s t i)

  -- ---- an entry that keeps its rule rises
  rise_first : (s : Slot) (ss : List Slot) (floor most : ℕ) → (entry_of f s.vxr s.entry floor most).fault ≡ 0 → Rise f (suc (last_of f s)) most ss
      → Rise f floor most (s ∷ ss)
  rise_first s ss floor most e h =
      let p = entry_reads f s.vxr s.entry floor most e in
      (record { first = p.least; last = p.order }, p.above, p.under, h)

  pub covers_is : (r : ℕ) (s : Slot) → range_covers (slot_entry f s) r ≡ true → CoveredBy f r s
  covers_is r s e =
      let a = both (leb (first_of f s) r) (leb r (last_of f s)) e in
      record { first = leb-true (first_of f s) r a.0; last = leb-true r (last_of f s) a.1 }

  pub covers_not : (r : ℕ) (s : Slot) → range_covers (slot_entry f s) r ≡ false → CoveredBy f r s → ⊥
  covers_not r s e c = true≢false (sym (rw (le-leb (first_of f s) r c.first, le-leb r (last_of f s) c.last)) ∙ e)

  module _ (r most : ℕ) where
    -- those that were passed rise, and so does one behind them
    passed_rise : (ss : List Slot) (s : Slot) (floor upper : ℕ) → Passes f r most floor ss upper → (entry_of f s.vxr s.entry upper most).fault ≡ 0
        → Rise f floor most (ss ++ (s ∷ []))
    passed_rise [] s floor upper a e = rise_first s [] floor most (subst (λ (l : ℕ). (entry_of f s.vxr s.entry l most).fault ≡ 0) a e) tt
    passed_rise (t ∷ ss) s floor upper a e = rise_first t (ss ++ (s ∷ [])) floor most a.0 (passed_rise ss s (suc (last_of f t)) upper a.2 e)

    -- and do not cover r
    passed_none : (ss : List Slot) (floor upper : ℕ) → Passes f r most floor ss upper → (t : Slot) → t ∈ ss → CoveredBy f r t → ⊥
    passed_none [] floor upper a t m c = absurd m
    passed_none (s ∷ ss) floor upper a t (inl e) c = covers_not r s a.1 (subst (CoveredBy f r) e c)
    passed_none (s ∷ ss) floor upper a t (inr m) c = passed_none ss (suc (last_of f s)) upper a.2 t m c

    -- so what is found is the first that covers r
    first_covering : (floor : ℕ) (ss : List Slot) (e : Range) (w : Scanned f r most floor ss e) → FirstCovering f r floor most ss w.slot
    first_covering floor ss e w = record {
      earlier = w.earlier;
      later = w.later;
      split = w.split;
      rise = passed_rise w.earlier w.slot floor w.upper w.passed w.right;
      none = passed_none w.earlier floor w.upper w.passed;
      covered = covers_is r w.slot w.covers;
    }

  -- ---- down from a slot by m levels, to the entry d
  pub record Below (r m : ℕ) (s : Slot) (d : Range) : Type 0 where
    pub slots : List Slot
    pub down : WayDown f r s slots
    pub many : length slots ≡ m
    pub is : d ≡ slot_entry f (last_entry s slots)

  below : (r m : ℕ) (s : Slot) (d : Range) → Under f r m (slot_entry f s) d → Below r m s d
  below r zero s d u = record { slots = []; down = u.1; many = refl; is = u.0 }
  below r (suc m) s d u =
      let w = u.3 in
      let b = below r m w.slot d (subst (λ (e : Range). Under f r m e d) w.is u.4) in
      record {
        slots = w.slot ∷ b.slots;
        down = (lower_kept f s u.0 u.1, first_covering r (last_of f s) (first_of f s) (lower_slots f s) u.2 w, b.down);
        many = omega (arith, b.many);
        is = b.is;
      }

  -- ---- THE WAY of a lookup, and the lowest entry that it comes to
  pub record Reached (v r : ℕ) (d : Range) (m : ℕ) : Type 0 where
    pub way : IndexWay f v r
    pub deep : length way.below ≡ m
    pub slot : Slot
    pub last : last_entry way.top way.below ≡ slot
    pub is_lowest : slot ∈ lowest f levels_below way.top
    pub covered : CoveredBy f r slot
    pub is : d ≡ slot_entry f slot

  pub reached : (v : ℕ) (r : ℤ) (d : Range) (t : ToLowest f v r d) → Reached v (record_read f v r) d t.down.depth
  reached v r d t =
      let n = record_read f v r in
      let c = t.chained in
      let w = t.down in
      let ss = used_entries f (records f (head_of_index v) c.many) in
      let first = first_covering n no_limit 0 ss t.top c.first in
      let b = below n w.depth c.first.slot d (subst (λ (e : Range). Under f n w.depth e d) c.first.is w.under) in
      record {
        way = record {
          many = c.many;
          rules = λ x m. index_kept f x (all_in_lem (λ x. index_met f x ≡ true) (records f (head_of_index v) c.many) c.met x m);
          top = c.first.slot;
          first = first;
          below = b.slots;
          down = b.down;
          few = omega (arith, b.many, w.few);
        };
        deep = b.many;
        slot = last_entry c.first.slot b.slots;
        last = refl;
        is_lowest = last_lowest n levels_below c.first.slot b.slots b.down (omega (arith, b.many, w.few));
        covered = last_covers n c.first.slot b.slots first.covered b.down;
        is = b.is;
      }
