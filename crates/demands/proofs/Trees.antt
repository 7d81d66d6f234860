-- A walk in depth-first order over the index records of a file goes through each record's entries exactly if they keep the rules of
-- their levels, and claims just what they name, each before what is under it. The walk is any walk; the tree is the file's. Assumes nothing.
use mathlib.Core.Path.{◌≡◌, refl, sym, ap, ◌∙◌, subst}
use mathlib.Core.Logic.{◌⊎◌, inl, inr}
use mathlib.Core.Bool.{Bool, true, false, cond, true≢false}
use mathlib.Core.List.{List, [], ◌∷◌, ◌++◌, append-nil}
use Prim.Native.Nat.{ℕ, zero, suc, ◌+◌, ◌<◌}
use native.Mathlib.Omega.{arith}
use lib.ListN.{length}
use Rattle.records.specs.Index.{used_at}
use Rattle.records.specs.Tree.{Slot, slots_from, named_by, named_by_all, levels_below, flat, names_index, lower_slots, entries_under}
use Rattle.demands.proofs.Goes.{Ends, Goes, stays, goes_on, goes_as, goes_nowhere}

-- entry i of the record at x, and the one after an entry
abbrev pub slot : ℕ → ℕ → Slot
slot x i = record { vxr = x; entry = i }

abbrev pub next_slot : Slot → Slot
next_slot s = slot s.vxr (s.entry + 1)

-- a row of entries, each with what is carried to it
abbrev pub Row : {C : Type 0} → (C → Slot → Type 0) → (C → Slot → C) → C → List Slot → Type 0
Row Good after c [] = Unit {0}
Row Good after c (s ∷ ss) = Good c s × Row Good after (after c s) ss

abbrev pub row_after : {C : Type 0} → (C → Slot → C) → C → List Slot → C
row_after after c [] = c
row_after after c (s ∷ ss) = row_after after (after c s) ss

names_join : (f : List ℕ) (ss ts : List Slot) → named_by_all f (ss ++ ts) ≡ named_by_all f ss ++ named_by_all f ts
names_join f [] ts = refl
names_join f (s ∷ ss) ts = ap (λ (l : List ℕ). named_by f s ∷ l) (names_join f ss ts)

-- what is carried along, a C, and the rules of an entry; `above` are the entries that led down to it, the nearest first
pub record TreeRules (C : Type 0) : Type 1 where
  pub past : C → Slot → C  -- past an entry that names values
  pub down : C → Slot → C  -- into the record that an entry names
  pub back : C → Slot → C → C  -- and back from it
  pub values : List Slot → C → Slot → Type 0  -- the rule of an entry that names values
  pub lower : List Slot → C → Slot → Type 0  -- of one that names an index record

module _ {C : Type 0} (f : List ℕ) (r : TreeRules C) where
  -- what is carried after an entry below which n levels may lie
  abbrev pub after_slot : ℕ → C → Slot → C
  after_slot zero c s = r.past c s
  after_slot (suc n) c s = cond (names_index f s) (r.back c s (row_after (after_slot n) (r.down c s) (lower_slots f s))) (r.past c s)

  -- its rule
  abbrev pub SlotGood : ℕ → List Slot → C → Slot → Type 0
  SlotGood zero above c s = (names_index f s ≡ false) × r.values above c s
  SlotGood (suc n) above c s =
      ((names_index f s ≡ false) × r.values above c s)
      ⊎ ((names_index f s ≡ true) × r.lower above c s × Row (SlotGood n (s ∷ above)) (after_slot n) (r.down c s) (lower_slots f s))

-- ---- any walk whose steps at an entry, and at the end of a lower record, are these
module _ {Position C : Type 0} (Step : (Position → List ℕ → Type 0) → Position → List ℕ → Type 0) (f : List ℕ) (r : TreeRules C)
    (at : List Slot → C → Slot → Position)
    (values_go : (above : List Slot) (c : C) (s : Slot) → s.entry < used_at f s.vxr → names_index f s ≡ false
    → Goes Step (at above c s) (r.values above c s) (named_by f s ∷ []) (at above (r.past c s) (next_slot s)))
    (lower_goes : (above : List Slot) (c : C) (s : Slot) → length above < levels_below → s.entry < used_at f s.vxr → names_index f s ≡ true
    → Goes Step (at above c s) (r.lower above c s) (named_by f s ∷ []) (at (s ∷ above) (r.down c s) (slot (named_by f s) 0)))
    (full_stays : (above : List Slot) (c : C) (s : Slot) → length above ≡ levels_below → s.entry < used_at f s.vxr → names_index f s ≡ true
    → (j : ℕ) (cs : List ℕ) → Step (Ends Step j) (at above c s) cs → ⊥)
    (rise_goes : (above : List Slot) (c d : C) (s : Slot) → length above < levels_below → r.lower above c s
    → Goes Step (at (s ∷ above) d (slot (named_by f s) (used_at f (named_by f s)))) (Unit {0}) [] (at above (r.back c s d) (next_slot s)))
  where
    abbrev After : ℕ → C → Slot → C
    After n = after_slot f r n

    abbrev Good : ℕ → List Slot → C → Slot → Type 0
    Good n = SlotGood f r n

    abbrev SlotGoes : ℕ → Type 0
    SlotGoes n = (above : List Slot) (c : C) (s : Slot) → length above + n ≡ levels_below → s.entry < used_at f s.vxr
        → Goes Step (at above c s) (Good n above c s) (named_by_all f (entries_under f n s)) (at above (After n c s) (next_slot s))

    abbrev RowGoes : ℕ → Type 0
    RowGoes n = (m : ℕ) (above : List Slot) (c : C) (x i : ℕ) → length above + n ≡ levels_below → i + m ≡ used_at f x
        → Goes Step (at above c (slot x i)) (Row (Good n above) (After n) c (slots_from x i m)) (named_by_all f (flat (entries_under f n) (slots_from x i m)))
        (at above (row_after (After n) c (slots_from x i m)) (slot x (used_at f x)))

    -- the entries of a record, by those of one entry
    row_goes : (n : ℕ) → SlotGoes n → RowGoes n
    row_goes n one zero above c x i l h =
        let e : i ≡ used_at f x = omega arith in
        subst (λ (j : ℕ). Goes Step (at above c (slot x i)) (Unit {0}) [] (at above c (slot x j))) e (stays Step (at above c (slot x i)))
    row_goes n one (suc m) above c x i l h =
        let s = slot x i in
        goes_as Step (λ p. p, λ p. p) (sym (names_join f (entries_under f n s) (flat (entries_under f n) (slots_from x (i + 1) m))))
        (goes_on Step (at above c s) (one above c s l (omega arith)) (λ g. row_goes n one m above (After n c s) x (i + 1) l (omega arith)))

    slot_zero : SlotGoes zero
    slot_zero above c s l h = go (names_index f s) refl
      where
        go : (b : Bool) → names_index f s ≡ b → Goes Step (at above c s) (Good zero above c s) (named_by f s ∷ []) (at above (r.past c s) (next_slot s))
        go true e = goes_nowhere Step (at above c s) (named_by f s ∷ []) (full_stays above c s (omega arith) h e) (λ g. true≢false (sym e ∙ g.0))
        go false e = goes_as Step (λ v. (e, v), λ g. g.1) refl (values_go above c s h e)

    -- one level more
    slot_suc : (n : ℕ) → RowGoes n → SlotGoes (suc n)
    slot_suc n row above c s l h = go (names_index f s) refl
      where
        y : ℕ
        y = named_by f s

        inner : C
        inner = row_after (After n) (r.down c s) (lower_slots f s)

        Below : Type 0
        Below = Row (Good n (s ∷ above)) (After n) (r.down c s) (lower_slots f s)

        under : List ℕ
        under = named_by_all f (flat (entries_under f n) (lower_slots f s))

        lowered : names_index f s ≡ true
            → Goes Step (at above c s) (r.lower above c s × (Below × Unit {0})) ((y ∷ []) ++ (under ++ [])) (at above (r.back c s inner) (next_slot s))
        lowered e =
            goes_on Step (at above c s) (lower_goes above c s (omega arith) h e)
            (λ g. goes_on Step (at (s ∷ above) (r.down c s) (slot y 0)) (row (used_at f y) (s ∷ above) (r.down c s) y 0 (omega arith) (omega arith))
            (λ b. rise_goes above c inner s (omega arith) g))

        only : names_index f s ≡ true → Good (suc n) above c s → r.lower above c s × (Below × Unit {0})
        only e (inl g) = absurd (true≢false (sym e ∙ g.0))
        only e (inr g) = (g.1, (g.2, tt))

        plain : names_index f s ≡ false → Good (suc n) above c s → r.values above c s
        plain e (inl g) = g.1
        plain e (inr g) = absurd (true≢false (sym g.0 ∙ e))

        go : (b : Bool) → names_index f s ≡ b
            → Goes Step (at above c s) (Good (suc n) above c s) (named_by_all f (s ∷ cond b (flat (entries_under f n) (lower_slots f s)) []))
            (at above (cond b (r.back c s inner) (r.past c s)) (next_slot s))
        go true e = goes_as Step (λ g. inr (e, g.0, g.1.0), only e) (ap (λ (l : List ℕ). y ∷ l) (append-nil under)) (lowered e)
        go false e = goes_as Step (λ v. inl (e, v), plain e) refl (values_go above c s h e)

    slots_go : (n : ℕ) → SlotGoes n
    slots_go zero = slot_zero
    slots_go (suc n) = slot_suc n (row_goes n (slots_go n))

    -- THE LEMMA: all entries of a record below which n levels may lie
    pub rows_go : (n : ℕ) → RowGoes n
    rows_go n = row_goes n (slots_go n)
