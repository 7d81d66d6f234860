-- The used entries of a VXR, one at a time and as a list. Assumes nothing.
use mathlib.Core.Path.{◌≡◌, refl, sym, ap, ◌∙◌}
use mathlib.Core.Bool.{Bool, true, false, cond}
use mathlib.Core.List.{List, [], ◌∷◌}
use Prim.Native.Nat.{ℕ, zero, suc, ◌+◌, ◌-◌, ◌≤◌, ◌<◌}
use native.Mathlib.Omega.{arith}
use native.Mathlib.Numerals.{add-one}
use borrow.Author.Tests.{eq-eqb, ne_eqb, eqb-true, leb-true}
use lib.Dec.{leb, eqb}
use Rattle.records.specs.Index.{entry_covers, entry_of}
use Rattle.records.specs.Bounds.{Bounds}
use Rattle.records.specs.Tree.{Slot, slots_from, last_of}
use Rattle.records.proofs.Ranges.{entry_is_lem, entry_reads}
use Rattle.records.specs.Index.{Entry}
use Rattle.records.specs.declared.index.Range.{Range}
use Rattle.format.proofs.Tests.{both}
use Rattle.lookup.specs.declared.indexes.Scan.{Scan}
use Rattle.lookup.specs.declared.indexes.Scan.TheVariants.{Covering, Passed}
use Rattle.lookup.specs.Indexes.{range_of, range_covers, scanned}
use Rattle.lookup.specs.Bounds.{EntryFits}
use Rattle.lookup.specs.Entries.{slot_entry}
use Rattle.std.specs.Prelude.{Result, Ok, Err}
use Rattle.lookup.specs.declared.refusals.Refusal.{Refusal}
use Rattle.lookup.specs.declared.refusals.Refusal.TheVariants.{Breach}

-- the entry that covers a record has small numbers
pub covering_fits : {f : List ℕ} {x r : ℕ} {e : Entry} → Bounds f x e → entry_covers e r ≡ true → EntryFits r (range_of e)
covering_fits {f} {x} {r} {e} b c =
    record {
      first = leb-true e.first r (both (leb e.first r) (leb r e.last) c).0;
      last = leb-true r e.last (both (leb e.first r) (leb r e.last) c).1;
      small = b.small;
      link = b.link;
    }

-- what was asked of the used entries of the VXR at x is still asked of those from i on, none of which may begin below lowest
pub record StillScans (f : List ℕ) (x r most used floor i lowest : ℕ) : Type 0 where
  pub small : lowest ≤ 2147483648
  pub same : scanned f x r most used 0 floor ≡ scanned f x r most (used - i) i lowest

module _ {f : List ℕ} {x r most used floor i lowest : ℕ} (q : StillScans f x r most used floor i lowest) where
  -- the entry e is looked at
  module _ {e : Entry} (is : e ≡ entry_of f x i lowest most) (some : i < used) where
    abbrev looked : ℕ → Entry → Result Scan Refusal
    looked n d = cond (eqb d.fault 0) (cond (entry_covers d r) (Ok (Covering (range_of d))) (scanned f x r most n (suc i) (suc d.last))) (Err Breach)

    first_looked : scanned f x r most used 0 floor ≡ looked (used - suc i) e
    unfolding scanned
    first_looked =
        let one : used - i ≡ suc (used - suc i) = omega (arith, some) in
        q.same ∙ ap (λ (n : ℕ). scanned f x r most n i lowest) one ∙ ap (looked (used - suc i)) (sym is)

    pub scan_broken : (e.fault ≡ 0 → ⊥) → Err Breach ≡ scanned f x r most used 0 floor
    scan_broken z = rw (first_looked, ne_eqb e.fault 0 z)

    module _ (right : e.fault ≡ 0) where
      pub scan_covering : entry_covers e r ≡ true → Ok (Covering (range_of e)) ≡ scanned f x r most used 0 floor
      scan_covering c = rw (first_looked, eq-eqb e.fault 0 right, c)

      pub scan_more : entry_covers e r ≡ false → scanned f x r most used 0 floor ≡ scanned f x r most (used - (i + 1)) (i + 1) (e.last + 1)
      scan_more c = rw (first_looked, eq-eqb e.fault 0 right, c, add-one, add-one)

  pub scan_none : used ≤ i → Ok (Passed lowest) ≡ scanned f x r most used 0 floor
  unfolding scanned
  scan_none h =
      let none : used - i ≡ 0 = omega (arith, h) in
      let passed : Ok (Passed lowest) ≡ scanned f x r most (used - i) i lowest = rw none in
      passed ∙ sym q.same

-- ---- the same along a list of slots

-- an entry that keeps its rule says what its slot says
pub entry_slot : (f : List ℕ) (s : Slot) (floor most : ℕ) → (entry_of f s.vxr s.entry floor most).fault ≡ 0
    → range_of (entry_of f s.vxr s.entry floor most) ≡ slot_entry f s
entry_slot f s floor most e = ap range_of (entry_is_lem f s.vxr s.entry floor most (entry_reads f s.vxr s.entry floor most e))

abbrev pub scan_along_lem : List ℕ → ℕ → ℕ → ℕ → List Slot → Result Scan Refusal
scan_along_lem f r most floor [] = Ok (Passed floor)
scan_along_lem f r most floor (s ∷ ss) =
    cond (eqb (entry_of f s.vxr s.entry floor most).fault 0)
    (cond (range_covers (slot_entry f s) r) (Ok (Covering (slot_entry f s))) (scan_along_lem f r most (suc (last_of f s)) ss)) (Err Breach)

pub scan_along : (f : List ℕ) (x r most n i floor : ℕ) → scanned f x r most n i floor ≡ scan_along_lem f r most floor (slots_from x i n)
unfolding scanned
scan_along f x r most zero i floor = refl
scan_along f x r most (suc n) i floor =
    go (entry_of f x i floor most) (eqb (entry_of f x i floor most).fault 0) refl (λ e. entry_slot f s floor most e)
    (scan_along f x r most n (suc i) (suc (last_of f s)) ∙ ap (λ (j : ℕ). scan_along_lem f r most (suc (last_of f s)) (slots_from x j n)) (sym (add-one i)))
  where
    s : Slot
    s = record { vxr = x; entry = i }

    go : (e : Entry) (b : Bool) → eqb e.fault 0 ≡ b → (e.fault ≡ 0 → range_of e ≡ slot_entry f s)
        → scanned f x r most n (suc i) (suc (last_of f s)) ≡ scan_along_lem f r most (suc (last_of f s)) (slots_from x (i + 1) n)
        → cond b (cond (entry_covers e r) (Ok (Covering (range_of e))) (scanned f x r most n (suc i) (suc e.last))) (Err Breach)
        ≡ cond b (cond (range_covers (slot_entry f s) r) (Ok (Covering (slot_entry f s))) (scan_along_lem f r most (suc (last_of f s)) (slots_from x (i + 1) n))) (Err Breach)
    go e true h is ih =
        ap (λ (d : Range). cond (range_covers d r) (Ok (Covering d)) (scanned f x r most n (suc i) (suc d.last))) (is (eqb-true e.fault 0 h))
        ∙ ap (λ (q : Result Scan Refusal). cond (range_covers (slot_entry f s) r) (Ok (Covering (slot_entry f s))) q) ih
    go e false h is ih = refl
