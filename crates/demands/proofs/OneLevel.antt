-- An index without lower records: its rules are those of one level. Assumes nothing.
use mathlib.Core.Path.{◌≡◌, refl, sym, ◌∙◌}
use mathlib.Core.Logic.{◌↔◌, inl, inr}
use mathlib.Core.Bool.{false, true≢false}
use mathlib.Core.List.{List, [], ◌∷◌}
use Prim.Native.Nat.{ℕ}
use Rattle.records.specs.Tree.{Slot, slots_of, used_entries, named_by_all, levels_below, flat, names_index, lowest, lowest_entries, entries_under}
use Rattle.demands.specs.Acceptance.{◌∈◌, offsets, index_offsets, ValuesRight, RangeRight, EntryRight}
use Rattle.demands.proofs.Splits.{in_left, in_right}

-- of the chain xs: no used entry names an index record
abbrev pub NoLower : List ℕ → List Slot → Type 0
NoLower f ss = (s : Slot) → s ∈ ss → names_index f s ≡ false

-- then each used entry names values, MaxRec lies in the range of a used entry, and what is reached are the VXRs and what they name
pub record OneLevel (f : List ℕ) (k v : ℕ) (xs : List ℕ) : Type 0 where
  pub entries : (s : Slot) → s ∈ used_entries f xs → EntryRight f k v levels_below s ↔ (RangeRight f s × ValuesRight f k v s)
  pub covering : lowest_entries f xs ≡ used_entries f xs
  pub reached : index_offsets f xs ≡ offsets (λ x. x) (λ x. named_by_all f (slots_of f x)) xs

module _ (f : List ℕ) where
  lowest_flat : (ss : List Slot) → NoLower f ss → flat (lowest f levels_below) ss ≡ ss
  lowest_flat [] h = refl
  lowest_flat (s ∷ ss) h = rw (h s (inl refl), lowest_flat ss (λ t m. h t (inr m)))

  under_flat : (ss : List Slot) → NoLower f ss → flat (entries_under f levels_below) ss ≡ ss
  under_flat [] h = refl
  under_flat (s ∷ ss) h = rw (h s (inl refl), under_flat ss (λ t m. h t (inr m)))

  offsets_flat : (xs : List ℕ) → NoLower f (used_entries f xs) → index_offsets f xs ≡ offsets (λ x. x) (λ x. named_by_all f (slots_of f x)) xs
  offsets_flat [] h = refl
  offsets_flat (x ∷ xs) h =
      rw (
        under_flat (slots_of f x) (λ s m. h s (in_left (slots_of f x) (used_entries f xs) s m)),
        offsets_flat xs (λ s m. h s (in_right (slots_of f x) (used_entries f xs) s m)),
      )

  entry_flat : (k v : ℕ) (s : Slot) → names_index f s ≡ false → EntryRight f k v levels_below s → RangeRight f s × ValuesRight f k v s
  entry_flat k v s h (r, inl e) = (r, e)
  entry_flat k v s h (r, inr e) = absurd (true≢false (sym e.typed ∙ h))

  pub one_level : (k v : ℕ) (xs : List ℕ) → NoLower f (used_entries f xs) → OneLevel f k v xs
  one_level k v xs h = record {
    entries = λ s m. (entry_flat k v s (h s m), λ e. (e.0, inl e.1));
    covering = lowest_flat (used_entries f xs) h;
    reached = offsets_flat xs h;
  }
