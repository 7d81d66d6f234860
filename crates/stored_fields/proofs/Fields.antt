-- A control field stored, and several one after the other. Assumes nothing.
use Prim.Native.Nat.{ℕ, zero, suc, ◌+◌, ◌/◌, ◌%◌, ◌≤◌, ◌<◌}
use mathlib.Core.List.{List, [], ◌∷◌, ◌++◌}
use mathlib.Core.Path.{◌≡◌, refl, sym, ap}
use native.Mathlib.Numerals.{add-one}
use native.Mathlib.Omega.{arith}
use lib.ListN.{length, get_or, set, take, drop, drop_of_length-le}
use lib.Seq.{drop-cons}
use borrow.Author.Tests.{lt-leb, le-leb}
use borrow.Rule.Slice.PartMut.{put_mid}
use Rattle.stored_fields.specs.Stored.{stored, stored_all}

-- four bytes put into a list at an offset, one by one
four : (f : List ℕ) (at a b c d : ℕ) → at + 4 ≤ length f
    → take at f ++ ((a ∷ b ∷ c ∷ d ∷ []) ++ drop 4 (drop at f)) ≡ set (set (set (set f at a) (at + 1) b) (at + 2) c) (at + 3) d
four [] at a b c d h = absurd (omega arith)
four (x ∷ f) (suc at) a b c d h =
    rw (up at 1, up at 2, up at 3) (ap (λ (l : List ℕ). x ∷ l) (four f at a b c d (omega arith)))
  where
    up : (k n : ℕ) → suc k + n ≡ suc (k + n)
    up k n = omega arith
four (x ∷ []) zero a b c d h = absurd (omega arith)
four (x ∷ y ∷ []) zero a b c d h = absurd (omega arith)
four (x ∷ y ∷ z ∷ []) zero a b c d h = absurd (omega arith)
four (x ∷ y ∷ z ∷ w ∷ f) zero a b c d h = refl

-- a field that ends past the file's end, and one that does not
pub stored_past : (f : List ℕ) (at n : ℕ) → length f < at + 4 → f ≡ stored f at n
unfolding stored
stored_past f at n h = simp (lt-leb _ _ h)

pub stored_in : (f : List ℕ) (at n : ℕ) {k a b c d : ℕ} {bytes : List ℕ} → bytes ≡ a ∷ b ∷ c ∷ d ∷ [] → k ≡ 4 → at + 4 ≤ length f
    → a ≡ n / 16777216 → b ≡ n / 65536 % 256 → c ≡ n / 256 % 256 → d ≡ n % 256 → put_mid at k f bytes ≡ stored f at n
unfolding stored
stored_in f at n e l h p q r s = rw (le-leb _ _ h, e, l, sym p, sym q, sym r, sym s) (four f at _ _ _ _ h)

-- ---- several: one more, those behind the end, none left
pub one_more_lem : (f : List ℕ) (to i : ℕ) (ns : List ℕ) → i < length ns → stored_all f to (drop i ns) ≡ stored_all (stored f to (get_or ns i 0)) (to + 4) (drop (i + 1) ns)
unfolding stored_all
one_more_lem f to i ns h = rw (add-one, drop-cons ns i 0 h)

pub all_past : (f : List ℕ) (to : ℕ) (ns : List ℕ) → length f < to → stored_all f to ns ≡ f
unfolding stored_all
all_past f to [] h = refl
all_past f to (n ∷ ns) h = rw (sym (stored_past f to n (omega arith))) (all_past f (to + 4) ns (omega arith))

pub none_left : (f : List ℕ) (to i : ℕ) (ns : List ℕ) → length ns ≤ i → stored_all f to (drop i ns) ≡ f
unfolding stored_all
none_left f to i ns h = rw (drop_of_length-le ns h)
