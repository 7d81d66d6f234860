-- Fields that are shown lie among those of their record. Assumes nothing.
use mathlib.Core.Path.{◌≡◌, refl, sym}
use mathlib.Core.Bool.{Bool, true, false, cond, ◌&&◌, ◌||◌, true≢false}
use mathlib.Core.List.{List, [], ◌∷◌}
use Prim.Native.Nat.{ℕ, ◌+◌, ◌≤◌}
use native.Mathlib.Omega.{arith}
use lib.Dec.{leb, ltb, eqb}
use lib.IntN.{ℤ, pos, negsuc}
use borrow.Author.Tests.{leb-true, eqb-true, ltb-true}
use Rattle.format.specs.Fields.{nat_or}
use Rattle.lookup.specs.Lists.{is_entry_kind}
use Rattle.variables.specs.Place.{index_right}
use Rattle.format.proofs.Tests.{both}
use Rattle.lookup.specs.Refusals.{among}
use Rattle.descriptors.specs.Descriptors.{attribute_fields, entry_fields, variable_fields, is_shown}
use Rattle.descriptors.specs.Bounds.{field_bytes}

-- each of some fields ends within n bytes
abbrev all_within : ℕ → List ℕ → Bool
all_within n [] = true
all_within n (y ∷ ys) = leb (y + 4) n && all_within n ys

among_within : (n : ℕ) (ys : List ℕ) (x : ℕ) → all_within n ys ≡ true → among ys x ≡ true → x + 4 ≤ n
among_within n [] x a e = absurd (true≢false (sym e))
among_within n (y ∷ ys) x a e =
    here (eqb x y) (leb-true (y + 4) n (both (leb (y + 4) n) (all_within n ys) a).0) (eqb-true x y) (among_within n ys x (both (leb (y + 4) n) (all_within n ys) a).1) e
  where
    here : (b : Bool) → y + 4 ≤ n → (b ≡ true → x ≡ y) → (among ys x ≡ true → x + 4 ≤ n) → (b || among ys x) ≡ true → x + 4 ≤ n
    here true l q h e = omega (arith, q refl)
    here false l q h e = h e

of_variable : (z d : Bool) (x : ℕ) → (d ≡ true → x ≡ 128) → (among variable_fields x || (z && d)) ≡ true → x + 4 ≤ cond z 132 128
of_variable z d x h e = go (among variable_fields x) refl z d h e
  where
    go : (a : Bool) → among variable_fields x ≡ a → (z d : Bool) → (d ≡ true → x ≡ 128) → (a || (z && d)) ≡ true → x + 4 ≤ cond z 132 128
    go true m true d h e = among_within 132 variable_fields x refl m
    go true m false d h e = among_within 128 variable_fields x refl m
    go false m true true h e = omega (arith, h refl)
    go false m true false h e = absurd (true≢false (sym e))
    go false m false d h e = absurd (true≢false (sym e))

pub shown_within : (t x : ℕ) → is_shown t x ≡ true → x + 4 ≤ field_bytes t
unfolding is_shown
shown_within t x e = go (eqb t 4) (is_entry_kind t) e
  where
    go : (a b : Bool) → cond a (among attribute_fields x) (cond b (among entry_fields x) (among variable_fields x || (eqb t 8 && eqb x 128))) ≡ true → x + 4 ≤ cond a 116 (cond b 48 (cond (eqb t 8) 132 128))
    go true b e = among_within 116 attribute_fields x refl e
    go false true e = among_within 48 entry_fields x refl e
    go false false e = of_variable (eqb t 8) (eqb x 128) x (eqb-true x 128) e

-- an index that is right, as a natural number
pub index_below : (d : ℤ) (n : ℕ) → index_right d n ≡ true → nat_or 0 d + 1 ≤ n
index_below (pos d) n e = omega (arith, ltb-true d n (both (leb 0 d) (ltb d n) e).1)
index_below (negsuc d) n e = absurd (true≢false (sym e))
