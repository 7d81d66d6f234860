-- Two lists of bytes that agree below an offset: the numbers that lie below it are the same. Assumes nothing.
use mathlib.Core.Path.{◌≡◌, refl, sym, ap, ◌∙◌}
use mathlib.Core.List.{List, [], ◌∷◌}
use Prim.Native.Nat.{ℕ, zero, suc, ◌+◌, ◌*◌, ◌≤◌}
use native.Mathlib.Nat.{zero-add, suc-add}
use native.Mathlib.Omega.{arith}
use lib.IntN.{ℤ}
use lib.ListN.{take, drop}
use lib.Seq.{take-nil, take-take}
use Rattle.format.specs.Bytes.{big_from, big_at, signed_of}
use Rattle.format.specs.Fields.{field_at, at_least, at_most, each_within}

-- n bytes at an offset, as a part of those below their end
part : (at n : ℕ) (l : List ℕ) → take n (drop at l) ≡ drop at (take (at + n) l)
part zero n l = ap (λ (k : ℕ). take k l) (sym (zero-add n))
part (suc at) n [] = take-nil n ∙ sym (ap (drop (suc at)) (take-nil (suc at + n)))
part (suc at) n (x ∷ xs) = part at n xs ∙ ap (λ (k : ℕ). drop (suc at) (take k (x ∷ xs))) (sym (suc-add at n))

module _ (e : ℕ) (f g : List ℕ) (same : take e f ≡ take e g) where
  below : (k : ℕ) → k ≤ e → take k f ≡ take k g
  below k h = sym (take-take k e f h) ∙ ap (take k) same ∙ take-take k e g h

  pub same_big : (at n : ℕ) → at + n ≤ e → big_at f at n ≡ big_at g at n
  unfolding big_at
  same_big at n h = ap (big_from 0) (part at n f ∙ ap (drop at) (below (at + n) h) ∙ sym (part at n g))

  pub same_field : (at : ℕ) → at + 4 ≤ e → field_at f at ≡ field_at g at
  unfolding field_at
  same_field at h = ap (signed_of 31) (same_big at 4 h)

  pub same_each : (n at : ℕ) (lo hi : ℤ) → at + 4 * n ≤ e → each_within f at n lo hi ≡ each_within g at n lo hi
  unfolding each_within at_least at_most
  same_each zero at lo hi h = refl
  same_each (suc n) at lo hi h = rw (same_field at (omega arith), same_each n (at + 4) lo hi (omega arith))
