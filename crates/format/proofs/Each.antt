-- A row of fields, one field after the other. Assumes nothing.
use mathlib.Core.Path.{◌≡◌, sym, ap, ◌∙◌}
use mathlib.Core.Bool.{true, false, ◌&&◌}
use mathlib.Core.List.{List}
use Prim.Native.Nat.{ℕ, suc, ◌+◌, ◌-◌, ◌*◌, ◌≤◌, ◌<◌}
use native.Mathlib.Omega.{arith}
use lib.IntN.{ℤ}
use Rattle.format.specs.Fields.{within_at, each_within}

module _ (f : List ℕ) (at n : ℕ) (lo hi : ℤ) where
  -- all of them
  pub each_start : each_within f at n lo hi ≡ each_within f (at + 4 * 0) (n - 0) lo hi
  each_start = let a : at + 4 * 0 ≡ at = omega arith in let b : n - 0 ≡ n = omega arith in rw (a, b)

  module _ (i : ℕ) where
    -- the field number i, and those behind it
    each_first : i < n → each_within f (at + 4 * i) (n - i) lo hi ≡ (within_at f (at + 4 * i) lo hi && each_within f (at + 4 * i + 4) (n - i - 1) lo hi)
    unfolding each_within
    each_first h = let up : suc (n - i - 1) ≡ n - i = omega arith in ap (λ (k : ℕ). each_within f (at + 4 * i) k lo hi) (sym up)

    pub each_bad : i < n → within_at f (at + 4 * i) lo hi ≡ false → false ≡ each_within f (at + 4 * i) (n - i) lo hi
    each_bad h e = rw (each_first h, e)

    pub each_good : i < n → within_at f (at + 4 * i) lo hi ≡ true → each_within f (at + 4 * i) (n - i) lo hi ≡ each_within f (at + 4 * (i + 1)) (n - (i + 1)) lo hi
    each_good h e =
        let a : at + 4 * i + 4 ≡ at + 4 * (i + 1) = omega arith in
        let b : n - i - 1 ≡ n - (i + 1) = omega arith in
        rw (each_first h, e) (ap (λ (p : ℕ). each_within f p (n - i - 1) lo hi) a ∙ ap (λ (k : ℕ). each_within f (at + 4 * (i + 1)) k lo hi) b)

    pub each_none : n ≤ i → true ≡ each_within f (at + 4 * i) (n - i) lo hi
    unfolding each_within
    each_none h = let z : n - i ≡ 0 = omega arith in rw z
