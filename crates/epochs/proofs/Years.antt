-- The days of years, and the year of a day, by division. Assumes nothing.
use mathlib.Core.Path.{◌≡◌, refl, sym, ◌∙◌}
use mathlib.Core.Bool.{Bool, true, false, not, ◌&&◌, ◌||◌, cond}
use Prim.Native.Nat.{ℕ, zero, suc, ◌+◌, ◌-◌, ◌*◌, ◌/◌, ◌%◌, ◌≤◌, ◌<◌}
use native.Mathlib.Omega.{arith}
use native.Mathlib.Nat.{div-add-mod', div-eq_of_lt-le, mod-lt}
use borrow.Author.Tests.{eqb-true, eqb-false}
use lib.Dec.{eqb}
use Rattle.epochs.specs.Calendar.{leap, days_before_year}
use Rattle.epochs.specs.Bounds.{InYear}

-- the days of the years before y
abbrev by_division_lem : ℕ → ℕ
by_division_lem y = 365 * y + (y + 3) / 4 + (y + 399) / 400 - (y + 99) / 100

-- (y + (k - 1)) / k of the years before y are years that k divides: one year more
module _ (k y : ℕ) (h : 0 < k) where
  divided : y % k ≡ 0 → (suc y + (k - 1)) / k ≡ suc ((y + (k - 1)) / k)
  divided e =
      let p : (y + (k - 1)) / k ≡ y / k = div-eq_of_lt-le k (omega (arith, div-add-mod' y k)) (omega (arith, div-add-mod' y k)) in
      let q : (suc y + (k - 1)) / k ≡ y / k + 1 = div-eq_of_lt-le k (omega (arith, div-add-mod' y k)) (omega (arith, div-add-mod' y k)) in
      omega arith

  not_divided : (y % k ≡ 0 → ⊥) → (suc y + (k - 1)) / k ≡ (y + (k - 1)) / k
  not_divided e =
      let r : y % k < k = mod-lt y h in
      let p : (y + (k - 1)) / k ≡ y / k + 1 = div-eq_of_lt-le k (omega (arith, div-add-mod' y k)) (omega (arith, div-add-mod' y k)) in
      let q : (suc y + (k - 1)) / k ≡ y / k + 1 = div-eq_of_lt-le k (omega (arith, div-add-mod' y k)) (omega (arith, div-add-mod' y k)) in
      omega arith

module _ (y : ℕ) where
  -- a multiple of 400 is one of 100, and that one of 4
  no_hundred : (y % 4 ≡ 0 → ⊥) → y % 100 ≡ 0 → ⊥
  no_hundred h e = h (omega arith)

  no_cycle : (y % 100 ≡ 0 → ⊥) → y % 400 ≡ 0 → ⊥
  no_cycle h e = h (omega arith)

  less : (y + 99) / 100 ≤ (y + 3) / 4
  less = omega arith

-- one year more: a plain year, a fourth year, a century, a fourth century
module _ (a b c d : ℕ) (h : d ≤ b) where
  plain : 365 * suc a + b + c - d ≡ 365 * a + b + c - d + 365
  plain = omega arith

  fourth : 365 * suc a + suc b + c - d ≡ 365 * a + b + c - d + 366
  fourth = omega arith

  century : 365 * suc a + suc b + c - suc d ≡ 365 * a + b + c - d + 365
  century = omega arith

  fourth_century : 365 * suc a + suc b + suc c - suc d ≡ 365 * a + b + c - d + 366
  fourth_century = omega arith

year_more : (y : ℕ) → by_division_lem (suc y) ≡ by_division_lem y + cond (leap y) 366 365
unfolding leap
year_more y = go (eqb (y % 4) 0) refl (eqb (y % 100) 0) refl (eqb (y % 400) 0) refl
  where
    go : (a : Bool) → eqb (y % 4) 0 ≡ a → (b : Bool) → eqb (y % 100) 0 ≡ b → (c : Bool) → eqb (y % 400) 0 ≡ c
        → by_division_lem (suc y) ≡ by_division_lem y + cond (a && (not b || c)) 366 365
    go false p b q c r =
        let h = eqb-false (y % 4) 0 p in
        let i = no_hundred y h in
        rw (not_divided 4 y (omega arith) h, not_divided 100 y (omega arith) i, not_divided 400 y (omega arith) (no_cycle y i))
        (plain y ((y + 3) / 4) ((y + 399) / 400) ((y + 99) / 100) (less y))
    go true p false q c r =
        let f = divided 4 y (omega arith) (eqb-true (y % 4) 0 p) in
        let h = eqb-false (y % 100) 0 q in
        rw (f, not_divided 100 y (omega arith) h, not_divided 400 y (omega arith) (no_cycle y h))
        (fourth y ((y + 3) / 4) ((y + 399) / 400) ((y + 99) / 100) (less y))
    go true p true q true r =
        let f = divided 4 y (omega arith) (eqb-true (y % 4) 0 p) in
        let h = divided 100 y (omega arith) (eqb-true (y % 100) 0 q) in
        rw (f, h, divided 400 y (omega arith) (eqb-true (y % 400) 0 r)) (fourth_century y ((y + 3) / 4) ((y + 399) / 400) ((y + 99) / 100) (less y))
    go true p true q false r =
        let f = divided 4 y (omega arith) (eqb-true (y % 4) 0 p) in
        let h = divided 100 y (omega arith) (eqb-true (y % 100) 0 q) in
        rw (f, h, not_divided 400 y (omega arith) (eqb-false (y % 400) 0 r)) (century y ((y + 3) / 4) ((y + 399) / 400) ((y + 99) / 100) (less y))

pub by_division : (y : ℕ) → by_division_lem y ≡ days_before_year y
unfolding days_before_year
by_division zero = refl
by_division (suc y) = year_more y ∙ rw (by_division y)

some_before : (n y : ℕ) → n < days_before_year y → 1 ≤ y
unfolding days_before_year
some_before n zero k = absurd (omega arith)
some_before n (suc y) k = omega arith

-- the years 0 to 9999 have 3,652,425 days
pub all_years : days_before_year 10000 ≡ 3652425
all_years = sym (by_division 10000)

in_year : (n y b : ℕ) → y ≤ 9999 → b ≡ days_before_year y → b ≤ n → n < days_before_year (suc y) → InYear n y (n - b)
unfolding days_before_year
in_year n y b h b_is from to = record { year = h; sum = omega arith; day = omega arith }

-- a day n, and y the year by the mean length of a year: n is in y or in the year before
module _ (n y : ℕ) (e : y ≡ (400 * n + 400) / 146097) (h : n < 3652425) where
  not_after : n < by_division_lem (suc y)
  not_after = omega arith

  not_before : by_division_lem (y - 1) ≤ n
  not_before = omega arith

  not_last : by_division_lem y ≤ n → y ≤ 9999
  not_last k = omega arith

  pub year_found : (b : ℕ) → b ≡ days_before_year y → b ≤ n → InYear n y (n - b)
  year_found b b_is k =
      let from : days_before_year y ≤ n = rw b_is at k in
      in_year n y b (not_last (rw (sym (by_division y)) at from)) b_is k (rw (by_division (suc y)) at not_after)

  module _ (b : ℕ) (b_is : b ≡ days_before_year y) (k : n < b) where
    pub some_year : 1 ≤ y
    some_year = some_before n y (rw b_is at k)

    pub before_some : (c : ℕ) → c ≡ days_before_year (y - 1) → c ≤ n
    before_some c c_is = rw (c_is, sym (by_division (y - 1))) not_before

    pub year_before : (c : ℕ) → c ≡ days_before_year (y - 1) → InYear n (y - 1) (n - c)
    year_before c c_is =
        let p = some_year in
        let up : suc (y - 1) ≡ y = omega arith in
        let to : n < days_before_year y = rw b_is at k in
        in_year n (y - 1) c (omega arith) c_is (before_some c c_is) (rw up to)
