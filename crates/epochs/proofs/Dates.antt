-- The date of a day is the one date with that many days before it. Assumes nothing.
use mathlib.Core.Path.{◌≡◌, refl, sym, ap, ◌∙◌, subst}
use mathlib.Core.Bool.{Bool, true, false, ◌&&◌, cond}
use Prim.Native.Nat.{ℕ, zero, suc, ◌+◌, ◌-◌, ◌≤◌, ◌<◌}
use native.Mathlib.Omega.{arith}
use native.Mathlib.Nat.{eq-or-lt_of_le, le_refl, le_trans}
use mathlib.Core.Logic.{◌⊎◌, inl, inr}
use lib.Dec.{leb, ltb}
use borrow.Author.Tests.{ltb-true, ltb-false, leb-true, le-leb}
use Rattle.format.proofs.Tests.{both}
use Rattle.epochs.specs.declared.calendar.Date.{Date}
use Rattle.epochs.specs.Calendar.{date, leap, month_days, days_before_month, days_before_year, is_date, days_before, next_day, date_of}
use Rattle.epochs.specs.Bounds.{InYear, InMonth, DateFits}
use Rattle.epochs.proofs.Years.{all_years}
use Rattle.epochs.proofs.Months.{year_length, no_month, month_zero, month_some, month_short}

-- what is not below is at most
pub at_most : (a b : ℕ) → (b < a → ⊥) → a ≤ b
at_most a b h = omega (arith, h)

-- ---- more months and more years have no fewer days
-- what grows with each number grows
up_by : (f : ℕ → ℕ) → ((k : ℕ) → f k ≤ f (suc k)) → (j k : ℕ) → j ≤ k → f j ≤ f k
up_by f s j zero h = let e : j ≡ 0 = omega arith in rw e (le_refl (f 0))
up_by f s j (suc k) h = go (eq-or-lt_of_le h) (up_by f s j k)
  where
    go : (j ≡ suc k) ⊎ (j < suc k) → (j ≤ k → f j ≤ f k) → f j ≤ f (suc k)
    go (inl e) r = rw e (le_refl (f (suc k)))
    go (inr l) r = le_trans (r (omega arith)) (s k)

months_up : (l : Bool) (j k : ℕ) → j ≤ k → days_before_month l j ≤ days_before_month l k
unfolding days_before_month
months_up l = up_by (days_before_month l) (λ k. omega arith)

pub years_up : (x y : ℕ) → x ≤ y → days_before_year x ≤ days_before_year y
unfolding days_before_year
years_up = up_by days_before_year (λ k. omega arith)

next_before : (l : Bool) (m : ℕ) → days_before_month l (suc m) ≡ days_before_month l m + month_days l m
unfolding days_before_month
next_before l m = refl

year_after : (y : ℕ) → days_before_year (suc y) ≡ days_before_year y + days_before_month (leap y) 13
unfolding days_before_year
year_after y = rw (year_length (leap y))

-- ---- a date's parts
pub record Valid (y m d : ℕ) : Type 0 where
  pub some : 1 ≤ d
  pub within : d ≤ month_days (leap y) m

pub valid_of : (y m d : ℕ) → is_date (date y m d) ≡ true → Valid y m d
unfolding is_date
valid_of y m d e =
    let p = both (leb 1 d) (leb d (month_days (leap y) m)) e in
    record { some = leb-true 1 d p.0; within = leb-true d (month_days (leap y) m) p.1 }

pub of_valid : (y m d : ℕ) → Valid y m d → is_date (date y m d) ≡ true
unfolding is_date
of_valid y m d v = rw (le-leb 1 d v.some, le-leb d (month_days (leap y) m) v.within)

-- the days before, by parts
abbrev in_year_lem : ℕ → ℕ → ℕ → ℕ
in_year_lem y m d = days_before_month (leap y) m + (d - 1)

abbrev pub before : ℕ → ℕ → ℕ → ℕ
before y m d = days_before_year y + days_before_month (leap y) m + (d - 1)

module _ (y m d : ℕ) (v : Valid y m d) where
  pub month_from : 1 ≤ m
  month_from = at_most 1 m (λ h. omega (arith, v.some, v.within, month_zero (leap y) m h))

  pub month_to : m ≤ 12
  month_to = at_most m 12 (λ h. omega (arith, v.some, v.within, no_month (leap y) m h))

  in_month : in_year_lem y m d < days_before_month (leap y) (suc m)
  in_month = omega (arith, v.some, v.within, next_before (leap y) m)

  in_year : before y m d < days_before_year (suc y)
  in_year = omega (arith, in_month, months_up (leap y) (suc m) 13 (omega (arith, month_to)), year_after y)

-- the days before a date of the years 0 to 9999
pub day_small : (y m d : ℕ) → y ≤ 9999 → Valid y m d → before y m d < 3652425
day_small y m d h v = omega (arith, in_year y m d v, years_up (suc y) 10000 (omega arith), all_years)

-- ---- two dates with as many days before them
module _ (y m d z n e : ℕ) (v : Valid y m d) (w : Valid z n e) (s : before y m d ≤ before z n e) where
  year_le : y ≤ z
  year_le = at_most y z (λ h. omega (arith, in_year z n e w, years_up (suc z) y h))

module _ (y m d n e : ℕ) (v : Valid y m d) (w : Valid y n e) (s : before y m d ≤ before y n e) where
  month_le : m ≤ n
  month_le = at_most m n (λ h. omega (arith, in_month y n e w, months_up (leap y) (suc n) m h))

same_year : (y m d n e : ℕ) → Valid y m d → Valid y n e → before y m d ≡ before y n e → date y m d ≡ date y n e
same_year y m d n e v w s =
    let h : m ≤ n = month_le y m d n e v w (omega arith) in
    let k : n ≤ m = month_le y n e m d w v (omega arith) in
    let p : n ≡ m = omega arith in
    let s' : before y m d ≡ before y m e = rw p at s in
    let q : e ≡ d = omega (arith, v.some, w.some, s') in
    rw (p, q)

same : (y m d z n e : ℕ) → Valid y m d → Valid z n e → before y m d ≡ before z n e → date y m d ≡ date z n e
same y m d z n e v w s =
    let h : y ≤ z = year_le y m d z n e v w (omega arith) in
    let k : z ≤ y = year_le z n e y m d w v (omega arith) in
    let p : z ≡ y = omega arith in
    rw p (same_year y m d n e v (subst (λ (x : ℕ). Valid x n e) p w) (s ∙ ap (λ (x : ℕ). before x n e) p))

-- ---- the day after
module _ (y m d : ℕ) (v : Valid y m d) where
  next_in_month : d < month_days (leap y) m → (Valid y m (suc d)) × (before y m (suc d) ≡ suc (before y m d))
  next_in_month h = (record { some = omega arith; within = h }, omega (arith, v.some))

  next_month : d ≡ month_days (leap y) m → m < 12 → (Valid y (suc m) 1) × (before y (suc m) 1 ≡ suc (before y m d))
  next_month e h =
      (record { some = omega arith; within = month_some (leap y) (suc m) (omega arith) h }, omega (arith, v.some, next_before (leap y) m))

  next_year : d ≡ month_days (leap y) m → m ≡ 12 → (Valid (suc y) 1 1) × (before (suc y) 1 1 ≡ suc (before y m d))
  unfolding days_before_month month_days
  next_year e h =
      let p : days_before_month (leap y) (suc m) ≡ days_before_month (leap y) 13 = ap (λ (k : ℕ). days_before_month (leap y) (suc k)) h in (
        record { some = omega arith; within = month_some (leap (suc y)) 1 (omega arith) (omega arith) },
        omega (arith, v.some, year_after y, next_before (leap y) m, p),
      )

-- a date with n days before it
abbrev Counts : Date → ℕ → Type 0
Counts d n = (Valid d.year d.month d.day) × (before d.year d.month d.day ≡ n)

module _ (y m d n : ℕ) (v : Valid y m d) (k : before y m d ≡ n) where
  next_by : (a : Bool) → ltb d (month_days (leap y) m) ≡ a → (b : Bool) → ltb m 12 ≡ b
      → Counts (cond a (date y m (suc d)) (cond b (date y (suc m) 1) (date (suc y) 1 1))) (suc n)
  next_by true p b q = let r = next_in_month y m d v (ltb-true d (month_days (leap y) m) p) in (r.0, r.1 ∙ ap suc k)
  next_by false p true q =
      let e : d ≡ month_days (leap y) m = omega (arith, v.within, ltb-false d (month_days (leap y) m) p) in
      let r = next_month y m d v e (ltb-true m 12 q) in
      (r.0, r.1 ∙ ap suc k)
  next_by false p false q =
      let e : d ≡ month_days (leap y) m = omega (arith, v.within, ltb-false d (month_days (leap y) m) p) in
      let r = next_year y m d v e (omega (arith, month_to y m d v, ltb-false m 12 q)) in
      (r.0, r.1 ∙ ap suc k)

next_counts : (x : Date) (n : ℕ) → Counts x n → Counts (next_day x) (suc n)
unfolding next_day
next_counts x n k = next_by x.year x.month x.day n k.0 k.1 (ltb x.day (month_days (leap x.year) x.month)) refl (ltb x.month 12) refl

pub date_counts : (n : ℕ) → Counts (date_of n) n
unfolding date_of days_before_year days_before_month month_days
date_counts zero = (record { some = omega arith; within = month_some (leap 0) 1 (omega arith) (omega arith) }, refl)
date_counts (suc n) = next_counts (date_of n) n (date_counts n)

-- the date of a day is the only one
pub date_is : (n y m d : ℕ) → Valid y m d → before y m d ≡ n → date y m d ≡ date_of n
date_is n y m d v e =
    let k = date_counts n in
    same y m d (date_of n).year (date_of n).month (date_of n).day v k.0 (e ∙ sym k.1)

-- ---- the date that the code finds: the day d of the year y, its month m, and b days before that
module _ (n y d : ℕ) (l : Bool) (in_y : InYear n y d) (l_is : l ≡ leap y) where
  module _ (m b : ℕ) (in_m : InMonth l d m) (b_is : b ≡ days_before_month l m) where
    pub date_found : (date y m (d - b + 1) ≡ date_of n) × DateFits (date y m (d - b + 1))
    date_found =
        let b_of : b ≡ days_before_month (leap y) m = b_is ∙ ap (λ (t : Bool). days_before_month t m) l_is in
        let low : b ≤ d = rw (sym b_is) at in_m.from in
        let high : d < days_before_month (leap y) (suc m) = rw l_is at in_m.to in
        let v : Valid y m (d - b + 1) = record { some = omega arith; within = omega (arith, next_before (leap y) m) } in (
          date_is n y m (d - b + 1) v (omega (arith, in_y)),
          record { year = in_y.year; month = in_m.last; day = omega (arith, v.within, month_short (leap y) m in_m.first in_m.last) },
        )

-- ---- what the code finds of a date
pub date_test : (y m d : ℕ) (l : Bool) (k : ℕ) → k ≡ month_days l m → l ≡ leap y → (leb 1 d && leb d k) ≡ is_date (date y m d)
unfolding is_date
date_test y m d l k k_is l_is = rw (k_is, l_is)

-- the days before it: s of the years, b of the months
module _ (y m d : ℕ) (there : is_date (date y m d) ≡ true) where
  pub month_of_date : (1 ≤ m) × (m ≤ 12)
  month_of_date = let v = valid_of y m d there in (month_from y m d v, month_to y m d v)

  module _ (small : y ≤ 9999) (l : Bool) (s b : ℕ) (s_is : s ≡ days_before_year y) (l_is : l ≡ leap y) (b_is : b ≡ days_before_month l m) where
    pub days_found : (s + b + (d - 1) ≡ days_before (date y m d)) × (s + b + (d - 1) < 3652425)
    unfolding days_before
    days_found =
        let e : s + b + (d - 1) ≡ before y m d = rw (s_is, b_is, l_is) in
        (e, rw e (day_small y m d small (valid_of y m d there)))
