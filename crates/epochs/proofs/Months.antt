-- Months by division: tests that are computed over all months and all days of a year, and what they say at each. Assumes nothing.
use mathlib.Core.Path.{◌≡◌, refl, sym}
use mathlib.Core.Bool.{Bool, true, false, ◌&&◌, cond}
use Prim.Native.Nat.{ℕ, zero, suc, ◌+◌, ◌-◌, ◌*◌, ◌/◌, ◌%◌, ◌≤◌, ◌<◌}
use native.Mathlib.Omega.{arith}
use native.Mathlib.Nat.{eq-or-lt_of_le}
use mathlib.Core.Logic.{◌⊎◌, inl, inr}
use mathlib.Core.List.{[], ◌∷◌}
use lib.Dec.{T, leb, ltb, eqb, leb→le, ltb→lt, eqb→eq}
use lib.ListN.{get_or-eq_default}
use mir.Facts.{and_yes}
use borrow.Author.Tests.{lt-ltb, le-ltb, le-leb, lt-leb, ne_eqb, eq-eqb}
use Rattle.epochs.specs.Calendar.{month_days, days_before_month}
use Rattle.epochs.specs.Bounds.{InMonth}

-- all numbers below n pass a test
abbrev all_below : ℕ → (ℕ → Bool) → Bool
all_below zero p = true
all_below (suc n) p = p n && all_below n p

below : (n : ℕ) (p : ℕ → Bool) → T (all_below n p) → (k : ℕ) → k < n → T (p k)
below zero p t k h = absurd (omega arith)
below (suc n) p t k h = go (eq-or-lt_of_le {n = k} {m = n} (omega arith)) (below n p (and_yes (p n) (all_below n p) t).1 k)
  where
    go : (k ≡ n) ⊎ (k < n) → (k < n → T (p k)) → T (p k)
    go (inl e) f = rw e (and_yes (p n) (all_below n p) t).0
    go (inr l) f = f l

-- ---- days of a month
days_by : Bool → ℕ → ℕ
days_by l m = cond (ltb m 1) 0 (cond (eqb m 2) (30 - cond l 1 2) (30 + (m + m / 8) % 2))

all_days : (l : Bool) → T (all_below 13 (λ m. eqb (days_by l m) (month_days l m)))
unfolding month_days days_by
all_days true = tt
all_days false = tt

pub no_month : (l : Bool) (m : ℕ) → 12 < m → 0 ≡ month_days l m
unfolding month_days
no_month l m h = sym (get_or-eq_default (0 ∷ 31 ∷ cond l 29 28 ∷ 31 ∷ 30 ∷ 31 ∷ 30 ∷ 31 ∷ 31 ∷ 30 ∷ 31 ∷ 30 ∷ 31 ∷ []) 0 h)

module _ (l : Bool) (m : ℕ) where
  days_at : m ≤ 12 → days_by l m ≡ month_days l m
  days_at h = eqb→eq (days_by l m) (month_days l m) (below 13 (λ m. eqb (days_by l m) (month_days l m)) (all_days l) m (omega arith))

  pub month_zero : m < 1 → 0 ≡ month_days l m
  unfolding days_by
  month_zero h = rw (lt-ltb m 1 h) at (days_at (omega arith))

  pub february : m ≡ 2 → 30 - cond l 1 2 ≡ month_days l m
  unfolding days_by
  february e = rw (le-ltb m 1 (omega arith), eq-eqb m 2 e) at (days_at (omega arith))

  pub other_month : 1 ≤ m → m ≤ 12 → (m ≡ 2 → ⊥) → 30 + (m + m / 8) % 2 ≡ month_days l m
  unfolding days_by
  other_month h k n = rw (le-ltb m 1 h, ne_eqb m 2 n) at (days_at k)

all_some : (l : Bool) → T (all_below 12 (λ k. leb 1 (month_days l (suc k)) && leb (month_days l (suc k)) 31))
unfolding month_days
all_some true = tt
all_some false = tt

some_at : (l : Bool) (m : ℕ) → 1 ≤ m → m ≤ 12 → (1 ≤ month_days l m) × (month_days l m ≤ 31)
some_at l m h k =
    let up : suc (m - 1) ≡ m = omega arith in
    let t = below 12 (λ k. leb 1 (month_days l (suc k)) && leb (month_days l (suc k)) 31) (all_some l) (m - 1) (omega arith) in
    let p = and_yes (leb 1 (month_days l (suc (m - 1)))) (leb (month_days l (suc (m - 1))) 31) t in
    (rw up at (leb→le 1 (month_days l (suc (m - 1))) p.0), rw up at (leb→le (month_days l (suc (m - 1))) 31 p.1))

pub month_some : (l : Bool) (m : ℕ) → 1 ≤ m → m ≤ 12 → 1 ≤ month_days l m
month_some l m h k = (some_at l m h k).0

pub month_short : (l : Bool) (m : ℕ) → 1 ≤ m → m ≤ 12 → month_days l m ≤ 31
month_short l m h k = (some_at l m h k).1

-- ---- days before a month
before_by : Bool → ℕ → ℕ
before_by l m = cond (leb m 2) ((367 * m - 362) / 12) ((367 * m - 362) / 12 - cond l 1 2)

all_before : (l : Bool) → T (all_below 13 (λ m. eqb (before_by l m) (days_before_month l m)))
unfolding days_before_month month_days before_by
all_before true = tt
all_before false = tt

module _ (l : Bool) (m : ℕ) (h : m ≤ 12) where
  before_at : before_by l m ≡ days_before_month l m
  before_at = eqb→eq (before_by l m) (days_before_month l m) (below 13 (λ m. eqb (before_by l m) (days_before_month l m)) (all_before l) m (omega arith))

  pub before_early : m ≤ 2 → (367 * m - 362) / 12 ≡ days_before_month l m
  unfolding before_by
  before_early e = rw (le-leb m 2 e) at before_at

  pub before_late : 2 < m → (367 * m - 362) / 12 - cond l 1 2 ≡ days_before_month l m
  unfolding before_by
  before_late e = rw (lt-leb m 2 e) at before_at

-- ---- the month of a day of the year
month_by : Bool → ℕ → ℕ
month_by l d = cond (ltb d (61 - cond l 1 2)) ((12 * d + 373) / 367) ((12 * (d + cond l 1 2) + 373) / 367)

holds : Bool → ℕ → ℕ → Bool
holds l d r = leb 1 r && (leb r 12 && (leb (days_before_month l r) d && ltb d (days_before_month l (suc r))))

holds_says : (l : Bool) (d r : ℕ) → T (holds l d r) → InMonth l d r
unfolding holds
holds_says l d r t =
    let p = and_yes (leb 1 r) (leb r 12 && (leb (days_before_month l r) d && ltb d (days_before_month l (suc r)))) t in
    let q = and_yes (leb r 12) (leb (days_before_month l r) d && ltb d (days_before_month l (suc r))) p.1 in
    let s = and_yes (leb (days_before_month l r) d) (ltb d (days_before_month l (suc r))) q.1 in
    record { first = leb→le 1 r p.0; last = leb→le r 12 q.0; from = leb→le (days_before_month l r) d s.0; to = ltb→lt d (days_before_month l (suc r)) s.1 }

all_months : (l : Bool) → T (all_below (cond l 366 365) (λ d. holds l d (month_by l d)))
unfolding days_before_month month_days month_by holds
all_months true = tt
all_months false = tt

-- the months of a year have its days
pub year_length : (l : Bool) → days_before_month l 13 ≡ cond l 366 365
unfolding days_before_month month_days
year_length true = refl
year_length false = refl

module _ (l : Bool) (d : ℕ) (h : d < cond l 366 365) where
  month_at : InMonth l d (month_by l d)
  month_at = holds_says l d (month_by l d) (below (cond l 366 365) (λ d. holds l d (month_by l d)) (all_months l) d h)

  pub month_early : d < 61 - cond l 1 2 → InMonth l d ((12 * d + 373) / 367)
  unfolding month_by
  month_early e = rw (lt-ltb d (61 - cond l 1 2) e) at month_at

  pub month_late : 61 - cond l 1 2 ≤ d → InMonth l d ((12 * (d + cond l 1 2) + 373) / 367)
  unfolding month_by
  month_late e = rw (le-ltb d (61 - cond l 1 2) e) at month_at
