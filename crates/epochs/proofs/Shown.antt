-- What the calls for C give back. Assumes nothing.
use mathlib.Core.Path.{◌≡◌, sym, ap, ◌∙◌}
use mathlib.Core.Bool.{Bool, true, false, ◌&&◌}
use Prim.Native.Nat.{ℕ, ◌/◌, ◌%◌, ◌<◌}
use native.Mathlib.Omega.{arith}
use lib.IntN.{ℤ, pos}
use lib.Ieee.{Float, binary64, of_int, sub}
use mir.Syntax.{w32}
use mir.Val.{to_z}
use mir.Facts.{to_z_pos}
use Rattle.std.specs.Prelude.{Option, Some, None}
use Rattle.epochs.specs.declared.calendar.Date.{Date}
use Rattle.epochs.specs.Calendar.{date_of}
use Rattle.epochs.specs.Bounds.{DateFits}
use Rattle.epochs.specs.Epochs.{day_length, count_of, is_epoch}
use Rattle.epochs.specs.Shown.{shown_date, shown_at, date_shown, shown_double, epoch_shown, difference_shown}
use Rattle.epochs.proofs.Wholes.{count_value}

-- ---- dates
module _ (x : Float) (c : Option ℕ) (c_is : c ≡ count_of x) (n : ℕ) (n_is : c ≡ Some n) where
  pub day_fits : n / day_length < 3652425
  day_fits = omega (arith, (count_value x n (sym c_is ∙ n_is)).1)

  pub date_shown_lem : (d : Date) → (d ≡ date_of (n / day_length)) × DateFits d → (y₀ m₀ d₀ t₀ : ℤ)
      → shown_date (pos 0) (to_z w32 d.year) (to_z w32 d.month) (to_z w32 d.day) (to_z w32 (n % day_length)) ≡ date_shown (count_of x) y₀ m₀ d₀ t₀
  unfolding date_shown
  date_shown_lem d k y₀ m₀ d₀ t₀ =
      let py = to_z_pos w32 {n = d.year} (omega (arith, k.1.year)) in
      let pm = to_z_pos w32 {n = d.month} (omega (arith, k.1.month)) in
      let pd = to_z_pos w32 {n = d.day} (omega (arith, k.1.day)) in
      let pt = to_z_pos w32 {n = n % day_length} (omega arith) in
      rw (sym c_is ∙ n_is, py, pm, pd, pt) (ap (λ (e : Date). shown_at e (n % day_length)) k.0)

pub date_not_shown : (c k : Option ℕ) → k ≡ c → k ≡ None → (y₀ m₀ d₀ t₀ : ℤ) → shown_date (pos 27) y₀ m₀ d₀ t₀ ≡ date_shown c y₀ m₀ d₀ t₀
unfolding date_shown
date_not_shown c k e r y₀ m₀ d₀ t₀ = rw (sym e ∙ r)

-- ---- epochs
pub epoch_is_shown : (c k : Option ℕ) → k ≡ c → (n : ℕ) → k ≡ Some n → (x : Float) → shown_double (pos 0) (of_int binary64 (pos n)) ≡ epoch_shown c x
unfolding epoch_shown
epoch_is_shown c k e n r x = rw (sym e ∙ r)

pub epoch_not_shown : (c k : Option ℕ) → k ≡ c → k ≡ None → (x : Float) → shown_double (pos 27) x ≡ epoch_shown c x
unfolding epoch_shown
epoch_not_shown c k e r x = rw (sym e ∙ r)

-- ---- differences
module _ (a b : Float) (p q : Bool) (p_is : p ≡ is_epoch a) (q_is : q ≡ is_epoch b) where
  pub difference_is_shown : (p && q) ≡ true → (x : Float) → shown_double (pos 0) (sub binary64 a b) ≡ difference_shown a b x
  unfolding difference_shown
  difference_is_shown e x = rw (sym p_is, sym q_is, e)

  pub difference_not_shown : (p && q) ≡ false → (x : Float) → shown_double (pos 27) x ≡ difference_shown a b x
  unfolding difference_shown
  difference_not_shown e x = rw (sym p_is, sym q_is, e)
