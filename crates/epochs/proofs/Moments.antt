-- Moments: a date of the years 0 to 9999 and milliseconds of the day, and their count. Assumes nothing.
use mathlib.Core.Path.{◌≡◌, refl, ◌∙◌}
use mathlib.Core.Bool.{Bool, true, false, ◌&&◌}
use Prim.Native.Nat.{ℕ, ◌≤◌, ◌<◌}
use native.Mathlib.Omega.{arith}
use lib.Dec.{leb, ltb}
use lib.IntN.{ℤ, pos, negsuc}
use mir.Syntax.{w64}
use mir.Val.{SFits, to_z, of_z}
use mir.Facts.{to_z-of_z}
use borrow.Author.Tests.{leb-true, le-leb, ltb-true, lt-ltb}
use Rattle.std.specs.Prelude.{Option, Some, None}
use Rattle.format.proofs.Tests.{both}
use Rattle.epochs.specs.Calendar.{date, is_date, days_before}
use Rattle.format.specs.Numbers.{natural_of}
use Rattle.epochs.specs.Epochs.{day_length, last_epoch, is_moment, count_at, count_moment, count_from}
use Rattle.epochs.proofs.Dates.{valid_of, day_small}

-- what is asked of a moment
pub record Moment (y m d t : ℕ) : Type 0 where
  pub year : y ≤ 9999
  pub there : is_date (date y m d) ≡ true
  pub time : t < day_length

-- a count that is one
pub none_whole : {n : ℕ} → None ≡ Some n → ⊥
none_whole e = let z : ◌≡◌ {A = ℕ} 0 1 = cc in omega arith

module _ (y m d t : ℕ) where
  pub moment_of : is_moment (date y m d) t ≡ true → Moment y m d t
  unfolding is_moment
  moment_of e =
      let p = both (leb y 9999) (is_date (date y m d) && ltb t day_length) e in
      let q = both (is_date (date y m d)) (ltb t day_length) p.1 in
      record { year = leb-true y 9999 p.0; there = q.0; time = ltb-true t day_length q.1 }

  pub of_moment : Moment y m d t → is_moment (date y m d) t ≡ true
  unfolding is_moment
  of_moment a = rw (le-leb y 9999 a.year, a.there, lt-ltb t day_length a.time)

  -- ---- its count
  pub counted : is_moment (date y m d) t ≡ true → Some (count_at (date y m d) t) ≡ count_moment (date y m d) t
  unfolding count_moment
  counted e = rw e

  pub not_counted : is_moment (date y m d) t ≡ false → None ≡ count_moment (date y m d) t
  unfolding count_moment
  not_counted e = rw e

  pub count_small : Moment y m d t → count_at (date y m d) t ≤ last_epoch
  unfolding count_at days_before
  count_small a = omega (arith, day_small y m d a.year (valid_of y m d a.there), a.time)

  -- what has a count is a moment
  pub count_of_moment : (n : ℕ) → count_moment (date y m d) t ≡ Some n → (Moment y m d t) × (count_at (date y m d) t ≡ n)
  count_of_moment n e = go (is_moment (date y m d) t) refl
    where
      go : (b : Bool) → is_moment (date y m d) t ≡ b → (Moment y m d t) × (count_at (date y m d) t ≡ n)
      go true p = let q = counted p in (moment_of p, cc)
      go false p = let q = not_counted p in let z : None ≡ Some n = cc in absurd (none_whole z)

-- ---- what a caller gives: the count of four numbers, of which any may be missing
abbrev pub all_given : Option ℕ → Option ℕ → Option ℕ → Option ℕ → Option ℕ
all_given None m d t = None
all_given (Some y) None d t = None
all_given (Some y) (Some m) None t = None
all_given (Some y) (Some m) (Some d) None = None
all_given (Some y) (Some m) (Some d) (Some t) = count_moment (date y m d) t

all_given_lem : (y m d t : ℤ) → all_given (natural_of y) (natural_of m) (natural_of d) (natural_of t) ≡ count_from y m d t
unfolding count_from
all_given_lem (pos y) (pos m) (pos d) (pos t) = refl
all_given_lem (negsuc y) m d t = refl
all_given_lem (pos y) (negsuc m) d t = refl
all_given_lem (pos y) (pos m) (negsuc d) t = refl
all_given_lem (pos y) (pos m) (pos d) (negsuc t) = refl

-- as the code reads it
abbrev read : ℤ → ℤ
read x = to_z w64 (of_z w64 x)

module _ {y m d t : ℤ} (fy : SFits w64 y) (fm : SFits w64 m) (fd : SFits w64 d) (ft : SFits w64 t) where
  pub passed : {k : Option ℕ} → k ≡ count_from (read y) (read m) (read d) (read t) → k ≡ count_from y m d t
  passed e = rw (to_z-of_z {w = w64} fy, to_z-of_z {w = w64} fm, to_z-of_z {w = w64} fd, to_z-of_z {w = w64} ft) at e

  pub given : {a b c e k : Option ℕ} → a ≡ natural_of (read y) → b ≡ natural_of (read m) → c ≡ natural_of (read d) → e ≡ natural_of (read t) → k ≡ all_given a b c e
      → k ≡ count_from y m d t
  given p q r s h = passed (rw (p, q, r, s) at h ∙ all_given_lem (read y) (read m) (read d) (read t))

-- the count at what a caller gives is no later than the last epoch
pub from_small : (y m d t : ℤ) (n : ℕ) → count_from y m d t ≡ Some n → n ≤ last_epoch
unfolding count_from
from_small (pos y) (pos m) (pos d) (pos t) n e =
    let k = count_of_moment y m d t n e in
    omega (arith, k.1, count_small y m d t k.0)
from_small (negsuc y) m d t n e = absurd (none_whole e)
from_small (pos y) (negsuc m) d t n e = absurd (none_whole e)
from_small (pos y) (pos m) (negsuc d) t n e = absurd (none_whole e)
from_small (pos y) (pos m) (pos d) (negsuc t) n e = absurd (none_whole e)
