-- Doubles that are whole numbers. Assumes nothing.
use mathlib.Core.Path.{◌≡◌, refl, sym}
use mathlib.Core.Bool.{Bool, true, false, ◌&&◌, cond, true≢false}
use Prim.Native.Nat.{ℕ, ◌*◌, ◌/◌, ◌%◌, ◌≤◌}
use native.Mathlib.Omega.{arith}
use native.Mathlib.Nat.{mul-div_cancel, mul-mod_left, div-add-mod'}
use borrow.Author.Tests.{le-leb, leb-true, eqb-true}
use lib.Dec.{T, leb, eqb, le→leb}
use lib.IntN.{pos}
use lib.Ieee.{Float, nan, inf, fin, binary64, up, down, of_int, in_float, fits}
use lib.Ieee.Exact.{HasValue}
use lib.Ieee.Fits.{down_pos, of_int-fits}
use lib.Ieee.Back.{round_whole, whole_unique}
use Rattle.std.specs.Prelude.{Option, Some, None}
use Rattle.format.proofs.Tests.{both}
use Rattle.epochs.specs.Epochs.{last_epoch, count_of}
use Rattle.epochs.proofs.Moments.{none_whole}

-- the double of a whole number has its value
whole_value : (n : ℕ) → n ≤ last_epoch → HasValue (of_int binary64 (pos n)) false n 1
unfolding of_int
whole_value n h = round_whole binary64 false n (omega arith)

-- the tests of a count, with the size and what is cut off as variables
tests : (c r : ℕ) → (eqb r 0 && leb c last_epoch) ≡ true → (r ≡ 0) × (c ≤ last_epoch)
tests c r e = let p = both (eqb r 0) (leb c last_epoch) e in (eqb-true r 0 p.0, leb-true c last_epoch p.1)

module _ (n : ℕ) (h : n ≤ last_epoch) where
  pub value_counts : (x : Float) → HasValue x false n 1 → count_of x ≡ Some n
  unfolding count_of
  value_counts nan v = absurd v
  value_counts (inf s) v = absurd v
  value_counts (fin true m e) v = absurd (true≢false v.0)
  value_counts (fin false m e) v =
      let q : m * up e ≡ n * down e = omega (arith, v.1) in
      let c : m * up e / down e ≡ n = rw q (mul-div_cancel n (down_pos e)) in
      let r : m * up e % down e ≡ 0 = rw q (mul-mod_left n (down e)) in
      rw (c, r, le-leb n last_epoch h)

  pub whole_counts : count_of (of_int binary64 (pos n)) ≡ Some n
  whole_counts = value_counts (of_int binary64 (pos n)) (whole_value n h)

-- a count says the value
pub count_value : (x : Float) (n : ℕ) → count_of x ≡ Some n → (HasValue x false n 1) × (n ≤ last_epoch)
unfolding count_of
count_value nan n e = absurd (none_whole e)
count_value (inf s) n e = absurd (none_whole e)
count_value (fin true m g) n e = absurd (none_whole e)
count_value (fin false m g) n e = go (eqb (m * up g % down g) 0 && leb (m * up g / down g) last_epoch) refl e
  where
    go : (b : Bool) → (eqb (m * up g % down g) 0 && leb (m * up g / down g) last_epoch) ≡ b → cond b (Some (m * up g / down g)) None ≡ Some n
        → (HasValue (fin false m g) false n 1) × (n ≤ last_epoch)
    go false p q = absurd (none_whole q)
    go true p q =
        let k : m * up g / down g ≡ n = cc in
        let t = tests (m * up g / down g) (m * up g % down g) p in
        ((refl, rw (sym k) (omega (arith, div-add-mod' (m * up g) (down g), t.0))), rw k at t.1)

pub count_is : (x : Float) (n : ℕ) → T (fits binary64 x) → count_of x ≡ Some n → (x ≡ of_int binary64 (pos n)) × (n ≤ last_epoch)
count_is x n f e =
    let v = count_value x n e in
    (whole_unique binary64 x (of_int binary64 (pos n)) false n f (of_int-fits binary64 (pos n)) v.0 (whole_value n v.1), v.1)

pub may_cast : (n : ℕ) → n ≤ last_epoch → T (in_float binary64 (pos n))
unfolding in_float
may_cast n h = le→leb n 9007199254740992 (omega arith)

-- either a count, or none
pub refused_unless : (x : Float) → ((n : ℕ) → count_of x ≡ Some n → ⊥) → None ≡ count_of x
refused_unless x h = go (count_of x) refl
  where
    go : (c : Option ℕ) → count_of x ≡ c → None ≡ c
    go (Some n) e = absurd (h n e)
    go None e = refl
