-- The record that a number reads, from the code's tests. Assumes nothing.
use mathlib.Core.Path.{◌≡◌, refl, sym}
use mathlib.Core.Bool.{Bool, true, false, cond, ◌&&◌, true≢false}
use mathlib.Core.List.{List}
use Prim.Native.Nat.{ℕ, ◌≤◌, ◌<◌}
use native.Mathlib.Omega.{arith}
use borrow.Author.Tests.{leb-false, le-leb, lt-leb}
use lib.IntN.{ℤ, pos, negsuc}
use lib.Signed.{le_z}
use Rattle.format.specs.Fields.{field_at, at_least, nat_at, nat_or, bit_at}
use Rattle.records.specs.Layout.{max_rec_at, var_flags_at}
use Rattle.format.specs.Numbers.{natural_of}
use Rattle.lookup.specs.Indexes.{record_there, record_read, record_number, values_by, levels_by}
use Rattle.std.specs.Prelude.{Option, Some, None, Err, ok_or}
use Rattle.lookup.specs.declared.refusals.Refusal.{Refusal}
use Rattle.lookup.specs.declared.refusals.Refusal.TheVariants.{NoNumber}

-- what is read where b says that records vary and x is MaxRec
abbrev read : Bool → ℤ → ℤ → Option ℕ
read b x r = cond (le_z (pos 0) r && cond b (le_z r x) (le_z (pos 0) x)) (Some (cond b (nat_or 0 r) 0)) None

none_below : (b : Bool) (x r : ℤ) → natural_of r ≡ None → None ≡ read b x r
none_below b x (pos n) e = cc
none_below b x (negsuc n) e = refl

no_records : (b : Bool) (x r : ℤ) → le_z (pos 0) x ≡ false → None ≡ read b x r
no_records b (pos m) r e = absurd (omega (arith, leb-false 0 m e))
no_records true (negsuc m) (pos n) e = rw (le-leb 0 n (omega arith))
no_records false (negsuc m) (pos n) e = rw (le-leb 0 n (omega arith))
no_records b (negsuc m) (negsuc n) e = refl

same_record : (x r : ℤ) (k : ℕ) → natural_of r ≡ Some k → le_z (pos 0) x ≡ true → Some 0 ≡ read false x r
same_record x (pos n) k e h = rw (le-leb 0 n (omega arith), h)
same_record x (negsuc n) k e h = cc

past_last : (x r : ℤ) (k : ℕ) → natural_of r ≡ Some k → le_z (pos 0) x ≡ true → nat_or 0 x < k → None ≡ read true x r
past_last (pos m) (pos n) k e h l = let is : n ≡ k = cc in rw (le-leb 0 n (omega arith), lt-leb n m (omega (arith, is, l)))
past_last (negsuc m) (pos n) k e h l = absurd (true≢false (sym h))
past_last x (negsuc n) k e h l = cc

that_record : (x r : ℤ) (k : ℕ) → natural_of r ≡ Some k → le_z (pos 0) x ≡ true → k ≤ nat_or 0 x → Some k ≡ read true x r
that_record (pos m) (pos n) k e h l = let is : n ≡ k = cc in rw (le-leb 0 n (omega arith), le-leb n m (omega (arith, is, l)), is)
that_record (negsuc m) (pos n) k e h l = absurd (true≢false (sym h))
that_record x (negsuc n) k e h l = cc

module _ (f : List ℕ) (v : ℕ) (r : ℤ) where
  pub number_below : natural_of r ≡ None → None ≡ record_number f v r
  unfolding record_number record_there record_read at_least
  number_below e = none_below (bit_at f (var_flags_at v) 1) (field_at f (max_rec_at v)) r e

  pub number_none : at_least f (max_rec_at v) (pos 0) ≡ false → None ≡ record_number f v r
  unfolding record_number record_there record_read at_least
  number_none e = no_records (bit_at f (var_flags_at v) 1) (field_at f (max_rec_at v)) r e

  module _ (k : ℕ) (e : natural_of r ≡ Some k) (h : at_least f (max_rec_at v) (pos 0) ≡ true) where
    pub number_same : bit_at f (var_flags_at v) 1 ≡ false → Some 0 ≡ record_number f v r
    unfolding record_number record_there record_read at_least
    number_same b = rw b (same_record (field_at f (max_rec_at v)) r k e h)

    pub number_past : bit_at f (var_flags_at v) 1 ≡ true → nat_at f (max_rec_at v) < k → None ≡ record_number f v r
    unfolding record_number record_there record_read at_least nat_at
    number_past b l = rw b (past_last (field_at f (max_rec_at v)) r k e h l)

    pub number_there : bit_at f (var_flags_at v) 1 ≡ true → k ≤ nat_at f (max_rec_at v) → Some k ≡ record_number f v r
    unfolding record_number record_there record_read at_least nat_at
    number_there b l = rw b (that_record (field_at f (max_rec_at v)) r k e h l)

-- where no record number is looked up
pub no_values : (f : List ℕ) (v bytes left : ℕ) (n : Option ℕ) (e : Refusal) → Err e ≡ ok_or n NoNumber → Err e ≡ values_by f v bytes left n
no_values f v bytes left (Some n) e h = cc
no_values f v bytes left None e h = h

pub no_levels : (f : List ℕ) (v left : ℕ) (n : Option ℕ) (e : Refusal) → Err e ≡ ok_or n NoNumber → Err e ≡ levels_by f v left n
no_levels f v left (Some n) e h = cc
no_levels f v left None e h = h
