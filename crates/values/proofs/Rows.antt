-- The sizes of data types, computed over the table's rows, and numbers of that many bytes. Assumes nothing.
use mathlib.Core.Path.{◌≡◌, subst, sym}
use mathlib.Core.Bool.{Bool, true, false, not, ◌&&◌, ◌||◌, false≢true}
use Prim.Native.Nat.{ℕ, ◌^◌, ◌≤◌, ◌<◌}
use native.Mathlib.Nat.{pow-le-pow_right, lt_of_lt_of_le}
use lib.Dec.{T, leb, ltb, eqb, lit<, eqb→eq, ltb→lt}
use mir.Facts.{and_yes, leb_yes, eqb_no}
use Rattle.std.specs.Prelude.{Option, None, Some}
use Rattle.format.specs.Types.{type_of, types, single, double, kind_number, size_in, kind_in}
use Rattle.format.specs.Encodings.{ieee}
use Rattle.format.specs.declared.types.DataType.{DataType}
use Rattle.format.proofs.Table.{row_passes, rows_pass, lookup_passes, type_small}
use Rattle.values.specs.Bounds.{greatest, Element}
use Rattle.values.specs.Values.{is_vax, vax_bytes}

-- a test of a size and a kind, of each row
abbrev of_row : (ℕ → ℕ → Bool) → DataType → Bool
of_row ok d = ok d.size (kind_number d.kind)

in_row : (ok : ℕ → ℕ → Bool) (d : Option DataType) → T (ok 0 0) → T (row_passes (of_row ok) d) → T (ok (size_in d) (kind_in d))
in_row ok None z h = z
in_row ok (Some d) z h = h

-- what all rows pass, and a number that is no data type, each number passes
in_type : (ok : ℕ → ℕ → Bool) (t : ℕ) → T (ok 0 0) → T (rows_pass (of_row ok) types) → T (ok (size_in (type_of t)) (kind_in (type_of t)))
unfolding type_of
in_type ok t z h = in_row ok (type_of t) z (lookup_passes (of_row ok) types t h)

abbrev sized : ℕ → ℕ → Bool
sized size kind = leb size (greatest kind) && not (eqb size 3)

-- a number of as many bytes as the data type takes
pub element : (t n : ℕ) → 0 < size_in (type_of t) → n < 256 ^ size_in (type_of t) → Element (kind_in (type_of t)) (size_in (type_of t)) n
element t n h k =
    let size = size_in (type_of t) in
    let checks = and_yes (leb size (greatest (kind_in (type_of t)))) (not (eqb size 3)) (in_type sized t tt tt) in
    record { some = h; most = leb_yes checks.0; three = eqb_no checks.1; below = k }

-- a data type takes a byte or more
pub some : (t : ℕ) {d : DataType} → Some d ≡ type_of t → 0 < d.size
unfolding type_of
some t {d} e = ltb→lt 0 d.size (subst (λ x. T (row_passes (λ d. ltb 0 d.size) x)) (sym e) (lookup_passes (λ (d : DataType). ltb 0 d.size) types t tt))

-- a number of size bytes, where size is at most k
pub within : {size n : ℕ} (k : ℕ) → size ≤ k → n < 256 ^ size → n < 256 ^ k
within {size} k h below = lt_of_lt_of_le below (pow-le-pow_right {n = 256} (lit< tt) {i = size} {j = k} h)

-- of a data type whose floats can be VAX floats: it takes as many bytes as the VAX float does
abbrev vax_sized : ℕ → ℕ → Bool
vax_sized size kind = not (eqb kind single || eqb kind double) || eqb size (vax_bytes kind)

from_test : (a b c : Bool) → (a && b) ≡ true → T (not b || c) → T c
from_test true true c e t = t
from_test true false c e t = absurd (false≢true e)
from_test false b c e t = absurd (false≢true e)

vax_size : (t float : ℕ) → is_vax (kind_in (type_of t)) float ≡ true → size_in (type_of t) ≡ vax_bytes (kind_in (type_of t))
unfolding is_vax
vax_size t float h =
    let kind = kind_in (type_of t) in
    eqb→eq _ _ (from_test (not (eqb float ieee)) (eqb kind single || eqb kind double) _ h (in_type vax_sized t tt tt))

-- ---- a data type d that a number has
module _ (t : ℕ) {d : DataType} (e : Some d ≡ type_of t) where
  pub row_short : d.size ≤ 8
  row_short = subst (λ x. size_in x ≤ 8) (sym e) (type_small t)

  pub row_element : (n : ℕ) → n < 256 ^ d.size → Element (kind_number d.kind) d.size n
  row_element n = subst (λ x. 0 < size_in x → n < 256 ^ size_in x → Element (kind_in x) (size_in x) n) (sym e) (element t n) (some t e)

  pub row_vax : (float : ℕ) → is_vax (kind_number d.kind) float ≡ true → d.size ≡ vax_bytes (kind_number d.kind)
  row_vax float = subst (λ x. is_vax (kind_in x) float ≡ true → size_in x ≡ vax_bytes (kind_in x)) (sym e) (vax_size t float)
