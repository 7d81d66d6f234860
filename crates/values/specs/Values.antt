-- Values: the element at an offset, by its data type and its encoding. Assumes nothing.
use Rattle.std.specs.Prelude.{ℕ, suc, ◌+◌, ◌-◌, ◌*◌, ◌^◌, Bool, not, cond, ◌&&◌, ◌||◌, List, eqb, ltb, ℤ, pos, negsuc, Option, Some, None, Result, Ok, Err}
use Rattle.std.specs.Float.{binary32, binary64}
use Rattle.std.specs.Float.Ieee.{of_bits}
use Rattle.format.specs.Bytes.{big_at, little_at, signed_of}
use Rattle.format.specs.Fields.{end_of}
use Rattle.format.specs.Types.{signed, unsigned, single, double, code, type_of, size_in, kind_in}
use Rattle.format.specs.Encodings.{big, ieee, vax_d, encoding_of, order_in, float_in}
use Rattle.format.specs.declared.types.DataType.{DataType}
use Rattle.format.specs.declared.encodings.Encoding.{Encoding}
use Rattle.vax.specs.Layouts.{Kind, ffloat, dfloat, gfloat}
use Rattle.vax.specs.Vax.{reserved_at}
use Rattle.vax.specs.Rounding.{vax_at}
use Rattle.values.specs.declared.value.Value.{Value}
use Rattle.values.specs.declared.value.Value.TheVariants.{Signed, Unsigned, Single, Double, Code}
use Rattle.values.specs.declared.value.Answer.{Answer}
use Rattle.values.specs.declared.value.Undecoded.{Undecoded}
use Rattle.values.specs.declared.value.Undecoded.TheVariants.{Reserved, Nothing}

-- 14.5: "one case per kind, signed, unsigned, single, double or character code": the number of each
abbrev pub kind_of : Value → ℕ
kind_of (Signed x) = signed
kind_of (Unsigned n) = unsigned
kind_of (Single x) = single
kind_of (Double x) = double
kind_of (Code n) = code

-- the number of the n bytes at an offset: "big-endian, the rest little-endian" (3.8)
unfoldable pub raw_at : List ℕ → ℕ → ℕ → ℕ → ℕ
raw_at f at n order = cond (eqb order big) (big_at f at n) (little_at f at n)

-- 3.2: "A 2-byte signed value above 32,767 as a plain number is that number less 65,536; likewise for 1 and 4 bytes"; 14.5: "the float
-- kinds carrying the float itself"; "types 51 and 52 give codes 0 to 255"
unfoldable pub value_of : ℕ → ℕ → ℕ → Value
value_of kind size n =
    cond (eqb kind signed) (Signed (signed_of (8 * size - 1) n))
    (cond (eqb kind unsigned) (Unsigned n)
    (cond (eqb kind single) (Single (of_bits binary32 n))
    (cond (eqb kind double) (Double (of_bits binary64 n)) (Code n))))

-- 14.5: "With a value come 64 bits: a signed number in two's complement"
abbrev pub extended_of : ℤ → ℕ
extended_of (pos n) = n
extended_of (negsuc n) = 2 ^ 64 - suc n

-- a signed value sign-extended; of any other that is no VAX float the bytes' own bits: "Floats keep their bits" (14.5), a NaN's too
unfoldable pub bits_of : ℕ → ℕ → ℕ → ℕ
bits_of kind size n = cond (eqb kind signed) (extended_of (signed_of (8 * size - 1) n)) n

-- 14.6: "With a value comes the file offset it was read from"
abbrev pub answer_of : ℕ → ℕ → ℕ → ℕ → Answer
answer_of kind size n at = record { value = value_of kind size n; bits = bits_of kind size n; offset = at }

-- a float of an encoding whose floats are not IEEE 754: "3, 14, 15 have VAX floats" (3.8)
unfoldable pub is_vax : ℕ → ℕ → Bool
is_vax kind float = not (eqb float ieee) && (eqb kind single || eqb kind double)

-- the kind of VAX float that a single and a double are: an F_FLOAT, and by the encoding a D_FLOAT (3, 14) or a G_FLOAT (15), table 5.11 of
-- the format description; and how many bytes it takes; 15.1: "types 21 and 44 are F_FLOAT; types 22, 31 and 45 are D_FLOAT in 3 and 14,
-- G_FLOAT in 15"
abbrev pub vax_kind : ℕ → ℕ → Kind
vax_kind kind float = cond (eqb kind single) ffloat (cond (eqb float vax_d) dfloat gfloat)

abbrev pub vax_bytes : ℕ → ℕ
vax_bytes kind = cond (eqb kind single) 4 8

-- the bytes at an offset are a reserved operand
unfoldable pub reserved_float : List ℕ → ℕ → ℕ → ℕ → Bool
reserved_float f at kind float = is_vax kind float && reserved_at (vax_kind kind float) f at

-- 15.5: "The answer is a double, of single-precision types too"; its bits are the double's own
abbrev pub vax_given : ℕ → ℕ → Answer
vax_given r at = record { value = Double (of_bits binary64 r); bits = r; offset = at }

abbrev pub vax_answer : Option ℕ → ℕ → Result Answer Undecoded
vax_answer (Some r) at = Ok (vax_given r at)
vax_answer None at = Err Reserved

-- no data type's size, no encoding's byte order, or an element that does not lie before the file's end
unfoldable pub is_nothing : List ℕ → ℕ → ℕ → ℕ → Bool
is_nothing f at size order = eqb size 0 || (eqb order 0 || ltb (end_of f) (at + size))

-- 2.3: "22 comes last"
abbrev pub decoded_by : List ℕ → ℕ → Option DataType → Option Encoding → Result Answer Undecoded
decoded_by f at d c =
    cond (is_nothing f at (size_in d) (order_in c)) (Err Nothing)
    (cond (is_vax (kind_in d) (float_in c)) (vax_answer (vax_at (vax_kind (kind_in d) (float_in c)) f at) at)
    (Ok (answer_of (kind_in d) (size_in d) (raw_at f at (size_in d) (order_in c)) at)))

-- the element at an offset, of the data type t in the encoding e
unfoldable pub decoded_of : List ℕ → ℕ → ℕ → ℕ → Result Answer Undecoded
decoded_of f at t e = decoded_by f at (type_of t) (encoding_of e)
