-- Control fields, and the end of the bytes that are lent. Assumes nothing.
use Rattle.std.specs.Prelude.{ℕ, zero, suc, ◌+◌, ◌/◌, ◌%◌, Bool, true, false, cond, ◌&&◌, List, length, eqb, ℤ, pos, negsuc}
use Rattle.std.specs.Int.Signed.{le_z}
use Rattle.format.specs.Bytes.{big_at, signed_of}

-- where the bytes end that a rule is lent: records, links and fields lie before it. The opening is lent the whole file, every other rule
-- what lies before the file's end (`body_of`, records/specs/Opening.antt)
unfoldable pub end_of : List ℕ → ℕ
end_of f = length f

-- 3.1: "All control fields are 4-byte two's complement, big-endian"
unfoldable pub field_at : List ℕ → ℕ → ℤ
field_at f at = signed_of 31 (big_at f at 4)

abbrev pub eq_z : ℤ → ℤ → Bool
eq_z (pos a) (pos b) = eqb a b
eq_z (pos a) (negsuc b) = false
eq_z (negsuc a) (pos b) = false
eq_z (negsuc a) (negsuc b) = eqb a b

-- the field at an offset is k, k or more, at most k
unfoldable pub is_at : List ℕ → ℕ → ℤ → Bool
is_at f at k = eq_z (field_at f at) k

unfoldable pub at_least : List ℕ → ℕ → ℤ → Bool
at_least f at k = le_z k (field_at f at)

unfoldable pub at_most : List ℕ → ℕ → ℤ → Bool
at_most f at k = le_z (field_at f at) k

-- the field at p is at most the field at q
unfoldable pub in_order : List ℕ → ℕ → ℕ → Bool
in_order f p q = le_z (field_at f p) (field_at f q)

-- the field at p is the field at q
unfoldable pub same_at : List ℕ → ℕ → ℕ → Bool
same_at f p q = eq_z (field_at f p) (field_at f q)

-- the field at an offset lies in lo to hi, and so does each of the n fields from there on
abbrev pub within_at : List ℕ → ℕ → ℤ → ℤ → Bool
within_at f at lo hi = at_least f at lo && at_most f at hi

unfoldable pub each_within : List ℕ → ℕ → ℕ → ℤ → ℤ → Bool
each_within f at zero lo hi = true
each_within f at (suc n) lo hi = within_at f at lo hi && each_within f (at + 4) n lo hi

-- a number that is 0 or more as a natural number, and other for a negative one
abbrev pub nat_or : ℕ → ℤ → ℕ
nat_or other (pos n) = n
nat_or other (negsuc n) = other

-- a field as a natural number, a negative one as 0
unfoldable pub nat_at : List ℕ → ℕ → ℕ
nat_at f at = nat_or 0 (field_at f at)

-- one more than a field that is 0 or more; 0 for -1
unfoldable pub after_at : List ℕ → ℕ → ℕ
after_at f at = cond (at_least f at (pos 0)) (nat_at f at + 1) 0

-- one less: -1 for 0
abbrev pub before : ℕ → ℤ
before zero = negsuc 0
before (suc n) = pos n

-- a link as an offset; a negative one as 1, where no record starts either (3.4: "A link below 8 .. is no start")
unfoldable pub link_at : List ℕ → ℕ → ℕ
link_at f at = nat_or 1 (field_at f at)

-- the bit of weight w of the flags at an offset is set; 3.5: "Bit n of flags has the weight 2^n"
unfoldable pub bit_at : List ℕ → ℕ → ℕ → Bool
bit_at f at w = eqb (big_at f at 4 / w % 2) 1
