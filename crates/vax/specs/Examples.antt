-- Worked examples, computed. Assumes nothing.
use Rattle.std.specs.Prelude.{◌≡◌, refl, [], ◌∷◌, Some, None}
use Rattle.vax.specs.Layouts.{ffloat, dfloat, gfloat}
use Rattle.vax.specs.Vax.{sign_at, exponent_at, mantissa_at}
use Rattle.vax.specs.Rounding.{nearest_of, kept_of, size_of, vax_of, vax_at}

-- F_FLOAT 1.0, -0.5, the least, 2 ^ -128, and the greatest; a zero whose mantissa is not; the reserved operand
f_one : vax_at ffloat (0x80 ∷ 0x40 ∷ 0 ∷ 0 ∷ []) 0 ≡ Some 0x3ff0_0000_0000_0000
unfolding vax_at vax_of size_of kept_of nearest_of sign_at exponent_at mantissa_at
f_one = refl

f_minus_half : vax_at ffloat (0x00 ∷ 0xc0 ∷ 0 ∷ 0 ∷ []) 0 ≡ Some 0xbfe0_0000_0000_0000
unfolding vax_at vax_of size_of kept_of nearest_of sign_at exponent_at mantissa_at
f_minus_half = refl

f_least : vax_at ffloat (0x80 ∷ 0x00 ∷ 0 ∷ 0 ∷ []) 0 ≡ Some 0x37f0_0000_0000_0000
unfolding vax_at vax_of size_of kept_of nearest_of sign_at exponent_at mantissa_at
f_least = refl

f_greatest : vax_at ffloat (0xff ∷ 0x7f ∷ 0xff ∷ 0xff ∷ []) 0 ≡ Some 0x47df_ffff_e000_0000
unfolding vax_at vax_of size_of kept_of nearest_of sign_at exponent_at mantissa_at
f_greatest = refl

f_zero : vax_at ffloat (0x7f ∷ 0x00 ∷ 0x12 ∷ 0x34 ∷ []) 0 ≡ Some 0
unfolding vax_at vax_of size_of kept_of nearest_of sign_at exponent_at mantissa_at
f_zero = refl

f_reserved : vax_at ffloat (0x01 ∷ 0x80 ∷ 0 ∷ 0 ∷ []) 0 ≡ None
unfolding vax_at vax_of size_of kept_of nearest_of sign_at exponent_at mantissa_at
f_reserved = refl

-- D_FLOAT 1 + 2 ^ -53: half a last bit, so to the even 1; 1 + 3 * 2 ^ -53: to 1 + 2 ^ -51; all ones: carried into the exponent, 2
d_tie_down : vax_at dfloat (0x80 ∷ 0x40 ∷ 0 ∷ 0 ∷ 0 ∷ 0 ∷ 4 ∷ 0 ∷ []) 0 ≡ Some 0x3ff0_0000_0000_0000
unfolding vax_at vax_of size_of kept_of nearest_of sign_at exponent_at mantissa_at
d_tie_down = refl

d_tie_up : vax_at dfloat (0x80 ∷ 0x40 ∷ 0 ∷ 0 ∷ 0 ∷ 0 ∷ 12 ∷ 0 ∷ []) 0 ≡ Some 0x3ff0_0000_0000_0002
unfolding vax_at vax_of size_of kept_of nearest_of sign_at exponent_at mantissa_at
d_tie_up = refl

d_carry : vax_at dfloat (0xff ∷ 0x40 ∷ 0xff ∷ 0xff ∷ 0xff ∷ 0xff ∷ 0xff ∷ 0xff ∷ []) 0 ≡ Some 0x4000_0000_0000_0000
unfolding vax_at vax_of size_of kept_of nearest_of sign_at exponent_at mantissa_at
d_carry = refl

-- a D_FLOAT all of whose bytes differ: each is in its place
d_places : vax_at dfloat (0x81 ∷ 0x40 ∷ 0x23 ∷ 0x45 ∷ 0x67 ∷ 0x89 ∷ 0xab ∷ 0xcd ∷ []) 0 ≡ Some 0x3ff0_28a4_712c_f9b5
unfolding vax_at vax_of size_of kept_of nearest_of sign_at exponent_at mantissa_at
d_places = refl

-- G_FLOAT 1.0; the least, 2 ^ -1024, a subnormal; the greatest below the least normal double, half a unit from it, which it comes as; the greatest
g_one : vax_at gfloat (0x10 ∷ 0x40 ∷ 0 ∷ 0 ∷ 0 ∷ 0 ∷ 0 ∷ 0 ∷ []) 0 ≡ Some 0x3ff0_0000_0000_0000
unfolding vax_at vax_of size_of kept_of nearest_of sign_at exponent_at mantissa_at
g_one = refl

g_least : vax_at gfloat (0x10 ∷ 0x00 ∷ 0 ∷ 0 ∷ 0 ∷ 0 ∷ 0 ∷ 0 ∷ []) 0 ≡ Some 0x0004_0000_0000_0000
unfolding vax_at vax_of size_of kept_of nearest_of sign_at exponent_at mantissa_at
g_least = refl

g_into_normal : vax_at gfloat (0x2f ∷ 0x00 ∷ 0xff ∷ 0xff ∷ 0xff ∷ 0xff ∷ 0xff ∷ 0xff ∷ []) 0 ≡ Some 0x0010_0000_0000_0000
unfolding vax_at vax_of size_of kept_of nearest_of sign_at exponent_at mantissa_at
g_into_normal = refl

g_greatest : vax_at gfloat (0xff ∷ 0x7f ∷ 0xff ∷ 0xff ∷ 0xff ∷ 0xff ∷ 0xff ∷ 0xff ∷ []) 0 ≡ Some 0x7fdf_ffff_ffff_ffff
unfolding vax_at vax_of size_of kept_of nearest_of sign_at exponent_at mantissa_at
g_greatest = refl

-- a G_FLOAT all of whose bytes differ
g_places : vax_at gfloat (0x12 ∷ 0x40 ∷ 0x34 ∷ 0x56 ∷ 0x78 ∷ 0x9a ∷ 0xbc ∷ 0xde ∷ []) 0 ≡ Some 0x3ff2_5634_9a78_debc
unfolding vax_at vax_of size_of kept_of nearest_of sign_at exponent_at mantissa_at
g_places = refl
