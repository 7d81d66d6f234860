-- The bytes of a VAX float, read as words of which the first is the most significant, have the fields that the tables give. Assumes nothing.
use Prim.Native.Nat.{ℕ, ◌+◌, ◌*◌, ◌/◌, ◌%◌, ◌^◌, ◌≤◌, ◌<◌}
use mathlib.Core.Path.{◌≡◌, refl, sym, ap, ◌∙◌}
use mathlib.Core.Bool.{Bool, true, false}
use mathlib.Core.List.{List}
use native.Mathlib.Nat.{add-zero, add_assoc}
use native.Mathlib.Omega.{arith}
use lib.Dec.{leb, ltb, eqb}
use lib.ListN.{get_or}
use lib.Pow.{mod-pow-add, shr-shr}
use lib.Pow as pow
use borrow.Author.Tests.{ltb-true, ltb-false, le-leb, lt-leb, eq-eqb, ne_eqb}
use Rattle.vax.specs.Layouts.{ffloat, dfloat, gfloat}
use Rattle.vax.specs.Vax.{sign_at, exponent_at, mantissa_at}
use Rattle.vax.specs.Rounding.{vax_of, vax_at}
use Rattle.vax.specs.Words.{vax_in, word_at, pair_at, four_at}

-- ---- a first word h, of whose bits i are the mantissa's, and g bits after it
module _ (h l i g x b : ℕ) (small : l < 2 ^ g) where
  mantissa_of : (h * 2 ^ g + l) % 2 ^ (i + g) ≡ h % 2 ^ i * 2 ^ g + l
  mantissa_of =
      mod-pow-add (h * 2 ^ g + l) i g
      ∙ ap (λ (z : ℕ). z % 2 ^ i * 2 ^ g + (h * 2 ^ g + l) % 2 ^ g) (pow.high h g small)
      ∙ ap (λ (z : ℕ). h % 2 ^ i * 2 ^ g + z) (pow.low h g small)

  upper_of : (h * 2 ^ g + l) / 2 ^ (g + i) ≡ h / 2 ^ i
  upper_of = sym (shr-shr (h * 2 ^ g + l) g i) ∙ ap (λ (z : ℕ). z / 2 ^ i) (pow.high h g small)

  in_words : (w : ℕ) → w ≡ i + g → vax_in w x b (h * 2 ^ g + l) ≡ vax_of w b (leb (2 ^ x) (h / 2 ^ i)) (h / 2 ^ i % 2 ^ x) (h % 2 ^ i * 2 ^ g + l)
  unfolding vax_in
  in_words w e =
      let u : (h * 2 ^ g + l) / 2 ^ w ≡ h / 2 ^ i = ap (λ (z : ℕ). (h * 2 ^ g + l) / 2 ^ z) (e ∙ swap) ∙ upper_of in
      let m : (h * 2 ^ g + l) % 2 ^ w ≡ h % 2 ^ i * 2 ^ g + l = ap (λ (z : ℕ). (h * 2 ^ g + l) % 2 ^ z) e ∙ mantissa_of in
      rw (u, m)
    where
      swap : i + g ≡ g + i
      swap = omega arith

-- ---- the first word's bits, by its two bytes
sign_by : (p n c : ℕ) → c < 256 → (c < 128 → n < p) → (128 ≤ c → p ≤ n) → leb p n ≡ eqb (c / 128 % 2 * 1 + 0) 1
sign_by p n c C low high = go (ltb c 128) refl
  where
    go : (s : Bool) → ltb c 128 ≡ s → leb p n ≡ eqb (c / 128 % 2 * 1 + 0) 1
    go true e = let l = ltb-true c 128 e in lt-leb p n (low l) ∙ sym (ne_eqb (c / 128 % 2 * 1 + 0) 1 (λ z. omega arith))
    go false e = let l = ltb-false c 128 e in le-leb p n (high l) ∙ sym (eq-eqb (c / 128 % 2 * 1 + 0) 1 (omega arith))

sign_7 : (a c : ℕ) → a < 256 → c < 256 → leb 256 ((a + c * 256) / 128) ≡ eqb (c / 128 % 2 * 1 + 0) 1
sign_7 a c A C = sign_by 256 ((a + c * 256) / 128) c C (λ l. omega arith) (λ l. omega arith)

sign_4 : (a c : ℕ) → a < 256 → c < 256 → leb 2048 ((a + c * 256) / 16) ≡ eqb (c / 128 % 2 * 1 + 0) 1
sign_4 a c A C = sign_by 2048 ((a + c * 256) / 16) c C (λ l. omega arith) (λ l. omega arith)

exponent_7 : (a c : ℕ) → a < 256 → c < 256 → (a + c * 256) / 128 % 256 ≡ a / 128 % 2 * 1 + (c / 1 % 128 * 2 + 0)
exponent_7 a c A C = omega arith

exponent_4 : (a c : ℕ) → a < 256 → c < 256 → (a + c * 256) / 16 % 2048 ≡ a / 16 % 16 * 1 + (c / 1 % 128 * 16 + 0)
exponent_4 a c A C = omega arith

first_7 : (a c : ℕ) → (a + c * 256) % 128 ≡ a / 1 % 128
first_7 a c = omega arith

first_4 : (a c : ℕ) → (a + c * 256) % 16 ≡ a / 1 % 16
first_4 a c = omega arith

-- ---- the whole bytes after it
byte : (a : ℕ) → a < 256 → a / 1 % 256 ≡ a
byte a h = omega arith

mantissa_2 : (u v a b : ℕ) → u ≡ v → a < 256 → b < 256 → u * 65536 + (a + b * 256) ≡ v * 65536 + (a / 1 % 256 * 1 + (b / 1 % 256 * 256 + 0))
mantissa_2 u v a b e A B = omega (arith, byte a A, byte b B)

mantissa_6 : (u v a b c d x y : ℕ) → u ≡ v → a < 256 → b < 256 → c < 256 → d < 256 → x < 256 → y < 256
    → u * 281474976710656 + ((a + b * 256) * 4294967296 + ((c + d * 256) * 65536 + (x + y * 256)))
    ≡ v * 281474976710656 + (a / 1 % 256 * 4294967296 + (b / 1 % 256 * 1099511627776 + (c / 1 % 256 * 65536 + (d / 1 % 256 * 16777216 + (x / 1 % 256 * 1 + (y / 1 % 256 * 256 + 0))))))
mantissa_6 u v a b c d x y e A B C D X Y = rw (byte a A, byte b B, byte c C, byte d D, byte x X, byte y Y) (omega arith)

-- ---- the three kinds
same : (w b : ℕ) {s s' : Bool} {e e' m m' : ℕ} → s ≡ s' → e ≡ e' → m ≡ m' → vax_of w b s e m ≡ vax_of w b s' e' m'
same w b {s} {s'} {e} {e'} {m} {m'} p q r = ap (λ (z : Bool). vax_of w b z e m) p ∙ ap (λ (z : ℕ). vax_of w b s' z m) q ∙ ap (λ (z : ℕ). vax_of w b s' e' z) r

word_lt : (a b : ℕ) → a < 256 → b < 256 → a + b * 256 < 65536
word_lt a b A B = omega arith

three : (u v w : ℕ) → u < 65536 → v < 65536 → w < 65536 → u * 4294967296 + (v * 65536 + w) < 2 ^ 48
three u v w l m n = omega arith

module _ (f : List ℕ) (at : ℕ) (bytes : (i : ℕ) → get_or f i 0 < 256) where
  abbrev b : ℕ → ℕ
  b i = get_or f (at + i) 0

  b_lt : (i : ℕ) → b i < 256
  b_lt i = bytes (at + i)

  -- the word whose first byte is byte i, and its limit
  abbrev word : ℕ → ℕ
  word i = b i + b (i + 1) * 256

  lt : (i : ℕ) → word i < 65536
  lt i = word_lt (b i) (b (i + 1)) (b_lt i) (b_lt (i + 1))

  word_is : (i : ℕ) → word_at f (at + i) ≡ word i
  word_is i = ap (λ (z : ℕ). b i + get_or f z 0 * 256) (add_assoc at i 1)

  pair_is : (i : ℕ) → pair_at f (at + i) ≡ word i * 65536 + word (i + 2)
  unfolding pair_at
  pair_is i =
      ap (λ (z : ℕ). z * 65536 + word_at f (at + i + 2)) (word_is i)
      ∙ ap (λ (z : ℕ). word i * 65536 + word_at f z) (add_assoc at i 2)
      ∙ ap (λ (z : ℕ). word i * 65536 + z) (word_is (i + 2))

  first_pair : pair_at f at ≡ word 0 * 65536 + word 2
  first_pair = ap (pair_at f) (sym (add-zero at)) ∙ pair_is 0

  pub f_words : vax_in 23 8 128 (pair_at f at) ≡ vax_at ffloat f at
  unfolding vax_at sign_at exponent_at mantissa_at
  f_words =
      ap (vax_in 23 8 128) first_pair
      ∙ in_words (word 0) (word 2) 7 16 8 128 (lt 2) 23 refl
      ∙ same 23 128 (sign_7 (b 0) (b 1) (b_lt 0) (b_lt 1)) (exponent_7 (b 0) (b 1) (b_lt 0) (b_lt 1))
      (mantissa_2 (word 0 % 128) (b 0 / 1 % 128) (b 2) (b 3) (first_7 (b 0) (b 1)) (b_lt 2) (b_lt 3))

  abbrev rest : ℕ
  rest = word 2 * 4294967296 + (word 4 * 65536 + word 6)

  rest_lt : rest < 2 ^ 48
  rest_lt = three (word 2) (word 4) (word 6) (lt 2) (lt 4) (lt 6)

  four_is : four_at f at ≡ word 0 * 2 ^ 48 + rest
  unfolding four_at
  four_is = ap (λ (z : ℕ). z * 4294967296 + pair_at f (at + 4)) first_pair ∙ ap (λ (z : ℕ). (word 0 * 65536 + word 2) * 4294967296 + z) (pair_is 4) ∙ omega arith

  pub d_words : vax_in 55 8 128 (four_at f at) ≡ vax_at dfloat f at
  unfolding vax_at sign_at exponent_at mantissa_at
  d_words =
      ap (vax_in 55 8 128) four_is
      ∙ in_words (word 0) rest 7 48 8 128 rest_lt 55 refl
      ∙ same 55 128 (sign_7 (b 0) (b 1) (b_lt 0) (b_lt 1)) (exponent_7 (b 0) (b 1) (b_lt 0) (b_lt 1))
      (mantissa_6 (word 0 % 128) (b 0 / 1 % 128) (b 2) (b 3) (b 4) (b 5) (b 6) (b 7) (first_7 (b 0) (b 1)) (b_lt 2) (b_lt 3) (b_lt 4) (b_lt 5) (b_lt 6) (b_lt 7))

  pub g_words : vax_in 52 11 1024 (four_at f at) ≡ vax_at gfloat f at
  unfolding vax_at sign_at exponent_at mantissa_at
  g_words =
      ap (vax_in 52 11 1024) four_is
      ∙ in_words (word 0) rest 4 48 11 1024 rest_lt 52 refl
      ∙ same 52 1024 (sign_4 (b 0) (b 1) (b_lt 0) (b_lt 1)) (exponent_4 (b 0) (b 1) (b_lt 0) (b_lt 1))
      (mantissa_6 (word 0 % 16) (b 0 / 1 % 16) (b 2) (b 3) (b 4) (b 5) (b 6) (b 7) (first_4 (b 0) (b 1)) (b_lt 2) (b_lt 3) (b_lt 4) (b_lt 5) (b_lt 6) (b_lt 7))
