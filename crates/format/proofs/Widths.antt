-- Numbers of n bytes, once for every n. Assumes nothing.
use mathlib.Core.Path.{◌≡◌, refl, subst, ap, ◌∙◌}
use mathlib.Core.List.{List, [], ◌∷◌, ◌++◌}
use Prim.Native.Nat.{ℕ, zero, suc, ◌+◌, ◌*◌, ◌%◌, ◌^◌, ◌≤◌, ◌<◌}
use native.Mathlib.Nat.{add-zero, zero-add, lt_of_lt_of_le, pow-suc, pow-le-pow_right, mod-eq_of_lt}
use native.Mathlib.Numerals.{add-one}
use native.Mathlib.Omega.{arith}
use lib.Dec.{lit<}
use lib.ListN.{length, get_or, take, drop, length-drop}
use lib.Seq.{take-suc, get_or-drop}
use mir.Syntax.{w32}
use Rattle.std.specs.Int.{from_be_bytes, from_le_bytes, swap_bytes}
use Rattle.std.specs.Int.Bits.{bit_or}
use Rattle.std.specs.List.{fold}
use Rattle.std.specs.Prelude.{reverse}
use Rattle.std.proofs.lemmas.Grind.{reverse_onto}
use Rattle.std.proofs.lemmas.List.Sums.{fold-append}
use Rattle.std.proofs.lemmas.Nat.{or_shifted, le_bytes_4}
use Rattle.format.specs.Bytes.{big_from, big_at, little_of, little_at, OfBytes}

-- ---- the number of n bytes is below 256 ^ n
bytes_drop : (at : ℕ) (s : List ℕ) → OfBytes s → OfBytes (drop at s)
bytes_drop zero s h = h
bytes_drop (suc at) [] h = h
bytes_drop (suc at) (b ∷ s) h = bytes_drop at s (λ i. h (suc i))

big_below : (n : ℕ) (s : List ℕ) (a k : ℕ) → OfBytes s → a < 256 ^ k → big_from a (take n s) < 256 ^ (n + k)
big_below zero s a k h l = rw (zero-add k) l
big_below (suc n) [] a k h l = lt_of_lt_of_le l (pow-le-pow_right {n = 256} (lit< tt) {i = k} {j = suc n + k} (omega arith))
big_below (suc n) (b ∷ s) a k h l =
    let e : n + suc k ≡ suc n + k = omega arith in
    subst (λ (j : ℕ). big_from (a * 256 + b) (take n s) < 256 ^ j) e
    (big_below n s (a * 256 + b) (suc k) (λ i. h (suc i)) (omega (arith, h 0, pow-suc 256 k)))

little_below : (n : ℕ) (s : List ℕ) → OfBytes s → little_of (take n s) < 256 ^ n
little_below zero s h = lit< tt
little_below (suc n) [] h = pow_pos (suc n)
  where
    pow_pos : (n : ℕ) → 0 < 256 ^ n
    pow_pos n = pow-le-pow_right {n = 256} (lit< tt) {i = 0} {j = n} (omega arith)
little_below (suc n) (b ∷ s) h = omega (arith, h 0, pow-suc 256 n, little_below n s (λ i. h (suc i)))

pub big_lt : (s : List ℕ) (at n : ℕ) → OfBytes s → big_at s at n < 256 ^ n
unfolding big_at
big_lt s at n h = subst (λ (j : ℕ). big_from 0 (take n (drop at s)) < 256 ^ j) (add-zero n) (big_below n (drop at s) 0 0 (bytes_drop at s h) (lit< tt))

pub little_lt : (s : List ℕ) (at n : ℕ) → OfBytes s → little_at s at n < 256 ^ n
unfolding little_at
little_lt s at n h = little_below n (drop at s) (bytes_drop at s h)

big_snoc : (n : ℕ) (bs : List ℕ) (b : ℕ) → big_from n (bs ++ b ∷ []) ≡ big_from n bs * 256 + b
big_snoc n [] b = refl
big_snoc n (x ∷ bs) b = big_snoc (n * 256 + x) bs b

-- one byte more
big_more : (s : List ℕ) (at i : ℕ) → at + i < length s → big_at s at (i + 1) ≡ big_at s at i * 256 + get_or s (at + i) 0
unfolding big_at
big_more s at i h =
    let inside : i < length (drop at s) = rw length-drop (omega arith) in
    rw (add-one, take-suc (drop at s) i 0 inside, big_snoc, get_or-drop)

-- the four bytes of a control field
big_four : (s : List ℕ) (at : ℕ)
    → at + 4 ≤ length s
    → big_at s at 4 ≡ ((get_or s at 0 * 256 + get_or s (at + 1) 0) * 256 + get_or s (at + 2) 0) * 256 + get_or s (at + 3) 0
unfolding big_at
big_four s at h =
    let none : big_at s at 0 ≡ 0 = refl in
    let a : big_at s at 1 ≡ big_at s at 0 * 256 + get_or s at 0 = rw add-zero at (big_more s at 0 (omega arith)) in
    let b = big_more s at 1 (omega arith) in
    let c = big_more s at 2 (omega arith) in
    let d = big_more s at 3 (omega arith) in
    omega arith

-- the same bytes in the machine's order, swapped
pub swap_four : (s : List ℕ) (at n : ℕ) {p q r t : ℕ}
    → at + 4 ≤ length s
    → OfBytes s
    → n ≡ from_le_bytes w32 (get_or s p 0 ∷ get_or s q 0 ∷ get_or s r 0 ∷ get_or s t 0 ∷ [])
    → p ≡ at
    → q ≡ at + 1
    → r ≡ at + 2
    → t ≡ at + 3
    → swap_bytes w32 n ≡ big_at s at 4
swap_four s at n {p} {q} {r} {t} h b e i j k l =
    ap (from_be_bytes w32) (le_bytes_4 four n refl bytes e) ∙ rw (i, j, k, l) (omega (arith, big_four s at h))
  where
    four : List ℕ
    four = get_or s p 0 ∷ get_or s q 0 ∷ get_or s r 0 ∷ get_or s t 0 ∷ []

    bytes : (i : ℕ) → get_or four i 0 < 256
    bytes zero = b p
    bytes (suc zero) = b q
    bytes (suc (suc zero)) = b r
    bytes (suc (suc (suc zero))) = b t
    bytes (suc (suc (suc (suc i)))) = lit< tt

-- ---- a byte shifted in below a number of fewer than 8 bytes
abbrev pub shift_in : ℕ → ℕ → ℕ
shift_in n b = bit_or (n * 256 % 2 ^ 64) b

grow : (k : ℕ) → 256 ^ (k + 1) ≡ 256 ^ k * 256
grow k = rw add-one (pow-suc 256 k)

shift_in_is : (n b k : ℕ) → n < 256 ^ k → k < 8 → b < 256 → shift_in n b ≡ n * 256 + b
shift_in_is n b k h l c =
    let room : 256 ^ (k + 1) ≤ 256 ^ 8 = pow-le-pow_right {n = 256} (lit< tt) {i = k + 1} {j = 8} (omega arith) in
    let small : n * 256 < 2 ^ 64 = omega (arith, grow k) in
    rw (mod-eq_of_lt small) (or_shifted n 8 b c)

big_folds : (n : ℕ) (s : List ℕ) (a k : ℕ) → OfBytes s → a < 256 ^ k → k + n ≤ 8 → fold shift_in a (take n s) ≡ big_from a (take n s)
big_folds zero s a k h l f = refl
big_folds (suc n) [] a k h l f = refl
big_folds (suc n) (b ∷ s) a k h l f =
    let more : a * 256 + b < 256 ^ (k + 1) = omega (arith, h 0, grow k) in
    ap (λ (m : ℕ). fold shift_in m (take n s)) (shift_in_is a b k l (omega arith) (h 0))
    ∙ big_folds n s (a * 256 + b) (k + 1) (λ i. h (suc i)) more (omega arith)

-- the bytes shifted in from the first on, and from the last on
pub big_fold : (s : List ℕ) (at n : ℕ) → OfBytes s → n ≤ 8 → fold shift_in 0 (take n (drop at s)) ≡ big_at s at n
unfolding big_at
big_fold s at n h f = big_folds n (drop at s) 0 0 (bytes_drop at s h) (lit< tt) (omega arith)

little_folds : (n : ℕ) (s : List ℕ) → OfBytes s → n ≤ 8 → fold shift_in 0 (reverse (take n s)) ≡ little_of (take n s)
little_folds zero s h f = refl
little_folds (suc n) [] h f = refl
little_folds (suc n) (b ∷ s) h f =
    let later = λ (i : ℕ). h (suc i) in
    let low = little_below n s later in
    let is : shift_in (little_of (take n s)) b ≡ little_of (take n s) * 256 + b = shift_in_is (little_of (take n s)) b n low (omega arith) (h 0) in
    rw (reverse_onto (take n s) b [], fold-append shift_in 0 (reverse (take n s)) (b ∷ []), little_folds n s later (omega arith)) (omega (arith, is))

pub little_fold : (s : List ℕ) (at n : ℕ) → OfBytes s → n ≤ 8 → fold shift_in 0 (reverse (take n (drop at s))) ≡ little_at s at n
unfolding little_at
little_fold s at n h f = little_folds n (drop at s) (bytes_drop at s h) f
