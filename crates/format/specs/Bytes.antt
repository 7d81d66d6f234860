-- Numbers in a list of bytes: either byte order, and two's complement. Assumes nothing.
use Rattle.std.specs.Prelude.{ℕ, suc, ◌+◌, ◌-◌, ◌*◌, ◌^◌, ◌<◌, cond, List, [], ◌∷◌, take, drop, get_or, ltb, ℤ, pos, negsuc}

-- bytes after the number n, each less significant than the one before
abbrev pub big_from : ℕ → List ℕ → ℕ
big_from n [] = n
big_from n (b ∷ bs) = big_from (n * 256 + b) bs

-- the n bytes at an offset, "big-endian" (3.1): the first the most significant
unfoldable pub big_at : List ℕ → ℕ → ℕ → ℕ
big_at s at n = big_from 0 (take n (drop at s))

-- bytes of which the first is the least significant
abbrev pub little_of : List ℕ → ℕ
little_of [] = 0
little_of (b ∷ bs) = b + 256 * little_of bs

-- the n bytes at an offset, "little-endian" (3.8)
unfoldable pub little_at : List ℕ → ℕ → ℕ → ℕ
little_at s at n = little_of (take n (drop at s))

-- all numbers of a list are bytes
abbrev pub OfBytes : List ℕ → Type 0
OfBytes s = (i : ℕ) → get_or s i 0 < 256

-- two's complement: of k + 1 bits, a number of 2 ^ k or more stands for that number less 2 ^ (k + 1) (3.2: "A 2-byte signed value above
-- 32,767 as a plain number is that number less 65,536; likewise for 1 and 4 bytes")
abbrev pub signed_of : ℕ → ℕ → ℤ
signed_of k n = cond (ltb n (2 ^ k)) (pos n) (negsuc (2 ^ suc k - suc n))
