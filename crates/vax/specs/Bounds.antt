-- What the code asks of a kind of VAX float, so that its numbers fit. The three kinds have it. Assumes nothing.
use Rattle.std.specs.Prelude.{ℕ, ◌+◌, ◌^◌, ◌≤◌, ◌<◌}

-- what a kind may be: with the leading digit its mantissa fits 63 bits; its exponent has no more bits than a double's; its greatest value is below
-- 2 ^ 1023, and its least is no less than the smallest double
pub record Bounds (w x b : ℕ) : Type 0 where
  pub width : w ≤ 62
  pub range : x ≤ 11
  pub greatest : 2 ^ x ≤ b + 1024
  pub least : b ≤ 1074

-- n has w + 1 digits, the first of which may be 0, and fits 63 bits
pub record DigitsFit (w n : ℕ) : Type 0 where
  pub width : w ≤ 62
  pub digits : n < 2 ^ (w + 1)
