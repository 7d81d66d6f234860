-- Whole numbers up to the limit of a record's bytes. Assumes nothing.
use Rattle.std.specs.Prelude.{ℕ, min}

-- a number, and 2,147,483,648 for every number "above 2,147,483,647" (5.13)
unfoldable pub capped : ℕ → ℕ
capped n = min n 2147483648
