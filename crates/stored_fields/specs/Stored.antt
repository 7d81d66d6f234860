-- Control fields stored. Assumes nothing.
use Rattle.std.specs.Prelude.{ℕ, ◌+◌, ◌/◌, ◌%◌, cond, List, [], ◌∷◌, length, set, leb}

-- the number n as a control field, "4-byte .. big-endian" (3.1), at an offset
abbrev pub written : List ℕ → ℕ → ℕ → List ℕ
written f at n = set (set (set (set f at (n / 16777216)) (at + 1) (n / 65536 % 256)) (at + 2) (n / 256 % 256)) (at + 3) (n % 256)

-- the file with it, or as it is if it ends before the field does
unfoldable pub stored : List ℕ → ℕ → ℕ → List ℕ
stored f at n = cond (leb (at + 4) (length f)) (written f at n) f

-- numbers as control fields one after the other, from an offset on
unfoldable pub stored_all : List ℕ → ℕ → List ℕ → List ℕ
stored_all f at [] = f
stored_all f at (n ∷ ns) = stored_all (stored f at n) (at + 4) ns
