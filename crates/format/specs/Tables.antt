-- Tables of numbered rows. Assumes nothing.
use Rattle.std.specs.Prelude.{ℕ, cond, List, [], ◌∷◌, eqb, Option, None, Some}

-- the row of the number x, if there is one
abbrev pub lookup : {A : Type 0} → List (ℕ × A) → ℕ → Option A
lookup [] x = None
lookup (p ∷ ps) x = cond (eqb x p.0) (Some p.1) (lookup ps x)
