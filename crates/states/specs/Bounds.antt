-- What only the code needs: that a verdict fits, the ranges of a variable alone, and what a load makes of any numbers. Assumes nothing.
use Rattle.std.specs.Prelude.{ℕ, ◌≤◌, ◌≡◌, true, List, [], ◌∷◌}
use Rattle.faults.specs.Fault.{saved_location}
use Rattle.walk.specs.Ranges.{Range, var_kind, offset, count}
use Rattle.walk.specs.declared.positions.Var.{Var}
use Rattle.states.specs.Saved.{stage_range, verdict_range}
use Rattle.states.specs.declared.state.Stage.{Stage}
use Rattle.states.specs.declared.state.Stage.TheVariants.{Fresh, Sweep, Walking, Done, OutOfRange}

-- a bound of the verdicts, so that verdict + 1 can be saved; IsVerdict says which they are
abbrev pub VerdictFits : Stage → Type 0
VerdictFits Fresh = Unit {0}
VerdictFits (Sweep o) = Unit {0}
VerdictFits (Walking w up) = Unit {0}
VerdictFits (Done v p) = v ≤ 23
VerdictFits OutOfRange = Unit {0}

-- the ranges of the variable whose index is walked, as `row_of` has them
abbrev pub var_ranges : Var → List Range
var_ranges u = var_kind u.kind ∷ offset u.place ∷ count u.greatest ∷ offset u.vdr ∷ []

-- a verdict that a saved state may tell
pub record IsVerdict (v : ℕ) : Type 0 where
  pub in_range : verdict_range v ≡ true

-- and its location
pub record IsOutcome (v p : ℕ) : Type 0 where
  pub verdict : IsVerdict v
  pub located : saved_location v p ≡ p

-- what a load makes of any numbers: each in its range, a verdict with the length 0, or out of range
abbrev pub Loaded : ℕ → Stage → Type 0
Loaded n Fresh = stage_range n Fresh ≡ true
Loaded n (Sweep o) = stage_range n (Sweep o) ≡ true
Loaded n (Walking w up) = stage_range n (Walking w up) ≡ true
Loaded n (Done v p) = (n ≡ 0) × IsOutcome v p
Loaded n OutOfRange = Unit {0}
