-- Levels stand above index records alone: no step of the walk leaves them elsewhere. Assumes nothing.
use mathlib.Core.Path.{◌≡◌}
use mathlib.Core.Bool.{Bool, true}
use mathlib.Core.Option.{Option, none, some}
use mathlib.Core.List.{List}
use Prim.Native.Nat.{ℕ}
use Rattle.walk.specs.Levels.{is_none, indexed}
use Rattle.walk.specs.Walk.{walk_step_by}
use Rattle.walk.specs.declared.positions.Level.{Level}
use Rattle.walk.specs.declared.positions.Var.{Var}
use Rattle.walk.specs.declared.positions.Walk as W
use Rattle.walk.specs.declared.positions.Step as T
use Rattle.walk.proofs.Variables.{NextKeeps, StepKeeps, step_keeps}

-- near is the nearest level above a position of the walk
abbrev pub PlacedBy : Level → Option Var → Type 0
PlacedBy near none = is_none near ≡ true
PlacedBy near (some u) = Unit {0}

abbrev pub Placed : Level → W.Walk → Type 0
Placed near w = PlacedBy near (indexed w)

-- where a step leads that is not refused
abbrev pub NextPlaced : Level → T.Step → Type 0
NextPlaced near t = NextKeeps PlacedBy near t

pub step_placed : (f : List ℕ) (near : Level) (room : Bool) (w : W.Walk) → Placed near w → StepKeeps PlacedBy near (walk_step_by f near room w)
step_placed f near room w h = step_keeps PlacedBy f near (λ z. z) (λ l u h. tt) room w h (λ k p u e i q. tt)
