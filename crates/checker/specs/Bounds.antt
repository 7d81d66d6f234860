-- What only the code needs: what a step may count on, that the marks are no fewer than the bytes, that its numbers are in their ranges and
-- that a verdict is one; and a run as the code gives it. Assumes nothing.
use Rattle.std.specs.Prelude.{ℕ, ◌≤◌, ◌<◌, ◌≡◌, List, length, false, cond, eqb}
use Rattle.walk.specs.Bounds.{Within, SmallLevels}
use Rattle.walk.specs.declared.positions.Levels.{Levels}
use Rattle.walk.specs.declared.positions.Walk as W
use Rattle.faults.specs.Fault.{fault_at}
use Rattle.faults.specs.declared.fault.Involved.{Involved}
use Rattle.checker.specs.Step.{conf, Run, run_of, walking}
use Rattle.checker.specs.Grant.{other_file}
use Rattle.states.specs.Stages.{done, finished}
use Rattle.states.specs.Bounds.{Loaded}
use Rattle.checker.specs.declared.runs.Ran.{Ran}
use Rattle.states.specs.declared.state.State.{State}
use Rattle.checker.specs.declared.steps.Went.{Went}
use Rattle.checker.specs.declared.steps.Went.TheVariants.{On, Over}
use Rattle.states.specs.declared.state.Stage.{Stage}
use Rattle.states.specs.declared.state.Stage.TheVariants.{Fresh, Sweep, Walking, Done, OutOfRange}

-- where a step of the walk leaves a check that has noted the length n, with the levels after it
abbrev pub went_to : ℕ → Levels → Went → State
went_to n up (On w) = walking n w up
went_to n up (Over v p) = done v p

-- a list that is over: refused with v by a step that involves r, or on to the next link
abbrev pub over_to : Involved → ℕ → W.Walk → Went
over_to r v w = cond (eqb v 0) (On w) (Over v (fault_at r v))

-- the bytes f are no more than an offset can say, and the marks m no fewer
pub record Lent (f m : List ℕ) : Type 0 where
  pub marks : length f ≤ length m
  pub short : length f ≤ 2147483647

abbrev pub Ready : List ℕ → List ℕ → Stage → Type 0
Ready f m Fresh = Unit {0}
Ready f m (Sweep o) = Lent f m
Ready f m (Walking w up) = Lent f m × Within w × SmallLevels up
Ready f m (Done v p) = v ≤ 23
Ready f m OutOfRange = Unit {0}

-- a run: the state, the steps made, and the marks beside them
abbrev pub ran_of : Ran → List ℕ → Run
ran_of r m = record { at = conf r.state m; made = r.made }

-- a check as a load gives it, over the file and the marks that it began with
pub record GoesOn (f m : List ℕ) (s : State) : Type 0 where
  pub loaded : Loaded s.length s.stage
  pub own : other_file f m s.length ≡ false

-- t and the marks m are where the plain run from s and m₀ stands after k steps, each of them made
pub record InRun (f : List ℕ) (s : State) (m₀ : List ℕ) (t : State) (m : List ℕ) (k : ℕ) : Type 0 where
  pub stands : record { at = conf t m; made = k } ≡ run_of f (conf s m₀) k

-- r with the marks m' is the plain run from s and m after the steps made: n at most, and one or more unless s is finished
pub record SomeSteps (f : List ℕ) (s : State) (m : List ℕ) (n : ℕ) (r : Ran) (m' : List ℕ) : Type 0 where
  pub run : InRun f s m r.state m' r.made
  pub some : finished s.stage ≡ false → 0 < r.made
  pub most : r.made ≤ n
