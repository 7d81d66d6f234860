-- Steps over what lies before the end of a file. Assumes nothing.
use mathlib.Core.Path.{◌≡◌, ap, ◌∙◌}
use mathlib.Core.List.{List}
use Prim.Native.Nat.{ℕ, ◌≤◌}
use native.Mathlib.Omega.{arith}
use lib.ListN.{length}
use Rattle.records.specs.Opening.{body_of}
use Rattle.records.proofs.Bodies.{body_le}
use Rattle.walk.specs.Levels.{levels_after}
use Rattle.walk.specs.Walk.{walk_step}
use Rattle.walk.specs.declared.positions.Levels.{Levels}
use Rattle.walk.specs.declared.positions.Step as T
use Rattle.walk.specs.declared.positions.Walk as W
use Rattle.states.specs.declared.state.Stage.TheVariants.{Walking}
use Rattle.checker.specs.declared.steps.Went.{Went}
use Rattle.faults.specs.Holder.{holder_of}
use Rattle.checker.specs.Step.{conf, stepped, step_by}
use Rattle.checker.specs.Bounds.{Lent, went_to}

-- what a step of the walk comes to, with its levels
pub walked : (f m : List ℕ) (n : ℕ) (w : W.Walk) (up : Levels) (b : List ℕ)
    → b ≡ body_of f
    → (t : T.Step) (r : Went) (m' : List ℕ)
    → t ≡ walk_step b up w
    → ((k : ℕ) (s : Levels) → conf (went_to k (levels_after s t) r) m' ≡ stepped b m k s (holder_of w) t)
    → conf (went_to n (levels_after up t) r) m' ≡ step_by f m n (Walking w up)
unfolding step_by
walked f m n w up b h t r m' is settles =
    settles n up ∙ ap (stepped b m n up (holder_of w)) is ∙ ap (λ (x : List ℕ). stepped x m n up (holder_of w) (walk_step x up w)) h

-- what lies before the end is lent too
pub lent_body : (f m b : List ℕ) → b ≡ body_of f → Lent f m → Lent b m
lent_body f m b is h =
    let less : length b ≤ length f = rw is (body_le f) in
    record { marks = omega (arith, h.marks); short = omega (arith, h.short) }
