-- A sound check is fit for a step, and its verdict for an answer. Assumes nothing.
use mathlib.Core.Path.{◌≡◌, refl}
use mathlib.Core.Bool.{true, false, ◌||◌}
use mathlib.Core.List.{List}
use Prim.Native.Nat.{ℕ, ◌≤◌}
use native.Mathlib.Omega.{arith}
use lib.Dec.{leb, eqb}
use mathlib.Core.Bool.{Bool}
use borrow.Author.Tests.{leb-true, eqb-true}
use Rattle.states.specs.declared.state.Stage.{Stage}
use Rattle.states.specs.declared.state.Stage.TheVariants.{Fresh, Sweep, Walking, Done, OutOfRange}
use Rattle.checker.specs.Bounds.{Ready}
use Rattle.states.specs.Bounds.{VerdictFits, IsVerdict, Loaded}
use Rattle.states.proofs.LevelLists.{levels_small}
use Rattle.checker.proofs.Sound.{SoundBy}

verdict_small : (v : ℕ) → IsVerdict v → v ≤ 23
verdict_small v t = go (leb v 14) (eqb v 20) refl refl t.in_range
  where
    go : (a b : Bool) → leb v 14 ≡ a → eqb v 20 ≡ b → (a || b || eqb v 23) ≡ true → v ≤ 23
    go true b h k e = omega (arith, leb-true v 14 h)
    go false true h k e = omega (arith, eqb-true v 20 k)
    go false false h k e = omega (arith, eqb-true v 23 e)

pub loaded_fits : (n : ℕ) (g : Stage) → Loaded n g → VerdictFits g
loaded_fits n Fresh h = tt
loaded_fits n (Sweep o) h = tt
loaded_fits n (Walking w up) h = tt
loaded_fits n (Done v p) h = verdict_small v h.1.verdict
loaded_fits n OutOfRange h = tt

pub sound_ready : (Odd : ℕ → List ℕ → Type 0) (f : List ℕ) (n : ℕ) (m : List ℕ) (g : Stage) → SoundBy Odd f n m g → Ready f m g
sound_ready Odd f n m Fresh h = tt
sound_ready Odd f n m (Sweep o) h = record { marks = h.0.3; short = h.0.2 }
sound_ready Odd f n m (Walking w up) h = (record { marks = h.0.3; short = h.0.2 }, h.1, levels_small up h.2.there)
sound_ready Odd f n m (Done v p) h = verdict_small v h.1.verdict
sound_ready Odd f n m OutOfRange h = tt
