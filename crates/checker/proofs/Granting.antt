-- What a grant comes to, on a state that is loaded. Assumes nothing.
use mathlib.Core.Path.{◌≡◌, refl, sym, ap, ◌∙◌}
use mathlib.Core.Bool.{true, false, true≢false, ◌||◌}
use mathlib.Core.List.{List}
use Prim.Native.Nat.{ℕ}
use lib.Dec.{eqb}
use lib.ListN.{length}
use lib.IntN.{pos}
use Rattle.states.specs.declared.state.Stage.{Stage}
use Rattle.states.specs.declared.state.Stage.TheVariants.{Fresh, Sweep, Walking, Done, OutOfRange}
use Rattle.states.specs.declared.state.State.{State}
use Rattle.checker.specs.Step.{conf, run_of}
use Rattle.states.specs.Stages.{finished, answer_of, location_in}
use Rattle.states.specs.Saved.{state_length, load}
use Rattle.checker.specs.Grant.{granted, other_file, worked, grant_by, grant_of}
use Rattle.checker.proofs.Cases.{right_length}

-- a check that is not finished has no location
pub running_location : (g : Stage) → finished g ≡ false → location_in g ≡ 0
running_location Fresh e = refl
running_location (Sweep o) e = refl
running_location (Walking w up) e = refl
running_location (Done v p) e = absurd (true≢false e)
running_location OutOfRange e = refl

module _ (f m l : List ℕ) (n : ℕ) (long : length l ≡ state_length) (s : State) (is : s ≡ load l) where
  by_state : grant_of f m l n ≡ grant_by f m l n s
  by_state = right_length f m l n long ∙ ap (λ (t : State). grant_by f m l n t) (sym is)

  pub idles : (finished s.stage || eqb n 0) ≡ true → grant_of f m l n ≡ granted (answer_of s.stage) (location_in s.stage) 0 l m
  unfolding grant_by
  idles e = by_state ∙ rw e

  module _ (on : (finished s.stage || eqb n 0) ≡ false) where
    pub differs : other_file f m s.length ≡ true → grant_of f m l n ≡ granted (pos 21) 0 0 l m
    unfolding grant_by
    differs e = by_state ∙ rw (on, e)

    pub works : other_file f m s.length ≡ false → grant_of f m l n ≡ worked (run_of f (conf s m) n)
    unfolding grant_by
    works e = by_state ∙ rw (on, e)
