-- No fresh check leaves a number outside its range. Assumes nothing.
use mathlib.Core.List.{List}
use Prim.Native.Nat.{ℕ}
use Rattle.checker.specs.Step.{conf, plain_run}
use Rattle.states.specs.Stages.{fresh}
use Rattle.states.proofs.Loads.{load_save}
use Rattle.checker.proofs.Sound.{sound_run, sound_loaded, sound_fresh}
use Rattle.grants.specs.Promises.{FreshInRange}

pub fresh_in_range : FreshInRange
fresh_in_range f m k =
    let Odd : ℕ → List ℕ → Type 0 = λ n m. ⊥ in
    let c = (plain_run f m k).at in
    let h = sound_run Odd f (conf fresh m) (sound_fresh Odd f m) k in
    (load_save c.state (sound_loaded Odd f c h), λ e. rw e at h.sound)
