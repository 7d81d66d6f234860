-- What a state that was loaded answers. Assumes nothing.
use mathlib.Core.Path.{◌≡◌, refl, sym, ap, ◌∙◌}
use mathlib.Core.Bool.{Bool, true, false, ◌||◌, true≢false, or-true}
use Prim.Native.Nat.{ℕ}
use lib.Dec.{leb, eqb}
use lib.IntN.{pos}
use borrow.Author.Tests.{ne_eqb}
use Rattle.states.specs.declared.state.Stage.{Stage}
use Rattle.states.specs.declared.state.Stage.TheVariants.{Fresh, Sweep, Walking, Done, OutOfRange}
use Rattle.faults.specs.Fault.{fault_at, saved_location}
use Rattle.states.specs.Stages.{answer_of, location_in}
use Rattle.states.proofs.Loads.{not_21}
use Rattle.grants.specs.Lists.{refused21}
use Rattle.grants.specs.Promises.{comes_back, has_location}
use Rattle.states.specs.Bounds.{Loaded}

-- a grant that works or repeats a verdict does not answer 21
pub not_refused : (n : ℕ) (g : Stage) → Loaded n g → refused21 (answer_of g) ≡ false
not_refused n Fresh h = refl
not_refused n (Sweep o) h = refl
not_refused n (Walking w up) h = refl
not_refused n (Done v p) h = ne_eqb v 21 (λ e. not_21 n (Done v p) h (ap pos e))
not_refused n OutOfRange h = refl

-- its answer is a number that comes back
pub answer_comes : (n : ℕ) (g : Stage) → Loaded n g → comes_back (answer_of g) ≡ true
answer_comes n Fresh h = refl
answer_comes n (Sweep o) h = refl
answer_comes n (Walking w up) h = refl
answer_comes n (Done v p) h = go (leb v 14) (eqb v 20) (eqb v 23) h.1.verdict.in_range
  where
    go : (a b c : Bool) → (a || b || c) ≡ true → (a || (b || (eqb v 21 || c))) ≡ true
    go true b c e = refl
    go false true c e = refl
    go false false true e = or-true (eqb v 21)
    go false false false e = absurd (true≢false (sym e))
answer_comes n OutOfRange h = refl

-- a number that no record is named for has no location
other_number : (v : ℕ) → has_location (pos v) ≡ false → (k : ℕ) → has_location (pos k) ≡ true → eqb v k ≡ false
other_number v h k e = ne_eqb v k (λ z. true≢false (sym e ∙ rw z at h))

saved_other : (v p : ℕ) → has_location (pos v) ≡ false → saved_location v p ≡ 0
unfolding fault_at
saved_other v p h =
    let o : (k : ℕ) → has_location (pos k) ≡ true → eqb v k ≡ false = other_number v h in
    rw (o 8 refl, o 9 refl, o 12 refl, o 11 refl, o 10 refl, o 23 refl, o 14 refl, o 7 refl, o 13 refl)

pub no_location : (n : ℕ) (g : Stage) → Loaded n g → has_location (answer_of g) ≡ false → location_in g ≡ 0
no_location n Fresh h e = refl
no_location n (Sweep o) h e = refl
no_location n (Walking w up) h e = refl
no_location n (Done v p) h e = sym h.1.located ∙ saved_other v p e
no_location n OutOfRange h e = refl
