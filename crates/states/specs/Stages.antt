-- The stages of a check: what each answers. Assumes nothing.
use Rattle.std.specs.Prelude.{ℕ, Bool, true, false, ℤ, pos, negsuc}
use Rattle.states.specs.declared.state.Stage.{Stage}
use Rattle.states.specs.declared.state.Stage.TheVariants.{Fresh, Sweep, Walking, Done, OutOfRange}
use Rattle.states.specs.declared.state.State.{State}

-- 10.1: "Fresh, the state to begin with"
abbrev pub fresh : State
fresh = record { length = 0; stage = Fresh }

-- a finished check keeps its verdict, the location of its refusal, and nothing else
abbrev pub done : ℕ → ℕ → State
done v p = record { length = 0; stage = Done v p }

abbrev pub finished : Stage → Bool
finished Fresh = false
finished (Sweep o) = false
finished (Walking w up) = false
finished (Done v p) = true
finished OutOfRange = false

-- the number that comes back: "-1 running, no verdict" (2.1), or the verdict
abbrev pub answer_of : Stage → ℤ
answer_of Fresh = negsuc 0
answer_of (Sweep o) = negsuc 0
answer_of (Walking w up) = negsuc 0
answer_of (Done v p) = pos v
answer_of OutOfRange = negsuc 0

-- the location that comes with it: 0 where there is no refusal, or one without a location
abbrev pub location_in : Stage → ℕ
location_in Fresh = 0
location_in (Sweep o) = 0
location_in (Walking w up) = 0
location_in (Done v p) = p
location_in OutOfRange = 0
