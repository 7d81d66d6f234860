-- The positions of the walk, with the index records above them, and its steps from position to position. A link to a lower index record, and the
-- zero link of one, are links like any other, to a position with one level more or less. Assumes nothing.
use mathlib.Core.Path.{◌≡◌, refl}
use mathlib.Core.List.{List, [], ◌∷◌}
use Prim.Native.Nat.{ℕ}
use mathlib.Core.Bool.{Bool, true, false, cond}
use lib.Dec.{eqb}
use lib.ListN.{set}
use Rattle.marks.specs.Marks.{left_of}
use Rattle.walk.specs.Levels.{no_levels, pushed, popped}
use Rattle.walk.specs.Walk.{walk_step}
use Rattle.walk.specs.declared.positions.Levels.{Levels}
use Rattle.walk.specs.declared.positions.Walk as W
use Rattle.walk.specs.declared.positions.Step as T
use Rattle.walk.specs.declared.positions.Step.TheVariants.{Over, End, Take, Down, Up}
use Rattle.demands.proofs.Plain.{step_in, inner}
use Rattle.checker.specs.Step.{Conf, conf, done_by, walking, settled, link_number, stepped}
use Rattle.states.specs.Stages.{finished}
use Rattle.faults.specs.Holder.{holder_of}
use Rattle.faults.specs.Fault.{ending, claiming, leaving}
use Rattle.states.specs.declared.state.State.{State}

pub record Position : Type 0 where
  pub walk : W.Walk
  pub up : Levels

abbrev pub position : W.Walk → Levels → Position
position w up = record { walk = w; up = up }

-- outside an index, and in its top chain
abbrev pub top : W.Walk → Position
top w = position w no_levels

-- what a step finds, whatever the marks say, and the position that it leads to: a zero link, the end of the walk, or a link to a record
pub data Move : Type 0 where
  passes : ℕ → Position → Move
  stops : ℕ → Move
  takes : ℕ → ℕ → ℕ → ℕ → Position → Move

abbrev pub move_by : Levels → T.Step → Move
move_by up (Over w v) = passes v (position w up)
move_by up (End v) = stops v
move_by up (Take w early t typed late) = takes early t typed late (position w up)
move_by up (Down w t typed l) = takes 0 t typed 0 (position w (pushed l up))
move_by up (Up w) = passes 0 (position w (popped up))

abbrev pub move_of : List ℕ → Position → Move
move_of f p = move_by p.up (walk_step f p.up p.walk)

-- ---- without marks: a step ends well and claims cs, if what E says of the position that it leads to holds of the rest of them
abbrev pub EndsBy : (Position → List ℕ → Type 0) → Move → List ℕ → Type 0
EndsBy E (passes v p) cs = (v ≡ 0) × E p cs
EndsBy E (stops v) cs = (v ≡ 0) × (cs ≡ [])
EndsBy E (takes b t k l p) cs = (b ≡ 0) × (k ≡ 0) × (l ≡ 0) × (ds : List ℕ) × (cs ≡ t ∷ ds) × E p ds

-- so does a step from a position with these levels above it; and the step at a position
abbrev pub StepEnds : (Position → List ℕ → Type 0) → Levels → T.Step → List ℕ → Type 0
StepEnds E up t cs = EndsBy E (move_by up t) cs

abbrev pub Steps : List ℕ → (Position → List ℕ → Type 0) → Position → List ℕ → Type 0
Steps f E p cs = StepEnds E p.up (walk_step f p.up p.walk) cs

-- ---- with marks: a check that stands at a position, and where a step of it leads
abbrev pub walk_at : ℕ → Position → State
walk_at n p = walking n p.walk p.up

-- where a walk stops
abbrev pub stopped : List ℕ → List ℕ → ℕ → ℕ → State
stopped f m h v = cond (eqb v 0) (done_by (leaving (left_of f m).at) (left_of f m).number) (done_by (ending h) v)

pub stopped_ends : (f m : List ℕ) (h v : ℕ) → finished (stopped f m h v).stage ≡ true
stopped_ends f m h v = go (eqb v 0)
  where
    go : (b : Bool) → finished (cond b (done_by (leaving (left_of f m).at) (left_of f m).number) (done_by (ending h) v)).stage ≡ true
    go true = refl
    go false = refl

abbrev pub moved : List ℕ → List ℕ → ℕ → ℕ → Move → Conf
moved f m n h (passes v p) = settled (ending h) v m (walk_at n p) m
moved f m n h (stops v) = conf (stopped f m h v) m
moved f m n h (takes b t k l p) = settled (claiming h t) (link_number f m b t k l) m (walk_at n p) (set m t 2)

stepped_moves : (f m : List ℕ) (n : ℕ) (up : Levels) (h : ℕ) (t : T.Step) → stepped f m n up h t ≡ moved f m n h (move_by up t)
unfolding stepped
stepped_moves f m n up h (Over w v) = refl
stepped_moves f m n up h (End v) = refl
stepped_moves f m n up h (Take w early t typed late) = refl
stepped_moves f m n up h (Down w t typed l) = refl
stepped_moves f m n up h (Up w) = refl

pub step_moves : (f m : List ℕ) (n : ℕ) (p : Position) → inner f (conf (walk_at n p) m) ≡ moved f m n (holder_of p.walk) (move_of f p)
unfolding step_in
step_moves f m n p = stepped_moves f m n p.up (holder_of p.walk) (walk_step f p.up p.walk)
