-- The saved state: thirty-four numbers, their ranges, load and save; docs/STATE.md gives them in words. Assumes nothing.
use Rattle.std.specs.Prelude.{ℕ, suc, ◌+◌, ◌-◌, Bool, true, false, cond, ◌&&◌, ◌||◌, List, [], ◌∷◌, ◌++◌, get_or, leb, eqb}
use Rattle.std.specs.Prelude as P
use Rattle.std.specs.Prelude.{Some, None}
use Rattle.std.specs.List.{list_all}
use Rattle.std.specs.Cmp.Lexicographic.{pointwise}
use Rattle.std.proofs.Math.Option.{Option, none, some}
use Rattle.walk.specs.Ranges.{Range, offset, count, var_kind, Row, row_of, ranges_of, level_ranges, number_of, in_range, all_in}
use Rattle.walk.specs.Levels.{no_levels, indexed}
use Rattle.walk.specs.declared.positions.Level.{Level}
use Rattle.walk.specs.declared.positions.Levels.{Levels}
use Rattle.walk.specs.declared.positions.Var.{Var}
use Rattle.walk.specs.declared.positions.Walk as W
use Rattle.walk.specs.declared.positions.Walk.TheVariants.{Start, Vars, Chain, Entry, Attrs, Entries, Unused}
use Rattle.faults.specs.Fault.{saved_location}
use Rattle.states.specs.declared.state.Stage.{Stage}
use Rattle.states.specs.declared.state.Stage.TheVariants.{Fresh, Sweep, Walking, Done, OutOfRange}
use Rattle.states.specs.declared.state.State.{State}
use Rattle.states.specs.Stages.{location_in, done}

-- 10.1: "A state is 34 numbers"
abbrev pub state_length : ℕ
state_length = 34

abbrev pub bit : Bool → ℕ
bit b = cond b 1 0

-- 10.2: verdict + 1 or 0, length, phase, then "kind, link, count, greatest, owner, before, entry, floor, covered"
abbrev pub save_row : ℕ → Row → List ℕ
save_row l r =
    0 ∷ l ∷ r.phase ∷ number_of r.kind ∷ number_of r.link ∷ number_of r.count ∷ number_of r.greatest ∷ number_of r.owner
    ∷ number_of r.before ∷ number_of r.entry ∷ number_of r.floor ∷ bit r.covered ∷ []

-- the first twelve numbers
abbrev pub save_stage : ℕ → Stage → List ℕ
save_stage l Fresh = 0 ∷ l ∷ 0 ∷ 0 ∷ 0 ∷ 0 ∷ 0 ∷ 0 ∷ 0 ∷ 0 ∷ 0 ∷ 0 ∷ []
save_stage l (Sweep o) = 0 ∷ l ∷ 1 ∷ 0 ∷ o ∷ 0 ∷ 0 ∷ 0 ∷ 0 ∷ 0 ∷ 0 ∷ 0 ∷ []
save_stage l (Walking w up) = save_row l (row_of w)
save_stage l (Done v p) = suc v ∷ l ∷ 0 ∷ 0 ∷ 0 ∷ 0 ∷ 0 ∷ 0 ∷ 0 ∷ 0 ∷ 0 ∷ 0 ∷ []
save_stage l OutOfRange = 0 ∷ l ∷ 9 ∷ 0 ∷ 0 ∷ 0 ∷ 0 ∷ 0 ∷ 0 ∷ 0 ∷ 0 ∷ 0 ∷ []

-- the index records above the one that is walked; elsewhere there is none
abbrev pub levels_in : Stage → Levels
levels_in Fresh = no_levels
levels_in (Sweep o) = no_levels
levels_in (Walking w up) = up
levels_in (Done v p) = no_levels
levels_in OutOfRange = no_levels

abbrev pub save_level : Level → List ℕ
save_level l = l.vxr ∷ l.next ∷ l.last ∷ []

-- the next twenty-one: three a level, the nearest first
abbrev pub save_levels : Levels → List ℕ
save_levels s =
    save_level s.a ++ (save_level s.b ++ (save_level s.c ++ (save_level s.d ++ (save_level s.e ++ (save_level s.f ++ save_level s.g)))))

-- all thirty-four; the last is the location: "Every refusal of a grant, a repeated one too" (11.1)
abbrev pub save_numbers : ℕ → Stage → List ℕ
save_numbers l g = save_stage l g ++ (save_levels (levels_in g) ++ (location_in g ∷ []))

unfoldable pub save : State → List ℕ
save s = save_numbers s.length s.stage

-- ---- ranges: those of the walk's own numbers are specs/Ranges.antt of the walk
-- a length that an opening notes; 10.4: "the length 372 to 2,147,483,647"
abbrev pub length_range : ℕ → Bool
length_range n = leb 372 n && leb n 2147483647

abbrev pub walk_range : W.Walk → Bool
walk_range w = all_in (ranges_of (row_of w))

-- a level that is there; one that is not
abbrev pub level_there : Level → Bool
level_there l = leb 1 l.next && all_in (level_ranges l)

abbrev pub none_there : Level → Bool
none_there l = eqb l.vxr 0 && eqb l.next 0 && eqb l.last 0

abbrev pub level_list : Levels → List Level
level_list s = s.a ∷ s.b ∷ s.c ∷ s.d ∷ s.e ∷ s.f ∷ s.g ∷ []

abbrev pub none_of : List Level → Bool
none_of ls = list_all none_there ls

-- 10.6: "After a level that is not there none is there"
abbrev pub levels_stand : List Level → Bool
levels_stand [] = true
levels_stand (l ∷ ls) = (level_there l && levels_stand ls) || none_of (l ∷ ls)

-- 10.6: "levels stand above an index record alone": that of some variable
abbrev pub levels_belong : Levels → Option Var → Bool
levels_belong up none = none_of (level_list up)
levels_belong up (some u) = levels_stand (level_list up)

abbrev pub levels_range : Levels → W.Walk → Bool
levels_range up w = levels_belong up (indexed w)

abbrev pub stage_range : ℕ → Stage → Bool
stage_range l Fresh = eqb l 0
stage_range l (Sweep o) = length_range l && leb 8 o && in_range (offset o)
stage_range l (Walking w up) = length_range l && walk_range w && levels_range up w
stage_range l (Done v p) = false
stage_range l OutOfRange = false

-- ---- load
-- the variable that the numbers would tell of
abbrev pub var_by : List ℕ → Var
var_by s = record { kind = get_or s 3 0; vdr = get_or s 7 0; place = get_or s 5 0; greatest = get_or s 6 0 }

-- the levels
abbrev pub level_by : List ℕ → ℕ → Level
level_by s p = record { vxr = get_or s p 0; next = get_or s (p + 1) 0; last = get_or s (p + 2) 0 }

abbrev pub levels_by : List ℕ → Levels
levels_by s =
    record {
      a = level_by s 12;
      b = level_by s 15;
      c = level_by s 18;
      d = level_by s 21;
      e = level_by s 24;
      f = level_by s 27;
      g = level_by s 30;
    }

-- the position of the walk, if the phase has one; 10.3: "The phases, and the numbers that have a meaning there"
abbrev pub walk_by : List ℕ → ℕ → P.Option W.Walk
walk_by s phase =
    cond (eqb phase 2) (Some Start)
    (cond (eqb phase 3) (Some (Vars (get_or s 3 0) (get_or s 4 0) (get_or s 5 0) (get_or s 6 0)))
    (cond (eqb phase 4) (Some (Chain (var_by s) (get_or s 4 0) (get_or s 8 0) (get_or s 10 0) (eqb (get_or s 11 0) 1)))
    (cond (eqb phase 5) (Some (Entry (var_by s) (get_or s 8 0) (get_or s 9 0) (get_or s 10 0) (eqb (get_or s 11 0) 1)))
    (cond (eqb phase 6) (Some (Attrs (get_or s 4 0) (get_or s 5 0)))
    (cond (eqb phase 7) (Some (Entries (get_or s 3 0) (get_or s 7 0) (get_or s 5 0) (get_or s 4 0) (get_or s 9 0) (get_or s 10 0)))
    (cond (eqb phase 8) (Some (Unused (get_or s 4 0) (get_or s 8 0))) None))))))

abbrev pub walking_by : List ℕ → P.Option W.Walk → Stage
walking_by s None = OutOfRange
walking_by s (Some w) = Walking w (levels_by s)

-- the stage that the numbers would be, by their phase; a number that has no place in a stage is not looked at here
unfoldable pub stage_by : List ℕ → ℕ → Stage
stage_by s phase = cond (eqb phase 0) Fresh (cond (eqb phase 1) (Sweep (get_or s 4 0)) (walking_by s (walk_by s phase)))

-- the numbers are those of that stage: each in its range, and those without a place in it 0; 10.8: "a number outside its range or not 0
-- where it has no meaning"
abbrev pub checked : List ℕ → ℕ → Stage → Stage
checked s l g = cond (stage_range l g && pointwise eqb (save_numbers l g) s) g OutOfRange

-- 10.7: "Finished is said by number 0 alone": the verdict number alone says so, 0 to 14, 20 and 23; of the others the location is looked
-- at, where the verdict has one
abbrev pub verdict_range : ℕ → Bool
verdict_range v = leb v 14 || eqb v 20 || eqb v 23

-- thirty-four numbers as a state
unfoldable pub load : List ℕ → State
load s =
    let v = get_or s 0 0 - 1 in
    cond (eqb (get_or s 0 0) 0) (record { length = get_or s 1 0; stage = checked s (get_or s 1 0) (stage_by s (get_or s 2 0)) })
    (cond (verdict_range v) (done v (saved_location v (get_or s 33 0))) (record { length = get_or s 1 0; stage = OutOfRange }))
