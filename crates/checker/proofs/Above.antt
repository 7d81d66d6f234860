-- The index records above a position of the walk: as a saved state has them, and above an index record alone. Assumes nothing.
use mathlib.Core.Path.{◌≡◌, refl}
use mathlib.Core.Bool.{true}
use mathlib.Core.Option.{Option, none, some}
use mathlib.Core.List.{List, [], ◌∷◌}
use Prim.Native.Nat.{◌≤◌}
use Rattle.walk.specs.Bounds.{SmallLevel}
use Rattle.walk.specs.Levels.{no_levels, is_none, pushed, popped, indexed}
use Rattle.walk.specs.declared.positions.Var.{Var}
use Rattle.walk.specs.declared.positions.Level.{Level}
use Rattle.walk.specs.declared.positions.Levels.{Levels}
use Rattle.walk.specs.declared.positions.Walk as W
use Rattle.walk.specs.declared.positions.Walk.TheVariants.{Start}
use Rattle.states.specs.Saved.{level_list, levels_stand, levels_belong, levels_range}
use Rattle.states.proofs.LevelLists.{none_there_lem, rest_there, front_there, back_there, small_there, head_none, none_head}
use Rattle.checker.proofs.Placed.{PlacedBy, Placed}

-- ---- the levels above a position of the walk
pub record Above (up : Levels) (w : W.Walk) : Type 0 where
  pub there : levels_stand (level_list up) ≡ true
  pub placed : Placed up.a w

pub top_above : Above no_levels Start
unfolding is_none
top_above = record { there = refl; placed = refl }

module _ (up : Levels) where
  abbrev behind : List Level
  behind = up.b ∷ up.c ∷ up.d ∷ up.e ∷ up.f ∷ up.g ∷ []

  -- in their ranges, and back
  pub range_above : (w : W.Walk) → levels_range up w ≡ true → Above up w
  range_above w e = record { there = (go (indexed w) e).0; placed = (go (indexed w) e).1 }
    where
      go : (u : Option Var) → levels_belong up u ≡ true → (levels_stand (level_list up) ≡ true) × PlacedBy up.a u
      go none e = (none_there_lem (level_list up) e, none_head up.a behind e)
      go (some u) e = (e, tt)

  pub above_range : (w : W.Walk) → Above up w → levels_range up w ≡ true
  above_range w h = go (indexed w) h.placed
    where
      go : (u : Option Var) → PlacedBy up.a u → levels_belong up u ≡ true
      go none p = head_none up.a behind p h.there
      go (some u) p = h.there

  -- one level down, one up
  pub pushed_there : (l : Level) → SmallLevel l → 1 ≤ l.next → levels_stand (level_list up) ≡ true → levels_stand (level_list (pushed l up)) ≡ true
  pushed_there l s n e =
      let front = up.a ∷ up.b ∷ up.c ∷ up.d ∷ up.e ∷ up.f ∷ [] in
      rw (small_there l s n, front_there front (up.g ∷ []) e)

  pub popped_there : levels_stand (level_list up) ≡ true → levels_stand (level_list (popped up)) ≡ true
  popped_there e = back_there behind (rest_there up.a behind e)
