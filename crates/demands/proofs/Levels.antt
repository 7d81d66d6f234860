-- The levels above an index record that the walk has come to by going down. Assumes nothing.
use mathlib.Core.Path.{◌≡◌, refl}
use mathlib.Core.Bool.{false, true}
use mathlib.Core.List.{List, [], ◌∷◌}
use Prim.Native.Nat.{ℕ, ◌+◌, ◌<◌}
use native.Mathlib.Omega.{arith}
use lib.ListN.{length}
use borrow.Author.Tests.{ne_eqb}
use Rattle.records.specs.Index.{no_limit}
use Rattle.records.specs.Tree.{Slot, last_of, levels_below}
use Rattle.walk.specs.Levels.{no_level, no_levels, is_none, most_of, room_below, pushed, popped}
use Rattle.walk.specs.declared.positions.Level.{Level}
use Rattle.walk.specs.declared.positions.Levels.{Levels}

-- an entry of the top chain has no limit
pub most_top : most_of no_level ≡ no_limit
unfolding most_of is_none
most_top = refl

module _ (f : List ℕ) where
  -- the level that an entry leads down from
  abbrev pub level_of : Slot → Level
  level_of s = record { vxr = s.vxr; next = s.entry + 1; last = last_of f s }

  -- of the entries that led down, the nearest first
  abbrev pub levels_of : List Slot → Levels
  levels_of [] = no_levels
  levels_of (s ∷ ss) = pushed (level_of s) (levels_of ss)

  pub level_there : (s : Slot) → is_none (level_of s) ≡ false
  unfolding is_none
  level_there s = ne_eqb (s.entry + 1) 0 (λ e. omega arith)

  pub most_named : (s : Slot) → most_of (level_of s) ≡ last_of f s
  unfolding most_of
  most_named s = rw (level_there s)

  free : (ss : List Slot) → length ss < levels_below → (l : Level) → (room_below (levels_of ss) ≡ true) × (popped (pushed l (levels_of ss)) ≡ levels_of ss)
  unfolding room_below is_none
  free [] h l = (refl, refl)
  free (a ∷ []) h l = (refl, refl)
  free (a ∷ b ∷ []) h l = (refl, refl)
  free (a ∷ b ∷ c ∷ []) h l = (refl, refl)
  free (a ∷ b ∷ c ∷ d ∷ []) h l = (refl, refl)
  free (a ∷ b ∷ c ∷ d ∷ e ∷ []) h l = (refl, refl)
  free (a ∷ b ∷ c ∷ d ∷ e ∷ g ∷ []) h l = (refl, refl)
  free (a ∷ b ∷ c ∷ d ∷ e ∷ g ∷ i ∷ ss) h l = absurd (omega arith)

  -- while there is room, and one level down and up again
  pub room_there : (ss : List Slot) → length ss < levels_below → room_below (levels_of ss) ≡ true
  room_there ss h = (free ss h no_level).0

  pub down_up : (ss : List Slot) → length ss < levels_below → (l : Level) → popped (pushed l (levels_of ss)) ≡ levels_of ss
  down_up ss h l = (free ss h l).1

  -- "eight levels, top included"
  pub room_gone : (ss : List Slot) → length ss ≡ levels_below → room_below (levels_of ss) ≡ false
  unfolding room_below
  room_gone [] h = absurd (omega arith)
  room_gone (a ∷ []) h = absurd (omega arith)
  room_gone (a ∷ b ∷ []) h = absurd (omega arith)
  room_gone (a ∷ b ∷ c ∷ []) h = absurd (omega arith)
  room_gone (a ∷ b ∷ c ∷ d ∷ []) h = absurd (omega arith)
  room_gone (a ∷ b ∷ c ∷ d ∷ e ∷ []) h = absurd (omega arith)
  room_gone (a ∷ b ∷ c ∷ d ∷ e ∷ g ∷ []) h = absurd (omega arith)
  room_gone (a ∷ b ∷ c ∷ d ∷ e ∷ g ∷ i ∷ ss) h = level_there i
