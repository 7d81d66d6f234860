-- The levels of a saved state: some that are there and, behind them, none. Assumes nothing.
use mathlib.Core.Path.{◌≡◌, refl, sym, ◌∙◌}
use mathlib.Core.Logic.{◌⊎◌, inl, inr}
use mathlib.Core.Bool.{Bool, true, false, or-true, or-false, ◌&&◌}
use mathlib.Core.List.{List, [], ◌∷◌, ◌++◌}
use Prim.Native.Nat.{suc, ◌+◌, ◌≤◌}
use native.Mathlib.Omega.{arith}
use lib.Dec.{leb, eqb}
use borrow.Author.Tests.{leb-true, le-leb, eqb-true}
use Rattle.format.proofs.Tests.{both, either, every}
use Rattle.std.specs.List.{list_all, prefix_len}
use lib.ListN.{drop}
use Rattle.walk.specs.Bounds.{SmallLevel, SmallLevels}
use Rattle.walk.specs.Levels.{no_level, is_none}
use Rattle.walk.specs.Ranges.{level_ranges, all_in}
use Rattle.walk.specs.declared.positions.Level.{Level}
use Rattle.walk.specs.declared.positions.Levels.{Levels}
use Rattle.walk.proofs.Closed.{all_in_lem, in_all}
use Rattle.states.specs.Saved.{level_there, none_there, level_list, none_of, levels_stand}

-- ---- levels and, behind them, none
abbrev Cases : Level → List Level → Type 0
Cases l ls = ((level_there l ≡ true) × (levels_stand ls ≡ true)) ⊎ (none_of (l ∷ ls) ≡ true)

cases : (l : Level) (ls : List Level) → levels_stand (l ∷ ls) ≡ true → Cases l ls
cases l ls e = go (either (level_there l && levels_stand ls) (none_of (l ∷ ls)) e)
  where
    go : ((level_there l && levels_stand ls) ≡ true) ⊎ (none_of (l ∷ ls) ≡ true) → Cases l ls
    go (inl h) = inl (both (level_there l) (levels_stand ls) h)
    go (inr h) = inr h

pub none_there_lem : (ls : List Level) → none_of ls ≡ true → levels_stand ls ≡ true
none_there_lem [] e = refl
none_there_lem (l ∷ ls) e = rw e (or-true (level_there l && levels_stand ls))

-- the nearest one away
pub rest_there : (l : Level) (ls : List Level) → levels_stand (l ∷ ls) ≡ true → levels_stand ls ≡ true
rest_there l ls e = go (cases l ls e)
  where
    go : Cases l ls → levels_stand ls ≡ true
    go (inl h) = h.1
    go (inr h) = none_there_lem ls (both (none_there l) (none_of ls) h).1

-- one more, or none more, behind them all
none_front : (ls rs : List Level) → none_of (ls ++ rs) ≡ true → none_of ls ≡ true
none_front [] rs e = refl
none_front (l ∷ ls) rs e = let p = both (none_there l) (none_of (ls ++ rs)) e in rw p.0 (none_front ls rs p.1)

pub front_there : (ls rs : List Level) → levels_stand (ls ++ rs) ≡ true → levels_stand ls ≡ true
front_there [] rs e = refl
front_there (l ∷ ls) rs e = go (front_there ls rs) (cases l (ls ++ rs) e)
  where
    go : (levels_stand (ls ++ rs) ≡ true → levels_stand ls ≡ true) → Cases l (ls ++ rs) → levels_stand (l ∷ ls) ≡ true
    go k (inl h) = rw (h.0, k h.1)
    go k (inr h) = none_there_lem (l ∷ ls) (none_front (l ∷ ls) rs h)

none_back : (ls : List Level) → none_of ls ≡ true → none_of (ls ++ no_level ∷ []) ≡ true
none_back [] e = refl
none_back (l ∷ ls) e = let p = both (none_there l) (none_of ls) e in rw p.0 (none_back ls p.1)

pub back_there : (ls : List Level) → levels_stand ls ≡ true → levels_stand (ls ++ no_level ∷ []) ≡ true
back_there [] e = refl
back_there (l ∷ ls) e = go (back_there ls) (cases l ls e)
  where
    go : (levels_stand ls ≡ true → levels_stand (ls ++ no_level ∷ []) ≡ true) → Cases l ls → levels_stand (l ∷ (ls ++ no_level ∷ [])) ≡ true
    go k (inl h) = rw (h.0, k h.1)
    go k (inr h) = none_there_lem (l ∷ (ls ++ no_level ∷ [])) (none_back (l ∷ ls) h)

-- ---- one level
there_parts : (l : Level) → level_there l ≡ true → SmallLevel l × (1 ≤ l.next)
there_parts l e =
    let p = both (leb 1 l.next) (all_in (level_ranges l)) e in
    (in_all (level_ranges l) p.1, leb-true 1 l.next p.0)

pub small_there : (l : Level) → SmallLevel l → 1 ≤ l.next → level_there l ≡ true
small_there l s n = rw (le-leb 1 l.next n) (all_in_lem (level_ranges l) s)

none_parts : (l : Level) → none_there l ≡ true → (l.vxr ≡ 0) × (l.next ≡ 0) × (l.last ≡ 0)
none_parts l e =
    let p = every (eqb l.vxr 0 ∷ eqb l.next 0 ∷ eqb l.last 0 ∷ []) e in
    (eqb-true l.vxr 0 (p 0), eqb-true l.next 0 (p 1), eqb-true l.last 0 (p 2))

not_none : (l : Level) → level_there l ≡ true → none_there l ≡ false
not_none l e = go (none_there l) refl
  where
    go : (b : Bool) → none_there l ≡ b → b ≡ false
    go true h = absurd (omega (arith, (there_parts l e).1, (none_parts l h).1))
    go false h = refl

-- the levels that are there passed over, none of the others is
pub stand_is : (ls : List Level) → list_all none_there (drop (prefix_len level_there ls) ls) ≡ levels_stand ls
stand_is [] = refl
stand_is (l ∷ ls) = go (level_there l) refl (stand_is ls)
  where
    go : (b : Bool)
        → level_there l ≡ b
        → list_all none_there (drop (prefix_len level_there ls) ls) ≡ levels_stand ls
        → list_all none_there (drop (prefix_len level_there (l ∷ ls)) (l ∷ ls)) ≡ levels_stand (l ∷ ls)
    go true e k =
        let next : 1 + prefix_len level_there ls ≡ suc (prefix_len level_there ls) = omega arith in
        rw (e, not_none l e, next) (k ∙ sym (or-false (levels_stand ls)))
    go false e k = rw e

head_small : (l : Level) (ls : List Level) → levels_stand (l ∷ ls) ≡ true → SmallLevel l
head_small l ls e = go (cases l ls e)
  where
    go : Cases l ls → SmallLevel l
    go (inl h) = (there_parts l h.0).0
    go (inr h) = let z = none_parts l (both (none_there l) (none_of ls) h).0 in (omega arith, (omega arith, (omega arith, tt)))

abbrev AllSmall : List Level → Type 0
AllSmall [] = Unit {0}
AllSmall (l ∷ ls) = SmallLevel l × AllSmall ls

all_small : (ls : List Level) → levels_stand ls ≡ true → AllSmall ls
all_small [] e = tt
all_small (l ∷ ls) e = (head_small l ls e, all_small ls (rest_there l ls e))

-- none is there if the nearest is not
pub head_none : (l : Level) (ls : List Level) → is_none l ≡ true → levels_stand (l ∷ ls) ≡ true → none_of (l ∷ ls) ≡ true
unfolding is_none
head_none l ls z e = go (cases l ls e)
  where
    go : Cases l ls → none_of (l ∷ ls) ≡ true
    go (inl h) = absurd (omega (arith, (there_parts l h.0).1, eqb-true l.next 0 z))
    go (inr h) = h

pub none_head : (l : Level) (ls : List Level) → none_of (l ∷ ls) ≡ true → is_none l ≡ true
unfolding is_none
none_head l ls e = every (eqb l.vxr 0 ∷ eqb l.next 0 ∷ eqb l.last 0 ∷ []) (both (none_there l) (none_of ls) e).0 1

-- so the numbers of all are in their ranges
pub levels_small : (up : Levels) → levels_stand (level_list up) ≡ true → SmallLevels up
levels_small up e =
    let s = all_small (level_list up) e in
    (s.0, s.1.0, s.1.1.0, s.1.1.1.0, s.1.1.1.1.0, s.1.1.1.1.1.0, s.1.1.1.1.1.1.0)
