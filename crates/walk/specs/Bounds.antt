-- What only the code needs: the numbers of a position of the walk, in their ranges, which the walk never leaves; and the variable that the
-- code keeps beside the walk, of which no rule speaks. Assumes nothing.
use Rattle.std.specs.Prelude.{◌≡◌, ◌⊎◌, cond, List, [], ◌∷◌, ℕ, ◌+◌, ◌≤◌, ltb}
use Rattle.std.proofs.Math.Option.{Option, none, some}
use Rattle.format.specs.Fields.{end_of, link_at}
use Rattle.variables.specs.Vdr.{vdr_fault, variable_of}
use Rattle.variables.specs.Vdr.{Variable}
use Rattle.walk.specs.Ranges.{Range, up_to, one_of, absent, row_of, level_ranges}
use Rattle.walk.specs.Levels.{OfVariable, no_variable, leading_to, walking, of_variable, indexed}
use Rattle.walk.specs.declared.positions.Var.{Var}
use Rattle.walk.specs.declared.positions.Level.{Level}
use Rattle.walk.specs.declared.positions.Levels.{Levels}
use Rattle.walk.specs.declared.positions.Walk as W

-- ---- the numbers
abbrev pub InRange : Range → Type 0
InRange (up_to n most) = n ≤ most
InRange (one_of n a b) = (n ≡ a) ⊎ (n ≡ b)
InRange absent = Unit {0}

abbrev pub AllIn : List Range → Type 0
AllIn [] = Unit {0}
AllIn (r ∷ rs) = InRange r × AllIn rs

-- the numbers of a position are in their ranges (10.4)
pub record Within (w : W.Walk) : Type 0 where
  pub kind : InRange (row_of w).kind
  pub link : InRange (row_of w).link
  pub count : InRange (row_of w).count
  pub greatest : InRange (row_of w).greatest
  pub owner : InRange (row_of w).owner
  pub before : InRange (row_of w).before
  pub entry : InRange (row_of w).entry
  pub floor : InRange (row_of w).floor

abbrev pub SmallLevel : Level → Type 0
SmallLevel l = AllIn (level_ranges l)

-- those of all levels
abbrev pub SmallLevels : Levels → Type 0
SmallLevels s = SmallLevel s.a × SmallLevel s.b × SmallLevel s.c × SmallLevel s.d × SmallLevel s.e × SmallLevel s.f × SmallLevel s.g

-- ---- the variable
-- the one that is walked; where there is none, a VDR that breaks a rule stands for it
abbrev pub variable_by : List ℕ → Option Var → Variable
variable_by f none = vdr_fault 20
variable_by f (some u) = variable_of f u.kind u.vdr

abbrev pub known_of : List ℕ → W.Walk → Variable
known_of f w = variable_by f (indexed w)

-- v is the variable whose index is walked
abbrev pub KnownBy : List ℕ → Variable → Option Var → Type 0
KnownBy f v none = Unit {0}
KnownBy f v (some u) = v ≡ variable_of f u.kind u.vdr

abbrev pub Known : List ℕ → Variable → W.Walk → Type 0
Known f v w = KnownBy f v (indexed w)

-- the VDR of a kind at the offset that the link at p says, 0 too, or v where the link passes the file's end
abbrev pub linked_variable : List ℕ → ℕ → ℕ → Variable → Variable
linked_variable f k p v = cond (ltb (end_of f) (p + 4)) v (variable_of f k (link_at f p))

-- the variable that the next link leads to; elsewhere still v
abbrev pub next_by : List ℕ → OfVariable → Variable → Variable
next_by f no_variable v = v
next_by f (leading_to k p) v = linked_variable f k p v
next_by f (walking u) v = v

abbrev pub next_variable : List ℕ → W.Walk → Variable → Variable
next_variable f w v = next_by f (of_variable w) v

-- v is the variable that the next link leads to, or whose index is walked
pub record NextVariable (f : List ℕ) (v : Variable) (w : W.Walk) : Type 0 where
  pub known : Known f v w
  pub linked : (k p : ℕ) → of_variable w ≡ leading_to k p → p + 4 ≤ end_of f → v ≡ variable_of f k (link_at f p)
