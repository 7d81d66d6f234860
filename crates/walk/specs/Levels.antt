-- The index records above the one that is walked: at most seven, the nearest first. Section 8 of docs/RULES.md. Assumes nothing.
use Rattle.std.specs.Prelude.{ℕ, Bool, true, false, cond, eqb}
use Rattle.std.proofs.Math.Option.{Option, none, some}
use Rattle.records.specs.Index.{no_limit}
use Rattle.walk.specs.declared.positions.Var.{Var}
use Rattle.walk.specs.declared.positions.Walk as W
use Rattle.walk.specs.declared.positions.Walk.TheVariants.{Start, Vars, Chain, Entry, Attrs, Entries, Unused}
use Rattle.walk.specs.declared.positions.Level.{Level}
use Rattle.walk.specs.declared.positions.Levels.{Levels}
use Rattle.walk.specs.declared.positions.Step as T
use Rattle.walk.specs.declared.positions.Step.TheVariants.{Over, End, Take, Down, Up}

abbrev pub no_level : Level
no_level = record { vxr = 0; next = 0; last = 0 }

-- those above a record of the top chain
abbrev pub no_levels : Levels
no_levels = record { a = no_level; b = no_level; c = no_level; d = no_level; e = no_level; f = no_level; g = no_level }

-- the entry after the one that led down is never entry 0
unfoldable pub is_none : Level → Bool
is_none l = eqb l.next 0

-- 8.11: "ranges rise within the naming entry's": the greatest Last that an entry may have; no entry names a record of the top chain, so
-- there it has no limit
unfoldable pub most_of : Level → ℕ
most_of l = cond (is_none l) no_limit l.last

-- 8.9: "carried to eight, top included": the record that is walked is not one of the eighth level
unfoldable pub room_below : Levels → Bool
room_below s = is_none s.g

abbrev pub pushed : Level → Levels → Levels
pushed l s = record { a = l; b = s.a; c = s.b; d = s.c; e = s.d; f = s.e; g = s.f }

abbrev pub popped : Levels → Levels
popped s = record { a = s.b; b = s.c; c = s.d; d = s.e; e = s.f; f = s.g; g = no_level }

-- those where a step goes on
abbrev pub levels_after : Levels → T.Step → Levels
levels_after s (Over w v) = s
levels_after s (End v) = s
levels_after s (Take w early o typed late) = s
levels_after s (Down w o typed l) = pushed l s
levels_after s (Up w) = popped s

-- they are others than before
abbrev pub changes_level : T.Step → Bool
changes_level (Over w v) = false
changes_level (End v) = false
changes_level (Take w early o typed late) = false
changes_level (Down w o typed l) = true
changes_level (Up w) = true

-- ---- where they stand
-- the variable of a position: none; the one that its link may lead to, of a kind and from where the link stands, which only the code asks
-- for (specs/Bounds.antt); the one whose index is walked
pub data OfVariable : Type 0 where
  no_variable : OfVariable
  leading_to : ℕ → ℕ → OfVariable
  walking : Var → OfVariable

abbrev pub of_variable : W.Walk → OfVariable
of_variable Start = no_variable
of_variable (Vars k p n g) = leading_to k p
of_variable (Chain u p x floor c) = walking u
of_variable (Entry u x i floor c) = walking u
of_variable (Attrs p n) = no_variable
of_variable (Entries k a n p e g) = no_variable
of_variable (Unused p b) = no_variable

abbrev pub walked : OfVariable → Option Var
walked no_variable = none
walked (leading_to k p) = none
walked (walking u) = some u

-- the variable whose index is walked
abbrev pub indexed : W.Walk → Option Var
indexed w = walked (of_variable w)
