use mathlib.Core.Path.{◌≡◌, refl}
use mathlib.Core.Bool.{Bool, true, false, not, ◌&&◌}
use lib.Dec.{eqb}
use lib.ListN.{get_or}
use Rattle.marks.specs.Marks.{unclaimed_at}
use Rattle.marks.proofs.is_unclaimed.Goals as goal

-- the mark is looked at first: it settles most records
last_first : (a b c : Bool) → (a && b && c) ≡ (b && c && a)
last_first true true true = refl
last_first true true false = refl
last_first true false c = refl
last_first false true true = refl
last_first false true false = refl
last_first false false c = refl

pub returns : goal.returns
unfolding unclaimed_at
returns c =
    let a = c.args in
    simp (← c.is.ensures) (last_first (not (eqb (get_or a.m.now a.o 0) 2)) (not (eqb a.o 8)) (not c.is.result))
