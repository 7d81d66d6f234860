use mir.Val.{SFits}
use mir.Syntax.{w64}
use mir.Facts.{to_z-of_z}
use lib.ListN.{get_or}
use lib.IntN.{pos}
use Rattle.std.proofs.Common.{add-one, refl}
use Rattle.variables.specs.Place.{indices_right}
use Rattle.variables.proofs.place.indices_right.Goals as goal

pub loop-d-init : goal.loop-d-init
unfolding indices_right
loop-d-init c = refl

pub loop-d-preserved : goal.loop-d-preserved
unfolding indices_right
loop-d-preserved c =
    let s : SFits w64 (get_or c.args.indices.now c.loop-d.d (pos 0)) = record { sfits = c.index_right-arg-1.given } in
    rw (add-one, c.index_right-right.ensures, c.nat_at.ensures.0, ← c.loop-d.invariant, to_z-of_z {w = w64} s)
