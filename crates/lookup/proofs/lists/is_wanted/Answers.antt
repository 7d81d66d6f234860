use mir.Val.{SFits}
use mir.Facts.{to_z-of_z}
use mir.Syntax.{w64}
use mathlib.Core.Path.{◌∙◌}
use Rattle.lookup.proofs.lists.is_wanted.Goals as goal

pub returns-in-Place : goal.returns-in-Place
returns-in-Place c = rw (c.in-Place.is, c.from.ensures)

pub returns-in-Number : goal.returns-in-Number
returns-in-Number c =
    let s : SFits w64 c.in-Number.n = search c.in-Number.known_told-in-Number-1-own.given in
    rw c.in-Number.is (c.is_at.ensures ∙ rw (to_z-of_z {w = w64} s))
