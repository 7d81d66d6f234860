use mir.Val.{SFits}
use mir.Syntax.{w64}
use mir.Facts.{to_z-of_z}
use lib.ListN.{get_or}
use lib.IntN.{pos}
use Rattle.std.proofs.Common.{◌≡◌, arith}
use Rattle.variables.specs.Limit.{capped}
use Rattle.variables.specs.Place.{element_place, place_after, size_of, varies_of, index_of}
use Rattle.variables.proofs.Places.{place_more}
use Rattle.variables.proofs.dimensions.Dimensions.place.Goals as goal

pub loop-j-init : goal.loop-j-init
unfolding place_after capped
loop-j-init c = (omega arith, omega arith)

pub next_place-place-requires : goal.next_place-place-requires
next_place-place-requires c = (omega (arith, c.slow-d.ensures.1), c.loop-j.invariant.0)

pub loop-j-preserved : goal.loop-j-preserved
loop-j-preserved c =
    let l = c.loop-j in
    let f = c.args.self.now.file.now in
    let y = c.args.self.now.layout in
    let is = c.args.indices.now in
    let s : SFits w64 (get_or is c.slow-d.result (pos 0)) = record { sfits = c.next_place-arg-1.given } in
    (c.next_place-place.ensures.1, rw (c.next_place-place.ensures.0, to_z-of_z {w = w64} s) (place_more c.args.row y.count (size_of f y.sizes) (varies_of f y.variances) (index_of is) l.j c.slow-d.result l.place c.slow-d.ensures.0 l.invariant.1))

pub returns : goal.returns
unfolding element_place
returns c =
    let l = c.loop-j in
    let done : l.j ≡ c.args.self.now.layout.count = omega arith in
    rw done at l.invariant.1
