use Rattle.variables.proofs.Rule.{vdr_reads, vdr_makes, count_inside, vdr_inside}
use Rattle.variables.specs.Vdr.{record_bytes}
use Rattle.format.proofs.FieldRanges.{end_is}
use native.Mathlib.Omega.{arith}
use Rattle.variables.proofs.vdr.known_at.Goals as goal

pub invariant_of-head : goal.invariant_of-head
invariant_of-head c = record { inside = vdr_inside c.args.f.now c.args.kind c.args.at c.requires; typed = c.element_size-element.ensures }

pub element_size-element-requires : goal.element_size-element-requires
element_size-element-requires c = omega (arith, vdr_inside c.args.f.now c.args.kind c.args.at c.requires)

pub invariant_of-dimensions : goal.invariant_of-dimensions
invariant_of-dimensions c =
    let r = vdr_reads c.args.f.now c.args.kind c.args.at c.requires in
    let l = end_is c.args.f.now in
    rw c.dimensions_at-l.ensures.0 (record { sizes_inside = omega (arith, r.sizes); variances_inside = omega (arith, r.variances) })

pub returns : goal.returns
unfolding record_bytes
returns c =
    let is = vdr_makes c.args.f.now c.args.kind c.args.at (vdr_reads c.args.f.now c.args.kind c.args.at c.requires) in
    rw (is, c.record_bytes.ensures.0, c.cap.ensures.0, c.value_bytes-value.ensures.0, c.dimensions_at-l.ensures.0)

pub dimensions_at-l-requires-clause-inside : goal.dimensions_at-l-requires-clause-inside
dimensions_at-l-requires-clause-inside c = omega (arith, count_inside c.args.f.now c.args.kind c.args.at c.requires, c.num_dims_at.ensures.0)
