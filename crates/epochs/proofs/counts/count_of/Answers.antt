use native.Mathlib.Omega.{arith}
use lib.Ieee.{of_bits}
use Rattle.epochs.proofs.Fractions.{at_most_not_nan, refused_late, zero_counts, refused_small, refused_fraction, may_take, part_counts}
use Rattle.epochs.proofs.counts.count_of.Goals as goal

pub returns-then-not-x : goal.returns-then-not-x
unfolding of_bits
returns-then-not-x c =
    refused_late c.args.x c.well_formed.0.1 c.if-not-x.true

pub float_to_bits-x : goal.float_to_bits-x
unfolding of_bits
float_to_bits-x c = let x = c.args.x in at_most_not_nan x c.if-not-x.false

pub returns-then-x-eq0 : goal.returns-then-x-eq0
returns-then-x-eq0 c = zero_counts c.args.x c.well_formed.0.1 (omega (arith, c.if-x-eq0.true))

pub returns-then-x : goal.returns-then-x
unfolding of_bits
returns-then-x c =
    refused_small c.args.x c.well_formed.0.1 c.if-x.true (λ z. omega (arith, z, c.if-x-eq0.false))

pub returns-then-x-2 : goal.returns-then-x-2
unfolding of_bits
returns-then-x-2 c = refused_fraction c.args.x c.well_formed.0.1 c.if-x-2.true

pub float_to_int-result : goal.float_to_int-result
unfolding of_bits
float_to_int-result c =
    let x = c.args.x in
    may_take x c.well_formed.0.1 c.if-not-x.false c.if-x.false c.if-x-2.false

pub returns : goal.returns
unfolding of_bits
returns c =
    let x = c.args.x in
    part_counts x c.well_formed.0.1 c.if-not-x.false c.if-x.false c.if-x-2.false
