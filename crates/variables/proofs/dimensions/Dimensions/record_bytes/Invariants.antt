use Rattle.std.proofs.Common.{◌≡◌, ◌≤◌, ◌*◌}
use Rattle.variables.specs.Limit.{capped}
use Rattle.variables.specs.Vdr.{values_per_record}
use Rattle.variables.proofs.Capped.{values_from}
use Rattle.variables.proofs.dimensions.Dimensions.record_bytes.Given as goal

-- The bytes of a value times the sizes of the varying dimensions, capped at each step. Invariant: bytes times the values that the dimensions
-- from d on make is, up to the limit, the value's bytes times the values that all make.
abbrev pub invariant-loop-d : goal.invariant-loop-d
invariant-loop-d l =
    let f = l.self.file.now in
    let y = l.self.layout in
    (l.bytes ≤ 2147483648) × (capped (l.bytes * values_from f y.count y.sizes y.variances l.d) ≡ capped (l.value * values_per_record f y.count y.sizes y.variances))
