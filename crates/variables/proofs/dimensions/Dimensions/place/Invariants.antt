use Rattle.std.proofs.Common.{◌≡◌, ◌≤◌}
use Rattle.variables.specs.Limit.{capped}
use Rattle.variables.specs.Place.{place_after, size_of, varies_of, index_of}
use Rattle.variables.proofs.dimensions.Dimensions.place.Given as goal

-- From the slowest dimension to the fastest. Invariant: place is the place after the j slowest, up to the limit.
abbrev pub invariant-loop-j : goal.invariant-loop-j
invariant-loop-j l =
    let f = l.self.file.now in
    let y = l.self.layout in
    (l.place ≤ 2147483648) × (l.place ≡ capped (place_after l.row l.n (size_of f y.sizes) (varies_of f y.variances) (index_of l.indices) l.j))
