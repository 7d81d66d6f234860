use Rattle.lookup.proofs.Seeks.{StillSeeks}
use Rattle.lookup.proofs.indexes.seek_record.Given as goal

-- The chain is followed VXR by VXR. What remains is always the same question, asked from the link at p, with ranges from floor on and left
-- more records that may be met.
abbrev pub invariant-loop-left : goal.invariant-loop-left
invariant-loop-left l = StillSeeks l.f l.v l.r l.allowed l.p l.floor l.left
