use Prim.Native.Nat.{◌+◌}
use native.Mathlib.Omega.{arith}
use borrow.Author.Tests.{lt-ltb, le-ltb}
use Rattle.records.specs.Rules.{reach_of}
use Rattle.records.proofs.rules.cut_short.Goals as goal

pub returns-then-end-o : goal.returns-then-end-o
unfolding reach_of
returns-then-end-o c = simp (lt-ltb _ _ c.if-end-o.true, ← c.end.ensures.0)

pub returns-then-nat_at-n : goal.returns-then-nat_at-n
unfolding reach_of
returns-then-nat_at-n c = simp (lt-ltb _ _ c.if-nat_at-n.true, ← c.nat_at.ensures.0, le-ltb _ _ c.if-end-o.false, ← c.end.ensures.0)

pub returns : goal.returns
unfolding reach_of
returns c =
    let end = c.end in
    simp (le-ltb _ _ c.if-nat_at-n.false, ← c.nat_at.ensures.0, le-ltb _ _ c.if-end-o.false, ← end.ensures.0, lt-ltb end.result (c.args.at + c.args.n) (omega (arith, c.requires, end.ensures.0)))
