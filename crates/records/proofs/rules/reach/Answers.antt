use Prim.Native.Nat.{◌+◌}
use native.Mathlib.Omega.{arith}
use borrow.Author.Tests.{le-ltb}
use Rattle.std.proofs.Common.{◌∙◌, sym}
use Rattle.records.specs.Rules.{reach_of}
use Rattle.records.proofs.Told.{last_test}
use Rattle.records.proofs.rules.reach.Goals as goal

pub returns-clause-told : goal.returns-clause-told
unfolding reach_of
returns-clause-told c =
    let end = c.end in
    let begins = le-ltb end.result (c.args.at + 4) (omega (arith, c.requires, c.if-end-at.false)) in
    c.check.ensures.told ∙ simp (← c.nat_at.ensures.0, ← end.ensures.0, begins, le-ltb _ _ c.if-end-at.false) (sym (last_test 10 c.args.n c.nat_at.result))
