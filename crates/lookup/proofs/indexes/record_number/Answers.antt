use mathlib.Core.Path.{sym, ◌∙◌}
use mir.Syntax.{w64}
use mir.Facts.{to_z-of_z}
use Rattle.lookup.proofs.RecordNumbers.{number_past, number_there}
use Rattle.lookup.proofs.indexes.record_number.Goals as goal

pub returns-then-from-n : goal.returns-then-from-n
returns-then-from-n c =
    let a = c.args in
    let n = rw (to_z-of_z {w = w64} c.ranges.r) at (sym c.natural.ensures ∙ c.in_ok-n.was) in
    number_past a.f.now a.v a.r c.in_ok-n.n n (sym c.at_least.ensures ∙ c.if-not-at_least.false)
    (sym c.bit.ensures ∙ c.if-not-bit.false) (rw (c.from.ensures, c.nat_at.ensures.0) at c.if-from-n.true)

pub returns : goal.returns
returns c =
    let a = c.args in
    let n = rw (to_z-of_z {w = w64} c.ranges.r) at (sym c.natural.ensures ∙ c.in_ok-n.was) in
    number_there a.f.now a.v a.r c.in_ok-n.n n (sym c.at_least.ensures ∙ c.if-not-at_least.false)
    (sym c.bit.ensures ∙ c.if-not-bit.false) (rw (c.from.ensures, c.nat_at.ensures.0) at c.if-from-n.false)
