use Rattle.std.proofs.Common.{arith, sym, ◌∙◌}
use Rattle.format.proofs.Numbers.{first_some, first_none, first_last}
use Rattle.checker.specs.Step.{link_number}
use Rattle.checker.proofs.steps.link_number.Goals as goal

pub returns-then-early-ne0 : goal.returns-then-early-ne0
unfolding link_number
returns-then-early-ne0 c = simp (first_some c.if-early-ne0.true)

pub returns-then-not-is_start : goal.returns-then-not-is_start
unfolding link_number
returns-then-not-is_start c = simp (first_none c.if-early-ne0.false, ← c.is_start.ensures.0, c.if-not-is_start.true, c.from.ensures)

pub again_number-requires : goal.again_number-requires
again_number-requires c = omega (arith, c.is_start.ensures.1 c.if-not-is_start.false, c.requires.marks)

pub returns-then-typed-ne0 : goal.returns-then-typed-ne0
unfolding link_number
returns-then-typed-ne0 c =
    let started = sym c.is_start.ensures.0 ∙ c.if-not-is_start.false in
    let again = c.told-again.ensures ∙ c.again_number.ensures in
    rw (c.if-early-ne0.false, started, ← again) (sym (first_some c.if-typed-ne0.true _))

pub returns-then-again-ne0 : goal.returns-then-again-ne0
unfolding link_number
returns-then-again-ne0 c =
    let started = sym c.is_start.ensures.0 ∙ c.if-not-is_start.false in
    let again = c.told-again.ensures ∙ c.again_number.ensures in
    rw (c.if-early-ne0.false, started, ← again, c.if-typed-ne0.false) (sym (first_some c.if-again-ne0.true _))

pub returns : goal.returns
unfolding link_number
returns c =
    let started = sym c.is_start.ensures.0 ∙ c.if-not-is_start.false in
    let again = c.told-again.ensures ∙ c.again_number.ensures in
    rw (c.if-early-ne0.false, started, ← again, c.if-typed-ne0.false, c.if-again-ne0.false) (sym (first_last _))
