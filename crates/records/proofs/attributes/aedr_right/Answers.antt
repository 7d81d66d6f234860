use Rattle.format.proofs.FieldRanges.{some_is}
use Rattle.records.specs.Attributes.{aedr_right}
use Rattle.records.proofs.attributes.aedr_right.Goals as goal

pub returns : goal.returns
unfolding aedr_right
returns c =
    simp (some_is, c.from-element.ensures, c.from-elements.ensures, c.from.ensures, ← c.nat_at-2.ensures.0, ← c.at_least.ensures, ← c.nat_at.ensures.0, ← c.element_size.ensures.0)
