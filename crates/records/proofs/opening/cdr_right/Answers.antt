use Rattle.format.proofs.Table.{some_order}
use Rattle.records.specs.Opening.{cdr_right}
use Rattle.records.proofs.opening.cdr_right.Goals as goal

pub returns : goal.returns
unfolding cdr_right
returns c =
    simp (c.is_some.ensures, some_order, c.big4.ensures, c.is.ensures, c.nat_at-2.ensures.0, c.is_type.ensures, c.encoding_of-encoding.ensures, c.nat_at.ensures.0)
