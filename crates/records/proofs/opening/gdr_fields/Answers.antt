use Rattle.records.specs.Opening.{gdr_fields, eof_of}
use Rattle.records.proofs.opening.gdr_fields.Goals as goal

pub returns : goal.returns
unfolding gdr_fields eof_of
returns c =
    simp (← c.eof_right.ensures, ← c.at_least-4.ensures, ← c.at_least-3.ensures, ← c.at_least-2.ensures, ← c.at_least.ensures, ← c.within.ensures, ← c.is_type.ensures, ← c.nat_at-eof.ensures.0)
