use Rattle.records.specs.Attributes.{element_size}
use Prim.Native.Nat.{ℕ}
use mathlib.Core.Path.{◌∙◌, ap}
use Rattle.format.specs.Types.{type_of, size_in}
use Rattle.records.proofs.attributes.element_size.Goals as goal

pub returns : goal.returns
unfolding element_size
returns c = (c.size_of.ensures.0 ∙ ap (λ (t : ℕ). size_in (type_of t)) c.nat_at.ensures.0, c.size_of.ensures.1)
