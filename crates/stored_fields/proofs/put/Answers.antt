use mathlib.Core.Path.{◌∙◌}
use native.Mathlib.Omega.{arith}
use Rattle.stored_fields.proofs.Fields.{stored_past, stored_in}
use Rattle.stored_fields.proofs.put.Goals as goal

pub returns-then-f-lt4 : goal.returns-then-f-lt4
returns-then-f-lt4 c = stored_past _ _ _ (omega arith)

pub returns-then-f-at : goal.returns-then-f-at
returns-then-f-at c = stored_past _ _ _ (omega arith)

pub returns : goal.returns
returns c =
    stored_in _ _ _ (c.copy_from_slice.ensures.after ∙ c.to_be_bytes.ensures) (omega arith) (omega arith)
    (omega arith) (omega arith) (omega arith) (omega arith)
