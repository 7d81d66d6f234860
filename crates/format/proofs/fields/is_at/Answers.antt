use mir.Val.{SFits}
use mir.Facts.{to_z-of_z}
use mir.Syntax.{w32, w64}
use mathlib.Core.Path.{◌∙◌}
use Rattle.format.specs.Fields.{is_at}
use Rattle.format.proofs.SignedTests.{equal_is}
use Rattle.format.proofs.fields.is_at.Goals as goal

pub returns : goal.returns
unfolding is_at
returns c =
    let fits : SFits w32 c.field.result = record { sfits = c.field.type_inv } in
    equal_is w64 c.from.result c.args.z (record { sfits = c.from.type_inv }) c.ranges.z ∙ rw (c.from.ensures, to_z-of_z {w = w32} fits, c.field.ensures)
