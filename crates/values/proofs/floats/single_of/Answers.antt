use mathlib.Core.Path.{sym, ◌∙◌}
use lib.Dec.{lit<}
use lib.Ieee.{binary32}
use Rattle.values.proofs.FloatBits.{no_nan, nan_of_bits}
use Rattle.values.proofs.floats.single_of.Goals as goal

pub float_from_bits-result : goal.float_from_bits-result
float_from_bits-result c = no_nan binary32 c.args.n c.if-n-gt2139095040.false

pub returns-then-n-gt2139095040 : goal.returns-then-n-gt2139095040
returns-then-n-gt2139095040 c = nan_of_bits binary32 2143289344 (lit< tt) ∙ sym (nan_of_bits binary32 c.args.n c.if-n-gt2139095040.true)
