use mathlib.Core.Path.{sym, ◌∙◌}
use lib.Dec.{lit<}
use lib.Ieee.{binary64}
use Rattle.values.proofs.FloatBits.{no_nan, nan_of_bits}
use Rattle.values.proofs.floats.double_of.Goals as goal

pub float_from_bits-result : goal.float_from_bits-result
float_from_bits-result c = no_nan binary64 c.args.n c.if-n-gt9218868437227405312.false

pub returns-then-n-gt9218868437227405312 : goal.returns-then-n-gt9218868437227405312
returns-then-n-gt9218868437227405312 c = nan_of_bits binary64 9221120237041090560 (lit< tt) ∙ sym (nan_of_bits binary64 c.args.n c.if-n-gt9218868437227405312.true)
