use mathlib.Core.Path.{ap}
use Prim.Native.Nat.{ℕ}
use lib.ListN.{take}
use Rattle.records.specs.Opening.{body_of}
use Rattle.records.proofs.opening.body.Goals as goal

pub returns : goal.returns
unfolding body_of
returns c = ap (λ (k : ℕ). take k c.args.f.now) c.end-e.ensures.0
