use mathlib.Core.Path.{◌≡◌}
use mathlib.Core.Bool.{false}
use Rattle.jobs.specs.Parts.{any_clash}
use Rattle.jobs.specs.Turns.{parts_at}
use Rattle.jobs.proofs.rows.one_clashes.Given as goal

-- Job by job, up to the first that shares a byte with an earlier one. The invariant: of the first i jobs none does.
abbrev pub invariant-loop-i : goal.invariant-loop-i
invariant-loop-i l = any_clash (parts_at l.jobs) l.i ≡ false
