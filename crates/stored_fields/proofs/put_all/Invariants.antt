use mathlib.Core.Path.{◌≡◌}
use lib.ListN.{drop}
use Rattle.stored_fields.specs.Stored.{stored_all}
use Rattle.stored_fields.proofs.put_all.Given as goal

-- Field by field. The invariant: the fields that are left, stored from offset to on, make of the file what all make of it from offset at on.
abbrev pub invariant-loop-n : goal.invariant-loop-n
invariant-loop-n l = stored_all l.initial.f l.at l.fields ≡ stored_all l.f l.to (drop l.n-index l.fields)
