use mathlib.Core.Path.{◌≡◌}
use lib.ListN.{length}
use Rattle.jobs.specs.Turns.{window, turns_to}
use Rattle.jobs.proofs.rows.take_turns.Given as goal

-- Turn by turn. The invariant: rows and marks are those after the first i turns, and there are as many marks as at first; so row i, whose parts no turn
-- changes, still lies in its areas.
abbrev pub invariant-loop-j : goal.invariant-loop-j
invariant-loop-j l =
    (length l.marks ≡ length l.initial.marks) × (window l.jobs l.marks ≡ turns_to l.files l.q (window l.initial.jobs l.initial.marks) l.j-index)
