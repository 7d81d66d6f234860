-- The clearing of many records' marks. Assumes nothing.
use Rattle.std.specs.Prelude.{ℕ, ◌+◌, cond, List, [], ◌∷◌, ltb, leb}

-- where records of these sizes end, one after the other from an offset on, as far as they have 8 bytes or more and fit into so many marks
unfoldable pub reached : ℕ → List ℕ → ℕ → ℕ
reached l [] at = at
reached l (n ∷ sizes) at = cond (ltb n 8) at (cond (leb (at + n) l) (reached l sizes (at + n)) at)
