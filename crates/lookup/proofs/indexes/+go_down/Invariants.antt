use Rattle.lookup.proofs.indexes.+go_down.Given as goal

-- By recursion on the levels that are left: at each the lower record's entries are gone through, and the answer is that of the entry which
-- covers the record, with one level and one record fewer.
abbrev pub decreases-go_down : goal.decreases-go_down
decreases-go_down l = l.levels
