use Rattle.lookup.proofs.Scans.{StillScans}
use Rattle.lookup.proofs.indexes.scan_entries.Given as goal

-- The used entries are gone through in order. What remains is always the same question, asked of the used - i entries from i on, none of which
-- may begin below lowest.
abbrev pub invariant-loop-i : goal.invariant-loop-i
invariant-loop-i l = StillScans l.f l.x l.r l.most l.used l.floor l.i l.lowest
