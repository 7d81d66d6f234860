use Rattle.clearing.proofs.Reached.{StillClears}
use Rattle.clearing.proofs.clearing_records.Given as goal

-- Record by record. The invariant: the marks up to at are 0, all others as they were; and the sizes that are left lead on from at as all do from 0.
abbrev pub invariant-loop-n : goal.invariant-loop-n
invariant-loop-n l = StillClears l.initial.m l.sizes l.m l.at l.n-index
