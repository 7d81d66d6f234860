use Rattle.walk.specs.Walk.{entry_number}
use Rattle.walk.proofs.Chained.{stops_at, goes_on}
use Rattle.walk.proofs.attrs.EntryListListing.number.Goals as goal

pub returns-in_err-aedr-clause-told : goal.returns-in_err-aedr-clause-told
unfolding entry_number
returns-in_err-aedr-clause-told c = stops_at _ _ c.from_residual.ensures.1 c.in_err-aedr.ensures.told _

pub returns-clause-told : goal.returns-clause-told
unfolding entry_number
returns-clause-told c = goes_on _ _ c.in_ok-aedr.ensures.told c.num.ensures
