use borrow.Author.Tests.{tests}
use Rattle.std.proofs.Common.{rules}
use Rattle.std.proofs.lemmas.Iterator.{YieldsList-from_slice}
use Rattle.std.proofs.lemmas.Iterator.Search.{all_from_yields_List}
use Rattle.states.specs.Saved.{none_there, level_list}
use Rattle.states.proofs.saved.none_of.Goals as goal

pub returns : goal.returns
returns c =
    all_from_yields_List none_there _ _ _ c.all.ensures.ran (YieldsList-from_slice (level_list c.args.s) cc) (λ x b q k. search (rules, tests))
