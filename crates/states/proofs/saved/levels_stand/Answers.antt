use Rattle.std.proofs.Common.{rules, List, ◌∙◌}
use borrow.Author.Tests.{tests}
use Rattle.std.proofs.lemmas.Iterator.{YieldsList-from_slice}
use Rattle.std.proofs.lemmas.Iterator.Adapters.{YieldsList-from_skip_while}
use Rattle.std.proofs.lemmas.Iterator.Search.{all_from_yields_List}
use Rattle.walk.specs.declared.positions.Level.{Level}
use Rattle.states.specs.Saved.{level_there, none_there, level_list}
use Rattle.states.proofs.LevelLists.{stand_is}
use Rattle.states.proofs.saved.levels_stand.Goals as goal

pub returns : goal.returns
returns c =
    let ls : List Level = level_list c.args.s in
    all_from_yields_List none_there _ _ _ c.all.ensures.ran
    (YieldsList-from_skip_while _ (λ y. y.now) _ level_there _ (λ x b q k. search (rules, tests)) (YieldsList-from_slice ls cc) c.skip_while.ensures.closure c.skip_while.ensures.done_skipping)
    (λ x b q k. search (rules, tests))
    ∙ stand_is ls
