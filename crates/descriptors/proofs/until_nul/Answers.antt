use Rattle.std.proofs.Common.{rules, tests, eqb, ◌∙◌}
use Rattle.std.proofs.lemmas.Iterator.{YieldsList-from_slice}
use Rattle.std.proofs.lemmas.Iterator.Search.{position_from_yields_List}
use Rattle.descriptors.proofs.Names.{first_nul}
use Rattle.descriptors.proofs.until_nul.Goals as goal

pub returns-clause-told : goal.returns-clause-told
returns-clause-told c =
    let place = position_from_yields_List (λ b. eqb b 0) _ _ c.position.result c.position.ensures.ran (YieldsList-from_slice _ c.iter.ensures.rest) (λ x b q k. search (rules, tests)) in
    rw place at c.unwrap_or.ensures ∙ first_nul _ _ _ c.requires
