use mathlib.Core.Path.{◌∙◌}
use borrow.Author.Rules.{rules}
use borrow.Author.Tests.{tests}
use Rattle.std.proofs.lemmas.Iterator.{YieldsList-from_slice}
use Rattle.std.proofs.lemmas.Iterator.Search.{any_from_yields_List}
use Rattle.jobs.specs.declared.turns.Job.{Job}
use Rattle.jobs.specs.Parts.{clash}
use Rattle.jobs.specs.Turns.{no_row}
use Rattle.jobs.proofs.Tests.{any_listed}
use Rattle.jobs.proofs.rows.one_shares.Goals as goal

pub returns : goal.returns
returns c =
    any_from_yields_List (λ (j : Job). clash j.parts c.args.parts) _ _ _ c.any.ensures.ran
    (YieldsList-from_slice c.args.jobs.now cc) (λ x b q k. search (rules, tests))
    ∙ any_listed (λ (j : Job). clash j.parts c.args.parts) no_row c.args.jobs.now
