use mathlib.Core.Path.{ap, ◌∙◌}
use Rattle.vax.specs.Words.{vax_in}
use Rattle.vax.proofs.Words.{g_words}
use Rattle.vax.proofs.g_float.Goals as goal

pub returns : goal.returns
returns c =
    c.vax_to_double.ensures ∙ ap (vax_in 52 11 1024) c.four.ensures ∙ g_words c.args.s.now c.args.at (λ i. (c.type_inv.s i).fits)
