use mathlib.Core.Path.{ap, ◌∙◌}
use Rattle.vax.specs.Words.{vax_in}
use Rattle.vax.proofs.Words.{d_words}
use Rattle.vax.proofs.d_float.Goals as goal

pub returns : goal.returns
returns c =
    c.vax_to_double.ensures ∙ ap (vax_in 55 8 128) c.four.ensures ∙ d_words c.args.s.now c.args.at (λ i. (c.type_inv.s i).fits)
