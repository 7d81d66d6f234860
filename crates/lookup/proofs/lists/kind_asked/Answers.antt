use Rattle.lookup.proofs.Asked.{is_kind, no_kind, among_is}
use mir.Facts.{to_z-of_z}
use mir.Syntax.{w64}
use native.Mathlib.Omega.{arith}
use mathlib.Core.Path.{ap, ◌∙◌}
use Rattle.std.specs.Prelude.{Ok}
use Rattle.lookup.proofs.lists.kind_asked.Goals as goal

pub returns-then-not-opens-clause-told : goal.returns-then-not-opens-clause-told
returns-then-not-opens-clause-told c = simp (c.if-not-opens.true, ← c.opens.ensures.told)

pub returns-then-kind-from-clause-told : goal.returns-then-kind-from-clause-told
returns-then-kind-from-clause-told c =
    let among = c.kind_among-t in
    let t = rw (to_z-of_z {w = w64} c.ranges.kind) at among.ensures.told in
    let k = no_kind c.args.kind among.result c.ranges.kind (record { sfits = omega (arith, among.ensures.small) }) (rw c.from.ensures at c.if-kind-from.true) in
    simp (among_is c.args.a c.args.b c.args.kind ∙ rw t at k, c.if-not-opens.false, ← c.opens.ensures.told)

pub returns-clause-told : goal.returns-clause-told
returns-clause-told c =
    let among = c.kind_among-t in
    let t = rw (to_z-of_z {w = w64} c.ranges.kind) at among.ensures.told in
    let k = is_kind c.args.kind among.result c.ranges.kind (record { sfits = omega (arith, among.ensures.small) }) (rw c.from.ensures at c.if-kind-from.false) in
    simp (among_is c.args.a c.args.b c.args.kind ∙ rw t at k, c.if-not-opens.false, ← c.opens.ensures.told) (ap Ok t)

pub returns-clause-fits : goal.returns-clause-fits
returns-clause-fits c = c.opens.ensures.fits c.if-not-opens.false
