use mathlib.Core.Path.{sym, ◌∙◌}
use Rattle.std.specs.Prelude.{Ok, Err}
use Rattle.std.proofs.lemmas.Result.{err_from_is_err_and}
use Rattle.lookup.specs.declared.indexes.Scan.TheVariants.{Covering, Passed}
use Rattle.lookup.proofs.Lowering.{lowest_here, too_deep, none_left, not_met, one_down}
use Rattle.lookup.proofs.indexes.+go_down.Goals as goal

pub returns-then-not-is_index-clause-told : goal.returns-then-not-is_index-clause-told
returns-then-not-is_index-clause-told t c =
    let a = c.args in
    lowest_here a.levels a.f.now a.r a.e a.left (sym c.is_index.ensures ∙ c.if-not-is_index.true)

pub returns-then-levels-eq0-clause-told : goal.returns-then-levels-eq0-clause-told
returns-then-levels-eq0-clause-told t c =
    let a = c.args in
    too_deep a.levels a.f.now a.r a.e a.left c.if-levels-eq0.true (sym c.is_index.ensures ∙ c.if-not-is_index.false)

pub returns-then-left-eq0-clause-told : goal.returns-then-left-eq0-clause-told
returns-then-left-eq0-clause-told t c =
    let a = c.args in
    none_left a.levels a.f.now a.r a.e a.left c.if-levels-eq0.false (sym c.is_index.ensures ∙ c.if-not-is_index.false) c.if-left-eq0.true

pub returns-then-not-lower_met-clause-told : goal.returns-then-not-lower_met-clause-told
returns-then-not-lower_met-clause-told t c =
    let a = c.args in
    let unmet = sym c.lower_met.ensures.told ∙ c.if-not-lower_met.true in
    not_met a.levels a.f.now a.r a.e a.left c.if-levels-eq0.false (sym c.is_index.ensures ∙ c.if-not-is_index.false) unmet

pub returns-in_err-s-clause-told : goal.returns-in_err-s-clause-told
returns-in_err-s-clause-told t c =
    let a = c.args in
    let p = err_from_is_err_and c.from_residual.result c.from_residual.ensures.1 in
    let met = sym c.lower_met.ensures.told ∙ c.if-not-lower_met.false in
    let down = one_down a.levels a.f.now a.r a.e a.left c.if-levels-eq0.false (sym c.is_index.ensures ∙ c.if-not-is_index.false)
    c.if-left-eq0.false met c.nat_at-used.result c.nat_at-used.ensures.0 (Err _) c.in_err-s.ensures.told in
    rw (p.1, p.2) (sym down)

pub returns-in-Covering-clause-told : goal.returns-in-Covering-clause-told
returns-in-Covering-clause-told t c =
    let a = c.args in
    let met = sym c.lower_met.ensures.told ∙ c.if-not-lower_met.false in
    let down = one_down a.levels a.f.now a.r a.e a.left c.if-levels-eq0.false (sym c.is_index.ensures ∙ c.if-not-is_index.false)
    c.if-left-eq0.false met c.nat_at-used.result c.nat_at-used.ensures.0 (Ok (Covering _)) (rw c.in-Covering.is at c.in_ok-s.ensures.told) in
    c.go_down.ensures.told ∙ sym down

pub returns-in-Passed-clause-told : goal.returns-in-Passed-clause-told
returns-in-Passed-clause-told t c =
    let a = c.args in
    let met = sym c.lower_met.ensures.told ∙ c.if-not-lower_met.false in
    let down = one_down a.levels a.f.now a.r a.e a.left c.if-levels-eq0.false (sym c.is_index.ensures ∙ c.if-not-is_index.false)
    c.if-left-eq0.false met c.nat_at-used.result c.nat_at-used.ensures.0 (Ok (Passed _)) (rw c.in-Passed.is at c.in_ok-s.ensures.told) in
    sym down
