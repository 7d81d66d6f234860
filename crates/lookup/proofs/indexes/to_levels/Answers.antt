use mathlib.Core.Path.{sym, ap, ◌∙◌}
use mir.Syntax.{w64}
use mir.Facts.{to_z-of_z}
use native.Mathlib.Omega.{arith}
use Rattle.lookup.specs.Indexes.{levels_told, levels_of, levels_by, levels_way}
use Rattle.std.specs.Prelude.{Ok}
use Rattle.std.proofs.lemmas.Result.{err_from_is_err_and}
use Rattle.lookup.proofs.RecordNumbers.{no_levels}
use Rattle.lookup.proofs.Lowering.{levels_known}
use Rattle.lookup.proofs.indexes.to_levels.Goals as goal

pub returns-in_err-n-clause-told : goal.returns-in_err-n-clause-told
unfolding levels_way
returns-in_err-n-clause-told c =
    let a = c.args in
    let p = err_from_is_err_and c.from_residual.result c.from_residual.ensures.1 in
    let number = rw (to_z-of_z {w = w64} c.ranges.r) at c.record_number.ensures in
    rw (p.1, p.2) (no_levels a.f.now a.v a.left _ _ c.in_err-n.ensures.value ∙ ap (levels_by a.f.now a.v a.left) number)

pub returns-in_err-top-clause-told : goal.returns-in_err-top-clause-told
unfolding levels_way
returns-in_err-top-clause-told c =
    let a = c.args in
    let p = err_from_is_err_and c.from_residual-in_err-top.result c.from_residual-in_err-top.ensures.1 in
    let number = sym c.in_ok-n.ensures.ok_part ∙ rw (to_z-of_z {w = w64} c.ranges.r) at c.record_number.ensures in
    rw (p.1, p.2) (ap (levels_of a.f.now c.in_ok-n.n) c.in_err-top.ensures.told ∙ ap (levels_by a.f.now a.v a.left) number)

pub returns-in_err-c-clause-told : goal.returns-in_err-c-clause-told
unfolding levels_way
returns-in_err-c-clause-told c =
    let a = c.args in
    let n = c.in_ok-n.n in
    let p = err_from_is_err_and c.from_residual-in_err-c.result c.from_residual-in_err-c.ensures.1 in
    let number = sym c.in_ok-n.ensures.ok_part ∙ rw (to_z-of_z {w = w64} c.ranges.r) at c.record_number.ensures in
    rw (p.1, p.2)
    (ap (levels_told a.f.now n c.in_ok-top.top.range) c.in_err-c.ensures.told ∙ ap (levels_of a.f.now n) c.in_ok-top.ensures.told
    ∙ ap (levels_by a.f.now a.v a.left) number)

pub overflow_sub-result : goal.overflow_sub-result
overflow_sub-result c = (levels_known c.args.f.now c.in_ok-n.n c.in_ok-top.top.range c.in_ok-c.c.range c.in_ok-top.top.left c.in_ok-c.c.left c.in_ok-c.ensures.told).0

pub overflow_add-result : goal.overflow_add-result
overflow_add-result c =
    let k = levels_known c.args.f.now c.in_ok-n.n c.in_ok-top.top.range c.in_ok-c.c.range c.in_ok-top.top.left c.in_ok-c.c.left c.in_ok-c.ensures.told in
    record { fits = omega (arith, k.2) }

pub returns : goal.returns
unfolding levels_way
returns c =
    let a = c.args in
    let n = c.in_ok-n.n in
    let k = levels_known a.f.now n c.in_ok-top.top.range c.in_ok-c.c.range c.in_ok-top.top.left c.in_ok-c.c.left c.in_ok-c.ensures.told in
    let number = sym c.in_ok-n.ensures.ok_part ∙ rw (to_z-of_z {w = w64} c.ranges.r) at c.record_number.ensures in
    record {
      told = ap Ok k.1 ∙ ap (levels_told a.f.now n c.in_ok-top.top.range) c.in_ok-c.ensures.told ∙ ap (levels_of a.f.now n) c.in_ok-top.ensures.told
          ∙ ap (levels_by a.f.now a.v a.left) number;
      fits = k.2;
    }
