use mathlib.Core.Path.{sym, ap, ◌∙◌}
use mir.Syntax.{w64}
use mir.Facts.{to_z-of_z}
use Rattle.lookup.specs.Indexes.{Index, lowest_of, values_of, values_by, record_way}
use Rattle.std.proofs.lemmas.Result.{err_from_is_err_and}
use Rattle.lookup.proofs.RecordNumbers.{no_values}
use Rattle.lookup.proofs.indexes.to_record.Goals as goal

pub returns-in_err-n-clause-told : goal.returns-in_err-n-clause-told
unfolding record_way
returns-in_err-n-clause-told c =
    let a = c.args in
    let p = err_from_is_err_and c.from_residual.result c.from_residual.ensures.1 in
    let number = rw (to_z-of_z {w = w64} c.ranges.r) at c.record_number.ensures in
    rw (p.1, p.2) (no_values a.f.now a.v a.bytes a.left _ _ c.in_err-n.ensures.value ∙ ap (values_by a.f.now a.v a.bytes a.left) number)

pub returns-in_err-top-clause-told : goal.returns-in_err-top-clause-told
unfolding record_way
returns-in_err-top-clause-told c =
    let a = c.args in
    let n = c.in_ok-n.n in
    let p = err_from_is_err_and c.from_residual-in_err-top.result c.from_residual-in_err-top.ensures.1 in
    let number = sym c.in_ok-n.ensures.ok_part ∙ rw (to_z-of_z {w = w64} c.ranges.r) at c.record_number.ensures in
    rw (p.1, p.2)
    (ap (λ (s : Index). values_of a.f.now n a.bytes (lowest_of a.f.now n s)) c.in_err-top.ensures.told ∙ ap (values_by a.f.now a.v a.bytes a.left) number)

pub returns-in_err-c-clause-told : goal.returns-in_err-c-clause-told
unfolding record_way
returns-in_err-c-clause-told c =
    let a = c.args in
    let n = c.in_ok-n.n in
    let p = err_from_is_err_and c.from_residual-in_err-c.result c.from_residual-in_err-c.ensures.1 in
    let number = sym c.in_ok-n.ensures.ok_part ∙ rw (to_z-of_z {w = w64} c.ranges.r) at c.record_number.ensures in
    rw (p.1, p.2)
    (ap (values_of a.f.now n a.bytes) c.in_err-c.ensures.told
    ∙ ap (λ (s : Index). values_of a.f.now n a.bytes (lowest_of a.f.now n s)) c.in_ok-top.ensures.told ∙ ap (values_by a.f.now a.v a.bytes a.left) number)

pub returns-clause-told : goal.returns-clause-told
unfolding record_way
returns-clause-told c =
    let a = c.args in
    let n = c.in_ok-n.n in
    let number = sym c.in_ok-n.ensures.ok_part ∙ rw (to_z-of_z {w = w64} c.ranges.r) at c.record_number.ensures in
    c.values_named.ensures.told ∙ ap (values_of a.f.now n a.bytes) c.in_ok-c.ensures.told
    ∙ ap (λ (s : Index). values_of a.f.now n a.bytes (lowest_of a.f.now n s)) c.in_ok-top.ensures.told ∙ ap (values_by a.f.now a.v a.bytes a.left) number
