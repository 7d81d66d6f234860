use mathlib.Core.Path.{refl, sym, ap, ◌∙◌}
use native.Mathlib.Omega.{arith}
use Rattle.std.specs.Prelude.{Err}
use Rattle.std.proofs.lemmas.Result.{err_from_is_err_and}
use Rattle.lookup.proofs.Seeks.{seek_over, seek_unmet, seek_met, seek_last}
use Rattle.lookup.proofs.indexes.seek_record.Goals as goal

pub loop-left-init : goal.loop-left-init
loop-left-init c = record { lies = omega (arith, c.requires); small = omega arith; same = refl }

pub returns-then-x-eq0-clause-told : goal.returns-then-x-eq0-clause-told
returns-then-x-eq0-clause-told c = seek_over c.loop-left.invariant c.link_at-x.ensures.0 c.loop-left-test.true c.if-x-eq0.true

pub returns-then-not-index_met-clause-told : goal.returns-then-not-index_met-clause-told
returns-then-not-index_met-clause-told c =
    let m = sym c.index_met.ensures.told ∙ c.if-not-index_met.true in
    seek_unmet c.loop-left.invariant c.link_at-x.ensures.0 c.loop-left-test.true c.if-x-eq0.false m

pub nat_at-used-requires : goal.nat_at-used-requires
nat_at-used-requires c = omega (arith, c.index_met.ensures.lies c.if-not-index_met.false)

pub scan_entries-requires : goal.scan_entries-requires
scan_entries-requires c = c.loop-left.invariant.small

pub returns-in_err-s-clause-told : goal.returns-in_err-s-clause-told
returns-in_err-s-clause-told c =
    let p = err_from_is_err_and c.from_residual.result c.from_residual.ensures.1 in
    let m = sym c.index_met.ensures.told ∙ c.if-not-index_met.false in
    let t = seek_met c.loop-left.invariant c.link_at-x.ensures.0 c.loop-left-test.true c.if-x-eq0.false m c.nat_at-used.ensures.0 c.in_err-s.ensures.told in
    rw (p.1, p.2) (sym t)

pub returns-in-Covering-clause-told : goal.returns-in-Covering-clause-told
returns-in-Covering-clause-told c =
    let m = sym c.index_met.ensures.told ∙ c.if-not-index_met.false in
    let t = seek_met c.loop-left.invariant c.link_at-x.ensures.0 c.loop-left-test.true c.if-x-eq0.false m c.nat_at-used.ensures.0 c.in_ok-s.ensures.told in
    sym (rw c.in-Covering.is at t)

pub loop-left-preserved : goal.loop-left-preserved
loop-left-preserved c =
    let m = sym c.index_met.ensures.told ∙ c.if-not-index_met.false in
    let t = seek_met c.loop-left.invariant c.link_at-x.ensures.0 c.loop-left-test.true c.if-x-eq0.false m c.nat_at-used.ensures.0 c.in_ok-s.ensures.told in
    record {
      lies = omega (arith, c.index_met.ensures.lies c.if-not-index_met.false);
      small = rw c.in-Passed.is at c.in_ok-s.ensures.fits;
      same = rw c.in-Passed.is at t;
    }

pub returns-clause-told : goal.returns-clause-told
returns-clause-told c = ap Err c.last_index.ensures ∙ seek_last c.loop-left.invariant (omega (arith, c.loop-left-test.false))
