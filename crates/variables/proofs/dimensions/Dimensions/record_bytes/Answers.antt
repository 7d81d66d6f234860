use Rattle.std.proofs.Common.{◌≤◌, sym, ◌∙◌, arith}
use Rattle.variables.proofs.Capped.{within, values_all, values_more, values_none}
use Rattle.variables.proofs.dimensions.Dimensions.record_bytes.Goals as goal

pub loop-d-init : goal.loop-d-init
loop-d-init c = let y = c.args.self.now.layout in (c.cap-bytes.ensures.1, rw c.cap-bytes.ensures.0 (values_all c.args.self.now.file.now y.count y.sizes y.variances c.args.value))

pub overflow_mul-bytes : goal.overflow_mul-bytes
overflow_mul-bytes c =
    let h : c.factor.result ≤ 2147483648 = omega (arith, c.factor.ensures.1) in
    omega (arith, within c.loop-d.bytes c.factor.result c.loop-d.invariant.0 h)

pub loop-d-preserved : goal.loop-d-preserved
loop-d-preserved c =
    let y = c.args.self.now.layout in
    let l = c.loop-d in
    let cap = c.cap-bytes-in-loop-d in
    (cap.ensures.1, rw (cap.ensures.0, c.factor.ensures.0) (values_more c.args.self.now.file.now y.count y.sizes y.variances l.d l.bytes c.loop-d-test.true ∙ l.invariant.1))

pub returns : goal.returns
returns c =
    let y = c.args.self.now.layout in
    let l = c.loop-d in
    (sym (values_none c.args.self.now.file.now y.count y.sizes y.variances l.d l.bytes l.invariant.0 c.loop-d-test.false) ∙ l.invariant.1, l.invariant.0)
