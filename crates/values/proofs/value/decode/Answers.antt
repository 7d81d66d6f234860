use mathlib.Core.Path.{sym, ◌∙◌}
use native.Mathlib.Omega.{arith}
use Rattle.values.proofs.Elements.{there, cut_short}
use Rattle.values.proofs.Rows.{row_short, row_element, row_vax}
use Rattle.values.proofs.value.decode.Goals as goal

pub returns-then-end-place : goal.returns-then-end-place
returns-then-end-place c =
    let a = c.args in
    let d = sym c.in_ok-d.ensures.ok_part ∙ c.type_of.ensures in
    sym (cut_short a.f.now a.at a.t a.e (rw (← d) (omega (arith, c.if-end-place.true, c.end.ensures.0))))

pub vax_at-requires : goal.vax_at-requires
vax_at-requires c =
    let size = row_vax c.args.t (sym c.in_ok-d.ensures.ok_part ∙ c.type_of.ensures) _ (sym c.is_vax.ensures ∙ c.if-is_vax.true) in
    omega (arith, size, c.if-end-place.false, c.end.ensures)

pub returns-then-is_vax : goal.returns-then-is_vax
returns-then-is_vax c =
    let a = c.args in
    let is = there a.f.now a.at a.t a.e (sym c.in_ok-d.ensures.ok_part ∙ c.type_of.ensures) (sym c.in_ok-c.ensures.ok_part ∙ c.encoding_of.ensures) (omega arith) c.is_vax.ensures in
    rw (is, c.if-is_vax.true, ← c.vax_at.ensures) c.vax_answer.ensures

pub raw-requires : goal.raw-requires
raw-requires c = (omega arith, row_short c.args.t (sym c.in_ok-d.ensures.ok_part ∙ c.type_of.ensures))

pub invariant_of-number : goal.invariant_of-number
invariant_of-number c = record { fits = row_element c.args.t (sym c.in_ok-d.ensures.ok_part ∙ c.type_of.ensures) _ c.raw.ensures.1 }

pub returns : goal.returns
returns c =
    let a = c.args in
    let is = there a.f.now a.at a.t a.e (sym c.in_ok-d.ensures.ok_part ∙ c.type_of.ensures) (sym c.in_ok-c.ensures.ok_part ∙ c.encoding_of.ensures) (omega arith) c.is_vax.ensures in
    rw (is, c.if-is_vax.false, c.answer.ensures, c.raw.ensures.0)
