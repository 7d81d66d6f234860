use borrow.Author.Tests.{lt-leb, le-leb, eq-eqb, ne_eqb}
use mathlib.Core.Path.{◌≡◌, sym, ◌∙◌}
use native.Mathlib.Omega.{arith}
use Prim.Native.Nat.{◌+◌}
use mathlib.Core.Bool.{true}
use lib.Dec.{leb}
use Rattle.format.specs.Fields.{end_of}
use Rattle.records.specs.Opening.{eof_of, gdr_fields, gdr_right}
use Rattle.records.proofs.Opens.{window, gdr_fields_lem}
use Rattle.records.proofs.opening.gdr_right.Goals.{Else-not-gdr_fields}
use Rattle.records.proofs.opening.gdr_right.Goals as goal

pub returns-then-g-lt312 : goal.returns-then-g-lt312
unfolding gdr_right
returns-then-g-lt312 c = simp (lt-leb _ _ c.if-g-lt312.true)

pub returns-then-end-g : goal.returns-then-end-g
unfolding gdr_right
returns-then-end-g c = simp (lt-leb _ _ c.if-end-g.true, le-leb _ _ c.if-g-lt312.false, ← c.end-end.ensures.0)

pub returns-then-not-gdr_fields : goal.returns-then-not-gdr_fields
unfolding gdr_right
returns-then-not-gdr_fields c = simp (c.if-not-gdr_fields.true, ← c.gdr_fields.ensures, le-leb _ _ c.if-end-g.false, le-leb _ _ c.if-g-lt312.false, ← c.end-end.ensures.0)

-- the GDR's offset and its fields are right
passed : (c : Else-not-gdr_fields) →
    let a = c.args in
    (leb 312 a.g ≡ true) × (leb (a.g + 60) (end_of a.f.now) ≡ true) × (gdr_fields a.f.now a.g ≡ true)
passed c =
    let end = c.end-end in
    (le-leb _ _ c.if-g-lt312.false, rw (← end.ensures.0) (le-leb _ _ c.if-end-g.false), sym c.gdr_fields.ensures ∙ c.if-not-gdr_fields.false)

pub returns-then-size-dimensions : goal.returns-then-size-dimensions
unfolding gdr_right eof_of
returns-then-size-dimensions c =
    let p = passed (goal.at.returns-then-size-dimensions c).Else-not-gdr_fields in
    simp (p.0, p.1, p.2, ← c.nat_at-size.ensures.0, ← c.nat_at-dimensions.ensures.0, ← c.nat_at-eof.ensures.0, ne_eqb _ _ c.if-size-dimensions.true)

pub returns-then-eof-g : goal.returns-then-eof-g
unfolding gdr_right eof_of
returns-then-eof-g c =
    let p = passed (goal.at.returns-then-eof-g c).Else-not-gdr_fields in
    simp (p.0, p.1, p.2, ← c.nat_at-size.ensures.0, ← c.nat_at-dimensions.ensures.0, ← c.nat_at-eof.ensures.0, eq-eqb _ _ c.if-size-dimensions.false, lt-leb _ _ c.if-eof-g.true)

pub each_within-requires : goal.each_within-requires
unfolding eof_of
each_within-requires c =
    let a = c.args in
    let eof : c.nat_at-eof.result ≡ eof_of a.f.now a.g = c.nat_at-eof.ensures.0 in
    let w = window a.f.now _ ((gdr_fields_lem a.f.now a.g).0 (passed (goal.at.each_within-requires c).Else-not-gdr_fields).2).eof in
    omega (arith, c.if-eof-g.false, c.if-size-dimensions.false, eof, w.0)

pub returns : goal.returns
unfolding gdr_right eof_of
returns c =
    let p = passed (goal.at.returns c).Else-not-gdr_fields in
    simp (p.0, p.1, p.2, ← c.nat_at-size.ensures.0, ← c.nat_at-dimensions.ensures.0, ← c.nat_at-eof.ensures.0, eq-eqb _ _ c.if-size-dimensions.false, le-leb _ _ c.if-eof-g.false, ← c.each_within.ensures)
