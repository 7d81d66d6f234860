use Rattle.lookup.proofs.Opening.{opened_part}
use Rattle.lookup.proofs.Asked.{asked_wrong, asked_right}
use Rattle.lookup.proofs.Sought.{Finds}
use Rattle.lookup.proofs.Found.{place_finds, attribute_inside}
use Rattle.records.specs.Opening.{body_of}
use Rattle.lookup.specs.Lists.{meets, file_way, kind_among, entries_of, entry_way}
use Rattle.std.proofs.lemmas.Result.{err_from_is_err_and}
use mir.Facts.{to_z-of_z}
use mir.Syntax.{w64}
use native.Mathlib.Omega.{arith}
use mathlib.Core.Bool.{true}
use mathlib.Core.Path.{◌≡◌, sym, ap, ◌∙◌, subst}
use Rattle.lookup.proofs.lists.to_entry.Goals as goal

pub allowed-requires : goal.allowed-requires
allowed-requires c = c.in_ok-t.ensures.fits

pub to_place-requires : goal.to_place-requires
to_place-requires c = omega (arith, (opened_part c.args.f.now.bytes.now c.args.f.now.body.now c.args.f.now.ends c.in_ok-t.ensures.fits).gdr)

pub returns-in_err-t : goal.returns-in_err-t
unfolding entry_way
returns-in_err-t c =
    let p = err_from_is_err_and c.from_residual.result c.from_residual.ensures.1 in
    rw (p.1, p.2) (asked_wrong c.args.f.now.bytes.now 5 9 c.args.kind _ _ (rw (to_z-of_z {w = w64} c.ranges.kind) at c.in_err-t.ensures.told))

pub returns-in_err-adr : goal.returns-in_err-adr
unfolding entry_way
returns-in_err-adr c =
    let a = c.args in
    let p = err_from_is_err_and c.from_residual-in_err-adr.result c.from_residual-in_err-adr.ensures.1 in
    let e = rw (to_z-of_z {w = w64} c.ranges.kind) at c.in_ok-t.ensures.told in
    let way = rw (to_z-of_z {w = w64} c.ranges.attribute, c.allowed.ensures, c.args.f.now.ends) at c.in_err-adr.ensures in
    let k = asked_right a.f.now.bytes.now 5 9 a.kind (entries_of (body_of a.f.now.bytes.now) (kind_among 5 9 a.kind) a.w (file_way a.f.now.bytes.now 4 a.attribute)) _ e in
    rw (p.1, p.2) (ap (entries_of (body_of a.f.now.bytes.now) (kind_among 5 9 a.kind) a.w) way ∙ k.1)

pub seek-requires : goal.seek-requires
seek-requires c =
    let b = c.args.f.now.body.now in
    let way = rw (to_z-of_z {w = w64} c.ranges.attribute) at c.in_ok-adr.ensures in
    let m = subst (Finds (λ o. meets b 4 o ≡ true)) (sym way) (place_finds b 4 c.args.attribute c.allowed.result) in
    omega (arith, attribute_inside b c.in_ok-adr.adr.at m, c.head_of_entries.ensures.near)

pub returns : goal.returns
unfolding entry_way
returns c =
    let a = c.args in
    let e = rw (to_z-of_z {w = w64} c.ranges.kind) at c.in_ok-t.ensures.told in
    let way = rw (to_z-of_z {w = w64} c.ranges.attribute, c.allowed.ensures, c.args.f.now.ends) at c.in_ok-adr.ensures in
    let k = asked_right a.f.now.bytes.now 5 9 a.kind (entries_of (body_of a.f.now.bytes.now) (kind_among 5 9 a.kind) a.w (file_way a.f.now.bytes.now 4 a.attribute)) _ e in
    rw (c.head_of_entries.ensures.told, k.0, c.args.f.now.ends) at c.seek.ensures
    ∙ ap (entries_of (body_of a.f.now.bytes.now) (kind_among 5 9 a.kind) a.w) way ∙ k.1
