-- A file that opens ends at its eof; one that is padded is accepted exactly if it is without its padding. Assumes nothing.
use mathlib.Core.Path.{◌≡◌, sym, ap, ◌∙◌, subst}
use mathlib.Core.List.{List, ◌++◌}
use Prim.Native.Nat.{ℕ, ◌≤◌}
use native.Mathlib.Omega.{arith}
use lib.ListN.{length, take}
use lib.Seq.{take-length, take-append_seam}
use Rattle.records.specs.Opening.{gdr_at, eof_of, gdr_right, Unpadded}
use Rattle.records.proofs.Opens.{opening_passes, gdr_parts}
use Rattle.records.proofs.Bodies.{opens_at, ends_at, same_magics, same_compressed, same_cdr, same_single, same_rule, behind, ahead, padded_eof, own_at, padded_at}
use Rattle.demands.specs.Acceptance.{Opening, Obeys}
use Rattle.demands.specs.Demands.{EndsAtEof, PaddedAlike}

module _ (b p : List ℕ) (u : Unpadded b) (few : length p ≤ 511) where
  abbrev f : List ℕ
  f = b ++ p

  abbrev e : ℕ
  e = length b

  same : take e b ≡ take e f
  same = ahead b p u few

  rules : gdr_right b (gdr_at b) ≡ gdr_right f (gdr_at f)
  rules = same_rule e b f same u.gdr (own_at b p u few) (padded_at b p u few) (omega (arith, padded_eof b p u few))

  opens_padded : Opening b → Opening f
  opens_padded o = record {
    least = omega (arith, behind b p u few, o.least);
    magics = sym (same_magics e b f same u.gdr) ∙ o.magics;
    uncompressed = sym (same_compressed e b f same u.gdr) ∙ o.uncompressed;
    cdr = sym (same_cdr e b f same u.gdr) ∙ o.cdr;
    single = sym (same_single e b f same u.gdr) ∙ o.single;
    gdr = sym rules ∙ o.gdr;
  }

  opens_own : Opening f → Opening b
  opens_own o =
      let g = gdr_parts f (gdr_at f) o.gdr in
      record {
        least = omega (arith, g.placed, g.size, g.inside, padded_eof b p u few);
        magics = same_magics e b f same u.gdr ∙ o.magics;
        uncompressed = same_compressed e b f same u.gdr ∙ o.uncompressed;
        cdr = same_cdr e b f same u.gdr ∙ o.cdr;
        single = same_single e b f same u.gdr ∙ o.single;
        gdr = rules ∙ o.gdr;
      }

  own_below : take (eof_of b (gdr_at b)) b ≡ b
  own_below = ap (λ (k : ℕ). take k b) u.eof ∙ take-length b

  padded_below : take (eof_of f (gdr_at f)) f ≡ b
  padded_below = ap (λ (k : ℕ). take k f) (padded_eof b p u few) ∙ take-append_seam b p

pub ends_at_eof : EndsAtEof
ends_at_eof f e = ends_at f (opens_at f (opening_passes f e))

pub padded_alike : PaddedAlike
padded_alike b p u few short = (
  λ a. record {
    short = omega (arith, behind b p u few, short);
    opens = opens_own b p u few a.opens;
    lists = a.lists;
    obeys = subst (λ x. Obeys x a.lists) (padded_below b p u few ∙ sym (own_below b p u few)) a.obeys;
  },
  λ a. record {
    short = short;
    opens = opens_padded b p u few a.opens;
    lists = a.lists;
    obeys = subst (λ x. Obeys x a.lists) (own_below b p u few ∙ sym (padded_below b p u few)) a.obeys;
  },
)
