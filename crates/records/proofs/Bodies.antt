-- The end of a file, and what lies before it: the opening goes by that alone. Assumes nothing.
use mathlib.Core.Path.{◌≡◌, refl, sym, ap, ◌∙◌}
use mathlib.Core.Bool.{Bool, true, false, ◌&&◌}
use mathlib.Core.List.{List, ◌++◌}
use Prim.Native.Nat.{ℕ, ◌+◌, ◌*◌, ◌≤◌}
use native.Mathlib.Omega.{arith}
use lib.Dec.{leb, eqb}
use lib.IntN.{pos}
use lib.ListN.{length, take, length-append}
use lib.Seq.{length-take-le, take-length, take-append_seam, take-take}
use borrow.Author.Tests.{leb-true, eqb-true, le-leb}
use Rattle.format.specs.Fields.{end_of, is_at, at_least, at_most, each_within, nat_at, link_at, bit_at}
use Rattle.format.proofs.Tests.{both}
use Rattle.format.proofs.FieldRanges.{end_is}
use Rattle.format.proofs.Agree.{same_big, same_field, same_each}
use Rattle.records.specs.Rules.{size_at}
use Rattle.records.specs.Opening.{magics_right, wholly_compressed, cdr_right, single_file, gdr_at, eof_of, eof_right, gdr_fields, r_num_dims, gdr_right, magics_number, descriptors_number, opening, file_end, body_of, Unpadded}
use Rattle.records.proofs.Opens.{window, Passes, opening_passes, passes_opening, gdr_parts}

module _ (f : List ℕ) where
  -- ---- the end
  abbrev eof : ℕ
  eof = eof_of f (gdr_at f)

  -- the file ends at its eof
  pub record AtEof : Type 0 where
    pub gdr : gdr_at f + 60 ≤ eof
    pub within : eof ≤ length f
    pub near : length f ≤ eof + 511

  abbrev goes_by : Bool
  goes_by = leb (gdr_at f + 60) eof && eof_right f eof

  pub eof_right_lem : AtEof → eof_right f eof ≡ true
  unfolding eof_right
  eof_right_lem a = rw (le-leb eof (length f) a.within, le-leb (length f) (eof + 511) a.near)

  goes : AtEof → goes_by ≡ true
  goes a = rw (le-leb (gdr_at f + 60) eof a.gdr, eof_right_lem a)

  at_eof : goes_by ≡ true → AtEof
  at_eof e =
      let a = both (leb (gdr_at f + 60) eof) (eof_right f eof) e in
      let w = window f eof a.1 in
      record { gdr = leb-true (gdr_at f + 60) eof a.0; within = w.0; near = w.1 }

  pub ends_at : AtEof → file_end f ≡ eof
  unfolding file_end
  ends_at a = rw (goes a)

  last_byte : goes_by ≡ false → file_end f ≡ length f
  unfolding file_end
  last_byte e = rw e

  -- or with its last byte
  pub record Ends (Fact : Type 0) : Type 0 where
    pub by_eof : AtEof → Fact
    pub by_last : file_end f ≡ length f → Fact

  pub by_end : {Fact : Type 0} → Ends Fact → Fact
  by_end {Fact} h = go goes_by refl
    where
      go : (b : Bool) → goes_by ≡ b → Fact
      go true e = h.by_eof (at_eof e)
      go false e = h.by_last (last_byte e)

  pub ends_with : (AtEof → ⊥) → file_end f ≡ length f
  ends_with never = by_end (record { by_eof = λ a. absurd (never a); by_last = λ e. e })

  pub end_le : file_end f ≤ length f
  end_le = by_end (record { by_eof = λ a. rw (ends_at a) a.within; by_last = λ e. rw e (omega arith) })

  pub body_length : length (body_of f) ≡ file_end f
  unfolding body_of
  body_length = length-take-le (file_end f) f end_le

  pub body_le : length (body_of f) ≤ length f
  body_le = rw body_length end_le

  -- a file without padding is its body
  pub whole : file_end f ≡ length f → body_of f ≡ f
  unfolding body_of
  whole e = rw e (take-length f)

  -- a file that opens ends at its eof
  pub opens_at : Passes f → AtEof
  opens_at p = let g = gdr_parts f (gdr_at f) p.gdr in record { gdr = omega arith; within = g.eof; near = g.near }

  pub body_below : opening f ≡ 0 → body_of f ≡ take eof f
  unfolding body_of
  body_below e = ap (λ (k : ℕ). take k f) (ends_at (opens_at (opening_passes f e)))

guarded : (a b x y : Bool) → (a ≡ true → b ≡ true → x ≡ y) → (a && (b && x)) ≡ (a && (b && y))
guarded true true x y h = h refl refl
guarded true false x y h = refl
guarded false b x y h = refl

-- ---- two files that agree below an offset, behind the GDR's first 60 bytes
module _ (e : ℕ) (f g : List ℕ) (same : take e f ≡ take e g) (far : gdr_at f + 60 ≤ e) where
  pub same_gdr : gdr_at f ≡ gdr_at g
  unfolding gdr_at link_at
  same_gdr = rw (same_field e f g same 16 (omega arith))

  pub same_eof : eof_of f (gdr_at f) ≡ eof_of g (gdr_at g)
  unfolding eof_of nat_at
  same_eof = rw (← same_gdr, same_field e f g same (gdr_at f + 20) (omega arith))

  pub same_magics : magics_right f ≡ magics_right g
  unfolding magics_right
  same_magics = rw (same_big e f g same 0 4 (omega arith), same_big e f g same 4 4 (omega arith))

  pub same_compressed : wholly_compressed f ≡ wholly_compressed g
  unfolding wholly_compressed
  same_compressed = rw (same_big e f g same 4 4 (omega arith))

  pub same_cdr : cdr_right f ≡ cdr_right g
  unfolding cdr_right is_at nat_at
  same_cdr =
      rw (
        same_field e f g same 8 (omega arith),
        same_field e f g same 12 (omega arith),
        same_field e f g same 20 (omega arith),
        same_field e f g same 28 (omega arith),
        same_big e f g same 32 4 (omega arith),
      )

  pub same_single : single_file f ≡ single_file g
  unfolding single_file bit_at
  same_single = rw (same_big e f g same 32 4 (omega arith))

  pub same_fields : eof_right f (eof_of f (gdr_at f)) ≡ true → eof_right g (eof_of g (gdr_at g)) ≡ true → gdr_fields f (gdr_at f) ≡ gdr_fields g (gdr_at g)
  unfolding gdr_fields is_at at_least at_most
  same_fields a b =
      let at = gdr_at f in
      rw (
        a,
        b,
        ← same_gdr,
        same_field e f g same (at + 4) (omega arith),
        same_field e f g same (at + 36) (omega arith),
        same_field e f g same (at + 24) (omega arith),
        same_field e f g same (at + 28) (omega arith),
        same_field e f g same (at + 40) (omega arith),
        same_field e f g same (at + 32) (omega arith),
      )

  same_size : size_at f (gdr_at f) ≡ size_at g (gdr_at g)
  unfolding nat_at
  same_size = rw (← same_gdr, same_field e f g same (gdr_at f) (omega arith))

  same_dims : r_num_dims f (gdr_at f) ≡ r_num_dims g (gdr_at g)
  unfolding nat_at
  same_dims = rw (← same_gdr, same_field e f g same (gdr_at f + 36) (omega arith))

  -- both end at their eof, which is not above that offset
  pub same_rule : AtEof f → AtEof g → eof_of g (gdr_at g) ≤ e → gdr_right f (gdr_at f) ≡ gdr_right g (gdr_at g)
  unfolding gdr_right
  same_rule a b h =
      let at = gdr_at g in
      let n = r_num_dims g at in
      let sized = eqb (size_at g at) (60 + 4 * n) in
      let lies = leb (at + size_at g at) (eof_of g at) in
      let each = same_each e f g same n (at + 60) (pos 1) (pos 2147483647) in
      rw (
        same_fields (eof_right_lem f a) (eof_right_lem g b),
        le-leb (gdr_at f + 60) (end_of f) (omega (arith, a.gdr, a.within, end_is f)),
        le-leb (gdr_at g + 60) (end_of g) (omega (arith, b.gdr, b.within, end_is g)),
        same_size,
        same_dims,
        same_eof,
        same_gdr,
      ) (ap (λ (x : Bool). leb 312 at && (gdr_fields g at && x))
      (guarded sized lies (each_within f (at + 60) n (pos 1) (pos 2147483647)) (each_within g (at + 60) n (pos 1) (pos 2147483647))
      (λ p q. each (omega (arith, eqb-true (size_at g at) (60 + 4 * n) p, leb-true (at + size_at g at) (eof_of g at) q, h)))))

-- ---- the opening goes by what lies before the end
module _ (f : List ℕ) where
  pub opening_body : opening f ≡ 0 → opening (body_of f) ≡ 0
  unfolding body_of
  opening_body z =
      let p = opening_passes f z in
      let a = opens_at f p in
      let e = eof_of f (gdr_at f) in
      let b = take e f in
      let same : take e f ≡ take e b = sym (take-take e e f (omega arith)) in
      let far = a.gdr in
      let long : length b ≡ e = length-take-le e f a.within in
      let g = gdr_parts f (gdr_at f) p.gdr in
      let there : AtEof b = record {
        gdr = rw (← same_eof e f b same far, ← same_gdr e f b same far) a.gdr;
        within = rw (← same_eof e f b same far, long) (omega arith);
        near = rw (← same_eof e f b same far, long) (omega arith);
      } in
      rw (ends_at f a) (passes_opening b (record {
        least = omega (arith, long, g.placed, g.size, g.inside);
        magics = sym (same_magics e f b same far) ∙ p.magics;
        uncompressed = sym (same_compressed e f b same far) ∙ p.uncompressed;
        cdr = sym (same_cdr e f b same far) ∙ p.cdr;
        single = sym (same_single e f b same far) ∙ p.single;
        gdr = sym (same_rule e f b same far a there (rw (← same_eof e f b same far) (omega arith))) ∙ p.gdr;
      }))

-- two files of one length and one body open alike
module _ (f g : List ℕ) (long : length f ≡ length g) (same : body_of f ≡ body_of g) where
  pub same_end : file_end f ≡ file_end g
  same_end = sym (body_length f) ∙ ap length same ∙ body_length g

  by_eof : AtEof f → AtEof g → opening f ≡ opening g
  unfolding opening magics_number descriptors_number body_of
  by_eof a b =
      let e = eof_of f (gdr_at f) in
      let eofs : eof_of g (gdr_at g) ≡ e = sym (ends_at g b) ∙ sym same_end ∙ ends_at f a in
      let parts : take e f ≡ take e g =
      ap (λ (k : ℕ). take k f) (sym (ends_at f a)) ∙ same ∙ ap (λ (k : ℕ). take k g) (sym same_end ∙ ends_at f a) in
      rw (
        long,
        same_magics e f g parts a.gdr,
        same_compressed e f g parts a.gdr,
        same_cdr e f g parts a.gdr,
        same_single e f g parts a.gdr,
        same_rule e f g parts a.gdr a b (omega (arith, eofs)),
      )

  -- without padding they are one
  unpadded_same : file_end f ≡ length f → f ≡ g
  unpadded_same e = sym (whole f e) ∙ same ∙ whole g (sym same_end ∙ e ∙ long)

  pub opening_same : opening f ≡ opening g
  opening_same =
      by_end f (record {
        by_eof = λ a. by_end g (record {
          by_eof = λ b. by_eof a b;
          by_last = λ e. ap opening (unpadded_same (same_end ∙ e ∙ sym long));
        });
        by_last = λ e. ap opening (unpadded_same e);
      })

-- ---- the bytes p behind the file b, which has no padding
module _ (b p : List ℕ) (u : Unpadded b) (few : length p ≤ 511) where
  abbrev f : List ℕ
  f = b ++ p

  pub behind : length f ≡ length b + length p
  behind = length-append b p

  pub ahead : take (length b) b ≡ take (length b) f
  ahead = take-length b ∙ sym (take-append_seam b p)

  pub padded_eof : eof_of f (gdr_at f) ≡ length b
  padded_eof = sym (same_eof (length b) b f ahead u.gdr) ∙ u.eof

  pub own_at : AtEof b
  own_at = record { gdr = rw u.eof u.gdr; within = omega (arith, u.eof); near = omega (arith, u.eof) }

  pub padded_at : AtEof f
  padded_at = record {
    gdr = omega (arith, u.gdr, padded_eof, same_gdr (length b) b f ahead u.gdr);
    within = omega (arith, behind, padded_eof);
    near = omega (arith, behind, padded_eof);
  }

  pub padded_end : file_end f ≡ length b
  padded_end = ends_at f padded_at ∙ padded_eof

  pub padded_body : body_of f ≡ b
  unfolding body_of
  padded_body = ap (λ (k : ℕ). take k f) padded_end ∙ take-append_seam b p
