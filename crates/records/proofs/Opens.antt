-- When the numbers of the opening are 0: the magic numbers, the CDR and the GDR. Assumes nothing.
use mathlib.Core.Path.{◌≡◌}
use mathlib.Core.Logic.{◌↔◌}
use mathlib.Core.Bool.{true, false, cond, ◌&&◌}
use mathlib.Core.List.{List, [], ◌∷◌}
use Prim.Native.Nat.{ℕ, ◌+◌, ◌*◌, ◌≤◌, ◌<◌}
use native.Mathlib.Omega.{arith}
use lib.Dec.{ltb, leb, eqb}
use lib.IntN.{pos, negsuc}
use lib.ListN.{length}
use borrow.Author.Tests.{ltb-true, leb-true, eqb-true, lt-ltb, le-leb, eq-eqb}
use Rattle.format.specs.Bytes.{big_at}
use Rattle.format.specs.Fields.{end_of, is_at, at_least, within_at, each_within, nat_at}
use Rattle.format.specs.Encodings.{encoding_of, order_in}
use Rattle.format.proofs.Tests.{both, every, cond_keeps, cond_left, cond_right}
use Rattle.format.proofs.Numbers.{zeros, first_has}
use Rattle.format.proofs.FieldRanges.{end_is}
use Rattle.records.specs.Layout.{cdr_offset, version_at, encoding_at, cdr_flags_at, nr_vars_at, num_attr_at, r_max_rec_at, r_num_dims_at, nz_vars_at, r_dim_sizes_at}
use Rattle.records.specs.Rules.{size_at, typed_at}
use Rattle.records.specs.Opening.{magics_right, wholly_compressed, cdr_right, single_file, gdr_at, eof_of, eof_right, gdr_fields, r_num_dims, gdr_right, magics_number, descriptors_number, opening}

module _ (f : List ℕ) where
  -- ---- the magic numbers
  pub record Magics : Type 0 where
    pub least : 372 ≤ length f
    pub magics : magics_right f ≡ true
    pub uncompressed : wholly_compressed f ≡ false

  pub magics_law : magics_number f ≡ 0 ↔ Magics
  unfolding magics_number
  magics_law = (
    λ e.
        let a = cond_left (leb 372 (length f) && magics_right f) 2 (cond (wholly_compressed f) 4 0) e in
        let w = both (leb 372 (length f)) (magics_right f) a.0 in
        record { least = leb-true 372 (length f) w.0; magics = w.1; uncompressed = (cond_right (wholly_compressed f) 3 0 a.1).0 },
    λ m. rw (le-leb 372 (length f) m.least, m.magics, m.uncompressed),
  )

  -- ---- the CDR
  pub record CdrFields : Type 0 where
    pub typed : typed_at f cdr_offset (pos 1) ≡ true
    pub size : size_at f cdr_offset ≡ 304
    pub version : is_at f version_at (pos 2) ≡ true
    pub encoding : 1 ≤ order_in (encoding_of (nat_at f encoding_at))
    pub flags : big_at f cdr_flags_at 4 < 4

  pub cdr_fields : cdr_right f ≡ true ↔ CdrFields
  unfolding cdr_right
  cdr_fields =
      let order = order_in (encoding_of (nat_at f encoding_at)) in
      let flags = big_at f cdr_flags_at 4 in
      let tests = typed_at f cdr_offset (pos 1) ∷ eqb (size_at f cdr_offset) 304 ∷ is_at f version_at (pos 2) ∷ leb 1 order ∷ ltb flags 4 ∷ [] in (
        λ e.
            let p = every tests e in
            record { typed = p 0; size = eqb-true (size_at f cdr_offset) 304 (p 1); version = p 2; encoding = leb-true 1 order (p 3); flags = ltb-true flags 4 (p 4) },
        λ p. rw (p.typed, eq-eqb (size_at f cdr_offset) 304 p.size, p.version, le-leb 1 order p.encoding, lt-ltb flags 4 p.flags),
      )

  -- ---- the CDR and the GDR
  pub record Descriptors : Type 0 where
    pub cdr : cdr_right f ≡ true
    pub single : single_file f ≡ true
    pub gdr : gdr_right f (gdr_at f) ≡ true

  pub descriptors_law : descriptors_number f ≡ 0 ↔ Descriptors
  unfolding descriptors_number
  descriptors_law = (
    λ e.
        let gdr : ℕ = cond (gdr_right f (gdr_at f)) 0 6 in
        let a = cond_left (cdr_right f) 4 (cond (single_file f) gdr 14) e in
        let b = cond_left (single_file f) 13 gdr a.1 in
        record { cdr = a.0; single = b.0; gdr = (cond_left (gdr_right f (gdr_at f)) 5 0 b.1).0 },
    λ d. rw (d.cdr, d.single, d.gdr),
  )

  -- ---- the opening
  pub record Passes : Type 0 where
    pub least : 372 ≤ length f
    pub magics : magics_right f ≡ true
    pub uncompressed : wholly_compressed f ≡ false
    pub cdr : cdr_right f ≡ true
    pub single : single_file f ≡ true
    pub gdr : gdr_right f (gdr_at f) ≡ true

  pub opening_passes : opening f ≡ 0 → Passes
  unfolding opening
  opening_passes e =
      let z = zeros (magics_number f ∷ descriptors_number f ∷ []) e in
      let m = magics_law.0 (z 0) in
      let d = descriptors_law.0 (z 1) in
      record { least = m.least; magics = m.magics; uncompressed = m.uncompressed; cdr = d.cdr; single = d.single; gdr = d.gdr }

  pub passes_opening : Passes → opening f ≡ 0
  unfolding opening
  passes_opening p =
      rw (
        magics_law.1 (record { least = p.least; magics = p.magics; uncompressed = p.uncompressed }),
        descriptors_law.1 (record { cdr = p.cdr; single = p.single; gdr = p.gdr }),
      )

  -- the numbers that it can be
  pub opening_has : (Q : ℕ → Type 0) → Q 0 → Q 3 → Q 4 → Q 5 → Q 14 → Q 6 → Q (opening f)
  unfolding opening magics_number descriptors_number
  opening_has Q none magic compressed cdr parts gdr =
      first_has Q none (magics_number f ∷ descriptors_number f ∷ []) (
        cond_keeps Q (leb 372 (length f) && magics_right f) (cond_keeps Q (wholly_compressed f) compressed none) magic,
        (cond_keeps Q (cdr_right f) (cond_keeps Q (single_file f) (cond_keeps Q (gdr_right f (gdr_at f)) none gdr) parts) cdr, tt),
      )

  -- ---- an eof in its window
  pub window : (eof : ℕ) → eof_right f eof ≡ true → (eof ≤ length f) × (length f ≤ eof + 511)
  unfolding eof_right
  window eof e =
      let a = both (leb eof (length f)) (leb (length f) (eof + 511)) e in
      (leb-true eof (length f) a.0, leb-true (length f) (eof + 511) a.1)

  module _ (g : ℕ) where
    -- ---- the fields of a GDR
    pub record GdrFields : Type 0 where
      pub typed : typed_at f g (pos 2) ≡ true
      pub dims : within_at f (r_num_dims_at g) (pos 0) (pos 10) ≡ true
      pub r_variables : at_least f (nr_vars_at g) (pos 0) ≡ true
      pub attributes : at_least f (num_attr_at g) (pos 0) ≡ true
      pub z_variables : at_least f (nz_vars_at g) (pos 0) ≡ true
      pub max_rec : at_least f (r_max_rec_at g) (negsuc 0) ≡ true
      pub eof : eof_right f (eof_of f g) ≡ true

    pub gdr_fields_lem : gdr_fields f g ≡ true ↔ GdrFields
    unfolding gdr_fields
    gdr_fields_lem =
        let tests =
        typed_at f g (pos 2)
        ∷ within_at f (r_num_dims_at g) (pos 0) (pos 10)
        ∷ at_least f (nr_vars_at g) (pos 0)
        ∷ at_least f (num_attr_at g) (pos 0)
        ∷ at_least f (nz_vars_at g) (pos 0)
        ∷ at_least f (r_max_rec_at g) (negsuc 0)
        ∷ eof_right f (eof_of f g)
        ∷ [] in (
          λ e.
              let p = every tests e in
              record { typed = p 0; dims = p 1; r_variables = p 2; attributes = p 3; z_variables = p 4; max_rec = p 5; eof = p 6 },
          λ p. rw (p.typed, p.dims, p.r_variables, p.attributes, p.z_variables, p.max_rec, p.eof),
        )

    -- ---- a GDR that keeps its rule: its parts, and where it and the eof lie
    pub record GdrParts : Type 0 where
      pub placed : 312 ≤ g
      pub lies : g + 60 ≤ end_of f
      pub fields : GdrFields
      pub size : size_at f g ≡ 60 + 4 * r_num_dims f g
      pub inside : g + size_at f g ≤ eof_of f g
      pub sizes : each_within f (r_dim_sizes_at g) (r_num_dims f g) (pos 1) (pos 2147483647) ≡ true
      pub eof : eof_of f g ≤ length f
      pub near : length f ≤ eof_of f g + 511

    pub gdr_parts : gdr_right f g ≡ true → GdrParts
    unfolding gdr_right
    gdr_parts e =
        let each = each_within f (r_dim_sizes_at g) (r_num_dims f g) (pos 1) (pos 2147483647) in
        let all = leb (g + size_at f g) (eof_of f g) && each in
        let sized = eqb (size_at f g) (60 + 4 * r_num_dims f g) && all in
        let a = both (leb 312 g) (leb (g + 60) (end_of f) && (gdr_fields f g && sized)) e in
        let b = both (leb (g + 60) (end_of f)) (gdr_fields f g && sized) a.1 in
        let c = both (gdr_fields f g) sized b.1 in
        let d = both (eqb (size_at f g) (60 + 4 * r_num_dims f g)) all c.1 in
        let i = both (leb (g + size_at f g) (eof_of f g)) each d.1 in
        let fields = gdr_fields_lem.0 c.0 in
        let w = window (eof_of f g) fields.eof in
        record {
          placed = leb-true 312 g a.0;
          lies = leb-true (g + 60) (end_of f) b.0;
          fields = fields;
          size = eqb-true (size_at f g) (60 + 4 * r_num_dims f g) d.0;
          inside = leb-true (g + size_at f g) (eof_of f g) i.0;
          sizes = i.1;
          eof = w.0;
          near = w.1;
        }

    pub parts_gdr : GdrParts → gdr_right f g ≡ true
    unfolding gdr_right
    parts_gdr p =
        rw (
          le-leb 312 g p.placed,
          le-leb (g + 60) (end_of f) p.lies,
          gdr_fields_lem.1 p.fields,
          eq-eqb (size_at f g) (60 + 4 * r_num_dims f g) p.size,
          le-leb (g + size_at f g) (eof_of f g) p.inside,
          p.sizes,
        )

    -- the GDR lies in the file
    pub gdr_within : GdrParts → g + size_at f g ≤ end_of f
    gdr_within p = omega (arith, p.inside, p.eof, end_is f)
