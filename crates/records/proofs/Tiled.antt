-- What each number of a record that the sweep looks at says. Assumes nothing.
use mathlib.Core.Path.{◌≡◌, refl}
use mathlib.Core.Logic.{◌↔◌, ◌⊎◌, inl, inr}
use mathlib.Core.Bool.{Bool, true, false, cond, ◌&&◌, and-false}
use mathlib.Core.List.{List, [], ◌∷◌}
use Prim.Native.Nat.{ℕ, ◌+◌, ◌≤◌, ◌<◌}
use native.Mathlib.Omega.{arith}
use lib.Dec.{leb}
use borrow.Author.Tests.{leb-true, leb-false, le-leb, lt-leb}
use Rattle.format.proofs.Tests.{both, every, cond_cases, cond_keeps, cond_left, cond_right}
use Rattle.records.specs.Rules.{size_at}
use Rattle.records.specs.Tiles.{type_known, tile_fields, tile_right, type_uncarried, tile}

-- of the record at o, where the records end at e
module _ (f : List ℕ) (e o : ℕ) where
  pub record TileFields : Type 0 where
    pub wide : 8 ≤ size_at f o
    pub inside : o + size_at f o ≤ e
    pub typed : type_known f o ≡ true

  pub tile_fields_lem : tile_fields f e o ≡ true ↔ TileFields
  unfolding tile_fields
  tile_fields_lem =
      let tests = leb 8 (size_at f o) ∷ leb (o + size_at f o) e ∷ type_known f o ∷ [] in (
        λ t. let p = every tests t in record { wide = leb-true 8 (size_at f o) (p 0); inside = leb-true (o + size_at f o) e (p 1); typed = p 2 },
        λ p. rw (le-leb 8 (size_at f o) p.wide, le-leb (o + size_at f o) e p.inside, p.typed),
      )

  pub record TileParts : Type 0 where
    pub begins : o + 8 ≤ e
    pub fields : tile_fields f e o ≡ true
    pub carried : type_uncarried f o ≡ false

  pub tile_law : tile f e o ≡ 0 ↔ TileParts
  unfolding tile tile_right
  tile_law = (
    λ z.
        let a = cond_left (tile_right f e o) 6 (cond (type_uncarried f o) 14 0) z in
        let b = both (leb (o + 8) e) (tile_fields f e o) a.0 in
        record { begins = leb-true (o + 8) e b.0; fields = b.1; carried = (cond_right (type_uncarried f o) 13 0 a.1).0 },
    λ p. rw (le-leb (o + 8) e p.begins, p.fields, p.carried),
  )

  -- 7 and 14
  abbrev pub Broken : Type 0
  Broken = (e < o + 8) ⊎ (tile_fields f e o ≡ false)

  pub tile_seven : tile f e o ≡ 7 ↔ Broken
  unfolding tile tile_right
  tile_seven = (
    cond_cases (λ v. v ≡ 7 → Broken) (leb (o + 8) e && tile_fields f e o)
        (λ _. cond_keeps (λ v. v ≡ 7 → Broken) (type_uncarried f o) (λ z. absurd (omega arith)) (λ z. absurd (omega arith)))
        (λ fails z. broken (leb (o + 8) e) refl fails),
    seven,
  )
    where
      broken : (b : Bool) → leb (o + 8) e ≡ b → (b && tile_fields f e o) ≡ false → Broken
      broken false h fails = inl (leb-false (o + 8) e h)
      broken true h fails = inr fails

      seven : Broken → ◌≡◌ {A = ℕ} (cond (leb (o + 8) e && tile_fields f e o) (cond (type_uncarried f o) 14 0) 7) 7
      seven (inl h) = rw (lt-leb (o + 8) e h)
      seven (inr h) = rw (h, and-false (leb (o + 8) e))

  abbrev pub Uncarried : Type 0
  Uncarried = (o + 8 ≤ e) × (tile_fields f e o ≡ true) × (type_uncarried f o ≡ true)

  pub tile_fourteen : tile f e o ≡ 14 ↔ Uncarried
  unfolding tile tile_right
  tile_fourteen = (
    cond_cases (λ v. v ≡ 14 → Uncarried) (leb (o + 8) e && tile_fields f e o)
        (λ holds.
        let b = both (leb (o + 8) e) (tile_fields f e o) holds in
        cond_cases (λ v. v ≡ 14 → Uncarried) (type_uncarried f o) (λ u z. (leb-true (o + 8) e b.0, b.1, u)) (λ _ z. absurd (omega arith)))
        (λ _ z. absurd (omega arith)),
    λ h. rw (le-leb (o + 8) e h.0, h.1, h.2),
  )

  -- with 0 it lies before the end
  pub tile_lies : tile f e o ≡ 0 → TileFields
  tile_lies z = tile_fields_lem.0 (tile_law.0 z).fields

  -- what 0, 7 and 14 have, its number has
  pub tile_has : (Q : ℕ → Type 0) → Q 0 → Q 7 → Q 14 → Q (tile f e o)
  unfolding tile
  tile_has Q none broken uncarried = cond_keeps Q (tile_right f e o) (cond_keeps Q (type_uncarried f o) uncarried none) broken
