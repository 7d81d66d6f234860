-- PLACES ARE A NUMBERING: over the dimensions from the slowest on, then as the layout has them. Assumes nothing.
use mathlib.Core.Path.{◌≡◌, refl, sym, ap, ◌∙◌, subst}
use mathlib.Core.Logic.{◌↔◌, ◌⊎◌, inl, inr, ⊎_elim}
use mathlib.Core.Bool.{Bool, true, false, cond, true≢false}
use mathlib.Core.List.{List, [], ◌∷◌}
use Prim.Native.Nat.{ℕ, zero, suc, ◌+◌, ◌*◌, ◌/◌, ◌%◌, ◌≤◌, ◌<◌}
use native.Mathlib.Nat.{add-zero, mul-one, mul-le-mul_right, suc-mul, add-mul, mul_assoc, mul_comm, mod-lt, div-add-mod', div-lt_iff_lt-mul}
use native.Mathlib.Omega.{arith}
use borrow.Author.Count.{below_more}
use borrow.Author.Tests.{ltb-true, ltb-false, lt-ltb, le-leb, leb-true, eqb-true, eq-eqb, ne_eqb}
use lib.Arith.{digits_div, digits_mod, digits_lt}
use lib.Dec.{ltb, eqb}
use lib.ListN.{length, get_or}
use lib.IntN.{ℤ, pos, negsuc}
use Rattle.format.specs.Fields.{end_of, at_least, at_most, each_within, nat_or, nat_at}
use Rattle.format.proofs.Tests.{both, every, cond_cases}
use Rattle.format.proofs.FieldRanges.{end_is, some_is}
use Rattle.records.specs.Layout.{data_type_at, elements_at}
use Rattle.records.specs.Attributes.{element_size}
use Rattle.variables.specs.declared.vdr.Layout.{Layout}
use Rattle.variables.specs.Bounds.{LayoutInside}
use Rattle.variables.specs.Vdr.{dimensions_right, factor_of, value_bytes, values_per_record, record_bytes}
use Rattle.variables.specs.Place.{slower, moved, place_after, size_of, varies_of, index_of, element_place, index_right, indices_right, row_fits, placed}
use Rattle.variables.specs.Numbering.{SameIndex, RunsSlower, PlacesNumber, Apart, ValuesApart}
use Rattle.variables.proofs.Product.{product}
use Rattle.variables.proofs.Bound.{index_below, slower_below, either_way, values_product, place_below}

-- ---- a place as a multiple of a size and an index below it, and one dimension
one_way : (p q n : ℕ) {x y : ℕ} → x < n → y < n → p * n + x ≡ q * n + y → (p ≡ q) × (x ≡ y)
one_way p q n h i e =
    (sym (digits_div p h) ∙ ap (λ (k : ℕ). k / n) e ∙ digits_div q i, sym (digits_mod p h) ∙ ap (λ (k : ℕ). k % n) e ∙ digits_mod q i)

moved_same : (varies : Bool) (size a b : ℕ) {p q : ℕ} → p ≡ q → (varies ≡ true → a ≡ b) → moved varies size a p ≡ moved varies size b q
moved_same true size a b e h = rw (e, h refl)
moved_same false size a b e h = e

moved_differ : (varies : Bool) (size a b : ℕ) {p q : ℕ} → a < size → b < size → moved varies size a p ≡ moved varies size b q → (p ≡ q) × (varies ≡ true → a ≡ b)
moved_differ true size a b {p} {q} h i e = let u = one_way p q size h i e in (u.0, λ _. u.1)
moved_differ false size a b h i e = (e, λ t. absurd (true≢false (sym t)))

-- a larger place stays larger, whatever the index
moved_larger : (varies : Bool) (size a b p q : ℕ) → a < size → p < q → moved varies size a p < moved varies size b q
moved_larger true size a b p q h l = omega (arith, digits_lt l h)
moved_larger false size a b p q h l = l

moved_met : (varies : Bool) (size p m : ℕ) → 0 < size → p < m * cond varies size 1 → (q : ℕ) × (i : ℕ) × (q < m) × (i < size) × (moved varies size i q ≡ p)
moved_met true size p m s h = (p / size, p % size, (div-lt_iff_lt-mul s).1 h, mod-lt p s, div-add-mod' p size)
moved_met false size p m s h = (p, 0, rw mul-one at h, s, refl)

-- ---- the dimensions from the slowest on are all of them: `slower` undoes itself
slower_back : (row : Bool) (n d : ℕ) → d < n → slower row n (slower row n d) ≡ d
slower_back true n d h = omega arith
slower_back false n d h = omega arith

module _ (row : Bool) (n : ℕ) where
  -- what holds from the slowest to the fastest holds of all dimensions
  from_slowest : (P : ℕ → Type 0) → ((k : ℕ) → k < n → P (slower row n k)) → (d : ℕ) → d < n → P d
  from_slowest P all d h = subst P (slower_back row n d h) (all (slower row n d) (slower_below row n d h))

  -- two places in the order are of two dimensions
  slower_other : (j k : ℕ) → j < n → k < j → slower row n k ≡ slower row n j → ⊥
  slower_other j k h l e = let same : k ≡ j = sym (slower_back row n k (omega arith)) ∙ ap (slower row n) e ∙ slower_back row n j h in omega arith

-- what comes before d in the order runs slower
comes_slower : (row : Bool) (n d i : ℕ) → d < n → i < slower row n d → RunsSlower row (slower row n i) d
comes_slower true n d i h l = omega arith
comes_slower false n d i h l = omega arith

-- ---- the places of two rows of indices
module _ (row : Bool) (n : ℕ) (size : ℕ → ℕ) (varies : ℕ → Bool) (index other : ℕ → ℕ) where
  abbrev Alike : ℕ → Type 0
  Alike d = varies d ≡ true → index d ≡ other d

  abbrev at : (ℕ → ℕ) → ℕ → ℕ
  at is j = place_after row n size varies is j

  after_same : (j : ℕ) → ((k : ℕ) → k < j → Alike (slower row n k)) → at index j ≡ at other j
  unfolding place_after
  after_same zero h = refl
  after_same (suc j) h =
      let d = slower row n j in
      moved_same (varies d) (size d) (index d) (other d) (after_same j (λ k l. h k (omega arith))) (h j (omega arith))

  module _ (right : (d : ℕ) → d < n → index d < size d) where
    after_differ : ((d : ℕ) → d < n → other d < size d) → (j : ℕ) → j ≤ n → at index j ≡ at other j → (k : ℕ) → k < j → Alike (slower row n k)
    unfolding place_after
    after_differ too zero l e k h = absurd (omega arith)
    after_differ too (suc j) l e k h =
        let d = slower row n j in
        let here = slower_below row n j (omega arith) in
        let u = moved_differ (varies d) (size d) (index d) (other d) (right d here) (too d here) e in
        below_more (λ i. Alike (slower row n i)) j (after_differ too j (omega arith) u.0) u.1 k (omega arith)

    -- the first index that differs is less
    after_order : (k : ℕ) → varies (slower row n k) ≡ true → index (slower row n k) < other (slower row n k) → ((i : ℕ) → i < k → Alike (slower row n i))
        → (j : ℕ) → j ≤ n → k < j → at index j < at other j
    unfolding place_after
    after_order k v less alike zero l h = absurd (omega arith)
    after_order k v less alike (suc j) l h = go (ltb k j) refl (after_order k v less alike j (omega arith))
      where
        d : ℕ
        d = slower row n j

        go : (t : Bool) → ltb k j ≡ t → (k < j → at index j < at other j) → moved (varies d) (size d) (index d) (at index j) < moved (varies d) (size d) (other d) (at other j)
        go true e rest = moved_larger (varies d) (size d) (index d) (other d) (at index j) (at other j) (right d (slower_below row n j (omega arith))) (rest (ltb-true k j e))
        go false e rest =
            let is : j ≡ k = omega (arith, ltb-false k j e) in
            rw (is, v, after_same k alike) (omega arith)

-- ---- every number below the product is a place
module _ (row : Bool) (n : ℕ) (size : ℕ → ℕ) (varies : ℕ → Bool) where
  -- right indices whose place after the j slowest dimensions is p
  record Indices (j p : ℕ) : Type 0 where
    index : ℕ → ℕ
    right : (d : ℕ) → d < n → index d < size d
    place : place_after row n size varies index j ≡ p

  -- and an index i of the next dimension
  one_more_lem : (j i q : ℕ) → j < n → i < size (slower row n j) → Indices j q → Indices (suc j) (moved (varies (slower row n j)) (size (slower row n j)) i q)
  unfolding place_after
  one_more_lem j i q l h x =
      let d = slower row n j in
      record {
        index = with;
        right = λ a k. cond_cases (λ (b : ℕ). b < size a) (eqb a d) (λ e. rw (eqb-true a d e) h) (λ _. x.right a k);
        place = moved_same (varies d) (size d) (with d) i
            (after_same row n size varies with x.index j (λ k b _. rw (ne_eqb (slower row n k) d (slower_other row n j k l b))) ∙ x.place)
            (λ _. rw (eq-eqb d d refl));
      }
    where
      with : ℕ → ℕ
      with a = cond (eqb a (slower row n j)) i (x.index a)

  after_met : ((d : ℕ) → d < n → 0 < size d) → (j : ℕ) → j ≤ n → (p : ℕ) → p < product (λ k. cond (varies (slower row n k)) (size (slower row n k)) 1) j → Indices j p
  unfolding place_after
  after_met some zero l p h = record { index = λ d. 0; right = some; place = omega arith }
  after_met some (suc j) l p h =
      let d = slower row n j in
      let before = product (λ k. cond (varies (slower row n k)) (size (slower row n k)) 1) j in
      let u = moved_met (varies d) (size d) p before (some d (slower_below row n j l)) h in
      subst (Indices (suc j)) u.4 (one_more_lem j u.1 u.0 l u.3 (after_met some j (omega arith) u.0 u.2))

-- ---- indices as a list
abbrev listed : (ℕ → ℕ) → ℕ → List ℤ
listed g zero = []
listed g (suc n) = pos (g 0) ∷ listed (λ k. g (suc k)) n

listed_length : (g : ℕ → ℕ) (n : ℕ) → length (listed g n) ≡ n
listed_length g zero = refl
listed_length g (suc n) = ap suc (listed_length (λ k. g (suc k)) n)

listed_at : (g : ℕ → ℕ) (n d : ℕ) → d < n → get_or (listed g n) d (pos 0) ≡ pos (g d)
listed_at g zero d h = absurd (omega arith)
listed_at g (suc n) zero h = refl
listed_at g (suc n) (suc d) h = listed_at (λ k. g (suc k)) n d (omega arith)

-- ---- of a layout
module _ (f : List ℕ) where
  abbrev sizes : ℕ → ℕ → Bool
  sizes p n = each_within f p n (pos 1) (pos 2147483647)

  first_size : (p n : ℕ) → sizes p (suc n) ≡ true → (0 < nat_at f p) × (sizes (p + 4) n ≡ true)
  unfolding each_within
  first_size p n e =
      let tests = every (at_least f p (pos 1) ∷ at_most f p (pos 2147483647) ∷ sizes (p + 4) n ∷ []) e in
      (leb-true 1 (nat_at f p) (sym (some_is f p) ∙ tests 0), tests 2)

  -- 5.11, of each size
  each_size : (p n : ℕ) → sizes p n ≡ true → (d : ℕ) → d < n → 0 < size_of f p d
  each_size p zero e d h = absurd (omega arith)
  each_size p (suc n) e zero h = rw add-zero (first_size p n e).0
  each_size p (suc n) e (suc d) h =
      let next : p + 4 * suc d ≡ p + 4 + 4 * d = omega arith in
      rw next (each_size (p + 4) n (first_size p n e).1 d (omega arith))

  indices_make : (p : ℕ) (is : List ℤ) (g : ℕ → ℕ) (n : ℕ) → ((d : ℕ) → d < n → get_or is d (pos 0) ≡ pos (g d)) → ((d : ℕ) → d < n → g d < size_of f p d)
      → indices_right f p is n ≡ true
  unfolding indices_right
  indices_make p is g zero e h = refl
  indices_make p is g (suc n) e h =
      let rest = indices_make p is g n (λ d l. e d (omega arith)) (λ d l. h d (omega arith)) in
      rw (rest, e n (omega arith), le-leb 0 (g n) (omega arith), lt-ltb (g n) (size_of f p n) (h n (omega arith)))

module _ (f : List ℕ) (l : Layout) where
  abbrev values : ℕ
  values = values_per_record f l.count l.sizes l.variances

  abbrev size : ℕ → ℕ
  size = size_of f l.sizes

  abbrev varies : ℕ → Bool
  varies = varies_of f l.variances

  pub placed_right : (is : List ℤ) → placed f l is ≡ true → indices_right f l.sizes is l.count ≡ true
  unfolding placed
  placed_right is e =
      every (eqb (length is) l.count ∷ row_fits f l.sizes l.count ∷ row_fits f l.variances l.count ∷ indices_right f l.sizes is l.count ∷ []) e 3

  -- and the other way round
  right_each : (is : List ℤ) (n : ℕ) → (indices_right f l.sizes is n ≡ true) ↔ ((d : ℕ) → d < n → index_right (get_or is d (pos 0)) (size d) ≡ true)
  unfolding indices_right
  right_each is zero = (λ e d h. absurd (omega arith), λ h. refl)
  right_each is (suc n) =
      let ih = right_each is n in (
        λ e.
            let a = both (indices_right f l.sizes is n) (index_right (get_or is n (pos 0)) (size n)) e in
            λ d h. below_more (λ d. index_right (get_or is d (pos 0)) (size d) ≡ true) n (ih.0 a.0) a.1 d (omega arith),
        λ h. rw (ih.1 (λ d k. h d (omega arith)), h n (omega arith)),
      )

  placed_is : LayoutInside f l → (is : List ℤ)
      → (placed f l is ≡ true) ↔ ((length is ≡ l.count) × ((d : ℕ) → d < l.count → index_right (get_or is d (pos 0)) (size d) ≡ true))
  unfolding placed row_fits
  placed_is inside is = (
    λ e.
        let parts = eqb (length is) l.count ∷ row_fits f l.sizes l.count ∷ row_fits f l.variances l.count ∷ indices_right f l.sizes is l.count ∷ [] in
        (eqb-true (length is) l.count (every parts e 0), (right_each is l.count).0 (every parts e 3)),
    λ h.
        rw (
          eq-eqb (length is) l.count h.0,
          le-leb (l.sizes + 4 * l.count) (end_of f) (omega (arith, inside.sizes, end_is f)),
          le-leb (l.variances + 4 * l.count) (end_of f) (omega (arith, inside.variances, end_is f)),
          (right_each is l.count).1 h.1,
        ),
  )

  placed_below : (is : List ℤ) → placed f l is ≡ true → (d : ℕ) → d < l.count → index_of is d < size d
  placed_below is e = index_below f l.sizes is l.count (placed_right is e)

  module _ (row : Bool) where
    places_met : LayoutInside f l → dimensions_right f l ≡ true → (p : ℕ) → p < values → (is : List ℤ) × (placed f l is ≡ true) × (element_place f l row is ≡ p)
    unfolding element_place placed row_fits factor_of dimensions_right
    places_met inside right p h = (
      is,
      rw (
        eq-eqb (length is) n (listed_length index n),
        le-leb (l.sizes + 4 * n) (end_of f) (omega (arith, end_is f)),
        le-leb (l.variances + 4 * n) (end_of f) (omega (arith, end_is f)),
        indices_make f l.sizes is index n (listed_at index n) found.right,
      ),
      after_same row n size varies (index_of is) index n (λ k b _. ap (nat_or 0) (listed_at index n (slower row n k) (slower_below row n k b))) ∙ found.place,
    )
      where
        n : ℕ
        n = l.count

        factor : ℕ → ℕ
        factor d = factor_of f (l.sizes + 4 * d) (l.variances + 4 * d)

        found : Indices row n size varies n p
        found =
            let each = (both (sizes f l.sizes n) (each_within f l.variances n (negsuc 0) (pos 0)) right).0 in
            after_met row n size varies (each_size f l.sizes n each) n (omega arith) p (rw (either_way row n factor, values_product f n l.sizes l.variances) h)

        index : ℕ → ℕ
        index = found.index

        is : List ℤ
        is = listed index n

    module _ (is js : List ℤ) where
      places_differ : placed f l is ≡ true → placed f l js ≡ true → element_place f l row is ≡ element_place f l row js → (d : ℕ) → d < l.count → SameIndex f l is js d
      unfolding element_place
      places_differ a b e =
          from_slowest row l.count (SameIndex f l is js)
          (after_differ row l.count size varies (index_of is) (index_of js) (placed_below is a) (placed_below js b) l.count (omega arith) e)

      places_same : ((d : ℕ) → d < l.count → SameIndex f l is js d) → element_place f l row is ≡ element_place f l row js
      unfolding element_place
      places_same h =
          after_same row l.count size varies (index_of is) (index_of js) l.count (λ k b. h (slower row l.count k) (slower_below row l.count k b))

      places_order : placed f l is ≡ true → placed f l js ≡ true → (d : ℕ) → d < l.count → varies d ≡ true → index_of is d < index_of js d
          → ((e : ℕ) → e < l.count → RunsSlower row e d → SameIndex f l is js e) → element_place f l row is < element_place f l row js
      unfolding element_place
      places_order a b d h v less alike =
          let n = l.count in
          let back = slower_back row n d h in
          let here = slower_below row n d h in
          after_order row n size varies (index_of is) (index_of js) (placed_below is a) (slower row n d) (rw back v) (rw back less)
          (λ i k. alike (slower row n i) (slower_below row n i (omega arith)) (comes_slower row n d i h k)) n (omega arith) here

pub places_number : PlacesNumber
places_number f l row inside right =
    record {
      right = placed_is f l inside;
      below = λ is e. place_below f l row is (placed_right f l is e);
      met = places_met f l row inside right;
      differ = places_differ f l row;
      same = places_same f l row;
      order = places_order f l row;
    }

-- ---- bytes
module _ (size n : ℕ) where
  -- where element x, of n elements of a size, of the value at place p begins
  abbrev begins : ℕ → ℕ → ℕ
  begins p x = p * (n * size) + x * size

  ends_before : (p q x y : ℕ) → p * n + x < q * n + y → begins p x + size ≤ begins q y
  ends_before p q x y l =
      let counted : (a b : ℕ) → begins a b ≡ (a * n + b) * size = λ a b. rw (add-mul, mul_assoc) in
      let m : suc (p * n + x) * size ≤ (q * n + y) * size = mul-le-mul_right size l in
      omega (arith, suc-mul (p * n + x) size, counted p x, counted q y)

  elements_apart : (p q : ℕ) {x y : ℕ} → x < n → y < n → ((p ≡ q) × (x ≡ y)) ⊎ Apart size (begins p x) (begins q y)
  elements_apart p q {x} {y} h i = go (ltb (p * n + x) (q * n + y)) (ltb (q * n + y) (p * n + x)) refl refl
    where
      go : (t u : Bool) → ltb (p * n + x) (q * n + y) ≡ t → ltb (q * n + y) (p * n + x) ≡ u → ((p ≡ q) × (x ≡ y)) ⊎ Apart size (begins p x) (begins q y)
      go true u e g = inr (inl (ends_before p q x y (ltb-true (p * n + x) (q * n + y) e)))
      go false true e g = inr (inr (ends_before q p y x (ltb-true (q * n + y) (p * n + x) g)))
      go false false e g = inl (one_way p q n h i (omega (arith, ltb-false (p * n + x) (q * n + y) e, ltb-false (q * n + y) (p * n + x) g)))

pub values_apart : ValuesApart
unfolding value_bytes record_bytes
values_apart f v l row =
    let n = nat_at f (elements_at v) in
    let size = element_size f (data_type_at v) in
    record {
      inside = λ is x e h.
          let below = digits_lt (place_below f l row is (placed_right f l is e)) h in
          omega (arith, ends_before size n (element_place f l row is) (values f l) x 0 (omega (arith, below)), mul_comm (values f l) (n * size));
      apart = λ is js x y a b h i.
          ⊎_elim (λ u. inl (places_differ f l row is js a b u.0, u.1)) inr (elements_apart size n (element_place f l row is) (element_place f l row js) h i);
    }
