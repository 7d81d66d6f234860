-- The records of the lists of an accepted file are no more than the reader may meet: they are record starts, none is reached twice, and
-- each has 8 bytes or more. Assumes nothing.
use mathlib.Core.Path.{◌≡◌, refl, sym, ◌∙◌}
use mathlib.Core.Logic.{◌≢◌}
use mathlib.Core.Bool.{Bool, true, false, cond, ◌||◌, true≢false, or-true}
use mathlib.Core.List.{List, [], ◌∷◌, ◌++◌}
use Prim.Native.Nat.{ℕ, suc, ◌+◌, ◌*◌, ◌≤◌}
use native.Mathlib.Omega.{arith}
use lib.Dec.{eqb}
use lib.ListN.{length, length-append}
use borrow.Author.Tests.{eqb-true, eq-eqb}
use Rattle.format.specs.Fields.{end_of}
use Rattle.format.proofs.Tests.{not_both}
use Rattle.format.proofs.FieldRanges.{end_is}
use Rattle.records.specs.Rules.{size_at}
use Rattle.lookup.specs.Lists.{allowance}
use Rattle.demands.specs.Acceptance.{variable_offsets, attribute_offsets}
use Rattle.demands.proofs.Claims.{mem, Tiles, fits}
use Rattle.demands.proofs.Sweep.{Once, Valid}
use Rattle.demands.proofs.Nested.{claims_of, NestedObeys}

-- ---- a list without its first d
without : ℕ → List ℕ → List ℕ
without d [] = []
without d (s ∷ ss) = cond (eqb d s) ss (s ∷ without d ss)

without_length : (d : ℕ) (ss : List ℕ) → mem d ss ≡ true → length ss ≡ suc (length (without d ss))
unfolding without
without_length d [] e = absurd (true≢false (sym e))
without_length d (s ∷ ss) e = go (eqb d s) e (without_length d ss)
  where
    go : (b : Bool) → (b || mem d ss) ≡ true → (mem d ss ≡ true → length ss ≡ suc (length (without d ss)))
        → length (s ∷ ss) ≡ suc (length (cond b ss (s ∷ without d ss)))
    go true h ih = refl
    go false h ih = omega (arith, ih h)

without_mem : (d e : ℕ) (ss : List ℕ) → mem e ss ≡ true → e ≢ d → mem e (without d ss) ≡ true
unfolding without
without_mem d e [] h n = absurd (true≢false (sym h))
without_mem d e (s ∷ ss) h n = go (eqb d s) refl (eqb e s) refl h (λ g. without_mem d e ss g n)
  where
    go : (b : Bool) → eqb d s ≡ b → (c : Bool) → eqb e s ≡ c → (c || mem e ss) ≡ true → (mem e ss ≡ true → mem e (without d ss) ≡ true)
        → mem e (cond b ss (s ∷ without d ss)) ≡ true
    go true p true q h ih = absurd (n (eqb-true e s q ∙ sym (eqb-true d s p)))
    go true p false q h ih = h
    go false p true q h ih = rw q
    go false p false q h ih = rw (q, ih h)

-- numbers that are all different, and all among ss, are no more than these
once_within : (ds ss : List ℕ) → Once ds → ((d : ℕ) → mem d ds ≡ true → mem d ss ≡ true) → length ds ≤ length ss
once_within [] ss o h = omega arith
once_within (d ∷ ds) ss o h =
    omega (arith, without_length d ss (h d (rw (eq-eqb d d refl))), once_within ds (without d ss) o.1 kept)
  where
    kept : (e : ℕ) → mem e ds ≡ true → mem e (without d ss) ≡ true
    kept e g = without_mem d e ss (h e (rw (g, or-true))) (λ q. not_both (mem d ds) (rw q at g) o.0)

-- ---- records that tile have 8 bytes or more each
tiles_many : (f : List ℕ) (ss : List ℕ) (o : ℕ) → Tiles f o ss → o + 8 * length ss ≤ end_of f
tiles_many f [] o t = omega (arith, t)
tiles_many f (s ∷ ss) o t = omega (arith, (fits f o t.1).wide, tiles_many f ss (o + size_at f o) t.2)

-- after the GDR: the records of the three lists and all that is below them
pub room : (f : List ℕ) (v : Valid f 0 0 (NestedObeys f) (claims_of f))
    → length (variable_offsets f v.layout.r_variables) + length (variable_offsets f v.layout.z_variables) + length (attribute_offsets v.layout.attributes) ≤ allowance f
unfolding allowance
room f v =
    let y = v.layout in
    let rs = variable_offsets f y.r_variables in
    let zs = variable_offsets f y.z_variables in
    let ads = attribute_offsets y.attributes in
    let us = y.unused in
    omega (
      arith,
      end_is f,
      once_within (claims_of f y) (8 ∷ v.starts) v.reached.once v.reached.landed,
      tiles_many f (8 ∷ v.starts) 8 v.tiles,
      length-append rs (zs ++ (ads ++ us)),
      length-append zs (ads ++ us),
      length-append ads us,
    )
