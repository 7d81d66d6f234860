-- Names up to the NUL. Assumes nothing.
use Rattle.std.proofs.Common.{◌≡◌, ◌≢◌, ℕ, zero, suc, ◌+◌, ◌-◌, ◌≤◌, ◌<◌, min, Bool, true, false, not, cond, List, length, get_or, take, drop, Some, None, inl, inr, refl, ltb, leb, eqb, arith}
use Rattle.std.specs.List.{position_or_len, slice_range}
use Rattle.std.specs.Option.{unwrap_or}
use Rattle.std.proofs.Math.ListN.{get_or-eq_default}
use Rattle.std.proofs.Math.Seq.{drop-cons}
use Rattle.std.proofs.lemmas.List.{drop_all}
use Rattle.std.proofs.lemmas.Grind.{common_steps}
use Rattle.std.proofs.lemmas.List.Sums.{prefix_len-le-length, fails_before_first, passes_at_first}
use mathlib.Core.Logic.{◌⊎◌}
use borrow.Author.Tests.{ltb-true, ltb-false, leb-true, leb-false, eqb-true, eqb-false}
use Rattle.descriptors.specs.Descriptors.{until_nul}

abbrev is_nul : ℕ → Bool
is_nul b = eqb b 0

-- the bytes before the first NUL, as the place of the first NUL among the n from p on
until_is : (f : List ℕ) (p n : ℕ) → until_nul f p n ≡ position_or_len is_nul (take n (drop p f))
unfolding until_nul
until_is f p zero = refl
until_is f p (suc n) = go (ltb p (length f)) refl (until_is f (suc p) n)
  where
    turned : (b : Bool) (k : ℕ) → cond b 0 (suc k) ≡ cond (not b) (1 + k) 0
    turned true k = refl
    turned false k = omega arith

    go : (b : Bool) → ltb p (length f) ≡ b → until_nul f (suc p) n ≡ position_or_len is_nul (take n (drop (suc p) f))
        → cond (is_nul (get_or f p 0)) 0 (suc (until_nul f (suc p) n)) ≡ position_or_len is_nul (take (suc n) (drop p f))
    go true h e = rw (drop-cons f p 0 (ltb-true p (length f) h), e) (turned (is_nul (get_or f p 0)) (position_or_len is_nul (take n (drop (suc p) f))))
    go false h e = rw (drop_all p f (ltb-false p (length f) h), get_or-eq_default f 0 (ltb-false p (length f) h))

-- ---- what the bytes before the first NUL are, of the m from p on
module _ (f : List ℕ) (p m : ℕ) where
  abbrev part : List ℕ
  part = take m (drop p f)

  abbrev many : ℕ
  many = position_or_len is_nul part

  part_length : length part ≡ min m (length f - p)
  part_length = grind (arith, common_steps)

  byte : (i : ℕ) → i < m → get_or part i 0 ≡ get_or f (p + i) 0
  byte i h = grind (arith, common_steps)

  few : many ≤ length part
  few = prefix_len-le-length (λ b. not (is_nul b)) part

  pub name_most : until_nul f p m ≤ m
  name_most = omega (arith, until_is f p m, few, part_length)

  pub name_bytes : (i : ℕ) → i < until_nul f p m → get_or f (p + i) 0 ≢ 0
  name_bytes i h =
      let g : i < many = omega (arith, until_is f p m, h) in
      eqb-false (get_or f (p + i) 0) 0 (rw (byte i (omega (arith, g, few, part_length))) at (fails_before_first is_nul part i 0 g))

  -- behind them stands a NUL, unless they are m: in the bytes, or past their end
  pub name_ends : (until_nul f p m ≡ m) ⊎ (get_or f (p + until_nul f p m) 0 ≡ 0)
  name_ends = rw (until_is f p m) (go (ltb many (length part)) refl)
    where
      past : (b : Bool) → leb (p + m) (length f) ≡ b → length part ≤ many → (many ≡ m) ⊎ (get_or f (p + many) 0 ≡ 0)
      past true r q = inl (omega (arith, leb-true (p + m) (length f) r, q, part_length, few))
      past false r q = inr (get_or-eq_default f 0 (omega (arith, leb-false (p + m) (length f) r, q, part_length, few)))

      go : (b : Bool) → ltb many (length part) ≡ b → (many ≡ m) ⊎ (get_or f (p + many) 0 ≡ 0)
      go true q =
          let h : many < length part = ltb-true many (length part) q in
          inr (eqb-true (get_or f (p + many) 0) 0 (rw (byte many (omega (arith, h, part_length))) at (passes_at_first is_nul part 0 h)))
      go false q = past (leb (p + m) (length f)) refl (ltb-false many (length part) q)

-- ---- the place of the first of n that passes, or n
first_or : (p : ℕ → Bool) (xs : List ℕ) (n : ℕ) → length xs ≡ n
    → unwrap_or (cond (ltb (position_or_len p xs) (length xs)) (Some (position_or_len p xs)) None) n ≡ position_or_len p xs
first_or p xs n e = go (ltb (position_or_len p xs) (length xs)) refl
  where
    go : (b : Bool) → ltb (position_or_len p xs) (length xs) ≡ b → unwrap_or (cond b (Some (position_or_len p xs)) None) n ≡ position_or_len p xs
    go true q = refl
    go false q = omega (arith, ltb-false (position_or_len p xs) (length xs) q, prefix_len-le-length (λ x. not (p x)) xs)

pub first_nul : (f : List ℕ) (p n : ℕ) → p + n ≤ length f
    → unwrap_or
    (cond (ltb (position_or_len is_nul (slice_range f p (p + n))) (length (slice_range f p (p + n)))) (Some (position_or_len is_nul (slice_range f p (p + n)))) None)
    n
    ≡ until_nul f p n
first_nul f p n h =
    let e : p + n - p ≡ n = omega arith in
    rw (e, until_is f p n) (first_or is_nul (take n (drop p f)) n (grind (arith, common_steps)))
