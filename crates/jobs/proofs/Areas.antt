-- Laws of a part of an area, and of another list put in its place. Assumes nothing.
use mathlib.Core.Path.{◌≡◌, sym, ◌∙◌, ap}
use mathlib.Core.Logic.{◌⊎◌, inl, inr}
use mathlib.Core.Bool.{false}
use mathlib.Core.List.{List, [], ◌∷◌, ◌++◌}
use Prim.Native.Nat.{ℕ, ◌+◌, ◌≤◌, ◌<◌}
use native.Mathlib.Nat.{add-zero}
use native.Mathlib.Omega.{arith}
use lib.ListN.{length, get_or, take, drop, take-append-drop, length-drop, length-append, get_or-append}
use lib.Seq.{length-take-le, take-append-le, drop-append-le, drop_at, take_at, get_or-take, get_or-drop}
use Rattle.std.proofs.lemmas.Bool.Decides.{nat_tests}
use Rattle.std.proofs.lemmas.Slice.{drop-put_mid}
use Rattle.jobs.specs.declared.parts.Part.{Part}
use Rattle.jobs.specs.Parts.{part_of, with_part, overlap}

-- ---- parts that do not overlap: one is empty, or one lies before the other
abbrev Apart : Part → Part → Type 0
Apart p r = ((p.len ≡ 0) ⊎ (r.len ≡ 0)) ⊎ ((p.from + p.len ≤ r.from) ⊎ (r.from + r.len ≤ p.from))

apart : (p r : Part) → overlap p r ≡ false → Apart p r
unfolding overlap
apart p r h = grind (arith, nat_tests)

-- ---- what stands in a part
pub part_length : (p : Part) (m : List ℕ) → p.from + p.len ≤ length m → length (part_of p m) ≡ p.len
part_length p m h = length-take-le p.len (drop p.from m) (rw length-drop (omega arith))

-- what lies before a stays, whatever follows
front : (m z : List ℕ) (a b k : ℕ) → a ≤ length m → b + k ≤ a → take k (drop b (take a m ++ z)) ≡ take k (drop b (take a m))
front m z a b k ha h =
    let la = length-take-le a m ha in
    let hb : b ≤ length (take a m) = rw la (omega arith) in
    let hk : k ≤ length (drop b (take a m)) = rw (length-drop b (take a m), la) (omega arith) in
    rw (drop-append-le b (take a m) z hb, take-append-le k (drop b (take a m)) z hk)

module _ (p : Part) (m ys : List ℕ) (h : p.from + p.len ≤ length m) (l : length ys ≡ p.len) where
  abbrev a : ℕ
  a = p.from

  abbrev n : ℕ
  n = p.len

  a_le : a ≤ length m
  a_le = omega arith

  -- what lies behind the part stays
  back : (b : ℕ) → a + n ≤ b → drop b (with_part p m ys) ≡ drop b m
  back b g = drop-put_mid a n m ys b g a_le l

  pub with_part_length : length (with_part p m ys) ≡ length m
  with_part_length =
      let la = length-take-le a m a_le in
      simp (length-append, length-drop, la, l) (omega arith)

  -- in the part stands what was put there
  pub part_same : part_of p (with_part p m ys) ≡ ys
  part_same = rw (drop_at (take a m) (ys ++ drop n (drop a m)) a (length-take-le a m a_le)) (take_at ys (drop n (drop a m)) n l)

  -- a part that does not overlap it is as it was
  other_by : (r : Part) → Apart p r → part_of r (with_part p m ys) ≡ part_of r m
  other_by r (inl (inl e)) = ap (part_of r) (nothing ys (l ∙ e))
    where
      nothing : (zs : List ℕ) → length zs ≡ 0 → with_part p m zs ≡ m
      nothing [] g = rw e (take-append-drop a m)
      nothing (z ∷ zs) g = absurd (omega arith)
  other_by r (inl (inr e)) = rw e
  other_by r (inr (inl g)) = ap (take r.len) (back r.from g)
  other_by r (inr (inr g)) =
      front m (ys ++ drop n (drop a m)) a r.from r.len a_le g
      ∙ sym (front m (drop a m) a r.from r.len a_le g) ∙ ap (part_of r) (take-append-drop a m)

  pub part_other : (r : Part) → overlap p r ≡ false → part_of r (with_part p m ys) ≡ part_of r m
  part_other r e = other_by r (apart p r e)

  -- what lies outside the part is as it was
  pub with_part_else : (x : ℕ) → (x < p.from) ⊎ (p.from + p.len ≤ x) → get_or (with_part p m ys) x 0 ≡ get_or m x 0
  with_part_else x (inl g) =
      let px : x < length (take a m) = rw (length-take-le a m a_le) g in
      get_or-append (take a m) (ys ++ drop n (drop a m)) 0 x px ∙ get_or-take a m x 0 g
  with_part_else x (inr g) =
      simp add-zero at (sym (get_or-drop x (with_part p m ys) 0 0) ∙ ap (λ (z : List ℕ). get_or z 0 0) (back x g) ∙ get_or-drop x m 0 0)
