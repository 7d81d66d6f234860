-- Marks that are cleared: none, one more, two parts that adjoin, stores one after the other, a part that was filled. Assumes nothing.
use mathlib.Core.Path.{◌≡◌, refl, sym, ap, ◌∙◌}
use mathlib.Core.List.{List, ◌++◌, append_assoc}
use Prim.Native.Nat.{ℕ, zero, suc, ◌+◌, ◌-◌, ◌≤◌, ◌<◌}
use native.Mathlib.Omega.{arith}
use lib.ListN.{length, take, drop, set, replicate, length-append, length-take, length-drop, length-replicate, length-set, take-append-drop, replicate-append-replicate}
use lib.Seq.{length-take-le, take_at, drop-append-add, drop-drop, set_split}
use borrow.Rule.Slice.PartMut.{put_mid}
use Rattle.marks.specs.Marks.{cleared}

pub cleared_length : (m : List ℕ) (at n : ℕ) → at + n ≤ length m → length (cleared m at n) ≡ length m
unfolding cleared
cleared_length m at n h = simp (length-append, length-take, length-replicate, length-drop) (omega arith)

-- none
pub cleared_none : (m : List ℕ) (at : ℕ) → cleared m at 0 ≡ m
unfolding cleared
cleared_none m at =
    let start : at + 0 ≡ at = omega arith in
    rw start (take-append-drop at m)

-- two parts that adjoin, the second from p on, are one of n marks
pub cleared_on : (m : List ℕ) (at a p b n : ℕ) → at + a ≡ p → a + b ≡ n → at + n ≤ length m → cleared (cleared m at a) p b ≡ cleared m at n
unfolding cleared
cleared_on m at a p b n adjoin sum h =
    let zeros : List ℕ = replicate a 0 in
    let more : List ℕ = replicate b 0 in
    let head : List ℕ = take at m ++ zeros in
    let tail : List ℕ = drop (at + a) m in
    let front : length (take at m) ≡ at = length-take-le at m (omega arith) in
    let long : length head ≡ p = length-append (take at m) zeros ∙ rw (front, length-replicate {A = ℕ} a 0) adjoin in
    let whole : take at m ++ (zeros ++ tail) ≡ head ++ tail = sym (append_assoc (take at m) zeros tail) in
    let start : p + b ≡ length head + b = omega arith in
    let end : at + a + b ≡ at + n = omega arith in
    let after : drop (p + b) (head ++ tail) ≡ drop (at + n) m =
    ap (λ (k : ℕ). drop k (head ++ tail)) start ∙ drop-append-add head tail b ∙ drop-drop b (at + a) m ∙ ap (λ (k : ℕ). drop k m) end in
    let zeros_on : zeros ++ more ≡ replicate n 0 = replicate-append-replicate {A = ℕ} a b 0 ∙ rw sum in
    rw (whole, take_at head tail p long, after) (append_assoc (take at m) zeros (more ++ drop (at + n) m) ∙ rw (← append_assoc zeros more (drop (at + n) m), zeros_on))

-- a store is a part of one mark
cleared_one : (m : List ℕ) (i : ℕ) → i < length m → set m i 0 ≡ cleared m i 1
unfolding cleared
cleared_one m i h =
    let up : suc i ≡ i + 1 = omega arith in
    set_split m i 0 h ∙ rw up

-- one store more
pub cleared_more : (m : List ℕ) (at n : ℕ) → at + n < length m → set (cleared m at n) (at + n) 0 ≡ cleared m at (n + 1)
cleared_more m at n h = cleared_one (cleared m at n) (at + n) (omega (arith, cleared_length m at n (omega arith))) ∙ cleared_on m at n (at + n) 1 (n + 1) refl refl (omega arith)

-- stores of zero, one after the other: the first, and k more
abbrev stores : List ℕ → ℕ → ℕ → List ℕ
stores m at zero = set m at 0
stores m at (suc k) = set (stores m at k) (at + suc k) 0

pub stores_length : (m : List ℕ) (at k : ℕ) → length (stores m at k) ≡ length m
stores_length m at zero = length-set m at 0
stores_length m at (suc k) = length-set (stores m at k) (at + suc k) 0 ∙ stores_length m at k

pub stored : (m : List ℕ) (at k : ℕ) → at + suc k ≤ length m → stores m at k ≡ cleared m at (suc k)
stored m at zero h = cleared_one m at (omega arith)
stored m at (suc k) h =
    let up : suc k + 1 ≡ suc (suc k) = omega arith in
    rw (stored m at k (omega arith)) (cleared_more m at (suc k) (omega arith) ∙ rw up)

-- a part that was filled with zeros
pub filled : (m : List ℕ) (at n : ℕ) (part : List ℕ) → at + n ≤ length m → part ≡ replicate (length (take (at + n - at) (drop at m))) 0
    → put_mid at (at + n - at) m part ≡ cleared m at n
unfolding cleared
filled m at n part h e =
    let k : at + n - at ≡ n = omega arith in
    let long : length (take n (drop at m)) ≡ n = length-take-le n (drop at m) (omega (arith, length-drop at m)) in
    rw (e, k, long) (ap (λ (rest : List ℕ). take at m ++ (replicate n 0 ++ rest)) (drop-drop n at m))
