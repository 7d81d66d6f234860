-- A double that is the value itself is the nearest, so it is given wherever there is one. Assumes nothing.
use Prim.Native.Nat.{ℕ, zero, suc, ◌+◌, ◌*◌, ◌^◌, ◌≤◌, ◌<◌}
use mathlib.Core.Path.{◌≡◌, refl, sym, ap, ◌∙◌, subst}
use mathlib.Core.Bool.{Bool, true, false, true≢false}
use mathlib.Core.List.{List}
use native.Mathlib.Nat.{le_trans, le_of_eq, mul-pos}
use native.Mathlib.Omega.{arith}
use lib.Pow.{pow_pos}
use Rattle.std.specs.Prelude.{Option, Some, None}
use Rattle.vax.specs.Doubles.{sign_of, units_of, between, distance, Nearest, Equal}
use Rattle.vax.specs.Layouts.{Kind}
use Rattle.vax.specs.Vax.{num_of, den_of, Holds, sign_at, exponent_at, mantissa_at, NearestAt, ExactIf}
use Rattle.vax.proofs.Answers.{zero_equal}

-- ---- the distance is 0 at the value itself, and nowhere else
at_itself : (s : Bool) (a : ℕ) → between s a s a ≡ 0
at_itself true a = omega arith
at_itself false a = omega arith

itself : (s t : Bool) (a b : ℕ) → 0 < a → between s a t b ≤ 0 → (t ≡ s) × (b ≡ a)
itself true true a b h l = (refl, omega arith)
itself false false a b h l = (refl, omega arith)
itself true false a b h l = absurd (omega arith)
itself false true a b h l = absurd (omega arith)

equal_if : (s : Bool) (num den r n : ℕ) → 0 < num → Nearest s num den r → Equal s num den n → Equal s num den r
unfolding distance
equal_if s num den r n some near e =
    let none : distance s num den n ≡ 0 =
    ap (λ (t : Bool). between s (num * 2 ^ 1074) t (units_of n * den)) e.sign ∙ ap (λ (z : ℕ). between s (num * 2 ^ 1074) s z) e.size ∙ at_itself s (num * 2 ^ 1074) in
    let i = itself s (sign_of r) (num * 2 ^ 1074) (units_of r * den) (mul-pos some (pow_pos 1074)) (le_trans (near.closest n e.finite) (le_of_eq none)) in
    record { finite = near.finite; sign = i.0; size = i.1 }

exact_if : (w b e m : ℕ) (s : Bool) (v : Option ℕ) → Holds Nearest w b s e m v → (n : ℕ) → Equal s (num_of w e m) (den_of w b) n → Holds Equal w b s e m v
exact_if w b e m s None h n q = h
exact_if w b zero m true (Some r) h n q = absurd (true≢false h.0)
exact_if w b zero m false (Some r) h n q = (h.0, h.1, subst (Equal false 0 (den_of w b)) (sym (h.1 refl)) (zero_equal (den_of w b)))
exact_if w b (suc e) m s (Some r) h n q =
    (h.0, h.1, equal_if s ((2 ^ w + m) * 2 ^ suc e) (den_of w b) r n (mul-pos (more (2 ^ w) (pow_pos w)) (pow_pos (suc e))) h.2 q)
  where
    more : (x : ℕ) → 0 < x → 0 < x + m
    more x l = omega arith

-- THE THEOREM, of the bytes at an offset
pub exact_where : (k : Kind) (f : List ℕ) (at : ℕ) (v : Option ℕ) → NearestAt k f at v → ExactIf k f at v
exact_where k f at v = exact_if k.width k.offset (exponent_at k f at) (mantissa_at k f at) (sign_at k f at) v
