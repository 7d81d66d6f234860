-- What an element that is read tells. Assumes nothing.
use mathlib.Core.Path.{◌≡◌, refl, sym, ◌∙◌}
use mathlib.Core.Bool.{Bool, true, false, cond, ◌&&◌, true≢false}
use mathlib.Core.List.{List}
use Prim.Native.Nat.{ℕ, ◌+◌, ◌≤◌, ◌<◌}
use native.Mathlib.Omega.{arith}
use lib.Dec.{ltb}
use lib.IntN.{ℤ, pos, negsuc}
use lib.Signed.{le_z, lt_z}
use borrow.Author.Tests.{ltb-true}
use Rattle.format.specs.Fields.{end_of, field_at, nat_or, nat_at}
use Rattle.format.specs.Types.{type_of, size_in, kind_in}
use Rattle.format.specs.Encodings.{encoding_of, order_in, float_in}
use Rattle.records.specs.Attributes.{element_size}
use Rattle.values.specs.Values.{reserved_float}
use Rattle.values.specs.declared.value.Answer.{Answer}
use Rattle.values.specs.declared.value.Undecoded.{Undecoded}
use Rattle.values.specs.declared.value.Undecoded.TheVariants.{Reserved, Nothing}
use Rattle.values.proofs.Elements.{lies}
use Rattle.values.proofs.Agreeing.{Decodes, decodes}
use Rattle.format.proofs.Tests.{both}
use Rattle.lookup.specs.declared.refusals.Refusal.{Refusal}
use Rattle.lookup.specs.declared.refusals.Refusal.TheVariants.{OutOfRange, Operand}
use Rattle.answers.specs.Offsets.{element_at}
use Rattle.answers.specs.Answers.{answered, file_encoding, element_there, element_of, element_read}
use Rattle.std.specs.Prelude.{Result, Ok, Err, MatchResult}

below : (x y : ℤ) → (le_z (pos 0) x && lt_z x y) ≡ true → nat_or 0 x < nat_or 0 y
below (pos a) (pos b) e = ltb-true a b (both (le_z (pos 0) (pos a)) (ltb a b) e).1
below (pos a) (negsuc b) e = absurd (true≢false (sym (both (le_z (pos 0) (pos a)) false e).1))
below (negsuc a) y e = absurd (true≢false (sym e))

-- an element that is there is below their count
pub element_below : (f : List ℕ) (p : ℕ) (x : ℤ) → element_there f p x ≡ true → nat_or 0 x < nat_at f p
unfolding element_there nat_at
element_below f p x e = below x (field_at f p) e

-- ---- ELEMENT x of the values at an offset that all lie in the file: a value; 18 if it is not there; 22 if it is a reserved operand
module _ (f : List ℕ) (at t c : ℕ) (x : ℤ) (Fact : Answer → Type 0) (Meaning : Refusal → Type 0) where
  abbrev place : ℕ
  place = element_at f at t x

  abbrev kind : ℕ
  kind = kind_in (type_of (nat_at f t))

  abbrev float : ℕ
  float = float_in (encoding_of (file_encoding f))

  module _ (wrong : element_there f c x ≡ false → Meaning OutOfRange)
      (operand : element_there f c x ≡ true → reserved_float f place kind float ≡ true → Meaning Operand)
      (sized : 1 ≤ element_size f t) (ordered : 1 ≤ order_in (encoding_of (file_encoding f)))
      (within : element_there f c x ≡ true → place + element_size f t ≤ end_of f)
      (fact : (a : Answer) → element_there f c x ≡ true → element_of f place t ≡ Ok a → Fact a)
    where
      decoded_tells : element_there f c x ≡ true → (d : Result Answer Undecoded) → element_of f place t ≡ d → Decodes f place (nat_at f t) (file_encoding f) d
          → MatchResult (answered d) Fact Meaning
      unfolding element_size
      decoded_tells h (Ok a) e i = fact a h e
      decoded_tells h (Err Reserved) e i = operand h i
      decoded_tells h (Err Nothing) e i =
          absurd (true≢false (sym i ∙ lies f place (size_in (type_of (nat_at f t))) (order_in (encoding_of (file_encoding f))) refl (λ z. omega arith) (λ z. omega arith) (within h)))

      pub element_tells : MatchResult (element_read f at t c x) Fact Meaning
      unfolding element_read
      element_tells = go (element_there f c x) refl
        where
          go : (b : Bool) → element_there f c x ≡ b → MatchResult (cond b (answered (element_of f place t)) (Err OutOfRange)) Fact Meaning
          go true h = decoded_tells h (element_of f place t) refl (decodes f place (nat_at f t) (file_encoding f))
          go false h = wrong h
