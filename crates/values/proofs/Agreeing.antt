-- What an element is, by what it was decoded to: its bits agree with it, a VAX float is the nearest double, 22 is for reserved operands. Assumes nothing.
use mathlib.Core.Path.{◌≡◌, refl, sym, ◌∙◌, subst}
use mathlib.Core.Bool.{Bool, true, false, not, cond, ◌||◌, true≢false}
use mathlib.Core.List.{List}
use Prim.Native.Nat.{ℕ, zero, suc, ◌+◌, ◌*◌, ◌^◌, ◌<◌}
use native.Mathlib.Omega.{arith}
use lib.Dec.{T, ltb, eqb, eqb→eq}
use lib.Ieee.{Format, binary32, binary64, of_bits, top}
use lib.Ieee.Bits.{to_bits-of_bits}
use Rattle.std.specs.Prelude.{Option, Some, None, Result, Ok, Err}
use Rattle.format.specs.Bytes.{OfBytes, big_at, little_at}
use Rattle.format.specs.Fields.{end_of}
use Rattle.format.specs.Types.{signed, unsigned, single, double, type_of, size_in, kind_in}
use Rattle.format.specs.Encodings.{big, vax_d, encoding_of, order_in, float_in}
use Rattle.format.proofs.Widths.{big_lt, little_lt}
use Rattle.vax.specs.Layouts.{Kind, ffloat, dfloat, gfloat}
use Rattle.vax.specs.Vax.{reserved_at, NearestAt, ExactAt}
use Rattle.vax.specs.Rounding.{vax_at}
use Rattle.vax.proofs.Floats.{numbers_right}
use Rattle.vax.proofs.ThreeKinds.{bytes_right}
use Rattle.values.specs.Agreement.{FloatBits, Agrees, VaxGiven}
use Rattle.values.specs.Bounds.{Element}
use Rattle.values.specs.Values.{raw_at, value_of, bits_of, answer_of, is_vax, vax_kind, reserved_float, vax_answer, is_nothing, decoded_of}
use Rattle.values.specs.declared.value.Answer.{Answer}
use Rattle.values.specs.declared.value.Undecoded.{Undecoded}
use Rattle.values.specs.declared.value.Undecoded.TheVariants.{Reserved, Nothing}
use Rattle.values.proofs.Rows.{within, element}

-- ---- floats and their bits
float_bits : (r : Format) (n : ℕ) → n < 2 * top r → FloatBits r (of_bits r n) n
float_bits r n h = record { denote = refl; own = λ e. to_bits-of_bits r n h (subst (λ (b : Bool). T (not b)) (sym e) tt) }

raw_lt : (f : List ℕ) (at n order : ℕ) → OfBytes f → raw_at f at n order < 256 ^ n
unfolding raw_at
raw_lt f at n order h = go (eqb order big)
  where
    go : (b : Bool) → cond b (big_at f at n) (little_at f at n) < 256 ^ n
    go true = big_lt f at n h
    go false = little_lt f at n h

number_agrees : (kind size n : ℕ) → Element kind size n → Agrees (value_of kind size n) (bits_of kind size n)
unfolding value_of bits_of
number_agrees kind size n h = go (eqb kind signed) refl (eqb kind unsigned) refl (eqb kind single) refl (eqb kind double) refl
  where
    go : (a : Bool) → eqb kind signed ≡ a → (b : Bool) → eqb kind unsigned ≡ b → (c : Bool) → eqb kind single ≡ c → (d : Bool) → eqb kind double ≡ d
        → Agrees (value_of kind size n) (bits_of kind size n)
    go true p b q c r d t = rw p refl
    go false p true q c r d t = rw (p, q) refl
    go false p false q true r d t =
        let k = eqb→eq kind single (subst T (sym r) tt) in
        rw (p, q, r) (float_bits binary32 n (omega (arith, within 4 (rw k at h.most) h.below)))
    go false p false q false r true t =
        let k = eqb→eq kind double (subst T (sym t) tt) in
        rw (p, q, r, t) (float_bits binary64 n (omega (arith, within 8 (rw k at h.most) h.below)))
    go false p false q false r false t = rw (p, q, r, t) refl

-- ---- the VAX float of whatever kind
module _ (f : List ℕ) (at kind float : ℕ) where
  abbrev vax_there : Kind
  vax_there = vax_kind kind float

  nearest : NearestAt vax_there f at (vax_at vax_there f at)
  nearest = go (eqb kind single) (eqb float vax_d)
    where
      go : (a b : Bool) → NearestAt (cond a ffloat (cond b dfloat gfloat)) f at (vax_at (cond a ffloat (cond b dfloat gfloat)) f at)
      go true b = (bytes_right f at).ffloat_nearest
      go false true = (bytes_right f at).dfloat_nearest
      go false false = (bytes_right f at).gfloat_nearest

  exact : eqb kind single ≡ true → ExactAt ffloat f at (vax_at vax_there f at)
  exact e = rw e (bytes_right f at).ffloat_exact

-- THE THEOREM: what an element is, by what it was decoded to
module _ (f : List ℕ) (at t e : ℕ) where
  abbrev kind : ℕ
  kind = kind_in (type_of t)

  abbrev float : ℕ
  float = float_in (encoding_of e)

  abbrev size : ℕ
  size = size_in (type_of t)

  pub record GivenRight (a : Answer) : Type 0 where
    pub offset : a.offset ≡ at
    pub plain : reserved_float f at kind float ≡ false
    pub bits : OfBytes f → Agrees a.value a.bits
    pub vax : is_vax kind float ≡ true → VaxGiven f at kind float a
    pub stored : is_vax kind float ≡ false → eqb kind signed ≡ false → a.bits ≡ raw_at f at size (order_in (encoding_of e))

  abbrev pub Decodes : Result Answer Undecoded → Type 0
  Decodes (Ok a) = GivenRight a
  Decodes (Err Reserved) = reserved_float f at kind float ≡ true
  Decodes (Err Nothing) = is_nothing f at size (order_in (encoding_of e)) ≡ true

  vax_decodes : is_vax kind float ≡ true → (v : Option ℕ) → vax_at (vax_kind kind float) f at ≡ v → Decodes (vax_answer v at)
  unfolding reserved_float reserved_at
  vax_decodes i (Some r) q =
      let n = subst (NearestAt (vax_kind kind float) f at) q (nearest f at kind float) in
      record {
        offset = refl;
        plain = rw i n.0;
        bits = λ h. float_bits binary64 r (omega (arith, n.2.finite.width));
        vax = λ i. record {
          double = refl;
          number = numbers_right r n.2.finite;
          nearest = n;
          exact = λ s. subst (ExactAt ffloat f at) q (exact f at kind float s);
          exact_if = (bytes_right f at).exact_if (vax_kind kind float) (Some r) n;
        };
        stored = λ j. absurd (true≢false (sym i ∙ j));
      }
  vax_decodes i None q = rw i (subst (NearestAt (vax_kind kind float) f at) q (nearest f at kind float))

  -- an element that is there has a size
  sized : is_nothing f at size (order_in (encoding_of e)) ≡ false → 0 < size
  unfolding is_nothing
  sized h = go size h
    where
      go : (n : ℕ) → (eqb n 0 || (eqb (order_in (encoding_of e)) 0 || ltb (end_of f) (at + n))) ≡ false → 0 < n
      go zero q = absurd (true≢false q)
      go (suc n) q = omega arith

  plain_decodes : is_nothing f at size (order_in (encoding_of e)) ≡ false → is_vax kind float ≡ false
      → GivenRight (answer_of kind size (raw_at f at size (order_in (encoding_of e))) at)
  unfolding reserved_float bits_of
  plain_decodes h i = record {
    offset = refl;
    plain = rw i;
    bits = λ b. number_agrees kind size _ (element t _ (sized h) (raw_lt f at size (order_in (encoding_of e)) b));
    vax = λ j. absurd (true≢false (sym j ∙ i));
    stored = λ j k. rw k;
  }

  pub decodes : Decodes (decoded_of f at t e)
  unfolding decoded_of
  decodes = go (is_nothing f at size (order_in (encoding_of e))) refl (is_vax kind float) refl
    where
      go : (b : Bool) → is_nothing f at size (order_in (encoding_of e)) ≡ b → (c : Bool) → is_vax kind float ≡ c
          → Decodes (cond b (Err Nothing) (cond c (vax_answer (vax_at (vax_kind kind float) f at) at) (Ok (answer_of kind size (raw_at f at size (order_in (encoding_of e))) at))))
      go true h c i = h
      go false h true i = vax_decodes i (vax_at (vax_kind kind float) f at) refl
      go false h false i = plain_decodes h i
