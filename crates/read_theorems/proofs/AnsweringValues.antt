-- Values, entries, pad values and levels of an accepted file. Assumes nothing.
use mathlib.Core.Path.{◌≡◌, refl, sym, ap, ◌∙◌, subst}
use mathlib.Core.Logic.{inl, inr}
use mathlib.Core.Bool.{Bool, true, false, cond}
use mathlib.Core.List.{List}
use Prim.Native.Nat.{ℕ, ◌+◌}
use native.Mathlib.Omega.{arith}
use lib.Dec.{eqb}
use lib.IntN.{ℤ, pos}
use lib.ListN.{length}
use Rattle.std.specs.Prelude.{Option, Some, None, Result, Ok, Err, IfOk, IfErr}
use Rattle.format.specs.Fields.{nat_at}
use Rattle.format.specs.Types.{type_of, size_in, kind_in}
use Rattle.format.specs.Encodings.{encoding_of, order_in, float_in}
use Rattle.format.specs.declared.types.DataType.{DataType}
use Rattle.format.specs.declared.encodings.Encoding.{Encoding}
use Rattle.format.proofs.Tests.{both}
use Rattle.vax.specs.Vax.{sign_at, exponent_at, reserved_at}
use Rattle.vax.specs.Rounding.{vax_of, vax_at}
use Rattle.values.specs.Values.{raw_at, answer_of, is_vax, vax_kind, vax_given, vax_answer, reserved_float, is_nothing, decoded_of}
use Rattle.values.specs.declared.value.Answer.{Answer}
use Rattle.values.specs.declared.value.Undecoded.{Undecoded}
use Rattle.values.specs.declared.value.Undecoded.TheVariants.{Nothing}
use Rattle.records.specs.Layout.{data_type_at, entry_value_at, entry_type_at, entry_elements_at}
use Rattle.records.specs.Opening.{body_of}
use Rattle.records.specs.Tree.{Slot, lowest_entries}
use Rattle.variables.specs.Vdr.{variable_of, shape_of}
use Rattle.lookup.specs.Lists.{met_at, opened, kind_among, variable_way}
use Rattle.lookup.specs.Indexes.{record_read, record_way, levels_way}
use Rattle.lookup.specs.declared.refusals.Refusal.{Refusal}
use Rattle.lookup.specs.declared.refusals.Refusal.TheVariants.{Breach, NoSuch, NoNumber, Gap, OutOfRange, Operand}
use Rattle.lookup.specs.declared.lists.Wanted.{Wanted}
use Rattle.lookup.proofs.Sought.{Finds, InOpened, ToVariable, variable_found, ToEntry, entry_found}
use Rattle.lookup.proofs.Chains.{ToRecord, record_found, ToLevels, levels_found}
use Rattle.answers.specs.Offsets.{value_at}
use Rattle.answers.specs.Answers.{file_encoding, element_read, in_record, in_values, in_variable, value_on, value_read, entry_on, entry_value, pad_in, pad_on, pad_read}
use Rattle.descriptors.specs.Descriptors.{levels_field, levels_on, variable_levels}
use Rattle.reader.specs.Questions.{ask_value, ask_entry, ask_pad, ask_levels, Reply, Value, Field, Name, Refused, of_read, of_field, answer_to}
use Rattle.demands.specs.Acceptance.{IndexRight}
use Rattle.demands.proofs.NestedDemand.{NestedAccepted}
use Rattle.demands.proofs.IndexFacts.{index_reads}
use Rattle.demands.proofs.Lowest.{Rises, lowest_rise}
use Rattle.read_theorems.specs.Reading.{question_right, last_entry, CoveredBy, Asked, ElementSaid, value_asked, entry_asked, pad_asked}
use Rattle.read_theorems.specs.Answering.{vax_told, element_told, element_in, value_in, Levelled, levelled_entries, levels_in, answer_in}
use Rattle.read_theorems.proofs.Down.{reached}
use Rattle.read_theorems.proofs.Shown.{ordered, Located, locate, bytes_are, found_fault, in_record_lem, in_entry, in_pad}
use Rattle.read_theorems.proofs.Indexes.{Lost, record_on, levels_on_lem}
use Rattle.read_theorems.proofs.AnsweringWays.{laid, Variable, variable_asked, entry_asked_lem}
use Rattle.read_theorems.proofs.AnsweringIndexes.{first_covers, none_covers, own_slots, levelled_slots, reached_in, levelled_in}

-- ---- what is said of an element, as an equation
operand_is : (f : List ℕ) (at : ℕ) (d : Option DataType) (c : Option Encoding) → reserved_float f at (kind_in d) (float_in c) ≡ true → element_told f at d c ≡ Refused Operand
unfolding reserved_float reserved_at vax_at vax_of
operand_is f at d c e =
    let k = vax_kind (kind_in d) (float_in c) in
    let a = both (is_vax (kind_in d) (float_in c)) (reserved_at k f at) e in
    let q = both (eqb (exponent_at k f at) 0) (sign_at k f at) a.1 in
    rw (a.0, q.0, q.1)

given_is : (f : List ℕ) (at t e : ℕ) (a : Answer) → decoded_of f at t e ≡ Ok a → element_told f at (type_of t) (encoding_of e) ≡ Value a
unfolding decoded_of
given_is f at t e a =
    go (is_nothing f at (size_in (type_of t)) (order_in (encoding_of e))) (is_vax (kind_in (type_of t)) (float_in (encoding_of e))) (vax_at (vax_kind (kind_in (type_of t)) (float_in (encoding_of e))) f at)
    (answer_of (kind_in (type_of t)) (size_in (type_of t)) (raw_at f at (size_in (type_of t)) (order_in (encoding_of e))) at)
  where
    same : (c : Answer) → ◌≡◌ {A = Result Answer Undecoded} (Ok c) (Ok a) → Value c ≡ Value a
    same c q = let e : c ≡ a = cc in ap Value e

    go : (b v : Bool) (r : Option ℕ) (c : Answer) → cond b (Err Nothing) (cond v (vax_answer r at) (Ok c)) ≡ Ok a → cond v (vax_told r at) (Value c) ≡ Value a
    go true v r c q = absurd (let z : ◌≡◌ {A = ℕ} 0 1 = cc in omega arith)
    go false true (Some r) c q = same (vax_given r at) q
    go false true None c q = absurd (let z : ◌≡◌ {A = ℕ} 0 1 = cc in omega arith)
    go false false r c q = same c q

said_is : (f : List ℕ) (q : Asked) (reply : Reply) → ElementSaid f q reply → reply ≡ element_in f q.right q.at q.type
said_is f q (Value a) h = rw (h.right, given_is f q.at (nat_at f q.type) (file_encoding f) a h.shown.decoded)
said_is f q (Refused OutOfRange) h = rw h
said_is f q (Refused Operand) h = rw (h.0, operand_is f q.at (type_of (nat_at f q.type)) (encoding_of (file_encoding f)) h.1)
said_is f q (Refused Breach) h = absurd h
said_is f q (Refused NoSuch) h = absurd h
said_is f q (Refused NoNumber) h = absurd h
said_is f q (Refused Gap) h = absurd h
said_is f q (Field x) h = absurd h
said_is f q (Name o n) h = absurd h

module _ (f : List ℕ) (n : NestedAccepted f) (starts : List ℕ) where
  abbrev b : List ℕ
  b = body_of f

  -- ---- entries
  pub entry_answer : (j k : ℤ) (w : Wanted) (x : ℤ) → answer_to f (ask_entry j k w x) ≡ answer_in f (laid f n starts) (ask_entry j k w x)
  unfolding entry_value
  entry_answer j k w x =
      entry_asked_lem f n starts j k w (λ s. of_read (entry_on b x s)) (λ t e. element_in b (entry_asked b e x).right (entry_asked b e x).at (entry_type_at e)) refl refl
      (λ e rest q.
      let t = subst (Finds (InOpened f (ToEntry j k w))) q (entry_found f j k w) in
      said_is b (entry_asked b e x) (of_read (element_read b (entry_value_at e) (entry_type_at e) (entry_elements_at e) x)) (in_entry b j k w x (ordered f t.0) e t.1))

  -- ---- of a variable
  module _ (k j : ℤ) where
    abbrev t : ℕ
    t = kind_among 3 8 k

    found_in : (v rest : ℕ) → variable_way f k j ≡ met_at v rest → (opened f ≡ true) × ToVariable k j b v
    found_in v rest e = subst (Finds (InOpened f (ToVariable k j))) e (variable_found f k j)

    pub pad_answer : (x : ℤ) → answer_to f (ask_pad k j x) ≡ answer_in f (laid f n starts) (ask_pad k j x)
    unfolding pad_read
    pad_answer x =
        variable_asked f n starts k j (λ s. of_read (pad_on b t x s)) (λ t d. element_in b (pad_asked b d.vdr x).right (pad_asked b d.vdr x).at (data_type_at d.vdr)) refl
        (λ v rest e a.
        let w = found_in v rest e in
        said_is b (pad_asked b v x) (of_read (pad_in b v (shape_of (variable_of b t v)) x)) (in_pad b k j x (ordered f w.0) v w.1))

    -- ---- a record of it
    module _ (r : ℤ) (v rest : ℕ) (way : variable_way f k j ≡ met_at v rest) (a : Variable f n starts k j v rest) where
      abbrev vxrs : List ℕ
      vxrs = a.found.here.vxrs

      index : IndexRight b t v vxrs
      index = index_reads b t v a.parts vxrs a.index

      rises : Rises b 0 (lowest_entries b vxrs)
      rises = lowest_rise b t v vxrs index

      value_found : (is : List ℤ) (x : ℤ) → of_read (in_variable b v rest (shape_of (variable_of b t v)) r is x) ≡ value_in b t (record { vdr = v; vxrs = vxrs }) r is x
      unfolding in_variable
      value_found is x =
          go (record_way b v (variable_of b t v).bytes r rest) (record_found b v r (variable_of b t v).bytes rest)
          (record_on b t v vxrs a.parts a.index a.stands r rest a.room)
        where
          of : Slot → Reply
          of s = element_in b (question_right b t v is x) (value_at b t v s (record_read b v r) is x) (data_type_at v)

          go : (s : Result ℕ Refusal) → IfOk s (ToRecord b v r (variable_of b t v).bytes) → IfErr s (Lost b v vxrs r)
              → of_read (in_values b v (shape_of (variable_of b t v)) is x s) ≡ value_in b t (record { vdr = v; vxrs = vxrs }) r is x
          go (Ok at) w h =
              let m = found_in v rest way in
              let loc = subst (λ (bytes : ℕ). Located b v bytes (record_read b v r) at) (bytes_are b t v (found_fault b k j v m.1)) (locate b v (variable_of b t v).bytes r at w) in
              let s = loc.reached.slot in
              let first =
              first_covers b (λ s. s) (record_read b v r) (Refused Gap) of (lowest_entries b vxrs) 0 s (rw (own_slots b (lowest_entries b vxrs)) rises)
              (reached_in b v vxrs index.linked (record_read b v r) loc.entry loc.depth loc.reached) loc.reached.covered in
              said_is b (value_asked b t v s (record_read b v r) is x) (of_read (in_record b v (shape_of (variable_of b t v)) at is x))
              (in_record_lem b k j r is x (ordered f m.0) v m.1 at w.way.there loc)
              ∙ sym (rw w.way.there first)
          go (Err m) w (inl h) = rw (h.0, h.1)
          go (Err m) w (inr h) =
              rw (h.0, h.1) (sym (none_covers b (λ s. s) (record_read b v r) (Refused Gap) of (lowest_entries b vxrs) (rw (own_slots b (lowest_entries b vxrs)) h.2)))

      levels_found_in : of_field (levels_field (levels_way b v r rest)) ≡ levels_in b (record { vdr = v; vxrs = vxrs }) r
      levels_found_in = go (levels_way b v r rest) (levels_found b v r rest) (levels_on_lem b t v vxrs a.parts a.index a.stands r rest a.room)
        where
          of : Levelled → Reply
          of l = Field (pos l.level)

          go : (s : Result ℕ Refusal) → IfOk s (ToLevels b v r) → IfErr s (Lost b v vxrs r) → of_field (levels_field s) ≡ levels_in b (record { vdr = v; vxrs = vxrs }) r
          go (Ok m) c h =
              let w = reached b v r c.entry c.way in
              let y = w.way in
              let many : m ≡ 1 + length y.below = omega (arith, c.is, w.deep) in
              let first =
              first_covers b (λ l. l.slot) (record_read b v r) (Refused Gap) of (levelled_entries b vxrs) 0 (record { slot = last_entry y.top y.below; level = 1 + length y.below })
              (rw (levelled_slots b vxrs) rises) (levelled_in b v vxrs index.linked (record_read b v r) y)
              (subst (CoveredBy b (record_read b v r)) (sym w.last) w.covered) in
              ap (λ (m : ℕ). Field (pos m)) many ∙ sym (rw c.way.there first)
          go (Err m) c (inl h) = rw (h.0, h.1)
          go (Err m) c (inr h) =
              rw (h.0, h.1) (sym (none_covers b (λ l. l.slot) (record_read b v r) (Refused Gap) of (levelled_entries b vxrs) (rw (levelled_slots b vxrs) h.2)))

    pub value_answer : (r : ℤ) (is : List ℤ) (x : ℤ) → answer_to f (ask_value k j r is x) ≡ answer_in f (laid f n starts) (ask_value k j r is x)
    unfolding value_read
    value_answer r is x =
        variable_asked f n starts k j (λ s. of_read (value_on b t r is x s)) (λ t d. value_in b t d r is x) refl (λ v rest e a. value_found r v rest e a is x)

    pub levels_answer : (r : ℤ) → answer_to f (ask_levels k j r) ≡ answer_in f (laid f n starts) (ask_levels k j r)
    unfolding variable_levels
    levels_answer r = variable_asked f n starts k j (λ s. of_field (levels_on b r s)) (λ t d. levels_in b d r) refl (λ v rest e a. levels_found_in r v rest e a)
