-- WHY A QUESTION IS REFUSED, of every file. Assumes nothing.
use mathlib.Core.Path.{◌≡◌, refl, sym, ap, ◌∙◌, subst}
use mathlib.Core.Logic.{inl, inr}
use mathlib.Core.Bool.{Bool, true, false, cond, ◌&&◌, true≢false}
use mathlib.Core.List.{List, []}
use Prim.Native.Nat.{ℕ, zero, suc, ◌+◌, ◌-◌, ◌*◌, ◌<◌}
use native.Mathlib.Omega.{arith}
use lib.Dec.{leb, eqb}
use lib.IntN.{ℤ, pos}
use lib.ListN.{length}
use borrow.Author.Tests.{leb-false, eq-eqb}
use Rattle.format.specs.Fields.{field_at, eq_z, nat_or}
use Rattle.records.specs.Layout.{head_of_index, entry_elements_at, entry_type_at, entry_value_at}
use Rattle.records.specs.Rules.{size_at}
use Rattle.records.specs.Opening.{body_of}
use Rattle.records.specs.Index.{vvr_rule}
use Rattle.records.specs.Tree.{Slot, first_of, last_of, named_by, levels_below, names_index}
use Rattle.records.specs.declared.index.Range.{Range}
use Rattle.records.proofs.Fielded.{vvr_law}
use Rattle.variables.specs.Vdr.{layout_of, record_bytes, variable_of, shape_of}
use Rattle.variables.specs.Place.{index_right}
use Rattle.variables.specs.Vdr.{Variable}
use Rattle.lookup.specs.Lists.{met_at, Way, opened, allowance, lands_on, wanted_at, over_of, sought, kind_among, of_kinds, head_of_entries, entries_of}
use Rattle.lookup.specs.Indexes.{Index, record_there, record_read, record_number, indexed, lowered, lowest_of, record_at, values_met, values_of, values_by, record_way, levels_told, levels_of, levels_by, levels_way}
use Rattle.lookup.specs.Entries.{slot_entry}
use Rattle.lookup.specs.Limit.{place_within, place_met, variable_met, entries_met, entry_met, record_met, values_behind, none_behind, record_way_met, levels_way_met}
use Rattle.lookup.specs.declared.refusals.Refusal.{Refusal}
use Rattle.lookup.specs.declared.refusals.Refusal.TheVariants.{Breach, NoSuch, NoNumber, Gap, OutOfRange, Operand}
use Rattle.lookup.specs.declared.lists.Wanted.{Wanted}
use Rattle.lookup.proofs.Kept.{lies_lands}
use Rattle.lookup.proofs.Sought.{First, Finds, Listed, place_listed, ToVariable, ToEntry, sought_first}
use Rattle.lookup.proofs.Stops.{variables_over, entries_over}
use Rattle.lookup.proofs.Chains.{ToRecord, record_found}
use Rattle.answers.specs.Offsets.{row_majority}
use Rattle.answers.specs.Answers.{element_read, in_record, in_values, in_variable, pad_in}
use Rattle.descriptors.specs.Descriptors.{is_shown, row_field, gdr_size, padding, file_field_at, majority, file_field, dimension_size, levels_field}
use Rattle.reader.specs.Questions.{Question, ask_value, ask_entry, ask_pad, ask_file, ask_dimension, ask_variable, ask_attribute, ask_entry_field, ask_size, ask_variance, ask_levels, ask_variable_name, ask_attribute_name, Reply, Value, Field, Name, Refused, of_read, of_field, answer_to}
use Rattle.demands.specs.Acceptance.{Each}
use Rattle.read_theorems.specs.Reading.{Asked, ElementSaid, VariableFound, UnlessStopped, Says}
use Rattle.read_theorems.specs.Refusing.{AVariable, AnAttribute, AnEntry, ARecord, about}
use Rattle.read_theorems.specs.Limit.{answer_on, none_met, met_behind}
use Rattle.read_theorems.specs.Causes.{ListOver, ListBroken, NotListed, NumberBroken, DownTo, ValuesMet, ValuesBroken, SubjectMissing, NumberMissing, InIndexGap, SubjectBroken, IndexBroken, RecordBroken, Cause, RefusedForCause}
use Rattle.read_theorems.proofs.Shown.{ordered, found_variable, found_attribute, Located, locate, bytes_are, found_fault, in_record_lem, in_entry, in_pad, answers_say}
use Rattle.read_theorems.proofs.Limit.{answer_within_lem, answer_stopped, two_more}
use Rattle.read_theorems.proofs.WhatIsMet.{lands_lies}
use Rattle.read_theorems.proofs.RefusingWays.{way}
use Rattle.read_theorems.proofs.CauseLists.{WayEnds, StopsFor, list_ends, place_ends}
use Rattle.read_theorems.proofs.CauseIndexes.{IndexEnds, index_records, lowest_ends}
use Rattle.std.specs.Prelude.{Option, Some, None, Result, Ok, Err, IfOk, IfErr}

-- ---- a way down, with another end
down_so : (f : List ℕ) (r : ℕ) (E D : ℕ → Slot → Type 0) → ((m : ℕ) (u : Slot) → E m u → D m u) → (n : ℕ) (s : Slot) → DownTo f r E n s → DownTo f r D n s
down_so f r E D h zero s d = h zero s d
down_so f r E D h (suc n) s (inl d) = inl (h (suc n) s d)
down_so f r E D h (suc n) s (inr (a, m, t, c, d)) = inr (a, m, t, c, down_so f r E D h n t d)

-- a record number that is looked up
looked_up : (f : List ℕ) (v : ℕ) (r : ℤ) → record_there f v r ≡ true → record_number f v r ≡ Some (record_read f v r)
unfolding record_number
looked_up f v r e = rw e

-- a VVR that is not met
module _ (f : List ℕ) (t v bytes : ℕ) (size : bytes ≡ record_bytes f v (layout_of f t v)) where
  abbrev values_kept_lem : Range → Bool
  values_kept_lem d = lands_on f 7 d.link && eqb (vvr_rule f d.link (d.last - d.first + 1) bytes) 0

  values_kept : (s : Slot) → ValuesMet f t v s → values_kept_lem (slot_entry f s) ≡ true
  values_kept s h =
      let o = named_by f s in
      let n = last_of f s - first_of f s + 1 in
      let is : size_at f o ≡ 8 + n * bytes = h.size ∙ ap (λ (m : ℕ). 8 + n * m) (sym size) in
      let lies = lands_lies f 7 o h.lands (omega (arith, is)) in
      let rule = (vvr_law f o n bytes).1 (record { reach = record { begins = omega (arith, lies.begins); holds = omega (arith, is); lies = lies.begins }; right = eq-eqb (size_at f o) (8 + n * bytes) is }) in
      rw (lies_lands f 7 o lies, rule)

  values_broken : (d : Range) (s : Slot) → d ≡ slot_entry f s → values_kept_lem d ≡ false → ValuesMet f t v s → ⊥
  values_broken d s is e h = true≢false (sym (values_kept s h) ∙ subst (λ (d : Range). values_kept_lem d ≡ false) is e)

module _ (f : List ℕ) (q : Question) where
  abbrev b : List ℕ
  b = body_of f

  abbrev left : ℕ
  left = allowance f

  -- the case of an answer that refuses on the way; 18 and 22 come behind it
  abbrev Early : Reply → Type 0
  Early (Value a) = Unit {0}
  Early (Field x) = Unit {0}
  Early (Name o n) = Unit {0}
  Early (Refused Breach) = Cause f q Breach
  Early (Refused NoSuch) = Cause f q NoSuch
  Early (Refused NoNumber) = Cause f q NoNumber
  Early (Refused Gap) = Cause f q Gap
  Early (Refused OutOfRange) = Unit {0}
  Early (Refused Operand) = Unit {0}

  abbrev Why : Refusal → Type 0
  Why m = Early (Refused m)

  why : (m n : Refusal) → m ≡ n → Why n → Why m
  why m n e h = subst Why (sym e) h

  stops : (m : Refusal) → Why m → Early (answer_on f q (Err m))
  stops m h = subst Early (sym (answer_stopped f q m)) h

  limit : opened f ≡ true → left < length (met_behind left b q) → Cause f q Breach
  limit o l = inr (o, inl (omega (arith, l, two_more f o)))

  -- ---- a list of the GDR, and what comes of it
  module _ (t : ℕ) (n : ℤ) (over : over_of t ≡ NoSuch) (behind : ℕ → ℕ → List ℕ) (opens : opened f ≡ true)
      (missing : NotListed b t n → SubjectMissing b (about q)) (broken : NumberBroken b t n → SubjectBroken b (about q))
      (same : met_behind left b q ≡ place_met b t n behind left) (of : Way → Reply) (stopped : (m : Refusal) → of (Err m) ≡ Refused m)
      (found : (o rest : ℕ) → length (met_behind left b q) + rest ≡ length (behind o rest) + left → Listed b t n o → Early (of (met_at o rest)))
    where
      place_why : (m : Refusal) → StopsFor NoSuch (NotListed b t n) (NumberBroken b t n) (place_met b t n behind left) left m → Why m
      place_why m (inl (e, h)) = why m NoSuch e (opens, missing h)
      place_why m (inr (e, inl l)) = why m Breach e (limit opens (subst (λ (ms : List ℕ). left < length ms) (sym same) l))
      place_why m (inr (e, inr h)) = why m Breach e (inr (opens, inr (inl (broken h))))

      of_place : Early (of (place_within left f t n))
      of_place = go (place_within left f t n) (place_ends b t over behind n left) (place_listed b t n left)
        where
          go : (w : Way) → WayEnds NoSuch (NotListed b t n) (NumberBroken b t n) behind (place_met b t n behind left) left w → Finds (Listed b t n) w → Early (of w)
          go (Ok o) e l = found o.at o.left (ap (λ (ms : List ℕ). length ms + o.left) same ∙ e) l
          go (Err m) h l = subst Early (sym (stopped m)) (place_why m h)

  -- ---- THE WAY TO A VARIABLE
  of_variable : (k n : ℤ) (behind : ℕ → ℕ → List ℕ) → (SubjectMissing b (AVariable k n) → SubjectMissing b (about q))
      → (SubjectBroken b (AVariable k n) → SubjectBroken b (about q)) → met_behind left b q ≡ variable_met b k n behind left
      → ((v rest : ℕ) → opened f ≡ true → length (met_behind left b q) + rest ≡ length (behind v rest) + left → ToVariable k n b v → Early (answer_on f q (met_at v rest)))
      → Early (answer_on f q (way f (AVariable k n)))
  of_variable k n behind missing broken same found = go (opened f) refl (of_kinds 3 8 k) refl
    where
      t : ℕ
      t = kind_among 3 8 k

      go : (a : Bool) → opened f ≡ a → (c : Bool) → of_kinds 3 8 k ≡ c → Early (answer_on f q (cond a (cond c (place_within left f t n) (Err NoSuch)) (Err Breach)))
      go false o c e = stops Breach (inl o)
      go true o false e = stops NoSuch (o, missing (inl e))
      go true o true e =
          of_place t n (variables_over (eq_z k (pos 3))) behind o (λ h. missing (inr h)) (λ h. broken (e, h))
          (same ∙ ap (λ (c : Bool). cond c (place_met b t n behind left) []) e) (answer_on f q) (answer_stopped f q)
          (λ v rest l h. found v rest o l (record { kind = e; listed = h }))

  -- ---- TO AN ATTRIBUTE
  of_attribute : (n : ℤ) (behind : ℕ → ℕ → List ℕ) → (NotListed b 4 n → SubjectMissing b (about q)) → (NumberBroken b 4 n → SubjectBroken b (about q))
      → met_behind left b q ≡ place_met b 4 n behind left → ((a rest : ℕ) → Early (answer_on f q (met_at a rest))) → Early (answer_on f q (way f (AnAttribute n)))
  of_attribute n behind missing broken same found = go (opened f) refl
    where
      go : (a : Bool) → opened f ≡ a → Early (answer_on f q (cond a (place_within left f 4 n) (Err Breach)))
      go false o = stops Breach (inl o)
      go true o = of_place 4 n refl behind o missing broken same (answer_on f q) (answer_stopped f q) (λ a rest l h. found a rest)

  -- ---- TO AN ENTRY
  module _ (a k : ℤ) (w : Wanted) (missing : SubjectMissing b (AnEntry a k w) → SubjectMissing b (about q))
      (none : NumberMissing b (AnEntry a k w) → NumberMissing b (about q)) (broken : SubjectBroken b (AnEntry a k w) → SubjectBroken b (about q))
      (same : met_behind left b q ≡ entry_met b a k w left)
      (found : (e rest : ℕ) → opened f ≡ true → ToEntry a k w b e → Early (answer_on f q (met_at e rest)))
    where
      abbrev kind : ℕ
      kind = kind_among 5 9 k

      -- the list of entries of the ADR at d
      module _ (opens : opened f ≡ true) (right : of_kinds 5 9 k ≡ true) (d rest : ℕ) (listed : Listed b 4 a d)
          (many : length (met_behind left b q) + rest ≡ length (entries_met b kind w d rest) + left)
        where
          abbrev head : ℕ
          head = head_of_entries d kind

          abbrev NoneWanted : Type 0
          NoneWanted = (es : List ℕ) × ListOver b kind head es × Each es (λ earlier e. wanted_at b w (length earlier) e ≡ false)

          entries_why : (m : Refusal) → StopsFor (over_of kind) NoneWanted (ListBroken b kind w head) (entries_met b kind w d rest) rest m → Why m
          entries_why m (inl (e, h)) =
              why m NoNumber (e ∙ entries_over (eq_z k (pos 5))) (opens, none (right, d, found_attribute b a d listed, h.0, h.1, h.2))
          entries_why m (inr (e, inl l)) = why m Breach e (limit opens (omega (arith, l, many)))
          entries_why m (inr (e, inr h)) = why m Breach e (inr (opens, inr (inl (broken (right, inr (d, found_attribute b a d listed, h))))))

          of_entries : Early (answer_on f q (sought b kind w head 0 rest))
          of_entries = go (sought b kind w head 0 rest) (list_ends b kind w (λ e l. []) rest head) (sought_first b kind w rest head 0)
            where
              go : (s : Way) → WayEnds (over_of kind) NoneWanted (ListBroken b kind w head) (λ e l. []) (entries_met b kind w d rest) rest s → Finds (First b kind w head 0) s
                  → Early (answer_on f q s)
              go (Ok e) h x = found e.at e.left opens (record { kind = right; adr = d; attribute = listed; entry = x })
              go (Err m) h x = stops m (entries_why m h)

      of_entry : Early (answer_on f q (way f (AnEntry a k w)))
      of_entry = go (opened f) refl (of_kinds 5 9 k) refl
        where
          go : (c : Bool) → opened f ≡ c → (d : Bool) → of_kinds 5 9 k ≡ d
              → Early (answer_on f q (cond c (cond d (entries_of b kind w (place_within left f 4 a)) (Err NoSuch)) (Err Breach)))
          go false o d e = stops Breach (inl o)
          go true o false e = stops NoSuch (o, missing (inl e))
          go true o true e =
              of_place 4 a refl (entries_met b kind w) o (λ h. missing (inr h)) (λ h. broken (e, inl h))
              (same ∙ ap (λ (c : Bool). cond c (place_met b 4 a (entries_met b kind w) left) []) e) (λ s. answer_on f q (entries_of b kind w s)) (answer_stopped f q)
              (λ d rest l h. of_entries o e d rest h l)

  -- ---- THROUGH THE INDEX
  module _ (k n r : ℤ) (number : NumberMissing b (ARecord k n r) → NumberMissing b (about q)) (gap : InIndexGap b (ARecord k n r) → InIndexGap b (about q))
      (Broken : ℕ → ℕ → Slot → Type 0) (broken : IndexBroken b k n r Broken → RecordBroken b q)
      (v rest : ℕ) (opens : opened f ≡ true) (found : ToVariable k n b v) (behind : Range → List ℕ)
      (many : length (met_behind left b q) + rest ≡ length (record_met b v behind rest (record_number b v r)) + left)
    where
      abbrev read : ℕ
      read = record_read b v r

      abbrev at : VariableFound b k n v
      at = found_variable b k n v found

      not_there : record_there b v r ≡ false → Why NoNumber
      not_there e = (opens, number (v, at, e))

      module _ (there : record_there b v r ≡ true) where
        all_met : length (met_behind left b q) + rest ≡ length (index_records b v read rest behind) + left
        all_met = many ∙ ap (λ (m : Option ℕ). length (record_met b v behind rest m) + left) (looked_up b v r there)

        index_why : (m : Refusal) → IndexEnds b v read rest behind (Err m) → Why m
        index_why m (inl (e, h)) = why m Gap e (opens, gap (v, at, there, h))
        index_why m (inr (e, inl l)) = why m Breach e (limit opens (omega (arith, l, all_met)))
        index_why m (inr (e, inr (inl h))) = why m Breach e (inr (opens, inr (inr (broken (v, at, there, inl h)))))
        index_why m (inr (e, inr (inr h))) = why m Breach e (inr (opens, inr (inr (broken (v, at, there, inr (inl h))))))

-- ---- WHAT IS READ behind the way is 18 or 22 where it is refused
module _ (f : List ℕ) (q : Question) where
  element_early : (a : Asked) (reply : Reply) → ElementSaid (body_of f) a reply → Early f q reply
  element_early a (Value y) h = tt
  element_early a (Field y) h = tt
  element_early a (Name o m) h = tt
  element_early a (Refused Breach) h = absurd h
  element_early a (Refused NoSuch) h = absurd h
  element_early a (Refused NoNumber) h = absurd h
  element_early a (Refused Gap) h = absurd h
  element_early a (Refused OutOfRange) h = tt
  element_early a (Refused Operand) h = tt

  field_early : (c : Bool) (y : ℤ) → Early f q (of_field (cond c (Ok y) (Err OutOfRange)))
  field_early true y = tt
  field_early false y = tt

  row_early : (p m : ℕ) (d : ℤ) → Early f q (of_field (row_field (body_of f) p m d))
  unfolding row_field
  row_early p m d = field_early (index_right d m) (field_at (body_of f) (p + 4 * nat_or 0 d))

-- ---- A VALUE
module _ (f : List ℕ) (k n r : ℤ) (is : List ℤ) (x : ℤ) where
  abbrev value : Question
  value = ask_value k n r is x

  abbrev type : ℕ
  type = kind_among 3 8 k

  module _ (v rest : ℕ) (opens : opened f ≡ true)
      (many : length (met_behind (allowance f) (body_of f) value) + rest ≡ length (record_way_met (body_of f) v r rest) + allowance f)
      (found : ToVariable k n (body_of f) v)
    where
      abbrev bytes : ℕ
      bytes = (variable_of (body_of f) type v).bytes

      abbrev sized : bytes ≡ record_bytes (body_of f) v (layout_of (body_of f) type v)
      sized = bytes_are (body_of f) type v (found_fault (body_of f) k n v found)

      abbrev Wrong : ℕ → ℕ → Slot → Type 0
      Wrong u = ValuesBroken (body_of f) type u

      value_why : IfErr (record_way (body_of f) v bytes r rest) (Why f value)
      unfolding record_way record_number values_met
      value_why = go (record_there (body_of f) v r) refl
        where
          b : List ℕ
          b = body_of f

          read : ℕ
          read = record_read b v r

          at_values : record_there b v r ≡ true → (i : Index) → IndexEnds b v read rest values_behind i → IfErr (values_of b read bytes i) (Why f value)
          at_values e (Err m) h = index_why f value k n r (λ h. h) (λ h. h) Wrong (λ h. h) v rest opens found values_behind many e m h
          at_values e (Ok d) (t, to, same, few) = met (leb 1 d.left) refl (values_kept_lem b type v bytes sized d.range) refl
            where
              met : (y : Bool) → leb 1 d.left ≡ y → (z : Bool) → values_kept_lem b type v bytes sized d.range ≡ z
                  → IfErr (cond (y && z) (Ok (record_at d.range read bytes)) (Err Breach)) (Why f value)
              met false c z w =
                  limit f value opens
                  (omega (arith, few, leb-false 1 d.left c, all_met f value k n r (λ h. h) (λ h. h) Wrong (λ h. h) v rest opens found values_behind many e))
              met true c true w = tt
              met true c false w =
                  let no = values_broken b type v bytes sized d.range t same w in
                  let down = down_so b read (λ m u. (names_index b u ≡ false) × (u ≡ t)) (Wrong v) (λ m u h. (h.0, λ g. no (subst (ValuesMet b type v) h.1 g))) levels_below to.0 to.2 in
                  inr (opens, inr (inr (v, found_variable b k n v found, e, inr (inr (to.0, to.1, down)))))

          go : (c : Bool) → record_there b v r ≡ c → IfErr (values_by b v bytes rest (cond c (Some read) None)) (Why f value)
          go true e = at_values e (lowest_of b read (indexed b read (head_of_index v) 0 rest)) (lowest_ends b v read rest values_behind)
          go false e = not_there f value k n r (λ h. h) (λ h. h) Wrong (λ h. h) v rest opens found values_behind many e

      value_early : Early f value (answer_on f value (met_at v rest))
      unfolding in_variable
      value_early = go (record_way b v bytes r rest) value_why (record_found b v r bytes rest)
        where
          b : List ℕ
          b = body_of f

          go : (s : Result ℕ Refusal) → IfErr s (Why f value) → IfOk s (ToRecord b v r bytes) → Early f value (of_read (in_values b v (shape_of (variable_of b type v)) is x s))
          go (Ok at) h w =
              let loc = subst (λ (m : ℕ). Located b v m (record_read b v r) at) sized (locate b v bytes r at w) in
              element_early f value _ (of_read (in_record b v (shape_of (variable_of b type v)) at is x)) (in_record_lem b k n r is x (ordered f opens) v found at w.way.there loc)
          go (Err m) h w = h

-- ---- THE LEVELS
module _ (f : List ℕ) (k n r : ℤ) (v rest : ℕ) (opens : opened f ≡ true)
    (many : length (met_behind (allowance f) (body_of f) (ask_levels k n r)) + rest ≡ length (levels_way_met (body_of f) v r rest) + allowance f)
    (found : ToVariable k n (body_of f) v)
  where
    abbrev levels : Question
    levels = ask_levels k n r

    levels_early : Early f levels (answer_on f levels (met_at v rest))
    unfolding levels_way record_number
    levels_early = go (record_there b v r) refl
      where
        b : List ℕ
        b = body_of f

        read : ℕ
        read = record_read b v r

        told : record_there b v r ≡ true → (e : Range) (i : Index) → IndexEnds b v read rest none_behind i → Early f levels (of_field (levels_field (levels_told b read e i)))
        told e d (Ok c) h = tt
        told e d (Err m) h = index_why f levels k n r (λ h. h) (λ h. h) (λ u m s. ⊥) (λ h. h) v rest opens found none_behind many e m h

        on : record_there b v r ≡ true → (i : Index) → IndexEnds b v read rest none_behind (lowest_of b read i) → Early f levels (of_field (levels_field (levels_of b read i)))
        on e (Ok d) h = told e d.range (lowered levels_below b read d.range d.left) h
        on e (Err m) h = index_why f levels k n r (λ h. h) (λ h. h) (λ u m s. ⊥) (λ h. h) v rest opens found none_behind many e m h

        go : (c : Bool) → record_there b v r ≡ c → Early f levels (of_field (levels_field (levels_by b v rest (cond c (Some read) None))))
        go true e = on e (indexed b read (head_of_index v) 0 rest) (lowest_ends b v read rest none_behind)
        go false e = not_there f levels k n r (λ h. h) (λ h. h) (λ u m s. ⊥) (λ h. h) v rest opens found none_behind many e

-- ---- EVERY QUESTION
module _ (f : List ℕ) where
  abbrev body : List ℕ
  body = body_of f

  -- of the file itself
  file_early : (what : ℕ) → Early f (ask_file what) (answer_to f (ask_file what))
  unfolding file_field
  file_early what = go (opened f) refl (eqb what 6) (eqb what 0) (leb what 5)
    where
      go : (a : Bool) → opened f ≡ a → (c d e : Bool)
          → Early f (ask_file what)
          (of_field (cond a (cond c (Ok (padding f)) (cond d (Ok (majority (row_majority body))) (cond e (Ok (field_at body (file_field_at body what))) (Err OutOfRange)))) (Err Breach)))
      go false o c d e = inl o
      go true o true d e = tt
      go true o false true e = tt
      go true o false false e = field_early f (ask_file what) e (field_at body (file_field_at body what))

  dimension_early : (d : ℤ) → Early f (ask_dimension d) (answer_to f (ask_dimension d))
  unfolding dimension_size
  dimension_early d = go (opened f) refl (gdr_size body d) (row_early f (ask_dimension d) _ _ d)
    where
      go : (a : Bool) → opened f ≡ a → (y : Result ℤ Refusal) → Early f (ask_dimension d) (of_field y) → Early f (ask_dimension d) (of_field (cond a y (Err Breach)))
      go true o y h = h
      go false o y h = inl o

  -- of a VDR, an ADR, an AEDR behind which nothing is met
  abbrev OnWay : Question → Type 0
  OnWay q = Early f q (answer_on f q (way f (about q)))

  on_way : (q : Question) → OnWay q
  on_way (ask_value k n r is x) = of_variable f (ask_value k n r is x) k n (λ v rest. record_way_met body v r rest) (λ h. h) (λ h. h) refl (value_early f k n r is x)
  on_way (ask_entry a k w x) =
      of_entry f (ask_entry a k w x) a k w (λ h. h) (λ h. h) (λ h. h) refl
      (λ e rest o t. element_early f (ask_entry a k w x) _ (of_read (element_read body (entry_value_at e) (entry_type_at e) (entry_elements_at e) x)) (in_entry body a k w x (ordered f o) e t))
  on_way (ask_pad k n x) =
      of_variable f (ask_pad k n x) k n none_met (λ h. h) (λ h. h) refl
      (λ v rest o l t. element_early f (ask_pad k n x) _ (of_read (pad_in body v (shape_of (variable_of body (kind_among 3 8 k) v)) x)) (in_pad body k n x (ordered f o) v t))
  on_way (ask_file what) = subst (Early f (ask_file what)) (answer_within_lem f (ask_file what)) (file_early what)
  on_way (ask_dimension d) = subst (Early f (ask_dimension d)) (answer_within_lem f (ask_dimension d)) (dimension_early d)
  on_way (ask_variable k n p) =
      of_variable f (ask_variable k n p) k n none_met (λ h. h) (λ h. h) refl
      (λ v rest o l t. field_early f (ask_variable k n p) (is_shown (kind_among 3 8 k) p) (field_at body (v + p)))
  on_way (ask_attribute n p) =
      of_attribute f (ask_attribute n p) n none_met (λ h. h) (λ h. h) refl (λ a rest. field_early f (ask_attribute n p) (is_shown 4 p) (field_at body (a + p)))
  on_way (ask_entry_field a k w p) =
      of_entry f (ask_entry_field a k w p) a k w (λ h. h) (λ h. h) (λ h. h) refl
      (λ e rest o t. field_early f (ask_entry_field a k w p) (is_shown (kind_among 5 9 k) p) (field_at body (e + p)))
  on_way (ask_size k n d) = of_variable f (ask_size k n d) k n none_met (λ h. h) (λ h. h) refl (λ v rest o l t. go (variable_of body (kind_among 3 8 k) v) (eqb (kind_among 3 8 k) 8))
    where
      go : (u : Variable) (c : Bool) → Early f (ask_size k n d) (of_field (cond c (row_field body u.dimensions.sizes u.dimensions.count d) (Err OutOfRange)))
      go u true = row_early f (ask_size k n d) u.dimensions.sizes u.dimensions.count d
      go u false = tt
  on_way (ask_variance k n d) =
      of_variable f (ask_variance k n d) k n none_met (λ h. h) (λ h. h) refl
      (λ v rest o l t.
      let u = variable_of body (kind_among 3 8 k) v in
      row_early f (ask_variance k n d) u.dimensions.variances u.dimensions.count d)
  on_way (ask_levels k n r) = of_variable f (ask_levels k n r) k n (λ v rest. levels_way_met body v r rest) (λ h. h) (λ h. h) refl (levels_early f k n r)
  on_way (ask_variable_name k n) = of_variable f (ask_variable_name k n) k n none_met (λ h. h) (λ h. h) refl (λ v rest o l t. tt)
  on_way (ask_attribute_name n) = of_attribute f (ask_attribute_name n) n none_met (λ h. h) (λ h. h) refl (λ a rest. tt)

  early : (q : Question) (v : Refusal) → answer_to f q ≡ Refused v → Why f q v
  early q v e = subst (Early f q) (sym (answer_within_lem f q) ∙ e) (on_way q)

  late : (q : Question) (v : Refusal) → answer_to f q ≡ Refused v → UnlessStopped (Says (length f) body q) (Refused v)
  late q v e = subst (UnlessStopped (Says (length f) body q)) e (answers_say f q)

-- THE THEOREM
pub refused_for_cause : RefusedForCause
refused_for_cause f q Breach e = early f q Breach e
refused_for_cause f q NoSuch e = early f q NoSuch e
refused_for_cause f q NoNumber e = early f q NoNumber e
refused_for_cause f q Gap e = early f q Gap e
refused_for_cause f q OutOfRange e = late f q OutOfRange e
refused_for_cause f q Operand e = late f q Operand e
