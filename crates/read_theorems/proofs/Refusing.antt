-- THE REFUSALS of every file: which they are, and their order. Assumes nothing.
use mathlib.Core.Path.{◌≡◌, refl, sym, ap, ◌∙◌, subst}
use mathlib.Core.Logic.{inl, inr}
use mathlib.Core.Bool.{Bool, true, false, cond, ◌&&◌, true≢false}
use mathlib.Core.List.{List}
use Prim.Native.Nat.{ℕ, ◌+◌, ◌*◌, ◌≤◌, ◌<◌}
use native.Mathlib.Omega.{arith}
use lib.Dec.{ltb, leb, eqb}
use lib.IntN.{ℤ}
use lib.ListN.{length}
use borrow.Author.Tests.{ltb-true, ltb-false, leb-false, ne_eqb}
use Rattle.format.specs.Fields.{field_at, nat_or, bit_at}
use Rattle.std.specs.Prelude.{Option, Some, None, Result, Ok, Err, IfOk, IfErr, IsErrAnd}
use Rattle.values.specs.declared.value.Answer.{Answer}
use Rattle.values.specs.declared.value.Undecoded.{Undecoded}
use Rattle.values.specs.declared.value.Undecoded.TheVariants.{Reserved, Nothing}
use Rattle.records.specs.Layout.{entry_elements_at, entry_type_at, entry_value_at, data_type_at, elements_at, var_flags_at}
use Rattle.records.specs.Opening.{body_of}
use Rattle.variables.specs.Vdr.{Variable, layout_of, variable_of, shape_of}
use Rattle.variables.specs.Place.{index_right, place_of}
use Rattle.variables.specs.declared.vdr.Shape.{Shape}
use Rattle.lookup.specs.Lists.{Way, met_at, opened, allowance, wanted_at, head_of_entries, kind_among, variable_way}
use Rattle.lookup.specs.Indexes.{record_there, record_read, record_number, record_way, levels_way}
use Rattle.lookup.specs.Refusals.{order_of}
use Rattle.lookup.specs.declared.refusals.Refusal.{Refusal}
use Rattle.lookup.specs.declared.refusals.Refusal.TheVariants.{Breach, NoSuch, NoNumber, Gap, OutOfRange, Operand}
use Rattle.lookup.specs.declared.lists.Wanted.{Wanted}
use Rattle.lookup.proofs.Sought.{Finds, ToVariable}
use Rattle.lookup.proofs.Table.{in_table}
use Rattle.lookup.proofs.Stops.{record_refuses, levels_lack, variable_stops}
use Rattle.lookup.proofs.Chains.{ToRecord, record_found, ToLevels, levels_found}
use Rattle.answers.specs.Offsets.{row_majority, element_at}
use Rattle.answers.specs.Answers.{answered, element_there, element_of, element_read, at_place, in_record, in_values, in_variable, pad_value_at, pad_in}
use Rattle.descriptors.specs.Descriptors.{is_shown, row_field, gdr_size, padding, file_field_at, majority, file_field, dimension_size, levels_field}
use Rattle.reader.specs.Questions.{call_of, Question, ask_value, ask_entry, ask_pad, ask_file, ask_dimension, ask_variable, ask_attribute, ask_entry_field, ask_size, ask_variance, ask_levels, ask_variable_name, ask_attribute_name, Reply, Value, Field, Name, Refused, of_read, of_field, answer_to}
use Rattle.demands.specs.Acceptance.{◌∈◌}
use Rattle.demands.proofs.Splits.{in_left, in_right}
use Rattle.read_theorems.specs.Reading.{nth_record, EntryFound, Asked, question_right, pad_right, value_asked, entry_asked, pad_asked, ElementSaid, UnlessStopped, file_told, Says}
use Rattle.read_theorems.specs.Refusing.{Subject, TheFile, AVariable, AnAttribute, AnEntry, ARecord, about, way_refusals, element_refusals, field_refusals, end_refusals, refusals_of, EveryRefusal, numbered_at, NoneCovers, NoSuchNumber, InGap, SubjectAt, right_of, OrderKept}
use Rattle.read_theorems.specs.Limit.{answer_on}
use Rattle.read_theorems.proofs.Shown.{answers_say}
use Rattle.read_theorems.proofs.Limit.{answer_within_lem, answer_stopped, closed}
use Rattle.read_theorems.proofs.RefusingWays.{covers_none, way, way_found, way_stops, StopsBy, numbered_is, no_subject, no_entry}

-- ---- a fact of the refusal that is given
abbrev OfRefusal : (Refusal → Type 0) → Reply → Type 0
OfRefusal P (Value a) = Unit {0}
OfRefusal P (Field x) = Unit {0}
OfRefusal P (Name o n) = Unit {0}
OfRefusal P (Refused v) = P v

-- it holds at the end of a way if it holds of 20 and of those that can come there
module _ (P : Refusal → Type 0) (f : List ℕ) (broken : P Breach) where
  abbrev Late : List Refusal → Type 0
  Late vs = (v : Refusal) → v ∈ vs → P v

  element_late : Late element_refusals → (at t c : ℕ) (x : ℤ) → OfRefusal P (of_read (element_read (body_of f) at t c x))
  unfolding element_read
  element_late late at t c x = go (element_there (body_of f) c x) (element_of (body_of f) (element_at (body_of f) at t x) t)
    where
      go : (b : Bool) (d : Result Answer Undecoded) → OfRefusal P (of_read (cond b (answered d) (Err OutOfRange)))
      go false d = late OutOfRange (inl refl)
      go true (Ok a) = tt
      go true (Err Reserved) = late Operand (inr (inl refl))
      go true (Err Nothing) = broken

  values_late : Late element_refusals → (v : ℕ) (u : Shape) (is : List ℤ) (x : ℤ) (s : Result ℕ Refusal) → IfErr s P → OfRefusal P (of_read (in_values (body_of f) v u is x s))
  unfolding in_record
  values_late late v u is x (Err m) h = h
  values_late late v u is x (Ok at) h = go (place_of (body_of f) u.dimensions (row_majority (body_of f)) is)
    where
      go : (p : Option ℕ) → OfRefusal P (of_read (at_place (body_of f) v u.value at x p))
      go (Some p) = element_late late (at + p * u.value) (data_type_at v) (elements_at v) x
      go None = late OutOfRange (inl refl)

  field_late : Late field_refusals → (b : Bool) (x : ℤ) → OfRefusal P (of_field (cond b (Ok x) (Err OutOfRange)))
  field_late late true x = tt
  field_late late false x = late OutOfRange (inl refl)

  row_late : Late field_refusals → (p n : ℕ) (d : ℤ) → OfRefusal P (of_field (row_field (body_of f) p n d))
  unfolding row_field
  row_late late p n d = field_late late (index_right d n) (field_at (body_of f) (p + 4 * nat_or 0 d))

  levels_late : (s : Result ℕ Refusal) → IfErr s P → OfRefusal P (of_field (levels_field s))
  levels_late (Ok n) h = tt
  levels_late (Err m) h = h

  -- and, of a record, of those on the way through the index
  abbrev Through : Subject → ℕ → Type 0
  Through TheFile o = Unit {0}
  Through (AVariable k n) o = Unit {0}
  Through (AnAttribute n) o = Unit {0}
  Through (AnEntry a k w) o = Unit {0}
  Through (ARecord k n r) o = P Gap × (record_there (body_of f) o r ≡ false → P NoNumber)

  found_late : (q : Question) → Late (end_refusals q) → (o left : ℕ) → Through (about q) o → OfRefusal P (answer_on f q (met_at o left))
  unfolding in_variable pad_in file_field dimension_size
  found_late (ask_value k n r is x) late v left h =
      let u = shape_of (variable_of (body_of f) (kind_among 3 8 k) v) in
      values_late late v u is x (record_way (body_of f) v u.bytes r left) (record_refuses P broken (body_of f) h.0 v r h.1 u.bytes left)
  found_late (ask_entry a k w x) late e left h = element_late late (entry_value_at e) (entry_type_at e) (entry_elements_at e) x
  found_late (ask_pad k n x) late v left h = go (bit_at (body_of f) (var_flags_at v) 2)
    where
      at : ℕ
      at = pad_value_at (shape_of (variable_of (body_of f) (kind_among 3 8 k) v))

      go : (b : Bool) → OfRefusal P (of_read (cond b (element_read (body_of f) at (data_type_at v) (elements_at v) x) (Err OutOfRange)))
      go true = element_late late at (data_type_at v) (elements_at v) x
      go false = late OutOfRange (inl refl)
  found_late (ask_file what) late o left h = go (opened f) (eqb what 6) (eqb what 0) (leb what 5)
    where
      b : List ℕ
      b = body_of f

      go : (a c d e : Bool)
          → OfRefusal P (of_field (cond a (cond c (Ok (padding f)) (cond d (Ok (majority (row_majority b))) (cond e (Ok (field_at b (file_field_at b what))) (Err OutOfRange)))) (Err Breach)))
      go false c d e = broken
      go true true d e = tt
      go true false true e = tt
      go true false false e = field_late late e (field_at b (file_field_at b what))
  found_late (ask_dimension d) late o left h = go (opened f) (gdr_size (body_of f) d) (row_late late _ _ d)
    where
      go : (a : Bool) (x : Result ℤ Refusal) → OfRefusal P (of_field x) → OfRefusal P (of_field (cond a x (Err Breach)))
      go true x h = h
      go false x h = broken
  found_late (ask_variable k n p) late v left h = field_late late (is_shown (kind_among 3 8 k) p) (field_at (body_of f) (v + p))
  found_late (ask_attribute n p) late a left h = field_late late (is_shown 4 p) (field_at (body_of f) (a + p))
  found_late (ask_entry_field a k w p) late e left h = field_late late (is_shown (kind_among 5 9 k) p) (field_at (body_of f) (e + p))
  found_late (ask_size k n d) late v left h = go (eqb (kind_among 3 8 k) 8)
    where
      u : Variable
      u = variable_of (body_of f) (kind_among 3 8 k) v

      go : (b : Bool) → OfRefusal P (of_field (cond b (row_field (body_of f) u.dimensions.sizes u.dimensions.count d) (Err OutOfRange)))
      go true = row_late late u.dimensions.sizes u.dimensions.count d
      go false = late OutOfRange (inl refl)
  found_late (ask_variance k n d) late v left h =
      let u = variable_of (body_of f) (kind_among 3 8 k) v in
      row_late late u.dimensions.variances u.dimensions.count d
  found_late (ask_levels k n r) late v left h = levels_late (levels_way (body_of f) v r left) (levels_lack P broken (body_of f) h.0 v r h.1 left)
  found_late (ask_variable_name k n) late v left h = tt
  found_late (ask_attribute_name n) late a left h = tt

  -- of the answer, if it holds where the way stops
  answer_refuses : (q : Question) → Late (end_refusals q) → IfErr (way f (about q)) P → ((o : ℕ) → Through (about q) o) → OfRefusal P (answer_to f q)
  answer_refuses q late stops through = subst (OfRefusal P) (sym (answer_within_lem f q)) (go (way f (about q)) stops)
    where
      go : (w : Way) → IfErr w P → OfRefusal P (answer_on f q w)
      go (Ok m) s = found_late q late m.at m.left (through m.at)
      go (Err m) s = subst (OfRefusal P) (sym (answer_stopped f q m)) s

-- ---- EVERY REFUSAL is one of those that are named for the question
module _ (f : List ℕ) (q : Question) where
  abbrev In : Refusal → Type 0
  In v = v ∈ refusals_of q

  breach_in : (s : Subject) → Breach ∈ way_refusals s
  breach_in TheFile = inl refl
  breach_in (AVariable k n) = inl refl
  breach_in (AnAttribute n) = inl refl
  breach_in (AnEntry a k w) = inl refl
  breach_in (ARecord k n r) = inl refl

  on_way : (v : Refusal) → v ∈ way_refusals (about q) → In v
  on_way v i = in_left (way_refusals (about q)) (end_refusals q) v i

  through_in : (P : Refusal → Type 0) (broken : P Breach) (s : Subject) → ((v : Refusal) → v ∈ way_refusals s → P v) → (o : ℕ) → Through P f broken s o
  through_in P broken TheFile h o = tt
  through_in P broken (AVariable k n) h o = tt
  through_in P broken (AnAttribute n) h o = tt
  through_in P broken (AnEntry a k w) h o = tt
  through_in P broken (ARecord k n r) h o = (h Gap (inr (inr (inr (inl refl)))), λ e. h NoNumber (inr (inr (inl refl))))

  one_of : OfRefusal In (answer_to f q)
  one_of =
      let broken = on_way Breach (breach_in (about q)) in
      answer_refuses In f broken q (in_right (way_refusals (about q)) (end_refusals q)) (way_stops In f (about q) on_way) (through_in In broken (about q) on_way)

-- THE THEOREM
pub every_refusal : EveryRefusal
every_refusal f q v e = record { one = subst (OfRefusal (In f q)) e (one_of f q); number = in_table v; kept = λ before. ap (λ (r : Reply). call_of r before) e }

-- ---- THE ORDER
abbrev EndsBy : ℕ → Reply → Type 0
EndsBy n reply = (w : Refusal) × (reply ≡ Refused w) × (order_of w ≤ n)

module _ (f : List ℕ) where
  -- where the way stops
  stopped_ends : (n : ℕ) (q : Question) → StopsBy n (way f (about q)) → EndsBy n (answer_to f q)
  stopped_ends n q h = subst (EndsBy n) (sym (answer_within_lem f q)) (go (way f (about q)) h)
    where
      go : (w : Way) → StopsBy n w → EndsBy n (answer_on f q w)
      go (Ok m) h = absurd h
      go (Err m) h = (m, answer_stopped f q m, h)

  -- and, of a record, where the way through the index does
  abbrev RefusesBy : ℕ → Result ℕ Refusal → Type 0
  RefusesBy n s = IsErrAnd s (λ m. order_of m ≤ n)

  module _ (k n r : ℤ) (m : ℕ) (late : 1 ≤ m) where
    -- the answer of a way to the VDR, if what comes behind it ends so
    on_variable : (q : Question) → about q ≡ ARecord k n r
        → ((v left : ℕ) → numbered_at (body_of f) (kind_among 3 8 k) n ≡ v → EndsBy m (answer_on f q (met_at v left))) → EndsBy m (answer_to f q)
    unfolding variable_way
    on_variable q is behind =
        subst (EndsBy m) (sym (answer_within_lem f q ∙ ap (λ (s : Subject). answer_on f q (way f s)) is))
        (go (way f (ARecord k n r)) (variable_stops (λ m. order_of m ≤ 1) (omega arith) (omega arith) f k n) (way_found f (ARecord k n r)))
      where
        go : (w : Way) → IfErr w (λ m. order_of m ≤ 1) → Finds (ToVariable k n (body_of f)) w → EndsBy m (answer_on f q w)
        go (Ok v) s h = behind v.at v.left (numbered_is (body_of f) (kind_among 3 8 k) n v.at h.listed)
        go (Err v) s h = (v, answer_stopped f q v, omega (arith, s, late))

    value_ends : (is : List ℤ) (x : ℤ)
        → ((v bytes left : ℕ) → numbered_at (body_of f) (kind_among 3 8 k) n ≡ v → RefusesBy m (record_way (body_of f) v bytes r left))
        → EndsBy m (answer_to f (ask_value k n r is x))
    unfolding in_variable
    value_ends is x h =
        on_variable (ask_value k n r is x) refl
        (λ v left e.
        let u = shape_of (variable_of (body_of f) (kind_among 3 8 k) v) in
        go v u (record_way (body_of f) v u.bytes r left) (h v u.bytes left e))
      where
        go : (v : ℕ) (u : Shape) (s : Result ℕ Refusal) → RefusesBy m s → EndsBy m (of_read (in_values (body_of f) v u is x s))
        go v u (Ok at) h = absurd h
        go v u (Err w) h = (w, refl, h)

    levels_end : ((v left : ℕ) → numbered_at (body_of f) (kind_among 3 8 k) n ≡ v → RefusesBy m (levels_way (body_of f) v r left)) → EndsBy m (answer_to f (ask_levels k n r))
    levels_end h = on_variable (ask_levels k n r) refl (λ v left e. go (levels_way (body_of f) v r left) (h v left e))
      where
        go : (s : Result ℕ Refusal) → RefusesBy m s → EndsBy m (of_field (levels_field s))
        go (Ok w) h = absurd h
        go (Err w) h = (w, refl, h)

  -- 16: the record number is not looked up
  module _ (v : ℕ) (r : ℤ) (e : record_there (body_of f) v r ≡ false) (left : ℕ) where
    record_out : (bytes : ℕ) → RefusesBy 2 (record_way (body_of f) v bytes r left)
    unfolding record_way record_number
    record_out bytes = rw e (omega arith)

    levels_out : RefusesBy 2 (levels_way (body_of f) v r left)
    unfolding levels_way record_number
    levels_out = rw e (omega arith)

  -- 17: no lowest entry covers it
  module _ (v : ℕ) (r : ℤ) (none : NoneCovers (body_of f) v r) (left : ℕ) where
    record_gap : (bytes : ℕ) → RefusesBy 3 (record_way (body_of f) v bytes r left)
    record_gap bytes =
        go (record_way (body_of f) v bytes r left) (record_refuses (λ m. order_of m ≤ 3) (omega arith) (body_of f) (omega arith) v r (λ e. omega arith) bytes left)
        (record_found (body_of f) v r bytes left)
      where
        go : (s : Result ℕ Refusal) → IfErr s (λ m. order_of m ≤ 3) → IfOk s (ToRecord (body_of f) v r bytes) → RefusesBy 3 s
        go (Ok at) h t = covers_none (body_of f) v r t.entry t.way none
        go (Err m) h t = h

    levels_gap : RefusesBy 3 (levels_way (body_of f) v r left)
    levels_gap =
        go (levels_way (body_of f) v r left) (levels_lack (λ m. order_of m ≤ 3) (omega arith) (body_of f) (omega arith) v r (λ e. omega arith) left)
        (levels_found (body_of f) v r left)
      where
        go : (s : Result ℕ Refusal) → IfErr s (λ m. order_of m ≤ 3) → IfOk s (ToLevels (body_of f) v r) → RefusesBy 3 s
        go (Ok n) h t = covers_none (body_of f) v r t.entry t.way none
        go (Err m) h t = h

  number_kept : (q : Question) → NoSuchNumber (body_of f) (about q) → EndsBy 2 (answer_to f q)
  number_kept (ask_value k n r is x) h =
      value_ends k n r 2 (omega arith) is x (λ v bytes left e. record_out v r (subst (λ (v : ℕ). record_there (body_of f) v r ≡ false) e h) left bytes)
  number_kept (ask_entry a k w x) h = stopped_ends 2 (ask_entry a k w x) (no_entry f a k w h)
  number_kept (ask_pad k n x) h = absurd h
  number_kept (ask_file what) h = absurd h
  number_kept (ask_dimension d) h = absurd h
  number_kept (ask_variable k n p) h = absurd h
  number_kept (ask_attribute n p) h = absurd h
  number_kept (ask_entry_field a k w p) h = stopped_ends 2 (ask_entry_field a k w p) (no_entry f a k w h)
  number_kept (ask_size k n d) h = absurd h
  number_kept (ask_variance k n d) h = absurd h
  number_kept (ask_levels k n r) h =
      levels_end k n r 2 (omega arith) (λ v left e. levels_out v r (subst (λ (v : ℕ). record_there (body_of f) v r ≡ false) e h) left)
  number_kept (ask_variable_name k n) h = absurd h
  number_kept (ask_attribute_name n) h = absurd h

  gap_kept : (q : Question) → InGap (body_of f) (about q) → EndsBy 3 (answer_to f q)
  gap_kept (ask_value k n r is x) h =
      value_ends k n r 3 (omega arith) is x (λ v bytes left e. record_gap v r (subst (λ (v : ℕ). NoneCovers (body_of f) v r) e h) left bytes)
  gap_kept (ask_entry a k w x) h = absurd h
  gap_kept (ask_pad k n x) h = absurd h
  gap_kept (ask_file what) h = absurd h
  gap_kept (ask_dimension d) h = absurd h
  gap_kept (ask_variable k n p) h = absurd h
  gap_kept (ask_attribute n p) h = absurd h
  gap_kept (ask_entry_field a k w p) h = absurd h
  gap_kept (ask_size k n d) h = absurd h
  gap_kept (ask_variance k n d) h = absurd h
  gap_kept (ask_levels k n r) h =
      levels_end k n r 3 (omega arith) (λ v left e. levels_gap v r (subst (λ (v : ℕ). NoneCovers (body_of f) v r) e h) left)
  gap_kept (ask_variable_name k n) h = absurd h
  gap_kept (ask_attribute_name n) h = absurd h

-- ---- 18, by what the answers say
-- the entry that is wanted is one
module _ (f : List ℕ) (a k : ℤ) (w : Wanted) where
  abbrev head : ℕ → ℕ
  head d = head_of_entries d (kind_among 5 9 k)

  same_place : (d e m n : ℕ) → wanted_at f w m d ≡ true → nth_record f e m ≡ d → ((h : ℕ) → h < n → wanted_at f w h (nth_record f e h) ≡ false) → n ≤ m
  same_place d e m n wanted is earlier = go (ltb m n) refl
    where
      go : (b : Bool) → ltb m n ≡ b → n ≤ m
      go true l = absurd (true≢false (sym wanted ∙ subst (λ (o : ℕ). wanted_at f w m o ≡ false) is (earlier m (ltb-true m n l))))
      go false l = ltb-false m n l

  one_entry : (d e : ℕ) → EntryFound f a k w d → EntryFound f a k w e → d ≡ e
  one_entry d e x y =
      let adr : x.adr ≡ y.adr = sym x.attribute.attribute.place ∙ y.attribute.attribute.place in
      let is = subst (λ (o : ℕ). nth_record f (head o) x.place ≡ d) adr x.entry.place in
      let earlier = subst (λ (o : ℕ). (h : ℕ) → h < x.place → wanted_at f w h (nth_record f (head o) h) ≡ false) adr x.earlier in
      let up = same_place d (head y.adr) x.place y.place x.first is y.earlier in
      let down = same_place e (head y.adr) y.place x.place y.first y.entry.place earlier in
      let place : x.place ≡ y.place = omega (arith, up, down) in
      sym is ∙ ap (nth_record f (head y.adr)) place ∙ y.entry.place

module _ (n : ℕ) (f : List ℕ) (rs zs ads : ℤ) where
  told_wrong : (what : ℕ) → leb what 6 ≡ false → file_told n f rs zs ads what ≡ Refused OutOfRange
  told_wrong what e =
      rw (not_it 0 (omega arith), not_it 1 (omega arith), not_it 2 (omega arith), not_it 3 (omega arith), not_it 4 (omega arith), not_it 5 (omega arith), not_it 6 (omega arith))
    where
      not_it : (m : ℕ) → m < 7 → eqb what m ≡ false
      not_it m h = ne_eqb what m (λ q. absurd (omega (arith, q, h, leb-false what 6 e)))

-- an element is wrong
element_wrong : (f : List ℕ) (q : Asked) → q.right ≡ false → (reply : Reply) → ElementSaid f q reply → reply ≡ Refused OutOfRange
element_wrong f q e (Value a) h = absurd (true≢false (sym h.right ∙ e))
element_wrong f q e (Field x) h = absurd h
element_wrong f q e (Name o n) h = absurd h
element_wrong f q e (Refused Breach) h = absurd h
element_wrong f q e (Refused NoSuch) h = absurd h
element_wrong f q e (Refused NoNumber) h = absurd h
element_wrong f q e (Refused Gap) h = absurd h
element_wrong f q e (Refused OutOfRange) h = refl
element_wrong f q e (Refused Operand) h = absurd (true≢false (sym h.0 ∙ e))

module _ (f : List ℕ) where
  -- ---- where the question is wrong it is 18, unless the way stopped
  said_wrong : (n : ℕ) (q : Question) (o : ℕ) → SubjectAt f (about q) o → right_of f q o ≡ false → (reply : Reply) → Says n f q reply → reply ≡ Refused OutOfRange
  said_wrong n (ask_value k j r is x) o at e reply (v, s, found, said) =
      let same : o ≡ v = sym at ∙ found.index.variable.variable.place in
      element_wrong f (value_asked f (kind_among 3 8 k) v s (record_read f v r) is x) (subst (λ (v : ℕ). question_right f (kind_among 3 8 k) v is x ≡ false) same e) reply said
  said_wrong n (ask_entry a k w x) o at e reply (v, found, said) =
      element_wrong f (entry_asked f v x) (subst (λ (v : ℕ). element_there f (entry_elements_at v) x ≡ false) (one_entry f a k w o v at found) e) reply said
  said_wrong n (ask_pad k j x) o at e reply (v, found, said) =
      element_wrong f (pad_asked f v x) (subst (λ (v : ℕ). pad_right f v x ≡ false) (sym at ∙ found.variable.place) e) reply said
  said_wrong n (ask_file what) o at e reply said = said ∙ told_wrong n f _ _ _ what e
  said_wrong n (ask_dimension d) o at e reply said = said ∙ rw e
  said_wrong n (ask_variable k j p) o at e reply (v, found, said) = said ∙ rw e
  said_wrong n (ask_attribute j p) o at e reply (v, found, said) = said ∙ rw e
  said_wrong n (ask_entry_field a k w p) o at e reply (v, found, said) = said ∙ rw e
  said_wrong n (ask_size k j d) o at e reply (v, found, said) =
      let t = kind_among 3 8 k in
      said ∙ rw (subst (λ (v : ℕ). (eqb t 8 && index_right d (layout_of f t v).count) ≡ false) (sym at ∙ found.variable.place) e)
  said_wrong n (ask_variance k j d) o at e reply (v, found, said) =
      let t = kind_among 3 8 k in
      said ∙ rw (subst (λ (v : ℕ). index_right d (layout_of f t v).count ≡ false) (sym at ∙ found.variable.place) e)
  said_wrong n (ask_levels k j r) o at e reply said = absurd (true≢false e)
  said_wrong n (ask_variable_name k j) o at e reply said = absurd (true≢false e)
  said_wrong n (ask_attribute_name j) o at e reply said = absurd (true≢false e)

  wrong_ends : (n : ℕ) (q : Question) (o : ℕ) → SubjectAt f (about q) o → right_of f q o ≡ false → (reply : Reply) → UnlessStopped (Says n f q) reply → EndsBy 4 reply
  wrong_ends n q o at e (Refused Breach) h = (Breach, refl, omega arith)
  wrong_ends n q o at e (Refused NoSuch) h = (NoSuch, refl, omega arith)
  wrong_ends n q o at e (Refused NoNumber) h = (NoNumber, refl, omega arith)
  wrong_ends n q o at e (Refused Gap) h = (Gap, refl, omega arith)
  wrong_ends n q o at e (Refused OutOfRange) h = (OutOfRange, refl, omega arith)
  wrong_ends n q o at e (Refused Operand) h = (OutOfRange, said_wrong n q o at e (Refused Operand) h, omega arith)
  wrong_ends n q o at e (Value a) h = (OutOfRange, said_wrong n q o at e (Value a) h, omega arith)
  wrong_ends n q o at e (Field x) h = (OutOfRange, said_wrong n q o at e (Field x) h, omega arith)
  wrong_ends n q o at e (Name p m) h = (OutOfRange, said_wrong n q o at e (Name p m) h, omega arith)

-- THE THEOREM
pub order_kept : OrderKept
order_kept f q Breach h = (Breach, answer_within_lem f q ∙ closed f h (allowance f) q, omega arith)
order_kept f q NoSuch h = stopped_ends f 1 q (no_subject f (about q) h)
order_kept f q NoNumber h = number_kept f q h
order_kept f q Gap h = gap_kept f q h
order_kept f q OutOfRange (o, at, e) = wrong_ends (body_of f) (length f) q o at e (answer_to f q) (answers_say f q)
order_kept f q Operand h = absurd h
