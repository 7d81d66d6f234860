-- WHAT THE READER ANSWERS of every file, accepted or not. Assumes nothing.
use mathlib.Core.Path.{◌≡◌, refl, sym, ap, ◌∙◌, subst}
use mathlib.Core.Logic.{◌≢◌}
use mathlib.Core.Bool.{Bool, true, false, cond, ◌&&◌}
use mathlib.Core.List.{List}
use Prim.Native.Nat.{ℕ, zero, suc, ◌+◌, ◌-◌, ◌*◌, ◌≤◌, ◌<◌}
use native.Mathlib.Nat.{zero-add, mul-le-mul_right, suc-mul, mul_comm}
use native.Mathlib.Omega.{arith}
use lib.Dec.{eqb}
use lib.IntN.{ℤ, pos}
use lib.ListN.{length}
use borrow.Author.Tests.{eqb-true, ne_eqb, le-leb, lt-leb}
use Rattle.std.specs.Prelude.{Some, None, Result, Ok, Err, IfOk, IfErr, MatchResult}
use Rattle.format.specs.Fields.{end_of, field_at, eq_z, nat_at, nat_or, bit_at}
use Rattle.format.specs.Encodings.{encoding_of, order_in}
use Rattle.records.specs.Layout.{attr_name_at, data_type_at, elements_at, var_flags_at, var_name_at, entry_elements_at, entry_type_at, entry_value_at, r_dim_sizes_at}
use Rattle.records.specs.Rules.{size_at}
use Rattle.records.specs.Opening.{gdr_at, r_num_dims, body_of}
use Rattle.records.specs.Attributes.{element_size}
use Rattle.records.specs.Index.{vvr_rule}
use Rattle.records.specs.Tree.{Slot, first_of, last_of, named_by}
use Rattle.records.specs.declared.index.Range.{Range}
use Rattle.variables.specs.Limit.{capped}
use Rattle.variables.specs.Vdr.{Variable, layout_of, value_bytes, pad_bytes, record_bytes, values_per_record, vdr_fields, variable_of, shape_of}
use Rattle.variables.specs.Place.{element_place, index_right, indices_right, row_fits, placed, place_of}
use Rattle.variables.specs.declared.vdr.Layout.{Layout}
use Rattle.values.specs.declared.value.Answer.{Answer}
use Rattle.lookup.specs.Lists.{Way, opened, lands_on, meets, wanted_at, kind_among, head_of_list, head_of_entries, variable_way, attribute_way, entry_way}
use Rattle.lookup.specs.Indexes.{record_at, record_there, record_read, record_way, levels_way}
use Rattle.lookup.specs.declared.refusals.Refusal.{Refusal}
use Rattle.lookup.specs.declared.refusals.Refusal.TheVariants.{Breach, NoSuch, NoNumber, Gap, OutOfRange, Operand}
use Rattle.lookup.specs.declared.lists.Wanted.{Wanted}
use Rattle.lookup.specs.declared.lists.Met.{Met}
use Rattle.answers.specs.Offsets.{row_majority, element_at, pad_at}
use Rattle.answers.specs.Answers.{file_encoding, element_there, element_of, element_read, at_place, in_record, in_values, in_variable, value_on, value_read, entry_on, entry_value, pad_in, pad_on, pad_read}
use Rattle.descriptors.specs.Descriptors.{is_shown, field_on, variable_field, attribute_field, entry_field, row_field, gdr_size, dimension_size, dimensions_on, variable_dimensions, size_on, variable_size, variance_on, variable_variance, levels_field, levels_on, variable_levels, name_on, until_nul, variable_name, attribute_name, file_field_in, padding, file_field}
use Rattle.reader.specs.Questions.{Question, ask_value, ask_entry, ask_pad, ask_file, ask_dimension, ask_variable, ask_attribute, ask_entry_field, ask_size, ask_variance, ask_levels, ask_variable_name, ask_attribute_name, Reply, Value, Field, Name, Refused, of_read, of_field, of_name, answer_to}
use Rattle.read_theorems.specs.Reading.{nth_record, Met as MetAsNth, ElementShown, LiesIn, reserved, VariableFound, AttributeFound, EntryFound, RecordFound, indices_given, Asked, ValueSaid, ElementSaid, value_asked, entry_asked, pad_asked, UnlessStopped, part_told, row_told, NameSaid, FileSaid, Says, AnswersSay}
use Rattle.variables.proofs.Capped.{capped_small}
use Rattle.variables.proofs.Bound.{place_below}
use Rattle.variables.proofs.Numbering.{placed_right, values_apart}
use Rattle.variables.proofs.Rule.{vdr_fields_lem, vdr_reads, vdr_makes, place_is}
use Rattle.records.proofs.Fielded.{vvr_law, aedr_law, AedrFields, aedr_fields}
use Rattle.demands.proofs.VariableFacts.{z_layout, r_layout, exact_size}
use Rattle.values.proofs.Agreeing.{Decodes, decodes}
use Rattle.records.proofs.Opens.{cdr_fields, opening_passes}
use Rattle.records.proofs.Bodies.{opening_body, body_length}
use Rattle.lookup.proofs.Opening.{opened_parts}
use Rattle.lookup.proofs.Kept.{Lies, lands_lies, meets_parts, variable_kept, entry_kept}
use Rattle.lookup.proofs.Sought.{nth, Listed, first_met, listed_met, Finds, InOpened, ToVariable, variable_found, attribute_found, ToEntry, entry_found}
use Rattle.lookup.proofs.Stops.{variable_stops, attribute_stops, entry_stops, record_refuses, levels_lack}
use Rattle.lookup.proofs.Chains.{ToRecord, record_found, ToLevels, levels_found}
use Rattle.answers.proofs.Telling.{element_below, element_tells}
use Rattle.descriptors.proofs.Names.{name_most, name_bytes, name_ends}
use Rattle.read_theorems.proofs.Rules.{variable_type, entry_type, lies_lands, meets_kept}
use Rattle.read_theorems.proofs.Down.{nth_same, Reached, reached}

-- ---- AN ANSWER that is no refusal on the way is what is said of what was found
said : (Said : Reply → Type 0) (reply : Reply) → Said reply → UnlessStopped Said reply
said Said (Value a) h = h
said Said (Field x) h = h
said Said (Name o n) h = h
said Said (Refused Breach) h = tt
said Said (Refused NoSuch) h = tt
said Said (Refused NoNumber) h = tt
said Said (Refused Gap) h = tt
said Said (Refused OutOfRange) h = h
said Said (Refused Operand) h = h

-- the encoding of a file that opens
pub ordered : (f : List ℕ) → opened f ≡ true → 1 ≤ order_in (encoding_of (file_encoding (body_of f)))
ordered f e = let b = body_of f in ((cdr_fields b).0 (opening_passes b (opening_body f (opened_parts f e).1)).cdr).encoding

-- ---- what a lookup finds
pub list_met : (f : List ℕ) (t p n o : ℕ) → t ≢ 6 → nth f p n ≡ o → ((h : ℕ) → h ≤ n → meets f t (nth f p h) ≡ true) → MetAsNth f t p n o
list_met f t p n o other e g =
    record { place = sym (nth_same f p n) ∙ e; rules = λ h l. meets_kept f t (nth_record f p h) other (ap (meets f t) (sym (nth_same f p h)) ∙ g h l) }

pub found_variable : (f : List ℕ) (k n : ℤ) (v : ℕ) → ToVariable k n f v → VariableFound f k n v
found_variable f k n v t =
    record { kind = t.kind; number = t.listed.least; variable = list_met f (kind_among 3 8 k) (head_of_list f (kind_among 3 8 k)) (nat_or 0 n) v (variable_type (eq_z k (pos 3))) t.listed.is t.listed.met }

pub found_attribute : (f : List ℕ) (n : ℤ) (a : ℕ) → Listed f 4 n a → AttributeFound f n a
found_attribute f n a t = record { number = t.least; attribute = list_met f 4 (head_of_list f 4) (nat_or 0 n) a (λ z. omega (arith, z)) t.is t.met }

pub found_entry : (f : List ℕ) (b k : ℤ) (w : Wanted) (e : ℕ) → ToEntry b k w f e → EntryFound f b k w e
found_entry f b k w e t =
    let head = head_of_entries t.adr (kind_among 5 9 k) in
    record {
      kind = t.kind;
      adr = t.adr;
      attribute = found_attribute f b t.adr t.attribute;
      place = t.entry.place;
      entry = list_met f (kind_among 5 9 k) head t.entry.place e (entry_type (eq_z k (pos 5))) t.entry.is t.entry.met;
      first = ap (λ (i : ℕ). wanted_at f w i e) (sym (zero-add t.entry.place)) ∙ t.entry.wanted;
      earlier = λ g l.
          ap (λ (o : ℕ). wanted_at f w g o) (sym (nth_same f head g)) ∙ ap (λ (i : ℕ). wanted_at f w i (nth f head g)) (sym (zero-add g)) ∙ t.entry.earlier g l;
    }

module _ (f : List ℕ) where
  -- ---- the values of a record
  -- the record of number r of the VDR at v, of a given size, begins at an offset
  pub record Located (v bytes r at : ℕ) : Type 0 where
    pub entry : Range
    pub depth : ℕ
    pub reached : Reached f v r entry depth
    pub lies : Lies f 7 (named_by f reached.slot)
    pub size : size_at f (named_by f reached.slot) ≡ 8 + (last_of f reached.slot - first_of f reached.slot + 1) * bytes
    pub is : at ≡ named_by f reached.slot + 8 + (r - first_of f reached.slot) * bytes

  pub locate : (v bytes : ℕ) (r : ℤ) (at : ℕ) → ToRecord f v r bytes at → Located v bytes (record_read f v r) at
  locate v bytes r at t =
      let w = reached f v r t.entry t.way in
      let s = w.slot in
      let lands = subst (λ (e : Range). lands_on f 7 e.link ≡ true) w.is t.lands in
      let rule = subst (λ (e : Range). vvr_rule f e.link (e.last - e.first + 1) bytes ≡ 0) w.is t.rule in
      let size = ((vvr_law f (named_by f s) (last_of f s - first_of f s + 1) bytes).0 rule).right in
      record {
        entry = t.entry;
        depth = t.way.down.depth;
        reached = w;
        lies = lands_lies f 7 (named_by f s) lands;
        size = eqb-true (size_at f (named_by f s)) (8 + (last_of f s - first_of f s + 1) * bytes) size;
        is = sym (subst (λ (e : Range). record_at e (record_read f v r) bytes ≡ at) w.is t.is);
      }

-- ---- AN ELEMENT: what is said of it
-- a data type has a size
vdr_sized : (f : List ℕ) (o : ℕ) → vdr_fields f o ≡ true → 1 ≤ element_size f (data_type_at o)
vdr_sized f o e = ((vdr_fields_lem f o).0 e).typed

element_shown : (f : List ℕ) (at t : ℕ) (a : Answer) → element_of f at t ≡ Ok a → ElementShown f at t a
unfolding element_size
element_shown f at t a e =
    let d = subst (Decodes f at (nat_at f t) (file_encoding f)) e (decodes f at (nat_at f t) (file_encoding f)) in
    record { offset = d.offset; decoded = e; bits = d.bits; vax = d.vax; stored = d.stored }

-- element x of those that the field at c counts, of the values at an offset, in the record of the question
module _ (f : List ℕ) (at c : ℕ) (x : ℤ) (q : Asked) (right : element_there f c x ≡ q.right) (is : element_at f at q.type x ≡ q.at)
    (sized : 1 ≤ element_size f q.type) (ordered : 1 ≤ order_in (encoding_of (file_encoding f)))
    (inside : element_there f c x ≡ true → LiesIn f q.holder q.behind q.at (element_size f q.type))
    (ends : q.holder + size_at f q.holder ≤ end_of f)
  where
    read_said : (s : Result Answer Refusal) → MatchResult s (ValueSaid f q) (λ v. ElementSaid f q (Refused v)) → ElementSaid f q (of_read s)
    read_said (Ok a) h = h
    read_said (Err v) h = h

    element_said : ElementSaid f q (of_read (element_read f at q.type c x))
    element_said =
        read_said (element_read f at q.type c x)
        (element_tells f at q.type c x (ValueSaid f q) (λ v. ElementSaid f q (Refused v))
        (λ h. sym right ∙ h)
        (λ h g. (sym right ∙ h, subst (λ (o : ℕ). reserved f o q.type ≡ true) is g))
        sized ordered
        (λ h. let i = inside h in omega (arith, is, i.ends, ends))
        (λ a h d. record { right = sym right ∙ h; inside = inside h; shown = element_shown f q.at q.type a (subst (λ (o : ℕ). element_of f o q.type ≡ Ok a) is d) }))

-- ---- A VALUE, in the bytes f, whose encoding has an order
pub bytes_are : (f : List ℕ) (t v : ℕ) → (variable_of f t v).fault ≡ 0 → (variable_of f t v).bytes ≡ record_bytes f v (layout_of f t v)
bytes_are f t v fault =
    ap (λ (u : Variable). u.bytes) (vdr_makes f t v (vdr_reads f t v fault)) ∙ capped_small (record_bytes f v (layout_of f t v)) (omega (arith, (vdr_reads f t v fault).small))

pub found_fault : (f : List ℕ) (k n : ℤ) (v : ℕ) → ToVariable k n f v → (variable_of f (kind_among 3 8 k) v).fault ≡ 0
found_fault f k n v found = (variable_kept f v (eq_z k (pos 3)) (meets_parts f (kind_among 3 8 k) v (listed_met f (kind_among 3 8 k) n v found.listed)).1).1

record_is : (f : List ℕ) (o : ℕ) (l : Layout) → record_bytes f o l ≡ value_bytes f o * values_per_record f l.count l.sizes l.variances
unfolding record_bytes
record_is f o l = refl

module _ (f : List ℕ) (k n r : ℤ) (is : List ℤ) (x : ℤ) (order : 1 ≤ order_in (encoding_of (file_encoding f))) (v : ℕ) (found : ToVariable k n f v) where
  abbrev t : ℕ
  t = kind_among 3 8 k

  abbrev l : Layout
  l = layout_of f t v

  fault : (variable_of f t v).fault ≡ 0
  fault = found_fault f k n v found

  -- the dimensions lie in the file, so the indices give a place if they are right
  given_placed : indices_given f l is ≡ placed f l is
  unfolding placed row_fits
  given_placed =
      let p = vdr_reads f t v fault in
      rw (le-leb (l.sizes + 4 * l.count) (end_of f) p.sizes, le-leb (l.variances + 4 * l.count) (end_of f) p.variances) (ands (eqb (length is) l.count))
    where
      ands : (b : Bool) → (b && indices_right f l.sizes is l.count) ≡ (b && true && true && indices_right f l.sizes is l.count)
      ands true = refl
      ands false = refl

  -- a value is no larger than a record
  small : placed f l is ≡ true → value_bytes f v ≤ 2147483648
  small h =
      let many = values_per_record f l.count l.sizes l.variances in
      let p = place_below f l (row_majority f) is (placed_right f l is h) in
      let a : suc 0 * value_bytes f v ≤ many * value_bytes f v = mul-le-mul_right (value_bytes f v) (omega (arith, p)) in
      let b = (vdr_reads f t v fault).small in
      omega (arith, a, b, record_is f v l, mul_comm (value_bytes f v) many)

  module _ (at : ℕ) (there : record_there f v r ≡ true) (loc : Located f v (record_bytes f v l) (record_read f v r) at) where
    abbrev slot : Slot
    slot = loc.reached.slot

    abbrev asked : Asked
    asked = value_asked f t v slot (record_read f v r) is x

    record_found_at : RecordFound f k n r v slot
    record_found_at = record {
      index = record { variable = found_variable f k n v found; there = there; way = loc.reached.way };
      last = loc.reached.last;
      is_lowest = loc.reached.is_lowest;
      covered = loc.reached.covered;
      lands = lies_lands f 7 (named_by f slot) loc.lies;
      size = loc.size;
    }

    -- the element lies in its record, and that in the values
    inside : placed f l is ≡ true → element_there f (elements_at v) x ≡ true → LiesIn f (named_by f slot) 8 asked.at (element_size f (data_type_at v))
    inside p h =
        let n = record_read f v r in
        let c = loc.reached.covered in
        let a : suc (n - first_of f slot) * record_bytes f v l ≤ (last_of f slot - first_of f slot + 1) * record_bytes f v l = mul-le-mul_right (record_bytes f v l) (omega (arith, c.first, c.last)) in
        let e = (values_apart f v l (row_majority f)).inside is (nat_or 0 x) p (element_below f (elements_at v) x h) in
        record { begins = omega arith; ends = omega (arith, a, e, loc.size, suc-mul (n - first_of f slot) (record_bytes f v l)) }

    pub in_record_lem : ElementSaid f asked (of_read (in_record f v (shape_of (variable_of f t v)) at is x))
    unfolding in_record place_of
    in_record_lem = rw (vdr_makes f t v (vdr_reads f t v fault)) (go (placed f l is) refl)
      where
        go : (b : Bool) → placed f l is ≡ b
            → ElementSaid f asked (of_read (at_place f v (capped (value_bytes f v)) at x (cond b (Some (capped (element_place f l (row_majority f) is))) None)))
        go true e =
            rw (place_is f t v fault (row_majority f) is (placed_right f l is e), capped_small (value_bytes f v) (small e))
            (element_said f (at + element_place f l (row_majority f) is * value_bytes f v) (elements_at v) x asked (rw (given_placed, e)) (omega (arith, loc.is))
            (vdr_sized f v (vdr_reads f t v fault).fields) order (inside e) loc.lies.inside)
        go false e = rw (given_placed, e)

  abbrev way_to : ℕ → Result ℕ Refusal
  way_to left = record_way f v (variable_of f t v).bytes r left

  in_variable_lem : (bytes left : ℕ) → UnlessStopped (Says bytes f (ask_value k n r is x)) (of_read (in_variable f v left (shape_of (variable_of f t v)) r is x))
  unfolding in_variable
  in_variable_lem bytes left = go (way_to left) (record_found f v r (variable_of f t v).bytes left) (record_refuses (λ m. UnlessStopped Say (Refused m)) tt f tt v r (λ e. tt) (variable_of f t v).bytes left)
    where
      Say : Reply → Type 0
      Say = Says bytes f (ask_value k n r is x)

      go : (s : Result ℕ Refusal) → IfOk s (ToRecord f v r (variable_of f t v).bytes) → IfErr s (λ m. UnlessStopped Say (Refused m))
          → UnlessStopped Say (of_read (in_values f v (shape_of (variable_of f t v)) is x s))
      go (Ok at) w h =
          let loc = subst (λ (b : ℕ). Located f v b (record_read f v r) at) (bytes_are f t v fault) (locate f v (variable_of f t v).bytes r at w) in
          said Say (of_read (in_record f v (shape_of (variable_of f t v)) at is x)) (v, loc.reached.slot, record_found_at at w.way.there loc, in_record_lem at w.way.there loc)
      go (Err m) w h = h

-- ---- AN ENTRY'S VALUE
entry_meets : (f : List ℕ) (b k : ℤ) (w : Wanted) (e : ℕ) → ToEntry b k w f e → meets f (kind_among 5 9 k) e ≡ true
entry_meets f b k w e t = first_met f (kind_among 5 9 k) w (head_of_entries t.adr (kind_among 5 9 k)) 0 e t.entry

-- an entry that was met: its elements have a size, and those that are there lie in it
module _ (f : List ℕ) (k : ℤ) (e : ℕ) (m : meets f (kind_among 5 9 k) e ≡ true) where
  pub entry_lies : Lies f (kind_among 5 9 k) e
  entry_lies = (meets_parts f (kind_among 5 9 k) e m).0

  parts : AedrFields f e
  parts = (aedr_fields f e).0 ((aedr_law f e).0 (entry_kept f e (eq_z k (pos 5)) (meets_parts f (kind_among 5 9 k) e m).1)).right

  pub entry_sized : 1 ≤ element_size f (entry_type_at e)
  entry_sized = parts.typed

  pub entry_element : (x : ℤ) → element_there f (entry_elements_at e) x ≡ true → e + 48 + nat_or 0 x * element_size f (entry_type_at e) + element_size f (entry_type_at e) ≤ e + size_at f e
  entry_element x h =
      let a : suc (nat_or 0 x) * element_size f (entry_type_at e) ≤ nat_at f (entry_elements_at e) * element_size f (entry_type_at e) = mul-le-mul_right (element_size f (entry_type_at e)) (element_below f (entry_elements_at e) x h) in
      omega (arith, a, parts.size, suc-mul (nat_or 0 x) (element_size f (entry_type_at e)))

module _ (f : List ℕ) (b k : ℤ) (w : Wanted) (x : ℤ) where
  pub in_entry : 1 ≤ order_in (encoding_of (file_encoding f)) → (e : ℕ) → ToEntry b k w f e
      → ElementSaid f (entry_asked f e x) (of_read (element_read f (entry_value_at e) (entry_type_at e) (entry_elements_at e) x))
  in_entry order e t =
      let m = entry_meets f b k w e t in
      element_said f (entry_value_at e) (entry_elements_at e) x (entry_asked f e x) refl refl (entry_sized f k e m) order
      (λ h. record { begins = omega arith; ends = omega (arith, entry_element f k e m x h) }) (entry_lies f k e m).inside

-- ---- A PAD VALUE
pad_is : (f : List ℕ) (o : ℕ) → bit_at f (var_flags_at o) 2 ≡ true → pad_bytes f o ≡ value_bytes f o
unfolding pad_bytes
pad_is f o e = rw e

-- it stands behind the variances
pub pad_behind : (f : List ℕ) (k o : ℕ) → o + 128 ≤ (layout_of f k o).variances + 4 * (layout_of f k o).count
pad_behind f k o = go (eqb k 8) refl
  where
    go : (b : Bool) → eqb k 8 ≡ b → o + 128 ≤ (layout_of f k o).variances + 4 * (layout_of f k o).count
    go true e = omega (arith, (z_layout f k o e).2)
    go false e = omega (arith, (r_layout f k o e).2)

module _ (f : List ℕ) (k n x : ℤ) (order : 1 ≤ order_in (encoding_of (file_encoding f))) (v : ℕ) (found : ToVariable k n f v) where
  abbrev kind : ℕ
  kind = kind_among 3 8 k

  rule : (variable_of f kind v).fault ≡ 0
  rule = found_fault f k n v found

  lies : Lies f kind v
  lies = (meets_parts f kind v (listed_met f kind n v found.listed)).0

  -- where it begins, behind the variances
  abbrev begins : ℕ
  begins = (layout_of f kind v).variances + 4 * (layout_of f kind v).count

  ends : bit_at f (var_flags_at v) 2 ≡ true → v + size_at f v ≡ begins + value_bytes f v
  ends e = omega (arith, exact_size f kind v (vdr_reads f kind v rule).exact, pad_is f v e)

  pad_inside : bit_at f (var_flags_at v) 2 ≡ true → element_there f (elements_at v) x ≡ true → LiesIn f v 128 (pad_at f v x) (element_size f (data_type_at v))
  unfolding value_bytes
  pad_inside e h =
      let size = element_size f (data_type_at v) in
      let a : suc (nat_or 0 x) * size ≤ nat_at f (elements_at v) * size = mul-le-mul_right size (element_below f (elements_at v) x h) in
      record { begins = omega (arith, ends e, pad_behind f kind v); ends = omega (arith, ends e, a, suc-mul (nat_or 0 x) size) }

  pub in_pad : ElementSaid f (pad_asked f v x) (of_read (pad_in f v (shape_of (variable_of f kind v)) x))
  unfolding pad_in
  in_pad = rw (vdr_makes f kind v (vdr_reads f kind v rule)) (go (bit_at f (var_flags_at v) 2) refl)
    where
      go : (c : Bool) → bit_at f (var_flags_at v) 2 ≡ c
          → ElementSaid f (pad_asked f v x) (of_read (cond c (element_read f begins (data_type_at v) (elements_at v) x) (Err OutOfRange)))
      go true e =
          element_said f begins (elements_at v) x (pad_asked f v x) (rw e) (omega (arith, ends e))
          (vdr_sized f v (vdr_reads f kind v rule).fields) order (pad_inside e) lies.inside
      go false e = rw e

-- ---- HOW MANY LEVELS
module _ (f : List ℕ) (k n r : ℤ) (bytes : ℕ) where
  abbrev SayLevels : Reply → Type 0
  SayLevels = Says bytes f (ask_levels k n r)

  levels_said : (v : ℕ) → ToVariable k n f v → (s : Result ℕ Refusal) → IfOk s (ToLevels f v r) → IfErr s (λ m. UnlessStopped SayLevels (Refused m))
      → UnlessStopped SayLevels (of_field (levels_field s))
  levels_said v found (Ok m) c h =
      let w = reached f v r c.entry c.way in
      let many : m ≡ suc (length w.way.below) = omega (arith, c.is, w.deep) in
      (v, record { variable = found_variable f k n v found; there = c.way.there; way = w.way }, ap (λ (m : ℕ). Field (pos m)) many)
  levels_said v found (Err m) c h = h

-- ---- FIELDS: each is there or 18
pub part : (b : Bool) (x : ℤ) → of_field (cond b (Ok x) (Err OutOfRange)) ≡ part_told b x
part true x = refl
part false x = refl

pub row_part : (f : List ℕ) (p n : ℕ) (d : ℤ) → of_field (row_field f p n d) ≡ row_told f p n d
unfolding row_field
row_part f p n d = part (index_right d n) (field_at f (p + 4 * nat_or 0 d))

pub size_part : (f : List ℕ) (b : Bool) (p n : ℕ) (d : ℤ)
    → of_field (cond b (row_field f p n d) (Err OutOfRange)) ≡ part_told (b && index_right d n) (field_at f (p + 4 * nat_or 0 d))
size_part f true p n d = row_part f p n d
size_part f false p n d = refl

-- names
name_said : (f : List ℕ) (at : ℕ) → NameSaid f at (Name at (until_nul f at 64))
name_said f at = (until_nul f at 64, refl, record { most = name_most f at 64; bytes = name_bytes f at 64; ends = name_ends f at 64 })

-- what the file says of itself
file_none : (n : ℕ) (f : List ℕ) (w : ℕ) (x : ℤ) → 6 < w → FileSaid n f w (of_field (cond (eqb w 6) (Ok x) (file_field_in f w)))
file_none n f w x h =
    rw (
      ne_eqb w 0 (λ e. omega arith),
      ne_eqb w 1 (λ e. omega arith),
      ne_eqb w 2 (λ e. omega arith),
      ne_eqb w 3 (λ e. omega arith),
      ne_eqb w 4 (λ e. omega arith),
      ne_eqb w 5 (λ e. omega arith),
      ne_eqb w 6 (λ e. omega arith),
      lt-leb w 5 (omega arith),
    )

pub file_part : (n : ℕ) (f : List ℕ) (what : ℕ) (x : ℤ) → x ≡ pos (n - length f) → FileSaid n f what (of_field (cond (eqb what 6) (Ok x) (file_field_in f what)))
file_part n f zero x e = refl
file_part n f (suc zero) x e = refl
file_part n f (suc (suc zero)) x e = refl
file_part n f (suc (suc (suc zero))) x e = refl
file_part n f (suc (suc (suc (suc zero)))) x e = refl
file_part n f (suc (suc (suc (suc (suc zero))))) x e = refl
file_part n f (suc (suc (suc (suc (suc (suc zero)))))) x e = ap Field e
file_part n f (suc (suc (suc (suc (suc (suc (suc what))))))) x e = file_none n f (suc (suc (suc (suc (suc (suc (suc what))))))) x (omega arith)

-- ---- ALL QUESTIONS
module _ (f : List ℕ) where
  abbrev body : List ℕ
  body = body_of f

  abbrev Say : Question → Reply → Type 0
  Say = Says (length f) body

  abbrev Goes : Question → Reply → Type 0
  Goes q = UnlessStopped (Say q)

  -- of the VDR, the ADR and the AEDR that a way finds
  of_variable : (q : Question) (k n : ℤ) (of : Way → Reply) → ((m : Refusal) → of (Err m) ≡ Refused m)
      → ((m : Met) → opened f ≡ true → ToVariable k n body m.at → Goes q (of (Ok m))) → Goes q (of (variable_way f k n))
  of_variable q k n of stops h = go (variable_way f k n) (variable_found f k n) (variable_stops (λ m. Goes q (Refused m)) tt tt f k n)
    where
      go : (w : Way) → Finds (InOpened f (ToVariable k n)) w → IfErr w (λ m. Goes q (Refused m)) → Goes q (of w)
      go (Ok m) t s = h m t.0 t.1
      go (Err m) t s = rw (stops m) s

  of_attribute : (q : Question) (n : ℤ) (of : Way → Reply) → ((m : Refusal) → of (Err m) ≡ Refused m)
      → ((m : Met) → Listed body 4 n m.at → Goes q (of (Ok m))) → Goes q (of (attribute_way f n))
  of_attribute q n of stops h = go (attribute_way f n) (attribute_found f n) (attribute_stops (λ m. Goes q (Refused m)) tt tt f n)
    where
      go : (w : Way) → Finds (InOpened f (λ l. Listed l 4 n)) w → IfErr w (λ m. Goes q (Refused m)) → Goes q (of w)
      go (Ok m) t s = h m t.1
      go (Err m) t s = rw (stops m) s

  of_entry : (q : Question) (b k : ℤ) (w : Wanted) (of : Way → Reply) → ((m : Refusal) → of (Err m) ≡ Refused m)
      → ((m : Met) → opened f ≡ true → ToEntry b k w body m.at → Goes q (of (Ok m))) → Goes q (of (entry_way f b k w))
  of_entry q b k w of stops h = go (entry_way f b k w) (entry_found f b k w) (entry_stops (λ m. Goes q (Refused m)) tt tt f tt b k w)
    where
      go : (s : Way) → Finds (InOpened f (ToEntry b k w)) s → IfErr s (λ m. Goes q (Refused m)) → Goes q (of s)
      go (Ok m) t s = h m t.0 t.1
      go (Err m) t s = rw (stops m) s

  layout_is : (k n : ℤ) (v : ℕ) → ToVariable k n body v → (variable_of body (kind_among 3 8 k) v).dimensions ≡ layout_of body (kind_among 3 8 k) v
  layout_is k n v t = ap (λ (u : Variable). u.dimensions) (vdr_makes body (kind_among 3 8 k) v (vdr_reads body (kind_among 3 8 k) v (found_fault body k n v t)))

  -- of a file that opens
  of_file : (what : ℕ) → Goes (ask_file what) (answer_to f (ask_file what))
  unfolding file_field
  of_file what = go (opened f)
    where
      go : (b : Bool) → Goes (ask_file what) (of_field (cond b (cond (eqb what 6) (Ok (padding f)) (file_field_in body what)) (Err Breach)))
      go true =
          let e : padding f ≡ pos (length f - length body) = ap (λ (n : ℕ). pos (length f - n)) (sym (body_length f)) in
          said (Say (ask_file what)) _ (file_part (length f) body what (padding f) e)
      go false = tt

  of_dimension : (d : ℤ) → Goes (ask_dimension d) (answer_to f (ask_dimension d))
  unfolding dimension_size
  of_dimension d = go (opened f)
    where
      go : (b : Bool) → Goes (ask_dimension d) (of_field (cond b (gdr_size body d) (Err Breach)))
      go true = said (Say (ask_dimension d)) _ (row_part body (r_dim_sizes_at (gdr_at body)) (r_num_dims body (gdr_at body)) d)
      go false = tt

  pub says : (q : Question) → Goes q (answer_to f q)
  unfolding value_read entry_value pad_read variable_field attribute_field entry_field variable_dimensions variable_size variable_variance variable_levels variable_name attribute_name
  says (ask_value k n r is x) =
      of_variable (ask_value k n r is x) k n (λ w. of_read (value_on body (kind_among 3 8 k) r is x w)) (λ m. refl)
      (λ m o t. in_variable_lem body k n r is x (ordered f o) m.at t (length f) m.left)
  says (ask_entry b k w x) =
      of_entry (ask_entry b k w x) b k w (λ s. of_read (entry_on body x s)) (λ m. refl)
      (λ m o t. said (Say (ask_entry b k w x)) (of_read (element_read body (entry_value_at m.at) (entry_type_at m.at) (entry_elements_at m.at) x)) (m.at, found_entry body b k w m.at t, in_entry body b k w x (ordered f o) m.at t))
  says (ask_pad k n x) =
      of_variable (ask_pad k n x) k n (λ w. of_read (pad_on body (kind_among 3 8 k) x w)) (λ m. refl)
      (λ m o t. said (Say (ask_pad k n x)) (of_read (pad_in body m.at (shape_of (variable_of body (kind_among 3 8 k) m.at)) x)) (m.at, found_variable body k n m.at t, in_pad body k n x (ordered f o) m.at t))
  says (ask_file what) = of_file what
  says (ask_dimension d) = of_dimension d
  says (ask_variable k n p) =
      of_variable (ask_variable k n p) k n (λ w. of_field (field_on body (kind_among 3 8 k) p w)) (λ m. refl)
      (λ m o t. said (Say (ask_variable k n p)) _ (m.at, found_variable body k n m.at t, part (is_shown (kind_among 3 8 k) p) (field_at body (m.at + p))))
  says (ask_attribute n p) =
      of_attribute (ask_attribute n p) n (λ w. of_field (field_on body 4 p w)) (λ m. refl)
      (λ m t. said (Say (ask_attribute n p)) _ (m.at, found_attribute body n m.at t, part (is_shown 4 p) (field_at body (m.at + p))))
  says (ask_entry_field b k w p) =
      of_entry (ask_entry_field b k w p) b k w (λ s. of_field (field_on body (kind_among 5 9 k) p s)) (λ m. refl)
      (λ m o t. said (Say (ask_entry_field b k w p)) _ (m.at, found_entry body b k w m.at t, part (is_shown (kind_among 5 9 k) p) (field_at body (m.at + p))))
  says (ask_size k n d) =
      of_variable (ask_size k n d) k n (λ w. of_field (size_on body (kind_among 3 8 k) d (dimensions_on body (kind_among 3 8 k) w))) (λ m. refl)
      (λ m o t.
      rw (layout_is k n m.at t)
      (said (Say (ask_size k n d)) _
      (m.at, found_variable body k n m.at t, size_part body (eqb (kind_among 3 8 k) 8) (layout_of body (kind_among 3 8 k) m.at).sizes (layout_of body (kind_among 3 8 k) m.at).count d)))
  says (ask_variance k n d) =
      of_variable (ask_variance k n d) k n (λ w. of_field (variance_on body d (dimensions_on body (kind_among 3 8 k) w))) (λ m. refl)
      (λ m o t.
      rw (layout_is k n m.at t)
      (said (Say (ask_variance k n d)) _
      (m.at, found_variable body k n m.at t, row_part body (layout_of body (kind_among 3 8 k) m.at).variances (layout_of body (kind_among 3 8 k) m.at).count d)))
  says (ask_levels k n r) =
      of_variable (ask_levels k n r) k n (λ w. of_field (levels_on body r w)) (λ m. refl)
      (λ m o t.
      levels_said body k n r (length f) m.at t (levels_way body m.at r m.left) (levels_found body m.at r m.left)
      (levels_lack (λ m. Goes (ask_levels k n r) (Refused m)) tt body tt m.at r (λ e. tt) m.left))
  says (ask_variable_name k n) =
      of_variable (ask_variable_name k n) k n (λ w. of_name (name_on body (var_name_at 0) w)) (λ m. refl)
      (λ m o t. said (Say (ask_variable_name k n)) _ (m.at, found_variable body k n m.at t, name_said body (var_name_at m.at)))
  says (ask_attribute_name n) =
      of_attribute (ask_attribute_name n) n (λ w. of_name (name_on body (attr_name_at 0) w)) (λ m. refl)
      (λ m t. said (Say (ask_attribute_name n)) _ (m.at, found_attribute body n m.at t, name_said body (attr_name_at m.at)))

-- THE THEOREM
pub answers_say : AnswersSay
answers_say f q = says f q
