-- The walk along the links, a step a link, without marks: sections 5 and 8 of docs/RULES.md. Assumes nothing.
use Rattle.std.specs.Prelude.{ℕ, ◌+◌, ◌-◌, min, max, Bool, false, cond, ◌&&◌, ◌||◌, List, [], ◌∷◌, ltb, leb, eqb, ℤ, pos, negsuc}
use Rattle.format.specs.Fields.{end_of, is_at, same_at, at_least, nat_at, link_at, after_at, before}
use Rattle.format.specs.Numbers.{first, unless}
use Rattle.records.specs.Rules.{typed_at, reach_of}
use Rattle.records.specs.Layout.{next_at, head_of_r_variables, head_of_z_variables, head_of_attributes, head_of_unused, nr_vars_at, num_attr_at, r_max_rec_at, nz_vars_at, head_of_gr_entries, attr_num_at, gr_count_at, head_of_z_entries, z_count_at, maximum_after, entry_attr_at, entry_num_at, max_rec_at, head_of_index, tail_of_index, var_num_at, previous_at}
use Rattle.records.specs.Opening.{gdr_at}
use Rattle.records.specs.Attributes.{adr_rule, aedr_rule}
use Rattle.records.specs.Index.{used_at, vxr_rule, index_at, entry_of, entry_covers, vvr_rule}
use Rattle.records.specs.Unused.{uir_rule}
use Rattle.records.specs.Index.{Entry}
use Rattle.variables.specs.Vdr.{carried_of, variable_of}
use Rattle.variables.specs.Vdr.{Variable}
use Rattle.walk.specs.Levels.{is_none, most_of, room_below}
use Rattle.walk.specs.declared.positions.Var.{Var}
use Rattle.walk.specs.declared.positions.Level.{Level}
use Rattle.walk.specs.declared.positions.Levels.{Levels}
use Rattle.walk.specs.declared.positions.Walk as W
use Rattle.walk.specs.declared.positions.Walk.TheVariants.{Start, Vars, Chain, Entry as AtEntry, Attrs, Entries, Unused}
use Rattle.walk.specs.declared.positions.Link as L
use Rattle.walk.specs.declared.positions.Link.TheVariants.{Past, Zero, To}
use Rattle.walk.specs.declared.positions.Step as T
use Rattle.walk.specs.declared.positions.Step.TheVariants.{Over, End, Take, Down, Up}

-- 8.5: "8 for its type: another than the one asked for"; 20 if the file ends before it
unfoldable pub type_number : List ℕ → ℕ → ℤ → ℕ
type_number f o t = cond (ltb (end_of f) (o + 8)) 20 (unless 8 (typed_at f o t))

-- a link to the record o that goes on at next if nothing refuses it; where something does, next means nothing and is Start
abbrev pub takes : ℕ → ℕ → ℕ → ℕ → W.Walk → T.Step
takes early o typed late next = Take (cond (eqb early 0 && eqb late 0) next Start) early o typed late

-- where the link that stands at p leads
unfoldable pub leads_to : List ℕ → ℕ → L.Link
leads_to f p = cond (ltb (end_of f) (p + 4)) Past (cond (eqb (link_at f p) 0) Zero (To (link_at f p)))

-- the step at a link, by where it leads: 20 if the file ends before it; 8.13: "A zero link ends a list"
abbrev pub by_link : L.Link → T.Step → (ℕ → T.Step) → T.Step
by_link Past over taken = End 20
by_link Zero over taken = over
by_link (To o) over taken = taken o

-- a list, at one of its links: what its end comes to, the type of its records, and of a record the number of its rule and its place, and
-- where the walk goes on in it
pub record Listing : Type 0 where
  pub over : T.Step
  pub typed : ℤ
  pub number : ℕ → ℕ
  pub next : ℕ → W.Walk

-- a link to the record o of a list
abbrev pub claim : List ℕ → Listing → ℕ → T.Step
claim f l o = takes 0 o (type_number f o l.typed) (l.number o) (l.next o)

-- THE STEP AT A LINK OF A LIST, which stands at p; 8.16: "the link itself"
unfoldable pub list_step : List ℕ → ℕ → Listing → T.Step
list_step f p l = by_link (leads_to f p) l.over (claim f l)

-- the CDR's link to the GDR lies before the file's end; so it does in every file that an opening noted
unfoldable pub gdr_named : List ℕ → Bool
gdr_named f = leb 20 (end_of f)

-- a list of the GDR is over; 20 if the link to the GDR passes the file's end
abbrev pub over_by : List ℕ → ℕ → W.Walk → T.Step
over_by f number next = cond (gdr_named f) (Over next number) (End 20)

-- 11 unless the field at p is z; 20 if it passes the file's end; 8.16: "at a list's end each field that is compared"
unfoldable pub field_number : List ℕ → ℕ → ℤ → ℕ
field_number f p z = cond (ltb (end_of f) (p + 4)) 20 (unless 11 (is_at f p z))

-- 8.13: "counts equal lengths; each maximum is the greatest ..": a list's count at p, then its maximum at q; greatest is the maximum + 1
unfoldable pub tallied : List ℕ → ℕ → ℕ → ℕ → ℕ → ℕ
tallied f p n q greatest = first (field_number f p (pos n) ∷ field_number f q (before greatest) ∷ [])

-- ---- variables: NrVars 24, NzVars 40; 8.13: "rMaxRec is the greatest MaxRec of rVariables or -1"
unfoldable pub vars_tally : List ℕ → ℕ → ℕ → ℕ → ℕ
vars_tally f k n greatest = cond (eqb k 8) (field_number f (nz_vars_at (gdr_at f)) (pos n)) (tallied f (nr_vars_at (gdr_at f)) n (r_max_rec_at (gdr_at f)) greatest)

-- 8.1: "the GDR's heads r, z, ADR, UIR" at 8, 12, 16, 44
abbrev pub after_vars : List ℕ → ℕ → W.Walk
after_vars f k = cond (eqb k 8) (Attrs (head_of_attributes (gdr_at f)) 0) (Vars 8 (head_of_z_variables (gdr_at f)) 0 0)

-- 8.3: "14, 10, 11": compressed values; the VDR's rule; 8.7: "Num is the place in its list from 0"; 8.6: "a VDR's Flags .. then the rule of
-- the record"
unfoldable pub var_number : List ℕ → ℕ → ℕ → ℕ → ℕ
var_number f k n o = first (carried_of f o ∷ (variable_of f k o).fault ∷ unless 11 (is_at f (var_num_at o) (pos n)) ∷ [])

-- 8.2: "VDR: VXRhead, next": its index chain begins at 20
abbrev pub into_index : List ℕ → ℕ → ℕ → ℕ → ℕ → W.Walk
into_index f k n greatest o =
    Chain (record { kind = k; vdr = o; place = n; greatest = max (after_at f (max_rec_at o)) greatest }) (head_of_index o) 0 0 false

abbrev pub vars_over : List ℕ → ℕ → ℕ → ℕ → T.Step
vars_over f k n greatest = over_by f (vars_tally f k n greatest) (after_vars f k)

abbrev pub vars_list : List ℕ → ℕ → ℕ → ℕ → Listing
vars_list f k n greatest =
    record { over = vars_over f k n greatest; typed = pos k; number = var_number f k n; next = into_index f k n greatest }

-- ---- an index. 8.13: "VXRtail .. is the last VXR, or 0 if there is none"; 8.14: "MaxRec, unless -1, lies in the range of an entry that
-- names values; else 12"
unfoldable pub chain_tally : List ℕ → ℕ → ℕ → Bool → ℕ
chain_tally f v last covered = first (field_number f (tail_of_index v) (pos last) ∷ unless 12 (is_at f (max_rec_at v) (negsuc 0) || covered) ∷ [])

abbrev pub chain_over : List ℕ → Var → ℕ → Bool → T.Step
chain_over f u last covered =
    Over (Vars u.kind (next_at u.vdr) (u.place + 1) u.greatest) (chain_tally f u.vdr last covered)

-- 8.2: "VXR: each used offset, next": entry i, or where there are no more the link to the next VXR; 10.5: "floor is the least that the next
-- First may be"
abbrev pub entered : List ℕ → Var → ℕ → ℕ → ℕ → Bool → W.Walk
entered f u x i floor covered = cond (ltb i (used_at f x)) (AtEntry u x i floor covered) (Chain u (next_at x) x floor covered)

-- a lower record is over: on to the neighbour of the entry that named it, in the record of the nearest level; 20 if that record's used
-- passes the file's end; 8.19: "its VXR's used past the end is 20"
abbrev pub lower_over : List ℕ → Var → Level → Bool → T.Step
lower_over f u near covered =
    cond (ltb (end_of f) (near.vxr + 20)) (End 20) (Up (entered f u near.vxr near.next (near.last + 1) covered))

-- the top chain: VXRhead or a next, to a VXR
abbrev pub chain_list : List ℕ → Var → ℕ → ℕ → Bool → Listing
chain_list f u last floor covered =
    record { over = chain_over f u last covered; typed = pos 6; number = vxr_rule f; next = λ o. entered f u o 0 floor covered }

-- the next of a lower record, which stands at p, and which its claim has found to be zero (8.10); 8.19: "Where a made-up state stands at a
-- lower next that is not zero, it is 11"
unfoldable pub lower_next : List ℕ → Var → Level → ℕ → Bool → T.Step
lower_next f u near p covered = by_link (leads_to f p) (lower_over f u near covered) (λ o. End 11)

-- a link of an index
abbrev pub chain_step : List ℕ → Level → Var → ℕ → ℕ → ℕ → Bool → T.Step
chain_step f near u p last floor covered =
    cond (is_none near) (list_step f p (chain_list f u last floor covered)) (lower_next f u near p covered)

-- MaxRec of the VDR v lies in an entry's range
abbrev pub covers : List ℕ → ℕ → Entry → Bool
covers f v e = at_least f (max_rec_at v) (pos 0) && entry_covers e (nat_at f (max_rec_at v))

-- 8.17: "the VVR's own size, 10 below 8; the VDR's rule, 10 or 20; then the VVR's rule"
unfoldable pub values_number : List ℕ → Variable → Entry → ℕ
values_number f v e = first (reach_of f e.link 8 ∷ v.fault ∷ vvr_rule f e.link (e.last - e.first + 1) v.bytes ∷ [])

abbrev pub entry_refused : Entry → ℕ → ℕ → T.Step
entry_refused e typed late = Take Start e.fault e.link typed late

-- an entry that names values
abbrev pub values_step : List ℕ → Var → ℕ → ℕ → Bool → Entry → T.Step
values_step f u x i covered e =
    takes e.fault e.link (type_number f e.link (pos 7)) (values_number f (variable_of f u.kind u.vdr) e)
    (entered f u x (i + 1) (e.last + 1) (covered || covers f u.vdr e))

-- the lower record's rule; 8.10: "A lower record has next 0, else 11, on its claim"
unfoldable pub lower_number : List ℕ → ℕ → ℕ
lower_number f o = first (vxr_rule f o ∷ unless 11 (is_at f (next_at o) (pos 0)) ∷ [])

-- an entry that names an index record: "23, looked for right after the type" (8.9); 8.12: "entries are taken before the naming entry's
-- neighbour". Where room, a level more may lie below. An entry whose range or record is refused is a link that is refused
abbrev pub lower_step : List ℕ → Var → ℕ → ℕ → Bool → Bool → Entry → T.Step
lower_step f u x i covered room e =
    cond (eqb e.fault 0 && eqb (lower_number f e.link) 0)
    (Down (entered f u e.link 0 e.first covered) e.link (unless 23 room) (record { vxr = x; next = i + 1; last = e.last }))
    (entry_refused e (unless 23 room) (lower_number f e.link))

-- an entry whose own range refuses it, of the variable v: its other numbers count no more
abbrev pub entry_faulty : List ℕ → Variable → Bool → Entry → T.Step
entry_faulty f v room e =
    cond (index_at f e.link) (entry_refused e (unless 23 room) (lower_number f e.link))
    (entry_refused e (type_number f e.link (pos 7)) (values_number f v e))

abbrev pub entry_step : List ℕ → Var → ℕ → ℕ → Bool → Bool → Entry → T.Step
entry_step f u x i covered room e = cond (index_at f e.link) (lower_step f u x i covered room e) (values_step f u x i covered e)

-- ---- attributes: NumAttr 28; an attribute's g/r entries are counted at 24, its z entries at 40, the maximum behind the count
unfoldable pub attr_number : List ℕ → ℕ → ℕ → ℕ
attr_number f n o = first (adr_rule f o ∷ unless 11 (is_at f (attr_num_at o) (pos n)) ∷ [])

abbrev pub attrs_over : List ℕ → ℕ → T.Step
attrs_over f n = over_by f (field_number f (num_attr_at (gdr_at f)) (pos n)) (Unused (head_of_unused (gdr_at f)) 0)

abbrev pub attrs_list : List ℕ → ℕ → Listing
attrs_list f n = record { over = attrs_over f n; typed = pos 4; number = attr_number f n; next = λ o. Entries 5 o n (head_of_gr_entries o) 0 0 }

-- where in an ADR the entries of a kind are counted
abbrev pub count_in : ℕ → ℕ
count_in k = cond (eqb k 9) (z_count_at 0) (gr_count_at 0)

unfoldable pub entries_tally : List ℕ → ℕ → ℕ → ℕ → ℕ → ℕ
entries_tally f k a n greatest = tallied f (a + count_in k) n (maximum_after (a + count_in k)) greatest

-- 8.2: "ADR: AgrEDR head, AzEDR head, next" at 12, 36, 8
abbrev pub after_entries : ℕ → ℕ → ℕ → W.Walk
after_entries k a n = cond (eqb k 9) (Attrs (next_at a) (n + 1)) (Entries 9 a n (head_of_z_entries a) 0 0)

abbrev pub entries_over : List ℕ → ℕ → ℕ → ℕ → ℕ → ℕ → T.Step
entries_over f k a n e greatest = Over (after_entries k a n) (entries_tally f k a e greatest)

-- 8.7: "an entry's Num is its attribute's"; 20 if that one passes the file's end
unfoldable pub num_number : List ℕ → ℕ → ℕ → ℕ
num_number f a o = cond (ltb (end_of f) (a + 24)) 20 (unless 11 (same_at f (entry_attr_at o) (attr_num_at a)))

unfoldable pub entry_number : List ℕ → ℕ → ℕ → ℕ
entry_number f a o = first (aedr_rule f o ∷ num_number f a o ∷ [])

-- one more entry; 8.18: "stops at 2,147,483,648, which no field can say"
unfoldable pub one_more : ℕ → ℕ
one_more n = min (n + 1) 2147483648

abbrev pub entries_list : List ℕ → ℕ → ℕ → ℕ → ℕ → ℕ → Listing
entries_list f k a n e greatest =
    record {
      over = entries_over f k a n e greatest;
      typed = pos k;
      number = entry_number f a;
      next = λ o. Entries k a n (next_at o) (one_more e) (max (after_at f (entry_num_at o)) greatest);
    }

-- ---- unused records: "a UIR's previous is its predecessor, 0 for the first" (8.7)
unfoldable pub unused_number : List ℕ → ℕ → ℕ → ℕ
unused_number f b o = first (uir_rule f o ∷ unless 11 (is_at f (previous_at o) (pos b)) ∷ [])

abbrev pub unused_list : List ℕ → ℕ → Listing
unused_list f b = record { over = End 0; typed = negsuc 0; number = unused_number f b; next = λ o. Unused (next_at o) o }

-- ---- a step at the CDR's link to the GDR, and at each kind of link
abbrev pub start_step : List ℕ → T.Step
start_step f = cond (gdr_named f) (takes 0 (gdr_at f) (type_number f (gdr_at f) (pos 2)) 0 (Vars 3 (head_of_r_variables (gdr_at f)) 0 0)) (End 20)

-- THE WALK, a case for each kind of link. Of the levels above the record that is walked a step looks at the nearest, near, and at whether
-- there is room for one more; 10.10: "What a step leaves, where it does not refuse"
unfoldable pub walk_step_by : List ℕ → Level → Bool → W.Walk → T.Step
walk_step_by f near room Start = start_step f
walk_step_by f near room (Vars k p n greatest) = list_step f p (vars_list f k n greatest)
walk_step_by f near room (Chain u p last floor covered) = chain_step f near u p last floor covered
walk_step_by f near room (AtEntry u x i floor covered) = entry_step f u x i covered room (entry_of f x i floor (most_of near))
walk_step_by f near room (Attrs p n) = list_step f p (attrs_list f n)
walk_step_by f near room (Entries k a n p e greatest) = list_step f p (entries_list f k a n e greatest)
walk_step_by f near room (Unused p b) = list_step f p (unused_list f b)

abbrev pub walk_step : List ℕ → Levels → W.Walk → T.Step
walk_step f up w = walk_step_by f up.a (room_below up) w
