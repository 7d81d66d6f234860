-- THE HOLDER of a link: "the record holding the link" (11.2). Where the walk stands says which it is; nothing is saved for it. Assumes
-- nothing.
use Rattle.std.specs.Prelude.{ℕ, ◌-◌, cond, eqb}
use Rattle.records.specs.Layout.{cdr_offset, next_at, head_of_r_variables, head_of_z_variables, head_of_attributes, head_of_unused, head_of_gr_entries, head_of_z_entries, head_of_index}
use Rattle.walk.specs.declared.positions.Walk as W
use Rattle.walk.specs.declared.positions.Walk.TheVariants.{Start, Vars, Chain, Entry, Attrs, Entries, Unused}

-- where a link stands in its record: the head of a list of which none is taken yet, told by 0; else the last one's "the link to the next
-- one at 8" (4.3)
abbrev pub link_in : ℕ → ℕ → ℕ
link_in taken head = cond (eqb taken 0) head (next_at 0)

-- where the head of the variables of a kind stands in the GDR (4.5), and that of an attribute's entries of a kind in its ADR (4.6)
abbrev pub variables_head : ℕ → ℕ
variables_head k = cond (eqb k 8) (head_of_z_variables 0) (head_of_r_variables 0)

abbrev pub entries_head : ℕ → ℕ
entries_head k = cond (eqb k 9) (head_of_z_entries 0) (head_of_gr_entries 0)

-- the record that a link at p stands in. The CDR, at 8, has the link to the GDR. 4.5: "rVDR head 8 .. zVDR head 12 .. ADR head 16 .. UIR
-- head 44"; 4.8: "VXRhead 20"; 4.6: "AgrEDR head 12 .. AzEDR head 36". An index entry stands in its VXR. A link too low for that, which
-- only numbers made up have, gives 0; 11.3: "what would lie below 0 is 0"
unfoldable pub holder_of : W.Walk → ℕ
holder_of Start = cdr_offset
holder_of (Vars k p n greatest) = p - link_in n (variables_head k)
holder_of (Chain u p x floor covered) = p - link_in x (head_of_index 0)
holder_of (Entry u x i floor covered) = x
holder_of (Attrs p n) = p - link_in n (head_of_attributes 0)
holder_of (Entries k a n p e greatest) = p - link_in e (entries_head k)
holder_of (Unused p b) = p - link_in b (head_of_unused 0)
