-- WHERE A REFUSAL LIES, over the file alone: section 11 of docs/RULES.md, without marks and steps. Assumes nothing.
use Rattle.std.specs.Prelude.{◌≡◌, ◌↔◌, ◌≢◌, ◌⊎◌, true, false, List, ℕ, ◌+◌, ◌≤◌, ◌<◌, pos, negsuc, length, take}
use Rattle.format.specs.Fields.{end_of, bit_at}
use Rattle.records.specs.Layout.{var_flags_at}
use Rattle.records.specs.Rules.{typed_at}
use Rattle.records.specs.Opening.{gdr_at, eof_of}
use Rattle.records.specs.Tiles.{tile_fields, type_uncarried}
use Rattle.states.specs.declared.state.Stage.TheVariants.{Done}
use Rattle.demands.specs.Acceptance.{◌∈◌, Opening, TiledTo, Tiled, Lists, ListsRight, reached}
use Rattle.demands.specs.Demands.{end_stage}

-- a file that opens: "1, 2, 3, 4, 5, 14, 6 in that order" (6.1), and none of them
pub record Opens (f : List ℕ) : Type 0 where
  pub short : length f ≤ 2147483647
  pub opens : Opening f

-- 6.4: "the sweep, links and indexes end at eof": what lies below it
abbrev pub below : List ℕ → List ℕ
below f = take (eof_of f (gdr_at f)) f

-- ---- the tiles stop
-- 7 by 7.2: "fewer than 8 bytes left", but some; 7.2: "size below 8 or past the end, type not in Table 2.1"
abbrev pub NoRecord : List ℕ → ℕ → Type 0
NoRecord f p = (p ≢ end_of f) × ((end_of f < p + 8) ⊎ (tile_fields f (end_of f) p ≡ false))

-- 7.2: "After 7, types 10 to 13 give 14"
abbrev pub NotCarried : List ℕ → ℕ → Type 0
NotCarried f p = (p + 8 ≤ end_of f) × (tile_fields f (end_of f) p ≡ true) × (type_uncarried f p ≡ true)

-- records tile the bytes f up to p, and there is what the fault says
pub record TilesStop (f : List ℕ) (Fault : List ℕ → ℕ → Type 0) (p : ℕ) : Type 0 where
  pub starts : List ℕ
  pub tiled : TiledTo f 8 starts p
  pub fault : Fault f p

-- ---- records
-- records tile the bytes f to their end, and one of them starts at p
pub record RecordAt (f : List ℕ) (p : ℕ) : Type 0 where
  pub starts : List ℕ
  pub tiled : Tiled f 8 starts
  pub start : p ∈ starts

-- the lists of the bytes f obey all rules but that of 13, and p is the first record start, other than 8 and not of type -1, that no link
-- reaches
pub record FirstUnreached (f : List ℕ) (p : ℕ) : Type 0 where
  pub lists : Lists
  pub right : ListsRight f lists
  pub start : p ∈ lists.starts
  pub used : (p ≢ 8) × (typed_at f p (negsuc 0) ≡ false)
  pub unreached : p ∈ reached f lists → ⊥
  pub first : (o : ℕ) → o ∈ lists.starts → o < p → o ≢ 8 → typed_at f o (negsuc 0) ≡ false → o ∈ reached f lists

-- 14 by 2.1: "variable Flags bit 2", of a record that starts at p
pub record CompressedAt (f : List ℕ) (p : ℕ) : Type 0 where
  pub record_at : RecordAt f p
  pub flagged : bit_at f (var_flags_at p) 4 ≡ true

-- the numbers of a link or a list's end, but for 14
abbrev pub OfLink : ℕ → Type 0
OfLink v = ((8 ≤ v) × (v ≤ 12)) ⊎ (v ≡ 23)

-- WHERE IT LIES: the plain run over the file f, with marks at least as long, ends with the number and the location p; 11.4: "Over the file
-- alone"
pub record Locations (f m : List ℕ) (p : ℕ) : Type 0 where
  -- 11.2: "the swept offset for 7": where the tiles stop
  pub seven : (end_stage f m ≡ Done 7 p) ↔ (Opens f × TilesStop (below f) NoRecord p)
  -- 11.2: "and for 14 in the sweep": so too
  pub swept : Opens f → TilesStop (below f) NotCarried p → end_stage f m ≡ Done 14 p
  -- after the opening 14 lies there, or, "14 .. on a claim" (11.2), at a record that says of its values that they are compressed
  pub fourteen : Opens f → end_stage f m ≡ Done 14 p → TilesStop (below f) NotCarried p ⊎ CompressedAt (below f) p
  -- 11.2: "the record holding the link", "the target": a record of the file
  pub linked : (v : ℕ) → OfLink v → end_stage f m ≡ Done v p → Opens f × RecordAt (below f) p
  -- 11.2: "the target for .. 23": an index record
  pub deeper : end_stage f m ≡ Done 23 p → typed_at (below f) p (pos 6) ≡ true
  -- 11.2: "the first unclaimed record for 13": the first that no link reaches
  pub thirteen : (end_stage f m ≡ Done 13 p) ↔ (Opens f × FirstUnreached (below f) p)
  -- 11.2: "0 for the others": a refusal of the opening has no location
  pub unopened : (v : ℕ) → (Opens f → ⊥) → end_stage f m ≡ Done v p → p ≡ 0

abbrev pub WhereItLies : Type 0
WhereItLies = (f m : List ℕ) (p : ℕ) → length f ≤ length m → Locations f m p
