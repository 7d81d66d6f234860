-- Marks: what the sweep writes, and what the walk's last step looks at. Assumes nothing.
use Rattle.std.specs.Prelude.{ℕ, zero, suc, ◌+◌, Bool, cond, not, ◌&&◌, ◌||◌, List, ◌++◌, length, get_or, take, drop, set, replicate, ltb, leb, eqb, negsuc}
use Rattle.format.specs.Fields.{end_of}
use Rattle.records.specs.Rules.{size_at, typed_at}
use Rattle.records.specs.Breaches.{told}
use Rattle.marks.specs.declared.Ending.{Ending}

-- zeros in place of the n marks from an offset on
unfoldable pub cleared : List ℕ → ℕ → ℕ → List ℕ
cleared m at n = take at m ++ (replicate n 0 ++ drop (at + n) m)

-- 7.3: "sets the mark at the record's start to 1 and its other marks to 0"
unfoldable pub marked : List ℕ → ℕ → ℕ → List ℕ
marked m at n = set (cleared m at n) at 1

-- 8.4: "a link below 8, past the file's end, or with a mark other than 1 or 2 is no start"
unfoldable pub start_at : List ℕ → List ℕ → ℕ → Bool
start_at f m t = leb 8 t && ltb t (end_of f) && (eqb (get_or m t 0) 1 || eqb (get_or m t 0) 2)

-- 8.15: "a record other than the CDR .. whose type is not -1 is unclaimed"
unfoldable pub unclaimed_at : List ℕ → List ℕ → ℕ → Bool
unclaimed_at f m o = not (eqb o 8) && not (typed_at f o (negsuc 0)) && not (eqb (get_or m o 0) 2)

-- a record that another or the end follows: 8 bytes or more, and not past the end
unfoldable pub followed_at : List ℕ → ℕ → Bool
followed_at f o = leb 8 (size_at f o) && leb (o + size_at f o) (end_of f)

-- what the walk's last step finds, a number, and the record that it finds it at
pub record Found : Type 0 where
  pub number : ℕ
  pub at : ℕ

abbrev pub found_told : Ending → Found
found_told e = record { number = told e.verdict; at = e.at }

abbrev pub found : ℕ → ℕ → Found
found v o = record { number = v; at = o }

-- from record to record, n at most, and where that stops: 0 at the end; 20 if size and type pass it; 13 if the record is unclaimed; 20 if
-- nothing follows it
unfoldable pub left_from : List ℕ → List ℕ → ℕ → ℕ → Found
left_from f m zero o = found 20 o
left_from f m (suc n) o =
    let rest = left_from f m n (o + size_at f o) in
    cond (eqb o (end_of f)) (found 0 o)
    (cond (ltb (end_of f) (o + 8)) (found 20 o) (cond (unclaimed_at f m o) (found 13 o) (cond (followed_at f o) rest (found 20 o))))

-- 8.15: "At the UIR end: 13 if a record .. is unclaimed, else accepted"; 11.2: "the first unclaimed record for 13"
unfoldable pub left_of : List ℕ → List ℕ → Found
left_of f m = left_from f m (length f) 8
