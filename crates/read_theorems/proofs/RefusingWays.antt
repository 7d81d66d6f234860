-- What the ways say of the cases of 15, 16 and 17, of every file. Assumes nothing.
use mathlib.Core.Path.{◌≡◌, refl, sym, ap, ◌∙◌, subst}
use mathlib.Core.Logic.{◌⊎◌, inl, inr}
use mathlib.Core.Bool.{Bool, true, false, cond, true≢false}
use mathlib.Core.List.{List, [], ◌∷◌}
use Prim.Native.Nat.{ℕ, zero, suc, ◌+◌, ◌≤◌, ◌<◌}
use native.Mathlib.Omega.{arith}
use lib.Dec.{ltb}
use lib.IntN.{ℤ}
use lib.ListN.{length}
use borrow.Author.Tests.{ltb-true, ltb-false}
use Rattle.format.specs.Fields.{nat_or}
use Rattle.records.specs.Layout.{next_at}
use Rattle.records.specs.Opening.{gdr_at, body_of}
use Rattle.records.specs.declared.index.Range.{Range}
use Rattle.lookup.specs.Refusals.{order_of}
use Rattle.lookup.specs.Lists.{met_at, Way, opened, allowance, meets, wanted_at, head_of_list, file_way, of_kinds, kind_among, variable_way, attribute_way, head_of_entries, entries_of, entry_way}
use Rattle.lookup.specs.declared.refusals.Refusal.{Refusal}
use Rattle.lookup.specs.declared.refusals.Refusal.TheVariants.{Breach, NoSuch, NoNumber}
use Rattle.lookup.specs.declared.lists.Wanted.{Wanted}
use Rattle.lookup.proofs.Kept.{meets_parts}
use Rattle.lookup.proofs.Sought.{nth, First, Finds, InOpened, Listed, place_listed, ToVariable, variable_found, attribute_found, ToEntry, entry_found}
use Rattle.lookup.proofs.Stops.{file_stops, variable_stops, attribute_stops, entry_stops}
use Rattle.lookup.proofs.Chains.{ToLowest}
use Rattle.demands.specs.Acceptance.{◌∈◌, Each, Linked}
use Rattle.read_theorems.specs.Refusing.{Subject, TheFile, AVariable, AnAttribute, AnEntry, ARecord, way_refusals, NoneListed, NoVariable, numbered_at, NoneWanted, NoneCovers, NoSubject}
use Rattle.read_theorems.specs.Limit.{way_within}
use Rattle.read_theorems.proofs.AnsweringIndexes.{reached_in}
use Rattle.lookup.specs.Indexes.{record_read}
use Rattle.read_theorems.proofs.Down.{nth_same, reached}
use Rattle.std.specs.Prelude.{Ok, Err, IfErr}

-- ---- a list by its links, and its records one by one
module _ (f : List ℕ) where
  linked_over : (xs : List ℕ) (p : ℕ) → Linked f (λ x. x) p xs → nth f p (length xs) ≡ 0
  linked_over [] p h = h
  linked_over (x ∷ xs) p h = ap (λ (o : ℕ). nth f (next_at o) (length xs)) h.0 ∙ linked_over xs (next_at x) h.1

  -- a fact of each by its place
  each_nth : (W : ℕ → ℕ → Type 0) (xs : List ℕ) (p : ℕ) → Linked f (λ x. x) p xs → Each xs (λ earlier x. W (length earlier) x) → (h : ℕ) → h < length xs → W h (nth f p h)
  each_nth W [] p l g h n = absurd (omega arith)
  each_nth W (x ∷ xs) p l g zero n = rw l.0 (g [] xs x refl)
  each_nth W (x ∷ xs) p l g (suc h) n =
      rw l.0
      (each_nth (λ i o. W (suc i) o) xs (next_at x) l.1 (λ earlier later y e. g (x ∷ earlier) later y (ap (λ (l : List ℕ). x ∷ l) e)) h (omega arith))

  -- no record is met at 0
  none_met : (t : ℕ) → meets f t 0 ≡ true → ⊥
  none_met t e = absurd (omega (arith, (meets_parts f t 0 e).0.placed))

  over_met : (t p : ℕ) (xs : List ℕ) → Linked f (λ x. x) p xs → meets f t (nth f p (length xs)) ≡ true → ⊥
  over_met t p xs l e = none_met t (subst (λ (o : ℕ). meets f t o ≡ true) (linked_over xs p l) e)

  -- so what is found is not missing
  listed_there : (t : ℕ) (n : ℤ) (o : ℕ) → Listed f t n o → NoneListed f t n → ⊥
  listed_there t n o l (inl e) = true≢false (sym l.least ∙ e)
  listed_there t n o l (inr (xs, linked, few)) = over_met t (head_of_list f t) xs linked (l.met (length xs) few)

  wanted_there : (t : ℕ) (w : Wanted) (p o : ℕ) → First f t w p 0 o → (xs : List ℕ) → Linked f (λ x. x) p xs
      → Each xs (λ earlier x. wanted_at f w (length earlier) x ≡ false)
      → ⊥
  wanted_there t w p o r xs l g = go (ltb r.place (length xs)) refl
    where
      go : (b : Bool) → ltb r.place (length xs) ≡ b → ⊥
      go true e =
          let none = each_nth (λ i x. wanted_at f w i x ≡ false) xs p l g r.place (ltb-true r.place (length xs) e) in
          let same : 0 + r.place ≡ r.place = omega arith in
          true≢false (sym (rw same at r.wanted) ∙ subst (λ (o : ℕ). wanted_at f w r.place o ≡ false) r.is none)
      go false e = over_met t p xs l (r.met (length xs) (omega (arith, ltb-false r.place (length xs) e)))

  -- ---- an index: what was found in it is one of its lowest entries
  pub covers_none : (v : ℕ) (r : ℤ) (d : Range) → ToLowest f v r d → NoneCovers f v r → ⊥
  covers_none v r d t (there, xs, linked, none) =
      let w = reached f v r d t in
      none w.slot (reached_in f v xs linked (record_read f v r) d t.down.depth w) w.covered

-- ---- THE WAY TO A SUBJECT, of a file
abbrev pub FoundAt : List ℕ → Subject → ℕ → Type 0
FoundAt f TheFile o = Unit {0}
FoundAt f (AVariable k n) o = ToVariable k n f o
FoundAt f (AnAttribute n) o = Listed f 4 n o
FoundAt f (AnEntry a k w) o = ToEntry a k w f o
FoundAt f (ARecord k n r) o = ToVariable k n f o

in_body : (f : List ℕ) (Fact : List ℕ → ℕ → Type 0) (w : Way) → Finds (InOpened f Fact) w → Finds (Fact (body_of f)) w
in_body f Fact (Ok o) h = h.1
in_body f Fact (Err m) h = tt

abbrev pub way : List ℕ → Subject → Way
way f s = way_within (allowance f) f s

pub way_found : (f : List ℕ) (s : Subject) → Finds (FoundAt (body_of f) s) (way f s)
unfolding variable_way attribute_way entry_way
way_found f TheFile = go (opened f)
  where
    go : (b : Bool) → Finds (λ o. Unit {0}) (cond b (met_at (gdr_at (body_of f)) (allowance f)) (Err Breach))
    go true = tt
    go false = tt
way_found f (AVariable k n) = in_body f (ToVariable k n) (way f (AVariable k n)) (variable_found f k n)
way_found f (AnAttribute n) = in_body f (λ l. Listed l 4 n) (way f (AnAttribute n)) (attribute_found f n)
way_found f (AnEntry a k w) = in_body f (ToEntry a k w) (way f (AnEntry a k w)) (entry_found f a k w)
way_found f (ARecord k n r) = in_body f (ToVariable k n) (way f (ARecord k n r)) (variable_found f k n)

pub way_stops : (P : Refusal → Type 0) (f : List ℕ) (s : Subject) → ((v : Refusal) → v ∈ way_refusals s → P v) → IfErr (way f s) P
unfolding variable_way attribute_way entry_way
way_stops P f TheFile h = go (opened f)
  where
    go : (b : Bool) → IfErr (cond b (met_at (gdr_at (body_of f)) (allowance f)) (Err Breach)) P
    go true = tt
    go false = h Breach (inl refl)
way_stops P f (AVariable k n) h = variable_stops P (h Breach (inl refl)) (h NoSuch (inr (inl refl))) f k n
way_stops P f (AnAttribute n) h = attribute_stops P (h Breach (inl refl)) (h NoSuch (inr (inl refl))) f n
way_stops P f (AnEntry a k w) h = entry_stops P (h Breach (inl refl)) (h NoSuch (inr (inl refl))) f (h NoNumber (inr (inr (inl refl)))) a k w
way_stops P f (ARecord k n r) h = variable_stops P (h Breach (inl refl)) (h NoSuch (inr (inl refl))) f k n

-- ---- WHERE A CASE HOLDS the way stops, with its refusal or one that comes before it
abbrev pub StopsBy : ℕ → Way → Type 0
StopsBy n (Ok o) = ⊥
StopsBy n (Err m) = order_of m ≤ n

stops_by : (n : ℕ) (Fact : ℕ → Type 0) (w : Way) → IfErr w (λ m. order_of m ≤ n) → Finds Fact w → ((o : ℕ) → Fact o → ⊥) → StopsBy n w
stops_by n Fact (Ok o) s h none = none o.at h
stops_by n Fact (Err m) s h none = s

pub numbered_is : (f : List ℕ) (t : ℕ) (n : ℤ) (o : ℕ) → Listed f t n o → numbered_at f t n ≡ o
numbered_is f t n o l = sym (nth_same f (head_of_list f t) (nat_or 0 n)) ∙ l.is

module _ (f : List ℕ) where
  variable_there : (k n : ℤ) (o : ℕ) → ToVariable k n (body_of f) o → NoVariable (body_of f) k n → ⊥
  variable_there k n o r (inl e) = true≢false (sym r.kind ∙ e)
  variable_there k n o r (inr e) = listed_there (body_of f) (kind_among 3 8 k) n o r.listed e

  no_variable : (k n : ℤ) → NoVariable (body_of f) k n → StopsBy 1 (way f (AVariable k n))
  unfolding variable_way
  no_variable k n h =
      stops_by 1 (ToVariable k n (body_of f)) (way f (AVariable k n)) (variable_stops (λ m. order_of m ≤ 1) (omega arith) (omega arith) f k n)
      (way_found f (AVariable k n)) (λ o r. variable_there k n o r h)

  -- 15
  pub no_subject : (s : Subject) → NoSubject (body_of f) s → StopsBy 1 (way f s)
  unfolding attribute_way
  no_subject TheFile h = absurd h
  no_subject (AVariable k n) h = no_variable k n h
  no_subject (AnAttribute n) h =
      stops_by 1 (Listed (body_of f) 4 n) (way f (AnAttribute n)) (attribute_stops (λ m. order_of m ≤ 1) (omega arith) (omega arith) f n)
      (way_found f (AnAttribute n)) (λ o r. listed_there (body_of f) 4 n o r h)
  no_subject (AnEntry a k w) h = go (opened f) (of_kinds 5 9 k) refl (file_way f 4 a) (file_stops (λ m. order_of m ≤ 1) (omega arith) (omega arith) f 4 refl a) (place_listed (body_of f) 4 a (allowance f)) h
    where
      go : (b c : Bool) → of_kinds 5 9 k ≡ c → (s : Way) → IfErr s (λ m. order_of m ≤ 1) → Finds (Listed (body_of f) 4 a) s
          → (of_kinds 5 9 k ≡ false) ⊎ NoneListed (body_of f) 4 a
          → StopsBy 1 (cond b (cond c (entries_of (body_of f) (kind_among 5 9 k) w s) (Err NoSuch)) (Err Breach))
      go false c e s p l h = omega arith
      go true false e s p l h = omega arith
      go true true e (Err m) p l h = p
      go true true e (Ok o) p l (inl q) = absurd (true≢false (sym e ∙ q))
      go true true e (Ok o) p l (inr q) = absurd (listed_there (body_of f) 4 a o.at l q)
  no_subject (ARecord k n r) h = no_variable k n h

  -- 16 of an entry
  entry_there : (a k : ℤ) (w : Wanted) (o : ℕ) → ToEntry a k w (body_of f) o → NoneWanted (body_of f) a k w → ⊥
  entry_there a k w o r (es, linked, none) =
      let b = body_of f in
      let t = kind_among 5 9 k in
      wanted_there b t w (head_of_entries r.adr t) o r.entry es
      (subst (λ (d : ℕ). Linked b (λ e. e) (head_of_entries d t) es) (numbered_is b 4 a r.adr r.attribute) linked) none

  pub no_entry : (a k : ℤ) (w : Wanted) → NoneWanted (body_of f) a k w → StopsBy 2 (way f (AnEntry a k w))
  unfolding entry_way
  no_entry a k w h =
      stops_by 2 (ToEntry a k w (body_of f)) (way f (AnEntry a k w)) (entry_stops (λ m. order_of m ≤ 2) (omega arith) (omega arith) f (omega arith) a k w)
      (way_found f (AnEntry a k w)) (λ o r. entry_there a k w o r h)
