-- What a way along a list finds, in any file. Assumes nothing.
use mathlib.Core.Path.{◌≡◌, refl, sym, ap, ◌∙◌}
use mathlib.Core.Bool.{Bool, true, false, cond}
use mathlib.Core.List.{List}
use Prim.Native.Nat.{ℕ, zero, suc, ◌+◌, ◌≤◌, ◌<◌}
use native.Mathlib.Nat.{add-zero}
use native.Mathlib.Omega.{arith}
use lib.Dec.{eqb}
use lib.IntN.{ℤ, pos, negsuc}
use lib.Signed.{le_z}
use borrow.Author.Tests.{eqb-true, le-leb}
use Rattle.format.specs.Fields.{link_at, nat_or}
use Rattle.records.specs.Opening.{body_of}
use Rattle.lookup.specs.Lists.{met_at, Way, meets, wanted_at, over_of, sought, head_of_list, allowance, opened, place_way, file_way, of_kinds, kind_among, variable_way, attribute_way, head_of_entries, entries_of, entry_way}
use Rattle.lookup.specs.declared.refusals.Refusal.TheVariants.{Breach, NoSuch}
use Rattle.lookup.specs.declared.lists.Wanted.{Wanted}
use Rattle.lookup.specs.declared.lists.Wanted.TheVariants.{Place}
use Rattle.std.specs.Prelude.{Ok, Err, IfOk}

-- the n-th record, from 0, of the list whose head link stands at p
abbrev pub nth : List ℕ → ℕ → ℕ → ℕ
nth f p zero = link_at f p
nth f p (suc n) = nth f (link_at f p + 8) n

-- the record at o is the first wanted one of the list whose head link stands at p and has the place i; it and all before it can be met
pub record First (f : List ℕ) (t : ℕ) (w : Wanted) (p i o : ℕ) : Type 0 where
  pub place : ℕ
  pub is : nth f p place ≡ o
  pub met : (h : ℕ) → h ≤ place → meets f t (nth f p h) ≡ true
  pub wanted : wanted_at f w (i + place) o ≡ true
  pub earlier : (h : ℕ) → h < place → wanted_at f w (i + h) (nth f p h) ≡ false

pub first_met : (f : List ℕ) (t : ℕ) (w : Wanted) (p i o : ℕ) → First f t w p i o → meets f t o ≡ true
first_met f t w p i o r = rw (sym r.is) (r.met r.place (omega arith))

-- a fact of what a way finds
abbrev pub Finds : (ℕ → Type 0) → Way → Type 0
Finds Fact way = IfOk way (λ m. Fact m.at)

module _ (f : List ℕ) (t : ℕ) (w : Wanted) where
  pub sought_first : (left p i : ℕ) → Finds (First f t w p i) (sought f t w p i left)
  unfolding sought
  sought_first zero p i = tt
  sought_first (suc left) p i =
      go (eqb (link_at f p) 0) (meets f t (link_at f p)) refl (wanted_at f w i (link_at f p)) refl (sought f t w (link_at f p + 8) (suc i) left) (sought_first left (link_at f p + 8) (suc i))
    where
      behind : (q : ℕ) → meets f t (link_at f p) ≡ true → wanted_at f w i (link_at f p) ≡ false → First f t w (link_at f p + 8) (suc i) q → First f t w p i q
      behind q m e r = record {
        place = suc r.place;
        is = r.is;
        met = λ h l. all h l;
        wanted = let e : i + suc r.place ≡ suc i + r.place = omega arith in rw e r.wanted;
        earlier = λ h l. before h l;
      }
        where
          all : (h : ℕ) → h ≤ suc r.place → meets f t (nth f p h) ≡ true
          all zero l = m
          all (suc h) l = r.met h (omega arith)

          before : (h : ℕ) → h < suc r.place → wanted_at f w (i + h) (nth f p h) ≡ false
          before zero l = rw (add-zero i) e
          before (suc h) l = let e : i + suc h ≡ suc i + h = omega arith in rw e (r.earlier h (omega arith))

      go : (b c : Bool) → meets f t (link_at f p) ≡ c → (d : Bool) → wanted_at f w i (link_at f p) ≡ d → (s : Way)
          → Finds (First f t w (link_at f p + 8) (suc i)) s
          → Finds (First f t w p i) (cond b (Err (over_of t)) (cond c (cond d (met_at (link_at f p) left) s) (Err Breach)))
      go true c m d e s r = tt
      go false false m d e s r = tt
      go false true m true e s r = record { place = 0; is = refl; met = λ h l. let z : h ≡ 0 = omega arith in rw z m; wanted = rw (add-zero i) e; earlier = λ h l. absurd (omega arith) }
      go false true m false e (Ok q) r = behind q.at m e r
      go false true m false e (Err v) r = tt

-- ---- a list of the GDR
-- the record of type t at o is the n-th of its list; it and all before it can be met
pub record Listed (f : List ℕ) (t : ℕ) (n : ℤ) (o : ℕ) : Type 0 where
  pub least : le_z (pos 0) n ≡ true
  pub is : nth f (head_of_list f t) (nat_or 0 n) ≡ o
  pub met : (h : ℕ) → h ≤ nat_or 0 n → meets f t (nth f (head_of_list f t) h) ≡ true

pub listed_met : (f : List ℕ) (t : ℕ) (n : ℤ) (o : ℕ) → Listed f t n o → meets f t o ≡ true
listed_met f t n o r = rw (sym r.is) (r.met (nat_or 0 n) (omega arith))

pub place_listed : (f : List ℕ) (t : ℕ) (n : ℤ) (left : ℕ) → Finds (Listed f t n) (place_way f t n left)
unfolding place_way
place_listed f t (pos n) left = go (sought f t (Place n) (head_of_list f t) 0 left) (sought_first f t (Place n) left (head_of_list f t) 0)
  where
    go : (s : Way) → Finds (First f t (Place n) (head_of_list f t) 0) s → Finds (Listed f t (pos n)) s
    go (Ok m) r =
        let e : r.place ≡ n = omega (arith, eqb-true (0 + r.place) n r.wanted) in
        record { least = le-leb 0 n (omega arith); is = ap (nth f (head_of_list f t)) (sym e) ∙ r.is; met = λ h l. r.met h (omega arith) }
    go (Err v) r = tt
place_listed f t (negsuc n) left = tt

-- ---- of a file that opens, a fact of what is found in the part before its end
abbrev pub InOpened : List ℕ → (List ℕ → ℕ → Type 0) → ℕ → Type 0
InOpened f Fact o = (opened f ≡ true) × Fact (body_of f) o

-- ---- THE WAY TO A VARIABLE
pub record ToVariable (k n : ℤ) (f : List ℕ) (v : ℕ) : Type 0 where
  pub kind : of_kinds 3 8 k ≡ true
  pub listed : Listed f (kind_among 3 8 k) n v

pub variable_found : (f : List ℕ) (k n : ℤ) → Finds (InOpened f (ToVariable k n)) (variable_way f k n)
unfolding variable_way
variable_found f k n = go (opened f) refl (of_kinds 3 8 k) refl (file_way f (kind_among 3 8 k) n) (place_listed (body_of f) (kind_among 3 8 k) n (allowance f))
  where
    go : (b : Bool) → opened f ≡ b → (c : Bool) → of_kinds 3 8 k ≡ c → (s : Way) → Finds (Listed (body_of f) (kind_among 3 8 k) n) s
        → Finds (InOpened f (ToVariable k n)) (cond b (cond c s (Err NoSuch)) (Err Breach))
    go true h true e (Ok v) r = (h, record { kind = e; listed = r })
    go true h true e (Err m) r = tt
    go true h false e s r = tt
    go false h c e s r = tt

-- ---- THE WAY TO AN ATTRIBUTE
pub attribute_found : (f : List ℕ) (n : ℤ) → Finds (InOpened f (λ l. Listed l 4 n)) (attribute_way f n)
unfolding attribute_way
attribute_found f n = go (opened f) refl (file_way f 4 n) (place_listed (body_of f) 4 n (allowance f))
  where
    go : (b : Bool) → opened f ≡ b → (s : Way) → Finds (Listed (body_of f) 4 n) s → Finds (InOpened f (λ l. Listed l 4 n)) (cond b s (Err Breach))
    go true h (Ok v) r = (h, r)
    go true h (Err m) r = tt
    go false h s r = tt

-- ---- THE WAY TO AN ENTRY
pub record ToEntry (a k : ℤ) (w : Wanted) (f : List ℕ) (e : ℕ) : Type 0 where
  pub kind : of_kinds 5 9 k ≡ true
  pub adr : ℕ
  pub attribute : Listed f 4 a adr
  pub entry : First f (kind_among 5 9 k) w (head_of_entries adr (kind_among 5 9 k)) 0 e

pub entry_found : (f : List ℕ) (a k : ℤ) (w : Wanted) → Finds (InOpened f (ToEntry a k w)) (entry_way f a k w)
unfolding entry_way
entry_found f a k w = go (opened f) refl (of_kinds 5 9 k) refl (file_way f 4 a) (place_listed (body_of f) 4 a (allowance f))
  where
    on : opened f ≡ true → of_kinds 5 9 k ≡ true → (d : ℕ) → Listed (body_of f) 4 a d → (s : Way)
        → Finds (First (body_of f) (kind_among 5 9 k) w (head_of_entries d (kind_among 5 9 k)) 0) s
        → Finds (InOpened f (ToEntry a k w)) s
    on h e d l (Ok o) r = (h, record { kind = e; adr = d; attribute = l; entry = r })
    on h e d l (Err m) r = tt

    go : (b : Bool) → opened f ≡ b → (c : Bool) → of_kinds 5 9 k ≡ c → (s : Way) → Finds (Listed (body_of f) 4 a) s
        → Finds (InOpened f (ToEntry a k w)) (cond b (cond c (entries_of (body_of f) (kind_among 5 9 k) w s) (Err NoSuch)) (Err Breach))
    go true h true e (Ok m) r =
        on h e m.at r (sought (body_of f) (kind_among 5 9 k) w (head_of_entries m.at (kind_among 5 9 k)) 0 m.left)
        (sought_first (body_of f) (kind_among 5 9 k) w m.left (head_of_entries m.at (kind_among 5 9 k)) 0)
    go true h true e (Err m) r = tt
    go true h false e s r = tt
    go false h c e s r = tt
