-- A walk of any kind: how lists of records are read off it. Assumes nothing.
use mathlib.Core.Path.{◌≡◌, refl, sym, ap, ◌∙◌, subst}
use mathlib.Core.Logic.{◌↔◌, ◌≢◌, ◌⊎◌, inl, inr}
use mathlib.Core.Option.{Option, none, some}
use mathlib.Core.List.{List, [], ◌∷◌, ◌++◌, append_assoc, append-nil, reverse_aux}
use Prim.Native.Nat.{ℕ, zero, suc, ◌+◌, ◌≤◌}
use native.Mathlib.Omega.{arith}
use native.Mathlib.Nat.{le_refl}
use Rattle.format.specs.Fields.{link_at}
use Rattle.demands.specs.Acceptance.{offsets}
use Rattle.demands.proofs.Goes.{Ends, Goes}

-- what is claimed in two parts, of which the first begins with t; of which the second is nothing
pub cons_split : (t : ℕ) (cs ds x rest : List ℕ) → cs ≡ t ∷ ds → ds ≡ x ++ rest → cs ≡ t ∷ (x ++ rest)
cons_split t cs ds x rest e g = rw (e, g)

pub whole_split : (cs x rest : List ℕ) → cs ≡ x ++ rest → rest ≡ [] → cs ≡ x
whole_split cs x rest e g = rw (e, g, append-nil)

-- where the walk goes on ends well, or there is nowhere
abbrev pub EndsAt : {Position : Type 0} → (Position → List ℕ → Type 0) → Option Position → List ℕ → Type 0
EndsAt E none cs = cs ≡ []
EndsAt E (some w) cs = E w cs

module _ {Position : Type 0} (Step : (Position → List ℕ → Type 0) → Position → List ℕ → Type 0) where
  abbrev pub EndsG : ℕ → Option Position → List ℕ → Type 0
  EndsG k g cs = EndsAt (Ends Step k) g cs

  -- the walk that begins at w reads off some b with the rule R, claims c b, and goes on at `to b`
  pub record Read {B : Type 0} (w : Position) (R : B → Type 0) (c : B → List ℕ) (to : B → Option Position) (k : ℕ) (cs : List ℕ) : Type 0 where
    pub what : B
    pub obeys : R what
    pub left : ℕ
    pub rest : List ℕ
    pub fewer : left ≤ k
    pub split : cs ≡ c what ++ rest
    pub ends : EndsG left (to what) rest

  pub record Leads {B : Type 0} (w : Position) (R : B → Type 0) (c : B → List ℕ) (to : B → Option Position) : Type 0 where
    pub reads : (k : ℕ) (cs : List ℕ) → Ends Step k w cs → Read w R c to k cs
    pub makes : (b : B) (k : ℕ) (cs : List ℕ) → R b → EndsG k (to b) cs → (j : ℕ) × Ends Step j w (c b ++ cs)

-- ---- a list of records, each with what hangs below it: an X. `before` are those met so far, the nearest first
pub record Rules (X : Type 0) : Type 1 where
  pub at : X → ℕ  -- where the record starts
  pub here : List X → ℕ → Type 0  -- with those before it, a link can stand at this offset: it lies in the file
  pub good : List X → ℕ → Type 0  -- the record has the right type and keeps its rule, with those before it
  pub below : List X → X → Type 0  -- the rule of what hangs below it
  pub tally : List X → Type 0  -- counts and the like agree with the whole list

-- xs are the records of the list whose first link stands at p: links lead from each to the next and then to 0
abbrev pub Listed : {X : Type 0} → List ℕ → Rules X → List X → ℕ → List X → Type 0
Listed f r before p [] = (r.here before p) × (link_at f p ≡ 0) × (r.tally before)
Listed f r before p (x ∷ xs) =
    (r.here before p) × (link_at f p ≡ r.at x) × (r.at x ≢ 0) × (r.good before (r.at x)) × (r.below before x) × (Listed f r (x ∷ before) (r.at x + 8) xs)

-- a link of such a list is zero and the list is over, or a record that keeps its rule is taken
abbrev pub LinkGoes : {Position X : Type 0} → List ℕ → Rules X → (Position → List ℕ → Type 0) → List X → ℕ → Option Position → (ℕ → Position) → List ℕ → Type 0
LinkGoes f r E bs p fin inside cs =
    ((link_at f p ≡ 0) × (r.tally bs) × (EndsAt E fin cs))
    ⊎ ((link_at f p ≢ 0) × (r.good bs (link_at f p)) × (ds : List ℕ) × (cs ≡ link_at f p ∷ ds) × (E (inside (link_at f p)) ds))

-- a step at one ends well
abbrev pub LinkEnds : {Position X : Type 0} → List ℕ → Rules X → (Position → List ℕ → Type 0) → List X → ℕ → Option Position → (ℕ → Position) → List ℕ → Type 0
LinkEnds f r E bs p fin inside cs = (r.here bs p) × LinkGoes f r E bs p fin inside cs

module _ {Position : Type 0} (Step : (Position → List ℕ → Type 0) → Position → List ℕ → Type 0) {X B : Type 0} (f : List ℕ) (r : Rules X)
    (mk : ℕ → B → X) (sub : X → B) (c : X → List ℕ) (mk_at : (o : ℕ) (b : B) → r.at (mk o b) ≡ o) (mk_sub : (x : X) → mk (r.at x) (sub x) ≡ x)
    (loop : List X → ℕ → Position) (inside : List X → ℕ → Position) (fin : List X → Option Position)
    (steps : (k : ℕ) (bs : List X) (p : ℕ) (cs : List ℕ) → Step (Ends Step k) (loop bs p) cs ↔ LinkEnds f r (Ends Step k) bs p (fin bs) (inside bs) cs)
    (body : (bs : List X) (o : ℕ) → Leads Step (inside bs o) (λ b. r.below bs (mk o b)) (λ b. c (mk o b)) (λ b. some (loop (mk o b ∷ bs) (o + 8))))
  where
    Reads : List X → ℕ → ℕ → List ℕ → Type 0
    Reads bs p k cs = Read Step (loop bs p) (Listed f r bs p) (offsets r.at c) (λ xs. fin (reverse_aux xs bs)) k cs

    regroup : (o o' : ℕ) (cs ds x es y z : List ℕ) → o ≡ o' → cs ≡ o ∷ ds → ds ≡ x ++ es → es ≡ y ++ z → cs ≡ (o' ∷ (x ++ y)) ++ z
    regroup o o' cs ds x es y z q e f g = rw (e, f, g, append_assoc, q)

    -- one record, and then the rest by the hypothesis
    reads_more : (bs : List X) (p k : ℕ) (cs : List ℕ)
        → ((bs : List X) (p j : ℕ) (cs : List ℕ) → j ≤ k → Ends Step j (loop bs p) cs → Reads bs p j cs)
        → LinkEnds f r (Ends Step k) bs p (fin bs) (inside bs) cs → Reads bs p (suc k) cs
    unfolding Reads
    reads_more bs p k cs ih e = go e.1
      where
        go : LinkGoes f r (Ends Step k) bs p (fin bs) (inside bs) cs → Reads bs p (suc k) cs
        go (inl h) = record { what = []; obeys = (e.0, h.0, h.1); left = k; rest = cs; fewer = omega arith; split = refl; ends = h.2 }
        go (inr h) =
            let o = link_at f p in
            let b = (body bs o).reads k h.2 h.4 in
            let x = mk o b.what in
            let q : o ≡ r.at x = sym (mk_at o b.what) in
            let s = ih (x ∷ bs) (o + 8) b.left b.rest b.fewer b.ends in
            record {
              what = x ∷ s.what;
              obeys = (
                e.0,
                q,
                subst (λ (a : ℕ). a ≢ 0) q h.0,
                subst (r.good bs) q h.1,
                b.obeys,
                subst (λ (a : ℕ). Listed f r (x ∷ bs) (a + 8) s.what) q s.obeys,
              );
              left = s.left;
              rest = s.rest;
              fewer = omega (arith, s.fewer, b.fewer);
              split = regroup o (r.at x) cs h.2 (c x) b.rest (offsets r.at c s.what) s.rest q h.3 b.split s.split;
              ends = s.ends;
            }

    reads_one : (n : ℕ) (bs : List X) (p k : ℕ) (cs : List ℕ) → k ≤ suc n
        → ((bs : List X) (p j : ℕ) (cs : List ℕ) → j ≤ n → Ends Step j (loop bs p) cs → Reads bs p j cs)
        → Ends Step k (loop bs p) cs → Reads bs p k cs
    reads_one n bs p zero cs h ih e = absurd e
    reads_one n bs p (suc k) cs h ih e = reads_more bs p k cs (λ bs p j cs g e. ih bs p j cs (omega arith) e) ((steps k bs p cs).0 e)

    reads_all : (n : ℕ) (bs : List X) (p k : ℕ) (cs : List ℕ) → k ≤ n → Ends Step k (loop bs p) cs → Reads bs p k cs
    reads_all zero bs p k cs h e = let z : k ≡ 0 = omega arith in absurd (subst (λ (j : ℕ). Ends Step j (loop bs p) cs) z e)
    reads_all (suc n) bs p k cs h e = reads_one n bs p k cs h (λ bs p j cs g e. reads_all n bs p j cs g e) e

    makes_all : (xs bs : List X) (p k : ℕ) (cs : List ℕ) → Listed f r bs p xs → EndsG Step k (fin (reverse_aux xs bs)) cs
        → (j : ℕ) × Ends Step j (loop bs p) (offsets r.at c xs ++ cs)
    makes_all [] bs p k cs o e = (suc k, (steps k bs p cs).1 (o.0, inl (o.1, o.2, e)))
    makes_all (x ∷ xs) bs p k cs o e =
        let s = makes_all xs (x ∷ bs) (r.at x + 8) k cs o.5 e in
        let b = (body bs (r.at x)).makes (sub x) s.0 (offsets r.at c xs ++ cs) (rw (mk_sub x) o.4) (rw (mk_sub x) s.1) in
        let t = rw (mk_sub x) at b.1 in (
          suc b.0,
          (steps b.0 bs p (r.at x ∷ ((c x ++ offsets r.at c xs) ++ cs))).1
              (o.0, inr (rw o.1 o.2, rw o.1 o.3, (c x ++ offsets r.at c xs) ++ cs, rw o.1, rw (o.1, append_assoc) t)),
        )

    pub list_leads : (bs : List X) (p : ℕ) → Leads Step (loop bs p) (Listed f r bs p) (offsets r.at c) (λ xs. fin (reverse_aux xs bs))
    unfolding Reads
    list_leads bs p = record { reads = λ k cs e. reads_all k bs p k cs (le_refl k) e; makes = λ xs k cs o e. makes_all xs bs p k cs o e }

-- ---- nothing, one piece after another, and one link
module _ {Position : Type 0} (Step : (Position → List ℕ → Type 0) → Position → List ℕ → Type 0) where
  -- what is read off, in other words: of a C, with its own rule and claims
  pub leads_as : {B C : Type 0} {w : Position} {R : B → Type 0} {Q : C → Type 0} {c : B → List ℕ} {d : C → List ℕ} {to : Option Position} (into : B → C)
      (back : C → B) → ((b : B) → R b → Q (into b)) → ((x : C) → Q x → R (back x)) → ((b : B) → c b ≡ d (into b)) → ((x : C) → c (back x) ≡ d x)
      → Leads Step w R c (λ b. to) → Leads Step w Q d (λ x. to)
  leads_as {w = w} into back obeys obeyed e g x = record {
    reads = λ k cs h.
        let r = x.reads k cs h in
        let split = r.split ∙ ap (λ (l : List ℕ). l ++ r.rest) (e r.what) in
        record { what = into r.what; obeys = obeys r.what r.obeys; left = r.left; rest = r.rest; fewer = r.fewer; split = split; ends = r.ends };
    makes = λ y k cs o h.
        let s = x.makes (back y) k cs (obeyed y o) h in
        (s.0, subst (λ (l : List ℕ). Ends Step s.0 w (l ++ cs)) (g y) s.1);
  }

  pub claims_as : {B : Type 0} {w : Position} {R : B → Type 0} {c : B → List ℕ} (d : B → List ℕ) {to : Option Position} → ((b : B) → c b ≡ d b)
      → Leads Step w R c (λ b. to) → Leads Step w R d (λ b. to)
  claims_as d e x = leads_as (λ b. b) (λ b. b) (λ b o. o) (λ b o. o) e e x

  pub none_leads : (w : Position) → Leads Step {B = Unit {0}} w (λ u. Unit {0}) (λ u. []) (λ u. some w)
  none_leads w = record {
    reads = λ k cs e. record { what = tt; obeys = tt; left = k; rest = cs; fewer = le_refl k; split = refl; ends = e };
    makes = λ b k cs o e. (k, e);
  }

  pub then_leads : {A B : Type 0} {w : Position} {R : A → Type 0} {Q : A → B → Type 0} {c : A → List ℕ} {d : B → List ℕ} (mid : A → Position)
      {to : A → B → Option Position} → Leads Step w R c (λ a. some (mid a)) → ((a : A) → Leads Step (mid a) (Q a) d (to a))
      → Leads Step {B = A × B} w (λ p. R p.0 × Q p.0 p.1) (λ p. c p.0 ++ d p.1) (λ p. to p.0 p.1)
  then_leads {A} {B} {w} {R} {Q} {c} {d} mid {to} x y = record {
    reads = λ k cs e.
        let a = x.reads k cs e in
        let b = (y a.what).reads a.left a.rest a.ends in
        record {
          what = (a.what, b.what);
          obeys = (a.obeys, b.obeys);
          left = b.left;
          rest = b.rest;
          fewer = omega (arith, a.fewer, b.fewer);
          split = join cs (c a.what) a.rest (d b.what) b.rest a.split b.split;
          ends = b.ends;
        };
    makes = λ p k cs o e.
        let b = (y p.0).makes p.1 k cs o.1 e in
        let a = x.makes p.0 b.0 (d p.1 ++ cs) o.0 b.1 in
        (a.0, rw append_assoc a.1);
  }
    where
      join : (cs x es y z : List ℕ) → cs ≡ x ++ es → es ≡ y ++ z → cs ≡ (x ++ y) ++ z
      join cs x es y z f g = rw (f, g, append_assoc)

  -- one link, and then a piece
  pub take_leads : {B : Type 0} {R : B → Type 0} {c : B → List ℕ} {to : B → Option Position} (w x : Position) (t : ℕ) (Good : Type 0)
      → ((k : ℕ) (cs : List ℕ) → Step (Ends Step k) w cs ↔ (Good × (ds : List ℕ) × (cs ≡ t ∷ ds) × Ends Step k x ds)) → Leads Step x R c to
      → Leads Step w (λ y. Good × R y) (λ y. t ∷ c y) to
  take_leads {B} {R} {c} {to} w x t Good steps p = record {
    reads = reads;
    makes = λ y j cs o h. let s = p.makes y j cs o.1 h in (suc s.0, (steps s.0 (t ∷ (c y ++ cs))).1 (o.0, c y ++ cs, refl, s.1));
  }
    where
      reads : (j : ℕ) (cs : List ℕ) → Ends Step j w cs → Read Step w (λ y. Good × R y) (λ y. t ∷ c y) to j cs
      reads zero cs h = absurd h
      reads (suc j) cs h =
          let g = (steps j cs).0 h in
          let s = p.reads j g.1 g.3 in
          record {
            what = s.what;
            obeys = (g.0, s.obeys);
            left = s.left;
            rest = s.rest;
            fewer = omega (arith, s.fewer);
            split = cons_split t cs g.1 (c s.what) s.rest g.2 s.split;
            ends = s.ends;
          }

  -- a way that is fixed
  pub goes_leads : {w v : Position} {R : Type 0} {c : List ℕ} → Goes Step w R c v → Leads Step {B = Unit {0}} w (λ t. R) (λ t. c) (λ t. some v)
  goes_leads {w} {v} {R} {c} x = record {
    reads = λ k cs e.
        let r = x.reads k cs e in
        record { what = tt; obeys = r.obeys; left = r.left; rest = r.rest; fewer = r.fewer; split = r.split; ends = r.ends };
    makes = λ t k cs o e. x.makes k cs o e;
  }
