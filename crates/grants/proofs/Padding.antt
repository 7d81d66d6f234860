-- THE PADDING CANNOT MATTER: grants on two files of one length and one body, with marks that agree up to its end. Assumes nothing.
use mathlib.Core.Path.{◌≡◌, refl, sym, ap, ◌∙◌}
use mathlib.Core.Bool.{Bool, true, false, cond, and-false, ◌||◌}
use mathlib.Core.List.{List, [], ◌∷◌, ◌++◌}
use mathlib.Core.Logic.{inl, inr}
use Prim.Native.Nat.{ℕ, zero, suc, ◌+◌, ◌≤◌, ◌<◌}
use native.Mathlib.Omega.{arith}
use lib.Dec.{ltb, eqb}
use lib.IntN.{pos}
use lib.ListN.{length, get_or, set, length-set, length-append}
use lib.Seq.{get_or-set_same, get_or-set_other}
use borrow.Author.Tests.{ltb-true, ltb-false, eqb-true, eqb-false}
use Rattle.format.specs.Fields.{end_of}
use Rattle.format.specs.Numbers.{first, unless}
use Rattle.format.proofs.FieldRanges.{end_is}
use Rattle.records.specs.Rules.{size_at}
use Rattle.records.specs.Opening.{too_long, body_of}
use Rattle.records.specs.Tiles.{tile}
use Rattle.records.proofs.Bodies.{body_le, opening_same, padded_body}
use Rattle.marks.specs.Marks.{marked, start_at, unclaimed_at, left_from, left_of}
use Rattle.walk.specs.Levels.{pushed, popped}
use Rattle.walk.specs.Walk.{walk_step}
use Rattle.walk.specs.declared.positions.Levels.{Levels}
use Rattle.walk.specs.declared.positions.Step as T
use Rattle.walk.specs.declared.positions.Step.TheVariants.{Over, End, Take, Down, Up}
use Rattle.faults.specs.Holder.{holder_of}
use Rattle.faults.specs.Fault.{none_involved, sweeping, ending, claiming, leaving}
use Rattle.faults.specs.declared.fault.Involved.{Involved}
use Rattle.marks.specs.Marks.{Found}
use Rattle.states.specs.declared.state.Stage.{Stage}
use Rattle.states.specs.declared.state.Stage.TheVariants.{Fresh, Sweep, Walking, Done, OutOfRange}
use Rattle.states.specs.declared.state.State.{State}
use Rattle.checker.specs.Step.{Conf, conf, Run, done_by, walking, settled, open_number, swept_to, swept, link_number, stepped, step_by, step_of, onward, run_of}
use Rattle.states.specs.Stages.{finished, answer_of, location_in}
use Rattle.states.specs.Saved.{state_length, save, load}
use Rattle.checker.specs.Grant.{granted, other_file, worked, grant_by, grant_of}
use Rattle.checker.proofs.Outcomes.{link_passes}
use Rattle.checker.proofs.Passed.{tiled, started, marked_length, marked_at, marked_in, marked_other}
use Rattle.states.proofs.Loads.{load_is}
use Rattle.checker.proofs.Sound.{SoundBy, Sound, Own, sound_run, loaded_sound}
use Rattle.grants.specs.Promises.{Alike, PaddingIdle}

-- ---- marks that agree below e
record Agree (e : ℕ) (m o : List ℕ) : Type 0 where
  count : length m ≡ length o
  mark : (i : ℕ) → i < e → get_or m i 0 ≡ get_or o i 0

set_agree : (e : ℕ) (m o : List ℕ) (t : ℕ) → t < length m → Agree e m o → Agree e (set m t 2) (set o t 2)
set_agree e m o t h a = record {
  count = length-set m t 2 ∙ a.count ∙ sym (length-set o t 2);
  mark = λ i l. at i l (eqb i t) refl;
}
  where
    at : (i : ℕ) → i < e → (b : Bool) → eqb i t ≡ b → get_or (set m t 2) i 0 ≡ get_or (set o t 2) i 0
    at i l true q =
        let s : i ≡ t = eqb-true i t q in
        rw s (get_or-set_same m t 2 0 h ∙ sym (get_or-set_same o t 2 0 (omega (arith, a.count))))
    at i l false q =
        let s = eqb-false i t q in
        get_or-set_other m t i 2 0 s ∙ a.mark i l ∙ sym (get_or-set_other o t i 2 0 s)

marked_agree : (e : ℕ) (m o : List ℕ) (p n : ℕ) → p + n ≤ length m → 1 ≤ n → Agree e m o → Agree e (marked m p n) (marked o p n)
marked_agree e m o p n h w a = record {
  count = marked_length m p n h ∙ a.count ∙ sym (marked_length o p n k);
  mark = λ i l. at i l (ltb i p) refl (eqb i p) refl (ltb i (p + n)) refl;
}
  where
    k : p + n ≤ length o
    k = omega (arith, a.count, h)

    at : (i : ℕ) → i < e → (b : Bool) → ltb i p ≡ b → (c : Bool) → eqb i p ≡ c → (d : Bool) → ltb i (p + n) ≡ d
        → get_or (marked m p n) i 0 ≡ get_or (marked o p n) i 0
    at i l true q c r d s =
        let out = inl (ltb-true i p q) in
        marked_other m p n h w i out ∙ a.mark i l ∙ sym (marked_other o p n k w i out)
    at i l false q true r d s =
        let is : i ≡ p = eqb-true i p r in
        rw is (marked_at m p n h w ∙ sym (marked_at o p n k w))
    at i l false q false r true s =
        let above : p < i = omega (arith, ltb-false i p q, eqb-false i p r) in
        let below = ltb-true i (p + n) s in
        marked_in m p n h i above below ∙ sym (marked_in o p n k i above below)
    at i l false q false r false s =
        let out = inr (ltb-false i (p + n) s) in
        marked_other m p n h w i out ∙ a.mark i l ∙ sym (marked_other o p n k w i out)

-- ---- what a step looks at of them, over the bytes b
module _ (b m o : List ℕ) (a : Agree (length b) m o) where
  same_start : (t : ℕ) → start_at b m t ≡ start_at b o t
  unfolding start_at
  same_start t = go (ltb t (end_of b)) refl
    where
      go : (q : Bool) → ltb t (end_of b) ≡ q → start_at b m t ≡ start_at b o t
      go true e = rw (a.mark t (omega (arith, ltb-true t (end_of b) e, end_is b)))
      go false e = rw (e, and-false)

  unless_first : (early typed late : ℕ) (x y : ℕ) (s : Bool) → (s ≡ true → x ≡ y)
      → first (early ∷ unless 8 s ∷ typed ∷ x ∷ late ∷ []) ≡ first (early ∷ unless 8 s ∷ typed ∷ y ∷ late ∷ [])
  unless_first early typed late x y true h = ap (λ (z : ℕ). first (early ∷ 0 ∷ typed ∷ z ∷ late ∷ [])) (h refl)
  unless_first zero typed late x y false h = refl
  unless_first (suc v) typed late x y false h = refl

  same_link : (early t typed late : ℕ) → link_number b m early t typed late ≡ link_number b o early t typed late
  unfolding link_number
  same_link early t typed late =
      ap (λ (s : Bool). first (early ∷ unless 8 s ∷ typed ∷ unless 9 (eqb (get_or m t 0) 1) ∷ late ∷ [])) (same_start t)
      ∙ unless_first early typed late (unless 9 (eqb (get_or m t 0) 1)) (unless 9 (eqb (get_or o t 0) 1)) (start_at b o t)
      (λ e. ap (λ (k : ℕ). unless 9 (eqb k 1)) (a.mark t (started b o t e).1))

  same_unclaimed : (p : ℕ) → p < length b → unclaimed_at b m p ≡ unclaimed_at b o p
  unfolding unclaimed_at
  same_unclaimed p h = rw (a.mark p h)

  same_from : (n p : ℕ) → left_from b m n p ≡ left_from b o n p
  unfolding left_from
  same_from zero p = refl
  same_from (suc n) p = go (ltb (end_of b) (p + 8)) refl (same_from n (p + size_at b p))
    where
      go : (q : Bool) → ltb (end_of b) (p + 8) ≡ q → left_from b m n (p + size_at b p) ≡ left_from b o n (p + size_at b p)
          → left_from b m (suc n) p ≡ left_from b o (suc n) p
      go true e ih = rw e
      go false e ih =
          let claimed : unclaimed_at b m p ≡ unclaimed_at b o p = same_unclaimed p (omega (arith, ltb-false (end_of b) (p + 8) e, end_is b)) in
          rw (claimed, ih)

  same_left : left_of b m ≡ left_of b o
  unfolding left_of
  same_left = same_from (length b) 8

-- ---- one step
record Pair (e : ℕ) (c d : Conf) : Type 0 where
  state_is : c.state ≡ d.state
  agree : Agree e c.marks d.marks

pair : (e : ℕ) (s : State) (m o : List ℕ) → Agree e m o → Pair e (conf s m) (conf s o)
pair e s m o a = record { state_is = refl; agree = a }

settled_pair : (r : Involved) (e v : ℕ) (m o : List ℕ) (next : State) (x y : List ℕ) → Agree e m o → (v ≡ 0 → Agree e x y)
    → Pair e (settled r v m next x) (settled r v o next y)
settled_pair r e v m o next x y a h = go (eqb v 0) refl
  where
    go : (b : Bool) → eqb v 0 ≡ b → Pair e (cond b (conf next x) (conf (done_by r v) m)) (cond b (conf next y) (conf (done_by r v) o))
    go true q = pair e next x y (h (eqb-true v 0 q))
    go false q = pair e (done_by r v) m o a

module _ (b m o : List ℕ) (n : ℕ) (a : Agree (length b) m o) (room : length b ≤ length m) where
  taken_pair : (h early t typed late : ℕ) (next : State)
      → Pair (length b) (settled (claiming h t) (link_number b m early t typed late) m next (set m t 2))
      (settled (claiming h t) (link_number b o early t typed late) o next (set o t 2))
  taken_pair h early t typed late next =
      rw (← same_link b m o a early t typed late)
      (settled_pair (claiming h t) (length b) (link_number b m early t typed late) m o next (set m t 2) (set o t 2) a
      (λ e. set_agree (length b) m o t (omega (arith, (started b m t (link_passes b m early t typed late e).start).1, room)) a))

  stepped_pair : (up : Levels) (h : ℕ) (t : T.Step) → Pair (length b) (stepped b m n up h t) (stepped b o n up h t)
  unfolding stepped
  stepped_pair up h (Over w v) = settled_pair (ending h) (length b) v m o (walking n w up) m o a (λ e. a)
  stepped_pair up h (End v) = record {
    state_is = ap (λ (x : Found). cond (eqb v 0) (done_by (leaving x.at) x.number) (done_by (ending h) v)) (same_left b m o a);
    agree = a;
  }
  stepped_pair up h (Take w early t typed late) = taken_pair h early t typed late (walking n w up)
  stepped_pair up h (Down w t typed l) = taken_pair h 0 t typed 0 (walking n w (pushed l up))
  stepped_pair up h (Up w) = pair (length b) (walking n w (popped up)) m o a

  swept_pair : (p : ℕ) → Pair (length b) (swept b m n p) (swept b o n p)
  unfolding swept
  swept_pair p =
      settled_pair (sweeping p) (length b) (tile b (end_of b) p) m o (record { length = n; stage = swept_to b (p + size_at b p) }) (marked m p (size_at b p)) (marked o p (size_at b p)) a
      (λ e. let t = tiled b p e in marked_agree (length b) m o p (size_at b p) (omega arith) (omega arith) a)

-- ---- two files of one length, with one body
module _ (f g : List ℕ) (long : length f ≡ length g) (same : body_of f ≡ body_of g) where
  abbrev b : List ℕ
  b = body_of f

  same_open : (m o : List ℕ) → length m ≡ length o → open_number f m ≡ open_number g o
  unfolding open_number too_long
  same_open m o h = rw (long, h, opening_same f g long same)

  step_pair : (m o : List ℕ) (n : ℕ) (s : Stage) → SoundBy (Own f) f n m s → Agree (length b) m o → Pair (length b) (step_by f m n s) (step_by g o n s)
  unfolding step_by
  step_pair m o n Fresh h a =
      rw (← same_open m o a.count, ← long)
      (settled_pair none_involved (length b) (open_number f m) m o (record { length = length f; stage = Sweep 8 }) m o a (λ e. a))
  step_pair m o n (Sweep p) h a = let less = body_le f in rw (← same) (swept_pair b m o n a (omega (arith, h.0)) p)
  step_pair m o n (Walking w up) h a =
      let less = body_le f in
      rw (← same) (stepped_pair b m o n a (omega (arith, h.0)) up (holder_of w) (walk_step b up w))
  step_pair m o n (Done v p) h a = pair (length b) (record { length = n; stage = Done v p }) m o a
  step_pair m o n OutOfRange h a = pair (length b) (done_by none_involved 20) m o a

  record Runs (r s : Run) : Type 0 where
    at_pair : Pair (length b) r.at s.at
    made_is : r.made ≡ s.made

  conf_step : (c d : Conf) → Sound (Own f) f c → Pair (length b) c d → Pair (length b) (step_of f c) (step_of g d)
  conf_step c d h p =
      rw (← p.state_is) (step_pair c.marks d.marks c.state.length c.state.stage h.sound p.agree)

  run_pair : (s : State) (m o : List ℕ) → Sound (Own f) f (conf s m) → Agree (length b) m o → (k : ℕ)
      → Runs (run_of f (conf s m) k) (run_of g (conf s o) k)
  unfolding run_of
  run_pair s m o h a zero = record { at_pair = pair (length b) s m o a; made_is = refl }
  run_pair s m o h a (suc k) =
      go (run_of f (conf s m) k) (run_of g (conf s o) k) (sound_run (Own f) f (conf s m) h k) (run_pair s m o h a k)
    where
      go : (r t : Run) → Sound (Own f) f r.at → Runs r t → Runs (onward f r) (onward g t)
      go r t h p = cases (finished r.at.state.stage) refl
        where
          stages : finished t.at.state.stage ≡ finished r.at.state.stage
          stages = ap (λ (s : State). finished s.stage) (sym p.at_pair.state_is)

          cases : (q : Bool) → finished r.at.state.stage ≡ q → Runs (onward f r) (onward g t)
          cases true e = rw (stages, e) p
          cases false e = rw (stages, e) (record { at_pair = conf_step r.at t.at h p.at_pair; made_is = ap suc p.made_is })

  -- ---- a grant
  module _ (m o l : List ℕ) (n : ℕ) (a : Agree (length b) m o) where
    same_other : (noted : ℕ) → other_file f m noted ≡ other_file g o noted
    unfolding other_file
    same_other noted = rw (long, a.count)

    by_state : (s : State) → (other_file f m s.length ≡ false → Sound (Own f) f (conf s m))
        → Alike (length b) (grant_by f m l n s) (grant_by g o l n s)
    unfolding grant_by
    by_state s h =
        rw (← same_other s.length) (go (finished s.stage || eqb n 0) (other_file f m s.length) refl)
      where
        go : (x y : Bool) → other_file f m s.length ≡ y
            → Alike (length b)
            (cond x (granted (answer_of s.stage) (location_in s.stage) 0 l m) (cond y (granted (pos 21) 0 0 l m) (worked (run_of f (conf s m) n))))
            (cond x (granted (answer_of s.stage) (location_in s.stage) 0 l o) (cond y (granted (pos 21) 0 0 l o) (worked (run_of g (conf s o) n))))
        go true y e = record { answer = refl; location = refl; steps = refl; state = refl; marks = a.mark }
        go false true e = record { answer = refl; location = refl; steps = refl; state = refl; marks = a.mark }
        go false false e =
            let r = run_pair s m o (h e) a n in
            let p = r.at_pair in
            record {
              answer = ap (λ (t : State). answer_of t.stage) p.state_is;
              location = ap (λ (t : State). location_in t.stage) p.state_is;
              steps = r.made_is;
              state = ap save p.state_is;
              marks = p.agree.mark;
            }

    by_grant : Alike (length b) (grant_of f m l n) (grant_of g o l n)
    unfolding grant_of
    by_grant = go (eqb (length l) state_length)
      where
        go : (x : Bool) → Alike (length b) (cond x (grant_by f m l n (load l)) (granted (pos 20) 0 0 l m)) (cond x (grant_by g o l n (load l)) (granted (pos 20) 0 0 l o))
        go true = by_state (load l) (λ e. loaded_sound f (load l) m (load_is l) e)
        go false = record { answer = refl; location = refl; steps = refl; state = refl; marks = a.mark }

pub padding_idle : PaddingIdle
padding_idle b p q m o l n u same few count mark =
    let f = b ++ p in
    let g = b ++ q in
    let long : length f ≡ length g = length-append b p ∙ ap (λ (k : ℕ). length b + k) same ∙ sym (length-append b q) in
    let own = padded_body b p u few in
    let e : length (body_of f) ≡ length b = ap length own in
    let a : Agree (length (body_of f)) m o = record { count = count; mark = λ i h. mark i (rw e at h) } in
    rw (← e) (by_grant f g long (own ∙ sym (padded_body b q u (omega arith))) m o l n a)
