-- Three parts of a list, each written over it. Assumes nothing.
use Rattle.std.proofs.Common.{◌≡◌, ℕ, List, [], ◌∷◌, ◌++◌, length, set, get_or, drop, arith, append_assoc, length-append, length-drop, drop-cons}
use borrow.Rule.Slice.PartMut.{put_mid, post_of}
use Rattle.std.proofs.lemmas.List.{take_at, drop_at, set_at, drop_all}

pub three_written : (h r l : List ℕ) (p : ℕ)
    → length h ≡ 12
    → length r ≡ 21
    → length l ≡ 34
    → set (put_mid 12 21 (h ++ post_of 0 12 l) r) 33 p ≡ h ++ (r ++ (p ∷ []))
three_written h r l p a b c =
    let d : List ℕ = drop 12 l in
    let one : drop 21 d ≡ get_or d 21 0 ∷ [] = rw (drop-cons d 21 0 (simp length-drop (omega arith)), drop_all 22 d (simp length-drop (omega arith))) in
    let long : length (h ++ r) ≡ 33 = simp length-append (omega arith) in
    rw (take_at h d 12 a, drop_at h d 12 a, one, ← append_assoc, set_at (h ++ r) (get_or d 21 0) [] p 33 long) (append_assoc h r (p ∷ []))
