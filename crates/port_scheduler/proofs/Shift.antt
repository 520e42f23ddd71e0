-- A queue without its oldest frame: what stood behind the head, moved down by one.
use mathlib.Core.Path.{◌≡◌, refl, sym, ap, ◌∙◌}
use mathlib.Core.List.{List, [], ◌∷◌, map}
use Prim.Native.Nat.{ℕ, ◌+◌, ◌-◌, ◌≤◌, ◌<◌}
use native.Mathlib.Omega.{arith}
use lib.ListN.{length, take, drop, length-drop}
use Rattle.std.specs.List.{copy_within}
use Rattle.std.proofs.lemmas.List.{drop-take}
use Rattle.std.proofs.lemmas.List.Edits.{take-paste}
use Rattle.port_scheduler.specs.declared.Frame.{Frame as FrameRecord}
use Rattle.port_scheduler.specs.declared.Queue.{Queue}
use Rattle.port_scheduler.specs.View.{view_frame, blank_entry, view_queue}
use Rattle.port_scheduler.specs.Sending.{HeadGone}
use Rattle.port_scheduler.proofs.Shown.{entries_take}

map-drop : {A B : Type 0} (f : A → B) (l : List A) → map f (drop 1 l) ≡ drop 1 (map f l)
map-drop f [] = refl
map-drop f (x ∷ l) = refl

moved_down : {A : Type 0} (l : List A) (n : ℕ) → 0 < n → n ≤ length l → take (n - 1) (copy_within l 1 n 0) ≡ drop 1 (take n l)
moved_down l n p h =
    let e : 1 + (n - 1) ≡ n = omega arith in
    let z : 0 + (n - 1) ≡ n - 1 = omega arith in
    ap (λ (k : ℕ). take k (copy_within l 1 n 0)) (sym z) ∙ take-paste l 0 (drop 1 l) (n - 1) (omega arith) (rw length-drop (omega arith)) ∙ (rw e at (sym (drop-take 1 (n - 1) l)))

pub head_gone : (q : Queue) {rest : List FrameRecord} {n : ℕ} → n ≡ q.count → rest ≡ copy_within q.frames 1 n 0 → length rest ≡ length q.frames → 0 < q.count → q.count ≤ length q.frames →
    HeadGone q (record { count = q.count - 1; mark = q.mark; frames = rest })
unfolding view_queue
head_gone q {rest} e s same p h =
    record {
      frames =
          rw (entries_take blank_entry (q.count - 1) rest (omega arith), entries_take blank_entry q.count q.frames h, s, e, moved_down q.frames q.count p h)
          (map-drop view_frame (take q.count q.frames));
      mark = refl;
    }
