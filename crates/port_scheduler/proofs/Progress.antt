-- How far the loop of an advance is, over the model's queues: the tick machine's advance from the start is what has left so far, and the advance from here.
use mathlib.Core.Path.{◌≡◌, refl, ◌∙◌}
use mathlib.Core.Bool.{true}
use mathlib.Core.List.{List, [], ◌∷◌, ◌++◌, append-nil, flat_map}
use Prim.Native.Nat.{ℕ, ◌+◌, ◌*◌, ◌≤◌, ◌<◌}
use native.Mathlib.Decide.{dec_le}
use native.Mathlib.Omega.{arith}
use borrow.Author.Tests.{ltb-true}
use lib.ListN.{length, take, drop, length-set, length-append, length-drop, get_or-eq_default}
use Rattle.model.specs.Basics.{Each, done}
use Rattle.model.specs.Units.{most_frames}
use Rattle.model.specs.Machine.{Frame, Sender, idle, sending, Departure, Advance, at, advanced, advance, preceded, departure, queue_of, head_of, without_head, frames_held}
use Rattle.model.specs.Fitness.{sender_fit}
use Rattle.model.specs.Report.{three_numbers}
use Rattle.model.proofs.Checks.{all_true}
use Rattle.model.proofs.BusyPeriod.{set_keeps, pop_each}
use Rattle.model.proofs.FrameByFrame.{under_way, sent, preceded_preceded}
use Rattle.port_scheduler.specs.Sending.{UnderWay, Sends, Positive, GoesOn}
use Rattle.port_scheduler.proofs.Sums.{frames_gone, frames_few}
use Rattle.port_scheduler.proofs.Departed.{list_more}

abbrev pub Few : List (List Frame) → Type 0
Few queues = (p : ℕ) → length (queue_of queues p) ≤ most_frames

-- of an advance that began with so many frames held and with list₀, k departures later
pub record Progress (time : ℕ) (whole : Advance) (all : ℕ) (list₀ : List ℕ) (qs : List (List Frame)) (s : Sender) (m k : ℕ) (list : List ℕ) : Type 0 where
  pub gone : List Departure
  pub split : whole ≡ preceded gone (advance time (at m qs s))
  pub eight : length qs ≡ 8
  pub few : Few qs
  pub positive : Positive qs
  pub sends : Sends qs s m
  pub later : m ≤ time
  pub count : k ≡ length gone
  pub none_lost : k + frames_held qs ≡ all
  pub most : all ≤ most_frames * 8
  pub room : 3 * all ≤ length list₀
  pub listing : list ≡ flat_map three_numbers gone ++ drop (3 * k) list₀
  pub same : length list ≡ length list₀

-- ---- the start
fit_sends : (clock : ℕ) (queues : List (List Frame)) (z : Sender) → sender_fit clock queues z ≡ true → Sends queues z clock
unfolding sender_fit
fit_sends clock queues idle e = tt
fit_sends clock queues (sending p start) e =
    let all = all_true _ e in
    record {
      in_range = ltb-true p 8 all.0;
      waits = ltb-true 0 (length (queue_of queues p)) all.1.0;
      began = omega (arith, ltb-true start clock all.1.1.1.0);
      ends = ltb-true clock (start + (head_of queues p).length) all.1.1.1.1.0;
    }

-- past the eighth no queue holds a frame
pub everywhere : (Q : List Frame → Type 0) (queues : List (List Frame)) → length queues ≡ 8 → Q [] → ((p : ℕ) → p < 8 → Q (queue_of queues p)) → (p : ℕ) → Q (queue_of queues p)
everywhere Q queues n x e p = go (dec_le 8 p)
  where
    go : Dec (8 ≤ p) → Q (queue_of queues p)
    go (yes l) = rw (get_or-eq_default queues [] {n = p} (omega arith)) x
    go (no l) = e p (omega arith)

pub at_start : {qs : List (List Frame)} {s : Sender} {m time : ℕ} {list₀ : List ℕ} → length qs ≡ 8 → ((p : ℕ) → p < 8 → length (queue_of qs p) ≤ most_frames) →
    ((p : ℕ) → p < 8 → Each (λ (f : Frame). 0 < f.length) (queue_of qs p)) → sender_fit m qs s ≡ true → m ≤ time → 3 * frames_held qs ≤ length list₀ →
    Progress time (advance time (at m qs s)) (frames_held qs) list₀ qs s m 0 list₀
unfolding flat_map
at_start {qs} {s} {m} n few positive sender later room =
    let f : Few qs = everywhere (λ l. length l ≤ most_frames) qs n (omega arith) few in
    record {
      gone = [];
      split = refl;
      eight = n;
      few = f;
      positive = everywhere (λ l. Each (λ (f : Frame). 0 < f.length) l) qs n done positive;
      sends = fit_sends m qs s sender;
      later = later;
      count = refl;
      none_lost = omega arith;
      most = omega (arith, frames_few qs most_frames f);
      room = room;
      listing = refl;
      same = refl;
    }

pub few_gone : {time : ℕ} {whole : Advance} {all : ℕ} {list₀ : List ℕ} {qs : List (List Frame)} {s : Sender} {m k : ℕ} {list : List ℕ} →
    Progress time whole all list₀ qs s m k list → k ≤ most_frames * 8
few_gone f = omega (arith, f.none_lost, f.most)

-- ---- who sends has a head that is not through
pub is_sending : {qs : List (List Frame)} {s r : Sender} {m time p start : ℕ} → GoesOn qs s m time r → r ≡ sending p start → UnderWay qs p start m
is_sending g e = rw e at g.sends

-- one frame less waits where it has left
pub fewer : {qs : List (List Frame)} {s r : Sender} {m time p start : ℕ} → GoesOn qs s m time r → r ≡ sending p start → {qs' : List (List Frame)} → qs' ≡ without_head qs p → frames_held qs' < frames_held qs
fewer {qs} {p = p} g e hg = let o = is_sending g e in rw hg (omega (arith, frames_gone qs p o.waits))

module _ {time : ℕ} {whole : Advance} {all : ℕ} {list₀ : List ℕ} {qs : List (List Frame)} {s : Sender} {m k : ℕ} {list : List ℕ} (f : Progress time whole all list₀ qs s m k list)
    {r : Sender} (g : GoesOn qs s m time r) where
  -- nobody is left to send
  pub over_idle : r ≡ idle → advance time (at m qs s) ≡ advanced [] (at time qs r)
  over_idle e = g.same ∙ g.over e ∙ rw e

  -- no more leaves
  pub whole_is : advance time (at m qs s) ≡ advanced [] (at time qs r) → whole ≡ advanced f.gone (at time qs r)
  whole_is e = rw (f.split, e, append-nil)

  module _ {p start : ℕ} (e : r ≡ sending p start) where
    pub has_room : 3 * k + 3 ≤ length list
    has_room = let o = is_sending g e in omega (arith, frames_gone qs p o.waits, f.none_lost, f.room, f.same)

    module _ {len : ℕ} (le : len ≡ (head_of qs p).length) where
      -- a frame is under way
      pub over_sending : time < start + len → advance time (at m qs s) ≡ advanced [] (at time qs r)
      over_sending h =
          let v : time < start + (head_of qs p).length = omega arith in
          g.same ∙ rw e (under_way qs p start time m f.later v)

      -- a frame leaves
      pub leaves : start + len ≤ time →
          advance time (at m qs s) ≡ preceded (departure (head_of qs p) (start + (head_of qs p).length) ∷ []) (advance time (at (start + (head_of qs p).length) (without_head qs p) idle))
      leaves h = let o = is_sending g e in g.same ∙ rw e (sent qs p start time m o.ends (omega arith))

      pub one_more : {n : ℕ} → n ≡ (head_of qs p).number → start + len ≤ time → {qs' : List (List Frame)} → qs' ≡ without_head qs p → {list' : List ℕ} →
          list' ≡ take (3 * k) list ++ (n ∷ len ∷ (start + len) ∷ drop (3 * k + 3) list) → length list' ≡ length list →
          Progress time whole all list₀ qs' idle (start + len) (k + 1) list'
      one_more {n} ne h {qs'} hg {list'} q sl =
          let o = is_sending g e in
          let head = head_of qs p in
          let rest = advance time (at (start + head.length) (without_head qs p) idle) in
          let w : whole ≡ preceded f.gone (preceded (departure head (start + head.length) ∷ []) rest) = rw (f.split, leaves h) in
          let d : Departure = record { number = n; length = len; freed = start + len } in
          let i : p < length qs = omega (arith, f.eight, o.in_range) in
          record {
            gone = f.gone ++ (d ∷ []);
            split = rw (hg, le, ne) (w ∙ preceded_preceded f.gone (departure head (start + head.length) ∷ []) rest);
            eight = rw (hg, length-set) f.eight;
            few = rw hg (set_keeps (λ q l. length l ≤ most_frames) qs p (drop 1 (queue_of qs p)) i (rw length-drop (omega (arith, f.few p))) f.few);
            positive = rw hg (pop_each (λ q (x : Frame). 0 < x.length) qs p i f.positive);
            sends = tt;
            later = h;
            count = rw length-append (omega (arith, f.count));
            none_lost = rw hg (omega (arith, f.none_lost, frames_gone qs p o.waits));
            most = f.most;
            room = f.room;
            listing = q ∙ list_more f.gone d k list₀ list f.count f.listing;
            same = sl ∙ f.same;
          }
