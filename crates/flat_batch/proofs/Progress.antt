-- How far a batch on flat lists is: what has been answered so far, and the model's batch from here.
use Rattle.std.specs.Prelude.{Some, None, Result, Ok, Err, ◌||◌}
use Rattle.std.specs.Bool.{then_some}
use Rattle.std.specs.Result.{is_ok}
use mathlib.Core.Path.{◌≡◌, refl, sym, ap, ◌∙◌}
use mathlib.Core.Bool.{Bool, true, false}
use mathlib.Core.List.{List, [], ◌∷◌, ◌++◌, append-nil, append_assoc, flat_map}
use Prim.Native.Nat.{ℕ, ◌+◌, ◌-◌, ◌*◌, ◌≤◌}
use native.Mathlib.Omega.{arith}
use lib.ListN.{length, take, drop, length-append, length-drop, take-append-drop, drop_of_length-le}
use lib.Seq.{take_all, take_at, drop_at, drop-drop}
use Rattle.model.specs.Basics.{Each, done, also}
use Rattle.model.specs.Table.{Table}
use Rattle.model.specs.Report.{Report}
use Rattle.model.specs.Run.{Entry}
use Rattle.model.specs.Batch.{Batched, departure_numbers, frames_freed, over}
use Rattle.model.proofs.Lists.{flat_map_more, each_of_both}
use Rattle.model.proofs.Batches.{Going, at_first, goes_on, at_last, entry_of, freed_more, Leaves, leaves}
use Rattle.refusal.specs.declared.Refusal.{Refusal}
use Rattle.refusal.proofs.Numbers.{number_not_0}
use Rattle.flat_port.specs.declared.FlatPort.{FlatPort}
use Rattle.flat_port.specs.declared.Accepted.{Accepted}
use Rattle.flat_port.specs.Lists.{view_flat, Stands}
use Rattle.flat_port.specs.Promised.{Reported, answered, Behind, Reports}
use Rattle.flat_batch.specs.Promised.{batch_of, AllRefused, Still, Ends}

each_back : {A : Type 0} {P : A → Type 0} (l : List A) (x : A) → Each P (l ++ (x ∷ [])) → Each P l × P x
each_back [] x (also p done) = (done, p)
each_back (y ∷ l) x (also p rest) = let k = each_back l x rest in (also p k.0, k.1)

one_is_zero : {A : Type 0} → true ≡ false → A
one_is_zero e = absurd (let x : ◌≡◌ {A = ℕ} 0 1 = cc in omega arith)

-- with one report more
pub still_of : (accepted : Bool) (outcome : Result Accepted Refusal) {r : Bool} → r ≡ (accepted || is_ok outcome) → Still accepted (answered outcome).refused r
still_of true (Ok a) e = rw e (record { none = λ z q. one_is_zero q; this = λ q. one_is_zero q; before = λ q. one_is_zero q })
still_of true (Err f) e = rw e (record { none = λ z q. q; this = λ q. one_is_zero q; before = λ q. q })
still_of false (Ok a) e = rw e (record { none = λ z q. absurd (z refl); this = λ q. one_is_zero q; before = λ q. refl })
still_of false (Err f) e = rw e (record { none = λ z q. refl; this = λ q. number_not_0 f; before = λ q. refl })

pub record Progress (t : Table) (p₀ : FlatPort) (whole : Batched) (so_far : List Entry) (rest : List Report) (lent : List ℕ) (p : FlatPort) (i written : ℕ) (accepted : Bool) : Type 0 where
  pub going : Going t whole so_far (view_flat t p) rest lent
  pub stands : Stands t p
  pub count : length so_far ≡ i
  pub freed : frames_freed so_far ≡ written
  pub departed : length (flat_map departure_numbers so_far) ≡ 3 * written
  pub untouched : AllRefused so_far → accepted ≡ false
  pub all_refused : accepted ≡ false → AllRefused so_far
  pub behind : Behind t p₀.lists p.lists

pub at_start : {t : Table} {p : FlatPort} (reports : List Report) (list : List ℕ) → Stands t p → Progress t p (batch_of t p reports list) [] reports list p 0 0 false
unfolding frames_freed flat_map
at_start {t} {p} reports list k =
    record {
      going = at_first t (view_flat t p) reports list;
      stands = k;
      count = refl;
      freed = refl;
      departed = refl;
      untouched = λ x. refl;
      all_refused = λ x. done;
      behind = record { lines = refl; accounts = refl; tallies = λ j a b. refl };
    }

pub at_end : {t : Table} {p₀ : FlatPort} {whole : Batched} {so_far : List Entry} {lent : List ℕ} {p : FlatPort} {i written : ℕ} (accepted : Bool) →
    Progress t p₀ whole so_far [] lent p i written accepted → Ends t p₀ whole (then_some accepted written) p
at_end {written = written} accepted k =
    let e = at_last k.going in
    record {
      port = sym (ap (λ (b : Batched). b.port) e);
      stands = k.stands;
      departures = λ n q. some_of accepted n q ∙ sym k.freed ∙ ap frames_freed (sym (ap (λ (b : Batched). b.entries) e));
      untouched = λ x. rw (k.untouched (rw e at x));
      all_refused = λ x. rw e (k.all_refused (none_of accepted x));
      behind = k.behind;
    }
  where
    some_of : (b : Bool) (n : ℕ) → then_some b written ≡ Some n → n ≡ written
    some_of true n q = let y : n ≡ written = cc in y
    some_of false n q = absurd (let y : ◌≡◌ {A = ℕ} 0 1 = cc in omega arith)

    none_of : (b : Bool) → then_some b written ≡ None → b ≡ false
    none_of true q = absurd (let y : ◌≡◌ {A = ℕ} 0 1 = cc in omega arith)
    none_of false q = refl

-- ---- one report more
module _ {t : Table} {p₀ : FlatPort} {whole : Batched} {so_far : List Entry} {r : Report} {rest : List Report} {lent : List ℕ} {p : FlatPort} {i written : ℕ} {accepted : Bool}
    (k : Progress t p₀ whole so_far (r ∷ rest) lent p i written accepted) {after : List ℕ} {a : Reported} {p' : FlatPort} (x : Reports t p r lent after a p') where
  abbrev entry : Entry
  entry = entry_of t (view_flat t p) r lent

  pub left : Leaves lent entry
  left = leaves t (view_flat t p) r lent

  pub one_more : {flag : Bool} → Still accepted a.refused flag → Progress t p₀ whole (so_far ++ (entry ∷ [])) rest (drop (3 * a.frames) lent) p' (i + 1) (written + a.frames) flag
  one_more {flag} f =
      record {
        going = rw (x.port, x.frames, ← left.rest) (goes_on k.going);
        stands = x.stands;
        count = rw length-append (omega (arith, k.count));
        freed = rw (freed_more so_far entry, x.frames) (omega (arith, k.freed));
        departed = rw (flat_map_more departure_numbers so_far entry, length-append) (omega (arith, k.departed, left.written, x.frames));
        untouched = λ y. let z = each_back so_far entry y in f.none (λ q. z.1 (sym x.refused ∙ q)) (k.untouched z.0);
        all_refused = λ q. each_of_both (k.all_refused (f.before q)) (also (λ z. f.this q (x.refused ∙ z)) done);
        behind = record {
          lines = x.behind.lines ∙ k.behind.lines;
          accounts = x.behind.accounts ∙ k.behind.accounts;
          tallies = λ j a b. x.behind.tallies j a b ∙ k.behind.tallies j a b;
        };
      }

-- ---- the list whose rest is lent, numbers at its start
module _ (old W : List ℕ) {x : List ℕ} {k : ℕ} (n : length W ≡ k) (e : x ≡ over W old) (same : length x ≡ length old) where
  pub start_fits : k ≤ length old
  start_fits = let z : length x ≡ length W + (length old - length W) = rw (e, length-append, length-drop) in omega arith

  pub rest_lent : take (length x - k) (drop k x) ≡ drop k old
  rest_lent =
      let z : drop k x ≡ drop k old = rw (e, drop_at W (drop (length W) old) k n, n) in
      rw z (take_all (length x - k) (drop k old) (rw length-drop (omega arith)))

  -- the part as a call left it: written at its start, and the rest as found
  pub rest_back : (part W' : List ℕ) (f : ℕ) → length W' ≡ f → W' ≡ take f part → drop f part ≡ drop f (drop k old) →
      take k x ++ (part ++ drop (length x - k) (drop k x)) ≡ over (W ++ W') old
  rest_back part W' f m w d =
      let z : drop k x ≡ drop k old = rw (e, drop_at W (drop (length W) old) k n, n) in
      let none : drop (length x - k) (drop k old) ≡ [] = drop_of_length-le (drop k old) {i = length x - k} (rw length-drop (omega arith)) in
      let p : part ≡ W' ++ drop f (drop k old) = sym (take-append-drop f part) ∙ rw (w, d) in
      let q : k + f ≡ length W + length W' = omega arith in
      rw (z, none, append-nil, p, e, take_at W (drop (length W) old) k n, drop-drop f k old, length-append, ← q, append_assoc)
