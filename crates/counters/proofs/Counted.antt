-- A count raised, and the counts of a record tested.
use mathlib.Core.Path.{◌≡◌, refl}
use mathlib.Core.Bool.{Bool, true, false, cond}
use mathlib.Core.List.{List}
use Prim.Native.Nat.{ℕ, ◌+◌, ◌*◌, ◌/◌, ◌%◌, ◌≤◌, ◌<◌}
use native.Mathlib.Omega.{arith}
use lib.Dec.{ltb}
use borrow.Author.Tests.{lt-ltb, le-ltb, ltb-true}
use lib.ListN.{length, get_or, set, take}
use Rattle.std.specs.Bool.{MatchBool}
use Rattle.std.specs.List.{AllWithin, HoldsAt}
use Rattle.std.proofs.lemmas.List.{get_or-take, length-take}
use lib.Seq.{get_or-set_same, get_or-set_other}
use Rattle.model.specs.Units.{full_count}
use Rattle.model.specs.Basics.{all_to}
use Rattle.model.specs.Counters.{Counters, verdicts, count_at, counted, every_count, risen}
use Rattle.model.proofs.Checks.{to_all}
use Rattle.model.proofs.Counting.{every_is}
use Rattle.std.specs.Prelude.{Some, None}
use Rattle.counters.specs.View.{rows_from, view_counts}
use Rattle.counters.specs.Promised.{Tallied}
use Rattle.counters.proofs.Rows.{count_at_lem, count_set, rows_other}

-- ---- one more
pub more : (n : ℕ) → n < full_count → n + 1 ≡ risen n
unfolding risen
more n h = rw (lt-ltb n full_count h) (omega arith)

pub no_more : (n : ℕ) → full_count ≤ n → n ≡ risen n
unfolding risen
no_more n h = rw (le-ltb n full_count h)

-- ---- the test of a record's counts
module _ (counts : List ℕ) (unknown n limit : ℕ) where
  abbrev below : ℕ → Bool
  below count = ltb count limit

  abbrev c : Counters
  c = view_counts n counts unknown

  one_above : (k : ℕ) → k < 4 * n → limit ≤ get_or counts k 0 → false ≡ every_count below n c
  one_above k h x = go (every_count below n c) refl
    where
      go : (b : Bool) → every_count below n c ≡ b → false ≡ b
      go false e = refl
      go true e =
          let i : k / 4 < n = omega arith in
          let z = (every_is below n c e).of_link_lem (k / 4) (k % 4) i (omega arith) in
          absurd (omega (arith, ltb-true (count_at c (k / 4) (k % 4)) limit z, count_at_lem 4 n counts (k / 4) (k % 4) {k = k} (omega arith) i (omega arith)))

  none_above : ((k : ℕ) → k < 4 * n → get_or counts k 0 < limit) → ltb unknown limit ≡ every_count below n c
  unfolding every_count
  none_above each =
      let links : all_to (λ i. all_to (λ v. below (count_at c i v)) verdicts) n ≡ true =
      to_all _ n (λ i h. to_all (λ v. below (count_at c i v)) verdicts (λ v m. lt-ltb (count_at c i v) limit (rw (count_at_lem 4 n counts i v {k = 4 * i + v} refl h m) (each (4 * i + v) (omega arith))))) in
      rw links

  abbrev links : List ℕ
  links = take (4 * n) counts

  -- the test of the links' counts, then that of the unknown one
  pub every_below : 4 * n ≤ length counts → (r : Bool) → MatchBool r (AllWithin (λ x. x < limit) links 0 (length links)) ((k : ℕ) × (k < length links) × HoldsAt (λ x. limit ≤ x) links k)
      → cond r (ltb unknown limit) false ≡ every_count below n c
  every_below h true each = none_above (λ k l. rw (get_or-take (4 * n) counts k 0 l) at (each k 0 (omega arith) (omega (arith, length-take (4 * n) counts))))
  every_below h false (k, l, above) =
      let m : k < 4 * n = omega (arith, length-take (4 * n) counts) in
      one_above k m (rw (get_or-take (4 * n) counts k 0 m) at (above 0))

-- ---- a flat list
pub unknown_more : (verdict : ℕ) (l : List ℕ) → length l ≡ 1281 → {x : ℕ} → x ≡ risen (get_or l 1280 0) → Tallied None verdict l (set l 1280 x)
unfolding counted
unknown_more verdict l sized {x} e =
    record {
      counted_is =
          λ n few within.
          let rows : rows_from 5 0 n (set l 1280 x) ≡ rows_from 5 0 n l = rows_other 5 0 n l 1280 x (λ i v h m y. omega arith) in
          let last : get_or (set l 1280 x) 1280 0 ≡ x = get_or-set_same l 1280 x 0 (omega arith) in
          rw (rows, last, e);
      behind = λ n within k low high. get_or-set_other l 1280 k x 0 (λ y. omega arith);
    }

pub known_more : (i verdict : ℕ) (l : List ℕ) → length l ≡ 1281 → verdict < 4 → i < 256 → {k x : ℕ} → k ≡ 5 * i + verdict → x ≡ risen (get_or l k 0) → Tallied (Some i) verdict l (set l k x)
unfolding counted
known_more i verdict l sized v h {k} {x} e r =
    record {
      counted_is =
          λ n few within.
          let b : i < n = within i refl in
          let rows = count_set 5 n l i verdict e b v x (omega arith) (omega arith) in
          let here = count_at_lem 5 n l i verdict e b v in
          let last : get_or (set l k x) 1280 0 ≡ get_or l 1280 0 = get_or-set_other l k 1280 x 0 (λ y. omega arith) in
          rw (rows, last, r, here);
      behind = λ n within j low high. let b : i < n = within i refl in get_or-set_other l k j x 0 (λ y. omega arith);
    }
