-- Numbers in bytes, eight bytes each: how many, each by its place, the rest of them; reports in bytes; numbers laid down.
use mathlib.Core.Path.{◌≡◌, refl, sym, ap, ◌∙◌}
use mathlib.Core.List.{List, [], ◌∷◌, ◌++◌, append_assoc, flat_map}
use Prim.Native.Nat.{ℕ, zero, suc, ◌+◌, ◌-◌, ◌*◌, ◌/◌, ◌≤◌, ◌<◌}
use native.Mathlib.Omega.{arith}
use lib.ListN.{length, get_or, take, drop, length-drop}
use lib.Seq.{length-take-le, take_all, take-suc, drop-drop}
use Rattle.model.specs.TableFile.{to_bytes, number_at}
use Rattle.model.specs.Batch.{numbers_of, numbers_in, bytes_of, over}
use Rattle.model.proofs.Bytes.{length-to_bytes}
use Rattle.model.proofs.Lists.{length-flat_map, flat_map_more}
use Rattle.model.proofs.Reports.{report_at}
use Rattle.model.proofs.Batches.{over_more}
use Rattle.little_endian.specs.Output.{laid}
use Rattle.little_endian.proofs.Laid.{none_laid, then_laid}
use Rattle.report_bytes.specs.Reports.{report_in}

-- ---- numbers read
length_numbers : (n : ℕ) (bytes : List ℕ) → length (numbers_of n bytes) ≡ n
unfolding numbers_of
length_numbers zero bytes = refl
length_numbers (suc n) bytes = ap suc (length_numbers n (drop 8 bytes))

number_of : (n j : ℕ) (bytes : List ℕ) → j < n → get_or (numbers_of n bytes) j 0 ≡ number_at (8 * j) 8 bytes
unfolding numbers_of
number_of zero j bytes h = absurd (omega arith)
number_of (suc n) zero bytes h = refl
number_of (suc n) (suc j) bytes h =
    let e : 8 * suc j ≡ 8 + 8 * j = omega arith in
    rw (e, ← drop-drop (8 * j) 8 bytes) (number_of n j (drop 8 bytes) (omega arith))

numbers_from : (k n : ℕ) (bytes : List ℕ) → drop k (numbers_of (k + n) bytes) ≡ numbers_of n (drop (8 * k) bytes)
unfolding numbers_of
numbers_from zero n bytes = let e : 0 + n ≡ n = omega arith in rw e
numbers_from (suc k) n bytes =
    let e : suc k + n ≡ suc (k + n) = omega arith in
    let f : 8 * suc k ≡ 8 + 8 * k = omega arith in
    rw (e, f, ← drop-drop (8 * k) 8 bytes) (numbers_from k n (drop 8 bytes))

module _ (bytes : List ℕ) where
  pub numbers_long : length (numbers_in bytes) ≡ length bytes / 8
  numbers_long = length_numbers (length bytes / 8) bytes

  pub number_in : (j : ℕ) → j < length bytes / 8 → get_or (numbers_in bytes) j 0 ≡ number_at (8 * j) 8 bytes
  number_in j h = number_of (length bytes / 8) j bytes h

  pub numbers_behind : (k : ℕ) → 8 * k ≤ length bytes → drop k (numbers_in bytes) ≡ numbers_in (drop (8 * k) bytes)
  numbers_behind k h =
      let e : length bytes / 8 ≡ k + (length bytes - 8 * k) / 8 = omega arith in
      rw (length-drop, e) (numbers_from k ((length bytes - 8 * k) / 8) bytes)

  number_from : (j place : ℕ) → 8 * j ≡ place → j < length bytes / 8 → number_at place 8 bytes ≡ get_or (numbers_in bytes) j 0
  number_from j place e h = sym (rw e at (number_in j h))

  -- report i
  module _ (i : ℕ) (h : i < length bytes / 40) where
    pub form_in : number_at (40 * i) 8 bytes ≡ get_or (numbers_in bytes) (5 * i) 0
    form_in = number_from (5 * i) (40 * i) (omega arith) (omega arith)

    pub report_in_lem : report_in bytes (40 * i) ≡ report_at (numbers_in bytes) (5 * i)
    report_in_lem =
        rw (
          form_in,
          number_from (5 * i + 1) (40 * i + 8) (omega arith) (omega arith),
          number_from (5 * i + 2) (40 * i + 16) (omega arith) (omega arith),
          number_from (5 * i + 3) (40 * i + 24) (omega arith) (omega arith),
          number_from (5 * i + 4) (40 * i + 32) (omega arith) (omega arith),
        )

-- ---- numbers laid down
pub bytes_long : (numbers : List ℕ) → length (bytes_of numbers) ≡ 8 * length numbers
bytes_long numbers = length-flat_map (to_bytes 8) 8 (length-to_bytes 8) numbers

pub bytes_joined : (a b : List ℕ) → bytes_of (a ++ b) ≡ bytes_of a ++ bytes_of b
unfolding flat_map
bytes_joined [] b = refl
bytes_joined (x ∷ a) b = rw append_assoc (ap (λ (l : List ℕ). to_bytes 8 x ++ l) (bytes_joined a b))

-- the first i numbers of a list, and one more
pub record Laying (from out₀ : List ℕ) (at : ℕ) (out : List ℕ) (i : ℕ) : Type 0 where
  pub laid_are : out ≡ laid at (bytes_of (take i from)) out₀
  pub long : length out ≡ length out₀
  pub left : i ≤ length from

pub none_laying : (from out : List ℕ) (at : ℕ) → Laying from out at out 0
unfolding flat_map
none_laying from out at = record { laid_are = none_laid at out; long = refl; left = omega arith }

module _ {from out₀ : List ℕ} {at : ℕ} {out : List ℕ} {i : ℕ} (k : Laying from out₀ at out i) where
  pub lays : at + 8 * length from ≤ length out₀ → i < length from → {out' : List ℕ} → out' ≡ laid (at + 8 * i) (to_bytes 8 (get_or from i 0)) out → length out' ≡ length out →
      Laying from out₀ at out' (i + 1)
  lays room below {out'} e m =
      let x = get_or from i 0 in
      let more : take (i + 1) from ≡ take i from ++ (x ∷ []) = let s : i + 1 ≡ suc i = omega arith in rw s (take-suc from i 0 (omega arith)) in
      let far : length (bytes_of (take i from)) ≡ 8 * i = rw (bytes_long, length-take-le i from (omega arith)) in
      record {
        laid_are =
            rw (more, flat_map_more (to_bytes 8) (take i from) x)
            (then_laid at (at + 8 * i) (bytes_of (take i from)) (to_bytes 8 x) out₀ out out' (omega arith) (rw (length-to_bytes 8 x) (omega arith)) k.laid_are e);
        long = m ∙ k.long;
        left = omega arith;
      }

  pub all_laid : length from ≤ i → out ≡ laid at (bytes_of from) out₀
  all_laid h = rw (take_all i from h) at k.laid_are

-- behind those at the start of a run of bytes
pub bytes_over : (xs ys old : List ℕ) {bytes bytes' : List ℕ} {at : ℕ} → 8 * length xs ≡ at → bytes ≡ over (bytes_of xs) old → bytes' ≡ laid at (bytes_of ys) bytes → bytes' ≡ over (bytes_of (xs ++ ys)) old
unfolding laid
bytes_over xs ys old {bytes} {bytes'} {at} n e f =
    f ∙ rw (append_assoc, bytes_joined) (over_more (bytes_of xs) (bytes_of ys) old bytes at (bytes_long xs ∙ n) e)
