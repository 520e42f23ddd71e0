-- The sums of counts, by the parts that the code asks.
use mathlib.Core.Path.{◌≡◌, refl, ap}
use mathlib.Core.Bool.{Bool, true, false}
use mathlib.Core.List.{List}
use Prim.Native.Nat.{ℕ, ◌≤◌}
use native.Mathlib.Omega.{arith}
use Rattle.std.specs.Prelude.{Option, Some, None, Result, Ok, Err, IsOkAnd}
use Rattle.std.specs.Bool.{then_some}
use Rattle.model.specs.Basics.{entries, provided}
use Rattle.model.specs.Counters.{Counters, link_sums, grand_total, none_full}
use Rattle.model.specs.Sums.{Sums, sums_if}
use Rattle.refusal.specs.declared.Refusal.{Refusal}
use Rattle.refusal.proofs.Numbers.{number_not_0}
use Rattle.counter_sums.specs.declared.Sums.{Sums as SumsRecord}
use Rattle.counter_sums.specs.View.{has_total, total_or_0, answered, padded}

flag_is : (b : Bool) (n : ℕ) → has_total (then_some b n) ≡ b
flag_is true n = refl
flag_is false n = refl

total_is : (b : Bool) (n : ℕ) → total_or_0 (then_some b n) ≡ provided b n
unfolding provided
total_is true n = refl
total_is false n = refl

-- all n
pub of_counts : (n : ℕ) (c : Counters) (i : ℕ) {sums : List ℕ} {total : ℕ} {b : Bool} {o : Option ℕ} → sums ≡ entries 0 256 (link_sums i c) → total ≡ grand_total i c → i ≤ n → n ≤ i
    → b ≡ none_full n c → o ≡ then_some b total → answered (Ok (record { sums = sums; total = o })) ≡ padded (sums_if true n c)
unfolding sums_if
of_counts n c i {total = total} {b} s t h m none e =
    let same : i ≡ n = omega arith in
    rw (e, flag_is b total, total_is b total, none, t, s, same)

-- a total told as a flag and a number
total_given : (o : Option ℕ) {n : ℕ} → has_total o ≡ true → total_or_0 o ≡ n → o ≡ Some n
total_given None h e = absurd (let y : false ≡ true = h in cc)
total_given (Some m) h e = ap Some e

-- sums that are told with a total were answered, with that total
pub given : (r : Result SumsRecord Refusal) {s : List ℕ} {n : ℕ} → answered r ≡ record { refused = 0; sums = s; has_total = true; total = n } → IsOkAnd r (λ (x : SumsRecord). x.total ≡ Some n)
given (Ok x) e = total_given x.total (ap (λ (s : Sums). s.has_total) e) (ap (λ (s : Sums). s.total) e)
given (Err x) e = absurd (number_not_0 x (ap (λ (s : Sums). s.refused) e))
