-- The BAG of a code: a power of two times the least, so never below 12,500 nor above 1,600,000.
use mathlib.Core.Path.{◌≡◌, refl, ap}
use Prim.Native.Nat.{ℕ, ◌*◌, ◌^◌, ◌≤◌, ◌<◌, min}
use native.Mathlib.Nat.{one-le-pow, pow-le-pow_right, mul-le-mul_left}
use native.Mathlib.Omega.{arith}
use Rattle.model.specs.Link.{VirtualLink, bag_of, bag}
use Rattle.model.specs.Promises.{BagConstants, LastBag}

-- the standard's table, by computing
pub bag_constants : BagConstants
unfolding bag_of
bag_constants = refl

pub last_bag : LastBag
unfolding bag_of
last_bag code h = let e : min code 7 ≡ 7 = omega arith in ap (λ k. 12_500 * 2 ^ k) e

-- the law: what follows, here and in the crates above, goes by it and not by how the BAG is found
pub bag_capped : (code : ℕ) → bag_of code ≡ 12_500 * 2 ^ min code 7
unfolding bag_of
bag_capped code = refl

pub bag_power : (code : ℕ) → code ≤ 7 → bag_of code ≡ 12_500 * 2 ^ code
bag_power code h = let e : min code 7 ≡ code = omega arith in rw e at (bag_capped code)

pub bag_least : (code : ℕ) → 12_500 ≤ bag_of code
bag_least code = rw bag_capped (mul-le-mul_left 12_500 (one-le-pow (min code 7) 2 (omega arith)))

pub power_few : (k : ℕ) → k ≤ 7 → 2 ^ k ≤ 128
power_few k h = pow-le-pow_right {n = 2} (omega arith) {i = k} {j = 7} h

pub bag_most : (code : ℕ) → bag_of code ≤ 1_600_000
bag_most code = rw bag_capped (mul-le-mul_left 12_500 (power_few (min code 7) (omega arith)))

pub bag_positive : (v : VirtualLink) → 0 < bag v
bag_positive v = omega (arith, bag_least v.code)
