-- The BAG of a code by the model's law: the power of two as it is shifted, within 64 bits.
use mathlib.Core.Path.{◌≡◌, sym, ap, ◌∙◌}
use Prim.Native.Nat.{ℕ, ◌*◌, ◌%◌, ◌^◌, ◌≤◌, ◌<◌, min}
use native.Mathlib.Nat.{mul-le-mul, mod-eq_of_lt}
use native.Mathlib.Omega.{arith}
use Rattle.model.specs.Link.{bag_of}
use Rattle.model.proofs.Bags.{bag_capped, power_few}

pub shifted_few : (n k : ℕ) → n ≤ 65_535 → k ≤ 7 → n * 2 ^ k ≤ 8_388_480
shifted_few n k l h = mul-le-mul l (power_few k h)

pub shifted : (m n k : ℕ) → 8_388_480 < m → n ≤ 65_535 → k ≤ 7 → n * 2 ^ k % m ≡ n * 2 ^ k
shifted m n k r l h = mod-eq_of_lt (omega (arith, shifted_few n k l h))

pub bag_shifted : (code k : ℕ) → k ≡ min code 7 → 12_500 * (1 * 2 ^ k % 2 ^ 64) ≡ bag_of code
bag_shifted code k e =
    let one : 1 * 2 ^ k ≡ 2 ^ k = omega arith in
    ap (λ n. 12_500 * n) (shifted (2 ^ 64) 1 k (omega arith) (omega arith) (omega arith) ∙ one) ∙ rw e (sym (bag_capped code))
