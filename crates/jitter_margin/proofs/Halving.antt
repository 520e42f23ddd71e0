-- Halving: of the jitters 0 to 125,000 all below low fit and none from high on does.
use mathlib.Core.Path.{◌≡◌, refl, sym, ◌∙◌}
use mathlib.Core.Bool.{Bool, true, false}
use Prim.Native.Nat.{ℕ, zero, suc, ◌+◌, ◌≤◌, ◌<◌}
use native.Mathlib.Nat.{le_refl}
use native.Mathlib.Omega.{arith}
use Rattle.model.specs.Table.{Table}
use Rattle.model.specs.JitterMargin.{jitter_fits, greatest_fitting}
use Rattle.model.proofs.Search.{is_last, is_no_last}
use Rattle.model.proofs.JitterMargin.{smaller_fits}
use Rattle.jitter_margin.specs.Fitting.{last_of}

pub record Halved (t : Table) (number low high : ℕ) : Type 0 where
  pub order : low ≤ high
  pub most : high ≤ 125_001
  pub below : (k : ℕ) → k < low → jitter_fits t number k ≡ true
  pub above : (k : ℕ) → high ≤ k → k < 125_001 → jitter_fits t number k ≡ false

module _ (t : Table) (number : ℕ) where
  pub halved_start : Halved t number 0 125_001
  halved_start = record { order = omega arith; most = le_refl 125_001; below = λ k l. absurd (omega arith); above = λ k l m. absurd (omega arith) }

  module _ (low high half : ℕ) (h : Halved t number low high) (from : low ≤ half) (to : half < high) where
    pub half_fits : true ≡ jitter_fits t number half → Halved t number (half + 1) high
    half_fits e =
        record {
          order = omega arith;
          most = h.most;
          below = λ k l. smaller_fits t number k half (omega arith) (omega (arith, h.most)) (sym e);
          above = h.above;
        }

    pub half_breaks : false ≡ jitter_fits t number half → Halved t number low half
    half_breaks e = record { order = from; most = omega (arith, h.most); below = h.below; above = λ k l m. go k l m (jitter_fits t number k) refl }
      where
        go : (k : ℕ) → half ≤ k → k < 125_001 → (b : Bool) → jitter_fits t number k ≡ b → b ≡ false
        go k l m true q = sym (smaller_fits t number half k l (omega arith) q) ∙ sym e
        go k l m false q = refl

  pub halved_end : (low high : ℕ) → Halved t number low high → high ≤ low → greatest_fitting t number ≡ last_of low
  unfolding greatest_fitting last_of
  halved_end zero high h l = is_no_last (jitter_fits t number) 125_001 (λ k m. h.above k (omega arith) m)
  halved_end (suc w) high h l =
      is_last (jitter_fits t number) 125_001 w
      (record { below = omega (arith, h.order, h.most); holds = h.below w (le_refl (suc w)); after = λ k m n. h.above k (omega arith) n })
