-- A decision, and the part of it by the frames alone, are what the model selects: the part does not read the ticks.
use mathlib.Core.Path.{◌≡◌, refl, ap, ◌∙◌}
use mathlib.Core.Bool.{cond}
use mathlib.Core.List.{List, []}
use Prim.Native.Nat.{ℕ, ◌-◌}
use lib.ListN.{length, take}
use Rattle.model.specs.Redundancy.{Network, neither, network_a, network_b, State, Decision, waiting_on, decide, part_of, select}
use Rattle.redundancy.specs.declared.Waiting.{Waiting as WaitingRecord}
use Rattle.redundancy.specs.View.{presented, frames}

module _ (a b : WaitingRecord) where
  same_frame : (n : Network) → (waiting_on n (frames a.frame.now b.frame.now)).frame ≡ (waiting_on n (presented a b)).frame
  unfolding waiting_on
  same_frame neither = refl
  same_frame network_a = refl
  same_frame network_b = refl

  same_part : (d : Decision) → part_of d (frames a.frame.now b.frame.now) ≡ part_of d (presented a b)
  unfolding part_of
  same_part d = ap (λ (f : List ℕ). cond d.handed_on (take (length f - 1) f) []) (same_frame d.network)

  pub selecting : (s : State) (d : Decision) (p : List ℕ) → d ≡ decide s (presented a b) → p ≡ part_of d (frames a.frame.now b.frame.now)
      → record { decision = d; part = p } ≡ select s (presented a b)
  unfolding select
  selecting s d p decided parted =
      let e = parted ∙ (same_part d ∙ ap (λ (x : Decision). part_of x (presented a b)) decided) in
      λ i. record { decision = decided i; part = e i }
