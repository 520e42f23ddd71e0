-- What follows from a level: no frame stays as long as the hold, and what is held is at most the bound.
use mathlib.Core.Path.{◌≡◌, refl}
use mathlib.Core.Bool.{Bool, true, false, cond}
use Prim.Native.Nat.{ℕ, suc, ◌+◌, ◌-◌, ◌≤◌, ◌<◌, min}
use native.Mathlib.Nat.{le_refl, lt_of_not-le}
use native.Mathlib.Decide.{dec_le, ℕ_discrete}
use native.Mathlib.Omega.{arith}
use lib.Dec.{leb}
use borrow.Author.Tests.{eqb-true, le-leb, lt-leb, lt-ltb}
use Rattle.model.specs.Basics.{provided, greatest_to, Each}
use Rattle.model.specs.Units.{occupied}
use Rattle.model.specs.Link.{any_of}
use Rattle.model.specs.Table.{Table}
use Rattle.model.specs.Bounds.{of_priority, beyond, own_arrivals, up_arrivals, longest, blocking, backlog, bound_within}
use Rattle.model.specs.Machine.{Sender, idle, sending, Scheduler, queue_of, head_of, held}
use Rattle.model.proofs.Search.{greatest_to_ge}
use Rattle.model.proofs.Curves.{occupied_weight, greatest_within, greatest_none}
use Rattle.model.proofs.Queues.{wire_bytes, each_map, each_head, bytes_below, sizes_head, sizes_waits, up, up_one, up_two}
use Rattle.model.proofs.BusyPeriod.{Under, SendsInTime, Meets, Sound, part, Level}

-- ---- no frame of the level stays as long as the hold
pub level_hold : (p b hold : ℕ) (X Y : ℕ → ℕ) (st : Scheduler) → Level p b hold X Y st → (q : ℕ) → q ≤ p → Each (λ f. st.clock < f.arrival + hold) (queue_of st.queues q)
level_hold p b hold X Y st l q k = each_map (λ f m. omega (arith, l.since, l.busy)) (l.recent q k)

-- ---- bound
module _ (limit : ℕ → ℕ) (p b hold M : ℕ) (X Y : ℕ → ℕ) where
  -- what is held, with room for a frame of which all but one byte has left
  pub level_second : (st : Scheduler) → Sound limit st → limit p ≤ M → (l : Level p b hold X Y st) → 0 < wire_bytes (queue_of st.queues p)
      → wire_bytes (queue_of st.queues p) + (st.clock - l.s - b) + 1 ≤ X l.s + M
  unfolding part SendsInTime provided
  level_second st k h l n = go st.sender refl
    where
      m : Meets (limit p) st.clock (head_of st.queues p)
      m = each_head (k.frames p) (sizes_waits (λ f i. i.positive) (k.frames p) n)

      go : (z : Sender) → st.sender ≡ z → wire_bytes (queue_of st.queues p) + (st.clock - l.s - b) + 1 ≤ X l.s + M
      go idle e =
          let w : up p st.queues + (st.clock - l.s) ≤ X l.s + 0 + min (st.clock - l.s) b = rw e at l.work in
          omega (arith, m.positive, m.short, up_one p p st.queues (le_refl p))
      go (sending q t) e = by_order (dec_le q p)
        where
          u : Under st.clock st.queues q t
          u = (rw e at k.sends).1

          w : up p st.queues + (st.clock - l.s) ≤ X l.s + provided (leb q p) (st.clock - t) + min (st.clock - l.s) b
          w = rw e at l.work

          by_order : Dec (q ≤ p) → wire_bytes (queue_of st.queues p) + (st.clock - l.s - b) + 1 ≤ X l.s + M
          by_order (no i) =
              let v : up p st.queues + (st.clock - l.s) ≤ X l.s + 0 + min (st.clock - l.s) b = rw (lt-leb q p (lt_of_not-le i)) at w in
              omega (arith, m.positive, m.short, up_one p p st.queues (le_refl p))
          by_order (yes i) = among (ℕ_discrete q p) (rw (le-leb q p i) at w)
            where
              among : Dec (q ≡ p) → up p st.queues + (st.clock - l.s) ≤ X l.s + (st.clock - t) + min (st.clock - l.s) b
                  → wire_bytes (queue_of st.queues p) + (st.clock - l.s - b) + 1 ≤ X l.s + M
              among (yes j) v =
                  let ends : st.clock < t + (head_of st.queues p).length = rw j at u.ends in
                  omega (arith, m.positive, m.short, up_one p p st.queues (le_refl p))
              among (no j) v =
                  omega (arith, m.positive, m.short, up_two p q st.queues (omega arith), u.ends, sizes_head (queue_of st.queues q) u.waits)

-- a frame of a priority beyond p blocks level p for no longer than b
pub blocks : (t : Table) (p q : ℕ) → p < q → longest t q ≤ suc (blocking t p)
unfolding longest blocking of_priority beyond
blocks t p q l =
    omega (arith, greatest_within (of_priority q) (beyond p) (λ v. v.greatest) t.links (λ v e. lt-ltb p v.priority (omega (arith, eqb-true v.priority q e))))

-- ---- held is at most the bound
pub level_bound : (t : Table) (p hold : ℕ) (X Y : ℕ → ℕ) (st : Scheduler) → Sound (longest t) st → (l : Level p (blocking t p) hold X Y st)
    → X l.s ≤ up_arrivals t p (st.clock - l.s) → Y l.s ≤ own_arrivals t p (st.clock - l.s)
    → held (queue_of st.queues p) ≤ bound_within t p hold
unfolding bound_within backlog longest
level_bound t p hold X Y st k l x y = go (any_of (of_priority p) t.links) refl (dec_le (held (queue_of st.queues p)) 0)
  where
    least : held (queue_of st.queues p) ≤ wire_bytes (queue_of st.queues p)
    least = bytes_below occupied occupied_weight (queue_of st.queues p)

    go : (x : Bool) → any_of (of_priority p) t.links ≡ x → Dec (held (queue_of st.queues p) ≤ 0) → held (queue_of st.queues p) ≤ cond x (greatest_to (backlog t p) hold) 0
    go b e (yes z) = omega arith
    go true e (no z) =
        omega (
          arith,
          greatest_to_ge (backlog t p) hold (st.clock - l.s) l.busy,
          l.own,
          level_second (longest t) p (blocking t p) hold (longest t p) X Y st k (le_refl (longest t p)) l (omega (arith, least)),
          least,
        )
    go false e (no z) = absurd (none (each_head (k.frames p) (sizes_waits (λ f i. i.positive) (k.frames p) (omega (arith, least)))))
      where
        none : Meets (longest t p) st.clock (head_of st.queues p) → ⊥
        none m = omega (arith, m.positive, m.short, empty)
          where
            empty : longest t p ≡ 0
            empty = omega (arith, greatest_none (of_priority p) (λ v. v.greatest) t.links e)
