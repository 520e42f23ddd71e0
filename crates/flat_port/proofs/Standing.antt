-- What a port in flat lists that is fit tells: what refusals, the advance and the verdict ask.
use mathlib.Core.Path.{◌≡◌, refl, sym}
use mathlib.Core.Bool.{true}
use mathlib.Core.List.{List}
use Prim.Native.Nat.{ℕ, zero, suc, ◌+◌, ◌*◌, ◌≤◌, ◌<◌}
use native.Mathlib.Omega.{arith}
use borrow.Author.Tests.{eqb-true}
use lib.ListN.{length, get_or}
use Rattle.model.specs.Basics.{first_refusal}
use Rattle.model.specs.Units.{last_tick, occupied, most_frames}
use Rattle.model.specs.Table.{Table, size_of, table_refusal}
use Rattle.model.specs.Machine.{Frame, Sender, queue_of, frames_held}
use Rattle.model.specs.Port.{Port}
use Rattle.model.specs.Fitness.{fit}
use Rattle.model.specs.Report.{Report, report_refusal}
use Rattle.model.proofs.Checks.{all_true}
use Rattle.model.proofs.Refusals.{refusal_fit}
use Rattle.model.proofs.Lined.{lined_count}
use Rattle.model.proofs.Fitness.{FitPort, fit_is}
use Rattle.port_scheduler.specs.View.{view_sender}
use Rattle.port_scheduler.proofs.Sums.{frames_few}
use Rattle.port_scheduler.proofs.Progress.{everywhere}
use Rattle.port_refusals.specs.Reports.{Clocked}
use Rattle.flat_scheduler.specs.Promised.{Ready}
use Rattle.flat_scheduler.proofs.Rings.{ring_count}
use Rattle.flat_scheduler.proofs.Callers.{fit_ready}
use Rattle.flat_port.specs.declared.Lists.{Lists}
use Rattle.flat_port.specs.declared.FlatPort.{FlatPort}
use Rattle.flat_port.specs.Lists.{queues_in, view_lists, view_flat, Held, Stands}
use Rattle.flat_port.specs.Promised.{refusal_by}
use Rattle.flat_port.proofs.Judged.{Sized}

-- of two refusals in order
pub refused_first : {n : ℕ} (k m : ℕ) → (n ≡ 0 → ⊥) → n ≡ k → n ≡ first_refusal k m
unfolding first_refusal
refused_first zero m z e = absurd (z e)
refused_first (suc k) m z e = e

pub refused_last : {r : ℕ} (k m : ℕ) → 0 ≡ k → r ≡ m → r ≡ first_refusal k m
unfolding first_refusal
refused_last k m e x = rw (← e) x

module _ (t : Table) (p : FlatPort) (k : Stands t p) where
  abbrev port : Port
  port = view_flat t p

  abbrev l : Lists
  l = p.lists

  pub fits : FitPort t port
  fits = fit_is t port k.fits

  pub passes : table_refusal t ≡ 0
  unfolding fit
  passes = eqb-true (table_refusal t) 0 (all_true _ k.fits).0

  pub few_held : p.state.frames ≤ 2048
  few_held =
      let few = everywhere (λ (q : List Frame). length q ≤ most_frames) (queues_in l) k.holds.queues_eight (omega arith) fits.few in
      omega (arith, k.frames, k.holds.queues_eight, frames_few (queues_in l) most_frames few)

  -- 11 to 15 are asked of lines and ticks of a fit port
  pub clocked : Sized l → Clocked l.ticks t.lines
  clocked z = record { few = omega (arith, fits.table.counts.lines_most, z.ticks); early = λ ℓ h. omega (arith, fits.gate.lines_past ℓ h, fits.early) }

  pub by_parts : (r : Report) (room : ℕ) → refusal_by p.state t.lines l.ticks r room ≡ report_refusal t port r room
  by_parts r room = rw k.frames (sym (refusal_fit t port r room k.fits))

  -- the port's fitness, its tick tests and refusal 16 are what an advance asks
  pub ready : {time len : ℕ} → p.state.clock ≤ time → time ≤ last_tick → 3 * frames_held (queues_in l) ≤ len → Ready (queues_in l) (view_sender p.state.sender) p.state.clock time len
  ready later early room = fit_ready t port fits refl later early room

-- a queue with room for a frame is not full: a frame has at least the least length, a buffer at most 16,384 bytes
pub roomy : (t : Table) (clock : ℕ) (sender : Sender) (l : Lists) (len : ℕ) → Held l → fit t (view_lists t clock sender l) ≡ true → 84 ≤ len →
    (p : ℕ) → p < 8 → get_or l.rings.held p 0 + occupied len ≤ size_of t p → get_or l.rings.counts p 0 < most_frames
unfolding occupied
roomy t clock sender l len z f long p h room =
    let k : FitPort t (view_lists t clock sender l) = fit_is t (view_lists t clock sender l) f in
    omega (
      arith,
      z.bytes_are p h,
      ring_count l.rings.frames l.rings.heads l.rings.counts p,
      lined_count t p clock 0 (queue_of (queues_in l) p) k.table (k.lined p h),
      k.table.sizes.most p,
    )
