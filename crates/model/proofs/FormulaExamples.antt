-- Examples of bounds, holds and windows whose windows are not tried one by one: the hold by climbing, bound and window by capped stretches.
-- The test of each is computed by itself, so that it is reached where a law behind it is refused.
use mathlib.Core.Path.{◌≡◌, refl}
use mathlib.Core.Bool.{true, ◌&&◌, and-eq-true_iff}
use Prim.Native.Nat.{ℕ}
use Rattle.model.specs.Basics.{provided, sum_to, all_hold}
use Rattle.model.specs.Units.{occupied}
use Rattle.model.specs.Link.{bag_of, any_of, sum_over, greatest_over}
use Rattle.model.specs.Arrival.{frame_curve, on_line, line_curve, arrival_curve}
use Rattle.model.specs.Bounds.{of_priority, up_to, beyond, own_arrivals, up_arrivals, longest, blocking, hold_test, backlog}
use Rattle.model.specs.Examples.{short_links, Correct}
use Rattle.model.specs.Examples as example
use Rattle.model.proofs.Search.{climb}
use Rattle.model.proofs.Holds.{climbs_to}
use Rattle.model.proofs.Peaks.{all_below, backlog_cap, earlier_below, peaks, by_peak}
use Rattle.model.proofs.Examples.{Way, computes, Sound, settled_by}

unfoldable pub peaked : Way
peaked t p b h w = climbs_to t p 16 h && peaks t p h b w

pub peaked_sound : Sound peaked
unfolding peaked Correct
peaked_sound t p b h w e =
    let both = (and-eq-true_iff (climbs_to t p 16 h) (peaks t p h b w)).0 e in
    by_peak t p 16 h b w both.0 both.1

-- names for all that the test computes with
unfoldable pub the_peak : ℕ
unfolding computes peaked climbs_to climb all_hold hold_test peaks earlier_below all_below backlog_cap backlog longest own_arrivals up_arrivals blocking of_priority beyond up_to arrival_curve line_curve on_line frame_curve greatest_over sum_over any_of bag_of provided sum_to occupied
the_peak = 0

a_peaks : computes peaked example.a ≡ true
unfolding the_peak
a_peaks = refl

pub a : Correct example.a
a = settled_by peaked peaked_sound example.a a_peaks

b_peaks : computes peaked example.b ≡ true
unfolding the_peak
b_peaks = refl

pub b : Correct example.b
b = settled_by peaked peaked_sound example.b b_peaks

h_peaks : computes peaked example.h ≡ true
unfolding the_peak
h_peaks = refl

pub h : Correct example.h
h = settled_by peaked peaked_sound example.h h_peaks

l_peaks : computes peaked example.l ≡ true
unfolding the_peak
l_peaks = refl

pub l : Correct example.l
l = settled_by peaked peaked_sound example.l l_peaks

window_k_peaks : computes peaked example.window_k ≡ true
unfolding the_peak
window_k_peaks = refl

pub window_k : Correct example.window_k
window_k = settled_by peaked peaked_sound example.window_k window_k_peaks

window_p_peaks : computes peaked example.window_p ≡ true
unfolding the_peak
window_p_peaks = refl

pub window_p : Correct example.window_p
window_p = settled_by peaked peaked_sound example.window_p window_p_peaks

window_o0_peaks : computes peaked example.window_o0 ≡ true
unfolding the_peak
window_o0_peaks = refl

pub window_o0 : Correct example.window_o0
window_o0 = settled_by peaked peaked_sound example.window_o0 window_o0_peaks

window_nt3_peaks : computes peaked example.window_nt3 ≡ true
unfolding the_peak
window_nt3_peaks = refl

pub window_nt3 : Correct example.window_nt3
window_nt3 = settled_by peaked peaked_sound example.window_nt3 window_nt3_peaks

bound_c_peaks : computes peaked example.bound_c ≡ true
unfolding the_peak short_links
bound_c_peaks = refl

pub bound_c : Correct example.bound_c
bound_c = settled_by peaked peaked_sound example.bound_c bound_c_peaks
