-- The examples of edits of a table.
use mathlib.Core.Path.{◌≡◌, refl}
use mathlib.Core.Bool.{true}
use Rattle.model.specs.Basics.{done, also, Each}
use Rattle.model.specs.Examples.{edits, Correct}
use Rattle.model.specs.Examples as example
use Rattle.model.proofs.Examples.{computes, settled_by}
use Rattle.model.proofs.FormulaExamples.{peaked, peaked_sound, the_peak}

moved_stays_peaks : computes peaked example.moved_stays ≡ true
unfolding the_peak
moved_stays_peaks = refl

pub moved_stays : Correct example.moved_stays
moved_stays = settled_by peaked peaked_sound example.moved_stays moved_stays_peaks

longer_first_peaks : computes peaked example.longer_first ≡ true
unfolding the_peak
longer_first_peaks = refl

pub longer_first : Correct example.longer_first
longer_first = settled_by peaked peaked_sound example.longer_first longer_first_peaks

longer_second_peaks : computes peaked example.longer_second ≡ true
unfolding the_peak
longer_second_peaks = refl

pub longer_second : Correct example.longer_second
longer_second = settled_by peaked peaked_sound example.longer_second longer_second_peaks

window_o2_peaks : computes peaked example.window_o2 ≡ true
unfolding the_peak
window_o2_peaks = refl

pub window_o2 : Correct example.window_o2
window_o2 = settled_by peaked peaked_sound example.window_o2 window_o2_peaks

pub edits_correct : Each Correct edits
edits_correct = also moved_stays (also longer_first (also longer_second (also window_o2 done)))
