-- Reports of the code and of the model, and what 11 to 15 ask of lines and line ticks.
use Rattle.std.specs.Prelude.{List, ℕ, ◌≤◌, ◌<◌, length}
use Rattle.model.specs.Basics.{entries}
use Rattle.model.specs.Units.{last_tick}
use Rattle.model.specs.Port.{line_tick}
use Rattle.model.specs.Report.{Report, wait, frame}
use Rattle.port_refusals.specs.declared.Report.{Report as ReportRecord}
use Rattle.port_refusals.specs.declared.Report.TheVariants.{Wait, Frame}

-- each case of the enum
abbrev pub view_report : ReportRecord → Report
view_report (Wait time) = wait time
view_report (Frame time line number len) = frame time line number len

-- so many lines at most as there are ticks, which a clock may have
pub record Clocked (ticks : List ℕ) (lines : ℕ) : Type 0 where
  pub few : lines ≤ length ticks
  pub early : (ℓ : ℕ) → ℓ < lines → line_tick (entries 0 lines ticks) ℓ ≤ last_tick
