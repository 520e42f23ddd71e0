-- Reports in bytes.
use Rattle.std.specs.Prelude.{List, ℕ, ◌+◌}
use Rattle.model.specs.TableFile.{number_at}
use Rattle.model.specs.Report.{Report}
use Rattle.model.specs.Batch.{report_of}

-- the report whose five numbers stand from a place on, 8 bytes each
abbrev pub report_in : List ℕ → ℕ → Report
report_in bytes at = report_of (number_at at 8 bytes) (number_at (at + 8) 8 bytes) (number_at (at + 16) 8 bytes) (number_at (at + 24) 8 bytes) (number_at (at + 32) 8 bytes)
