-- What a batch on flat lists asks and promises.
use Rattle.std.specs.Prelude.{◌≡◌, Bool, false, ℕ, Option, Some, None}
use mathlib.Core.List.{List, flat_map}
use Rattle.model.specs.Basics.{Each}
use Rattle.model.specs.Table.{Table}
use Rattle.model.specs.Report.{Report}
use Rattle.model.specs.Run.{Entry}
use Rattle.model.specs.Batch.{Batched, batch, answer_numbers, departure_numbers, frames_freed, over}
use Rattle.flat_port.specs.declared.FlatPort.{FlatPort}
use Rattle.flat_port.specs.Lists.{view_flat, Stands}
use Rattle.flat_port.specs.Promised.{Behind}

-- the model's batch to this port
abbrev pub batch_of : Table → FlatPort → List Report → List ℕ → Batched
batch_of t p reports list = batch t (view_flat t p) reports list

-- no report of these was accepted
abbrev pub AllRefused : List Entry → Type 0
AllRefused entries = Each (λ (e : Entry). e.answer.refused ≡ 0 → ⊥) entries

-- with one report more: none is accepted if none was, and this one is refused
pub record Still (accepted : Bool) (refused : ℕ) (r : Bool) : Type 0 where
  pub none : (refused ≡ 0 → ⊥) → accepted ≡ false → r ≡ false
  pub this : r ≡ false → refused ≡ 0 → ⊥
  pub before : r ≡ false → accepted ≡ false

-- where the port is after a batch, and how many departures were written, if any report was accepted
pub record Ends (t : Table) (p : FlatPort) (b : Batched) (r : Option ℕ) (p' : FlatPort) : Type 0 where
  pub port : view_flat t p' ≡ b.port
  pub stands : Stands t p'
  pub departures : (n : ℕ) → r ≡ Some n → n ≡ frames_freed b.entries
  pub untouched : AllRefused b.entries → r ≡ None
  pub all_refused : r ≡ None → AllRefused b.entries
  pub behind : Behind t p.lists p'.lists

-- answers and departures at the start of the two lists, and all behind them as found
pub record Answers (b : Batched) (answers answers' list list' : List ℕ) : Type 0 where
  pub answers_are : answers' ≡ over (flat_map answer_numbers b.entries) answers
  pub list_is : list' ≡ over (flat_map departure_numbers b.entries) list
