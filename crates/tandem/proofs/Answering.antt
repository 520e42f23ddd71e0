-- What the call answers, from what its parts give.
use mathlib.Core.Path.{◌≡◌, refl, ◌∙◌}
use Prim.Native.Nat.{ℕ, zero, suc}
use Rattle.model.specs.Basics.{first_refusal}
use Rattle.model.specs.Table.{Table, blank_table}
use Rattle.model.specs.Bounds.{sizing}
use Rattle.model.specs.NextTable.{line_refusal, next_refusal, next_or, next}
use Rattle.std.specs.Prelude.{Ok, Err}
use Rattle.refusal.specs.declared.Refusal.{Refusal}
use Rattle.refusal.specs.Numbers.{number_of}
use Rattle.refusal.proofs.Numbers.{number_not_0}
use Rattle.table.specs.declared.Table.{Table as TableRecord}
use Rattle.table.specs.View.{view_table, record_table}
use Rattle.bounds.specs.declared.Bounds.{Bounds as BoundsRecord}
use Rattle.bounds.specs.Answer.{sizing_of}
use Rattle.bounds.proofs.Answered.{refusal_is, Answers, sized_answer}
use Rattle.tandem.specs.Answer.{Next as NextRecord, next_of, record_next}
use Rattle.tandem.specs.Rows.{Ready, rows_of}
use Rattle.tandem.proofs.Given.{next_stops}

-- the first of two refusals, where there is one
stops : (t : Table) (line lines n later : ℕ) → (n ≡ 0 → ⊥)
    → ◌≡◌ {A = NextRecord} (record { refused = n; table = record_table blank_table }) (record_next (next_or (first_refusal n later) t line lines))
unfolding first_refusal
stops t line lines zero later z = absurd (z refl)
stops t line lines (suc n) later z = rw (next_stops t line lines (suc n) z)

module _ (t : TableRecord) (line lines : ℕ) where
  pub line_refused : (r : Refusal) → number_of r ≡ line_refusal line lines → next_of (Err r) ≡ record_next (next (view_table t) line lines)
  unfolding next next_refusal
  line_refused r e = rw (← e) (stops (view_table t) line lines (number_of r) _ (number_not_0 r))

  module _ (e : 0 ≡ line_refusal line lines) where
    pub bounds_refused : (r : Refusal) → sizing_of (Err r) ≡ sizing (view_table t) → next_of (Err r) ≡ record_next (next (view_table t) line lines)
    unfolding next next_refusal first_refusal
    bounds_refused r is = rw (← e, ← refusal_is t (Err r) is) (stops (view_table t) line lines (number_of r) _ (number_not_0 r))

    module _ (b : BoundsRecord) (is : sizing_of (Ok b) ≡ sizing (view_table t)) where
      pub rows_answer : (r : NextRecord) → r ≡ rows_of t line lines → r ≡ record_next (next (view_table t) line lines)
      unfolding next next_refusal first_refusal
      rows_answer r x = x ∙ rw (← e, ← refusal_is t (Ok b) is)

pub is_ready : (t : TableRecord) (b : BoundsRecord) → sizing_of (Ok b) ≡ sizing (view_table t) → Ready t b.holds
is_ready t b is = let k : Answers (view_table t) (sizing_of (Ok b)) = sized_answer t b is in record { passes = k.passes; are_holds = k.holds }
