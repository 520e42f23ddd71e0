-- What the record reader answers, in the paper's numbers.
use Rattle.std.specs.Prelude.{cond, List, [], ◌∷◌, ℕ, zero, suc, ◌-◌, eqb, leb, Option, None, Some, Result, Ok, Err}
use Rattle.std.proofs.Math.Option.{Option as Previous}
use Rattle.model.specs.Basics.{first_met}
use Rattle.model.specs.Link.{VirtualLink}
use Rattle.model.specs.TableFile.{number_at, link_read, sizes_read, count_record_checks, link_record_checks, sizes_record_checks}
use Rattle.refusal.specs.declared.Refusal.{Refusal}
use Rattle.refusal.specs.Numbers.{number_of}
use Rattle.table_record_reader.specs.declared.Record.{Record}
use Rattle.table_record_reader.specs.declared.Record.TheVariants.{Counts, Link, Sizes, Refused}
use Rattle.table.specs.Checks.{previous_of}
use Rattle.table.specs.View.{view_link}

-- the number of the refusal, 0 if none; the record's kind and its values in the file's order, none with a refusal
pub record Said : Type 0 where
  pub refused : ℕ
  pub kind : ℕ
  pub values : List ℕ

abbrev pub saying : ℕ → List ℕ → Said
saying kind values = record { refused = 0; kind = kind; values = values }

abbrev pub refusing : ℕ → Said
refusing n = record { refused = n; kind = 0; values = [] }

abbrev pub link_values : VirtualLink → List ℕ
link_values v = v.number ∷ v.line ∷ v.priority ∷ v.code ∷ v.least ∷ v.greatest ∷ v.jitter ∷ []

-- each case of the enum
unfoldable pub said : Record → Said
said (Counts lines n) = saying 1 (lines ∷ n ∷ [])
said (Link number v) = saying 2 (link_values (view_link number v))
said (Sizes sizes) = saying 3 sizes
said (Refused refusal) = refusing (number_of refusal)

-- a record, or the refusal in its place
abbrev pub said_of : Result Record Refusal → Said
said_of (Ok next) = said next
said_of (Err refusal) = refusing (number_of refusal)

-- the number of the refusal, 0 if none
abbrev pub refusal_said : Option Refusal → ℕ
refusal_said None = 0
refusal_said (Some refusal) = number_of refusal

-- "the next record, or else the reader stops there with the refusal"
unfoldable pub said_or : ℕ → Said → Said
said_or zero next = next
said_or (suc n) next = refusing (suc n)

unfoldable pub counts_due : List ℕ → Said
counts_due rest =
    said_or (first_met (count_record_checks rest)) (saying 1 (number_at 4 2 rest ∷ number_at 6 2 rest ∷ []))

unfoldable pub link_due : ℕ → Previous ℕ → List ℕ → Said
link_due lines previous rest =
    said_or (first_met (link_record_checks lines previous rest)) (saying 2 (link_values (link_read rest)))

unfoldable pub sizes_due : List ℕ → Said
sizes_due rest = said_or (first_met (sizes_record_checks rest)) (saying 3 (sizes_read rest))

-- "Kind 1, .. first", "Kind 2, .. n of them", "Kind 3, .. last": what is due in the bytes not yet read, by the number of records read
unfoldable pub due_at : List ℕ → ℕ → ℕ → ℕ → ℕ → Said
due_at rest read count lines previous = cond (eqb read 0) (counts_due rest) (cond (leb read count) (link_due lines (previous_of (read - 1) previous) rest) (sizes_due rest))
