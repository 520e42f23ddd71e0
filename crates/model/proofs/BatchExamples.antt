-- The examples of batches, computed from the definitions alone.
use mathlib.Core.Path.{refl}
use Prim.Native.Nat.{ℕ}
use Rattle.model.specs.Basics.{Each, done, also}
use Rattle.model.specs.Batch.{report_of, reports_in, are_reports, batch_refusal, batch, frames_freed, batch_or, answer_batch, numbers_of, bytes_refusal, bytes_or, file_or, batch_file}
use Rattle.model.specs.Examples.{Correct, batches}
use Rattle.model.specs.Examples as example
use Rattle.model.proofs.Examples.{settled, the_file, the_port}

-- names for all that a batch computes with, and a call in bytes
the_batch : ℕ
unfolding the_port answer_batch batch_or frames_freed batch batch_refusal are_reports reports_in report_of
the_batch = 0

the_bytes : ℕ
unfolding the_batch the_file batch_file file_or bytes_or bytes_refusal numbers_of
the_bytes = 0

pub batch_two : Correct example.batch_two
unfolding the_batch
batch_two = settled example.batch_two refl

pub batch_short : Correct example.batch_short
unfolding the_batch
batch_short = settled example.batch_short refl

pub batch_rest : Correct example.batch_rest
unfolding the_batch
batch_rest = settled example.batch_rest refl

pub batch_goes_on : Correct example.batch_goes_on
unfolding the_batch
batch_goes_on = settled example.batch_goes_on refl

pub batch_uncut : Correct example.batch_uncut
unfolding the_batch
batch_uncut = settled example.batch_uncut refl

pub batch_form : Correct example.batch_form
unfolding the_batch
batch_form = settled example.batch_form refl

pub batch_wide_form : Correct example.batch_wide_form
unfolding the_batch
batch_wide_form = settled example.batch_wide_form refl

pub batch_part : Correct example.batch_part
unfolding the_batch
batch_part = settled example.batch_part refl

pub batch_no_room : Correct example.batch_no_room
unfolding the_batch
batch_no_room = settled example.batch_no_room refl

pub batch_both : Correct example.batch_both
unfolding the_batch
batch_both = settled example.batch_both refl

pub batch_none : Correct example.batch_none
unfolding the_batch
batch_none = settled example.batch_none refl

pub bytes_two : Correct example.bytes_two
unfolding the_bytes
bytes_two = settled example.bytes_two refl

pub bytes_fits : Correct example.bytes_fits
unfolding the_bytes
bytes_fits = settled example.bytes_fits refl

pub bytes_short : Correct example.bytes_short
unfolding the_bytes
bytes_short = settled example.bytes_short refl

pub bytes_no_room : Correct example.bytes_no_room
unfolding the_bytes
bytes_no_room = settled example.bytes_no_room refl

pub bytes_both : Correct example.bytes_both
unfolding the_bytes
bytes_both = settled example.bytes_both refl

pub bytes_part : Correct example.bytes_part
unfolding the_bytes
bytes_part = settled example.bytes_part refl

pub bytes_bad_file : Correct example.bytes_bad_file
unfolding the_bytes
bytes_bad_file = settled example.bytes_bad_file refl

pub bytes_none : Correct example.bytes_none
unfolding the_bytes
bytes_none = settled example.bytes_none refl

pub batches_correct : Each Correct batches
batches_correct =
    also batch_two (also batch_short (also batch_rest (also batch_goes_on (also batch_uncut
    (also batch_form (also batch_wide_form (also batch_part (also batch_no_room (also batch_both (also batch_none
    (also bytes_two (also bytes_fits (also bytes_short (also bytes_no_room (also bytes_both (also bytes_part (also bytes_bad_file (also bytes_none done))))))))))))))))))
