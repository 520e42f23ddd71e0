-- The account record and the account of the model, and what the police check gives.
use Rattle.std.specs.Prelude.{ℕ}
use Rattle.model.specs.Port.{Account}
use Rattle.model.specs.Report.{Checked, police}
use Rattle.port_policing.specs.declared.Account.{Account as AccountRecord}
use Rattle.port_policing.specs.declared.Checked.{Checked as CheckedRecord}

-- the view of an account record, and the record of an account
abbrev pub view_account : AccountRecord → Account
view_account a = record { credit = a.credit; tick = a.tick }

abbrev pub record_account : Account → AccountRecord
record_account a = record { credit = a.credit; tick = a.tick }

abbrev pub record_checked : Checked → CheckedRecord
record_checked c = record { passed = c.passed; account = record_account c.account }

-- the police check at a tick, for any B and J
abbrev pub check_by : (bag jitter : ℕ) → AccountRecord → ℕ → CheckedRecord
check_by bag jitter a time = record_checked (police bag jitter (view_account a) time)
