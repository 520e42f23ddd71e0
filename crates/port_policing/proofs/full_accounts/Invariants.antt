use mathlib.Core.Path.{◌≡◌}
use lib.ListN.{take}
use Rattle.table.specs.View.{view_links}
use Rattle.port_policing.proofs.Full.{accounts_of}
use Rattle.port_policing.proofs.full_accounts.Given as goal

abbrev pub invariant-loop-i : goal.invariant-loop-i
invariant-loop-i l = l.accounts ≡ accounts_of (take l.i (view_links l.t))
