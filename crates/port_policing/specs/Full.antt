-- The accounts at rest.
use Rattle.std.specs.Prelude.{List, map}
use Rattle.model.specs.Basics.{entries}
use Rattle.model.specs.Port.{blank_account, full_account}
use Rattle.table.specs.declared.Table.{Table as TableRecord}
use Rattle.table.specs.View.{view_links}
use Rattle.port_policing.specs.declared.Account.{Account as AccountRecord}
use Rattle.port_policing.specs.Check.{record_account}

-- "credit B + J" for each link
abbrev pub full_accounts : TableRecord → List AccountRecord
full_accounts t = entries (record_account blank_account) 256 (map record_account (map full_account (view_links t)))
