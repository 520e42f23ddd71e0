-- The conditions of fitness on single parts, over the records of the code.
use Rattle.std.specs.Prelude.{Bool, List, [], ◌∷◌, map, ℕ, ◌+◌, eqb, leb, get_or}
use Rattle.model.specs.Basics.{all_to, all_hold, entries}
use Rattle.model.specs.Link.{VirtualLink, bag, link_at}
use Rattle.model.specs.Machine.{Frame}
use Rattle.model.specs.Port.{Account, account_at, blank_account}
use Rattle.table.specs.declared.Table.{Table as TableRecord}
use Rattle.table.specs.View.{view_links}
use Rattle.port_policing.specs.declared.Account.{Account as AccountRecord}
use Rattle.port_policing.specs.Check.{view_account}

-- of a frame whose link this is; low is the arrival tick of the frame before
abbrev pub frame_fits : VirtualLink → ℕ → ℕ → ℕ → Frame → Bool
frame_fits v p clock low f =
    all_hold (
    eqb v.priority p
    ∷ leb v.least f.length
    ∷ leb f.length v.greatest
    ∷ leb low f.arrival
    ∷ leb f.arrival clock
    ∷ []
    )

-- of the line ℓ, and of the account of the link at place i, n of each being there
abbrev pub line_fits : List ℕ → ℕ → ℕ → ℕ → Bool
line_fits ticks n clock ℓ = leb (get_or (entries 0 n ticks) ℓ 0) clock

abbrev pub lines_fit : List ℕ → ℕ → ℕ → Bool
lines_fit ticks n clock = all_to (line_fits ticks n clock) n

abbrev pub shown_account : List AccountRecord → ℕ → ℕ → Account
shown_account accounts n i = account_at (entries blank_account n (map view_account accounts)) i

abbrev pub tick_fits : List AccountRecord → ℕ → ℕ → ℕ → Bool
tick_fits accounts n clock i = leb (shown_account accounts n i).tick clock

abbrev pub ticks_fit : List AccountRecord → ℕ → ℕ → Bool
ticks_fit accounts n clock = all_to (tick_fits accounts n clock) n

abbrev pub credit_fits : List AccountRecord → TableRecord → ℕ → Bool
credit_fits accounts t i = leb (shown_account accounts t.count i).credit (bag (link_at (view_links t) i) + (link_at (view_links t) i).jitter)

abbrev pub credits_fit : List AccountRecord → TableRecord → Bool
credits_fit accounts t = all_to (credit_fits accounts t) t.count
