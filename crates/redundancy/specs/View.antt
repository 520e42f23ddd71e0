-- The records of the code and what they are in the model.
use Rattle.std.proofs.Math.Option.{Option, none, some}
use Rattle.std.specs.Prelude.{Bool, false, List, ℕ, Option as StdOption, Some, None, Result, Ok, Err}
use Rattle.refusal.specs.declared.Refusal.{Refusal}
use Rattle.refusal.specs.Numbers.{number_or_0}
use Rattle.model.specs.Redundancy.{Waiting, Presented, Network, neither, network_a, network_b, HandedOn, State, Decision, Selection}
use Rattle.redundancy.specs.declared.Waiting.{Waiting as WaitingRecord}
use Rattle.redundancy.specs.declared.Numbered.{Numbered as NumberedRecord}
use Rattle.redundancy.specs.declared.Network.{Network as NetworkRecord}
use Rattle.redundancy.specs.declared.Network.TheVariants as network
use Rattle.redundancy.specs.declared.State.{State as StateRecord}
use Rattle.redundancy.specs.declared.Taken.{Taken as TakenRecord}
use Rattle.redundancy.specs.declared.Decision.{Decision as DecisionRecord}
use Rattle.redundancy.specs.declared.Selection.{Selection as SelectionRecord}

-- the two frames and their ticks; the two frames alone
abbrev pub view_waiting : WaitingRecord → Waiting
view_waiting w = record { frame = w.frame.now; tick = w.tick }

abbrev pub presented : WaitingRecord → WaitingRecord → Presented
presented a b = record { a = view_waiting a; b = view_waiting b }

abbrev pub frames : List ℕ → List ℕ → Presented
frames a b = record { a = record { frame = a; tick = 0 }; b = record { frame = b; tick = 0 } }

-- what may be there
abbrev pub view_received : StdOption ℕ → Option ℕ
view_received None = none
view_received (Some n) = some n

abbrev pub view_handed_on : StdOption NumberedRecord → Option HandedOn
view_handed_on None = none
view_handed_on (Some f) = some (record { number = f.number; tick = f.tick })

abbrev pub view_network : NetworkRecord → Network
view_network network.A = network_a
view_network network.B = network_b

abbrev pub view_state : StateRecord → State
view_state s = record { skew = s.skew; on_a = view_received s.on_a; on_b = view_received s.on_b; last = view_handed_on s.last; taken = s.taken }

-- the network of what was taken, and whether it was handed on; at a refusal neither, and not
abbrev pub network_of : Result TakenRecord Refusal → Network
network_of (Ok t) = view_network t.network
network_of (Err r) = neither

abbrev pub is_handed_on : Result TakenRecord Refusal → Bool
is_handed_on (Ok t) = t.handed_on
is_handed_on (Err r) = false

abbrev pub view_decision : DecisionRecord → Decision
view_decision d = record { refused = number_or_0 d.outcome; network = network_of d.outcome; handed_on = is_handed_on d.outcome; state = view_state d.state }

-- the part is told by its bytes
abbrev pub view_selection : SelectionRecord → Selection
view_selection r = record { decision = view_decision r.decision; part = r.part.now }
