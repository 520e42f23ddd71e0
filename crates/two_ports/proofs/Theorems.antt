-- The statements of specs/, each under its name.
use Rattle.two_ports.specs.Promises.{NextPasses, TwoPorts, TwoPortsAmongOthers}
use Rattle.two_ports.specs.Calls.{TwoPortsOfCalls, TwoPortsAmongOthersOfCalls}
use Rattle.two_ports.proofs.NextRows as NextRows
use Rattle.two_ports.proofs.TwoPorts as TwoPorts
use Rattle.two_ports.proofs.Called as Called

pub next_passes : NextPasses
next_passes = NextRows.next_passes

pub two_ports : TwoPorts
two_ports = TwoPorts.two_ports

pub two_ports_among_others : TwoPortsAmongOthers
two_ports_among_others = TwoPorts.two_ports_among_others

pub two_ports_of_calls : TwoPortsOfCalls
two_ports_of_calls = Called.two_ports_of_calls

pub two_ports_among_others_of_calls : TwoPortsAmongOthersOfCalls
two_ports_among_others_of_calls = Called.two_ports_among_others_of_calls
