-- The statements of specs/, each under its name.
use Rattle.port_batch.specs.Calls.{DemandThreeOfCalls, CountsOfCalls}
use Rattle.port_batch.proofs.Chained as Chained

pub demand_three_of_calls : DemandThreeOfCalls
demand_three_of_calls = Chained.demand_of_calls

pub counts_of_calls : CountsOfCalls
counts_of_calls = Chained.counts_of_calls
