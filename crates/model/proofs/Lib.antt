-- Nobody needs to read below here: the theorems are stated in specs/Promises.antt and specs/Examples.antt, and named in Theorems.

-- ---- lists, entries before a count, bytes, checks
pub mod Lists
pub mod Entries
pub mod Digits
pub mod Bytes
pub mod Checks
-- ---- tables that pass, table files
pub mod TableFacts
pub mod Passing
pub mod FileRead
pub mod FileWrite
pub mod ReadBack
-- ---- searches, BAGs, arrival curves, holds and bounds
pub mod Search
pub mod Bags
pub mod Curves
pub mod Holds
pub mod BoundFacts
pub mod Covering
pub mod Sensitivity
pub mod JitterMargin
pub mod Reserving
pub mod LastHold
pub mod CoreExamples
pub mod OverloadCore
pub mod Peaks
-- ---- the gate: what passes it is within the arrival curve; links that keep BAG and jitter
pub mod Passed
pub mod TokenBucket
pub mod Serialization
pub mod Grouping
pub mod Gate
pub mod Keeping
-- ---- the tick machine: queues, busy periods and the backlog in them, departures
pub mod Queues
pub mod BusyPeriod
pub mod BusySteps
pub mod Backlog
pub mod FrameByFrame
pub mod FramesFreed
pub mod QueueSteps
pub mod Ledger
pub mod Departures
-- ---- reports: refusals, cases of a step, the log, what every list of reports keeps, fitness
pub mod Refusals
pub mod Stepping
pub mod Counting
pub mod Accepted
pub mod Lined
pub mod Log
pub mod Invariant
pub mod Fitness
pub mod FitKept
pub mod Counts
-- ---- demand 3, and what the next switch on the way may count on
pub mod Paying
pub mod Levels
pub mod Demand
pub mod Later
-- ---- batches
pub mod Reports
pub mod Batches
-- ---- networks A and B
pub mod RedundancyExamples
pub mod Selections
-- ---- the examples, and all theorems under their names
pub mod Examples
pub mod FormulaExamples
pub mod ClauseExamples
pub mod ClimbedExamples
pub mod FullExamples
pub mod BatchExamples
pub mod NextExamples
pub mod LineExamples
pub mod CountExamples
pub mod EditExamples
pub mod MarginExamples
pub mod TrialExamples
pub mod Counterexamples
pub mod Theorems
