-- The frame at a place, or none.
use native.Mathlib.Omega.{arith}
use Rattle.redundancy_bench.proofs.Summing.{frame_there, frame_past}
use Rattle.redundancy_bench.proofs.frame_at.Goals as goal

pub returns-then-k-frames : goal.returns-then-k-frames
returns-then-k-frames c = frame_there c.args.frames.now c.args.k (omega arith)

pub returns : goal.returns
returns c = frame_past c.args.frames.now c.args.k (omega arith)
