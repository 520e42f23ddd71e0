use Prim.Native.Nat.{◌≤◌, ◌<◌, ◌^◌}
use Rattle.std.proofs.Common.{rules, arith}
use Rattle.model.proofs.Bags.{bag_most}
use Rattle.port_policing.proofs.full_account.Goals as goal

pub overflow_add-result : goal.overflow_add-result
overflow_add-result c =
    let b : c.bag.result ≤ 1_600_000 = rw c.bag.ensures (bag_most _) in
    let j : c.args.link.jitter < 2 ^ 32 = search rules in
    omega arith
