use Rattle.std.proofs.Common.{◌≡◌, ◌*◌, ◌≤◌, sum, length, rules, arith}
use Rattle.std.proofs.lemmas.List.Sums.{sum_by-le}
use Rattle.std.proofs.lemmas.List.Elements.{All-from_get_or}
use Rattle.bench_calls.proofs.sum_of.Goals as goal

pub returns : goal.returns
returns c =
    let a = c.args.a.now in
    let is : c.sum.result ≡ sum a = search rules in
    let few : sum a ≤ length a * 4_294_967_295 = sum_by-le (λ n. n) 4_294_967_295 a (All-from_get_or (λ n. n ≤ 4_294_967_295) a 0 (λ i l. omega (arith, c.type_inv.a i))) in
    (is, omega arith)
