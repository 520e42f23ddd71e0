use Rattle.std.proofs.Common.{arith, rules}
use Rattle.std.proofs.lemmas.List.Sorted.{answers_always}
use Rattle.table_lookup.proofs.Finding.{found_searched}
use Rattle.table_lookup.proofs.place_of.Goals as goal

pub returns : goal.returns
returns c =
    let searched = c.binary_search_by_key.ensures.position (λ n. n) (answers_always _ _ _ (λ f a r g k. search rules)) in
    rw c.ok.ensures.value (found_searched c.requires.1 (omega arith) c.binary_search_by_key.result (rw c.from.ensures at searched))
