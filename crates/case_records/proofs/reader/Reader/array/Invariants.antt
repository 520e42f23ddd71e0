-- Where each entry takes as many bytes, that many are taken for each one given so far.
use Rattle.std.proofs.Common.{◌≡◌, ℕ, ◌*◌, drop}
use Rattle.case_records.proofs.reader.Reader.array.Given as goal

abbrev pub invariant-loop-x : goal.invariant-loop-x
invariant-loop-x g l =
    (w : ℕ) → ((x : _) (e : _) (y : _) → goal.F-post g l.entry x e y → y.now.rest.now ≡ drop w x.now.rest.now) → l.self.rest.now ≡ drop (w * l.x-index) l.initial.self.rest.now
