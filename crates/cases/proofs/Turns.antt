-- Turns of a closure that went well.
use Rattle.std.proofs.Common.{◌≡◌, ℕ, ◌+◌, List, [], ◌∷◌, ◌++◌, length, Result, Ok, Err, is_err, false, ◌∙◌, ap}
use Rattle.std.specs.List.{FoldsTo}
use Rattle.std.proofs.lemmas.Fn.{FoldsTo-push}
use Rattle.std.proofs.lemmas.List.{length-append}

-- one more
pub one_more : {F E : Type 0} (R : F → Result (Unit {0}) E → F → Type 0) (f p q : F) (r : Result (Unit {0}) E) (n : ℕ) → is_err r ≡ false → R p r q → ((well : List (Unit {0})) × FoldsTo (λ p x q. R p (Ok x) q) f well p × (length well ≡ n)) → (well : List (Unit {0})) × FoldsTo (λ p x q. R p (Ok x) q) f well q × (length well ≡ n + 1)
one_more R f p q (Ok x) n went step (well, folds, many) = (well ++ (x ∷ []), FoldsTo-push (λ p x q. R p (Ok x) q) f well p x q folds step, length-append well (x ∷ []) ∙ ap (λ m. m + 1) many)
one_more R f p q (Err e) n went step before = absurd (cc went)
