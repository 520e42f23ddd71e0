use mathlib.Core.Path.{◌≡◌, refl, sym, ◌∙◌}
use mathlib.Core.Bool.{true, false}
use Rattle.std.specs.Prelude.{Result, Ok, Err, is_ok}
use Rattle.refusal.specs.declared.Refusal.{Refusal}
use Rattle.refusal.specs.Numbers.{number_or_0}
use Rattle.refusal.proofs.Numbers.{number_not_0}
use Rattle.port_record_fitness.proofs.Conditions.{table_unfit, table_fit}
use Rattle.port_record_fitness.proofs.table_fits.Goals as goal

passed : {T : Type 0} (r : Result T Refusal) → is_ok r ≡ true → number_or_0 r ≡ 0
passed (Ok x) e = refl
passed (Err x) e = absurd (let y : true ≡ false = sym e in cc)

refused : {T : Type 0} (r : Result T Refusal) → is_ok r ≡ false → number_or_0 r ≡ 0 → ⊥
refused (Ok x) e z = absurd (let y : false ≡ true = sym e in cc)
refused (Err x) e z = number_not_0 x z

pub returns-then-is_ok : goal.returns-then-is_ok
returns-then-is_ok c = table_fit (number_or_0 c.args.checked) c.args.clock (passed c.args.checked (sym c.is_ok.ensures.value ∙ c.if-is_ok.true))

pub returns-else-is_ok : goal.returns-else-is_ok
returns-else-is_ok c = c.if-is_ok.false ∙ table_unfit (number_or_0 c.args.checked) c.args.clock (refused c.args.checked (sym c.is_ok.ensures.value ∙ c.if-is_ok.false))
