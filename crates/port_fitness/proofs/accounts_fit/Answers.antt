use mathlib.Core.Path.{sym, ap}
use native.Mathlib.Omega.{arith}
use Rattle.model.proofs.Checks.{true_all}
use Rattle.port_policing.specs.declared.Account.{Account}
use Rattle.table.proofs.Shape.{sized}
use Rattle.port_fitness.proofs.All.{any_false, all_none, all_more, all_stops, all_end}
use Rattle.port_fitness.proofs.Entries.{accounts_whole, tick_late, tick_past, credit_high, credit_within}
use Rattle.port_fitness.proofs.accounts_fit.Goals as goal

pub loop-i-init : goal.loop-i-init
loop-i-init c = (all_none _, all_none _)

pub returns-then-clock-account : goal.returns-then-clock-account
returns-then-clock-account c =
    let w = accounts_whole c.args.accounts _ c.well_formed.0 in
    any_false _ 0 (sym (all_stops _ _ c.loop-i.i (omega arith) (tick_late c.args.accounts c.args.t.count c.args.clock c.loop-i.i (omega arith) (omega arith) (omega arith))))

pub returns-then-full_account-account : goal.returns-then-full_account-account
returns-then-full_account-account c =
    let w = accounts_whole c.args.accounts _ c.well_formed.0 in
    let s = sized c.args.t _ c.well_formed.1.0 in
    any_false _ 1 (sym (all_stops _ _ c.loop-i.i (omega arith) (credit_high c.args.accounts c.args.t s c.requires c.loop-i.i (omega arith) (omega arith) c.full_account.result.credit (ap (λ (a : Account). a.credit) (c.full_account.ensures 0)) (omega arith))))

pub loop-i-preserved : goal.loop-i-preserved
loop-i-preserved c =
    let w = accounts_whole c.args.accounts _ c.well_formed.0 in
    let s = sized c.args.t _ c.well_formed.1.0 in (
      all_more _ c.loop-i.i c.loop-i.invariant.0 (tick_past c.args.accounts c.args.t.count c.args.clock c.loop-i.i (omega arith) (omega arith) (omega arith)),
      all_more _ c.loop-i.i c.loop-i.invariant.1 (credit_within c.args.accounts c.args.t s c.requires c.loop-i.i (omega arith) (omega arith) c.full_account.result.credit (ap (λ (a : Account). a.credit) (c.full_account.ensures 0)) (omega arith)),
    )

pub returns : goal.returns
returns c =
    sym
    (true_all _ (
      sym (all_end _ _ c.loop-i.i (omega arith) (omega arith) c.loop-i.invariant.0),
      (sym (all_end _ _ c.loop-i.i (omega arith) (omega arith) c.loop-i.invariant.1), tt),
    ))
