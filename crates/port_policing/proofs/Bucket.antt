-- The police check without the sum B + J.
use mathlib.Core.Path.{◌≡◌}
use mathlib.Core.Bool.{Bool, true, false}
use Prim.Native.Nat.{ℕ, ◌+◌, ◌-◌, ◌≤◌, ◌<◌, min}
use native.Mathlib.Omega.{arith}
use borrow.Author.Tests.{le-leb, lt-leb}
use Rattle.model.specs.Report.{replenished, charged, checked_if, police}
use Rattle.port_policing.specs.declared.Account.{Account as AccountRecord}
use Rattle.port_policing.specs.declared.Checked.{Checked as CheckedRecord}
use Rattle.port_policing.specs.Check.{check_by}

abbrev checked : Bool → ℕ → ℕ → CheckedRecord
checked passed credit tick = record { passed = passed; account = record { credit = credit; tick = tick } }

over : (b c gone short rest : ℕ) → short ≡ b - c → rest ≡ c - b → short ≤ gone → c + gone ≡ b + (rest + (gone - short))
over b c gone short rest s r h = omega arith

both : (b j x : ℕ) → min (b + j) (b + x) ≡ b + min j x
both b j x = omega arith

at_least : (b x : ℕ) → b ≤ b + x
at_least b x = omega arith

taken_off : (b x : ℕ) → b + x - b ≡ x
taken_off b x = omega arith

module _ (bag jitter : ℕ) (a : AccountRecord) (time : ℕ) {gone short : ℕ} (elapsed : gone ≡ time - a.tick) (lacks : short ≡ bag - a.credit) where
  pub is_policed : gone < short → checked false (a.credit + gone) time ≡ check_by bag jitter a time
  unfolding police checked_if replenished
  is_policed h =
      let e : min (bag + jitter) (a.credit + (time - a.tick)) ≡ a.credit + gone = omega arith in
      rw (e, lt-leb bag (a.credit + gone) (omega arith))

  pub passes : {rest credit : ℕ} → rest ≡ a.credit - bag → credit ≡ min jitter (rest + (gone - short)) → short ≤ gone → checked true credit time ≡ check_by bag jitter a time
  unfolding police checked_if replenished charged
  passes {rest} {credit} r c h =
      let e : min (bag + jitter) (a.credit + (time - a.tick)) ≡ bag + credit =
      rw (← elapsed, over bag a.credit gone short rest lacks r h, c) (both bag jitter (rest + (gone - short))) in
      rw (e, le-leb bag (bag + credit) (at_least bag credit), taken_off bag credit)
