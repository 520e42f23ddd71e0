-- Numbers of a link and a table that meet no check.
use mathlib.Core.Path.{◌≡◌}
use mathlib.Core.Bool.{Bool, true, false}
use Prim.Native.Nat.{ℕ, ◌+◌, ◌*◌, ◌/◌, ◌^◌, ◌≤◌, ◌<◌}
use native.Mathlib.Nat.{div-le_self, div-lt_iff_lt-mul, div-div-eq-div-mul, mul-le-mul_left}
use native.Mathlib.Omega.{arith}
use lib.Dec.{leb}
use borrow.Author.Tests.{le-leb, lt-leb}
use lib.ListN.{length, get_or}
use Rattle.model.specs.Basics.{provided}
use Rattle.model.specs.Link.{bag_of}
use Rattle.model.specs.Table.{table_refusal}
use Rattle.model.specs.Arrival.{frame_curve}
use Rattle.model.proofs.Bags.{bag_power, bag_least}
use Rattle.table.specs.declared.VirtualLink.{VirtualLink as LinkFields}
use Rattle.table.specs.declared.Table.{Table as TableRecord}
use Rattle.table.specs.View.{view_link, blank_fields, view_links, view_table}
use Rattle.table.proofs.Shape.{count_shown}
use Rattle.table.proofs.PassingRecord.{counts_pass, entry_fits}
use Rattle.bounds_arrivals.specs.Loads.{within}

pub div_few : (x b : ℕ) → 12_500 ≤ b → x ≤ 190_536 → x / b ≤ 15
div_few x b h k = let z : x / b < 16 = (div-lt_iff_lt-mul {k = b} {x = x} {y = 16} (omega arith)).1 (omega arith) in omega arith

-- a number of frames fits, whatever the ticks are divided by
pub quotient_fits : (x b n : ℕ) → x ≤ 190_536 → 1 + x / b / n < 2 ^ 64
quotient_fits x b n h = omega (arith, div-le_self (x / b) n, div-le_self x b)

-- with the jitter as the code has it
module _ (l : LinkFields) (code : l.code ≤ 7) (w j : ℕ) (e : j ≡ l.jitter) where
  shift_divides : (w + j) / 12_500 / 2 ^ l.code ≡ (w + j) / bag_of l.code
  shift_divides = rw (bag_power l.code code) (div-div-eq-div-mul (w + j) 12_500 (2 ^ l.code))

  pub frames_few : l.jitter ≤ 125_000 → w ≤ 65_536 → (w + j) / 12_500 / 2 ^ l.code ≤ 15
  frames_few k h = rw shift_divides (div_few (w + j) (bag_of l.code) (bag_least l.code) (omega arith))

  pub frames_are : (n : ℕ) → 1 + (w + j) / 12_500 / 2 ^ l.code ≡ frame_curve (view_link n l) w
  unfolding frame_curve
  frames_are n = rw (shift_divides, e)

pub product_few : (x n : ℕ) → x ≤ 1_538 → n ≤ 16 → x * n ≤ 24_608
product_few x n h k = omega (arith, mul-le-mul_left x k)

pub provided_few : (b : Bool) (x n : ℕ) → x ≤ n → provided b x ≤ n
unfolding provided
provided_few true x n h = h
provided_few false x n h = omega arith

-- ---- a member by the tests of the code
module _ (low high p : ℕ) where
  pub member_low : p < low → false ≡ within low high p
  unfolding within
  member_low h = rw (lt-leb low p h)

  pub member_from : low ≤ p → leb p high ≡ within low high p
  unfolding within
  member_from h = rw (le-leb low p h)

-- ---- the links of a table record that passes
pub view_count : (t : TableRecord) (i : ℕ) → i < t.count → i < length (view_links t)
view_count t i h = rw (count_shown t) h

pub line_in : (t : TableRecord) → table_refusal (view_table t) ≡ 0 → (i : ℕ) → i < t.count → (get_or t.links i blank_fields).line < 24
line_in t pass i h = omega (arith, (entry_fits t pass i h).line_below, (counts_pass t pass).lines_most)

-- an entry's place among the sums of the lines, by what a loop over the links reads
pub place_in : (t : TableRecord) → table_refusal (view_table t) ≡ 0 → (i : ℕ) → i < t.count → (v : LinkFields) → v ≡ get_or t.links i blank_fields → (k : ℕ) → k ≡ v.line → k < 24
place_in t pass i h v e k q = let x : k ≡ (get_or t.links i blank_fields).line = rw (← e) q in omega (arith, line_in t pass i h)
