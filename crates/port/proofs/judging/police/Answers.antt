use mathlib.Core.Path.{◌≡◌, sym, ap, ◌∙◌}
use native.Mathlib.Omega.{arith}
use Rattle.model.specs.Link.{VirtualLink, bag}
use Prim.Native.Nat.{ℕ}
use lib.ListN.{get_or}
use Rattle.table.specs.View.{view_link, blank_fields}
use Rattle.port.specs.declared.Port.{Port as PortRecord}
use Rattle.port.specs.Whole.{Whole}
use Rattle.port.specs.Judging.{link_of, LetThrough}
use Rattle.port.proofs.Whole.{whole_charged}
use Rattle.port.proofs.Policed.{in_array, link_is, is_policed, still_let, is_passed}
use Rattle.port.proofs.judging.police.Goals as goal

module _ (p : PortRecord) (w : Whole p) (i len : ℕ) (k : LetThrough p i len) where
  abbrev fields : VirtualLink
  fields = view_link (get_or p.table.numbers i 0) (get_or p.table.links i blank_fields)

  -- the BAG and the jitter are the link's
  bag_is : {B : ℕ} → B ≡ bag fields → B ≡ bag (link_of p i)
  bag_is e = e ∙ sym (ap bag (link_is p w i len k))

  jitter_is : {J : ℕ} → J ≡ fields.jitter → J ≡ (link_of p i).jitter
  jitter_is e = e ∙ sym (ap (λ (v : VirtualLink). v.jitter) (link_is p w i len k))

pub bounds-p-i : goal.bounds-p-i
bounds-p-i c = in_array c.args.p.now c.requires.0 c.args.i c.args.«length» c.requires.1

pub offset_bounds-p-i : goal.offset_bounds-p-i
offset_bounds-p-i c = omega (arith, in_array c.args.p.now c.requires.0 c.args.i c.args.«length» c.requires.1)

pub charge_in-passed-requires : goal.charge_in-passed-requires
charge_in-passed-requires c = in_array c.args.p.now c.requires.0 c.args.i c.args.«length» c.requires.1

pub returns-then-not-passed : goal.returns-then-not-passed
returns-then-not-passed c = is_policed c.args.p.now c.requires.0 c.args.i c.args.«length» c.requires.1 (bag_is c.args.p.now c.requires.0 c.args.i c.args.«length» c.requires.1 c.bag.ensures) (jitter_is c.args.p.now c.requires.0 c.args.i c.args.«length» c.requires.1 c.from-jitter.ensures) c.charge_in-passed.ensures c.if-not-passed.true

pub store-requires : goal.store-requires
store-requires c =
    let e = c.charge_in-passed.ensures in
    (whole_charged _ _ _ _ c.requires.0 e, still_let c.args.p.now c.requires.0 c.args.i c.args.«length» c.requires.1 (bag_is c.args.p.now c.requires.0 c.args.i c.args.«length» c.requires.1 c.bag.ensures) (jitter_is c.args.p.now c.requires.0 c.args.i c.args.«length» c.requires.1 c.from-jitter.ensures) e)

pub returns : goal.returns
returns c = is_passed c.args.p.now c.requires.0 c.args.i c.args.«length» c.requires.1 (bag_is c.args.p.now c.requires.0 c.args.i c.args.«length» c.requires.1 c.bag.ensures) (jitter_is c.args.p.now c.requires.0 c.args.i c.args.«length» c.requires.1 c.from-jitter.ensures) c.charge_in-passed.ensures c.if-not-passed.false c.store.ensures
