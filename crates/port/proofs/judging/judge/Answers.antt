use Rattle.port.proofs.Whole.{whole_ticked}
use Rattle.port.proofs.Judged.{line_in, table_is, is_filtered, let_through, is_admitted}
use Rattle.port.proofs.judging.judge.Goals as goal

pub tick_line-requires : goal.tick_line-requires
tick_line-requires c = line_in c.args.p.now c.requires.0 c.args.line c.args.«length» c.requires.1

pub admitted-requires : goal.admitted-requires
admitted-requires c = table_is c.args.p.now c.requires.0 c.args.line c.args.«length» c.requires.1 c.tick_line.ensures c.args.number

pub returns-in_default : goal.returns-in_default
returns-in_default c = is_filtered c.args.p.now c.requires.0 c.args.line c.args.«length» c.requires.1 c.tick_line.ensures c.args.number (rw c.in_default.is at c.admitted.ensures)

pub police-requires : goal.police-requires
police-requires c = (
  whole_ticked c.args.line c.requires.0 c.tick_line.ensures,
  let_through c.args.p.now c.requires.0 c.args.line c.args.«length» c.requires.1 c.tick_line.ensures c.args.number c.in-Some.i (rw c.in-Some.is at c.admitted.ensures),
)

pub returns : goal.returns
returns c = is_admitted c.args.p.now c.requires.0 c.args.line c.args.«length» c.requires.1 c.tick_line.ensures c.args.number c.in-Some.i (rw c.in-Some.is at c.admitted.ensures) c.police.ensures
