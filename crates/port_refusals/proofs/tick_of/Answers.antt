use Rattle.model.specs.Report.{tick_of}
use Rattle.port_refusals.proofs.tick_of.Goals as goal

pub returns-in-Wait : goal.returns-in-Wait
unfolding tick_of
returns-in-Wait c = rw c.in-Wait.is

pub returns-in-Frame : goal.returns-in-Frame
unfolding tick_of
returns-in-Frame c = rw c.in-Frame.is
