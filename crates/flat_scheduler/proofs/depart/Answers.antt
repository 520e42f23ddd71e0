use Rattle.port_scheduler.proofs.Departed.{three_set}
use Rattle.flat_scheduler.proofs.depart.Goals as goal

pub returns : goal.returns
returns c =
    record {
      frames_stay = c.pop.ensures.2;
      queues_are = c.pop.ensures.0;
      held_is = rw (c.pop.ensures.1.held, c.saturating_sub.ensures, c.occupancy.ensures.0);
      marks_stay = c.pop.ensures.1.marks;
      list_is = three_set c.args.list.now c.args.k _ _ c.args.end c.requires.room;
    }
