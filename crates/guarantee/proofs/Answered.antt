-- Demand 3 with the numbers of an answer.
use lib.ListN.{get_or}
use Rattle.model.specs.Table.{Table}
use Rattle.model.specs.Bounds.{Sizing}
use Rattle.model.specs.Run.{History, DemandBy, Demand3}
use Rattle.bounds.proofs.Answered.{Answers}

-- demand 3 with numbers that are the bounds and holds
pub demand_by : {t : Table} {s : Sizing} {h : History} → Answers t s → Demand3 t h → DemandBy (λ p. get_or s.bounds p 0) (λ p. get_or s.holds p 0) t h
demand_by k d =
    record {
      queue = d.queue;
      within = λ p l. rw (k.bounds p l) (d.within p l);
      mark = d.mark;
      in_time = λ p l. rw (k.holds p l) (d.in_time p l);
      no_drop = λ p l fits. d.no_drop p l (rw (k.bounds p l) at fits);
      not_policed = d.not_policed;
    }
