use Rattle.port_batch.proofs.Standing.{queues_room, stands, kept, rings_fit, moved}
use Rattle.port_batch.proofs.running.answered.Goals as goal

pub put_queues-requires : goal.put_queues-requires
put_queues-requires c = queues_room c.requires.1

pub run-requires : goal.run-requires
run-requires c = (stands c.requires.1 c.put_queues.ensures.0 c.put_counts.ensures, c.requires.2)

pub returns-in_default : goal.returns-in_default
returns-in_default c = kept c.requires.0 c.requires.1 c.put_queues.ensures.0 c.put_counts.ensures c.args.reports.now c.args.answers.now c.args.list.now c.run.ensures.0 c.run.ensures.1 c.in_default.is

pub queues_of-p-requires : goal.queues_of-p-requires
queues_of-p-requires c = rings_fit c.run.ensures.0.stands

pub returns : goal.returns
returns c = moved c.requires.0 c.requires.1 c.put_queues.ensures.0 c.put_counts.ensures c.args.reports.now c.args.answers.now c.args.list.now c.run.ensures.0 c.run.ensures.1 c.in-Some.is c.queues_of-p.ensures c.counts_of-p.ensures
