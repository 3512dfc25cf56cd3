-- Each way by its law.
use Rattle.lists.specs.Moves.{enlist_cut, enlist_fifo, enlist_lifo}
use Rattle.lists.proofs.enlist.Goals as goal

pub returns-then-cut : goal.returns-then-cut
returns-then-cut c =
    (c.push_back.ensures.0, rw c.if-cut.true (enlist_cut c.args.slot c.args.pool.now.bytes.now _ c.push_back.ensures.1), c.push_back.ensures.2)

pub returns-in-Fifo : goal.returns-in-Fifo
returns-in-Fifo c =
    (c.push_back-in-Fifo.ensures.0, rw c.if-cut.false (enlist_fifo c.args.slot c.args.pool.now.bytes.now _ (rw c.in-Fifo.is at c.of_byte.ensures) c.push_back-in-Fifo.ensures.1), c.push_back-in-Fifo.ensures.2)

pub returns-in-Lifo : goal.returns-in-Lifo
returns-in-Lifo c =
    (c.push_front.ensures.0, rw c.if-cut.false (enlist_lifo c.args.slot c.args.pool.now.bytes.now _ (rw c.in-Lifo.is at c.of_byte.ensures) c.push_front.ensures.1), c.push_front.ensures.2)
