-- `write_open` meets its contract: each way out by its law.
use Rattle.openings.specs.Open.{open_written}
use Rattle.openings.proofs.write_open.Goals as goal

pub returns : goal.returns
returns c = rw (c.from.ensures, c.from-2.ensures) (open_written _ _ c.args.pool.now _ c.requires.1 c.clear.ensures)
