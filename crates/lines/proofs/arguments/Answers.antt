-- As many of the four as are counted.
use Rattle.lines.specs.Lines.{args_are}
use Rattle.lines.proofs.arguments.Goals as goal

pub returns-clause-value : goal.returns-clause-value
returns-clause-value c = args_are c.args.entry.now _ c.min-count.ensures
