-- Each entry that was passed went through `replaced`.
use Rattle.std.proofs.Common.{arith}
use Rattle.std.proofs.lemmas.Grind.{common_steps}
use Rattle.std.proofs.lemmas.List.Edits.{map_over_more}
use Rattle.packing.specs.Replace.{replaced}
use Rattle.filing.proofs.rename_all.Goals as goal

pub loop-x-preserved : goal.loop-x-preserved
loop-x-preserved c = grind (arith, common_steps, map_over_more (replaced c.args.r.stays c.args.r.goes))
