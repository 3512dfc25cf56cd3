-- One step more of the chain.
use native.Mathlib.Omega.{arith}
use mathlib.Core.Path.{refl}
use lib.ListN.{length}
use Rattle.skips.specs.Rest.{chain_more}
use Rattle.skips.proofs.skip_many.Goals as goal

pub loop-preserved : goal.loop-preserved
loop-preserved g c =
    let i = c.loop.invariant in
    let w = c.requires.stays c.loop.p c.one-p.result i.0.1 c.one-p.ensures in
    ((omega arith, w.1), chain_more _ (length c.args.s.now.bytes.now) c.loop.counter c.args.at c.loop.p _ i.1 i.0.1 (c.args.s, (refl, c.one-p.ensures)))
