-- The pool behind the run has at most twelve sheets to list, and the text is the definition's.
use Rattle.std.proofs.Common.{arith, rules}
use Rattle.lines.specs.Writes.{writes_as}
use Rattle.printing.specs.Running.{prints_run, few_listed}
use Rattle.printing.specs.Reads.{run_read}
use Rattle.printing.proofs.opened_text.Goals as goal

pub ran_text-requires : goal.ran_text-requires
ran_text-requires c =
    let p = run_read c.args.input.now c.args.pool.now _ _ _ _ _ c.byte-bound.ensures.0 c.num32-number.ensures.0 c.run-ran.ensures in
    let f = few_listed c.args.input.now c.args.pool.now c.requires.0 _ _ _ p in
    (search rules, omega arith)

pub returns : goal.returns
returns c =
    let p = run_read c.args.input.now c.args.pool.now _ _ _ _ _ c.byte-bound.ensures.0 c.num32-number.ensures.0 c.run-ran.ensures in
    writes_as _ (prints_run c.args.input.now c.args.pool.now c.requires.0 _ _ _ p) c.ran_text.ensures
