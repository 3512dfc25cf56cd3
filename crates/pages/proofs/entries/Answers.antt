-- Chunks are parts.
use Rattle.std.proofs.Common.{◌≡◌, ◌-◌, length, take, drop, arith, length-drop}
use Rattle.std.proofs.lemmas.List.{take_all}
use Rattle.pages.specs.Tables.{chunks_first}
use Rattle.pages.proofs.entries.Goals as goal

pub returns-clause-value : goal.returns-clause-value
returns-clause-value c =
    let long : length (drop c.args.table c.args.s.now) ≡ length c.args.s.now - c.args.table = length-drop c.args.table c.args.s.now in
    let whole : take (length c.args.s.now - c.args.table) (drop c.args.table c.args.s.now) ≡ drop c.args.table c.args.s.now = take_all _ _ (omega arith) in
    rw (c.as_chunks.ensures.front, whole) (chunks_first 8 c.args.count _ (drop c.args.table c.args.s.now) (omega arith))
