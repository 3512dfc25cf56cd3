-- Over the entry with that key, or into the gap that the copy opened.
use Rattle.std.proofs.Common.{ℕ, List, ◌≤◌, arith, ap, ◌∙◌, length-take-le}
use Rattle.std.proofs.Math.ListN.{set}
use Rattle.tables.specs.Shift.{opened_copied, opened_set}
use Rattle.tables.specs.Ways.{put_there, put_gap, absent}
use Rattle.tables.proofs.put.Goals as goal
use Rattle.tables.proofs.put.Goals.{else-at-n-via-then-at-n+else-key-q, else-at-n-via-else-at-n}

pub returns-then-key-q : goal.returns-then-key-q
returns-then-key-q c =
    put_there c.args.t.now c.args.n c.args.x _ (rw c.key-q.ensures at c.rank-at.ensures.0) (omega arith) c.if-at-n.true (omega arith)

pub returns : goal.returns
returns c =
    let r = c.rank-at.result in
    let t = c.args.t.now in
    let n = c.args.n in
    let e = rw c.key-q.ensures at c.rank-at.ensures.0 in
    let l : r ≤ n = omega (arith, c.rank-at.ensures.1, length-take-le n t (omega arith)) in
    put_gap t n c.args.x r e c.requires.0 l
    (absent t n _ r (omega arith) e (λ h k. elim c.else-at-n.branch [ else-at-n-via-then-at-n+else-key-q w ↦ w.if-key-q.false (omega arith) | else-at-n-via-else-at-n w ↦ absurd (omega arith) ])) _
    (ap (λ (a : List ℕ). set a r c.args.x) (c.copy_within.ensures.after ∙ opened_copied t n c.requires.0 r l) ∙ opened_set t n c.requires.0 r c.args.x l)
