-- One more entry stands in front of what is left of the form.
use Rattle.std.proofs.Common.{◌≡◌, ℕ, ◌+◌, List, ◌++◌, ap₂, ◌∙◌, arith, append-nil, drop_of_length-le, take_all}
use Rattle.octets.specs.Words.{bytes_set}
use Rattle.children.proofs.copy_form.Goals as goal

pub loop-i-preserved : goal.loop-i-preserved
loop-i-preserved c =
    let z : 0 + c.loop-i.i ≡ c.loop-i.i = omega arith in
    rw c.loop-i.invariant (rw z at (bytes_set c.args.base.now 0 c.loop-i.i c.args.form.now (omega arith) (omega arith)))

pub returns : goal.returns
returns c =
    rw c.loop-i.invariant
    (ap₂ (λ (x y : List ℕ). x ++ y) (take_all c.loop-i.i c.args.base.now (omega arith)) (drop_of_length-le c.args.form.now {i = c.loop-i.i} (omega arith)) ∙ append-nil c.args.base.now)
