-- `right_length` meets its contract: each way out by its law.
use Rattle.std.proofs.Common.{◌/◌, ap, arith, rules, ◌∙◌, ne_eqb}
use Rattle.openings.specs.Open.{length_wrong, length_right}
use Rattle.openings.proofs.right_length.Goals as goal

pub returns-then-len-n : goal.returns-then-len-n
returns-then-len-n c =
    length_right _ _ (ap (λ m. m / 2128) c.saturating_sub.ensures) c.if-len-n.true c.contains.result
    (λ e. (let h = rw e at c.contains.ensures.cases in (search rules, search rules))) (λ e a b. (let h = rw e at c.contains.ensures.cases in grind (arith, h)))

pub returns-else-len-n : goal.returns-else-len-n
returns-else-len-n c = ne_eqb _ _ c.if-len-n.false ∙ length_wrong _ _ (ap (λ m. m / 2128) c.saturating_sub.ensures) c.if-len-n.false
