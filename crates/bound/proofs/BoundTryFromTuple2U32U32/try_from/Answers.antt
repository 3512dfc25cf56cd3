-- Whether the two numbers are known, and which bound they are.
use Rattle.std.proofs.Common.{◌≡◌, refl, arith}
use Rattle.rules.specs.Calls.{bounds, bound_of, known_bound}
use Rattle.bound.specs.Bounds.{some_known, many_unknown, none_unknown}
use Rattle.bound.proofs.BoundTryFromTuple2U32U32.try_from.Goals as goal

pub returns-in-0-eq0 : goal.returns-in-0-eq0
unfolding known_bound bounds bound_of
returns-in-0-eq0 c = let e : c.args.setting.0 ≡ 0 = omega arith in let f : c.args.setting.1 ≡ 0 = omega arith in rw (e, f) (refl, refl)

pub returns-in-1-to-3-default : goal.returns-in-1-to-3-default
returns-in-1-to-3-default c = (some_known _ _ (omega arith) (omega arith), c.of_numbers.ensures)

pub returns-in_default : goal.returns-in_default
returns-in_default c = let e : c.args.setting.0 ≡ 0 = omega arith in (refl, rw e (none_unknown _ (λ z. omega arith)))

pub returns-in_default-2 : goal.returns-in_default-2
returns-in_default-2 c = (refl, many_unknown _ _ (omega arith))
