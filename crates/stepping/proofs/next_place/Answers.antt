use Rattle.stepping.specs.Heads.{place_linear, place_wraps, place_next}
use Rattle.stepping.proofs.next_place.Goals as goal

pub returns-in-Linear : goal.returns-in-Linear
returns-in-Linear c = rw c.in-Linear.is (place_linear c.args.i c.args.n)

pub returns-in-Fair : goal.returns-in-Fair
returns-in-Fair c = rw c.in-Fair.is (place_wraps c.args.i c.args.n c.if-i-n-2.true)

pub returns-in-Fair-2 : goal.returns-in-Fair-2
returns-in-Fair-2 c = rw c.in-Fair-2.is (place_next c.args.i c.args.n c.if-i-n-2.false)
