-- One law for each kind.
use Rattle.std.proofs.Common.{◌∙◌, arith}
use Rattle.rules.specs.Reading.{and_then}
use Rattle.texts.specs.Names.{names_in}
use Rattle.refusals.specs.Numbers.{passed_on}
use Rattle.terms.specs.Head.{term_fault, term_var, term_con, term_app, term_unknown}
use Rattle.terms.proofs.term_head.Goals as goal

pub returns-in_err-kind : goal.returns-in_err-kind
unfolding and_then
returns-in_err-kind c =
    rw (passed_on _ _ c.from_residual.ensures.1)
    (term_fault c.args.deeper (names_in c.args.book.now) c.args.v c.args.book.now c.args.at _ _ c.in_err-kind.ensures)

pub returns-in-0 : goal.returns-in-0
returns-in-0 c = rw c.leaf.ensures (term_var c.args.deeper (names_in c.args.book.now) c.args.v c.args.book.now c.args.at _ _ c.in_ok-kind.ensures c.in-0.is)

pub returns-in-1 : goal.returns-in-1
returns-in-1 c =
    rw (c.leaf-in-1.ensures, c.constants.ensures.0)
    (term_con c.args.deeper (names_in c.args.book.now) c.args.v c.args.book.now c.args.at _ _ c.in_ok-kind.ensures c.in-1.is)

pub returns-in-2 : goal.returns-in-2
returns-in-2 c =
    term_app c.args.deeper (names_in c.args.book.now) c.args.v c.args.book.now c.args.at _ _ c.in_ok-kind.ensures c.in-2.is ∙ c.application.ensures

pub returns-in_default : goal.returns-in_default
unfolding and_then
returns-in_default c =
    rw c.refuse.ensures
    (term_unknown c.args.deeper (names_in c.args.book.now) c.args.v c.args.book.now c.args.at _ _ c.in_ok-kind.ensures (λ q. omega arith) (λ q. omega arith) (λ q. omega arith))
