-- One law for each kind.
use native.Mathlib.Omega.{arith}
use mathlib.Core.Path.{sym, ◌∙◌}
use borrow.Author.Tests.{le-ltb}
use Rattle.sheetparts.specs.Ways.{arity_yes, arity_no, low_yes, low_no, constant, function, constant_witness, function_witness, nothing}
use Rattle.sheetparts.proofs.declared.Goals as goal

pub returns-then-symbol-constants : goal.returns-then-symbol-constants
returns-then-symbol-constants c = low_yes _ c.args.n _ _ c.constants.ensures.0 c.if-symbol-constants.true ∙ sym (constant _ _ _ _ c.in-1.is)

pub returns-else-symbol-constants : goal.returns-else-symbol-constants
returns-else-symbol-constants c = le-ltb _ _ c.if-symbol-constants.false ∙ low_no _ c.args.n _ _ c.constants.ensures.0 c.if-symbol-constants.false ∙ sym (constant _ _ _ _ c.in-1.is)

pub returns-then-symbol-functions : goal.returns-then-symbol-functions
returns-then-symbol-functions c = arity_yes _ _ _ _ _ c.functions.ensures.0 c.if-symbol-functions.true c.function_arity.ensures.0 ∙ sym (function _ _ _ _ c.in-2.is)

pub returns-else-symbol-functions : goal.returns-else-symbol-functions
returns-else-symbol-functions c = le-ltb _ _ c.if-symbol-functions.false ∙ arity_no _ _ _ _ c.functions.ensures.0 c.if-symbol-functions.false ∙ sym (function _ _ _ _ c.in-2.is)

pub returns-then-symbol-constant_witnesses : goal.returns-then-symbol-constant_witnesses
returns-then-symbol-constant_witnesses c = low_yes _ c.args.n _ _ c.constant_witnesses.ensures.0 c.if-symbol-constant_witnesses.true ∙ sym (constant_witness _ _ _ _ c.in-3.is)

pub returns-else-symbol-constant_witnesses : goal.returns-else-symbol-constant_witnesses
returns-else-symbol-constant_witnesses c = le-ltb _ _ c.if-symbol-constant_witnesses.false ∙ low_no _ c.args.n _ _ c.constant_witnesses.ensures.0 c.if-symbol-constant_witnesses.false ∙ sym (constant_witness _ _ _ _ c.in-3.is)

pub returns-then-symbol-function_witnesses : goal.returns-then-symbol-function_witnesses
returns-then-symbol-function_witnesses c = arity_yes _ _ _ _ _ c.function_witnesses.ensures.0 c.if-symbol-function_witnesses.true c.witness_arity.ensures.0 ∙ sym (function_witness _ _ _ _ c.in-4.is)

pub returns-else-symbol-function_witnesses : goal.returns-else-symbol-function_witnesses
returns-else-symbol-function_witnesses c = le-ltb _ _ c.if-symbol-function_witnesses.false ∙ arity_no _ _ _ _ c.function_witnesses.ensures.0 c.if-symbol-function_witnesses.false ∙ sym (function_witness _ _ _ _ c.in-4.is)

pub returns-in_default : goal.returns-in_default
returns-in_default c = nothing _ _ _ _ (omega arith) (omega arith) (omega arith) (omega arith)
