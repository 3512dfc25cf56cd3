use mathlib.Core.Logic.{inl, inr}
use Rattle.rules.specs.Bound.{admits}
use Rattle.bound.proofs.Bound.admits.Goals as goal

pub returns-in-Unbounded : goal.returns-in-Unbounded
unfolding admits
returns-in-Unbounded c = rw c.in-Unbounded.is

pub returns-in-DomainSize : goal.returns-in-DomainSize
unfolding admits
returns-in-DomainSize c = rw c.in-DomainSize.is

pub returns-in-DepthPure : goal.returns-in-DepthPure
unfolding admits
returns-in-DepthPure c = elim c.in-DepthPure.is [ inl e ↦ rw e | inr e ↦ rw e ]
