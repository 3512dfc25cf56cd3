-- A bound as code has it is the definitions' bound.
use Rattle.std.specs.Prelude.{◌≡◌, refl, ℕ, zero, suc, ◌≤◌, true, false, Result, MatchResult}
use Rattle.std.proofs.Common.{arith, lt-ltb, le-ltb, ne_eqb}
use Rattle.rules.specs.Bound.{Bound, unbounded, domain_size, depth_pure, depth_reuse}
use Rattle.rules.specs.Calls.{bounds, bound_of, known_bound}
use Rattle.refusals.specs.declared.Refusal.{Refusal}
use Rattle.refusals.specs.declared.Refusal.TheVariants.{UnknownSetting}
use Rattle.bound.specs.declared.Bound as declared
use Rattle.bound.specs.declared.Bound.TheVariants.{Unbounded, DomainSize, DepthPure, DepthReuse}

abbrev pub bound_is : declared.Bound → Bound
bound_is Unbounded = unbounded
bound_is (DomainSize n) = domain_size n
bound_is (DepthPure n) = depth_pure n
bound_is (DepthReuse n) = depth_reuse n

-- What a call's two numbers are read as: the bound that they mean, if document 01 knows them.
abbrev pub ReadsBound : ℕ → ℕ → Result declared.Bound Refusal → Type 0
ReadsBound kind n r = MatchResult r (λ b. (known_bound kind n ≡ true) × (bound_is b ≡ bound_of kind n)) (λ e. (e ≡ UnknownSetting) × (known_bound kind n ≡ false))

pub some_known : (kind n : ℕ) → 1 ≤ kind → kind ≤ 3 → known_bound kind n ≡ true
unfolding known_bound bounds
some_known kind n h k = rw (lt-ltb kind 4 (omega arith), ne_eqb kind 0 (λ z. omega arith)) refl

pub many_unknown : (kind n : ℕ) → 4 ≤ kind → known_bound kind n ≡ false
unfolding known_bound bounds
many_unknown kind n h = rw (le-ltb kind 4 h) refl

pub none_unknown : (n : ℕ) → (n ≡ 0 → ⊥) → known_bound 0 n ≡ false
unfolding known_bound bounds
none_unknown n h = rw (ne_eqb n 0 h) refl

-- From 3 on a kind is a depth reuse.
pub reuse_of : (kind n : ℕ) → 3 ≤ kind → depth_reuse n ≡ bound_of kind n
unfolding bound_of
reuse_of zero n h = absurd (omega arith)
reuse_of (suc zero) n h = absurd (omega arith)
reuse_of (suc (suc zero)) n h = absurd (omega arith)
reuse_of (suc (suc (suc k))) n h = refl
