use Rattle.std.proofs.Common.{List, ℕ, ◌++◌, ◌∙◌, min, ap, drop}
use Rattle.octets.specs.Patch.{patched}
use Rattle.limits.specs.Limits.{limits_of}
use Rattle.sheets.specs.Load.{counted}
use Rattle.sheets.proofs.load_counts.Goals as goal

pub returns : goal.returns
unfolding patched
returns c =
    counted (limits_of c.args.limits) c.args.slot.now _ _ _ _ _ c.args.w.now _ c.num16-4.ensures.0 c.num16-5.ensures.0
    (c.within-created.ensures.0 ∙ ap (λ n. min n c.args.limits.elements) c.num16.ensures.0)
    (c.within-keys.ensures.0 ∙ ap (λ n. min n c.args.limits.keys) c.num16-2.ensures.0)
    (c.within-facts.ensures.0 ∙ ap (λ n. min n c.args.limits.facts) c.num16-3.ensures.0) (ap (λ (x : List ℕ). x ++ drop 5 c.args.w.now) c.copy_from_slice.ensures.after)
