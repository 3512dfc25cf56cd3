-- What joining makes of the regions of keys and of facts, and of a region that goes through a function.
use Rattle.std.specs.Prelude.{◌≡◌, ℕ, ◌+◌, ◌≤◌, List, ◌++◌, length, take, drop}
use Rattle.std.proofs.Common.{sym, ap, ap₂, ◌∙◌, subst, arith, take-take}
use Rattle.rules.specs.Image.{part}
use Rattle.rules.specs.Merge.{sum}
use Rattle.images.specs.Kept.{Kept, drop_take}
use Rattle.lowering.specs.Lower.{lower_in}
use Rattle.renaming.specs.Order.{Sorted}
use Rattle.joining.specs.Leaf.{JoinedKeys, JoinedFacts}
use Rattle.joining.specs.Lent.{Lent, kept_lent, part_lent}
use Rattle.joining.specs.Windows.{Beside}

abbrev pub KeysAt : (at room n top s l : ℕ) (w : List ℕ) (count up : ℕ) (w' : List ℕ) → Type 0
KeysAt at room n top s l w count up w' = Lent (λ t u. JoinedKeys s l n top t count up u) at room w w'

-- What joining makes of the facts' region, with as many places from spare on written over.
abbrev pub FactsAt : (at n spare s l : ℕ) (w : List ℕ) (count : ℕ) (w' : List ℕ) → Type 0
FactsAt at n spare s l w count w' = Beside (λ t u. JoinedFacts s l t count u) at n spare w w'

-- A region that went through a function.
abbrev pub RegionAt : (f : List ℕ → List ℕ) (at n : ℕ) (w w' : List ℕ) → Type 0
RegionAt f at n w w' = Lent (λ t u. u ≡ f t) at n w w'

-- What is in order at a region's front is so when the region is lent.
pub part_sorted : (at room n k : ℕ) (w : List ℕ) → k ≡ room → n ≤ room → Sorted (part at n w) → Sorted (take n (take k (drop at w)))
unfolding part
part_sorted at room n k w e h s = subst Sorted (sym (take-take n k (drop at w) (omega arith))) s

-- What lowering makes of the depths: k keys from a on stand before n depths from d on.
pub record LoweredTo (a k d n : ℕ) (w w' : List ℕ) : Type 0 where
  pub kept : Kept d n w w'
  pub depths : part d n w' ≡ lower_in (sum (part d n w)) (part a k w) (part d n w)

-- The list was cut at d, and the front part read while the front of the back part was lowered.
pub lowered_cut : (a k d n j : ℕ) (w fr ba es : List ℕ) → a + k ≤ d → d + n ≤ length w → fr ≡ take d w → ba ≡ drop d w → j ≡ k → length es ≡ n
    → es ≡ lower_in (sum (take n ba)) (take j (drop a fr)) (take n ba) → LoweredTo a k d n w (fr ++ (es ++ drop n ba))
unfolding part
lowered_cut a k d n j w fr ba es h q f b i z e =
    let keys : take j (drop a fr) ≡ take k (drop a w) =
    ap₂ (λ (m : ℕ) (x : List ℕ). take m (drop a x)) i f ∙ ap (take k) (drop_take a d w) ∙ take-take k _ (drop a w) (omega arith) in
    subst (λ (x : List ℕ). LoweredTo a k d n w x) (ap₂ (λ (x y : List ℕ). x ++ (es ++ drop n y)) (sym f) (sym b)) (record {
      kept = kept_lent d n w es q z;
      depths = part_lent d n w es q z ∙ e ∙ ap₂ (λ (ks ds : List ℕ). lower_in (sum ds) ks ds) keys (ap (take n) b);
    })
