-- What `all` answers on `0..n`: whether the test passes at each number below n.
use Rattle.std.specs.Prelude.{◌≡◌, refl, ℕ, zero, suc, ◌+◌, ◌-◌, Bool, true, false, ◌&&◌, Option, List}
use Rattle.std.proofs.Common.{◌∙◌, arith, add-one}
use Rattle.std.proofs.Math.Path.{ap}
use Rattle.std.specs.Fn.{Called}
use Rattle.std.specs.Iterator.{YieldsThen}
use Rattle.std.specs.List.{FoldsTo, list_all, range_with_len}
use Rattle.std.specs.Option.{MatchOption}
use Rattle.std.specs.declared.ops.Range.{Range}
use Rattle.std.proofs.iter.Yields.{nat_range_steps}
use Rattle.std.proofs.lemmas.Iterator.{YieldsList-from_range}
use Rattle.std.proofs.lemmas.Iterator.Search.{all_from_yields_List}
use denote.Param.Members.{Mut}
use Rattle.base.specs.Lists.{all, from}
use Rattle.sheetparts.specs.Loops.{up_to, every}

all_listed : (p : ℕ → Bool) (a n : ℕ) → list_all p (range_with_len a n) ≡ all p (from a n)
unfolding from
all_listed p a zero = refl
all_listed p a (suc n) = ap (λ b. p a && b) (all_listed p (a + 1) n ∙ ap (λ j. all p (from j n)) (add-one a))

every_listed : (p : ℕ → Bool) (n : ℕ) → list_all p (range_with_len 0 n) ≡ every p 0 n
unfolding every up_to
every_listed p n = let z : n ≡ n - 0 = omega arith in all_listed p 0 n ∙ ap (λ k. all p (from 0 k)) z

-- What `all` answers on `0..n`, whose test answers p of each number.
pub every_ran : {F : Type 0} {g : Mut F (ℕ × Unit {0}) Bool} (p : ℕ → Bool) (n : ℕ) (u : Range ℕ) (f : F) (r : Bool)
    → (xs : List ℕ) × (o : Option ℕ) × (j : F) × YieldsThen nat_range_steps (record { start = 0; end = n }) xs o u
    × FoldsTo (λ h x q. Called g h (x, tt) true q) f xs j × MatchOption o (r ≡ true) (λ x. (r ≡ false) × ((h : F) × Called g j (x, tt) false h))
    → ((x : ℕ) (b : Bool) (q : F) → Called g f (x, tt) b q → (q ≡ f) × (b ≡ p x)) → r ≡ every p 0 n
every_ran p n u f r ran one = all_from_yields_List p u f r ran (YieldsList-from_range 0 n n refl (omega arith)) one ∙ every_listed p n
