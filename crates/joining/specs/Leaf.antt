-- What renaming, putting in order and filing anew make of one table: of keys with the pairs at the end of their list, and of facts.
use Rattle.std.specs.Prelude.{◌≡◌, ℕ, ◌+◌, ◌≤◌, length, drop}
use Rattle.std.proofs.Math.Path.{sym, ap, ap₂}
use Rattle.std.proofs.Common.{◌∙◌, subst, arith, inl, drop_of_length-le}
use mathlib.Core.List.{List, [], ◌++◌, map, append-nil}
use Rattle.std.proofs.Math.ListN.{take, length-drop}
use lib.Seq.{drop_at, take_all, length-take-le, take-append-le}
use borrow.Rule.Slice.PartMut.{put_mid}
use Rattle.rules.specs.Image.{part}
use Rattle.packing.specs.Replace.{replaced}
use Rattle.renaming.specs.Order.{order_in, Sorted, order_sorts}
use Rattle.filing.specs.File.{Files, refile_in, refact_in, Refiled, Refacted}
use Rattle.joining.specs.Windows.{Through}

pub record JoinedKeys (s l n top : ℕ) (t : List ℕ) (count up : ℕ) (t' : List ℕ) : Type 0 where
  pub made : ◌≡◌ {A = Files} (take count t', drop up t') (refile_in (order_in (map (replaced s l) (take n t))) ([], map (replaced s l) (drop top t)))
  pub fewer : count ≤ n
  pub below : up ≤ top
  pub sum : count + top ≤ n + up

pub record JoinedFacts (s l : ℕ) (t : List ℕ) (count : ℕ) (t' : List ℕ) : Type 0 where
  pub made : take count t' ≡ refact_in (order_in (map (replaced s l) t)) []
  pub fewer : count ≤ length t

module _ (s l n top k : ℕ) (t t₁ : List ℕ) (room : n + n ≤ top) (fits : top ≤ length t) (whole : top + k ≡ length t) (r : Through (replaced s l) 0 n n t t₁) where
  abbrev f : ℕ → ℕ
  f = replaced s l

  abbrev t₂ : List ℕ
  t₂ = put_mid top k t₁ (map f (take k (drop top t₁)))

  size₁ : length t₁ ≡ length t
  size₁ = r.elsewhere.size

  -- Behind the table and the spare places all is kept.
  behind : drop top t₁ ≡ drop top t
  unfolding part
  behind =
      sym (take_all k (drop top t₁) (omega (arith, length-drop top t₁, size₁)))
      ∙ r.elsewhere.kept top k (inl (omega arith)) (inl (omega arith))
      ∙ take_all k (drop top t) (omega (arith, length-drop top t))

  keys₂ : take n t₂ ≡ order_in (map f (take n t))
  unfolding part
  keys₂ =
      take-append-le n (take top t₁) _ (omega (arith, length-take-le top t₁ (omega (arith, size₁))))
      ∙ lib.Seq.take-take n top t₁ (omega arith) ∙ r.made

  pairs₂ : drop top t₂ ≡ map f (drop top t)
  pairs₂ =
      let d : length (drop top t₁) ≡ k = length-drop top t₁ ∙ (omega (arith, size₁)) in
      let a : take k (drop top t₁) ≡ drop top t₁ = take_all k (drop top t₁) (omega arith) in
      drop_at (take top t₁) _ top (length-take-le top t₁ (omega (arith, size₁)))
      ∙ ap₂ (λ (x y : List ℕ). x ++ y) (ap (map f) a) (drop_of_length-le (drop top t₁) {i = k} (omega arith))
      ∙ append-nil (map f (drop top t₁))
      ∙ ap (map f) behind

  -- What was renamed in front is in order when it is filed.
  pub keys_sorted : (u : List ℕ) → u ≡ map f (take k (drop top t₁)) → Sorted (take n (put_mid top k t₁ u))
  keys_sorted u e = subst (λ (z : List ℕ). Sorted (take n (put_mid top k t₁ z))) (sym e) (subst Sorted (sym keys₂) (order_sorts (map f (take n t))))

  -- Renamed and in order in front, renamed from top on, filed anew.
  pub joined_keys : (u : List ℕ) → u ≡ map f (take k (drop top t₁)) → (count up : ℕ) (t' : List ℕ)
      → Refiled n top (put_mid top k t₁ u) count up t' → JoinedKeys s l n top t count up t'
  joined_keys u e count up t' q =
      let z = subst (λ (v : List ℕ). Refiled n top (put_mid top k t₁ v) count up t') e q in
      record {
        made = z.made ∙ ap₂ (λ (x y : List ℕ). refile_in x ([], y)) keys₂ pairs₂;
        fewer = z.fewer;
        below = z.below;
        sum = z.sum;
      }

module _ (s l : ℕ) (t t₁ : List ℕ) (r : t₁ ≡ order_in (map (replaced s l) t)) where
  pub facts_sorted : Sorted t₁
  facts_sorted = subst Sorted (sym r) (order_sorts (map (replaced s l) t))

  pub joined_facts : (count : ℕ) (u : List ℕ) → length t₁ ≡ length t → Refacted t₁ count u → JoinedFacts s l t count u
  joined_facts count u size q = record { made = q.made ∙ ap (λ (x : List ℕ). refact_in x []) r; fewer = omega (arith, q.fewer) }
