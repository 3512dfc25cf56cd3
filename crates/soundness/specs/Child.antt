-- A child that was never too big is neat. Every literal keeps the child's sheet tidy, whatever the bound skips and whatever is
-- observed; its size is tested when a literal is in, and merging makes nothing larger.
use Rattle.std.specs.Prelude.{◌≡◌, ℕ, ◌+◌, not, length, ltb}
use Rattle.std.proofs.Common.{sym, ap₂, ◌∙◌, length-append, nltb→le}
use Rattle.std.proofs.Math.Path.{subst}
use Rattle.std.proofs.Math.Option.{some}
use mathlib.Core.List.{List, [], ◌∷◌, map}
use Rattle.std.proofs.lemmas.List.{length-map}
use Rattle.std.proofs.Math.Dec.{T}
use Rattle.base.specs.Lists.{All}
use Rattle.base.specs.BranchLaws.{if_elim, or_no}
use Rattle.base.specs.ListLaws.{all_all, all_map, all_append, all_in, in_mem, In, entries_length, entries_all}
use Rattle.rules.specs.Book.{Literal, fact, same, Disjunct, Sequent, Names}
use Rattle.rules.specs.Sheet.{Fact, Model, domain, known, Limits}
use Rattle.rules.specs.Look.{Meaning, elem, origin_meaning, head_meanings}
use Rattle.rules.specs.Fire.{Firing, firing}
use Rattle.rules.specs.Bound.{Bound, History}
use Rattle.rules.specs.Child.{enter, Child, too_big, with_fact, recorded, tell, tells, child}
use Rattle.rules.specs.Sound.{has_arity, declared_as, fact_declared}
use Rattle.laws.specs.Tables.{insert_fact_all, insert_fact_rises}
use Rattle.laws.specs.Firing.{Within, firing_is}
use Rattle.soundness.specs.Tools.{FactOver, Yielded, known_yielded}
use Rattle.soundness.specs.Join.{merge_linked}
use Rattle.soundness.specs.Neat.{Small, Neat, merge_small, merge_listed}
use Rattle.soundness.specs.Book.{WfLiteral, WfOrigin, WfDisjunct, WfSequent}
use Rattle.soundness.specs.Enter.{Tidy, Means, enters_count, enter_entered, enters_entered}

-- ---- literals

not_big : (lim : Limits) (m : Model) → T (not (too_big lim m)) → Small lim m
unfolding too_big
not_big lim m t =
    let a = or_no (ltb lim.elements m.created) _ t in
    let b = or_no (ltb lim.keys (length m.keys)) (ltb lim.facts (length m.facts)) a.1 in
    record {
      few_created = nltb→le lim.elements m.created a.0;
      few_keys = nltb→le lim.keys (length m.keys) b.0;
      few_facts = nltb→le lim.facts (length m.facts) b.1;
    }

pub fact_tidy : (d : Names) (B : ℕ → Type 0) (now : History) (m : Model) (f : Fact) → Tidy d B now m → All (Yielded m.keys) f.args → T (fact_declared d f) → Tidy d B now (with_fact m f)
fact_tidy d B now m f g a t =
    let l = g.linked in
    record {
      listed = record {
        keys_rise = g.listed.keys_rise;
        facts_rise = insert_fact_rises f m.facts g.listed.facts_rise;
        keys_declared = g.listed.keys_declared;
        facts_declared = insert_fact_all (λ (x : Fact). T (fact_declared d x)) f m.facts t g.listed.facts_declared;
      };
      linked = record {
        key_args = l.key_args;
        fact_args = insert_fact_all (FactOver (Yielded m.keys)) f m.facts a l.fact_args;
        low = l.low;
        long = l.long;
        reached = l.reached;
        rests = l.rests;
        gone = l.gone;
      };
      follows = g.follows;
    }

-- A child on its way: tidy, and small unless it was ever too big.
pub record Good (lim : Limits) (d : Names) (B : ℕ → Type 0) (k : Child) : Type 0 where
  pub tidy : Tidy d B k.now k.model
  pub small : T (not k.over) → Small lim k.model

module _ (lim : Limits) (d : Names) (B : ℕ → Type 0) (env : List Meaning) (means : All (Means d B) env) where
  recorded_good : (l : Literal) (k : Child) → WfLiteral d (length env) l → Good lim d B k → Good lim d B (recorded lim env l k)
  unfolding recorded
  recorded_good (fact r ts) k w g =
      let q = enters_entered d B k.now env means ts k.model w.1 g.tidy in
      record {
        tidy = fact_tidy d B k.now _ _ q.tidy q.yields
            (unfold fact_declared in subst (λ n. T (has_arity d.relations r n)) (sym (enters_count d B k.now env means ts k.model)) w.0);
        small = λ t. not_big lim _ (or_no k.over _ t).1;
      }
  recorded_good (same s u) k w g =
      let q = enter_entered d B k.now env means s k.model w.0 g.tidy in
      let p = enter_entered d B k.now env means u (enter s k.model k.now env).0 w.1 q.tidy in
      let j = merge_linked B _ _ _ k.now p.tidy.linked p.tidy.follows (p.stay _ q.yields.0) p.yields.0 in
      record {
        tidy = record { listed = merge_listed d _ _ _ k.now p.tidy.listed; linked = j.0; follows = j.1 };
        small = λ t. merge_small lim _ _ _ k.now (not_big lim _ (or_no k.over _ t).1);
      }

  pub tell_good : (b : Bound) (l : Literal) (k : Child) → WfLiteral d (length env) l → Good lim d B k → Good lim d B (tell lim b env l k)
  unfolding tell
  tell_good b l k w g =
      if_elim (Good lim d B) _ _ _ (λ _. if_elim (Good lim d B) _ _ _ (λ _. g) (λ _. recorded_good l k w g)) (λ _. record { tidy = g.tidy; small = g.small })

  tells_good : (b : Bound) (ls : List Literal) (k : Child) → All (WfLiteral d (length env)) ls → Good lim d B k → Good lim d B (tells lim b env ls k)
  unfolding tells
  tells_good b [] k w g = g
  tells_good b (l ∷ ls) k w g = tells_good b ls (tell lim b env l k) w.1 (tell_good b l k w.0 g)

-- ---- the variables of a disjunct

pub head_means : (d : Names) (B : ℕ → Type 0) (c : List ℕ) → All B c → (j : Disjunct) → All (WfOrigin d (length c)) j.origins → All (Means d B) (head_meanings c j)
unfolding head_meanings origin_meaning
head_means d B c a j w = all_append (Means d B) (map elem c) (map (origin_meaning c) j.origins)
    (all_map B (Means d B) elem (λ e b. b) c a)
    (all_map (WfOrigin d (length c)) (Means d B) (origin_meaning c)
    (λ o v. (entries_all B c o.args a, subst (λ n. T (declared_as d (3 + o.kind) o.witness n)) (sym (entries_length c o.args v.2)) v.1)) j.origins w)

pub head_length : (c : List ℕ) (j : Disjunct) → length (head_meanings c j) ≡ length c + length j.origins
unfolding head_meanings
head_length c j = length-append (map elem c) (map (origin_meaning c) j.origins) ∙ ap₂ ◌+◌ (length-map c elem) (length-map j.origins (origin_meaning c))

-- ---- children

pub child_neat : (lim : Limits) (b : Bound) (d : Names) (m : Model) (c : List ℕ) (j : Disjunct) → Neat lim d m → All (λ e. T (known m e)) c → WfDisjunct d (length c) j
    → T (not (child lim b m c j).over) → Neat lim d (child lim b m c j).model
unfolding child
child_neat lim b d m c j g a w t =
    let Y = Yielded m.keys in
    let r = tells_good lim d Y (head_meanings c j) (head_means d Y c (all_all (λ e. T (known m e)) Y (known_yielded m) c a) j w.0) b j.literals _
    (subst (λ n. All (WfLiteral d n) j.literals) (sym (head_length c j)) w.1)
    (record { tidy = record { listed = g.listed; linked = g.linked; follows = λ e y. y }; small = λ _. g.small }) in
    record { small = r.small t; listed = r.tidy.listed; linked = r.tidy.linked }

-- The domain's elements are known.
pub domain_known : (m : Model) → All (λ e. T (known m e)) (domain m)
unfolding known
domain_known m = all_all (λ e. In e (domain m)) (λ e. T (known m e)) (λ e. in_mem e (domain m)) (domain m) (all_in (domain m))

pub kids_neat : (lim : Limits) (b : Bound) (d : Names) (m : Model) (rs : List Sequent) (vs : List (ℕ × Sequent)) → Neat lim d m → All (WfSequent d) rs → Within rs vs
    → (f : Firing) → firing m vs ≡ some f → All (λ (k : Child). T (not k.over) → Neat lim d k.model) (map (child lim b m f.choice) f.sequent.head)
kids_neat lim b d m rs vs g w n f e =
    let r = firing_is (λ e. T (known m e)) (λ (x : ℕ × Sequent). WfSequent d x.1) m (domain_known m) vs (n (WfSequent d) w) f e in
    all_map (WfDisjunct d f.sequent.free) (λ (k : Child). T (not k.over) → Neat lim d k.model) (child lim b m f.choice)
    (λ j q. child_neat lim b d m f.choice j g r.chosen.1 (subst (λ v. WfDisjunct d v j) (sym r.chosen.0) q)) f.sequent.head r.visited.1
