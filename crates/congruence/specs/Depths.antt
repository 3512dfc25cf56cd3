-- A sheet's depths are determined by its keys: each is the least height of a name that the keys lead to the element.
use Rattle.std.specs.Prelude.{◌≡◌, ℕ, ◌≤◌, not, ◌⊎◌, List, map, length, get_or, T}
use Rattle.std.proofs.Common.{sym, ◌∙◌, subst, arith, inl, inr, ext_get_or, T_not}
use Rattle.std.proofs.Math.Option.{some}
use Rattle.base.specs.Lists.{mem, firsts}
use Rattle.base.specs.BranchLaws.{decided}
use Rattle.rules.specs.Book.{Names}
use Rattle.rules.specs.Sheet.{key, Entry, Model, find, domain, known, Limits}
use Rattle.soundness.specs.Tools.{yielded_known}
use Rattle.soundness.specs.Neat.{Neat}
use Rattle.soundness.specs.Depth.{Name, name, NameList, no_names, add_name, Leads, LeadAll, LeastHeight, depth_is_least_height}

-- Each element has the least height for its depth, and an element that is gone has depth 0.
pub record LeastDepths (n : Model) : Type 0 where
  pub long : length n.depths ≡ n.created
  pub least : (e : ℕ) → T (known n e) → LeastHeight n e
  pub gone : (e : ℕ) → T (not (known n e)) → get_or n.depths e 0 ≡ 0

-- Names lead where the keys say.
module _ (m n : Model) (p : m.keys ≡ n.keys) where
  mutual
    leads_same : (t : Name) (e : ℕ) → Leads m t e → Leads n t e
    leads_same (name k s ts) e l = (l.0, lead_all_same ts l.0 l.1, subst (λ ks. find (key k s l.0) ks ≡ some e) p l.2)

    lead_all_same : (ts : NameList) (xs : List ℕ) → LeadAll m ts xs → LeadAll n ts xs
    lead_all_same no_names xs l = l
    lead_all_same (add_name t ts) xs l = (l.0, l.1, l.2, leads_same t l.0 l.3, lead_all_same ts l.1 l.4)

  known_same : (e : ℕ) → known m e ≡ known n e
  unfolding known domain
  known_same e = λ i. mem e (firsts (map (λ (x : Entry). x.1) (p i)))

  no_deeper : LeastDepths m → LeastDepths n → (e : ℕ) → get_or n.depths e 0 ≤ get_or m.depths e 0
  no_deeper g i e = go (decided (known m e))
    where
      go : T (known m e) ⊎ T (not (known m e)) → get_or n.depths e 0 ≤ get_or m.depths e 0
      go (inl k) = let l = g.least e k in let q = l.reaches in let r = (i.least e (subst T (known_same e) k)).least l.lowest (leads_same l.lowest e l.leads) in omega arith
      go (inr k) = let q = i.gone e (subst (λ b. T (not b)) (known_same e) k) in omega arith

pub depths_unique : (m n : Model) → m.keys ≡ n.keys → m.created ≡ n.created → LeastDepths m → LeastDepths n → m.depths ≡ n.depths
depths_unique m n p c g i = ext_get_or 0 m.depths n.depths (g.long ∙ c ∙ sym i.long)
    (λ e _. let q = no_deeper m n p g i e in let r = no_deeper n m (sym p) i g e in omega arith)

-- A neat sheet's depths are least.
pub neat_depths : (lim : Limits) (d : Names) (n : Model) → Neat lim d n → LeastDepths n
neat_depths lim d n g = record {
  long = g.linked.long;
  least = depth_is_least_height lim d n g;
  gone = λ e k. g.linked.gone e (λ y. T_not (known n e) k (yielded_known n e y));
}
