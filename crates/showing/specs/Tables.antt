-- What the tables of a working form are.
use Rattle.std.specs.Prelude.{◌≡◌, ℕ, ◌+◌, ◌-◌, ◌<◌, List, map, get_or, take, drop}
use Rattle.std.proofs.Math.Path.{refl, ap, ap₂}
use Rattle.std.proofs.Common.{sym, ◌∙◌, subst, arith}
use Rattle.base.specs.Lists.{All, firsts}
use Rattle.base.specs.ListLaws.{all_map, all_any, firsts_all}
use Rattle.rules.specs.Sheet.{Limits}
use Rattle.rules.specs.Image.{part}
use Rattle.packing.specs.Replace.{value_of}
use Rattle.tables.specs.Table.{Rising}
use Rattle.sheets.specs.Form.{view_of, Formed, facts_at}

-- A form whose keys and facts are in order.
pub record Orderly (lim : Limits) (w : List ℕ) : Type 0 where
  pub formed : Formed lim w
  pub keys_rise : Rising (view_of lim w).keys
  pub facts_rise : Rising (view_of lim w).facts

-- The keys and the facts that the form shows, and the values of its keys, each once.
pub record TablesOf (lim : Limits) (w keys facts domain : List ℕ) : Type 0 where
  pub keys_are : keys ≡ (view_of lim w).keys
  pub facts_are : facts ≡ (view_of lim w).facts
  pub domain_is : domain ≡ firsts (map value_of (view_of lim w).keys)

-- A region that is lent.
pub region : (a n : ℕ) (w : List ℕ) → take (a + n - a) (drop a w) ≡ part a n w
unfolding part
region a n w = let z : a + n - a ≡ n = omega arith in ap (λ k. take k (drop a w)) z

-- The regions of a form are what it shows, and its domain is of elements.
module _ (lim : Limits) (w : List ℕ) where
  pub keys_shown : (n : ℕ) → n ≡ get_or w 3 0 → take (5 + n - 5) (drop 5 w) ≡ (view_of lim w).keys
  unfolding view_of
  keys_shown n e = region 5 n w ∙ ap (λ k. part 5 k w) e

  pub facts_shown : (a n : ℕ) → a ≡ facts_at lim → n ≡ get_or w 4 0 → take (a + n - a) (drop a w) ≡ (view_of lim w).facts
  unfolding view_of
  facts_shown a n q e = region a n w ∙ ap₂ (λ (b k : ℕ). part b k w) q e

pub listed_octets : (keys dom : List ℕ) → dom ≡ firsts (map value_of keys) → All (λ e. e < 256) dom
listed_octets keys dom e =
    subst (All (λ x. x < 256)) (sym e) (firsts_all (λ x. x < 256) (map value_of keys) (all_map (λ (x : ℕ). x ≡ x) (λ x. x < 256) value_of (λ x p. omega arith) keys (all_any (λ (x : ℕ). x ≡ x) (λ x. refl) keys)))
