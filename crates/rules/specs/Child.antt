-- A child: one disjunct told to a copy of the base (01, "How a step goes"; `make_extend`, `record` and `observe` in the Rust).
use Rattle.std.specs.Prelude.{ℕ, suc, Bool, true, false, ◌||◌, List, [], ◌∷◌, ◌++◌, map, length, get_or, ltb}
use Rattle.base.specs.Branch.{if, case_o}
use Rattle.rules.specs.Book.{Term, var, con, app, Terms, nil, cons, Literal, fact, same, Disjunct}
use Rattle.rules.specs.Sheet.{Key, key, Fact, rel, Model, find, insert_key, insert_fact, domain, Limits}
use Rattle.rules.specs.Look.{Meaning, elem, witness, nobody, head_meanings, observed}
use Rattle.rules.specs.Bound.{Bound, depth_over, depth_at, History, terms_of, admitted}
use Rattle.rules.specs.Merge.{merge}

-- "A new element's number is the created count."
unfoldable pub add : Model → Key → Model
add m k = record {
  created = suc m.created;
  keys = insert_key (k, m.created) m.keys;
  facts = m.facts;
  depths = m.depths ++ (depth_over (map (depth_at m) k.args) ∷ []);
}

-- The element of a key, new where the key is not there.
unfoldable pub put : Model → Key → Model × ℕ
put m k = case_o (find k m.keys) (λ _. (add m k, m.created)) (λ e. (m, e))

-- An element merged away "is recorded as its survivor".
unfoldable pub put_meaning : Model → History → Meaning → Model × ℕ
put_meaning m now (elem e) = (m, now e)
put_meaning m now (witness k) = put m (key k.kind k.symbol (map now k.args))

-- "Recorded, arguments first."
unfoldable mutual
  pub enter : Term → Model → History → List Meaning → Model × ℕ
  enter (var i) m now env = put_meaning m now (get_or env i nobody)
  enter (con c) m now env = put m (key 1 c [])
  enter (app f ts) m now env = let r = enters ts m now env in put r.0 (key 2 f r.1)

  pub enters : Terms → Model → History → List Meaning → Model × List ℕ
  enters nil m now env = (m, [])
  enters (cons t ts) m now env = let r = enter t m now env in let q = enters ts r.0 now env in (q.0, r.1 ∷ q.1)

-- A child on its way: the model, what the base's elements are now, whether a literal was skipped, whether it ever needed more
-- room than there is.
pub record Child : Type 0 where
  pub model : Model
  pub now : History
  pub cut : Bool
  pub over : Bool

-- 15: "over 64 created elements, 128 keys or 128 facts".
unfoldable pub too_big : Limits → Model → Bool
too_big lim m = ltb lim.elements m.created || (ltb lim.keys (length m.keys) || ltb lim.facts (length m.facts))

abbrev pub with_fact : Model → Fact → Model
with_fact m f = record { created = m.created; keys = m.keys; facts = insert_fact f m.facts; depths = m.depths }

-- A literal recorded. Its size is tested when its terms and its fact are in, before merging: created never falls, and keys and
-- facts only fall in a merge, so this is "at any moment".
unfoldable pub recorded : Limits → List Meaning → Literal → Child → Child
recorded lim env (fact r ts) k =
    let q = enters ts k.model k.now env in
    let m = with_fact q.0 (rel r q.1) in
    record { model = m; now = k.now; cut = k.cut; over = k.over || too_big lim m }
recorded lim env (same s t) k =
    let q = enter s k.model k.now env in
    let p = enter t q.0 k.now env in
    let r = merge q.1 p.1 p.0 k.now in
    record { model = r.0; now = r.1; cut = k.cut; over = k.over || too_big lim p.0 }

-- "One refusal skips the literal and makes the child bounded; the others still run. An admitted, unobserved literal is recorded."
unfoldable pub tell : Limits → Bound → List Meaning → Literal → Child → Child
tell lim b env l k =
    if (admitted b (length (domain k.model)) (terms_of l) k.model k.now env)
    (λ _. if (observed k.model env l) (λ _. k) (λ _. recorded lim env l k))
    (λ _. record { model = k.model; now = k.now; cut = true; over = k.over })

-- "In a child, literals in order."
unfoldable pub tells : Limits → Bound → List Meaning → List Literal → Child → Child
tells lim b env [] k = k
tells lim b env (l ∷ ls) k = tells lim b env ls (tell lim b env l k)

unfoldable pub child : Limits → Bound → Model → List ℕ → Disjunct → Child
child lim b m c d = tells lim b (head_meanings c d) d.literals (record { model = m; now = λ e. e; cut = false; over = false })
