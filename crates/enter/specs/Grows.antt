-- What never falls while terms are entered: created elements, and keys. So a model that is too big for its limits stays so.
use Rattle.std.specs.Prelude.{ℕ, ◌≤◌, List, [], map, length, get_or, T, ltb}
use Rattle.std.proofs.Common.{arith, inl, inr, lt→ltb}
use Rattle.base.specs.BranchLaws.{case_o_elim, or_l, or_r}
use Rattle.rules.specs.Book.{Term, var, con, app, Terms, nil, cons}
use Rattle.rules.specs.Sheet.{Key, key, Fact, Model, find, Limits}
use Rattle.rules.specs.Look.{Meaning, elem, witness, nobody}
use Rattle.rules.specs.Bound.{History}
use Rattle.rules.specs.Child.{add, put, put_meaning, enter, enters, too_big, with_fact}
use Rattle.soundness.specs.Tools.{insert_key_length}
use Rattle.enter.specs.Keep.{Crowded}

pub record Grows (m n : Model) : Type 0 where
  pub created : m.created ≤ n.created
  pub keys : length m.keys ≤ length n.keys

pub grows_self : (m : Model) → Grows m m
grows_self m = record { created = omega arith; keys = omega arith }

pub grows_then : {l m n : Model} → Grows l m → Grows m n → Grows l n
grows_then p q = record { created = omega (arith, p.created, q.created); keys = omega (arith, p.keys, q.keys) }

pub put_grows : (m : Model) (k : Key) → Grows m (put m k).0
unfolding put add
put_grows m k = case_o_elim (λ (r : Model × ℕ). Grows m r.0) (find k m.keys) _ _
    (λ e. let l = (insert_key_length (k, m.created) m.keys).0 e in record { created = omega arith; keys = omega arith }) (λ _ _. grows_self m)

meaning_grows : (m : Model) (now : History) (μ : Meaning) → Grows m (put_meaning m now μ).0
unfolding put_meaning
meaning_grows m now (elem e) = grows_self m
meaning_grows m now (witness k) = put_grows m (key k.kind k.symbol (map now k.args))

mutual
  unfolding enter

  pub enter_grows : (t : Term) (m : Model) (now : History) (env : List Meaning) → Grows m (enter t m now env).0
  enter_grows (var i) m now env = meaning_grows m now (get_or env i nobody)
  enter_grows (con c) m now env = put_grows m (key 1 c [])
  enter_grows (app f ts) m now env =
      grows_then (enters_grow ts m now env) (put_grows (enters ts m now env).0 (key 2 f (enters ts m now env).1))

  pub enters_grow : (ts : Terms) (m : Model) (now : History) (env : List Meaning) → Grows m (enters ts m now env).0
  enters_grow nil m now env = grows_self m
  enters_grow (cons t ts) m now env = grows_then (enter_grows t m now env) (enters_grow ts (enter t m now env).0 now env)

pub crowded_grows : (lim : Limits) (m n : Model) → Grows m n → Crowded lim m → Crowded lim n
crowded_grows lim m n g (inl p) = inl (omega (arith, g.created))
crowded_grows lim m n g (inr p) = inr (omega (arith, g.keys))

-- A crowded model is too big, and with a fact more it still is.
pub crowded_big : (lim : Limits) (m : Model) → Crowded lim m → T (too_big lim m)
unfolding too_big
crowded_big lim m (inl p) = or_l (ltb lim.elements m.created) _ (lt→ltb lim.elements m.created p)
crowded_big lim m (inr p) =
    or_r (ltb lim.elements m.created) _ (or_l (ltb lim.keys (length m.keys)) _ (lt→ltb lim.keys (length m.keys) p))

pub crowded_fact : (lim : Limits) (m : Model) (f : Fact) → Crowded lim m → Crowded lim (with_fact m f)
crowded_fact lim m f (inl p) = inl p
crowded_fact lim m f (inr p) = inr p
