-- Looking up is right: if h gives the elements things so that all keys hold, a term that has an element denotes that element's
-- thing. So if the facts hold too, an observed literal is true, and an observed body is true at the things of the choice.
use Rattle.std.specs.Prelude.{◌≡◌, ℕ, List, [], ◌∷◌, map, get_or}
use Rattle.std.proofs.Math.Path.{sym, ap, subst}
use Rattle.std.proofs.Common.{ap₂, ◌∙◌, eqb→eq}
use Rattle.std.proofs.Math.Option.{some, some-injective}
use Rattle.std.proofs.Math.ListN.{get_or-map}
use Rattle.std.proofs.Math.Dec.{T}
use Rattle.base.specs.Lists.{All, all}
use Rattle.base.specs.BranchLaws.{eq→eqb}
use Rattle.base.specs.ListLaws.{map_map, all_all, all_of, of_all}
use Rattle.rules.specs.Book.{Term, var, con, app, Terms, nil, cons, Literal, fact, same, Sequent}
use Rattle.rules.specs.Sheet.{Key, key, rel, Model}
use Rattle.rules.specs.Look.{Meaning, elem, witness, nobody, body_meanings, look_meaning, look, looks, observed}
use Rattle.rules.specs.Fire.{body_observed}
use Rattle.rules.specs.Arrangement.{Arrangement, eval, evals, is_true, body_true, KeyHolds, FactHolds}
use Rattle.laws.specs.Tables.{find_all, holds_all}
use Rattle.fitting.specs.Tools.{if_some, case_o_some, case_o_true}

-- The thing that a key names, and the thing that a variable's meaning is, when h gives the elements their things.
abbrev pub named : Arrangement → (ℕ → ℕ) → Key → ℕ
named A h k = A.value k.kind k.symbol (map h k.args)

unfoldable pub thing_of : Arrangement → (ℕ → ℕ) → Meaning → ℕ
thing_of A h (elem e) = h e
thing_of A h (witness k) = named A h k

abbrev pub things_of : Arrangement → (ℕ → ℕ) → List Meaning → List ℕ
things_of A h env = map (thing_of A h) env

module _ (A : Arrangement) (h : ℕ → ℕ) (m : Model) (ks : All (KeyHolds A h) m.keys) (env : List Meaning) where
  meaning_right : (s : Meaning) (e : ℕ) → look_meaning m s ≡ some e → thing_of A h s ≡ h e
  unfolding look_meaning thing_of
  meaning_right (elem x) e p = ap h (some-injective _ _ (if_some _ _ e p))
  meaning_right (witness k) e p = find_all (KeyHolds A h) k m.keys e ks (if_some _ _ e p)

  mutual
    unfolding look eval thing_of

    pub look_right : (t : Term) (e : ℕ) → look t m env ≡ some e → eval t A (things_of A h env) ≡ h e
    look_right (var i) e p = get_or-map (thing_of A h) env i nobody ∙ meaning_right (get_or env i nobody) e p
    look_right (con c) e p = find_all (KeyHolds A h) (key 1 c []) m.keys e ks p
    look_right (app f ts) e p =
        let (xs, q, r) = case_o_some _ _ e p in
        ap (A.value 2 f) (looks_right ts xs q) ∙ find_all (KeyHolds A h) (key 2 f xs) m.keys e ks r

    pub looks_right : (ts : Terms) (xs : List ℕ) → looks ts m env ≡ some xs → evals ts A (things_of A h env) ≡ map h xs
    looks_right nil xs p = ap (map h) (some-injective _ _ p)
    looks_right (cons t ts) xs p =
        let (y, q, r) = case_o_some _ _ xs p in
        let (ys, s, u) = case_o_some _ _ xs r in
        ap₂ (λ (a : ℕ) (b : List ℕ). a ∷ b) (look_right t y q) (looks_right ts ys s) ∙ ap (map h) (some-injective _ _ u)

  pub observed_true : All (FactHolds A h) m.facts → (l : Literal) → T (observed m env l) → T (is_true A (things_of A h env) l)
  unfolding observed is_true
  observed_true fs (fact r ts) t =
      let (xs, p, u) = case_o_true _ _ t in
      subst (λ v. T (A.truth r v)) (sym (looks_right ts xs p)) (holds_all (FactHolds A h) (rel r xs) m.facts fs u)
  observed_true fs (same s r) t =
      let (x, p, u) = case_o_true _ _ t in
      let (y, q, v) = case_o_true _ _ u in
      eq→eqb _ _ (look_right s x p ∙ ap h (eqb→eq x y v) ∙ sym (look_right r y q))

body_things : (A : Arrangement) (h : ℕ → ℕ) (c : List ℕ) → things_of A h (body_meanings c) ≡ map h c
unfolding body_meanings thing_of
body_things A h c = map_map (thing_of A h) elem c

pub body_true_lem : (A : Arrangement) (h : ℕ → ℕ) (m : Model) → All (KeyHolds A h) m.keys → All (FactHolds A h) m.facts
    → (s : Sequent) (c : List ℕ) → T (body_observed m s c) → T (body_true A s (map h c))
unfolding body_observed body_true
body_true_lem A h m ks fs s c t =
    subst (λ v. T (all (is_true A v) s.body)) (body_things A h c)
    (of_all _ s.body (all_all _ _ (observed_true A h m ks (body_meanings c) fs) s.body (all_of _ s.body t)))
