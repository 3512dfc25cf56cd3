-- What the variables of a body and of a disjunct stand for at chosen elements, as numbers; and tables that show a neat model.
use Rattle.std.specs.Prelude.{◌≡◌, refl, ℕ, ◌+◌, ◌≤◌, T, length}
use Rattle.std.proofs.Math.Path.{sym, ap₂}
use Rattle.std.proofs.Common.{◌∙◌, subst, arith}
use mathlib.Core.List.{List, [], ◌∷◌, ◌++◌, map}
use Rattle.std.proofs.lemmas.List.{length-map}
use Rattle.base.specs.Lists.{All, entries}
use Rattle.base.specs.ListLaws.{all_map, all_append, all_all, map_map, map_append, firsts_all}
use Rattle.rules.specs.Book.{Origin, Disjunct, Names}
use Rattle.rules.specs.Sheet.{key, Entry, Model, domain, Limits}
use Rattle.rules.specs.Look.{elem, origin_meaning, body_meanings, head_meanings}
use Rattle.rules.specs.Sound.{declared_as}
use Rattle.laws.specs.Tables.{KeysRise, FactsRise}
use Rattle.soundness.specs.Neat.{Neat}
use Rattle.soundness.specs.Book.{SmallNames, WfOrigin}
use Rattle.images.specs.Storable.{Octet}
use Rattle.packing.specs.Pack.{Fits, FitsEntry, arity_of, pack_entry, pack_fact}
use Rattle.tables.specs.Table.{Rising}
use Rattle.tables.specs.Carry.{rising_is, facts_rising_is}
use Rattle.look.specs.Shown.{Shown, pack_meaning, Plain, Means, declared_fits, neat_shown, neat_facts_shown}
use Rattle.firing.specs.Answers.{pack_origin, Sees, TablesReady}
use Rattle.firing.specs.Origins.{entries_are}

map_same : (f : ℕ → ℕ) → ((x : ℕ) → f x ≡ x) → (xs : List ℕ) → map f xs ≡ xs
map_same f e [] = refl
map_same f e (x ∷ xs) = ap₂ (λ (a : ℕ) (l : List ℕ). a ∷ l) (e x) (map_same f e xs)

elements_are : (c : List ℕ) → map pack_meaning (map elem c) ≡ c
unfolding pack_meaning
elements_are c = map_map pack_meaning elem c ∙ map_same (λ (e : ℕ). pack_meaning (elem e)) (λ e. refl) c

elements_plain : (d : Names) (c : List ℕ) → All Octet c → All (Plain d) (map elem c)
unfolding Plain
elements_plain d c a = all_map Octet (Plain d) elem (λ e p. p) c a

pub body_means : (d : Names) (c : List ℕ) → All Octet c → Means d c (body_meanings c)
unfolding body_meanings
body_means d c a = record { are = sym (elements_are c); plain = elements_plain d c a }

pub body_length : (c : List ℕ) → length (body_meanings c) ≡ length c
unfolding body_meanings
body_length c = length-map c elem

module _ (d : Names) (small : SmallNames d) (c : List ℕ) (octets : All Octet c) where
  pub origin_fits : (o : Origin) → WfOrigin d (length c) o → Fits (arity_of d) (key (3 + o.kind) o.witness (entries c o.args)) × (length o.args ≤ 4)
  origin_fits o w =
      let e = entries_are Octet c o.args w.2 octets in
      let f = declared_fits d small (key (3 + o.kind) o.witness (entries c o.args)) (subst (λ n. T (declared_as d (3 + o.kind) o.witness n)) (sym e.0) w.1) e.1 in
      (f, let q = f.few in let r = e.0 in omega arith)

  module _ (j : Disjunct) (wf : All (WfOrigin d (length c)) j.origins) where
    pub head_means : (env : List ℕ) → env ≡ c ++ map (pack_origin c) j.origins → Means d env (head_meanings c j)
    unfolding head_meanings origin_meaning pack_meaning Plain
    head_means env e = record {
      are = e ∙ sym (map_append pack_meaning (map elem c) (map (origin_meaning c) j.origins)
          ∙ ap₂ (λ (a b : List ℕ). a ++ b) (elements_are c) (map_map pack_meaning (origin_meaning c) j.origins));
      plain = all_append (Plain d) (map elem c) (map (origin_meaning c) j.origins) (elements_plain d c octets)
          (all_map (WfOrigin d (length c)) (Plain d) (origin_meaning c) (λ o w. ((origin_fits o w).0, omega arith)) j.origins wf);
    }

    pub few_args : All (λ (o : Origin). length o.args ≤ 4) j.origins
    few_args = all_all (WfOrigin d (length c)) (λ (o : Origin). length o.args ≤ 4) (λ o w. (origin_fits o w).1) j.origins wf

-- ---- the tables of a model that is shown

pub domain_octets : {d : Names} {m : Model} {keys dom : List ℕ} → Shown d m keys dom → All Octet dom
unfolding domain
domain_octets {d} {m} s =
    subst (All Octet) (sym s.domain_is) (firsts_all Octet (map (λ (x : Entry). x.1) m.keys) (all_map (FitsEntry (arity_of d)) Octet (λ (x : Entry). x.1) (λ x p. p.value) m.keys s.keys_fit))

shown_ready : (d : Names) (m : Model) (keys facts dom : List ℕ) → KeysRise m.keys → FactsRise m.facts → Sees d m keys facts dom → TablesReady keys facts dom
shown_ready d m keys facts dom k f s = record {
  keys_rise = subst Rising (sym s.shown.keys_are) (rising_is (arity_of d) m.keys s.shown.keys_fit k);
  facts_rise = subst Rising (sym s.held.facts_are) (facts_rising_is (arity_of d) m.facts s.held.facts_fit f);
  octets = domain_octets s.shown;
}

-- The same of a neat model, whose tables are its packed keys, its packed facts and its domain.
module _ (d : Names) (small : SmallNames d) (lim : Limits) (m : Model) (neat : Neat lim d m) (few : lim.elements ≤ 256) where
  pub neat_sees : (keys facts dom : List ℕ) → keys ≡ map pack_entry m.keys → facts ≡ map pack_fact m.facts → dom ≡ domain m → Sees d m keys facts dom
  neat_sees keys facts dom p q r = record { shown = neat_shown d small lim m neat few keys dom p r; held = neat_facts_shown d small lim m neat few facts q }

  pub neat_ready : (keys facts dom : List ℕ) → keys ≡ map pack_entry m.keys → facts ≡ map pack_fact m.facts → dom ≡ domain m → TablesReady keys facts dom
  neat_ready keys facts dom p q r = shown_ready d m keys facts dom neat.listed.keys_rise neat.listed.facts_rise (neat_sees keys facts dom p q r)
