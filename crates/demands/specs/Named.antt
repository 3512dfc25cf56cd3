-- Of a sound sheet the clause of "fits" that elements are given things says no more than that keys hold: each element has a name
-- (soundness.Depth), and where keys hold, what a name leads to is given what the name is in the arrangement, which is a thing.
-- On other sheets the clause counts: fitting.Things.circle_not.
use Rattle.std.proofs.Common.{sym, subst}
use Rattle.std.specs.Prelude.{ℕ, List, map, T}
use Rattle.base.specs.Lists.{All}
use Rattle.rules.specs.Book.{Names}
use Rattle.rules.specs.Sheet.{key, Model, Limits}
use Rattle.rules.specs.Sound.{sound_model}
use Rattle.rules.specs.Arrangement.{Arrangement, KeyHolds, FactHolds, Fits}
use Rattle.laws.specs.Tables.{find_all}
use Rattle.soundness.specs.Depth.{Name, name, NameList, no_names, add_name, Leads, LeadAll, sound_depth}

module _ (A : Arrangement) (m : Model) (give : ℕ → ℕ) (holds : All (KeyHolds A give) m.keys) where
  mutual
    named_thing : (t : Name) (e : ℕ) → Leads m t e → A.thing (give e)
    named_thing (name k s ts) e l =
        subst A.thing (find_all (KeyHolds A give) (key k s l.0) m.keys e holds l.2) (A.closed k s (map give l.0) (named_things ts l.0 l.1))

    named_things : (ts : NameList) (xs : List ℕ) → LeadAll m ts xs → All A.thing (map give xs)
    named_things no_names xs l = subst (λ (ys : List ℕ). All A.thing (map give ys)) (sym l) tt
    named_things (add_name t ts) xs l =
        subst (λ (ys : List ℕ). All A.thing (map give ys)) (sym l.2) (named_thing t l.0 l.3, named_things ts l.1 l.4)

pub sound_fits : (lim : Limits) (d : Names) (m : Model) → T (sound_model lim d m) → (A : Arrangement) (give : ℕ → ℕ)
    → All (KeyHolds A give) m.keys → All (FactHolds A give) m.facts → Fits A m
sound_fits lim d m t A give ks fs = record {
  give = give;
  things = λ e k. let r = sound_depth lim d m t e k in named_thing A m give ks r.lowest e r.leads;
  keys = ks;
  facts = fs;
}
