-- A working form that holds a sound sheet of a book, and what the evaluator answers on its regions.
use Rattle.std.specs.Prelude.{◌≡◌, refl, ℕ, ◌≤◌, List, map, length, get_or}
use Rattle.std.specs.Prelude as std
use Rattle.std.proofs.Common.{ap, ◌∙◌, subst}
use Rattle.base.specs.Lists.{firsts}
use Rattle.rules.specs.Book.{Book, rules}
use Rattle.rules.specs.Reading.{Bytes, num, got, read_book}
use Rattle.rules.specs.Sheet.{Sheet, domain, Limits}
use Rattle.rules.specs.Fire.{firing, Strategy, visits}
use Rattle.soundness.specs.Neat.{Neat}
use Rattle.soundness.specs.Book.{SmallNames}
use Rattle.packing.specs.Pack.{arity_of}
use Rattle.packing.specs.Replace.{value_of}
use Rattle.sheets.specs.Form.{view_of, Holds}
use Rattle.texts.specs.Names.{names_in, count_at}
use Rattle.domains.specs.Firsts.{domain_is_lem}
use Rattle.look.specs.Shown.{neat_keys_fit}
use Rattle.firing.specs.Answers.{Sees}
use Rattle.firing.specs.Means.{neat_sees, neat_ready}
use Rattle.showing.specs.Tables.{Orderly, TablesOf}
use Rattle.evaluate.specs.declared.Fired.{Fired}
use Rattle.evaluate.specs.Answers.{Answers, Evaluates}

pub record Basis (text : Bytes) (lim : Limits) (base : List ℕ) : Type 0 where
  pub sheet : Sheet
  pub holds : Holds lim base sheet
  pub small : SmallNames (names_in text)
  pub neat : Neat lim (names_in text) sheet.model
  pub few : lim.elements ≤ 256
  pub low : sheet.place ≤ num text (count_at text)
  pub short : length text ≤ 32768

-- For every book that the text is read as, and every neat sheet that the form holds.
abbrev pub Evaluated : Bytes → Strategy → Limits → List ℕ → std.Option Fired → List ℕ → Type 0
Evaluated text strategy lim base r env = (b : Book) (e : ℕ) → read_book text ≡ got b e → (x : Sheet) → Holds lim base x → SmallNames (names_in text)
    → Neat lim (names_in text) x.model → lim.elements ≤ 256 → Answers text (firing x.model (visits strategy x.place (rules b))) env r

pub place_is : (lim : Limits) (base : List ℕ) (x : Sheet) → Holds lim base x → get_or base 1 0 ≡ x.place
unfolding view_of
place_is lim base x h = h.shows.place

module _ (text : Bytes) (lim : Limits) (base : List ℕ) (x : Sheet) (h : Holds lim base x) (small : SmallNames (names_in text)) (neat : Neat lim (names_in text) x.model)
    (few : lim.elements ≤ 256) where
  pub form_orderly : Orderly lim base
  form_orderly =
      let r = neat_ready (names_in text) small lim x.model neat few (view_of lim base).keys (view_of lim base).facts (domain x.model) h.shows.keys h.shows.facts refl in
      record { formed = h.formed; keys_rise = r.keys_rise; facts_rise = r.facts_rise }

  form_sees : (keys facts dom : List ℕ) → TablesOf lim base keys facts dom → Sees (names_in text) x.model keys facts dom
  form_sees keys facts dom t =
      neat_sees (names_in text) small lim x.model neat few keys facts dom (t.keys_are ∙ h.shows.keys) (t.facts_are ∙ h.shows.facts)
      (t.domain_is ∙ ap (λ l. firsts (map value_of l)) h.shows.keys ∙ domain_is_lem (arity_of (names_in text)) x.model (neat_keys_fit (names_in text) small lim x.model neat few))

pub evaluated : (text : Bytes) (lim : Limits) (base keys facts dom : List ℕ) → TablesOf lim base keys facts dom → (strategy : Strategy) (r : std.Option Fired) (env : List ℕ)
    → Evaluates text strategy (get_or base 1 0) keys facts dom r env → Evaluated text strategy lim base r env
evaluated text lim base keys facts dom t strategy r env v b e q x h small neat few =
    subst (λ p. Answers text (firing x.model (visits strategy p (rules b))) env r) (place_is lim base x h)
    (v x.model b e q (form_sees text lim base x h small neat few keys facts dom t))
