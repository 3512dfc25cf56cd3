-- "v = v" is appended where an existential is in no literal. One that is in an observed literal has an element, so a disjunct is
-- observed just if its literals are and each existential has an element.
use Rattle.std.specs.Prelude.{◌≡◌, ℕ, suc, Bool, true, false, ◌&&◌, ◌⊎◌, List, [], ◌∷◌, ◌++◌, length}
use Rattle.std.proofs.Math.Path.{refl, ap}
use Rattle.std.proofs.Common.{sym, ap₂, ◌∙◌, subst, arith, inl, inr, eqb→eq}
use Rattle.std.proofs.Math.Option.{Option, none, some}
use Rattle.std.proofs.Math.Dec.{T, eqb}
use borrow.Author.Tests.{eq-eqb}
use Rattle.base.specs.Branch.{case_o}
use Rattle.base.specs.Lists.{all, any}
use Rattle.base.specs.BranchLaws.{if_elim, or_is}
use Rattle.base.specs.ListLaws.{all_of, any_some, some_all, some_elim}
use Rattle.rules.specs.Book.{Term, var, con, app, Terms, nil, cons, Literal, fact, same, Origin, Disjunct, in_term, in_terms, in_literal, appended, completed_disjunct}
use Rattle.rules.specs.Sheet.{Model}
use Rattle.rules.specs.Look.{Meaning, head_meanings, look, looks, observed}
use Rattle.rules.specs.Fire.{disjunct_observed}
use Rattle.tables.specs.Table.{is_some}
use Rattle.firing.specs.Answers.{have_elements}

some_of : {A : Type 0} (o : Option A) (f : A → Option ℕ) (a : ℕ) → case_o o (λ _. none) f ≡ some a → (x : A) × (o ≡ some x)
unfolding case_o
some_of none f a e = let z : ◌≡◌ {A = ℕ} 0 1 = cc in absurd (omega arith)
some_of (some x) f a e = (x, refl)

both_of : (o : Option ℕ) (p : Option (List ℕ)) (ys : List ℕ) → case_o o (λ _. none) (λ a. case_o p (λ _. none) (λ xs. some (a ∷ xs))) ≡ some ys
    → ((a : ℕ) × (o ≡ some a)) × ((xs : List ℕ) × (p ≡ some xs))
unfolding case_o
both_of none p ys e = let z : ◌≡◌ {A = ℕ} 0 1 = cc in absurd (omega arith)
both_of (some a) none ys e = let z : ◌≡◌ {A = ℕ} 0 1 = cc in absurd (omega arith)
both_of (some a) (some xs) ys e = ((a, refl), (xs, refl))

module _ (m : Model) (ms : List Meaning) (v : ℕ) where
  Has : Type 0
  Has = is_some (look (var v) m ms) ≡ true

  has : (a : ℕ) → look (var v) m ms ≡ some a → Has
  unfolding Has is_some case_o
  has a e = ap is_some e

  mutual
    unfolding look in_term

    term_mentions : (t : Term) (a : ℕ) → look t m ms ≡ some a → T (in_term t v) → Has
    term_mentions (var i) a e q = has a (subst (λ j. look (var j) m ms ≡ some a) (eqb→eq i v q) e)
    term_mentions (con c) a e q = absurd q
    term_mentions (app f ts) a e q = let x = some_of (looks ts m ms) _ a e in terms_mention ts x.0 x.1 q

    terms_mention : (ts : Terms) (ys : List ℕ) → looks ts m ms ≡ some ys → T (in_terms ts v) → Has
    terms_mention nil ys e q = absurd q
    terms_mention (cons t ts) ys e q =
        let x = both_of (look t m ms) (looks ts m ms) ys e in
        go (or_is (in_term t v) (in_terms ts v) q) (λ p. term_mentions t x.0.0 x.0.1 p) (λ p. terms_mention ts x.1.0 x.1.1 p)
      where
        go : T (in_term t v) ⊎ T (in_terms ts v) → (T (in_term t v) → Has) → (T (in_terms ts v) → Has) → Has
        go (inl p) f g = f p
        go (inr p) f g = g p

  test_of : {A : Type 0} (o : Option A) (f : A → Bool) → T (case_o o (λ _. false) f) → (x : A) × ((o ≡ some x) × T (f x))
  unfolding case_o
  test_of none f t = absurd t
  test_of (some x) f t = (x, (refl, t))

  literal_mentions : (l : Literal) → T (observed m ms l) → T (in_literal v l) → Has
  unfolding observed in_literal
  literal_mentions (fact r ts) t q = let x = test_of (looks ts m ms) _ t in terms_mention ts x.0 x.1.0 q
  literal_mentions (same s u) t q =
      let x = test_of (look s m ms) _ t in
      let y = test_of (look u m ms) _ x.1.1 in
      go (or_is (in_term s v) (in_term u v) q) x.0 x.1.0 y.0 y.1.0
    where
      go : T (in_term s v) ⊎ T (in_term u v) → (a : ℕ) → look s m ms ≡ some a → (b : ℕ) → look u m ms ≡ some b → Has
      go (inl p) a e b f = term_mentions s a e p
      go (inr p) a e b f = term_mentions u b f p

  literals_mention : (ls : List Literal) → T (all (observed m ms) ls) → T (any (in_literal v) ls) → Has
  literals_mention ls t q =
      some_elim (λ l. T (in_literal v l) × T (observed m ms l)) Has (λ l p. literal_mentions l p.1 p.0) ls
      (some_all (λ l. T (in_literal v l)) (λ l. T (observed m ms l)) ls (any_some (in_literal v) ls q) (all_of (observed m ms) ls t))

  -- "v = v" says that v has an element.
  self_observed : observed m ms (same (var v) (var v)) ≡ is_some (look (var v) m ms)
  unfolding observed is_some case_o
  self_observed = go (look (var v) m ms)
    where
      go : (o : Option ℕ) → case_o o (λ _. false) (λ a. case_o o (λ _. false) (λ b. eqb a b)) ≡ case_o o (λ _. false) (λ _. true)
      go none = refl
      go (some a) = eq-eqb a a refl

appended_have : (m : Model) (ms : List Meaning) (v : ℕ) (os : List Origin) (ls : List Literal) → T (all (observed m ms) ls)
    → all (observed m ms) (appended v os ls) ≡ have_elements m ms v (length os)
unfolding appended have_elements Has
appended_have m ms v [] ls t = refl
appended_have m ms v (o ∷ os) ls t =
    let r = appended_have m ms (suc v) os ls t in
    if_elim (λ l. all (observed m ms) l ≡ is_some (look (var v) m ms) && have_elements m ms (suc v) (length os)) (any (in_literal v) ls) _ _
    (λ q. r ∙ sym (ap (λ (b : Bool). b && have_elements m ms (suc v) (length os)) (literals_mention m ms v ls t q)))
    (λ _. ap₂ (λ (a b : Bool). a && b) (self_observed m ms v) r)

all_append : {A : Type 0} (p : A → Bool) (xs ys : List A) → all p (xs ++ ys) ≡ all p xs && all p ys
all_append p [] ys = refl
all_append p (x ∷ xs) ys = go (p x) (all_append p xs ys)
  where
    go : (b : Bool) → all p (xs ++ ys) ≡ all p xs && all p ys → b && all p (xs ++ ys) ≡ (b && all p xs) && all p ys
    go true e = e
    go false e = refl

module _ (m : Model) (c : List ℕ) (v : ℕ) (d : Disjunct) where
  parts : disjunct_observed m c (completed_disjunct v d) ≡ all (observed m (head_meanings c d)) d.literals && all (observed m (head_meanings c d)) (appended v d.origins d.literals)
  unfolding disjunct_observed completed_disjunct head_meanings
  parts = all_append (observed m (head_meanings c d)) d.literals (appended v d.origins d.literals)

  pub disjunct_fails : all (observed m (head_meanings c d)) d.literals ≡ false → disjunct_observed m c (completed_disjunct v d) ≡ false
  disjunct_fails e = parts ∙ ap (λ (b : Bool). b && all (observed m (head_meanings c d)) (appended v d.origins d.literals)) e

  pub disjunct_has : all (observed m (head_meanings c d)) d.literals ≡ true → disjunct_observed m c (completed_disjunct v d) ≡ have_elements m (head_meanings c d) v (length d.origins)
  disjunct_has e =
      parts ∙ ap (λ (b : Bool). b && all (observed m (head_meanings c d)) (appended v d.origins d.literals)) e
      ∙ appended_have m (head_meanings c d) v d.origins d.literals (subst T (sym e) tt)
