-- First appearances, one number more: it is appended if it is not there yet.
use Rattle.std.specs.Prelude.{◌≡◌, refl, ℕ, ◌+◌, ◌%◌, ◌<◌, Bool, true, false, ◌||◌, List, [], ◌∷◌, ◌++◌, map, length, get_or, take, set, eqb}
use Rattle.std.proofs.Common.{sym, ap, ◌∙◌, append-nil, take-suc-set, eqb-true, eq-eqb, ne_eqb, add-one}
use Rattle.std.proofs.lemmas.Bool.{eqb-false}
use Rattle.base.specs.Branch.{if}
use Rattle.base.specs.Lists.{All, mem, without, firsts}
use Rattle.base.specs.ListLaws.{map_append, map_map, map_agree}
use Rattle.rules.specs.Sheet.{Entry, Model, domain}
use Rattle.packing.specs.Pack.{pack_entry, FitsEntry}
use Rattle.packing.specs.Replace.{value_of, value_of_lem}
use Rattle.domains.specs.Front.{front_more}

-- x behind the list, unless it is there.
abbrev pub added : List ℕ → ℕ → Bool → List ℕ
added xs x true = xs
added xs x false = xs ++ (x ∷ [])

without_last : (y : ℕ) (xs : List ℕ) (x : ℕ) → without y (xs ++ (x ∷ [])) ≡ without y xs ++ without y (x ∷ [])
unfolding without if
without_last y [] x = refl
without_last y (z ∷ xs) x = go (eqb y z) (without_last y xs x)
  where
    go : (b : Bool) → without y (xs ++ (x ∷ [])) ≡ without y xs ++ without y (x ∷ [])
        → if b (λ _. without y (xs ++ (x ∷ []))) (λ _. z ∷ without y (xs ++ (x ∷ []))) ≡ if b (λ _. without y xs) (λ _. z ∷ without y xs) ++ without y (x ∷ [])
    go true e = e
    go false e = ap (λ (l : List ℕ). z ∷ l) e

-- Taking one number out leaves the others.
mem_without : (x y : ℕ) (xs : List ℕ) → (x ≡ y → ⊥) → mem x (without y xs) ≡ mem x xs
unfolding mem without if
mem_without x y [] n = refl
mem_without x y (z ∷ xs) n = go (eqb y z) refl (mem_without x y xs n)
  where
    go : (b : Bool) → eqb y z ≡ b → mem x (without y xs) ≡ mem x xs → mem x (if b (λ _. without y xs) (λ _. z ∷ without y xs)) ≡ eqb x z || mem x xs
    go true e r =
        let p = eqb-true y z e in
        r ∙ sym (ap (λ (b : Bool). b || mem x xs) (ne_eqb x z (λ q. n (q ∙ sym p))))
    go false e r = ap (λ (b : Bool). eqb x z || b) r

pub firsts_last : (xs : List ℕ) (x : ℕ) → firsts (xs ++ (x ∷ [])) ≡ added (firsts xs) x (mem x (firsts xs))
unfolding firsts mem without if
firsts_last [] x = refl
firsts_last (y ∷ ys) x = ap (λ (l : List ℕ). y ∷ without y l) (firsts_last ys x) ∙ go (eqb x y) refl (mem x (firsts ys)) refl
  where
    go : (c : Bool) → eqb x y ≡ c → (b : Bool) → mem x (firsts ys) ≡ b
        → y ∷ without y (added (firsts ys) x b) ≡ added (y ∷ without y (firsts ys)) x (c || mem x (without y (firsts ys)))
    go true e true f = refl
    go true e false f =
        ap (λ (l : List ℕ). y ∷ l) (without_last y (firsts ys) x
        ∙ ap (λ (b : Bool). without y (firsts ys) ++ if b (λ _. []) (λ _. x ∷ [])) (eq-eqb y x (sym (eqb-true x y e))) ∙ append-nil (without y (firsts ys)))
    go false e true f = ap (added (y ∷ without y (firsts ys)) x) (sym (mem_without x y (firsts ys) (eqb-false x y e) ∙ f))
    go false e false f =
        ap (λ (l : List ℕ). y ∷ l) (without_last y (firsts ys) x
        ∙ ap (λ (b : Bool). without y (firsts ys) ++ if b (λ _. []) (λ _. x ∷ [])) (ne_eqb y x (λ q. eqb-false x y e (sym q))))
        ∙ ap (added (y ∷ without y (firsts ys)) x) (sym (mem_without x y (firsts ys) (eqb-false x y e) ∙ f))

-- ---- listing the values of a table

-- The first nd numbers of ds are the first appearances among the values of the first i entries of ks.
abbrev pub Listed : List ℕ → ℕ → List ℕ → ℕ → Type 0
Listed ks i ds nd = take nd ds ≡ firsts (map value_of (take i ks))

pub listed_none : (ks ds : List ℕ) → Listed ks 0 ds 0
unfolding firsts
listed_none ks ds = refl

module _ (ks : List ℕ) (i : ℕ) (ds : List ℕ) (nd : ℕ) (h : i < length ks) (l : Listed ks i ds nd) where
  next : (b : Bool) → b ≡ mem (get_or ks i 0 % 256) (take nd ds) → firsts (map value_of (take (i + 1) ks)) ≡ added (take nd ds) (get_or ks i 0 % 256) b
  next b e =
      ap (λ (xs : List ℕ). firsts (map value_of xs)) (front_more ks i 0 h) ∙ ap firsts (map_append value_of (take i ks) (get_or ks i 0 ∷ []))
      ∙ firsts_last (map value_of (take i ks)) (get_or ks i 0 % 256)
      ∙ ap (λ (xs : List ℕ). added xs (get_or ks i 0 % 256) (mem (get_or ks i 0 % 256) xs)) (sym l) ∙ ap (added (take nd ds) (get_or ks i 0 % 256)) (sym e)

  pub listed_old : true ≡ mem (get_or ks i 0 % 256) (take nd ds) → Listed ks (i + 1) ds nd
  listed_old e = sym (next true e)

  pub listed_new : nd < length ds → false ≡ mem (get_or ks i 0 % 256) (take nd ds) → Listed ks (i + 1) (set ds nd (get_or ks i 0 % 256)) (nd + 1)
  listed_new r e = rw add-one (take-suc-set ds nd (get_or ks i 0 % 256) r ∙ sym (next false e))

-- The values of packed keys, each once: the domain.
pub domain_is_lem : (arity : ℕ → ℕ → ℕ) (m : Model) → All (FitsEntry arity) m.keys → firsts (map value_of (map pack_entry m.keys)) ≡ domain m
unfolding domain
domain_is_lem arity m a =
    ap firsts (map_map value_of pack_entry m.keys ∙ map_agree (FitsEntry arity) (λ (x : Entry). value_of (pack_entry x)) (λ (x : Entry). x.1) (λ x p. value_of_lem x p.value) m.keys a)
