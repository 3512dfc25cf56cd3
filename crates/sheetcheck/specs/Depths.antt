-- Elements by their keys: the least depth that is kept as a number tells the least of the definitions, and whether some key yields
-- the element.
use Rattle.std.specs.Prelude.{◌≡◌, ℕ, ◌≤◌, min, Bool, true, false, not, ◌⊎◌, get_or}
use Rattle.std.proofs.Math.Path.{refl, sym, ap}
use Rattle.std.proofs.Common.{ap₂, ◌∙◌, arith, inl, inr, eq-eqb, ne_eqb}
use Rattle.std.proofs.Math.Option.{Option, none, some}
use mathlib.Core.List.{List, [], ◌∷◌, map}
use lib.Dec.{T, ltb, eqb, eqb→eq}
use Rattle.base.specs.Branch.{if, case_o}
use Rattle.base.specs.Lists.{All, firsts}
use Rattle.base.specs.BranchLaws.{decided, neqb→ne}
use Rattle.base.specs.ListLaws.{In, in_mem, all_in, all_mem, firsts_all, firsts_some}
use Rattle.rules.specs.Sheet.{Entry, Model, domain, known}
use Rattle.rules.specs.Bound.{depth_over}
use Rattle.rules.specs.Sound.{least, depth_right}
use Rattle.sheetparts.specs.Tests.{unknown, lowest, wanted}
use Rattle.sheetparts.specs.Ways.{on, off}

-- Two tests that follow from each other.
pub same_test : (a b : Bool) → (T a → T b) → (T b → T a) → a ≡ b
same_test true true f g = refl
same_test true false f g = absurd (f tt)
same_test false true f g = absurd (g tt)
same_test false false f g = refl

-- The values that keys yield.
abbrev pub yields : List Entry → List ℕ
yields ks = map (λ (x : Entry). x.1) ks

abbrev pub depth_by : List ℕ → Entry → ℕ
depth_by ds x = depth_over (map (λ a. get_or ds a 0) x.0.args)

-- An element is met by no key, or by some.
pub data Met (ds : List ℕ) (ks : List Entry) (e low : ℕ) : Type 0 where
  unmet : least ds ks e ≡ none → low ≡ 512 → (In e (yields ks) → ⊥) → Met ds ks e low
  met : (d : ℕ) → least ds ks e ≡ some d → low ≡ d → d ≤ 256 → In e (yields ks) → Met ds ks e low

none_is : (x : ℕ) → ◌≡◌ {A = Option ℕ} (some (case_o {A = ℕ} none (λ _. x) (min x))) (some x)
unfolding case_o
none_is x = refl

some_is : (x d : ℕ) → ◌≡◌ {A = Option ℕ} (some (case_o (some d) (λ _. x) (min x))) (some (min x d))
unfolding case_o
some_is x d = refl

module _ (ds : List ℕ) (K : ℕ → Entry) (v f : ℕ → ℕ) where
  -- A key has this value and depth.
  abbrev pub Agree : ℕ → Type 0
  Agree i = ((K i).1 ≡ v i) × ((depth_by ds (K i) ≡ f i) × (f i ≤ 256))

  pub met_all : (is : List ℕ) → All Agree is → (e : ℕ) → Met ds (map K is) e (lowest v f is e)
  unfolding least lowest unknown
  met_all [] a e = unmet refl refl (λ i. absurd i.lower)
  met_all (i ∷ is) a e = go (decided (eqb (v i) e)) (met_all is a.1 e)
    where
      here : v i ≡ e → least ds (map K (i ∷ is)) e ≡ some (case_o (least ds (map K is) e) (λ _. depth_by ds (K i)) (min (depth_by ds (K i))))
      here q = on (eqb (K i).1 e) _ _ (eq-eqb (K i).1 e (a.0.0 ∙ q))

      low_here : v i ≡ e → lowest v f (i ∷ is) e ≡ min (f i) (lowest v f is e)
      low_here q = on (eqb (v i) e) _ _ (eq-eqb (v i) e q)

      gone : (v i ≡ e → ⊥) → least ds (map K (i ∷ is)) e ≡ least ds (map K is) e
      gone w = off (eqb (K i).1 e) _ _ (ne_eqb (K i).1 e (λ q. w (sym a.0.0 ∙ q)))

      low_gone : (v i ≡ e → ⊥) → lowest v f (i ∷ is) e ≡ lowest v f is e
      low_gone w = off (eqb (v i) e) _ _ (ne_eqb (v i) e w)

      other : (v i ≡ e → ⊥) → (In e (yields (map K is)) → ⊥) → In e (yields (map K (i ∷ is))) → ⊥
      other w n (inl q) = w (sym a.0.0 ∙ q)
      other w n (inr j) = n j

      go : T (eqb (v i) e) ⊎ T (not (eqb (v i) e)) → Met ds (map K is) e (lowest v f is e) → Met ds (map K (i ∷ is)) e (lowest v f (i ∷ is) e)
      go (inl t) (unmet p q n) =
          let w = eqb→eq (v i) e t in
          met (depth_by ds (K i)) (here w ∙ ap (λ o. some (case_o o (λ _. depth_by ds (K i)) (min (depth_by ds (K i))))) p ∙ none_is (depth_by ds (K i)))
          (omega (arith, low_here w, q, a.0.1)) (omega (arith, a.0.1)) (inl (a.0.0 ∙ w))
      go (inl t) (met d p q l n) =
          let w = eqb→eq (v i) e t in
          met (min (depth_by ds (K i)) d) (here w ∙ ap (λ o. some (case_o o (λ _. depth_by ds (K i)) (min (depth_by ds (K i))))) p ∙ some_is (depth_by ds (K i)) d)
          (low_here w ∙ ap₂ min (sym a.0.1.0) q) (omega arith) (inl (a.0.0 ∙ w))
      go (inr t) (unmet p q n) = let w = neqb→ne (v i) e t in unmet (gone w ∙ p) (low_gone w ∙ q) (other w n)
      go (inr t) (met d p q l n) = let w = neqb→ne (v i) e t in met d (gone w ∙ p) (low_gone w ∙ q) l (inr n)

-- ---- what it tells of a model

module _ (m : Model) (e low : ℕ) (w : Met m.depths m.keys e low) where
  in_known : In e (yields m.keys) → T (known m e)
  unfolding known domain
  in_known i = in_mem e (firsts (yields m.keys)) (firsts_some (λ y. y ≡ e) (yields m.keys) i)

  known_in : T (known m e) → In e (yields m.keys)
  unfolding known domain
  known_in t = all_mem (λ y. In y (yields m.keys)) (firsts (yields m.keys)) (firsts_all (λ y. In y (yields m.keys)) (yields m.keys) (all_in (yields m.keys))) e t

  pub met_known : ltb low unknown ≡ known m e
  unfolding unknown
  met_known = go w
    where
      go : Met m.depths m.keys e low → ltb low 512 ≡ known m e
      go (unmet p q n) = same_test _ _ (λ t. let l = lib.Dec.ltb→lt low 512 t in absurd (omega arith)) (λ t. absurd (n (known_in t)))
      go (met d p q l n) = same_test _ _ (λ t. in_known n) (λ t. lib.Dec.lt→ltb low 512 (omega arith))

  pub met_depth : eqb (get_or m.depths e 0) (wanted low) ≡ depth_right m e
  unfolding wanted unknown depth_right case_o
  met_depth = go w
    where
      go : Met m.depths m.keys e low → eqb (get_or m.depths e 0) (if (eqb low 512) (λ _. 0) (λ _. low)) ≡ case_o (least m.depths m.keys e) (λ _. eqb (get_or m.depths e 0) 0) (eqb (get_or m.depths e 0))
      go (unmet p q n) = ap (eqb (get_or m.depths e 0)) (on (eqb low 512) _ _ (eq-eqb low 512 q)) ∙ sym (ap (λ o. case_o o (λ _. eqb (get_or m.depths e 0) 0) (eqb (get_or m.depths e 0))) p)
      go (met d p q l n) =
          ap (eqb (get_or m.depths e 0)) (off (eqb low 512) _ _ (ne_eqb low 512 (λ z. omega arith)) ∙ q) ∙ sym (ap (λ o. case_o o (λ _. eqb (get_or m.depths e 0) 0) (eqb (get_or m.depths e 0))) p)
