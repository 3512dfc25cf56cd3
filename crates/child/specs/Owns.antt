-- The identities of existentials that no literal has, told one after another.
use Rattle.std.specs.Prelude.{◌≡◌, refl, ℕ, suc, ◌+◌, ◌-◌, ◌≤◌, ◌<◌, Bool, true, Result, Ok, Err}
use Rattle.std.proofs.Common.{sym, ap, ◌∙◌, arith}
use Rattle.std.proofs.Math.Path.{subst}
use Rattle.std.proofs.Math.Bool.{false}
use mathlib.Core.List.{List, [], ◌∷◌, ◌++◌}
use Rattle.std.proofs.Math.ListN.{length}
use Rattle.std.proofs.Math.Dec.{T}
use Rattle.base.specs.Branch.{if}
use Rattle.base.specs.Lists.{any}
use Rattle.rules.specs.Book.{Literal, Origin, in_literal, appended}
use Rattle.rules.specs.Reading.{Bytes}
use Rattle.rules.specs.Sheet.{Limits}
use Rattle.rules.specs.Bound.{Bound}
use Rattle.rules.specs.Child.{Child, tells}
use Rattle.texts.specs.Names.{names_in}
use Rattle.mentions.specs.Rows.{MentionsOne}
use Rattle.enter.specs.Terms.{Setting}
use Rattle.telling.specs.Literals.{Held, Goes}
use Rattle.telling.specs.declared.TooLarge.{TooLarge}
use Rattle.child.specs.Own.{own, IsOwn}
use Rattle.child.specs.Tells.{tells_stay, tells_then, LiteralsAt}

-- What one existential adds to the literals.
unfoldable pub own_of : ℕ → List Literal → List Literal
own_of v ls = if (any (in_literal v) ls) (λ _. []) (λ _. own v ∷ [])

appended_first : (v : ℕ) (o : Origin) (os : List Origin) (ls : List Literal) → appended v (o ∷ os) ls ≡ own_of v ls ++ appended (suc v) os ls
unfolding appended own_of if
appended_first v o os ls = go (any (in_literal v) ls)
  where
    go : (b : Bool) → if b (λ _. appended (suc v) os ls) (λ _. own v ∷ appended (suc v) os ls) ≡ if b (λ _. []) (λ _. own v ∷ []) ++ appended (suc v) os ls
    go true = refl
    go false = refl

-- ---- one existential

abbrev pub IsExistential : Bytes → Bytes → ℕ → ℕ → Bound → Limits → List ℕ → ℕ → Bool → List ℕ → Result Bool TooLarge → List ℕ → Type 0
IsExistential book text at n b lim env v before w r w' = (z : Setting book lim env) (c : Child) → Held book lim env z w c → before ≡ c.cut → v < length z.ms
    → (ls : List Literal) (e : ℕ) → LiteralsAt book text at n (length z.ms) ls e → Goes book lim env z (tells lim b z.ms (own_of v ls) c) r w'

module _ {book text : Bytes} {at n : ℕ} (b : Bound) {lim : Limits} {env : List ℕ} {v : ℕ} {before : Bool} {w : List ℕ} {r : Bool}
    (m : MentionsOne (names_in book) text v at n r) where
  pub existential_there : r ≡ true → IsExistential book text at n b lim env v before w (Ok before) w
  unfolding own_of tells if
  existential_there q z c h p l ls e a = rw (sym (m ls e a.follow a.counted a.fits) ∙ q) (h, p)

  pub existential_told : r ≡ false → (o : Result Bool TooLarge) (w' : List ℕ) → IsOwn b lim env v before w o w' → IsExistential book text at n b lim env v before w o w'
  unfolding own_of tells if
  existential_told q o w' g z c h p l ls e a = rw (sym (m ls e a.follow a.counted a.fits) ∙ q) (g book z c h p l)

-- ---- all of them

abbrev pub IsOwns : Bytes → Bytes → ℕ → ℕ → Bound → Limits → List ℕ → ℕ → ℕ → Bool → List ℕ → Result Bool TooLarge → List ℕ → Type 0
IsOwns book text at n b lim env v k before w r w' = (z : Setting book lim env) (c : Child) → Held book lim env z w c → before ≡ c.cut → v + k ≤ length z.ms
    → (ls : List Literal) (e : ℕ) → LiteralsAt book text at n (length z.ms) ls e → (os : List Origin) → length os ≡ k
    → Goes book lim env z (tells lim b z.ms (appended v os ls) c) r w'

pub record Going (book : Bytes) (k : ℕ) (b : Bound) (lim : Limits) (env : List ℕ) (z : Setting book lim env) (w : List ℕ) (cut : Bool) (v : ℕ) (ls : List Literal) (whole : Child) : Type 0 where
  pub child : Child
  pub held : Held book lim env z w child
  pub skipped : cut ≡ child.cut
  pub rest : List Origin
  pub counted : length rest ≡ k
  pub is : whole ≡ tells lim b z.ms (appended v rest ls) child

module _ (book text : Bytes) (at n : ℕ) (b : Bound) (lim : Limits) (env : List ℕ) (v k : ℕ) (before : Bool) (w₀ : List ℕ) where
  abbrev pub Left : ℕ → Bool → List ℕ → Type 0
  Left i cut w = (z : Setting book lim env) (c : Child) → Held book lim env z w₀ c → before ≡ c.cut → v + k ≤ length z.ms
      → (ls : List Literal) (e : ℕ) → LiteralsAt book text at n (length z.ms) ls e → (os : List Origin) → length os ≡ k
      → Going book (k - i) b lim env z w cut (v + i) ls (tells lim b z.ms (appended v os ls) c)

  pub left_start : Left 0 before w₀
  left_start z c h p l ls e a os q =
      let y : v ≡ v + 0 = omega arith in
      record { child = c; held = h; skipped = p; rest = os; counted = omega arith; is = ap (λ u. tells lim b z.ms (appended u os ls) c) y }

  module _ (i : ℕ) (cut : Bool) (w : List ℕ) (r : Left i cut w) where
    pub left_end : k ≤ i → IsOwns book text at n b lim env v k before w₀ (Ok cut) w
    unfolding tells appended
    left_end h z c s p l ls e a os q = let g = r z c s p l ls e a os q in go g g.rest g.counted g.is
      where
        go : (g : Going book (k - i) b lim env z w cut (v + i) ls (tells lim b z.ms (appended v os ls) c)) (xs : List Origin) → length xs ≡ k - i
            → tells lim b z.ms (appended v os ls) c ≡ tells lim b z.ms (appended (v + i) xs ls) g.child → Goes book lim env z (tells lim b z.ms (appended v os ls) c) (Ok cut) w
        go g [] y j = subst (λ (x : Child). Goes book lim env z x (Ok cut) w) (sym j) (g.held, g.skipped)
        go g (x ∷ xs) y j = absurd (omega arith)

    module _ (inside : i < k) (o : Result Bool TooLarge) (w' : List ℕ) (t : IsExistential book text at n b lim env (v + i) cut w o w') where
      -- The next existential told.
      step : {C : Type 0} (z : Setting book lim env) (ls : List Literal) (e : ℕ) → LiteralsAt book text at n (length z.ms) ls e → v + k ≤ length z.ms → (whole : Child)
          (g : Going book (k - i) b lim env z w cut (v + i) ls whole)
          → ((xs : List Origin) → length xs ≡ k - (i + 1) → whole ≡ tells lim b z.ms (appended (v + (i + 1)) xs ls) (tells lim b z.ms (own_of (v + i) ls) g.child)
          → Goes book lim env z (tells lim b z.ms (own_of (v + i) ls) g.child) o w' → C) → C
      step {C} z ls e a l whole g f = go g.rest g.counted g.is
        where
          go : (xs : List Origin) → length xs ≡ k - i → whole ≡ tells lim b z.ms (appended (v + i) xs ls) g.child → C
          go [] y j = absurd (omega arith)
          go (x ∷ xs) y j =
              let q : suc (v + i) ≡ v + (i + 1) = omega arith in
              f xs (omega arith)
              (j ∙ ap (λ (u : List Literal). tells lim b z.ms u g.child) (appended_first (v + i) x xs ls ∙ ap (λ u. own_of (v + i) ls ++ appended u xs ls) q)
              ∙ tells_then lim b z.ms (own_of (v + i) ls) (appended (v + (i + 1)) xs ls) g.child)
              (t z g.child g.held g.skipped (omega arith) ls e a)

    pub left_over : i < k → (f : TooLarge) (w' : List ℕ) → IsExistential book text at n b lim env (v + i) cut w (Err f) w' → IsOwns book text at n b lim env v k before w₀ (Err f) w'
    left_over inside f w' t z c s p l ls e a os q = step inside (Err f) w' t z ls e a l (tells lim b z.ms (appended v os ls) c) (r z c s p l ls e a os q)
        (λ xs y j g. subst (λ (u : Child). T u.over) (sym j) (tells_stay lim b z.ms _ _ g))

    module _ (inside : i < k) (cut' : Bool) (w' : List ℕ) (t : IsExistential book text at n b lim env (v + i) cut w (Ok cut') w') where
      pub left_next : Left (i + 1) cut' w'
      left_next z c s p l ls e a os q = step inside (Ok cut') w' t z ls e a l (tells lim b z.ms (appended v os ls) c) (r z c s p l ls e a os q)
          (λ xs y j g. record {
            child = tells lim b z.ms (own_of (v + i) ls) (r z c s p l ls e a os q).child;
            held = g.0;
            skipped = g.1;
            rest = xs;
            counted = y;
            is = j;
          })
