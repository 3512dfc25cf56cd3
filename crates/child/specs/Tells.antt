-- Literals told one after another, and that a child which needed more room than there is stays so.
use Rattle.std.specs.Prelude.{◌≡◌, refl, ℕ, ◌+◌, ◌-◌, ◌≤◌, ◌<◌, Bool, Result, Ok, Err}
use Rattle.std.proofs.Common.{sym, arith}
use Rattle.std.proofs.Math.Path.{subst}
use mathlib.Core.List.{List, [], ◌∷◌, ◌++◌}
use Rattle.std.proofs.Math.ListN.{length}
use Rattle.std.proofs.Math.Dec.{T}
use Rattle.base.specs.Lists.{All}
use Rattle.base.specs.BranchLaws.{if_elim, or_l}
use Rattle.rules.specs.Book.{Literal, fact, same}
use Rattle.rules.specs.Reading.{Bytes}
use Rattle.rules.specs.Sheet.{Limits}
use Rattle.rules.specs.Look.{Meaning}
use Rattle.rules.specs.Bound.{Bound}
use Rattle.rules.specs.Child.{Child, recorded, tell, tells}
use Rattle.soundness.specs.Book.{WfLiteral}
use Rattle.texts.specs.Names.{names_in}
use Rattle.texts.specs.Reads.{Follow}
use Rattle.texts.specs.Text.{LiteralText}
use Rattle.texts.specs.Parts.{literals_grow}
use Rattle.skips.specs.Rest.{Skips}
use Rattle.enter.specs.Terms.{Setting}
use Rattle.telling.specs.Literals.{Held, Goes, IsTold}
use Rattle.telling.specs.declared.TooLarge.{TooLarge}

-- ---- too big once is too big for good

recorded_over : (lim : Limits) (env : List Meaning) (l : Literal) (k : Child) → T k.over → T (recorded lim env l k).over
unfolding recorded
recorded_over lim env (fact r ts) k t = or_l k.over _ t
recorded_over lim env (same s u) k t = or_l k.over _ t

tell_stays : (lim : Limits) (b : Bound) (env : List Meaning) (l : Literal) (k : Child) → T k.over → T (tell lim b env l k).over
unfolding tell
tell_stays lim b env l k t =
    if_elim (λ (c : Child). T c.over) _ _ _ (λ _. if_elim (λ (c : Child). T c.over) _ _ _ (λ _. t) (λ _. recorded_over lim env l k t)) (λ _. t)

pub tells_stay : (lim : Limits) (b : Bound) (env : List Meaning) (ls : List Literal) (k : Child) → T k.over → T (tells lim b env ls k).over
unfolding tells
tells_stay lim b env [] k t = t
tells_stay lim b env (l ∷ ls) k t = tells_stay lim b env ls (tell lim b env l k) (tell_stays lim b env l k t)

-- Some and then others.
pub tells_then : (lim : Limits) (b : Bound) (env : List Meaning) (ls ms : List Literal) (k : Child) → tells lim b env (ls ++ ms) k ≡ tells lim b env ms (tells lim b env ls k)
unfolding tells
tells_then lim b env [] ms k = refl
tells_then lim b env (l ∷ ls) ms k = tells_then lim b env ls ms (tell lim b env l k)

-- ---- literals that stand from a place on

pub record LiteralsAt (book text : Bytes) (at k n : ℕ) (ls : List Literal) (e : ℕ) : Type 0 where
  pub wf : All (WfLiteral (names_in book) n) ls
  pub follow : Follow (LiteralText (names_in book) text) at ls e
  pub counted : length ls ≡ k
  pub fits : e ≤ length text

abbrev pub IsTells : Bytes → Bytes → ℕ → ℕ → Bound → Limits → List ℕ → Bool → List ℕ → Result Bool TooLarge → List ℕ → Type 0
IsTells book text at k b lim env before w r w' = (z : Setting book lim env) (c : Child) → Held book lim env z w c → before ≡ c.cut
    → (ls : List Literal) (e : ℕ) → LiteralsAt book text at k (length z.ms) ls e → Goes book lim env z (tells lim b z.ms ls c) r w'

-- ---- after some of them: what is left, and the child that they are to be told to

pub record Going (book text : Bytes) (p k : ℕ) (b : Bound) (lim : Limits) (env : List ℕ) (z : Setting book lim env) (w : List ℕ) (cut : Bool) (e : ℕ) (whole : Child) : Type 0 where
  pub child : Child
  pub held : Held book lim env z w child
  pub skipped : cut ≡ child.cut
  pub rest : List Literal
  pub there : LiteralsAt book text p k (length z.ms) rest e
  pub is : whole ≡ tells lim b z.ms rest child

module _ (book text : Bytes) (at n : ℕ) (b : Bound) (lim : Limits) (env : List ℕ) (before : Bool) (w₀ : List ℕ) where
  abbrev pub Left : ℕ → ℕ → Bool → List ℕ → Type 0
  Left i p cut w = (z : Setting book lim env) (c : Child) → Held book lim env z w₀ c → before ≡ c.cut
      → (ls : List Literal) (e : ℕ) → LiteralsAt book text at n (length z.ms) ls e → Going book text p (n - i) b lim env z w cut e (tells lim b z.ms ls c)

  pub left_start : Left 0 at before w₀
  left_start z c h q ls e a = record {
    child = c;
    held = h;
    skipped = q;
    rest = ls;
    there = record { wf = a.wf; follow = a.follow; counted = omega (arith, a.counted); fits = a.fits };
    is = refl;
  }

  module _ (i p : ℕ) (cut : Bool) (w : List ℕ) (r : Left i p cut w) where
    pub left_end : n ≤ i → IsTells book text at n b lim env before w₀ (Ok cut) w
    unfolding tells
    left_end h z c s q ls e a = let g = r z c s q ls e a in go g g.rest g.there.counted g.is
      where
        go : (g : Going book text p (n - i) b lim env z w cut e (tells lim b z.ms ls c)) (xs : List Literal) → length xs ≡ n - i → tells lim b z.ms ls c ≡ tells lim b z.ms xs g.child
            → Goes book lim env z (tells lim b z.ms ls c) (Ok cut) w
        go g [] y j = subst (λ (k : Child). Goes book lim env z k (Ok cut) w) (sym j) (g.held, g.skipped)
        go g (x ∷ xs) y j = absurd (omega arith)

    module _ (inside : i < n) (o : Result Bool TooLarge) (w' : List ℕ) (t : IsTold book text p b lim env cut w o w') where
      -- The next literal told.
      step : {C : Type 0} (z : Setting book lim env) (e : ℕ) (whole : Child) (g : Going book text p (n - i) b lim env z w cut e whole)
          → ((x : Literal) (xs : List Literal) (m : ℕ) → LiteralText (names_in book) text p x m → m ≤ length text → LiteralsAt book text m (n - (i + 1)) (length z.ms) xs e
          → whole ≡ tells lim b z.ms xs (tell lim b z.ms x g.child) → Goes book lim env z (tell lim b z.ms x g.child) o w' → C) → C
      unfolding tells Follow
      step {C} z e whole g f = go g.rest g.there g.is
        where
          go : (xs : List Literal) → LiteralsAt book text p (n - i) (length z.ms) xs e → whole ≡ tells lim b z.ms xs g.child → C
          go [] a j = absurd (omega (arith, a.counted))
          go (x ∷ xs) a j =
              let m = a.follow.0 in
              let l = literals_grow (names_in book) text m xs e a.follow.1.1 in
              f x xs m a.follow.1.0 (omega (arith, a.fits)) (record { wf = a.wf.1; follow = a.follow.1.1; counted = omega (arith, a.counted); fits = a.fits }) j
              (t z g.child g.held g.skipped x m (record { wf = a.wf.0; stands = a.follow.1.0; fits = omega (arith, a.fits) }))

    pub left_over : i < n → (f : TooLarge) (w' : List ℕ) → IsTold book text p b lim env cut w (Err f) w' → IsTells book text at n b lim env before w₀ (Err f) w'
    left_over inside f w' t z c s q ls e a =
        step inside (Err f) w' t z e (tells lim b z.ms ls c) (r z c s q ls e a) (λ x xs m _ _ _ j k. subst (λ (y : Child). T y.over) (sym j) (tells_stay lim b z.ms xs _ k))

    module _ (inside : i < n) (cut' : Bool) (w' : List ℕ) (t : IsTold book text p b lim env cut w (Ok cut') w') where
      pub left_next : (p' : ℕ) → Skips (LiteralText (names_in book) text) (length text) p p' → Left (i + 1) p' cut' w'
      left_next p' f z c s q ls e a = step inside (Ok cut') w' t z e (tells lim b z.ms ls c) (r z c s q ls e a)
          (λ x xs m y l d j k. record {
            child = tell lim b z.ms x (r z c s q ls e a).child;
            held = k.0;
            skipped = k.1;
            rest = xs;
            there = subst (λ u. LiteralsAt book text u (n - (i + 1)) (length z.ms) xs e) (sym (f x m y l)) d;
            is = j;
          })
