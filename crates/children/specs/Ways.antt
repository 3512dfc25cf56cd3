-- Laws of the ways out of making a child, and of the steps of the walk over the children of a sequent.
use Rattle.std.specs.Prelude.{◌≡◌, refl, ℕ, ◌+◌, ◌-◌, ◌≤◌, ◌<◌, Bool, true, false, ◌||◌, take, Result, Ok, Err, is_err}
use Rattle.std.proofs.Common.{sym, ◌∙◌, subst, length-take-le}
use Rattle.std.proofs.Math.Path.{ap}
use native.Mathlib.Omega.{arith}
use mathlib.Core.List.{List, [], ◌∷◌, map}
use Rattle.std.proofs.Math.ListN.{length}
use Rattle.base.specs.Lists.{any}
use Rattle.rules.specs.Book.{Disjunct, completed_disjunct}
use Rattle.rules.specs.Reading.{Bytes, num}
use Rattle.rules.specs.Sheet.{Model, Limits}
use Rattle.rules.specs.Bound.{Bound}
use Rattle.rules.specs.Child.{Child, child}
use Rattle.soundness.specs.Book.{WfDisjunct}
use Rattle.texts.specs.Reads.{Follow}
use Rattle.texts.specs.Names.{names_in}
use Rattle.texts.specs.Text.{DisjunctText}
use Rattle.texts.specs.Parts.{disjunct_grows, disjuncts_grow}
use Rattle.skips.specs.Rest.{Skips}
use Rattle.firing.specs.Answers.{Elements, OriginsAt, MadeEnv}
use Rattle.firing.specs.Means.{head_means, few_args}
use Rattle.telling.specs.declared.TooLarge.{TooLarge}
use Rattle.child.specs.Whole.{Base, Made, IsChild}
use Rattle.children.specs.Derived.{Parent, DisjunctHere, IsDerived, DisjunctsHere, AnyOver}

-- ---- one child

module _ (book : Bytes) (at v : ℕ) (b : Bound) (lim : Limits) (env base : List ℕ) (elements : Elements env v) where
  -- No disjunct stands where the book has less than its first number.
  pub derive_short : (o : Result Bool TooLarge) (w : List ℕ) → length book - at < 2 → IsDerived book at v b lim env base o w
  derive_short o w h m p d e s = let g = disjunct_grows (names_in book) book at d e s.stands in let f = s.fits in absurd (omega arith)

  -- One that stands here has room in the environment.
  pub derive_wide : (o : Result Bool TooLarge) (w : List ℕ) (k : ℕ) → k ≡ num book at → length env - v < k → IsDerived book at v b lim env base o w
  derive_wide o w k q h m p d e s = let f = s.few in let z = s.stands.count in let l = elements.0 in absurd (omega arith)

  module _ (k : ℕ) (q : k ≡ num book at) (env' : List ℕ) (r : ℕ) (made : MadeEnv book book (at + 2) k env v env' r) where
    wf_here : (d : Disjunct) → WfDisjunct (names_in book) v d → WfDisjunct (names_in book) (length (take v env)) d
    wf_here d = subst (λ j. WfDisjunct (names_in book) j d) (sym (length-take-le v env elements.0))

    origins_here : (m : Model) → Parent book lim base m (take v env) → (d : Disjunct) (e : ℕ) (s : DisjunctHere book at (length env) v d e)
        → OriginsAt book book (at + 2) k v d.origins s.stands.middle
    origins_here m p d e s =
        let g = disjunct_grows (names_in book) book at d e s.stands in
        let f = s.fits in
        record {
          wf = s.wf.0;
          few = few_args (names_in book) p.small (take v env) elements.1 d (wf_here d s.wf).0;
          stand = s.stands.origins;
          counted = sym (q ∙ s.stands.count);
          fits = omega arith;
        }

    -- The form holds the base, and the environment what the disjunct's variables stand for.
    based : (m : Model) → Parent book lim base m (take v env) → (d : Disjunct) (e : ℕ) → DisjunctHere book at (length env) v d e
        → Base book lim (take (v + k) env') base m (take v env) d
    based m p d e s = record {
      small = p.small;
      neat = p.neat;
      carries = p.carries;
      chosen = p.chosen;
      wf = wf_here d s.wf;
      env_is = (head_means (names_in book) p.small (take v env) elements.1 d (wf_here d s.wf).0 (take (v + k) env')
          (made d.origins s.stands.middle (origins_here m p d e s)).0).are;
    }

    pub derive_is : (o : Result Bool TooLarge) (w w' : List ℕ) → w ≡ base → IsChild book book at v b lim (take (v + k) env') w o w'
        → IsDerived book at v b lim env base o w'
    derive_is o w w' x f m p d e s =
        subst (λ (y : List ℕ). IsChild book book at v b lim (take (v + k) env') y o w') x f
        m (take v env) d e (based m p d e s) (length-take-le v env elements.0) s.stands s.fits

-- Only the chosen elements of the environment matter, and its length.
pub derive_env : (book : Bytes) (at v : ℕ) (b : Bound) (lim : Limits) (env env₀ base : List ℕ) (o : Result Bool TooLarge) (w : List ℕ)
    → length env ≡ length env₀ → take v env ≡ take v env₀ → IsDerived book at v b lim env base o w → IsDerived book at v b lim env₀ base o w
derive_env book at v b lim env env₀ base o w l t f m p d e s =
    subst (λ (c : List ℕ). Made lim (child lim b m c (completed_disjunct v d)) o w) t
    (f m (subst (Parent book lim base m) (sym t) p) d e (subst (λ j. DisjunctHere book at j v d e) (sym l) s))

-- ---- the children of the disjuncts from a place on

-- The answer says whether the child is over its limits.
made_over : (lim : Limits) (k : Child) (o : Result Bool TooLarge) (w : List ℕ) → Made lim k o w → k.over ≡ is_err o
made_over lim k (Ok cut) w y = y.within
made_over lim k (Err g) w y = y

-- Behind some disjuncts: those still to come have the answer of all.
pub record OverRest (book : Bytes) (p k room v : ℕ) (b : Bound) (lim : Limits) (c : List ℕ) (m : Model) (e : ℕ) (whole : Bool) : Type 0 where
  pub rest : List Disjunct
  pub there : DisjunctsHere book p k room v rest e
  pub is : whole ≡ any (λ (k : Child). k.over) (map (child lim b m c) (map (completed_disjunct v) rest))

module _ (book : Bytes) (at n v : ℕ) (b : Bound) (lim : Limits) (env base : List ℕ) where
  abbrev overs : Model → List Disjunct → Bool
  overs m ds = any (λ (k : Child). k.over) (map (child lim b m (take v env)) (map (completed_disjunct v) ds))

  abbrev pub OverLeft : ℕ → ℕ → Type 0
  OverLeft i p = (m : Model) → Parent book lim base m (take v env) → (ds : List Disjunct) (e : ℕ) → DisjunctsHere book at n (length env) v ds e
      → OverRest book p (n - i) (length env) v b lim (take v env) m e (overs m ds)

  pub over_start : OverLeft 0 at
  over_start m p ds e s = record {
    rest = ds;
    there = record { wf = s.wf; few = s.few; stand = s.stand; counted = (let z = s.counted in omega arith); fits = s.fits };
    is = refl;
  }

  module _ (i p : ℕ) (left : OverLeft i p) where
    pub over_end : n ≤ i → AnyOver book at n v b lim env base false
    over_end h m a ds e s = let r = left m a ds e s in go r.rest r.there r.is
      where
        go : (rs : List Disjunct) → DisjunctsHere book p (n - i) (length env) v rs e → overs m ds ≡ overs m rs → false ≡ overs m ds
        go [] t q = sym q
        go (d ∷ rs) t q = let z = t.counted in absurd (omega arith)

    module _ (inside : i < n) (o : Result Bool TooLarge) (w : List ℕ) (f : IsDerived book p v b lim env base o w) where
      -- The next child, and the disjuncts behind its own.
      step : {C : Type 0} (m : Model) → Parent book lim base m (take v env) → (ds : List Disjunct) (e : ℕ) → DisjunctsHere book at n (length env) v ds e
          → ((d : Disjunct) (rs : List Disjunct) (x : ℕ) → DisjunctText (names_in book) book p d x → x ≤ length book → DisjunctsHere book x (n - (i + 1)) (length env) v rs e
          → overs m ds ≡ is_err o || overs m rs → C) → C
      unfolding Follow
      step {C} m a ds e s g = let r = left m a ds e s in go r.rest r.there r.is
        where
          go : (rs : List Disjunct) → DisjunctsHere book p (n - i) (length env) v rs e → overs m ds ≡ overs m rs → C
          go [] t q = let z = t.counted in absurd (omega arith)
          go (d ∷ rs) t q =
              let x = t.stand.0 in
              let l = disjuncts_grow (names_in book) book x rs e t.stand.1.1 in
              let y = t.fits in
              let z = t.counted in
              let fits : x ≤ length book = omega arith in
              g d rs x t.stand.1.0 fits (record { wf = t.wf.1; few = t.few.1; stand = t.stand.1.1; counted = omega arith; fits = y })
              (q ∙ ap (λ (c : Bool). c || overs m rs) (made_over lim _ o w (f m a d x (record { wf = t.wf.0; few = t.few.0; stands = t.stand.1.0; fits = fits }))))

    module _ (inside : i < n) (w : List ℕ) where
      pub over_stop : (g : TooLarge) → IsDerived book p v b lim env base (Err g) w → AnyOver book at n v b lim env base true
      over_stop g f m a ds e s = step inside (Err g) w f m a ds e s (λ d rs x _ _ _ q. sym q)

      pub over_next : (cut : Bool) → IsDerived book p v b lim env base (Ok cut) w → (p' : ℕ) → Skips (DisjunctText (names_in book) book) (length book) p p' → OverLeft (i + 1) p'
      over_next cut f p' k m a ds e s = step inside (Ok cut) w f m a ds e s (λ d rs x t l r q. record {
        rest = rs;
        there = subst (λ j. DisjunctsHere book j (n - (i + 1)) (length env) v rs e) (sym (k d x t l)) r;
        is = q;
      })
