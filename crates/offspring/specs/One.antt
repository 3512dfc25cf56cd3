-- One child stored: the pool's state with it in the lowest free slot.
use Rattle.std.specs.Prelude.{◌≡◌, ℕ, suc, ◌+◌, ◌*◌, ◌≤◌, ◌<◌, Bool, List, [], ◌∷◌, length, get_or, take, Ok, Err}
use Rattle.std.proofs.Common.{sym, ◌∙◌, subst, mul-suc, mul-le-mul_left, arith}
use Rattle.std.proofs.Math.Path.{ap}
use Rattle.std.proofs.Math.Bool.{false}
use Rattle.std.proofs.Math.Dec.{T}
use Rattle.rules.specs.Book.{Disjunct, completed_disjunct}
use Rattle.rules.specs.Reading.{Bytes}
use Rattle.rules.specs.Sheet.{Model, Limits}
use Rattle.rules.specs.Pool.{State, free}
use Rattle.rules.specs.Image.{pool_bytes}
use Rattle.rules.specs.Bound.{Bound}
use Rattle.rules.specs.Child.{child}
use Rattle.rules.specs.Step.{with_placed}
use Rattle.child.specs.Whole.{InRoom}
use Rattle.telling.specs.declared.TooLarge.{TooLarge}
use Rattle.children.specs.Derived.{Parent, DisjunctHere, IsDerived}
use Rattle.placing.specs.OneByOne.{the_child}
use Rattle.lists.specs.Header.{LowestFree, lowest_first, lowest_gone}
use Rattle.lists.specs.Moves.{Imaged, shows_free}
use Rattle.adopting.specs.Slots.{Fitting, Adopted}

abbrev pub PlacedOne : Bytes → ℕ → ℕ → Bound → Limits → ℕ → List ℕ → List ℕ → ℕ → Bytes → Bytes → Type 0
PlacedOne book at v bd lim place env base slots p p' = (m : Model) → Parent book lim base m (take v env) → (d : Disjunct) (e : ℕ) → DisjunctHere book at (length env) v d e
    → (s : State) → Imaged lim s p → length s.slots ≡ slots → (i : ℕ) (fs : List ℕ) → free s ≡ i ∷ fs
    → let k = child lim bd m (take v env) (completed_disjunct v d) in
    k.over ≡ false → Fitting lim s i place k.model → p' ≡ pool_bytes lim (with_placed s (the_child s place i k ∷ [])).state

-- A slot below so many is within their bytes.
pub slot_inside : (size i n len : ℕ) → i < n → 208 + size * n ≤ len → 208 + size * i + size ≤ len
slot_inside size i n len h l =
    let e : size * suc i ≡ size * i + size = mul-suc size i in
    let q : size * suc i ≤ size * n = mul-le-mul_left size (omega arith) in
    omega arith

-- The lowest free slot is the first of those that are free.
lowest_is : (lim : Limits) (s : State) (p : Bytes) → Imaged lim s p → (r : ℕ) → LowestFree p (length s.slots) r → r ≤ length s.slots
    → (i : ℕ) (fs : List ℕ) → free s ≡ i ∷ fs → (r < length s.slots) × (r ≡ i)
lowest_is lim s p sh r l h i fs e = elim (native.Mathlib.Decide.dec_le (suc r) (length s.slots)) [
  | yes k ↦ (k, ap (λ (x : List ℕ). get_or x 0 0) (sym (lowest_first p (length s.slots) r l k) ∙ shows_free lim s p sh ∙ e))
  | no k ↦ absurd (let z = ap length (sym (shows_free lim s p sh ∙ e) ∙ lowest_gone p (length s.slots) r l (omega arith) h) in omega arith)
]

module _ (book : Bytes) (at v : ℕ) (bd : Bound) (lim : Limits) (place : ℕ) (env base : List ℕ) (slots : ℕ) (p : Bytes) where
  pub one_over : (x : TooLarge) (w : List ℕ) → IsDerived book at v bd lim env base (Err x) w → PlacedOne book at v bd lim place env base slots p p
  one_over x w made m a d e t s sh n i fs f o g = absurd (subst T (sym (made m a d e t) ∙ o) tt)

  module _ (r : ℕ) (h : r ≤ slots) (low : LowestFree p slots r) where
    pub one_full : slots ≤ r → PlacedOne book at v bd lim place env base slots p p
    one_full z m a d e t s sh n i fs f o g =
        let q = lowest_is lim s p sh r (subst (λ x. LowestFree p x r) (sym n) low) (omega arith) i fs f in
        let y = q.0 in
        absurd (omega arith)

    pub one_placed : (cut : Bool) (w : List ℕ) → IsDerived book at v bd lim env base (Ok cut) w → (p' : Bytes) → Adopted lim r cut place w p p'
        → PlacedOne book at v bd lim place env base slots p p'
    unfolding the_child
    one_placed cut w made p' ad m a d e t s sh n i fs f o g =
        let q = lowest_is lim s p sh r (subst (λ x. LowestFree p x r) (sym n) low) (omega arith) i fs f in
        let k = child lim bd m (take v env) (completed_disjunct v d) in
        let y : InRoom lim k cut w = made m a d e t in
        ad s sh k.model k.now y.carries (subst (λ x. Fitting lim s x place k.model) (sym q.1) g)
        ∙ ap (λ (x : ℕ). pool_bytes lim (with_placed s (record { slot = x; cut = cut; sheet = record { number = s.next; place = place; model = k.model } } ∷ [])).state) q.1
        ∙ ap (λ (b : Bool). pool_bytes lim (with_placed s (record { slot = i; cut = b; sheet = record { number = s.next; place = place; model = k.model } } ∷ [])).state) y.skipped

-- Only the chosen elements of the environment matter, and its length.
pub one_env : (book : Bytes) (at v : ℕ) (bd : Bound) (lim : Limits) (place : ℕ) (env env₀ base : List ℕ) (slots : ℕ) (p p' : Bytes)
    → length env ≡ length env₀ → take v env ≡ take v env₀ → PlacedOne book at v bd lim place env base slots p p' → PlacedOne book at v bd lim place env₀ base slots p p'
one_env book at v bd lim place env env₀ base slots p p' l t f m a d e h s sh n i fs q =
    subst (λ (c : List ℕ). (child lim bd m c (completed_disjunct v d)).over ≡ false → Fitting lim s i place (child lim bd m c (completed_disjunct v d)).model
    → p' ≡ pool_bytes lim (with_placed s (the_child s place i (child lim bd m c (completed_disjunct v d)) ∷ [])).state) t
    (f m (subst (Parent book lim base m) (sym t) a) d e (subst (λ j. DisjunctHere book at j v d e) (sym l) h) s sh n i fs q)
