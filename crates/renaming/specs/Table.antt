-- One element renamed in a table in order, at one place and at all: the table is in order again.
use Rattle.std.specs.Prelude.{◌≡◌, refl, ℕ, ◌+◌, ◌-◌, ◌<◌, List, [], ◌∷◌, ◌++◌, map, length, get_or, take}
use Rattle.std.proofs.Common.{sym, ap, ap₂, ◌∙◌, subst, add-one, take-suc}
use Rattle.base.specs.ListLaws.{map_map}
use Rattle.packing.specs.Replace.{replaced}
use Rattle.renaming.specs.Order.{order_in, Sorted, order_sorts, order_same, order_through}
use Rattle.renaming.specs.Place.{replaced_at, at_lowers, at_keeps, all_places}
use Rattle.renaming.specs.Parting.{staying, parted_order, parted_sorted, Parted}

-- The parts of a table, and the two together.
module _ (p s l gone m : ℕ) (t t₁ c : List ℕ) (sorted : Sorted t) (q : Parted (replaced_at p s l) t gone t₁ c) (e : m ≡ length t - gone) where
  stays : take m t₁ ≡ staying (replaced_at p s l) t
  stays = ap (λ j. take j t₁) e ∙ q.stays

  pub stayed_sorted : Sorted (take m t₁)
  stayed_sorted = subst Sorted (sym stays) (parted_sorted (replaced_at p s l) (at_keeps p s l) t sorted).0

  pub gone_sorted : Sorted (take gone c)
  gone_sorted = subst Sorted (sym q.goes) (parted_sorted (replaced_at p s l) (at_keeps p s l) t sorted).1

  pub parts_made : order_in (take m t₁ ++ take gone c) ≡ order_in (map (replaced_at p s l) t)
  parts_made = ap₂ (λ (u v : List ℕ). order_in (u ++ v)) stays q.goes ∙ parted_order (replaced_at p s l) (at_lowers p s l) t

-- Renamed at one place after another.
unfoldable pub at_all : (s l : ℕ) → List ℕ → ℕ → ℕ
at_all s l [] x = x
at_all s l (p ∷ ps) x = at_all s l ps (replaced_at p s l x)

at_more : (s l : ℕ) (ps : List ℕ) (p x : ℕ) → at_all s l (ps ++ (p ∷ [])) x ≡ replaced_at p s l (at_all s l ps x)
unfolding at_all
at_more s l [] p x = refl
at_more s l (q ∷ ps) p x = at_more s l ps p (replaced_at q s l x)

agree : (f g : ℕ → ℕ) → ((x : ℕ) → f x ≡ g x) → (xs : List ℕ) → map f xs ≡ map g xs
agree f g e [] = refl
agree f g e (x ∷ xs) = ap₂ (λ (y : ℕ) (ys : List ℕ). y ∷ ys) (e x) (agree f g e xs)

map_same : (xs : List ℕ) → map (λ x. x) xs ≡ xs
map_same [] = refl
map_same (x ∷ xs) = ap (λ (ys : List ℕ). x ∷ ys) (map_same xs)

-- After i of the places.
abbrev pub Renaming : (s l : ℕ) (ps : List ℕ) (i : ℕ) (t₀ t : List ℕ) → Type 0
Renaming s l ps i t₀ t = t ≡ order_in (map (at_all s l (take i ps)) t₀)

module _ (s l : ℕ) (ps t₀ : List ℕ) (sorted : Sorted t₀) where
  pub renaming_start : Renaming s l ps 0 t₀ t₀
  unfolding at_all
  renaming_start = sym (order_same t₀ sorted) ∙ ap order_in (sym (map_same t₀))

  pub renaming_sorted : (i : ℕ) (t : List ℕ) → Renaming s l ps i t₀ t → Sorted t
  renaming_sorted i t r = subst Sorted (sym r) (order_sorts (map (at_all s l (take i ps)) t₀))

  pub renaming_next : (i p : ℕ) (t t' : List ℕ) → i < length ps → p ≡ get_or ps i 0 → Renaming s l ps i t₀ t → t' ≡ order_in (map (replaced_at p s l) t) → Renaming s l ps (i + 1) t₀ t'
  renaming_next i p t t' h e r q =
      let f = at_all s l (take i ps) in
      let n : take i ps ++ (p ∷ []) ≡ take (i + 1) ps = ap (λ v. take i ps ++ (v ∷ [])) e ∙ sym (take-suc ps i 0 h) ∙ ap (λ j. take j ps) (sym (add-one i)) in
      q ∙ ap (λ (x : List ℕ). order_in (map (replaced_at p s l) x)) r ∙ order_through (replaced_at p s l) (map f t₀) ∙ ap order_in (map_map (replaced_at p s l) f t₀)
      ∙ ap order_in (agree (λ x. replaced_at p s l (f x)) (at_all s l (take (i + 1) ps)) (λ x. sym (at_more s l (take i ps) p x) ∙ ap (λ (w : List ℕ). at_all s l w x) n) t₀)

-- The weights of the places of the four arguments and of the value.
abbrev pub weights : List ℕ
weights = 4294967296 ∷ 16777216 ∷ 65536 ∷ 256 ∷ 1 ∷ []

-- These places are all.
pub renaming_end : (s l : ℕ) (t₀ t : List ℕ) → s < l → s < 256 → Renaming s l weights 5 t₀ t → t ≡ order_in (map (replaced s l) t₀)
unfolding at_all
renaming_end s l t₀ t h o r =
    r ∙ ap order_in (agree (at_all s l weights) (replaced s l) (λ x. all_places s l x h o) t₀)
