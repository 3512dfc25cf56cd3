-- The base gone and its children stored: the definition's state with all of them placed.
use Rattle.std.specs.Prelude.{◌≡◌, ℕ, ◌+◌, ◌-◌, ◌*◌, ◌/◌, ◌≤◌, ◌<◌, List, ◌∷◌, length, take}
use Rattle.std.proofs.Common.{ap, ◌∙◌, arith}
use Rattle.base.specs.Lists.{All}
use Rattle.rules.specs.Book.{Disjunct, Book}
use Rattle.rules.specs.Reading.{Bytes}
use Rattle.rules.specs.Sheet.{Model}
use Rattle.rules.specs.Pool.{State, numbers, free, changed}
use Rattle.rules.specs.Image.{pool_bytes, head_size, sheet_size}
use Rattle.rules.specs.Bound.{Bound}
use Rattle.rules.specs.Step.{placed, with_placed, without_base}
use Rattle.images.specs.Pools.{pool_length}
use Rattle.pools.specs.Tidy.{places_of, Tidy}
use Rattle.pools.specs.Moves.{kept_tidy}
use Rattle.pools.specs.Steps.{first_listed, base_kept, base_size}
use Rattle.children.specs.Derived.{Parent, DisjunctsHere}
use Rattle.adopting.specs.Slots.{Freed}
use Rattle.offspring.specs.All.{Ground, tidy_shows, Good, kids_of, PlacedAll}
use Rattle.stepping.specs.Standing.{L}

-- A tidy state whose first waiting sheet is in slot i, with room for the children of some disjuncts.
pub record Parting (text : Bytes) (i at n v : ℕ) (bd : Bound) (place : ℕ) (env base : List ℕ) (p : Bytes) : Type 0 where
  pub book : Book
  pub ground : Ground L book
  pub state : State
  pub tidy : Tidy L book state
  pub few : length state.slots ≤ 64
  pub image : p ≡ pool_bytes L state
  pub rest : List ℕ
  pub waiting : state.waiting ≡ i ∷ rest
  pub model : Model
  pub parent : Parent text L base model (take v env)
  pub head : List Disjunct
  pub end : ℕ
  pub here : DisjunctsHere text at n (length env) v head end
  pub there : place < places_of book state
  pub good : All (Good L book) (kids_of bd L v (take v env) model head)
  pub fits : length (kids_of bd L v (take v env) model head) ≤ length (free (without_base state i rest))
  pub left : state.next + length (kids_of bd L v (take v env) model head) ≤ numbers

abbrev pub Settled : Bytes → ℕ → ℕ → ℕ → ℕ → Bound → ℕ → List ℕ → List ℕ → Bytes → Bytes → Type 0
Settled text i at n v bd place env base p p' = (g : Parting text i at n v bd place env base p)
    → p' ≡ pool_bytes L (with_placed (without_base g.state i g.rest) (placed (free (without_base g.state i g.rest)) place g.state.next (kids_of bd L v (take v env) g.model g.head))).state

pub settled : (text : Bytes) (i at n v : ℕ) (bd : Bound) (place : ℕ) (env base : List ℕ) (p p₁ p₂ : Bytes) → Freed L i p p₁
    → PlacedAll text at n v bd L place env base ((length p - 208) / 2128) p₁ p₂ → Settled text i at n v bd place env base p p₂
unfolding head_size sheet_size without_base changed
settled text i at n v bd place env base p p₁ p₂ f a g =
    let s = g.state in
    let ws = g.rest in
    let sh = tidy_shows L g.book s p g.ground g.tidy g.few g.image in
    let l : length p ≡ 208 + 2128 * length s.slots = ap length g.image ∙ pool_length L s sh.storable in
    let few = g.few in
    a g.book g.ground (omega arith) g.model g.parent g.head g.end g.here (without_base s i ws) (record {
      tidy = kept_tidy L g.book s (without_base s i ws) (base_kept s i ws g.waiting L g.book g.tidy) g.tidy;
      size = base_size s i ws ∙ (omega arith);
      image = f s sh ws g.waiting (g.tidy.there i (first_listed s i ws g.waiting));
      there = same_place;
      good = g.good;
      fits = g.fits;
      left = same_left;
    })
  where
    same_place : place < places_of g.book (without_base g.state i g.rest)
    same_place = g.there

    same_left : (without_base g.state i g.rest).next + length (kids_of bd L v (take v env) g.model g.head) ≤ numbers
    same_left = g.left
