-- All children stored, one after another: the state that the definition has with all of them placed.
use Rattle.std.specs.Prelude.{◌≡◌, false, take, T}
use Rattle.std.proofs.Math.Path.{refl, ap}
use Rattle.std.proofs.Common.{sym, ◌∙◌, subst}
use Prim.Native.Nat.{ℕ, suc, ◌+◌, ◌-◌, ◌≤◌, ◌<◌}
use native.Mathlib.Omega.{arith}
use mathlib.Core.List.{List, [], ◌∷◌, ◌++◌, map, append-nil}
use Rattle.std.proofs.Math.ListN.{length, length-append}
use Rattle.base.specs.Lists.{All}
use Rattle.rules.specs.Book.{Disjunct, Book, completed_disjunct}
use Rattle.rules.specs.Reading.{Bytes}
use Rattle.rules.specs.Sheet.{Model, Limits}
use Rattle.rules.specs.Pool.{State, scheduler_of, strategy_of, numbers, used, free, changed}
use Rattle.rules.specs.Image.{pool_bytes, most_slots}
use Rattle.rules.specs.Bound.{Bound}
use Rattle.rules.specs.Child.{Child, child}
use Rattle.rules.specs.Sound.{sound_model}
use Rattle.rules.specs.Step.{Placed, placed, stored, open_slots, cut_slots, done, with_placed}
use Rattle.images.specs.Storable.{SmallLimits}
use Rattle.soundness.specs.Model.{sound_neat}
use Rattle.soundness.specs.Book.{SmallNames}
use Rattle.pools.specs.Count.{cnt_all}
use Rattle.pools.specs.Slots.{stored_length, Free, free_are}
use Rattle.pools.specs.Tidy.{places_of, Tidy}
use Rattle.pools.specs.Moves.{placed_tidy}
use Rattle.pools.specs.Steps.{new_ones_lem}
use Rattle.demands.specs.Shape.{storable_model, byte_model, tidy_storable, tidy_bytes, places_few}
use Rattle.placing.specs.OneByOne.{the_child, place_one, free_next, free_count}
use Rattle.texts.specs.Reads.{Follow}
use Rattle.texts.specs.Names.{names_in}
use Rattle.texts.specs.Text.{DisjunctText}
use Rattle.texts.specs.Parts.{disjuncts_grow}
use Rattle.skips.specs.Rest.{Skips}
use Rattle.children.specs.Derived.{Parent, DisjunctsHere}
use Rattle.lists.specs.Moves.{Imaged, Room, scheduled_none}
use Rattle.adopting.specs.Slots.{Fitting}
use Rattle.offspring.specs.One.{PlacedOne}

-- What a book and the limits have.
pub record Ground (lim : Limits) (b : Book) : Type 0 where
  pub names : SmallNames b.names
  pub sequents : length b.sequents ≤ 128
  pub limits : SmallLimits lim
  pub elements : lim.elements ≤ 256

-- A tidy state is shown by its image.
pub tidy_shows : (lim : Limits) (b : Book) (s : State) (p : Bytes) → Ground lim b → Tidy lim b s → length s.slots ≤ 64 → p ≡ pool_bytes lim s → Imaged lim s p
unfolding most_slots
tidy_shows lim b s p g t r e = record {
  small = g.limits;
  storable = tidy_storable lim b g.names g.sequents s t r;
  bytes = tidy_bytes lim b g.names g.sequents s t r g.elements;
  is = e;
}

-- A child within the limits, and sound.
abbrev pub Good : Limits → Book → Child → Type 0
Good lim b k = (k.over ≡ false) × T (sound_model lim b.names k.model)

-- A state with room for children, and the bytes that are its image.
pub record Open (lim : Limits) (b : Book) (slots place : ℕ) (ks : List Child) (s : State) (p : Bytes) : Type 0 where
  pub tidy : Tidy lim b s
  pub size : length s.slots ≡ slots
  pub image : p ≡ pool_bytes lim s
  pub there : place < places_of b s
  pub good : All (Good lim b) ks
  pub fits : length ks ≤ length (free s)
  pub left : s.next + length ks ≤ numbers

abbrev pub kids_of : Bound → Limits → ℕ → List ℕ → Model → List Disjunct → List Child
kids_of bd lim v c m ds = map (child lim bd m c) (map (completed_disjunct v) ds)

abbrev pub PlacedAll : Bytes → ℕ → ℕ → ℕ → Bound → Limits → ℕ → List ℕ → List ℕ → ℕ → Bytes → Bytes → Type 0
PlacedAll book at n v bd lim place env base slots p p' = (b : Book) → Ground lim b → slots ≤ 64 → (m : Model) → Parent book lim base m (take v env)
    → (ds : List Disjunct) (e : ℕ) → DisjunctsHere book at n (length env) v ds e → (s : State) → Open lim b slots place (kids_of bd lim v (take v env) m ds) s p
    → p' ≡ pool_bytes lim (with_placed s (placed (free s) place s.next (kids_of bd lim v (take v env) m ds))).state

-- ---- one child: what the state has then

only_one : (s : State) (place i : ℕ) (fs : List ℕ) (k : Child) → free s ≡ i ∷ fs → placed (free s) place s.next (k ∷ []) ≡ the_child s place i k ∷ []
unfolding placed the_child
only_one s place i fs k e = ap (λ l. placed l place s.next (k ∷ [])) e ∙ ap (λ (l : List Placed). the_child s place i k ∷ l) (go fs)
  where
    go : (fs : List ℕ) → placed fs place (suc s.next) [] ≡ []
    go [] = refl
    go (f ∷ fs) = refl

module _ (lim : Limits) (b : Book) (g : Ground lim b) (slots place : ℕ) (few : slots ≤ 64) (k : Child) (ks : List Child) (s : State) (p : Bytes)
    (o : Open lim b slots place (k ∷ ks) s p) (i : ℕ) (fs : List ℕ) (f : free s ≡ i ∷ fs) where
  abbrev after : State
  after = (with_placed s (the_child s place i k ∷ [])).state

  -- The slot is one of the state's, and no list is full.
  first_free : i < length s.slots
  first_free = (subst (All (Free s)) f (free_are s)).0.1

  room : Room s
  unfolding used
  room =
      let c = free_count s o.tidy.once (cnt_all (λ j. j < length s.slots) (used s) o.tidy.there) in
      let l = ap length f in
      let a = length-append s.waiting (s.complete ++ s.bounded) in
      let d = length-append s.complete s.bounded in
      let z = o.size in
      (omega arith, omega arith)

  pub fitting : Fitting lim s i place k.model
  unfolding numbers
  fitting =
      let n = sound_neat lim b.names k.model o.good.0.1 in
      let l = o.left in
      let h = first_free in
      let z = o.size in
      let q = places_few (strategy_of s.strategy) (length b.sequents) g.sequents in
      let t = o.there in
      record {
        there = h;
        octet = omega arith;
        next = omega arith;
        place = omega arith;
        model = storable_model lim b.names g.names k.model n;
        bytes = byte_model lim b.names g.names k.model n g.elements;
        room = room;
      }

  pub shown : Imaged lim s p
  shown = tidy_shows lim b s p g o.tidy (let z = o.size in omega arith) o.image

  after_tidy : Tidy lim b after
  after_tidy = subst (λ l. Tidy lim b (with_placed s l).state) (only_one s place i fs k f)
      (placed_tidy lim b s _ o.tidy (new_ones_lem lim b s place (k ∷ []) o.there (let l = ap length f in omega arith) (let l = o.left in omega arith) (o.good.0.1, tt)))

  pub opened : (p' : Bytes) → p' ≡ pool_bytes lim after → Open lim b slots place ks after p'
  unfolding the_child with_placed done changed
  opened p' e = record {
    tidy = after_tidy;
    size = after_size ∙ o.size;
    image = e;
    there = after_place;
    good = o.good.1;
    fits = (let l = ap length f in let n = ap length (free_next s (the_child s place i k) fs f') in let z = o.fits in omega arith);
    left = after_left;
  }
    where
      f' : free s ≡ (the_child s place i k).slot ∷ fs
      f' = f

      after_size : length after.slots ≡ length s.slots
      after_size = stored_length (the_child s place i k ∷ []) s.slots

      after_place : place < places_of b after
      after_place = o.there

      after_left : after.next + length ks ≤ numbers
      after_left = let l = o.left in omega arith

-- ---- none left

placed_none : (s : State) (place : ℕ) → (with_placed s (placed (free s) place s.next [])).state ≡ s
unfolding placed with_placed done changed stored open_slots cut_slots
placed_none s place = ap (λ l. (with_placed s l).state) (go (free s)) ∙ same
  where
    go : (fs : List ℕ) → placed fs place s.next [] ≡ []
    go [] = refl
    go (f ∷ fs) = refl

    same : (with_placed s []).state ≡ s
    same =
        let n : s.next + 0 ≡ s.next = omega arith in
        let w = sym (scheduled_none (scheduler_of s.scheduler) s.waiting) in
        let b = append-nil s.bounded in
        λ i. record { scheduler = s.scheduler; strategy = s.strategy; next = n i; waiting = w i; complete = s.complete; bounded = b i; slots = s.slots }

-- ---- behind some of them

pub record Rest (book : Bytes) (at k room v : ℕ) (bd : Bound) (lim : Limits) (place : ℕ) (c : List ℕ) (m : Model) (e : ℕ) (b : Book) (slots : ℕ) (p : Bytes) (whole : State) : Type 0 where
  pub rest : List Disjunct
  pub there : DisjunctsHere book at k room v rest e
  pub state : State
  pub ready : Open lim b slots place (kids_of bd lim v c m rest) state p
  pub is : whole ≡ (with_placed state (placed (free state) place state.next (kids_of bd lim v c m rest))).state

module _ (book : Bytes) (at n v : ℕ) (bd : Bound) (lim : Limits) (place : ℕ) (env base : List ℕ) (slots : ℕ) (p₀ : Bytes) where
  abbrev kids : Model → List Disjunct → List Child
  kids = kids_of bd lim v (take v env)

  abbrev target : Model → List Disjunct → State → State
  target m ds s = (with_placed s (placed (free s) place s.next (kids m ds))).state

  abbrev pub PlacedLeft : ℕ → ℕ → Bytes → Type 0
  PlacedLeft i q p = (b : Book) → Ground lim b → slots ≤ 64 → (m : Model) → Parent book lim base m (take v env) → (ds : List Disjunct) (e : ℕ)
      → DisjunctsHere book at n (length env) v ds e → (s : State) → Open lim b slots place (kids m ds) s p₀
      → Rest book q (n - i) (length env) v bd lim place (take v env) m e b slots p (target m ds s)

  pub placed_start : PlacedLeft 0 at p₀
  placed_start b g few m a ds e h s o = record {
    rest = ds;
    there = record { wf = h.wf; few = h.few; stand = h.stand; counted = (let z = h.counted in omega arith); fits = h.fits };
    state = s;
    ready = o;
    is = refl;
  }

  module _ (i q : ℕ) (p : Bytes) (left : PlacedLeft i q p) where
    pub placed_end : n ≤ i → PlacedAll book at n v bd lim place env base slots p₀ p
    placed_end l b g few m a ds e h s o = let r = left b g few m a ds e h s o in go r r.rest r.there r.is
      where
        go : (r : Rest book q (n - i) (length env) v bd lim place (take v env) m e b slots p (target m ds s)) (rs : List Disjunct) → DisjunctsHere book q (n - i) (length env) v rs e
            → target m ds s ≡ target m rs r.state → p ≡ pool_bytes lim (target m ds s)
        go r [] t y = r.ready.image ∙ ap (pool_bytes lim) (sym (y ∙ placed_none r.state place))
        go r (d ∷ rs) t y = let z = t.counted in absurd (omega arith)

    pub placed_next : i < n → (p' : Bytes) → PlacedOne book q v bd lim place env base slots p p' → (q' : ℕ) → Skips (DisjunctText (names_in book) book) (length book) q q' → PlacedLeft (i + 1) q' p'
    unfolding Follow
    placed_next l p' one q' sk b g few m a ds e h s o =
        let r = left b g few m a ds e h s o in go r.rest r.there r.state r.ready r.is
      where
        go : (rs : List Disjunct) → DisjunctsHere book q (n - i) (length env) v rs e → (t : State) → Open lim b slots place (kids m rs) t p → target m ds s ≡ target m rs t
            → Rest book q' (n - (i + 1)) (length env) v bd lim place (take v env) m e b slots p' (target m ds s)
        go [] c t u y = let z = c.counted in absurd (omega arith)
        go (d ∷ rs) c t u y = split (free t) refl
          where
            x : ℕ
            x = c.stand.0

            inside : x ≤ length book
            inside = let z = disjuncts_grow (names_in book) book x rs e c.stand.1.1 in let w = c.fits in omega arith

            k : Child
            k = child lim bd m (take v env) (completed_disjunct v d)

            split : (fs : List ℕ) → free t ≡ fs → Rest book q' (n - (i + 1)) (length env) v bd lim place (take v env) m e b slots p' (target m ds s)
            split [] f = let z = u.fits in let w = ap length f in absurd (omega arith)
            split (j ∷ fs) f =
                let is = one m a d x (record { wf = c.wf.0; few = c.few.0; stands = c.stand.1.0; fits = inside }) t (shown lim b g slots place few k (kids m rs) t p u j fs f) u.size j fs f
                u.good.0.0 (fitting lim b g slots place few k (kids m rs) t p u j fs f) in
                record {
                  rest = rs;
                  there = subst (λ z. DisjunctsHere book z (n - (i + 1)) (length env) v rs e) (sym (sk d x c.stand.1.0 inside))
                      (record { wf = c.wf.1; few = c.few.1; stand = c.stand.1.1; counted = (let z = c.counted in omega arith); fits = c.fits });
                  state = (with_placed t (the_child t place j k ∷ [])).state;
                  ready = opened lim b g slots place few k (kids m rs) t p u j fs f p' is;
                  is = y ∙ place_one t place k (kids m rs) j fs f;
                }
