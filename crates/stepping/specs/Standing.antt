-- A pool that stands: the image of a tidy state for the book that the text is read as. What code reads off its bytes.
use Rattle.std.specs.Prelude.{◌≡◌, refl, drop, T}
use Rattle.std.proofs.Math.Path.{sym, ap}
use Rattle.std.proofs.Common.{◌∙◌, subst}
use Prim.Native.Nat.{ℕ, zero, suc, ◌+◌, ◌*◌, ◌≤◌, ◌<◌}
use native.Mathlib.Omega.{arith}
use mathlib.Core.List.{List, [], ◌∷◌, ◌++◌, map, append-nil}
use Rattle.std.proofs.Math.ListN.{length, get_or, take}
use Rattle.std.proofs.Math.Dec.{ltb→lt}
use Rattle.base.specs.Lists.{from}
use Rattle.base.specs.BranchLaws.{and_l, and_r}
use Rattle.rules.specs.Book.{Names, Book, rules}
use Rattle.rules.specs.Reading.{Bytes, num, got, read_book}
use Rattle.rules.specs.Sheet.{Sheet, Limits, limits}
use Rattle.rules.specs.Fire.{Strategy, linear, fair, places}
use Rattle.rules.specs.Pool.{State, strategy_of, sheet_at}
use Rattle.rules.specs.Image.{word, long, part, pool_mark, pool_head, pool_bytes, sheet_bytes, head_size, sheet_size, most_slots, list_in, pool_in}
use Rattle.rules.specs.Sound.{sound_model, sound_sheet}
use Rattle.rules.specs.Step.{Answer, step}
use Rattle.rules.specs.Bound.{Bound}
use Rattle.images.specs.Storable.{small_limits, StorableSheet}
use Rattle.images.specs.Pools.{pool_length, pool_back}
use Rattle.images.specs.Slots.{slot_part_lem}
use Rattle.soundness.specs.Neat.{Neat}
use Rattle.soundness.specs.Model.{sound_neat}
use Rattle.soundness.specs.Book.{SmallNames, read_small}
use Rattle.pools.specs.Tidy.{Listed, places_of, Tidy}
use Rattle.pools.specs.Steps.{first_listed}
use Rattle.demands.specs.Shape.{storable_at}
use Rattle.demands.specs.Kept.{Roomy}
use Rattle.texts.specs.Names.{names_in, count_at}
use Rattle.texts.specs.Heads.{accepted}
use Rattle.texts.specs.Texts.{sequents_got}
use Rattle.packing.specs.Pack.{arity_of}
use Rattle.tables.specs.Table.{Rising}
use Rattle.tables.specs.Carry.{rising_is, facts_rising_is}
use Rattle.look.specs.Shown.{neat_keys_fit, neat_facts_shown}
use Rattle.sheets.specs.Form.{View, view_of, Holds}
use Rattle.sheets.specs.Load.{Loaded, view_in}
use Rattle.slots.specs.Carry.{loaded_holds}
use Rattle.enter.specs.Grow.{Sturdy}
use Rattle.enter.specs.Keep.{Carries}
use Rattle.evalforms.specs.Basis.{Basis}
use Rattle.lists.specs.Moves.{Imaged}
use Rattle.offspring.specs.All.{Ground, tidy_shows}

-- The limits of this version, as code has them.
abbrev pub L : Limits
L = record { elements = 64; keys = 128; facts = 128 }

pub record Standing (text p : Bytes) : Type 0 where
  pub book : Book
  pub end : ℕ
  pub reads : read_book text ≡ got book end
  pub state : State
  pub tidy : Tidy L book state
  pub roomy : Roomy state
  pub image : p ≡ pool_bytes L state

abbrev pub step_of : (text p : Bytes) → Standing text p → Bound → Answer
step_of text p z bd = step L bd (rules z.book) z.state

-- What a step comes to: the definition's refusal or 0, and the image of the definition's state.
abbrev pub Went : (text p : Bytes) → Standing text p → Bound → ℕ → Bytes → Type 0
Went text p z bd r p' = (r ≡ (step_of text p z bd).refusal) × (p' ≡ pool_bytes L (step_of text p z bd).state)

abbrev pub Stepped : Bytes → Bound → Bytes → ℕ → Bytes → Type 0
Stepped text bd p r p' = (z : Standing text p) → Went text p z bd r p'

-- ---- sequents are as many as counted

pub count_is : (text : Bytes) (b : Book) (e : ℕ) → read_book text ≡ got b e → length b.sequents ≡ num text (count_at text)
count_is text b e q = (sequents_got text b (accepted text b e q)).1

module _ (text p : Bytes) (z : Standing text p) where
  abbrev s : State
  s = z.state

  pub ground : Ground L z.book
  unfolding limits
  ground = let r = read_small text z.book z.end z.reads in record { names = r.0; sequents = r.1; limits = small_limits; elements = omega arith }

  pub few : length s.slots ≤ 64
  unfolding most_slots
  few = z.roomy.few

  pub shows : Imaged L s p
  shows = tidy_shows L z.book s p ground z.tidy few z.image

  pub names_are : z.book.names ≡ names_in text
  names_are = (accepted text z.book z.end z.reads).head.are

  pub short : length text ≤ 32768
  short = (accepted text z.book z.end z.reads).small

  pub small : SmallNames (names_in text)
  small = subst SmallNames names_are ground.names

  pub long_is : length p ≡ 208 + 2128 * length s.slots
  unfolding head_size sheet_size
  long_is = ap length z.image ∙ pool_length L s shows.storable

  -- ---- bytes of the header

  pub strategy_is : get_or p 6 0 ≡ s.strategy
  unfolding pool_bytes pool_head pool_mark
  strategy_is = ap (λ (x : Bytes). get_or x 6 0) z.image

  pub counts_are : (get_or p 12 0 ≡ length s.waiting) × ((get_or p 13 0 ≡ length s.complete) × (get_or p 14 0 ≡ length s.bounded))
  unfolding pool_bytes pool_head pool_mark long word
  counts_are = (ap (λ (x : Bytes). get_or x 12 0) z.image, (ap (λ (x : Bytes). get_or x 13 0) z.image, ap (λ (x : Bytes). get_or x 14 0) z.image))

  pub none_waits : get_or p 12 0 ≡ 0 → s.waiting ≡ []
  none_waits e = go s.waiting (sym counts_are.0 ∙ e)
    where
      go : (ws : List ℕ) → length ws ≡ 0 → ws ≡ []
      go [] e = refl
      go (w ∷ ws) e = absurd (omega arith)

  back : pool_in L p ≡ s
  unfolding limits
  back = ap (pool_in L) z.image ∙ pool_back L small_limits s shows.storable

  -- The first that waits.
  pub first_waits : (get_or p 12 0 ≡ 0 → ⊥) → s.waiting ≡ get_or p 16 0 ∷ drop 1 s.waiting
  unfolding pool_in list_in part most_slots
  first_waits n = go s.waiting (ap (λ (x : State). x.waiting) back)
    where
      head_of_lem : (k : ℕ) (xs : List ℕ) (w : ℕ) (ws : List ℕ) → take k (take 64 xs) ≡ w ∷ ws → get_or xs 0 0 ≡ w
      head_of_lem zero xs w ws e = absurd (let l = ap length e in omega arith)
      head_of_lem (suc k) [] w ws e = absurd (let l = ap length e in omega arith)
      head_of_lem (suc k) (x ∷ xs) w ws e = ap (λ (l : List ℕ). get_or l 0 0) e

      go : (ws : List ℕ) → take (get_or p 12 0) (take 64 (drop 16 p)) ≡ ws → ws ≡ get_or p 16 0 ∷ drop 1 ws
      go [] e = absurd (n (counts_are.0 ∙ ap length (sym (ap (λ (x : State). x.waiting) back) ∙ e)))
      go (w ∷ ws) e = ap (λ (x : ℕ). x ∷ ws) (sym (sym (lib.Seq.get_or-drop 16 p 0 0) ∙ head_of_lem (get_or p 12 0) (drop 16 p) w ws e))

  -- ---- the base

  module _ (i : ℕ) (ws : List ℕ) (w : s.waiting ≡ i ∷ ws) where
    abbrev sheet : Sheet
    sheet = sheet_at s i

    listed : Listed s i
    listed = first_listed s i ws w

    pub inside : i < length s.slots
    inside = z.tidy.there i listed

    pub slot_fits : 208 + 2128 * i + 2128 ≤ length p
    slot_fits = let h = inside in let l = long_is in omega arith

    pub model_sound : T (sound_model L z.book.names sheet.model)
    unfolding sound_sheet
    model_sound = and_l (sound_model L z.book.names sheet.model) _ (z.tidy.sheets i listed)

    pub neat : Neat L (names_in text) sheet.model
    neat = subst (λ (d : Names). Neat L d sheet.model) names_are (sound_neat L z.book.names sheet.model model_sound)

    pub place_low : sheet.place ≤ num text (count_at text)
    unfolding sound_sheet places
    place_low =
        let l = ltb→lt sheet.place (places_of z.book s) (and_r (sound_model L z.book.names sheet.model) _ (z.tidy.sheets i listed)) in
        let n = count_is text z.book z.end z.reads in
        go (strategy_of s.strategy) l n
      where
        go : (st : Strategy) → sheet.place < places st (length z.book.sequents) → length z.book.sequents ≡ num text (count_at text) → sheet.place ≤ num text (count_at text)
        go linear l n = omega arith
        go fair l n = omega arith

    -- ---- its working form

    pub record Based (base : List ℕ) : Type 0 where
      pub holds : Holds L base sheet
      pub history : (view_of L base).history ≡ from 0 64

    pub based : (base : List ℕ) → Loaded L (part (208 + 2128 * i) 2128 p) base → Based base
    unfolding head_size sheet_size part sheet_at view_in limits
    based base l =
        let g = ground in
        let st : StorableSheet L sheet = storable_at L z.book g.names g.sequents s z.tidy z.roomy.few i in
        let e : part (208 + 2128 * i) 2128 p ≡ sheet_bytes L sheet ++ [] = ap (part (208 + 2128 * i) 2128) z.image ∙ slot_part_lem L s shows.storable i inside ∙ sym (append-nil (sheet_bytes L sheet)) in
        record {
          holds = loaded_holds L small_limits sheet st [] base (subst (λ x. Loaded L x base) e l);
          history = ap (λ (v : View). v.history) l.view;
        }

    module _ (base : List ℕ) (u : Based base) where
      pub basis : Basis text L base
      basis = record { sheet = sheet; holds = u.holds; small = small; neat = neat; few = omega arith; low = place_low; short = short }

      pub sturdy : Sturdy L base
      sturdy = record {
        formed = u.holds.formed;
        few = omega arith;
        even = omega arith;
        rising = subst Rising (sym u.holds.shows.keys) (rising_is (arity_of (names_in text)) sheet.model.keys (neat_keys_fit (names_in text) small L sheet.model neat (omega arith)) neat.listed.keys_rise);
        held = subst Rising (sym u.holds.shows.facts) (facts_rising_is (arity_of (names_in text)) sheet.model.facts
            (neat_facts_shown (names_in text) small L sheet.model neat (omega arith) _ refl).facts_fit neat.listed.facts_rise);
      }

      pub carries : Carries L base sheet.model (λ e. e)
      carries = record {
        formed = u.holds.formed;
        created = u.holds.shows.created;
        keys = u.holds.shows.keys;
        facts = u.holds.shows.facts;
        depths = u.holds.shows.depths;
        history = u.history ∙ sym (map_same (from 0 64));
      }
        where
          map_same : (xs : List ℕ) → map (λ e. e) xs ≡ xs
          map_same [] = refl
          map_same (x ∷ xs) = ap (λ (l : List ℕ). x ∷ l) (map_same xs)
