-- Open's pool is sound for its book, and each unrefused step, run and take makes a sound pool of a sound one, read off the bytes.
use Rattle.std.specs.Prelude.{◌≡◌, refl, ℕ, zero, suc, ◌+◌, ◌*◌, ◌≤◌, not, map, length, drop, leb, ltb, eqb}
use Rattle.std.proofs.Common.{sym, ◌∙◌, subst, arith, leb→le, le→leb, ltb→lt}
use Rattle.std.proofs.Math.Path.{ap}
use Rattle.std.proofs.lemmas.List.{length-map}
use Rattle.std.proofs.Math.Dec.{T}
use Rattle.base.specs.Lists.{equal}
use Rattle.base.specs.BranchLaws.{if_elim, case_l_elim, and_l, and_r, and_i, eq→eqb, neqb→ne}
use Rattle.base.specs.ListLaws.{all_all, equal_eq, equal_self}
use Rattle.rules.specs.Book.{Book, rules}
use Rattle.rules.specs.Reading.{Bytes, read_book, got}
use Rattle.rules.specs.Sheet.{limits}
use Rattle.rules.specs.Child.{Child, child}
use Rattle.rules.specs.Pool.{State, schedulers, strategies, opened}
use Rattle.rules.specs.Step.{step, run, taken}
use Rattle.rules.specs.Image.{most_slots, head_size, sheet_size, slots_in, parts, pool_bytes, pool_in}
use Rattle.rules.specs.Sound.{sound_model, sound_state, sound}
use Rattle.rules.specs.Calls.{right_length, bound_of, Outcome, outcome, open_call, step_call, RunOutcome, run_call, TakeOutcome, take_outcome, take_call}
use Rattle.images.specs.Storable.{small_limits}
use Rattle.images.specs.Pools.{pool_length, slots_in_lem, pool_back}
use Rattle.soundness.specs.Neat.{Neat}
use Rattle.soundness.specs.Model.{sound_neat, neat_sound}
use Rattle.soundness.specs.Book.{read_wf, read_small}
use Rattle.soundness.specs.Child.{kids_neat}
use Rattle.pools.specs.Tidy.{Tidy, tidy, tidy_sound}
use Rattle.pools.specs.Steps.{KidsSound, step_tidy, run_tidy, taken_tidy, opened_tidy, step_size, run_size, taken_size, opened_size}
use Rattle.demands.specs.Shape.{tidy_storable}
use Rattle.demands.specs.Refusals.{checked_elim, soundly_elim}

-- A state with from 1 to 64 slots.
pub record Roomy (s : State) : Type 0 where
  pub some : 1 ≤ length s.slots
  pub few : length s.slots ≤ most_slots

-- The children of a sound sheet of an accepted book are sound.
pub kids_sound : (book : Bytes) (b : Book) (e : ℕ) → read_book book ≡ got b e → KidsSound limits b
kids_sound book b e r bd m vs f t within q =
    all_all (λ (k : Child). T (not k.over) → Neat limits b.names k.model) (λ (k : Child). T (not k.over) → T (sound_model limits b.names k.model))
    (λ k h u. neat_sound limits b.names k.model (h u)) (map (child limits bd m f.choice) f.sequent.head)
    (kids_neat limits bd b.names m (rules b) vs (sound_neat limits b.names m t) (read_wf book b e r) within f q)

-- ---- a tidy state and its image

parts_length : (size n : ℕ) (s : Bytes) → length (parts size n s) ≡ n
unfolding parts
parts_length size zero s = refl
parts_length size (suc n) s = ap suc (parts_length size n _)

pub slots_are : (p : Bytes) → length (pool_in limits p).slots ≡ slots_in limits (length p)
unfolding pool_in
slots_are p = length-map (parts (sheet_size limits) (slots_in limits (length p)) (drop head_size p)) _ ∙ parts_length (sheet_size limits) (slots_in limits (length p)) _

pub fits_roomy : (p : Bytes) → T (right_length (length p)) → Roomy (pool_in limits p)
unfolding right_length
fits_roomy p t =
    let u = and_r (eqb (length p) (head_size + sheet_size limits * slots_in limits (length p))) _ t in
    let e = slots_are p in
    let a = leb→le 1 (slots_in limits (length p)) (and_l (leb 1 (slots_in limits (length p))) _ u) in
    let c = leb→le (slots_in limits (length p)) most_slots (and_r (leb 1 (slots_in limits (length p))) _ u) in
    record { some = omega arith; few = omega arith }

module _ (book : Bytes) (b : Book) (e : ℕ) (r : read_book book ≡ got b e) (s : State) (g : Tidy limits b s) (w : Roomy s) where
  abbrev image : Bytes
  image = pool_bytes limits s

  -- An image read back is its state.
  pub back : pool_in limits image ≡ s
  back = let small = read_small book b e r in pool_back limits small_limits s (tidy_storable limits b small.0 small.1 s g w.few)

  image_length : length image ≡ head_size + sheet_size limits * length s.slots
  image_length = let small = read_small book b e r in pool_length limits s (tidy_storable limits b small.0 small.1 s g w.few)

  image_slots : slots_in limits (length image) ≡ length s.slots
  image_slots = ap (slots_in limits) image_length ∙ slots_in_lem limits (length s.slots)

  pub image_fits : T (right_length (length image))
  unfolding right_length
  image_fits =
      let n = image_slots in
      let few = w.few in
      let some = w.some in
      and_i (eqb (length image) (head_size + sheet_size limits * slots_in limits (length image))) _
      (eq→eqb _ _ (image_length ∙ ap (λ k. head_size + sheet_size limits * k) (sym n)))
      (and_i (leb 1 (slots_in limits (length image))) _ (le→leb 1 (slots_in limits (length image)) (omega arith)) (le→leb (slots_in limits (length image)) most_slots (omega arith)))

  pub image_sound : T (sound limits b image)
  unfolding sound
  image_sound = and_i (equal (pool_bytes limits (pool_in limits image)) image) _
      (subst (λ x. T (equal (pool_bytes limits x) image)) (sym back) (equal_self image))
      (subst (λ x. T (sound_state limits b x)) (sym back) (tidy_sound limits b s g))

-- A sound pool's state, and that its image is the pool.
pub sound_tidy : (b : Book) (p : Bytes) → T (sound limits b p) → Tidy limits b (pool_in limits p)
unfolding sound
sound_tidy b p t = tidy limits b (pool_in limits p) (and_r (equal (pool_bytes limits (pool_in limits p)) p) _ t)

pub sound_image : (b : Book) (p : Bytes) → T (sound limits b p) → pool_bytes limits (pool_in limits p) ≡ p
unfolding sound
sound_image b p t = equal_eq _ _ (and_l (equal (pool_bytes limits (pool_in limits p)) p) _ t)

-- ---- every call

-- The bytes are a sound pool for the book that the book's bytes say.
pub record SoundFor (book pool : Bytes) : Type 0 where
  pub says : Book
  pub end : ℕ
  pub reads : read_book book ≡ got says end
  pub length_right : T (right_length (length pool))
  pub is_sound : T (sound limits says pool)

sound_for : (book : Bytes) (b : Book) (e : ℕ) → read_book book ≡ got b e → (s : State) → Tidy limits b s → Roomy s → SoundFor book (pool_bytes limits s)
sound_for book b e r s g w = record { says = b; end = e; reads = r; length_right = image_fits book b e r s g w; is_sound = image_sound book b e r s g w }

pub same_roomy : (s t : State) → length t.slots ≡ length s.slots → Roomy s → Roomy t
same_roomy s t e w = let a = w.some in let c = w.few in record { some = omega arith; few = omega arith }

pub open_sound : (book pool : Bytes) (scheduler strategy : ℕ) → (open_call book pool scheduler strategy).answer ≡ 0 → SoundFor book (open_call book pool scheduler strategy).pool
unfolding open_call outcome
open_sound book pool sc st =
    checked_elim (λ (o : Outcome). o.answer ≡ 0 → SoundFor book o.pool) book pool _ _ _ (λ n l z. absurd (omega (arith, l.some))) (λ b p z.
    let n = slots_in limits (length pool) in
    let w = fits_roomy pool p.length_right in
    let k = slots_are pool in
    let m = opened_size sc st n in
    let some = w.some in
    let few = w.few in
    sound_for book b p.end p.reads (opened sc st n)
    (opened_tidy limits b sc st n (ltb→lt sc schedulers (and_l (ltb sc schedulers) _ p.known)) (ltb→lt st strategies (and_r (ltb sc schedulers) _ p.known)) (omega arith))
    (record { some = omega arith; few = omega arith }))

module _ (book pool : Bytes) where
  -- An unrefused call found a sound pool, and leaves one; a refused one leaves what it found.
  pub step_sound : (bound number : ℕ) → (step_call book pool bound number).answer ≡ 0 → SoundFor book (step_call book pool bound number).pool
  unfolding step_call outcome
  step_sound bound number =
      soundly_elim (λ (o : Outcome). o.answer ≡ 0 → SoundFor book o.pool) book pool _ _ _ (λ n l z. absurd (omega (arith, l.some))) (λ b p t.
      let s = pool_in limits pool in
      let bd = bound_of bound number in
      if_elim (λ (o : Outcome). o.answer ≡ 0 → SoundFor book o.pool) _ _ _
      (λ _ _. sound_for book b p.end p.reads (step limits bd (rules b) s).state
      (step_tidy limits b (kids_sound book b p.end p.reads) bd s (sound_tidy b pool t))
      (same_roomy s _ (step_size limits bd (rules b) s) (fits_roomy pool p.length_right)))
      (λ u z. absurd (neqb→ne (step limits bd (rules b) s).refusal 0 u z)))

  pub run_sound : (bound number budget : ℕ) → SoundFor book pool → SoundFor book (run_call book pool bound number budget).pool
  unfolding run_call
  run_sound bound number budget old =
      soundly_elim (λ (o : RunOutcome). SoundFor book o.pool) book pool _ _ _ (λ n l. old) (λ b p t.
      let s = pool_in limits pool in
      let bd = bound_of bound number in
      sound_for book b p.end p.reads (run limits budget bd (rules b) s).state
      (run_tidy limits b (kids_sound book b p.end p.reads) budget bd s (sound_tidy b pool t))
      (same_roomy s _ (run_size limits budget bd (rules b) s) (fits_roomy pool p.length_right)))

  pub take_sound : (list : ℕ) (out : Bytes) → (take_call book pool list out).answer ≡ 0 → SoundFor book (take_call book pool list out).pool
  unfolding take_call take_outcome
  take_sound list out =
      soundly_elim (λ (o : TakeOutcome). o.answer ≡ 0 → SoundFor book o.pool) book pool _ _ _ (λ n l z. absurd (omega (arith, l.some))) (λ b p t.
      let s = pool_in limits pool in
      case_l_elim (λ (o : TakeOutcome). o.answer ≡ 0 → SoundFor book o.pool) _ _ _ (λ _ z. absurd (omega arith)) (λ i is e.
      if_elim (λ (o : TakeOutcome). o.answer ≡ 0 → SoundFor book o.pool) _ _ _ (λ _ z. absurd (omega arith)) (λ _ _.
      sound_for book b p.end p.reads (taken list s i is) (taken_tidy limits b s i is (sound_tidy b pool t) list e)
      (same_roomy s _ (taken_size list s i is) (fits_roomy pool p.length_right)))))
