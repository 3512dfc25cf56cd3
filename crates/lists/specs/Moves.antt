-- What a step does to the lists: the state whose image the pool is afterwards.
use Rattle.std.specs.Prelude.{◌≡◌, Bool, true, false, not, List, [], ◌∷◌, ◌++◌, length, get_or}
use Rattle.std.proofs.Math.Path.{refl, ap, ap₂}
use Rattle.std.proofs.Common.{sym, ◌∙◌, subst, arith, append-nil}
use Prim.Native.Nat.{ℕ, ◌+◌, ◌*◌, ◌/◌, ◌%◌, ◌≤◌, ◌<◌}
use borrow.Rule.Slice.PartMut.{put_mid}
use Rattle.base.specs.Lists.{All, mem, keep, from}
use Rattle.rules.specs.Reading.{Bytes, num}
use Rattle.rules.specs.Sheet.{Limits}
use Rattle.rules.specs.Pool.{State, Scheduler, fifo, lifo, scheduler_of, used, free, changed}
use Rattle.rules.specs.Image.{word, long, pool_mark, pool_head, pool_in, pool_bytes, most_slots}
use Rattle.rules.specs.Step.{pushed, schedule}
use Rattle.images.specs.Storable.{Octet, SmallLimits, StorableState, ByteState}
use Rattle.images.specs.Pools.{pool_back}
use Rattle.poolparts.specs.Tests.{next_of}
use Rattle.heads.specs.Lists.{Few, relisted, Popped, PushedBack, PushedFront, first_slot}
use Rattle.lists.specs.Header.{unnamed, used_in, next_in_lem}

-- The bytes are the image of a state that an image can hold.
pub record Imaged (lim : Limits) (s : State) (p : Bytes) : Type 0 where
  pub small : SmallLimits lim
  pub storable : StorableState lim s
  pub bytes : ByteState s
  pub is : p ≡ pool_bytes lim s

abbrev pub Finished : Bytes → Bytes → Type 0
Finished p p' = (lim : Limits) (s : State) → Imaged lim s p → (i : ℕ) (ws : List ℕ) → s.waiting ≡ i ∷ ws → length s.complete < 64
    → p' ≡ pool_bytes lim (changed s s.next ws (s.complete ++ (i ∷ [])) s.bounded s.slots)

abbrev pub Forgotten : Bytes → Bytes → Type 0
Forgotten p p' = (lim : Limits) (s : State) → Imaged lim s p → (i : ℕ) (ws : List ℕ) → s.waiting ≡ i ∷ ws
    → p' ≡ pool_bytes lim (changed s s.next ws s.complete s.bounded s.slots)

abbrev pub Room : State → Type 0
Room s = (length s.waiting < 64) × (length s.bounded < 64)

-- A child's slot among the open ones, or among the bounded ones.
abbrev pub opens : ℕ → Bool → List ℕ
opens i true = []
opens i false = i ∷ []

abbrev pub cuts : ℕ → Bool → List ℕ
cuts i true = i ∷ []
cuts i false = []

abbrev Grown : ℕ → Bool → ℕ → State → State
Grown i cut next s = changed s next (schedule (scheduler_of s.scheduler) (opens i cut) s.waiting) s.complete (s.bounded ++ cuts i cut) s.slots

abbrev pub Enlisted : ℕ → Bool → Bytes → Bytes → Type 0
Enlisted i cut p p' = (lim : Limits) (s : State) → Imaged lim s p → Octet i → Room s → p' ≡ pool_bytes lim (Grown i cut s.next s)

abbrev pub Joined : ℕ → Bool → Bytes → Bytes → Type 0
Joined i cut p p' = (lim : Limits) (s : State) → Imaged lim s p → Octet i → Room s → p' ≡ pool_bytes lim (Grown i cut (s.next + 1) s)

abbrev pub CountedOn : Bytes → Bytes → Type 0
CountedOn p p' = (lim : Limits) (s : State) → s.next < 65536 * 65536 → p ≡ pool_bytes lim s
    → p' ≡ pool_bytes lim (changed s (s.next + 1) s.waiting s.complete s.bounded s.slots)

-- ---- what an image says

module _ (lim : Limits) (s : State) (p : Bytes) (sh : Imaged lim s p) where
  back : pool_in lim p ≡ s
  back = ap (pool_in lim) sh.is ∙ pool_back lim sh.small s sh.storable

  few : Few s
  unfolding most_slots
  few = record { waiting = sh.storable.waiting; complete = sh.storable.complete; bounded = sh.storable.bounded }

  scheduler_is : get_or p 5 0 ≡ s.scheduler
  unfolding pool_in
  scheduler_is = ap (λ (x : State). x.scheduler) back

-- The next number, read off an image.
pub shows_next : (lim : Limits) (s : State) (p : Bytes) → Imaged lim s p → next_of p ≡ s.next
shows_next lim s p sh = next_in_lem lim p ∙ ap (λ (x : State). x.next) (back lim s p sh)

-- The slots that no list names are the free ones.
pub shows_free : (lim : Limits) (s : State) (p : Bytes) → Imaged lim s p → keep (unnamed p) (from 0 (length s.slots)) ≡ free s
unfolding free
shows_free lim s p sh = ap (λ (us : List ℕ). keep (λ i. not (mem i us)) (from 0 (length s.slots))) (used_in lim p ∙ ap used (back lim s p sh))

-- ---- the next number

-- Four bytes of the front.
pub counts_on : (p : Bytes) (n : ℕ) → n ≡ next_of p → (p' : Bytes) → p' ≡ put_mid 8 4 p (long (n + 1)) → CountedOn p p'
unfolding pool_bytes pool_head pool_mark long word changed next_of num
counts_on p n e p' o lim s h q =
    let m : n ≡ s.next = e ∙ ap next_of q ∙ omega arith in
    o ∙ ap₂ (λ (k : ℕ) (l : Bytes). put_mid 8 4 l (long (k + 1))) m q

-- The four low bytes of a number, the lowest first.
pub long_bytes : (n : ℕ) → (n % 256 ∷ n / 256 % 256 ∷ n / 65536 % 256 ∷ n / 16777216 % 256 ∷ []) ≡ long n
unfolding long word
long_bytes n =
    let a : n % 256 ≡ n % 65536 % 256 = omega arith in
    let b : n / 256 % 256 ≡ n % 65536 / 256 % 256 = omega arith in
    let d : n / 16777216 % 256 ≡ n / 65536 / 256 % 256 = omega arith in
    λ i. a i ∷ b i ∷ n / 65536 % 256 ∷ d i ∷ []

-- ---- the ways out

pub finished : (p p₁ p₂ : Bytes) (i : ℕ) → i ≡ get_or p 16 0 → Popped 0 p p₁ → PushedBack 1 i p₁ p₂ → Finished p p₂
unfolding changed
finished p p₁ p₂ i is pop push lim s sh i' ws e l =
    let f = few lim s p sh in
    let o : i ≡ i' = is ∙ first_slot lim s p 0 (omega arith) f sh.is i' ws e in
    let w : length ws ≤ 64 = omega (arith, f.waiting, ap length e) in
    let b : Octet i' = (subst (All Octet) e sh.bytes.waiting).0 in
    push lim (relisted 0 s ws) (record { waiting = w; complete = f.complete; bounded = f.bounded }) (pop lim s f sh.is i' ws e) (omega arith) l
    ∙ ap (λ x. pool_bytes lim (changed s s.next ws (s.complete ++ (x ∷ [])) s.bounded s.slots)) o

pub forgotten : (p p₁ : Bytes) → Popped 0 p p₁ → Forgotten p p₁
forgotten p p₁ pop lim s sh i ws e = pop lim s (few lim s p sh) sh.is i ws e

-- Open or bounded, at the back or at the front.
pub scheduled_none : (sc : Scheduler) (ws : List ℕ) → ws ≡ schedule sc [] ws
unfolding schedule pushed
scheduled_none fifo ws = sym (append-nil ws)
scheduled_none lifo ws = refl

module _ (i : ℕ) (p p' : Bytes) where
  pub enlist_cut : PushedBack 2 i p p' → Enlisted i true p p'
  enlist_cut push lim s sh o r =
      push lim s (few lim s p sh) sh.is o r.1
      ∙ ap (λ ws. pool_bytes lim (changed s s.next ws s.complete (s.bounded ++ (i ∷ [])) s.slots)) (scheduled_none (scheduler_of s.scheduler) s.waiting)

  pub enlist_fifo : fifo ≡ scheduler_of (get_or p 5 0) → PushedBack 0 i p p' → Enlisted i false p p'
  unfolding schedule
  enlist_fifo z push lim s sh o r =
      push lim s (few lim s p sh) sh.is o r.0
      ∙ ap₂ (λ ws bs. pool_bytes lim (changed s s.next ws s.complete bs s.slots)) (ap (λ sc. schedule sc (i ∷ []) s.waiting) (z ∙ ap scheduler_of (scheduler_is lim s p sh))) (sym (append-nil s.bounded))

  pub enlist_lifo : lifo ≡ scheduler_of (get_or p 5 0) → PushedFront 0 i p p' → Enlisted i false p p'
  unfolding schedule pushed
  enlist_lifo z push lim s sh o r =
      push lim s (few lim s p sh) sh.is o r.0
      ∙ ap₂ (λ ws bs. pool_bytes lim (changed s s.next ws s.complete bs s.slots)) (ap (λ sc. schedule sc (i ∷ []) s.waiting) (z ∙ ap scheduler_of (scheduler_is lim s p sh))) (sym (append-nil s.bounded))

pub joined : (i : ℕ) (cut : Bool) (p p₁ p₂ : Bytes) → Enlisted i cut p p₁ → CountedOn p₁ p₂ → Joined i cut p p₂
unfolding changed
joined i cut p p₁ p₂ en count lim s sh o r = count lim (Grown i cut s.next s) sh.storable.next (en lim s sh o r)
