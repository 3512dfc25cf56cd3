-- A pool whose first waiting sheet is given up, and one that a child was stored in: the states whose images they are.
use Rattle.std.specs.Prelude.{◌≡◌, refl, ℕ, zero, suc, ◌+◌, ◌*◌, ◌≤◌, ◌<◌, Bool, true, false, List, [], ◌∷◌, ◌++◌, length, get_or, set, replicate}
use Rattle.std.proofs.Common.{sym, ap₂, ◌∙◌, subst, arith, length-set}
use Rattle.std.proofs.Math.Path.{ap}
use Rattle.base.specs.Branch.{if}
use Rattle.base.specs.ListLaws.{all_set}
use Rattle.rules.specs.Reading.{Bytes}
use Rattle.rules.specs.Sheet.{Model, Sheet, blank, Limits}
use Rattle.rules.specs.Pool.{State, scheduler_of, changed, freed}
use Rattle.rules.specs.Image.{part, head_size, sheet_size, sheet_bytes, pool_bytes}
use Rattle.rules.specs.Bound.{History}
use Rattle.rules.specs.Step.{Placed, stored, open_slots, cut_slots, schedule, done, with_placed, without_base}
use Rattle.images.specs.Storable.{Octet, StorableModel, StorableSheet, ByteModel, ByteSheet, blank_storable, blank_bytes}
use Rattle.images.specs.Sheets.{blank_zero}
use Rattle.octets.specs.Patch.{patched}
use Rattle.sheets.specs.Form.{view_of, Formed, Holds, keys_at, facts_at, depths_at}
use Rattle.slots.specs.Store.{view_bytes}
use Rattle.slots.specs.Carry.{stored_image}
use Rattle.enter.specs.Keep.{Carries}
use Rattle.heads.specs.Writes.{slot_written}
use Rattle.poolparts.specs.Tests.{next_of}
use Rattle.lists.specs.Moves.{Imaged, Room, Forgotten, Joined, opens, cuts, shows_next}

abbrev pub Freed : Limits → ℕ → Bytes → Bytes → Type 0
Freed lim i p p' = (s : State) → Imaged lim s p → (ws : List ℕ) → s.waiting ≡ i ∷ ws → i < length s.slots → p' ≡ pool_bytes lim (without_base s i ws)

-- The child as it is placed: with the next number, and the place that all get.
abbrev pub placed_as : State → ℕ → Bool → ℕ → Model → Placed
placed_as s i cut place m = record { slot = i; cut = cut; sheet = record { number = s.next; place = place; model = m } }

-- What an image has room for.
pub record Fitting (lim : Limits) (s : State) (i q : ℕ) (m : Model) : Type 0 where
  pub there : i < length s.slots
  pub octet : Octet i
  pub next : s.next < 65536
  pub place : q < 65536
  pub model : StorableModel lim m
  pub bytes : ByteModel m
  pub room : Room s

abbrev pub Adopted : Limits → ℕ → Bool → ℕ → List ℕ → Bytes → Bytes → Type 0
Adopted lim i cut place w p p' = (s : State) → Imaged lim s p → (m : Model) (now : History) → Carries lim w m now → Fitting lim s i place m
    → p' ≡ pool_bytes lim (with_placed s (placed_as s i cut place m ∷ [])).state

-- ---- another sheet in a slot

abbrev slotted : State → ℕ → Sheet → State
slotted s i x = changed s s.next s.waiting s.complete s.bounded (set s.slots i x)

module _ (lim : Limits) (s : State) (p : Bytes) (sh : Imaged lim s p) (i : ℕ) (there : i < length s.slots) (x : Sheet) (st : StorableSheet lim x) (bs : ByteSheet x) where
  slotted_shows : (p₁ : Bytes) → p₁ ≡ patched (head_size + sheet_size lim * i) (sheet_bytes lim x) p → Imaged lim (slotted s i x) p₁
  unfolding changed
  slotted_shows p₁ e = record {
    small = sh.small;
    storable = record {
      next = sh.storable.next;
      waiting = sh.storable.waiting;
      complete = sh.storable.complete;
      bounded = sh.storable.bounded;
      slots = all_set (StorableSheet lim) s.slots i x sh.storable.slots st;
    };
    bytes = record {
      scheduler = sh.bytes.scheduler;
      strategy = sh.bytes.strategy;
      waiting = sh.bytes.waiting;
      complete = sh.bytes.complete;
      bounded = sh.bytes.bounded;
      slots = all_set ByteSheet s.slots i x sh.bytes.slots bs;
    };
    is = e ∙ ap (patched (head_size + sheet_size lim * i) (sheet_bytes lim x)) sh.is ∙ slot_written lim s i x sh.storable there st;
  }

-- ---- the base's slot

abbrev size_of : Limits → ℕ
size_of lim = 16 + 8 * lim.keys + 8 * lim.facts + lim.elements

pub base_freed : (lim : Limits) (i : ℕ) (p p₁ p₂ : Bytes) → p₁ ≡ patched (208 + size_of lim * i) (replicate (size_of lim) 0) p → Forgotten p₁ p₂ → Freed lim i p p₂
unfolding head_size sheet_size without_base freed changed
base_freed lim i p p₁ p₂ e f s sh ws w there =
    let g = slotted_shows lim s p sh i there blank (blank_storable lim) blank_bytes p₁ (e ∙ ap (λ l. patched (208 + size_of lim * i) l p) (sym (blank_zero lim))) in
    f lim (slotted s i blank) g i ws w

-- ---- a child's slot

-- Number and place written into a form.
abbrev numbered : List ℕ → ℕ → ℕ → List ℕ
numbered w n q = set (set w 0 n) 1 q

same_part : (w : List ℕ) (n q a k : ℕ) → 2 ≤ a → part a k (numbered w n q) ≡ part a k w
unfolding part
same_part [] n q a k h = refl
same_part (x ∷ w) n q zero k h = absurd (omega arith)
same_part (x ∷ w) n q (suc zero) k h = absurd (omega arith)
same_part (x ∷ []) n q (suc (suc a)) k h = refl
same_part (x ∷ y ∷ w) n q (suc (suc a)) k h = refl

same_count : (w : List ℕ) (n q i : ℕ) → 2 ≤ i → get_or (numbered w n q) i 0 ≡ get_or w i 0
same_count [] n q i h = refl
same_count (a ∷ []) n q (suc i) h = refl
same_count (a ∷ []) n q zero h = absurd (omega arith)
same_count (a ∷ b ∷ w) n q zero h = absurd (omega arith)
same_count (a ∷ b ∷ w) n q (suc zero) h = absurd (omega arith)
same_count (a ∷ b ∷ w) n q (suc (suc i)) h = refl

pub numbered_formed : (lim : Limits) (w : List ℕ) (n q : ℕ) → Formed lim w → Formed lim (numbered w n q)
numbered_formed lim w n q f =
    let a = f.created in
    let b = f.keys in
    let c = f.facts in
    record {
      size = length-set (set w 0 n) 1 q ∙ length-set w 0 n ∙ f.size;
      created = omega (arith, same_count w n q 2 (omega arith));
      keys = omega (arith, same_count w n q 3 (omega arith));
      facts = omega (arith, same_count w n q 4 (omega arith));
    }

first_two : (w : List ℕ) (n q : ℕ) → 2 ≤ length w → (get_or (numbered w n q) 0 0 ≡ n) × (get_or (numbered w n q) 1 0 ≡ q)
first_two [] n q h = absurd (omega arith)
first_two (x ∷ []) n q h = absurd (omega arith)
first_two (x ∷ y ∷ w) n q h = (refl, refl)

numbered_holds : (lim : Limits) (w : List ℕ) (n q : ℕ) (m : Model) (now : History) → Carries lim w m now → Holds lim (numbered w n q) (record { number = n; place = q; model = m })
unfolding view_of
numbered_holds lim w n q m now c =
    let f = first_two w n q (omega (arith, c.formed.size)) in
    record {
      formed = numbered_formed lim w n q c.formed;
      shows = record {
        number = f.0;
        place = f.1;
        created = same_count w n q 2 (omega arith) ∙ c.created;
        keys = ap (λ k. part keys_at k (numbered w n q)) (same_count w n q 3 (omega arith)) ∙ same_part w n q keys_at (get_or w 3 0) (omega arith) ∙ c.keys;
        facts = ap (λ k. part (facts_at lim) k (numbered w n q)) (same_count w n q 4 (omega arith)) ∙ same_part w n q (facts_at lim) (get_or w 4 0) (omega arith) ∙ c.facts;
        depths = ap (λ k. part (depths_at lim) k (numbered w n q)) (same_count w n q 2 (omega arith)) ∙ same_part w n q (depths_at lim) (get_or w 2 0) (omega arith) ∙ c.depths;
      };
    }

-- Its slot among the open or the bounded ones.
opened_one : (x : Placed) → opens x.slot x.cut ≡ open_slots (x ∷ [])
unfolding open_slots if
opened_one x = go x.cut
  where
    go : (b : Bool) → opens x.slot b ≡ if b (λ _. []) (λ _. x.slot ∷ [])
    go true = refl
    go false = refl

cut_one : (x : Placed) → cuts x.slot x.cut ≡ cut_slots (x ∷ [])
unfolding cut_slots if
cut_one x = go x.cut
  where
    go : (b : Bool) → cuts x.slot b ≡ if b (λ _. x.slot ∷ []) (λ _. [])
    go true = refl
    go false = refl

pub child_adopted : (lim : Limits) (i : ℕ) (cut : Bool) (place n : ℕ) (w p p₁ p₂ : List ℕ) → n ≡ next_of p
    → p₁ ≡ patched (208 + size_of lim * i) (view_bytes lim (view_of lim (numbered w n place))) p → Joined i cut p₁ p₂ → Adopted lim i cut place w p p₂
unfolding head_size sheet_size with_placed done changed stored
child_adopted lim i cut place n w p p₁ p₂ e q j s sh m now c f =
    let x : Sheet = record { number = s.next; place = place; model = m } in
    let st : StorableSheet lim x = record { number = f.next; place = f.place; model = f.model } in
    let h : Holds lim (numbered w n place) x = subst (λ k. Holds lim (numbered w n place) (record { number = k; place = place; model = m })) (e ∙ shows_next lim s p sh) (numbered_holds lim w n place m now c) in
    let g = slotted_shows lim s p sh i f.there x st f.bytes p₁ (q ∙ ap (λ l. patched (208 + size_of lim * i) l p) (stored_image lim x st f.bytes (numbered w n place) h)) in
    j lim (slotted s i x) g f.octet f.room
    ∙ ap₂ (λ os cs. pool_bytes lim (changed s (s.next + 1) (schedule (scheduler_of s.scheduler) os s.waiting) s.complete (s.bounded ++ cs) (set s.slots i x)))
    (opened_one (placed_as s i cut place m)) (cut_one (placed_as s i cut place m))
