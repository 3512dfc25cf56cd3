-- Storing children one after another is storing them all: each goes into the lowest slot that is free then. And counting the free
-- slots: those that no list names.
use Rattle.std.specs.Prelude.{◌≡◌, refl, ℕ, zero, suc, ◌+◌, ◌≤◌, ◌<◌, Bool, true, false, not, ◌||◌, List, [], ◌∷◌, ◌++◌, length, set, get_or, drop, T, eqb}
use Rattle.std.proofs.Common.{sym, ap, ap₂, ◌∙◌, subst, arith, append_assoc, length-set, eqb→eq}
use Rattle.base.specs.Branch.{if}
use Rattle.base.specs.Lists.{All, mem, keep, from}
use Rattle.rules.specs.Pool.{State, Scheduler, fifo, lifo, scheduler_of, used, free, changed}
use Rattle.rules.specs.Child.{Child}
use Rattle.rules.specs.Step.{Placed, placed, stored, open_slots, cut_slots, pushed, schedule, done, with_placed}
use Rattle.pools.specs.Count.{hit, cnt, hit_elim, hit_self, hit_other, cnt_append, cnt_schedule, cnt_mem, not_mem_cnt, cnt_not_mem, cnt_all, from_once, from_has}
use Rattle.pools.specs.Slots.{open_and_cut}

-- ---- one after another

open_cons : (x : Placed) (xs : List Placed) → open_slots (x ∷ xs) ≡ open_slots (x ∷ []) ++ open_slots xs
unfolding open_slots if
open_cons x xs = go x.cut
  where
    go : (b : Bool) → if b (λ _. open_slots xs) (λ _. x.slot ∷ open_slots xs) ≡ if b (λ _. []) (λ _. x.slot ∷ []) ++ open_slots xs
    go true = refl
    go false = refl

cut_cons : (x : Placed) (xs : List Placed) → cut_slots (x ∷ xs) ≡ cut_slots (x ∷ []) ++ cut_slots xs
unfolding cut_slots if
cut_cons x xs = go x.cut
  where
    go : (b : Bool) → if b (λ _. x.slot ∷ cut_slots xs) (λ _. cut_slots xs) ≡ if b (λ _. x.slot ∷ []) (λ _. []) ++ cut_slots xs
    go true = refl
    go false = refl

pushed_append : (xs ys ws : List ℕ) → pushed (xs ++ ys) ws ≡ pushed ys (pushed xs ws)
unfolding pushed
pushed_append [] ys ws = refl
pushed_append (x ∷ xs) ys ws = pushed_append xs ys (x ∷ ws)

schedule_append : (sc : Scheduler) (xs ys ws : List ℕ) → schedule sc (xs ++ ys) ws ≡ schedule sc ys (schedule sc xs ws)
unfolding schedule
schedule_append fifo xs ys ws = sym (append_assoc ws xs ys)
schedule_append lifo xs ys ws = pushed_append xs ys ws

-- The first child, and then the others.
pub one_then : (s : State) (x : Placed) (xs : List Placed) → (with_placed s (x ∷ xs)).state ≡ (with_placed (with_placed s (x ∷ [])).state xs).state
unfolding with_placed done changed stored
one_then s x xs =
    let w = ap (λ l. schedule (scheduler_of s.scheduler) l s.waiting) (open_cons x xs) ∙ schedule_append (scheduler_of s.scheduler) (open_slots (x ∷ [])) (open_slots xs) s.waiting in
    let b = ap (λ l. s.bounded ++ l) (cut_cons x xs) ∙ sym (append_assoc s.bounded (cut_slots (x ∷ [])) (cut_slots xs)) in
    let n : s.next + suc (length xs) ≡ s.next + 1 + length xs = omega arith in
    λ i. record {
      scheduler = s.scheduler;
      strategy = s.strategy;
      next = n i;
      waiting = w i;
      complete = s.complete;
      bounded = b i;
      slots = stored xs (set s.slots x.slot x.sheet);
    }

-- ---- the slots that are free

keep_same : (p q : ℕ → Bool) (xs : List ℕ) → All (λ j. (T (p j) → T (q j)) × (T (q j) → T (p j))) xs → keep q xs ≡ keep p xs
unfolding keep if
keep_same p q [] a = refl
keep_same p q (x ∷ xs) a = go (p x) (q x) a.0 (keep_same p q xs a.1)
  where
    go : (b c : Bool) → (T b → T c) × (T c → T b) → keep q xs ≡ keep p xs
        → if c (λ _. x ∷ keep q xs) (λ _. keep q xs) ≡ if b (λ _. x ∷ keep p xs) (λ _. keep p xs)
    go true true f r = ap (λ l. x ∷ l) r
    go true false f r = absurd (f.0 tt)
    go false true f r = absurd (f.1 tt)
    go false false f r = r

-- Where the first of those kept is kept no more, and all others as before, those behind it are left.
keep_rest : (p q : ℕ → Bool) (x : ℕ) → ((j : ℕ) → T (q j) → T (p j)) → T (not (q x)) → ((j : ℕ) → (x ≡ j → ⊥) → T (p j) → T (q j))
    → (xs ys : List ℕ) → cnt x xs ≤ 1 → keep p xs ≡ x ∷ ys → keep q xs ≡ ys
unfolding keep if cnt
keep_rest p q x qp nx pq [] ys l e = absurd (let n = ap length e in omega arith)
keep_rest p q x qp nx pq (a ∷ xs) ys l e = go (p a) refl (q a) refl (keep_rest p q x qp nx pq xs ys (omega arith)) e
  where
    go : (b : Bool) → p a ≡ b → (c : Bool) → q a ≡ c → (keep p xs ≡ x ∷ ys → keep q xs ≡ ys) → if b (λ _. a ∷ keep p xs) (λ _. keep p xs) ≡ x ∷ ys
        → if c (λ _. a ∷ keep q xs) (λ _. keep q xs) ≡ ys
    go false pe true qe again f = absurd (subst T pe (qp a (subst T (sym qe) tt)))
    go false pe false qe again f = again f
    go true pe true qe again f = absurd (subst (λ z. T (not z)) (ap q (sym (ap (λ z. get_or z 0 0) f)) ∙ qe) nx)
    go true pe false qe again f =
        let same : a ≡ x = ap (λ z. get_or z 0 0) f in
        let rest : keep p xs ≡ ys = ap (drop 1) f in
        let h : hit x a ≡ 1 = subst (λ z. hit x z ≡ 1) (sym same) (hit_self x) in
        let none : cnt x xs ≡ 0 = omega arith in
        keep_same p q xs (cnt_all (λ j. (T (p j) → T (q j)) × (T (q j) → T (p j))) xs
        (λ j m. ((λ t. pq j (λ xj. let z = subst (λ w. cnt w xs ≡ 0) xj none in absurd (omega arith)) t), qp j))) ∙ rest

-- How often the lists name a slot once a child is placed.
placed_used : (s : State) (x : Placed) (j : ℕ) → cnt j (used (with_placed s (x ∷ [])).state) ≡ cnt j (used s) + hit j x.slot
unfolding with_placed done changed used cnt
placed_used s x j =
    let w = cnt_append j (schedule (scheduler_of s.scheduler) (open_slots (x ∷ [])) s.waiting) (s.complete ++ (s.bounded ++ cut_slots (x ∷ []))) in
    let c = cnt_append j s.complete (s.bounded ++ cut_slots (x ∷ [])) in
    let b = cnt_append j s.bounded (cut_slots (x ∷ [])) in
    let sc = cnt_schedule j (scheduler_of s.scheduler) (open_slots (x ∷ [])) s.waiting in
    let w0 = cnt_append j s.waiting (s.complete ++ s.bounded) in
    let c0 = cnt_append j s.complete s.bounded in
    let oc : cnt j (open_slots (x ∷ [])) + cnt j (cut_slots (x ∷ [])) ≡ hit j x.slot + 0 = open_and_cut j (x ∷ []) in
    omega arith

not_not : (b : Bool) → T b → T (not (not b))
not_not true t = tt
not_not false t = t

-- With a child in the lowest free slot, the other free slots are left, in their order.
pub free_next : (s : State) (x : Placed) (fs : List ℕ) → free s ≡ x.slot ∷ fs → free (with_placed s (x ∷ [])).state ≡ fs
unfolding free with_placed done changed stored
free_next s x fs e =
    subst (λ n. keep q (from 0 n) ≡ fs) (sym (length-set s.slots x.slot x.sheet))
    (keep_rest p q x.slot qp nx pq (from 0 (length s.slots)) fs (from_once x.slot 0 (length s.slots)) e)
  where
    p : ℕ → Bool
    p i = not (mem i (used s))

    q : ℕ → Bool
    q i = not (mem i (used (with_placed s (x ∷ [])).state))

    qp : (j : ℕ) → T (q j) → T (p j)
    qp j t = cnt_not_mem j (used s) (let z = not_mem_cnt j (used (with_placed s (x ∷ [])).state) t in let c = placed_used s x j in omega arith)

    nx : T (not (q x.slot))
    nx = not_not (mem x.slot (used (with_placed s (x ∷ [])).state)) (cnt_mem x.slot (used (with_placed s (x ∷ [])).state)
        (let c = placed_used s x x.slot in let h = hit_self x.slot in omega arith))

    pq : (j : ℕ) → (x.slot ≡ j → ⊥) → T (p j) → T (q j)
    pq j n t = cnt_not_mem j (used (with_placed s (x ∷ [])).state)
        (let z = not_mem_cnt j (used s) t in let c = placed_used s x j in let h = hit_other j x.slot n in omega arith)

next_one : (s : State) (x : Placed) → (with_placed s (x ∷ [])).state.next ≡ suc s.next
unfolding with_placed done changed
next_one s x = omega arith

-- A child in a slot, with the next number and the place that all get.
unfoldable pub the_child : State → ℕ → ℕ → Child → Placed
the_child s p i k = record { slot = i; cut = k.cut; sheet = record { number = s.next; place = p; model = k.model } }

-- Placing children is placing the first one into the lowest free slot, and then placing the others from there.
pub place_one : (s : State) (p : ℕ) (k : Child) (ks : List Child) (i : ℕ) (fs : List ℕ) → free s ≡ i ∷ fs
    → let t = (with_placed s (the_child s p i k ∷ [])).state in
    (with_placed s (placed (free s) p s.next (k ∷ ks))).state ≡ (with_placed t (placed (free t) p t.next ks)).state
unfolding placed the_child
place_one s p k ks i fs e =
    let t = (with_placed s (the_child s p i k ∷ [])).state in
    ap (λ l. (with_placed s (placed l p s.next (k ∷ ks))).state) e
    ∙ one_then s (the_child s p i k) (placed fs p (suc s.next) ks)
    ∙ ap₂ (λ l n. (with_placed t (placed l p n ks)).state) (sym (free_next s (the_child s p i k) fs e)) (sym (next_one s (the_child s p i k)))

-- ---- how many are free

-- Of numbers in a row, those that are kept and those that are not are all.
split : (p : ℕ → Bool) (xs : List ℕ) → length (keep p xs) + length (keep (λ i. not (p i)) xs) ≡ length xs
unfolding keep if
split p [] = refl
split p (x ∷ xs) = go (p x) (split p xs)
  where
    go : (b : Bool) → length (keep p xs) + length (keep (λ i. not (p i)) xs) ≡ length xs
        → length (if b (λ _. x ∷ keep p xs) (λ _. keep p xs)) + length (if (not b) (λ _. x ∷ keep (λ i. not (p i)) xs) (λ _. keep (λ i. not (p i)) xs)) ≡ suc (length xs)
    go true r = omega arith
    go false r = omega arith

row_length : (a n : ℕ) → length (from a n) ≡ n
unfolding from
row_length a zero = refl
row_length a (suc n) = ap suc (row_length (suc a) n)

mem_other : (j u : ℕ) (us : List ℕ) → (j ≡ u → ⊥) → mem j (u ∷ us) ≡ mem j us
unfolding mem
mem_other j u us ne = go (eqb j u) (eqb→eq j u)
  where
    go : (b : Bool) → (T b → j ≡ u) → b || mem j us ≡ mem j us
    go true f = absurd (ne (f tt))
    go false f = refl

-- Keeping one number more keeps as many more as it is there.
keep_plus : (p q : ℕ → Bool) (u : ℕ) → T (not (p u)) → T (q u) → ((j : ℕ) → (j ≡ u → ⊥) → q j ≡ p j) → (xs : List ℕ)
    → length (keep q xs) ≡ length (keep p xs) + cnt u xs
unfolding keep if cnt
keep_plus p q u np qu same [] = refl
keep_plus p q u np qu same (a ∷ xs) =
    hit_elim (λ h. length (if (q a) (λ _. a ∷ keep q xs) (λ _. keep q xs)) ≡ length (if (p a) (λ _. a ∷ keep p xs) (λ _. keep p xs)) + (h + cnt u xs)) u a
    (λ e. here (p a) (q a) (subst (λ z. T (not (p z))) (sym e) np) (subst (λ z. T (q z)) (sym e) qu) (keep_plus p q u np qu same xs))
    (λ n. there (p a) (q a) (same a n) (keep_plus p q u np qu same xs))
  where
    here : (b c : Bool) → T (not b) → T c → length (keep q xs) ≡ length (keep p xs) + cnt u xs
        → length (if c (λ _. a ∷ keep q xs) (λ _. keep q xs)) ≡ length (if b (λ _. a ∷ keep p xs) (λ _. keep p xs)) + (1 + cnt u xs)
    here true c nb tc r = absurd nb
    here false true nb tc r = omega arith
    here false false nb tc r = absurd tc

    there : (b c : Bool) → c ≡ b → length (keep q xs) ≡ length (keep p xs) + cnt u xs
        → length (if c (λ _. a ∷ keep q xs) (λ _. keep q xs)) ≡ length (if b (λ _. a ∷ keep p xs) (λ _. keep p xs)) + (0 + cnt u xs)
    there true true e r = omega arith
    there false false e r = omega arith
    there true false e r = absurd (subst T (sym e) tt)
    there false true e r = absurd (subst T e tt)

-- Numbers below n that differ, counted off the row of all of them.
named_count : (n : ℕ) (us : List ℕ) → ((j : ℕ) → cnt j us ≤ 1) → All (λ j. j < n) us → length (keep (λ i. mem i us) (from 0 n)) ≡ length us
unfolding cnt keep if mem
named_count n [] once a = none (from 0 n)
  where
    none : (xs : List ℕ) → length (keep (λ i. mem i []) xs) ≡ 0
    none [] = refl
    none (x ∷ xs) = none xs
named_count n (u ∷ us) once a =
    let out : cnt u us ≡ 0 = let o = once u in let h = hit_self u in omega arith in
    let rest = named_count n us (λ j. let o = once j in omega arith) a.1 in
    let one = from_once u 0 n in
    let low : u < n = a.0 in
    let has = from_has u 0 n (omega arith) (omega arith) in
    let plus = keep_plus (λ i. mem i us) (λ i. mem i (u ∷ us)) u (cnt_not_mem u us out) (cnt_mem u (u ∷ us) (let h = hit_self u in omega arith))
    (λ j ne. mem_other j u us ne) (from 0 n) in
    omega arith

-- The slots that are free and those that the lists name are all.
pub free_count : (s : State) → ((j : ℕ) → cnt j (used s) ≤ 1) → All (λ j. j < length s.slots) (used s)
    → length (free s) + length (used s) ≡ length s.slots
unfolding free
free_count s once a =
    let n = length s.slots in
    let both = split (λ i. mem i (used s)) (from 0 n) in
    let named = named_count n (used s) once a in
    let row = row_length 0 n in
    omega arith
