-- What is left of things that follow one another, for a loop that walks over them.
use Rattle.std.specs.Prelude.{◌≡◌, ℕ, zero, suc, ◌+◌, ◌-◌, ◌≤◌, ◌<◌, List, [], ◌∷◌, length}
use Rattle.std.proofs.Common.{Bor, sym, subst, arith, add-one}
use Rattle.texts.specs.Reads.{Follow}
use Rattle.texts.specs.Parts.{follow_grows}

abbrev pub Within : ℕ → ℕ → ℕ → Type 0
Within at len r = (at ≤ r) × (r ≤ len)

-- The answer is the end of whatever thing stands there.
abbrev pub Skips : {A : Type 0} → (ℕ → A → ℕ → Type 0) → ℕ → ℕ → ℕ → Type 0
Skips {A} R len at r = (x : A) (e : ℕ) → R at x e → e ≤ len → r ≡ e

abbrev pub SkipsMany : {A : Type 0} → (ℕ → A → ℕ → Type 0) → ℕ → ℕ → ℕ → ℕ → Type 0
SkipsMany {A} R len at n r = (xs : List A) (e : ℕ) → Follow R at xs e → length xs ≡ n → e ≤ len → r ≡ e

abbrev pub Grows : {A : Type 0} → (ℕ → A → ℕ → Type 0) → Type 0
Grows {A} R = (at : ℕ) (x : A) (e : ℕ) → R at x e → at ≤ e

-- So many things from a place to the end.
pub record Rest {A : Type 0} (R : ℕ → A → ℕ → Type 0) (p k e : ℕ) : Type 0 where
  pub things : List A
  pub follow : Follow R p things e
  pub counted : length things ≡ k

-- The first of them, where it ends, and those behind it.
pub record First {A : Type 0} (R : ℕ → A → ℕ → Type 0) (p k e : ℕ) : Type 0 where
  pub thing : A
  pub middle : ℕ
  pub here : R p thing middle
  pub behind : Rest R middle k e

pub rest_first : {A : Type 0} (R : ℕ → A → ℕ → Type 0) (p k e : ℕ) → 0 < k → Rest R p k e → First R p (k - 1) e
unfolding Follow
rest_first {A} R p k e h r = go r.things r.follow r.counted
  where
    go : (xs : List A) → Follow R p xs e → length xs ≡ k → First R p (k - 1) e
    go [] f c = absurd (omega arith)
    go (x ∷ xs) f c = record { thing = x; middle = f.0; here = f.1.0; behind = record { things = xs; follow = f.1.1; counted = omega arith } }

pub rest_end : {A : Type 0} (R : ℕ → A → ℕ → Type 0) (p k e : ℕ) → k ≡ 0 → Rest R p k e → p ≡ e
unfolding Follow
rest_end {A} R p k e z r = go r.things r.follow r.counted
  where
    go : (xs : List A) → Follow R p xs e → length xs ≡ k → p ≡ e
    go [] f c = sym f
    go (x ∷ xs) f c = absurd (omega arith)

rest_grows : {A : Type 0} (R : ℕ → A → ℕ → Type 0) → Grows R → (p k e : ℕ) → Rest R p k e → p ≤ e
rest_grows R g p k e r = follow_grows R g p r.things e r.follow

-- For whatever follows from the start, as many as counted: after i of them so many are left from p on.
abbrev pub Left : {A : Type 0} → (ℕ → A → ℕ → Type 0) → ℕ → ℕ → ℕ → ℕ → ℕ → Type 0
Left {A} R len at n i p = (xs : List A) (e : ℕ) → Follow R at xs e → length xs ≡ n → e ≤ len → Rest R p (n - i) e

module _ {A : Type 0} (R : ℕ → A → ℕ → Type 0) (g : Grows R) (len at n : ℕ) where
  pub left_start : Left R len at n 0 at
  left_start xs e f c l = record { things = xs; follow = f; counted = omega arith }

  pub left_next : (i p q : ℕ) → i < n → Left R len at n i p → Skips R len p q → Left R len at n (i + 1) q
  left_next i p q h r s xs e f c l =
      let b = rest_first R p (n - i) e (omega arith) (r xs e f c l) in
      let m = rest_grows R g b.middle (n - i - 1) e b.behind in
      let z : q ≡ b.middle = s b.thing b.middle b.here (omega arith) in
      let k : n - i - 1 ≡ n - (i + 1) = omega arith in
      subst (λ j. Rest R q j e) k (subst (λ y. Rest R y (n - i - 1) e) (sym z) b.behind)

  pub left_end : (i p : ℕ) → n ≤ i → Left R len at n i p → SkipsMany R len at n p
  left_end i p h r xs e f c l = rest_end R p (n - i) e (omega arith) (r xs e f c l)

-- What a walk answers at a value, wherever the value is lent from.
abbrev pub Gives : {T : Type 0} → (Bor T → ℕ → ℕ → Type 0) → T → ℕ → ℕ → Type 0
Gives {T} R x p q = (b : Bor T) × ((b.now ≡ x) × R b p q)

-- So many steps of R, each from a place within the text, lead from a place to another.
abbrev pub Chain : (ℕ → ℕ → Type 0) → ℕ → ℕ → ℕ → ℕ → Type 0
Chain R len zero p q = q ≡ p
Chain R len (suc n) p q = (m : ℕ) × (Chain R len n p m × ((m ≤ len) × R m q))

pub chain_more : (R : ℕ → ℕ → Type 0) (len i p m q : ℕ) → Chain R len i p m → m ≤ len → R m q → Chain R len (i + 1) p q
chain_more R len i p m q c l r = rw add-one (m, (c, (l, r)))

-- Steps that each walk over one thing walk over so many.
module _ {A : Type 0} (T : ℕ → A → ℕ → Type 0) (g : Grows T) (len at n : ℕ) (R : ℕ → ℕ → Type 0) (s : (p q : ℕ) → p ≤ len → R p q → Within p len q × Skips T len p q) where
  chain_left : (i p : ℕ) → i ≤ n → Chain R len i at p → Left T len at n i p
  chain_left zero p h c = subst (Left T len at n 0) (sym c) (left_start T g len at n)
  chain_left (suc i) p h (m, (c, (l, r))) = subst (λ j. Left T len at n j p) (add-one i) (left_next T g len at n i m p (omega arith) (chain_left i m (omega arith) c) (s m p l r).1)

  pub chain_skips : (r : ℕ) → Chain R len n at r → SkipsMany T len at n r
  chain_skips r c = left_end T g len at n n r (omega arith) (chain_left n r (omega arith) c)
