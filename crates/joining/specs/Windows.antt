-- Two windows of one list, the table's and a spare one, that do not meet: what is written into them, and all else kept. The list is
-- cut so that each is lent as a slice of its own.
use Rattle.std.specs.Prelude.{◌≡◌, refl, ℕ, ◌+◌, ◌≤◌, ◌⊎◌, List, ◌++◌, map, length, take, drop}
use Rattle.std.proofs.Common.{sym, ap, ap₂, ◌∙◌, subst, arith, inl, inr, append_assoc, length-take-le, length-drop, take_at, drop_at}
use Rattle.std.proofs.lemmas.List.{take-append-le, drop-append-le}
use borrow.Rule.Slice.PartMut.{put_mid, mid_of}
use Rattle.rules.specs.Image.{part}
use Rattle.images.specs.Kept.{Kept, kept_before, kept_behind}
use Rattle.renaming.specs.Order.{order_in}
use Rattle.joining.specs.Lent.{kept_lent, part_lent}

-- The n entries from a on and the m entries from c on do not meet.
abbrev pub Apart : (a n c m : ℕ) → Type 0
Apart a n c m = (a + n ≤ c) ⊎ (c + m ≤ a)

pub apart_flip : (a n c m : ℕ) → Apart a n c m → Apart c m a n
apart_flip a n c m (inl h) = inr h
apart_flip a n c m (inr h) = inl h

pub kept_apart : {a n : ℕ} {w w' : List ℕ} → Kept a n w w' → (c m : ℕ) → Apart a n c m → part c m w' ≡ part c m w
kept_apart k c m (inl h) = kept_behind k c m h
kept_apart k c m (inr h) = kept_before k c m h

-- Whatever is apart from both windows is kept.
pub record Elsewhere (a b n : ℕ) (w w' : List ℕ) : Type 0 where
  pub size : length w' ≡ length w
  pub kept : (c m : ℕ) → Apart a n c m → Apart b n c m → part c m w' ≡ part c m w

pub elsewhere_none : (a b n : ℕ) (w : List ℕ) → Elsewhere a b n w w
elsewhere_none a b n w = record { size = refl; kept = λ c m p q. refl }

pub elsewhere_then : {a b n : ℕ} {u v w : List ℕ} → Elsewhere a b n u v → Elsewhere a b n v w → Elsewhere a b n u w
elsewhere_then p q = record { size = q.size ∙ p.size; kept = λ c m x y. q.kept c m x y ∙ p.kept c m x y }

-- What is written into one of them.
pub elsewhere_table : {a b n : ℕ} {w w' : List ℕ} → Kept a n w w' → Elsewhere a b n w w'
elsewhere_table k = record { size = k.size; kept = λ c m p q. kept_apart k c m p }

pub elsewhere_spare : {a b n : ℕ} {w w' : List ℕ} → Kept b n w w' → Elsewhere a b n w w'
elsewhere_spare k = record { size = k.size; kept = λ c m p q. kept_apart k c m q }

-- The table in the n entries from a on, before and after, is in a relation; n entries from b on were written over.
pub record Beside (P : List ℕ → List ℕ → Type 0) (a n b : ℕ) (w w' : List ℕ) : Type 0 where
  pub made : P (part a n w) (part a n w')
  pub elsewhere : Elsewhere a b n w w'

-- One window written, and then the other.
beside_lent : (P : List ℕ → List ℕ → Type 0) (a n b : ℕ) (w ys zs : List ℕ) → a + n ≤ length w → b + n ≤ length w → Apart a n b n → length ys ≡ n → length zs ≡ n
    → P (part a n w) ys → Beside P a n b w (put_mid b n (put_mid a n w ys) zs)
beside_lent P a n b w ys zs p q apart y z e =
    let k = kept_lent a n w ys p y in
    let m = kept_lent b n (put_mid a n w ys) zs (omega (arith, k.size)) z in
    record {
      made = subst (P (part a n w)) (sym (kept_apart m a n (apart_flip a n b n apart) ∙ part_lent a n w ys p y)) e;
      elsewhere = elsewhere_then (elsewhere_table k) (elsewhere_spare m);
    }

-- The table went through a function and is in order.
abbrev pub Through : (f : ℕ → ℕ) (a n b : ℕ) (w w' : List ℕ) → Type 0
Through f a n b w w' = Beside (λ t u. u ≡ order_in (map f t)) a n b w w'

-- A table at the front, with the spare window behind it: the list was cut between them.
pub through_front : (f : ℕ → ℕ) (n : ℕ) (t fr ba ys zs : List ℕ) → n + n ≤ length t → fr ≡ take n t → ba ≡ drop n t → length ys ≡ length fr → length zs ≡ length (take n ba)
    → ys ≡ order_in (map f fr) → Through f 0 n n t (ys ++ (zs ++ drop n ba))
unfolding part
through_front f n t fr ba ys zs h p q a b e =
    let y : length ys ≡ n = a ∙ ap length p ∙ length-take-le n t (omega arith) in
    let z : length zs ≡ n = b ∙ length-take-le n ba (omega (arith, ap length q, length-drop n t)) in
    subst (Through f 0 n n t)
    (ap₂ (λ (u v : List ℕ). u ++ (zs ++ drop n v)) (take_at ys (drop n t) n y) (drop_at ys (drop n t) n y ∙ sym q))
    (beside_lent (λ t u. u ≡ order_in (map f t)) 0 n n t ys zs (omega arith) h (inl (omega arith)) y z (e ∙ ap (λ (x : List ℕ). order_in (map f x)) p))

-- What is written into the front of a list that was cut.
cut_put : (a k : ℕ) (fr ba zs : List ℕ) → a + k ≤ length fr → put_mid a k (fr ++ ba) zs ≡ put_mid a k fr zs ++ ba
cut_put a k fr ba zs h =
    let d : drop k (drop a (fr ++ ba)) ≡ drop k (drop a fr) ++ ba =
    ap (drop k) (drop-append-le a fr ba (omega arith)) ∙ drop-append-le k (drop a fr) ba (omega (arith, length-drop a fr)) in
    ap₂ (λ (u v : List ℕ). u ++ (zs ++ v)) (take-append-le a fr ba (omega arith)) d ∙ (simp append_assoc)

-- A table at the front of the part behind a cut, with the spare window before the cut.
pub beside_back : (P : List ℕ → List ℕ → Type 0) (at n spare k : ℕ) (w fr ba ys zs : List ℕ) → k ≡ n → spare + n ≤ at → at + n ≤ length w → fr ≡ take at w → ba ≡ drop at w
    → length ys ≡ length (take n ba) → length zs ≡ length (mid_of spare k fr) → P (take n ba) ys → Beside P at n spare w (put_mid spare k fr zs ++ (ys ++ drop n ba))
unfolding part
beside_back P at n spare k w fr ba ys zs i h q a b r o e =
    let y : length ys ≡ n = r ∙ length-take-le n ba (omega (arith, ap length b, length-drop at w)) in
    let d : length fr ≡ at = ap length a ∙ length-take-le at w (omega arith) in
    let z : length zs ≡ n = o ∙ length-take-le k (drop spare fr) (omega (arith, length-drop spare fr)) ∙ i in
    subst (Beside P at n spare w)
    (cut_put spare n (take at w) (ys ++ drop n (drop at w)) zs (omega (arith, length-take-le at w (omega arith)))
    ∙ ap₂ (λ (u v : List ℕ). put_mid spare n u zs ++ (ys ++ drop n v)) (sym a) (sym b) ∙ ap (λ j. put_mid spare j fr zs ++ (ys ++ drop n ba)) (sym i))
    (beside_lent P at n spare w ys zs q (omega arith) (inr h) y z (subst (λ (x : List ℕ). P (take n x) ys) b e))
