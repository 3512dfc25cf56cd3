-- Numbers by their digits to base 256, the first digit highest: the order of digits is the order of numbers.
use Rattle.std.specs.Prelude.{◌≡◌, refl, List, [], ◌∷◌, ◌++◌, length}
use Rattle.std.proofs.Common.{sym, ap, ◌∙◌, arith}
use Prim.Native.Nat.{Ordering}
use Prim.Native.Nat.{ℕ, ◌+◌, ◌*◌, ◌<◌, compare}
use Rattle.base.specs.Branch.{or_then, order}
use Rattle.base.specs.Lists.{All}
use Rattle.images.specs.Storable.{Octet}
use Rattle.packing.specs.Compare.{compare_lt, compare_eq, compare_gt, ways}

-- The digits behind the number a, and a number's digits alone.
unfoldable pub number_from : ℕ → List ℕ → ℕ
number_from a [] = a
number_from a (d ∷ ds) = number_from (a * 256 + d) ds

abbrev pub number : List ℕ → ℕ
number ds = number_from 0 ds

-- What starts smaller stays smaller.
start_lt : (a b : ℕ) (xs ys : List ℕ) → length xs ≡ length ys → All Octet xs → a < b → number_from a xs < number_from b ys
unfolding number_from
start_lt a b [] [] e p h = h
start_lt a b [] (y ∷ ys) e p h = absurd (omega arith)
start_lt a b (x ∷ xs) [] e p h = absurd (omega arith)
start_lt a b (x ∷ xs) (y ∷ ys) e p h = start_lt (a * 256 + x) (b * 256 + y) xs ys (omega arith) p.1 (omega arith)

pub number_order : (a : ℕ) (xs ys : List ℕ) → length xs ≡ length ys → All Octet xs → All Octet ys
    → order xs ys ≡ compare (number_from a xs) (number_from a ys)
unfolding number_from order
number_order a [] [] e p q = sym (compare_eq a a refl)
number_order a [] (y ∷ ys) e p q = absurd (omega arith)
number_order a (x ∷ xs) [] e p q = absurd (omega arith)
number_order a (x ∷ xs) (y ∷ ys) e p q =
    let l : length xs ≡ length ys = omega arith in
    ways (λ o. or_then o (λ _. order xs ys) ≡ compare (number_from (a * 256 + x) xs) (number_from (a * 256 + y) ys)) x y
    (λ h. sym (compare_lt _ _ (start_lt (a * 256 + x) (a * 256 + y) xs ys l p.1 (omega arith))))
    (λ h. number_order (a * 256 + x) xs ys l p.1 q.1 ∙ ap (λ z. compare (number_from (a * 256 + x) xs) (number_from (a * 256 + z) ys)) h)
    (λ h. sym (compare_gt _ _ (start_lt (a * 256 + y) (a * 256 + x) ys xs (sym l) q.1 (omega arith))))

-- The same digits behind lists of one length change no order.
pub order_behind : (xs ys zs : List ℕ) → length xs ≡ length ys → order (xs ++ zs) (ys ++ zs) ≡ order xs ys
unfolding order
order_behind [] [] zs e = same zs
  where
    same : (l : List ℕ) → order l l ≡ Ordering.eq
    same [] = refl
    same (x ∷ xs) = ap (λ o. or_then o (λ _. order xs xs)) (compare_eq x x refl) ∙ same xs
order_behind [] (y ∷ ys) zs e = absurd (omega arith)
order_behind (x ∷ xs) [] zs e = absurd (omega arith)
order_behind (x ∷ xs) (y ∷ ys) zs e = ap (λ r. or_then (compare x y) (λ _. r)) (order_behind xs ys zs (omega arith))
