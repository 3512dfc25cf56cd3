-- Seven bytes, each behind those before it; fewer of them are a number that still has room for one more.
use Rattle.std.proofs.Common.{rules, ap, sym, ◌∙◌, ◌≡◌, ◌+◌, ◌*◌, ◌≤◌, ◌<◌, ℕ, suc, length, List, [], ◌∷◌, ◌++◌, ◌^◌, arith, refl, length-append}
use Rattle.std.specs.declared.ops.Range.{Range}
use Rattle.std.specs.Iterator.{Yields}
use Rattle.std.proofs.iter.Yields.{nat_range_steps}
use Rattle.std.proofs.lemmas.Fn.{serves_by}
use Rattle.std.proofs.lemmas.Iterator.{YieldsList-from_range}
use Rattle.std.proofs.lemmas.Iterator.Consumers.{fold_from_yields_List}
use Rattle.std.proofs.Math.Nat.{pow-suc, pow-le-pow_right}
use Rattle.packing.specs.Digits.{number_from}
use native.Mathlib.Numerals.{unary_clauses}
use Rattle.sheetparts.specs.Tests.{byte_at, key_number}
use Rattle.sheetparts.proofs.key_number.Goals as goal

passed : (xs : List ℕ) (s t : Range ℕ) → Yields nat_range_steps s xs t → (t.end ≡ s.end) × (t.start ≡ s.start + length xs)
passed [] s t y = (sym (ap (λ k. k.end) y), omega (arith, ap (λ (k : Range ℕ). k.start) y))
passed (x ∷ xs) s t y = let h = passed xs y.0 t y.2 in (h.0 ∙ y.1.0, omega (arith, h.1, y.1.1.2))

more : (n k : ℕ) (xs : List ℕ) (x : ℕ) → k < 256 ^ length xs → n < 256 * k + 256 → n < 256 ^ length (xs ++ (x ∷ []))
more n k xs x h l =
    let e : length (xs ++ (x ∷ [])) ≡ suc (length xs) = omega (arith, length-append xs (x ∷ [])) in
    rw e (omega (arith, h, l, pow-suc 256 (length xs)))

few : (n k : ℕ) → n < 7 → k < 256 ^ n → k < 281474976710656
few n k h l = let q : n ≤ 6 = omega arith in let p : 256 ^ n ≤ 256 ^ 6 = pow-le-pow_right {n = 256} (omega arith) q in omega (arith, l, p)

pub fold-requires-clause-callable : goal.fold-requires-clause-callable
fold-requires-clause-callable c =
    serves_by _ (λ xs q. (q.0.1.now < 2147483648) × (q.1 < 256 ^ length xs))
    (λ xs q x v j r. let m : v.1 < 256 * q.1 + 256 = search rules in let k : v.0.1.now ≡ q.0.1.now = search rules in (omega (arith, k, j.0), more v.1 q.1 xs x j.1 m))
    _ _ _ _ (omega arith, omega arith)
    (λ xs t q x u y e j. let w = passed xs _ t y in
    let f = few (length xs) q.1 (omega (arith, w.0, w.1, e.1.0)) j.1 in
    ((λ κs p n t' r s' l. omega (arith, f)), (λ κs p n t' r s' l k. omega (arith, j.0, w.0, w.1, e.1.1, e.1.0)), (λ κs p n t' r s' l k b. omega (arith, f, b.ensures.1))))

pub returns : goal.returns
unfolding key_number number_from
returns c =
    let all = fold_from_yields_List _ (λ (a i : ℕ). a * 256 + byte_at c.args.s.now (c.args.at + i)) 0 c.fold.result c.fold.ensures.ran (YieldsList-from_range 0 7 7 refl (omega arith)) (λ a x b q k. search rules) in
    simp unary_clauses (simp unary_clauses at all)
