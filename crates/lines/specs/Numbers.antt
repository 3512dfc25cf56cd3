-- Laws of decimal numbers and of fields: the standard library's text, the last digit apart, how many digits there are at most, fields behind fields.
use Rattle.std.specs.Prelude.{◌≡◌, refl, ℕ, zero, suc, ◌/◌, ◌%◌, ◌^◌, ◌≤◌, ◌<◌, ◌+◌, Bool, true, false, ◌⊎◌, List, [], ◌∷◌, ◌++◌, length, ltb}
use Rattle.std.proofs.Common.{sym, ap, ◌∙◌, pow-suc, arith, inl, inr, ⊎_elim, append_assoc, append-nil, length-append, lt-ltb, le-ltb, ltb-true, ltb-false}
use Rattle.std.proofs.lemmas.Fmt.{decimal_from_appends, length-decimal-le_succ}
use Rattle.std.specs.Fmt as fmt
use Rattle.base.specs.Branch.{if}
use Rattle.rules.specs.Reading.{Bytes}
use Rattle.lines.specs.Text.{digits, decimal, fields}

-- The branches, where the test is known.
small : (k n : ℕ) → n < 10 → digits (suc k) n ≡ (48 + n) ∷ []
unfolding digits if
small k n h = rw (lt-ltb n 10 h)

large : (k n : ℕ) → 10 ≤ n → digits (suc k) n ≡ digits k (n / 10) ++ ((48 + n % 10) ∷ [])
unfolding digits if
large k n h = rw (le-ltb n 10 h)

-- A number's text is what the standard library prints.
pub decimal_is : (n : ℕ) → n < 2 ^ 64 → decimal n ≡ fmt.decimal n
unfolding decimal
decimal_is n h = decimal_from_appends digits (record { one = small; more = large }) (suc n) n h (omega (arith, length-decimal-le_succ n h))

-- One digit, and the last digit behind the others.
split : (n : ℕ) → (n < 10) ⊎ (10 ≤ n)
split n = go (ltb n 10) refl
  where
    go : (b : Bool) → ltb n 10 ≡ b → (n < 10) ⊎ (10 ≤ n)
    go true e = inl (ltb-true n 10 e)
    go false e = inr (ltb-false n 10 e)

-- Room for more digits changes nothing.
enough : (j k n : ℕ) → n < j → n < k → digits j n ≡ digits k n
enough zero k n h i = absurd (omega arith)
enough (suc j) zero n h i = absurd (omega arith)
enough (suc j) (suc k) n h i = ⊎_elim
    (λ s. small j n s ∙ sym (small k n s))
    (λ s. large j n s ∙ ap (λ (l : Bytes). l ++ ((48 + n % 10) ∷ [])) (enough j k (n / 10) (omega arith) (omega arith)) ∙ sym (large k n s))
    (split n)

pub decimal_one : (n : ℕ) → n < 10 → decimal n ≡ (48 + n) ∷ []
unfolding decimal
decimal_one n h = small n n h

pub decimal_more : (n : ℕ) → 10 ≤ n → decimal n ≡ decimal (n / 10) ++ ((48 + n % 10) ∷ [])
unfolding decimal
decimal_more n h = large n n h ∙ ap (λ (l : Bytes). l ++ ((48 + n % 10) ∷ [])) (enough n (suc (n / 10)) (n / 10) (omega arith) (omega arith))

digits_none : (n j : ℕ) → length (digits 0 n) ≤ suc j
unfolding digits
digits_none n j = omega arith

digits_few : (k j n : ℕ) → n < 10 ^ suc j → length (digits k n) ≤ suc j
digits_few zero j n h = digits_none n j
digits_few (suc k) zero n h = omega (arith, ap length (small k n (omega arith)))
digits_few (suc k) (suc j) n h =
    let q : n / 10 < 10 ^ suc j = omega (arith, pow-suc 10 (suc j)) in
    ⊎_elim
    (λ s. omega (arith, ap length (small k n s)))
    (λ s. omega (arith, ap length (large k n s), length-append (digits k (n / 10)) ((48 + n % 10) ∷ []), digits_few k j (n / 10) q))
    (split n)

-- At most three digits, and at most ten.
pub three_digits : (n : ℕ) → n < 1000 → length (decimal n) ≤ 3
unfolding decimal
three_digits n h = digits_few (suc n) 2 n h

pub ten_digits : (n : ℕ) → n < 10000000000 → length (decimal n) ≤ 10
unfolding decimal
ten_digits n h = digits_few (suc n) 9 n h

-- Fields of a list and another.
pub fields_append : (xs ys : List ℕ) → fields (xs ++ ys) ≡ fields xs ++ fields ys
unfolding fields
fields_append [] ys = refl
fields_append (x ∷ xs) ys = ap (λ (l : Bytes). 32 ∷ decimal x ++ l) (fields_append xs ys) ∙ sym (append_assoc (32 ∷ decimal x) (fields xs) (fields ys))

-- One field.
pub field_one : (x : ℕ) → fields (x ∷ []) ≡ 32 ∷ decimal x
unfolding fields
field_one x = append-nil (32 ∷ decimal x)
