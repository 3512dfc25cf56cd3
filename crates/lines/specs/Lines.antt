-- A line from its parts, in the order in which code writes them behind a text.
use Rattle.std.specs.Prelude.{◌≡◌, refl, ℕ, zero, suc, ◌+◌, ◌-◌, ◌≤◌, min, List, [], ◌∷◌, ◌++◌, length, get_or, take, drop}
use Rattle.std.proofs.Common.{ap, arith, append_assoc, drop-cons}
use Rattle.rules.specs.Reading.{Bytes}
use Rattle.rules.specs.Image.{part, args_in, key_in, fact_in}
use Rattle.lines.specs.Text.{fields, key_word, equals_word, depth_word, fact_word, refused_word, newline, key_line, depth_text, fact_line, refusal}
use Rattle.lines.specs.Numbers.{fields_append}

pub depth_parts : (p : Bytes) (e d : ℕ) → (((p ++ depth_word) ++ fields (e ∷ [])) ++ fields (d ∷ [])) ++ newline ≡ p ++ depth_text e d
unfolding depth_text
depth_parts p e d = rw (fields_append (e ∷ []) (d ∷ [])) (simp append_assoc)

pub refusal_parts : (p : Bytes) (x : ℕ) → ((p ++ refused_word) ++ fields (x ∷ [])) ++ newline ≡ p ++ refusal x
unfolding refusal
refusal_parts p x = simp append_assoc

-- ---- an entry

-- A list that is cut at its room.
pub take_few : {A : Type 0} (c n : ℕ) (l : List A) → take (min c n) l ≡ take c (take n l)
take_few zero n l = let e : min 0 n ≡ 0 = omega arith in rw e
take_few (suc c) zero l = let e : min (suc c) 0 ≡ 0 = omega arith in rw e
take_few (suc c) (suc n) [] = let e : min (suc c) (suc n) ≡ suc (min c n) = omega arith in rw e
take_few (suc c) (suc n) (x ∷ l) = let e : min (suc c) (suc n) ≡ suc (min c n) = omega arith in rw e (ap (λ (k : List _). x ∷ k) (take_few c n l))

module _ (e : Bytes) where
  pub args_are : (n : ℕ) → n ≡ min (get_or e 2 0) 4 → take (3 + n - 3) (drop 3 e) ≡ args_in e
  unfolding args_in part
  args_are n h = let m : 3 + n - 3 ≡ min (get_or e 2 0) 4 = omega arith in rw m (take_few (get_or e 2 0) 4 (drop 3 e))

  module _ (fits : length e ≡ 8) where
    first_two : take 2 e ≡ get_or e 0 0 ∷ get_or e 1 0 ∷ []
    first_two = go e (omega arith)
      where
        go : (l : Bytes) → 2 ≤ length l → take 2 l ≡ get_or l 0 0 ∷ get_or l 1 0 ∷ []
        go [] h = absurd (omega arith)
        go (a ∷ []) h = absurd (omega arith)
        go (a ∷ b ∷ l) h = refl

    second : take 1 (drop 1 e) ≡ get_or e 1 0 ∷ []
    second = ap (take 1) (drop-cons e 1 0 (omega arith))

    last : take 1 (drop 7 e) ≡ get_or e 7 0 ∷ []
    last = ap (take 1) (drop-cons e 7 0 (omega arith))

    pub key_parts : (p : Bytes) → (((((p ++ key_word) ++ fields (take 2 e)) ++ fields (args_in e)) ++ equals_word) ++ fields (take 1 (drop 7 e))) ++ newline ≡ p ++ key_line (key_in e)
    unfolding key_line key_in
    key_parts p = rw (first_two, last, fields_append (get_or e 0 0 ∷ get_or e 1 0 ∷ []) (args_in e)) (simp append_assoc)

    pub fact_parts : (p : Bytes) → (((p ++ fact_word) ++ fields (take 1 (drop 1 e))) ++ fields (args_in e)) ++ newline ≡ p ++ fact_line (fact_in e)
    unfolding fact_line fact_in
    fact_parts p = rw (second, fields_append (get_or e 1 0 ∷ []) (args_in e)) (simp append_assoc)
