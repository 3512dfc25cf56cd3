-- The place of a key that no entry is above: behind the last entry, or at it.
use Rattle.std.specs.Prelude.{◌≡◌, ℕ, zero, suc, ◌+◌, ◌-◌, ◌≤◌, ◌<◌, List, [], ◌∷◌, length, get_or, take, set}
use Rattle.std.proofs.Common.{sym, ap, ◌∙◌, subst, arith, length-take-le, get_or-take}
use Rattle.std.specs.Prelude.{Some, None, slice_get}
use Rattle.std.proofs.lemmas.Option.{get_or_from_slice_get, slice_get_within, slice_get-get_or}
use Rattle.base.specs.Lists.{All}
use Rattle.base.specs.ListLaws.{all_get_d}
use Rattle.packing.specs.Replace.{key_of, value_of}
use Rattle.std.proofs.Math.Decide.{dec_lt}
use Rattle.std.proofs.Math.Option.{none, some}
use Rattle.tables.specs.Table.{rank, look_in, Rising, rank_le, rank_above, rank_below, Here, look_here, look_none}
use Rattle.tables.specs.Ways.{Put, put_there, put_last}

abbrev pub NoneAbove : ℕ → List ℕ → Type 0
NoneAbove q xs = All (λ y. key_of y ≤ q) xs

-- An entry's key is below the next one's.
rising_at : (xs : List ℕ) → Rising xs → (i : ℕ) → suc i < length xs → key_of (get_or xs i 0) < key_of (get_or xs (suc i) 0)
unfolding Rising
rising_at [] r i h = absurd (omega arith)
rising_at (x ∷ xs) r zero h = all_get_d (λ y. key_of x < key_of y) xs 0 0 (omega arith) r.0
rising_at (x ∷ xs) r (suc i) h = rising_at xs r.1 i (omega arith)

-- A key's place is that of the entry that has it.
rank_at : (q : ℕ) (xs : List ℕ) → Rising xs → (m : ℕ) → m < length xs → key_of (get_or xs m 0) ≡ q → m ≡ rank q xs
rank_at q xs r zero h e = let b = rank_below q xs 0 h (omega arith) in omega arith
rank_at q xs r (suc i) h e =
    let b = rank_below q xs (suc i) h (omega arith) in
    let l = rising_at xs r i h in
    let a = rank_above q xs r i (omega arith) (omega arith) in
    omega arith

module _ (q : ℕ) (xs : List ℕ) (rise : Rising xs) (above : NoneAbove q xs) where
  abbrev Last : Type 0
  Last = (0 < length xs) × (key_of (get_or xs (length xs - 1) 0) ≡ q)

  rank_end : (Last → ⊥) → length xs ≡ rank q xs
  rank_end k = elim (dec_lt 0 (length xs)) [
    | yes h ↦ (let l : key_of (get_or xs (length xs - 1) 0) ≤ q = all_get_d (λ y. key_of y ≤ q) xs (length xs - 1) 0 (omega arith) above in
        let s : key_of (get_or xs (length xs - 1) 0) < q = strict l (λ p. k (h, p)) in
        let a = rank_above q xs rise (length xs - 1) (omega arith) s in
        let b = rank_le q xs in
        omega arith)
    | no h ↦ (let b = rank_le q xs in omega arith)
  ]
    where
      strict : {a b : ℕ} → a ≤ b → (a ≡ b → ⊥) → a < b
      strict {a} {b} p n = omega arith

  missing : (Last → ⊥) → look_in q xs ≡ none
  missing k = let e = rank_end k in look_none q xs (λ h. omega (arith, h.0))

  rank_last : Last → length xs - 1 ≡ rank q xs
  rank_last h = rank_at q xs rise (length xs - 1) (omega arith) h.1

  -- The last entry, if there is one, has the key or none has it.
  pub last_has : (x : ℕ) → Some x ≡ slice_get xs (length xs - 1) → key_of x ≡ q → (look_in q xs ≡ some (value_of x)) × (value_of x < 256)
  last_has x e k =
      let g : get_or xs (length xs - 1) 0 ≡ x = get_or_from_slice_get xs (length xs - 1) x 0 (sym e) in
      let w = slice_get_within xs (length xs - 1) x (sym e) in
      let h : Last = (omega arith, ap key_of g ∙ k) in
      let r = rank_last h in
      (look_here q xs (subst (Here q xs) r (omega arith, h.1)) ∙ ap (λ i. some (value_of (get_or xs i 0))) (sym r) ∙ ap (λ y. some (value_of y)) g, omega arith)

  pub last_other : (x : ℕ) → Some x ≡ slice_get xs (length xs - 1) → (key_of x ≡ q → ⊥) → look_in q xs ≡ none
  last_other x e k =
      let g : get_or xs (length xs - 1) 0 ≡ x = get_or_from_slice_get xs (length xs - 1) x 0 (sym e) in
      missing (λ h. k (ap key_of (sym g) ∙ h.1))

  pub last_empty : None ≡ slice_get xs (length xs - 1) → look_in q xs ≡ none
  last_empty e = missing (λ h. let g = slice_get-get_or xs (length xs - 1) 0 (omega (arith, h.0)) in cc)

module _ (t : List ℕ) (n x : ℕ) (room : n < length t) (rise : Rising (take n t)) (above : NoneAbove (key_of x) (take n t)) where
  width : length (take n t) ≡ n
  width = length-take-le n t (omega arith)

  pub put_end : (0 < n → key_of (get_or t (n - 1) 0) ≡ key_of x → ⊥) → Put x n t (n + 1) (set t n x)
  put_end k =
      put_last t n x n
      (sym width ∙ rank_end (key_of x) (take n t) rise above
      (λ h. let l : 0 < n = omega (arith, width, h.0) in k l (ap key_of (sym (get_or-take n t (n - 1) 0 (omega arith)) ∙ ap (λ i. get_or (take n t) (i - 1) 0) (sym width)) ∙ h.1)))
      room (omega arith)

  pub put_over_last : 0 < n → key_of (get_or t (n - 1) 0) ≡ key_of x → Put x n t n (set t (n - 1) x)
  put_over_last h k =
      let e : get_or (take n t) (length (take n t) - 1) 0 ≡ get_or t (n - 1) 0 = ap (λ i. get_or (take n t) (i - 1) 0) width ∙ get_or-take n t (n - 1) 0 (omega arith) in
      put_there t n x (n - 1) (ap (λ i. i - 1) (sym width) ∙ rank_last (key_of x) (take n t) rise above (omega (arith, width), ap key_of e ∙ k)) (omega arith) (omega arith) k
