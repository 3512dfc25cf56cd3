-- The ways out of looking and putting in, over the first n entries of a longer list: one law for each.
use Rattle.std.specs.Prelude.{◌≡◌, ℕ, suc, ◌+◌, ◌-◌, ◌≤◌, ◌<◌, List, [], ◌∷◌, ◌++◌, true, false, length, take, drop, set}
use Rattle.std.proofs.Common.{sym, ap₂, ◌∙◌, subst, arith, add-one, append_assoc, length-append, length-take, length-drop, drop_of_length-le, take-append-drop, take_at, drop_at, take-take, length-take-le, get_or-take, drop-drop}
use Rattle.std.proofs.Math.Path.{refl, ap}
use Rattle.std.proofs.Math.Option.{Option, none, some}
use Rattle.std.specs.Prelude as std
use Rattle.std.specs.Prelude.{Some, None}
use Rattle.std.proofs.lemmas.Option.{none-some, same_Some}
use Rattle.base.specs.Branch.{case_o}
use Rattle.std.proofs.Math.ListN.{get_or}
use Rattle.std.proofs.lemmas.List.{set_split}
use Rattle.std.proofs.Math.Seq.{append_snoc}
use Rattle.images.specs.Kept.{drop_take}
use Rattle.packing.specs.Replace.{key_of, value_of}
use Rattle.tables.specs.Table.{rank, look_in, put_in, option_of, is_some, Here, look_here, look_none, over, insert_at, put_over, put_new}

-- What putting x among the first n entries of t gives: the count afterwards and the list.
pub record Put (x n : ℕ) (t : List ℕ) (r : ℕ) (t' : List ℕ) : Type 0 where
  pub table : t' ≡ put_in x (take n t) ++ drop r t
  pub count : r ≡ length (put_in x (take n t))
  pub low : n ≤ r
  pub high : r ≤ n + 1

-- The table afterwards, and what lies behind it.
pub put_front : {x n r : ℕ} {t t' : List ℕ} → Put x n t r t' → take r t' ≡ put_in x (take n t)
put_front {x} {n} {r} {t} {t'} p = rw p.table (take_at (put_in x (take n t)) (drop r t) r (sym p.count))

pub put_behind : {x n r : ℕ} {t t' : List ℕ} → Put x n t r t' → drop r t' ≡ drop r t
put_behind {x} {n} {r} {t} {t'} p = rw p.table (drop_at (put_in x (take n t)) (drop r t) r (sym p.count))

module _ (t : List ℕ) (n q r : ℕ) (fits : n ≤ length t) (e : r ≡ rank q (take n t)) where
  width : length (take n t) ≡ n
  width = length-take-le n t fits

  pub found : r < n → key_of (get_or t r 0) ≡ q → Here q (take n t) (rank q (take n t))
  found l k = subst (Here q (take n t)) e (omega (arith, width), ap key_of (get_or-take n t r 0 l) ∙ k)

  pub past : n ≤ r → Here q (take n t) (rank q (take n t)) → ⊥
  past l h = omega (arith, width, h.0)

  pub other : r < n → (key_of (get_or t r 0) ≡ q → ⊥) → Here q (take n t) (rank q (take n t)) → ⊥
  other l k h = k (ap key_of (sym (get_or-take n t r 0 l)) ∙ (subst (Here q (take n t)) (sym e) h).1)

  pub absent : (r < n → key_of (get_or t r 0) ≡ q → ⊥) → Here q (take n t) (rank q (take n t)) → ⊥
  absent k h =
      let l : r < n = omega (arith, width, h.0) in
      k l (ap key_of (sym (get_or-take n t r 0 l)) ∙ (subst (Here q (take n t)) (sym e) h).1)

-- What a whole table has at the place of a key, as code answers.
module _ (t : List ℕ) (q r : ℕ) (e : r ≡ rank q t) where
  pub whole_found : r < length t → key_of (get_or t r 0) ≡ q → Some (value_of (get_or t r 0)) ≡ option_of (look_in q t)
  whole_found l k =
      let h : Here q t (rank q t) = subst (Here q t) e (l, k) in
      ap (λ i. Some (value_of (get_or t i 0))) e ∙ ap option_of (sym (look_here q t h))

  pub whole_past : length t ≤ r → None ≡ option_of (look_in q t)
  whole_past l = ap option_of (sym (look_none q t (λ h. omega (arith, h.0, e))))

  pub whole_other : (key_of (get_or t r 0) ≡ q → ⊥) → None ≡ option_of (look_in q t)
  whole_other k = ap option_of (sym (look_none q t (λ h. k (ap (λ i. key_of (get_or t i 0)) e ∙ h.1))))

-- What code answers tells what the table has.
pub look_some : (q : ℕ) (xs : List ℕ) (v : ℕ) → Some v ≡ option_of (look_in q xs) → look_in q xs ≡ some v
look_some q xs v e = go (look_in q xs) e
  where
    go : (o : Option ℕ) → Some v ≡ option_of o → o ≡ some v
    go none i = absurd (none-some v (sym i))
    go (some x) i = ap some (sym (same_Some v x i))

pub look_missing : (q : ℕ) (xs : List ℕ) (r : std.Option ℕ) → r ≡ option_of (look_in q xs) → std.is_some r ≡ false → look_in q xs ≡ none
look_missing q xs r e n = go (look_in q xs) e
  where
    go : (o : Option ℕ) → r ≡ option_of o → o ≡ none
    go none i = refl
    go (some x) i = let z : true ≡ false = sym (ap std.is_some i) ∙ n in absurd (cc)

-- Whether there is a value, as code answers.
pub some_is : (o : Option ℕ) (r : std.Option ℕ) → r ≡ option_of o → std.is_some r ≡ is_some o
unfolding is_some case_o
some_is none r e = ap std.is_some e
some_is (some v) r e = ap std.is_some e

module _ (t : List ℕ) (n x r : ℕ) (e : r ≡ rank (key_of x) (take n t)) where
  -- Over an entry with that key.
  pub put_there : n ≤ length t → r < n → key_of (get_or t r 0) ≡ key_of x → Put x n t n (set t r x)
  put_there fits l k =
      let w = length-take-le n t fits in
      let i : put_in x (take n t) ≡ take r t ++ x ∷ drop (suc r) (take n t) =
      put_over x (take n t) (found t n (key_of x) r fits e l k) ∙ ap (λ j. over j x (take n t)) (sym e) ∙ ap (λ (a : List ℕ). a ++ x ∷ drop (suc r) (take n t)) (take-take r n t (omega arith)) in
      let d : drop (suc r) t ≡ drop (suc r) (take n t) ++ drop n t = seam (suc r) (omega arith) fits in
      let c : length (put_in x (take n t)) ≡ n = ap length i ∙ simp (length-append, length-take, length-drop) (omega arith) in
      record {
        table = set_split t r x (omega arith) ∙ ap (λ (a : List ℕ). take r t ++ x ∷ a) d ∙ sym (append_assoc (take r t) (x ∷ drop (suc r) (take n t)) (drop n t)) ∙ ap (λ (a : List ℕ). a ++ drop n t) (sym i);
        count = sym c;
        low = omega arith;
        high = omega arith;
      }
    where
      seam : (a : ℕ) → a ≤ n → n ≤ length t → drop a t ≡ drop a (take n t) ++ drop n t
      seam a h f =
          let b : a + (n - a) ≡ n = omega arith in
          sym (take-append-drop (n - a) (drop a t)) ∙ ap₂ (λ (y z : List ℕ). y ++ z) (sym (drop_take a n t)) (drop-drop (n - a) a t ∙ ap (λ m. drop m t) b)

  -- Into a gap: what was inserted there.
  pub put_gap : n < length t → r ≤ n → (Here (key_of x) (take n t) (rank (key_of x) (take n t)) → ⊥) → (t' : List ℕ)
      → t' ≡ insert_at r x (take n t) ++ drop (n + 1) t → Put x n t (n + 1) t'
  put_gap room l h t' w =
      let i : put_in x (take n t) ≡ insert_at r x (take n t) = put_new x (take n t) h ∙ ap (λ j. insert_at j x (take n t)) (sym e) in
      let k = length-take-le n t (omega arith) in
      let c : length (put_in x (take n t)) ≡ n + 1 = ap length i ∙ simp (length-append, length-take, length-drop) (omega arith) in
      record { table = w ∙ ap (λ (a : List ℕ). a ++ drop (n + 1) t) (sym i); count = sym c; low = omega arith; high = omega arith }

  -- Behind the last entry.
  pub put_last : n < length t → r ≡ n → Put x n t (n + 1) (set t n x)
  put_last room l =
      let w = length-take-le n t (omega arith) in
      put_gap room (omega arith) (past t n (key_of x) r (omega arith) e (omega arith)) (set t n x)
      (set_split t n x room ∙ sym (append_snoc (take n t) x (drop (suc n) t)) ∙ ap₂ (λ (a : List ℕ) (b : ℕ). a ++ drop b t) front (sym (add-one n)))
    where
      front : take n t ++ (x ∷ []) ≡ insert_at r x (take n t)
      front =
          rw l
          (let a = take-take n n t (omega arith) in
          let b : drop n (take n t) ≡ [] = drop_of_length-le (take n t) {i = n} (simp length-take (omega arith)) in
          rw (a, b))
