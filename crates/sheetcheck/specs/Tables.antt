-- A table of entries: its test says clause by clause what the definitions say of its entries, read one by one.
use Rattle.std.specs.Prelude.{◌≡◌, Bool, true, false, ◌&&◌, ◌||◌, length, get_or}
use Rattle.std.proofs.Math.Path.{refl, sym, ap, ap₂, subst}
use Rattle.std.proofs.Common.{◌∙◌}
use Prim.Native.Nat.{ℕ, zero, suc, ◌+◌, ◌-◌, ◌*◌, ◌≤◌, ◌<◌, compare, Ordering}
use native.Mathlib.Omega.{arith}
use mathlib.Core.List.{List, [], ◌∷◌, map}
use lib.Dec.{T, ltb, eqb, ltb→lt, lt→ltb, eqb→eq}
use Rattle.base.specs.Branch.{if, is_lt}
use Rattle.base.specs.Lists.{All, all, from}
use borrow.Author.Tests.{ne_eqb}
use Rattle.base.specs.BranchLaws.{if_elim, and_l, and_r, and_i, eq→eqb, is_lt_is, is_is_lt}
use Rattle.base.specs.ListLaws.{all_map, all_any}
use Rattle.pools.specs.Count.{from_all, all_from}
use Rattle.rules.specs.Book.{Names}
use Rattle.rules.specs.Reading.{Bytes}
use Rattle.rules.specs.Sheet.{Key, key, key_order}
use Rattle.rules.specs.Sound.{rising, rising_from, has_arity}
use Rattle.images.specs.Storable.{Octet}
use Rattle.packing.specs.Compare.{compare_lt, compare_is_lt}
use Rattle.packing.specs.Pack.{Fits, arity_of, declared_arity, relation_arity, key_order_lem}
use Rattle.sheetparts.specs.Loops.{up_to, every, every_at, at_every}
use Rattle.sheetparts.specs.Tests.{byte_at, spare, named, key_number, rises, unknown, known_at, args_known, entry_right, entry_at, table_right}
use Rattle.sheetcheck.specs.Entries.{args_at, spare_few, args_row, args_length, few_args, packed_here}

-- ---- tests over numbers in a row

pub all_mapped : {A : Type 0} (q : A → Bool) (f : ℕ → A) (is : List ℕ) → all q (map f is) ≡ all (λ i. q (f i)) is
all_mapped q f [] = refl
all_mapped q f (i ∷ is) = ap (λ b. q (f i) && b) (all_mapped q f is)

module _ {A : Type 0} (q : A → Bool) (f : ℕ → A) (n : ℕ) where
  pub all_at : T (all q (map f (up_to 0 n))) → (i : ℕ) → i < n → T (q (f i))
  unfolding every
  all_at t = every_at (λ i. q (f i)) n (subst T (all_mapped q f (up_to 0 n)) t)

  pub at_all : ((i : ℕ) → i < n → T (q (f i))) → T (all q (map f (up_to 0 n)))
  unfolding every
  at_all g = subst T (sym (all_mapped q f (up_to 0 n))) (at_every (λ i. q (f i)) n g)

module _ {A : Type 0} (o : A → A → Ordering) (f : ℕ → A) where
  abbrev Below : ℕ → Type 0
  Below j = T (is_lt (o (f j) (f (suc j))))

  rising_all : (a k : ℕ) → T (rising_from o (f a) (map f (from (suc a) k))) → All Below (from a k)
  unfolding rising_from from
  rising_all a zero t = tt
  rising_all a (suc k) t = (and_l (is_lt (o (f a) (f (suc a)))) _ t, rising_all (suc a) k (and_r (is_lt (o (f a) (f (suc a)))) _ t))

  all_rising : (a k : ℕ) → All Below (from a k) → T (rising_from o (f a) (map f (from (suc a) k)))
  unfolding rising_from from
  all_rising a zero g = tt
  all_rising a (suc k) g = and_i (is_lt (o (f a) (f (suc a)))) _ g.0 (all_rising (suc a) k g.1)

  pub rising_at : (n : ℕ) → T (rising o (map f (up_to 0 n))) → (i : ℕ) → suc i < n → Below i
  unfolding rising up_to from
  rising_at n t i h = go (n - 0) refl t
    where
      go : (m : ℕ) → n - 0 ≡ m → T (rising o (map f (from 0 m))) → Below i
      go zero e u = absurd (omega arith)
      go (suc k) e u = all_from Below 0 k (rising_all 0 k u) i (omega arith) (omega arith)

  pub at_rising : (n : ℕ) → ((i : ℕ) → suc i < n → Below i) → T (rising o (map f (up_to 0 n)))
  unfolding rising up_to from
  at_rising n g = go (n - 0) refl
    where
      go : (m : ℕ) → n - 0 ≡ m → T (rising o (map f (from 0 m)))
      go zero e = tt
      go (suc k) e = all_rising 0 k (from_all Below 0 k (λ j l h. g j (omega arith)))

-- ---- a chain of tests

pub both_of : (a b : Bool) → T (a && b) → T a × T b
both_of a b t = (and_l a b t, and_r a b t)

pub of_both : (a b : Bool) → T a → T b → T (a && b)
of_both a b p q = and_i a b p q

-- ---- an entry's arity

pub named_arity : (d : Names) (facts : Bool) (kind symbol n : ℕ) → T (named d facts kind symbol n) → n ≡ arity_of d kind symbol
unfolding named
named_arity d facts kind symbol n =
    if_elim (λ b. T b → n ≡ arity_of d kind symbol) facts _ _
    (λ _ t. let p = both_of (eqb kind 0) (has_arity d.relations symbol n) t in
    relation_arity d symbol n p.1 ∙ ap (λ k. arity_of d k symbol) (sym (eqb→eq kind 0 p.0)))
    (λ _ t. declared_arity d kind symbol n t)

-- A fact's symbol is a relation with its arity.
pub related_of : (d : Names) (kind symbol n : ℕ) → T (named d true kind symbol n) → T (has_arity d.relations symbol n)
unfolding named if
related_of d kind symbol n t = (both_of (eqb kind 0) (has_arity d.relations symbol n) t).1

pub of_related : (d : Names) (kind symbol n : ℕ) → kind ≡ 0 → T (has_arity d.relations symbol n) → T (named d true kind symbol n)
unfolding named if
of_related d kind symbol n e t = of_both (eqb kind 0) (has_arity d.relations symbol n) (eq→eqb kind 0 e) t

-- ---- the table

-- The key of an entry at a place; of a fact it is of kind 0.
abbrev pub key_of_entry : Bytes → ℕ → Key
key_of_entry s p = key (byte_at s p) (byte_at s (p + 1)) (args_at s p)

-- What the test says of an entry by itself, whatever is known.
pub entry_shape : (d : Names) (facts : Bool) (bound : ℕ) (t : List ℕ) (s : Bytes) (at n : ℕ) → T (table_right d facts bound t s at n) → (i : ℕ) → i < n
    → T (named d facts (byte_at s (at + 8 * i)) (byte_at s (at + 8 * i + 1)) (byte_at s (at + 8 * i + 2))) × (T (spare s (at + 8 * i)) × (byte_at s (at + 8 * i + 7) < bound))
unfolding table_right entry_at entry_right
entry_shape d facts bound t s at n u i h =
    let p = at + 8 * i in
    let a = both_of (named d facts (byte_at s p) (byte_at s (p + 1)) (byte_at s (p + 2))) _ (both_of (entry_right d facts bound t s p) (rises s at i) (every_at (entry_at d facts bound t s at) n u i h)).0 in
    let b = both_of (spare s p) _ a.1 in
    (a.0, (b.0, ltb→lt (byte_at s (p + 7)) bound (both_of (ltb (byte_at s (p + 7)) bound) (args_known t s p) b.1).0))

pub related_kind : (d : Names) (kind symbol n : ℕ) → T (named d true kind symbol n) → kind ≡ 0
unfolding named if
related_kind d kind symbol n t = eqb→eq kind 0 (both_of (eqb kind 0) (has_arity d.relations symbol n) t).0

-- What the definitions say of the entries from a place on, one by one; q tells known elements.
pub record Clauses (d : Names) (facts : Bool) (bound : ℕ) (q : ℕ → Bool) (s : Bytes) (at n : ℕ) : Type 0 where
  pub symbols : (i : ℕ) → i < n → T (named d facts (byte_at s (at + 8 * i)) (byte_at s (at + 8 * i + 1)) (byte_at s (at + 8 * i + 2)))
  pub spares : (i : ℕ) → i < n → T (spare s (at + 8 * i))
  pub values : (i : ℕ) → i < n → byte_at s (at + 8 * i + 7) < bound
  pub knowns : (i : ℕ) → i < n → T (all q (args_at s (at + 8 * i)))
  pub rise : (i : ℕ) → suc i < n → T (is_lt (key_order (key_of_entry s (at + 8 * i)) (key_of_entry s (at + 8 * suc i))))

module _ (d : Names) (facts : Bool) (bound : ℕ) (q : ℕ → Bool) (t : List ℕ) (s : Bytes) (at n : ℕ)
    (fits : at + 8 * n ≤ length s) (bytes : (i : ℕ) → byte_at s i < 256) (knows : (e : ℕ) → e < 256 → ltb (get_or t e 0) unknown ≡ q e) where
  -- Where the i-th entry stands.
  abbrev place : ℕ → ℕ
  place i = at + 8 * i

  room : (i : ℕ) → i < n → place i + 8 ≤ length s
  room i h = omega arith

  octets : (p : ℕ) → p + 8 ≤ length s → byte_at s (p + 2) ≤ 4 → All Octet (args_at s p)
  octets p h f = subst (All Octet) (sym (args_row s p h f)) (all_map (λ _. Unit {0}) Octet (λ j. byte_at s (p + 3 + j)) (λ j _. bytes (p + 3 + j)) (up_to 0 (byte_at s (p + 2))) (all_any (λ _. Unit {0}) (λ _. tt) (up_to 0 (byte_at s (p + 2)))))

  fits_entry : (i : ℕ) → i < n → T (spare s (place i)) → T (named d facts (byte_at s (place i)) (byte_at s (place i + 1)) (byte_at s (place i + 2)))
      → Fits (arity_of d) (key_of_entry s (place i))
  fits_entry i h sp na =
      let f = (spare_few s (place i) sp).0 in
      record {
        kind = bytes (place i);
        symbol = bytes (place i + 1);
        args = octets (place i) (room i h) f;
        few = few_args s (place i) (room i h);
        count = args_length s (place i) (room i h) f ∙ named_arity d facts _ _ _ na;
      }

  module _ (spares : (i : ℕ) → i < n → T (spare s (place i)))
      (symbols : (i : ℕ) → i < n → T (named d facts (byte_at s (place i)) (byte_at s (place i + 1)) (byte_at s (place i + 2)))) where
    ordered : (i : ℕ) → suc i < n → key_order (key_of_entry s (place i)) (key_of_entry s (place (suc i))) ≡ compare (key_number s (place i)) (key_number s (place (suc i)))
    ordered i h =
        let a : i < n = omega arith in
        key_order_lem (key_of_entry s (place i)) (key_of_entry s (place (suc i))) (fits_entry i a (spares i a) (symbols i a)) (fits_entry (suc i) h (spares (suc i) h) (symbols (suc i) h))
        ∙ ap₂ compare (packed_here s (place i) (room i a) (spares i a)) (packed_here s (place (suc i)) (room (suc i) h) (spares (suc i) h))

  -- ---- arguments

  known_args : (p : ℕ) → p + 8 ≤ length s → byte_at s (p + 2) ≤ 4 → args_known t s p ≡ all q (args_at s p)
  unfolding args_known known_at every
  known_args p h f =
      ap (λ l. l) (agree (up_to 0 (byte_at s (p + 2)))) ∙ sym (all_mapped q (λ j. byte_at s (p + 3 + j)) (up_to 0 (byte_at s (p + 2)))) ∙ ap (all q) (sym (args_row s p h f))
    where
      agree : (is : List ℕ) → all (known_at t s p) is ≡ all (λ j. q (byte_at s (p + 3 + j))) is
      agree [] = refl
      agree (j ∷ is) = ap₂ (λ a b. a && b) (knows (byte_at s (p + 3 + j)) (bytes (p + 3 + j))) (agree is)

  -- ---- the test says just that

  -- The entry before the i-th stands eight bytes lower.
  rises_suc : (i : ℕ) → T (rises s at (suc i)) → key_number s (place i) < key_number s (place (suc i))
  unfolding rises
  rises_suc i t =
      let e : at + 8 * suc i - 8 ≡ at + 8 * i = omega arith in
      let z : eqb (suc i) 0 ≡ false = ne_eqb (suc i) 0 (λ q. absurd (omega arith)) in
      ltb→lt (key_number s (place i)) (key_number s (place (suc i))) (subst (λ p. T (ltb (key_number s p) (key_number s (place (suc i))))) e
      (subst T (ap (λ b. b || ltb (key_number s (at + 8 * suc i - 8)) (key_number s (place (suc i)))) z) t))

  pub table_clauses : T (table_right d facts bound t s at n) → Clauses d facts bound q s at n
  unfolding table_right entry_at entry_right
  table_clauses u = record {
    symbols = symbols;
    spares = spares;
    values = λ i h. ltb→lt _ bound (last i h).0;
    knowns = λ i h. subst T (known_args (place i) (room i h) (spare_few s (place i) (spares i h)).0) (last i h).1;
    rise = λ i h. subst (λ o. T (is_lt o)) (sym (ordered spares symbols i h)) (is_is_lt _ (compare_lt _ _ (rises_suc i (both_of (entry_right d facts bound t s (place (suc i))) _ (whole (suc i) h)).1)));
  }
    where
      whole : (i : ℕ) → i < n → T (entry_right d facts bound t s (place i) && rises s at i)
      whole i h = every_at (entry_at d facts bound t s at) n u i h

      entry : (i : ℕ) → i < n → T (named d facts (byte_at s (place i)) (byte_at s (place i + 1)) (byte_at s (place i + 2)))
          × T (spare s (place i) && (ltb (byte_at s (place i + 7)) bound && args_known t s (place i)))
      entry i h = both_of (named d facts (byte_at s (place i)) (byte_at s (place i + 1)) (byte_at s (place i + 2))) _ (both_of (entry_right d facts bound t s (place i)) (rises s at i) (whole i h)).0

      last : (i : ℕ) → i < n → T (ltb (byte_at s (place i + 7)) bound) × T (args_known t s (place i))
      last i h = both_of (ltb (byte_at s (place i + 7)) bound) _ (both_of (spare s (place i)) _ (entry i h).1).1

      symbols : (i : ℕ) → i < n → T (named d facts (byte_at s (place i)) (byte_at s (place i + 1)) (byte_at s (place i + 2)))
      symbols i h = (entry i h).0

      spares : (i : ℕ) → i < n → T (spare s (place i))
      spares i h = (both_of (spare s (place i)) _ (entry i h).1).0

  pub clauses_table : Clauses d facts bound q s at n → T (table_right d facts bound t s at n)
  unfolding table_right entry_at entry_right rises
  clauses_table g = at_every (entry_at d facts bound t s at) n (λ i h.
      of_both (entry_right d facts bound t s (place i)) (rises s at i) (of_both (named d facts (byte_at s (place i)) (byte_at s (place i + 1)) (byte_at s (place i + 2))) _ (g.symbols i h)
      (of_both (spare s (place i)) _ (g.spares i h) (of_both (ltb (byte_at s (place i + 7)) bound) _ (lt→ltb _ bound (g.values i h))
      (subst T (sym (known_args (place i) (room i h) (spare_few s (place i) (g.spares i h)).0)) (g.knowns i h))))) (first i h))
    where
      first : (i : ℕ) → i < n → T (rises s at i)
      first zero h = tt
      first (suc j) h =
          let e : at + 8 * suc j - 8 ≡ at + 8 * j = omega arith in
          let z : eqb (suc j) 0 ≡ false = ne_eqb (suc j) 0 (λ q. absurd (omega arith)) in
          subst T (ap (λ b. b || ltb (key_number s (at + 8 * suc j - 8)) (key_number s (place (suc j)))) (sym z))
          (subst (λ p. T (ltb (key_number s p) (key_number s (place (suc j))))) (sym e) (lt→ltb (key_number s (place j)) (key_number s (place (suc j)))
          (compare_is_lt _ _ (is_lt_is _ (subst (λ o. T (is_lt o)) (ordered g.spares g.symbols j h) (g.rise j h))))))
