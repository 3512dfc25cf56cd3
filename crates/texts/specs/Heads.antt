-- The head of a book: what is read of mark, version and names is what `names_in` says, and the parts of an accepted book.
use Rattle.std.specs.Prelude.{◌≡◌, ℕ, zero, suc, ◌+◌, ◌*◌, ◌≤◌, List, [], ◌∷◌, length, get_or, ltb, eqb}
use Rattle.std.proofs.Common.{sym, ap, ◌∙◌, subst, arith, nltb→le, eqb→eq}
use Rattle.base.specs.Branch.{if}
use Rattle.base.specs.Lists.{All}
use Rattle.rules.specs.Book.{Sequent, Names, Book}
use Rattle.rules.specs.Reading.{Bytes, Read, got, refused, and_then, giving, many, num, ranged, mark_byte, mark, version, names_at, sequent_at, ended, read_book}
use Rattle.texts.specs.Reads.{then_got, giving_got, then_agree, then_then, then_giving, if_passed, if_escaped, number_got, ranged_got}
use Rattle.texts.specs.Names.{nums, relations_at, witnesses_at, count_at, sequents_at, names_in}

same_got : {A : Type 0} (a b : A) (p q : ℕ) → got a p ≡ got b q → (a ≡ b) × (p ≡ q)
same_got a b p q h = (cc, cc)

-- ---- numbers in a row

abbrev pub Between : ℕ → ℕ → ℕ → Type 0
Between low high x = (low ≤ x) × (x ≤ high)

-- Numbers of one range, read one after another.
pub record Row (low high : ℕ) (s : Bytes) (k at : ℕ) (xs : List ℕ) (e : ℕ) : Type 0 where
  pub are : xs ≡ nums s at k
  pub next : e ≡ at + 2 * k
  pub fits : at ≤ length s → e ≤ length s
  pub inside : All (Between low high) xs

pub row_got : (low high : ℕ) (s : Bytes) (k at : ℕ) (xs : List ℕ) (e : ℕ) → many k (ranged low high s) at ≡ got xs e → Row low high s k at xs e
unfolding many nums
row_got low high s zero at xs e h =
    let p = same_got [] xs at e h in
    record { are = sym p.0; next = omega arith; fits = λ l. omega arith; inside = subst (All (Between low high)) p.0 tt }
row_got low high s (suc k) at xs e h =
    let t = then_got _ _ _ _ h in
    let n = ranged_got low high s at t.first t.middle t.before in
    let g = giving_got _ _ _ _ t.after in
    let r = row_got low high s k t.middle g.from e g.read in
    record {
      are = g.is ∙ ap (λ y. y ∷ g.from) (sym n.0.is) ∙ ap (λ l. num s at ∷ l) (r.are ∙ ap (λ m. nums s m k) n.0.next);
      next = let a = r.next in let b = n.0.next in omega arith;
      fits = λ l. r.fits n.0.fits;
      inside = subst (All (Between low high)) (sym g.is) (n.1, r.inside);
    }

-- ---- mark and version

mark_byte_got : (c : ℕ) (s : Bytes) (at x e : ℕ) → mark_byte c s at ≡ got x e → e ≡ suc at
unfolding mark_byte
mark_byte_got c s at x e h =
    let p = if_passed _ _ _ _ _ _ h in
    let q = if_passed _ _ _ _ _ _ p.1 in
    sym (same_got c x (suc at) e q.1).1

pub mark_got : (s : Bytes) (x e : ℕ) → mark s ≡ got x e → e ≡ 3
unfolding mark
mark_got s x e h =
    let t = then_got _ _ _ _ h in
    let u = then_got _ _ _ _ t.after in
    let a = mark_byte_got 82 s 0 t.first t.middle t.before in
    let b = mark_byte_got 85 s t.middle u.first u.middle u.before in
    let c = mark_byte_got 76 s u.middle x e u.after in
    omega arith

pub version_got : (s : Bytes) (at x e : ℕ) → version s at ≡ got x e → (e ≡ at + 2) × (e ≤ length s)
unfolding version
version_got s at x e h =
    let t = then_got _ _ _ _ h in
    let n = number_got s at t.first t.middle t.before in
    let p = if_passed _ _ _ _ _ _ t.after in
    let q = (same_got t.first x t.middle e p.1).1 in
    let a = n.next in let b = n.fits in
    (omega arith, omega arith)

-- ---- names

many_step : {A B : Type 0} (n : ℕ) (f : ℕ → Read A) (at : ℕ) (g : List A → ℕ → Read B)
    → and_then (many (suc n) f at) g ≡ and_then (f at) (λ x e. and_then (many n f e) (λ xs. g (x ∷ xs)))
unfolding many
many_step n f at g = then_then (f at) _ g ∙ then_agree (f at) _ _ (λ x e. then_giving (λ xs. x ∷ xs) (many n f e) g)

-- The five counts are one row.
pub five : {B : Type 0} (f : ℕ → Read ℕ) (at : ℕ) (K : ℕ → ℕ → ℕ → ℕ → ℕ → ℕ → Read B)
    → and_then (f at) (λ x a. and_then (f a) (λ y b. and_then (f b) (λ z c. and_then (f c) (λ v d. and_then (f d) (λ w e. K x y z v w e)))))
    ≡ and_then (many 5 f at) (λ xs e. K (get_or xs 0 0) (get_or xs 1 0) (get_or xs 2 0) (get_or xs 3 0) (get_or xs 4 0) e)
unfolding many and_then
five f at K = sym (
    many_step 4 f at _ ∙ then_agree (f at) _ _ (λ x a. many_step 3 f a _ ∙ then_agree (f a) _ _ (λ y b.
    many_step 2 f b _ ∙ then_agree (f b) _ _ (λ z c. many_step 1 f c _ ∙ then_agree (f c) _ _ (λ v d. many_step 0 f d _)))))

-- What comes behind the counts.
unfoldable pub arities_at : Bytes → List ℕ → ℕ → Read Names
arities_at s xs e =
    and_then (many (get_or xs 1 0) (ranged 0 4 s) e) (λ fs g. and_then (many (get_or xs 2 0) (ranged 0 4 s) g) (λ rs h.
    giving (λ ws. record { constants = get_or xs 0 0; functions = fs; relations = rs; constant_witnesses = get_or xs 3 0; function_witnesses = ws })
    (many (get_or xs 4 0) (ranged 1 4 s) h)))

pub names_rows : (s : Bytes) (at : ℕ) → names_at s at ≡ and_then (many 5 (ranged 0 64 s) at) (arities_at s)
unfolding names_at arities_at
names_rows s at = five (ranged 0 64 s) at _

-- The names of a head that was read, with the ranges of document 01.
pub record Head (s : Bytes) (n : Names) (e : ℕ) : Type 0 where
  pub are : n ≡ names_in s
  pub next : e ≡ count_at s
  pub fits : e ≤ length s
  pub constants : num s 5 ≤ 64
  pub functions : num s 7 ≤ 64
  pub relations : num s 9 ≤ 64
  pub constant_witnesses : num s 11 ≤ 64
  pub function_witnesses : num s 13 ≤ 64
  pub function_arities : All (Between 0 4) (names_in s).functions
  pub relation_arities : All (Between 0 4) (names_in s).relations
  pub witness_arities : All (Between 1 4) (names_in s).function_witnesses

named : (c w : ℕ) (fs gs rs qs ws xs : List ℕ) → fs ≡ gs → rs ≡ qs → ws ≡ xs
    → ◌≡◌ {A = Names} (record { constants = c; functions = fs; relations = rs; constant_witnesses = w; function_witnesses = ws })
    (record { constants = c; functions = gs; relations = qs; constant_witnesses = w; function_witnesses = xs })
named c w fs gs rs qs ws xs p q r = rw (p, q, r)

names_got : (s : Bytes) (n : Names) (e : ℕ) → 5 ≤ length s → names_at s 5 ≡ got n e → Head s n e
unfolding names_in relations_at witnesses_at count_at arities_at nums
names_got s n e l h =
    let t = then_got _ _ _ _ (sym (names_rows s 5) ∙ h) in
    let c = row_got 0 64 s 5 5 t.first t.middle t.before in
    let q = subst (λ xs. arities_at s xs t.middle ≡ got n e) c.are t.after in
    let u = then_got _ _ _ _ q in
    let v = then_got _ _ _ _ u.after in
    let w = giving_got _ _ _ _ v.after in
    let f = row_got 0 4 s (num s 7) t.middle u.first u.middle u.before in
    let r = row_got 0 4 s (num s 9) u.middle v.first v.middle v.before in
    let x = row_got 1 4 s (num s 13) v.middle w.from e w.read in
    let i = subst (All (Between 0 64)) c.are c.inside in
    let a : t.middle ≡ 15 = omega (arith, c.next) in
    let b : u.middle ≡ 15 + 2 * num s 7 = omega (arith, f.next) in
    let d : v.middle ≡ 15 + 2 * num s 7 + 2 * num s 9 = omega (arith, r.next) in
    let fs = f.are ∙ ap (λ m. nums s m (num s 7)) a in
    let rs = r.are ∙ ap (λ m. nums s m (num s 9)) b in
    let ws = x.are ∙ ap (λ m. nums s m (num s 13)) d in
    record {
      are = w.is ∙ named (num s 5) (num s 11) _ _ _ _ _ _ fs rs ws;
      next = omega (arith, x.next);
      fits = x.fits (r.fits (f.fits (c.fits l)));
      constants = i.0.1;
      functions = i.1.0.1;
      relations = i.1.1.0.1;
      constant_witnesses = i.1.1.1.0.1;
      function_witnesses = i.1.1.1.1.0.1;
      function_arities = subst (All (Between 0 4)) fs f.inside;
      relation_arities = subst (All (Between 0 4)) rs r.inside;
      witness_arities = subst (All (Between 1 4)) ws x.inside;
    }

-- ---- the whole book

unfoldable pub front_at : Bytes → Read Names
front_at s = and_then (mark s) (λ _ a. and_then (version s a) (λ _ b. names_at s b))

unfoldable pub sequents_from : Bytes → Names → ℕ → Read Book
sequents_from s n c = and_then (ranged 0 128 s c) (λ k d. and_then (many k (sequent_at n s) d) (λ ss e. ended s (record { names = n; sequents = ss }) e))

pub read_parts : (s : Bytes) → read_book s ≡ if (ltb 32768 (length s)) (λ _. refused 1 0) (λ _. and_then (front_at s) (sequents_from s))
unfolding read_book front_at sequents_from
read_parts s = ap (λ r. if (ltb 32768 (length s)) (λ _. refused 1 0) (λ _. r))
    (sym (then_then (mark s) _ _ ∙ then_agree (mark s) _ _ (λ _ a. then_then (version s a) _ _)))

pub front_got : (s : Bytes) (n : Names) (e : ℕ) → front_at s ≡ got n e → Head s n e
unfolding front_at
front_got s n e h =
    let t = then_got _ _ _ _ h in
    let u = then_got _ _ _ _ t.after in
    let a = mark_got s t.first t.middle t.before in
    let b = version_got s t.middle u.first u.middle u.before in
    let c : u.middle ≡ 5 = omega arith in
    names_got s n e (omega arith) (subst (λ m. names_at s m ≡ got n e) c u.after)

-- An accepted book: its names are those of its head, its sequents follow one another to the end.
pub record Accepted (s : Bytes) (b : Book) : Type 0 where
  pub small : length s ≤ 32768
  pub head : Head s b.names (count_at s)
  pub count : num s (count_at s) ≤ 128
  pub starts : sequents_at s ≤ length s
  pub read : many (num s (count_at s)) (sequent_at (names_in s) s) (sequents_at s) ≡ got b.sequents (length s)

moved : (s : Bytes) (n m : Names) (k j d c : ℕ) (ss ts : List Sequent) (e g : ℕ) → n ≡ m → k ≡ j → d ≡ c → ss ≡ ts → e ≡ g
    → many k (sequent_at n s) d ≡ got ss e → many j (sequent_at m s) c ≡ got ts g
moved s n m k j d c ss ts e g p q r t u h = rw (← p, ← q, ← r, ← t, ← u) h

pub accepted : (s : Bytes) (b : Book) (e : ℕ) → read_book s ≡ got b e → Accepted s b
unfolding sequents_from sequents_at ended
accepted s b e h =
    let p = if_escaped (ltb 32768 (length s)) (λ _. and_then (front_at s) (sequents_from s)) 1 0 b e (sym (read_parts s) ∙ h) in
    let t = then_got _ _ _ _ p.1 in
    let f = front_got s t.first t.middle t.before in
    let u = then_got _ _ _ _ t.after in
    let v = then_got _ _ _ _ u.after in
    let k = ranged_got 0 128 s t.middle u.first u.middle u.before in
    let q = if_passed (eqb v.middle (length s)) (λ _. got (record { names = t.first; sequents = v.first }) v.middle) 10 v.middle b e v.after in
    let i = same_got (record { names = t.first; sequents = v.first }) b v.middle e q.1 in
    let l = eqb→eq v.middle (length s) q.0 in
    let d : u.middle ≡ count_at s + 2 = omega (arith, k.0.next, f.next) in
    let w : u.first ≡ num s (count_at s) = sym k.0.is ∙ ap (num s) f.next in
    let names : t.first ≡ b.names = ap (λ (x : Book). x.names) i.0 in
    let seqs : v.first ≡ b.sequents = ap (λ (x : Book). x.sequents) i.0 in
    record {
      small = nltb→le 32768 (length s) p.0;
      head = subst (λ m. Head s b.names m) f.next (subst (λ n. Head s n t.middle) names f);
      count = omega (arith, k.1.1);
      starts = omega (arith, k.0.fits);
      read = moved s _ _ _ _ _ _ _ _ _ _ f.are w d seqs l v.before;
    }

-- A text that is read as a book.
pub record ReadAs (s : Bytes) : Type 0 where
  pub book : Book
  pub end : ℕ
  pub reads : read_book s ≡ got book end

pub read_as : (s : Bytes) (b : Book) (e : ℕ) → read_book s ≡ got b e → ReadAs s
read_as s b e q = record { book = b; end = e; reads = q }
