-- Texts end further on than they start, and a text stands in any part of the bytes that holds it.
use Rattle.std.specs.Prelude.{◌≡◌, length, get_or, take, drop}
use Rattle.std.proofs.Math.Path.{refl, ap, subst}
use Rattle.std.proofs.Common.{sym, ◌∙◌, length-drop, get_or-take, get_or-drop, length-take-le}
use Prim.Native.Nat.{ℕ, zero, suc, ◌+◌, ◌-◌, ◌*◌, ◌≤◌, ◌<◌}
use native.Mathlib.Omega.{arith}
use mathlib.Core.List.{List, [], ◌∷◌}
use Rattle.rules.specs.Book.{Term, var, con, app, Terms, nil, cons, Literal, fact, same, Origin, Disjunct, Sequent, Names}
use Rattle.rules.specs.Reading.{Bytes, num}
use Rattle.texts.specs.Reads.{Follow}
use Rattle.texts.specs.Names.{nums}
use Rattle.texts.specs.Text.{TermText, TermsText, LiteralText, OriginText, DisjunctText, SequentText}

-- ---- texts grow

mutual
  unfolding TermText

  pub term_grows : (n : Names) (s : Bytes) (at : ℕ) (t : Term) (e : ℕ) → TermText n s at t e → at + 4 ≤ e
  term_grows n s at (var i) e h = omega arith
  term_grows n s at (con c) e h = omega arith
  term_grows n s at (app f ts) e h = terms_grow n s (at + 4) ts e h.1.1.1

  pub terms_grow : (n : Names) (s : Bytes) (at : ℕ) (ts : Terms) (e : ℕ) → TermsText n s at ts e → at ≤ e
  terms_grow n s at nil e h = omega arith
  terms_grow n s at (cons t ts) e h = omega (arith, term_grows n s at t h.0 h.1.0, terms_grow n s h.0 ts e h.1.1)

pub follow_grows : {A : Type 0} (R : ℕ → A → ℕ → Type 0) → ((at : ℕ) (x : A) (e : ℕ) → R at x e → at ≤ e)
    → (at : ℕ) (xs : List A) (e : ℕ) → Follow R at xs e → at ≤ e
unfolding Follow
follow_grows R g at [] e h = omega arith
follow_grows R g at (x ∷ xs) e h = omega (arith, g at x h.0 h.1.0, follow_grows R g h.0 xs e h.1.1)

pub literal_grows : (n : Names) (s : Bytes) (at : ℕ) (l : Literal) (e : ℕ) → LiteralText n s at l e → at + 2 ≤ e
unfolding LiteralText
literal_grows n s at (fact r ts) e h = omega (arith, terms_grow n s (at + 4) ts e h.1.1.1)
literal_grows n s at (same t u) e h = terms_grow n s (at + 2) (cons t (cons u nil)) e h.1

pub literals_grow : (n : Names) (s : Bytes) (at : ℕ) (ls : List Literal) (e : ℕ) → Follow (LiteralText n s) at ls e → at ≤ e
literals_grow n s = follow_grows (LiteralText n s) (λ at l e h. omega (arith, literal_grows n s at l e h))

pub origin_grows : (n : Names) (s : Bytes) (at : ℕ) (o : Origin) (e : ℕ) → OriginText n s at o e → at + 6 ≤ e
origin_grows n s at o e h = omega (arith, h.next)

pub origins_grow : (n : Names) (s : Bytes) (at : ℕ) (os : List Origin) (e : ℕ) → Follow (OriginText n s) at os e → at ≤ e
origins_grow n s = follow_grows (OriginText n s) (λ at o e h. omega (arith, origin_grows n s at o e h))

-- The place of the literals' count lies between, and so do the disjuncts' count and the head.
pub disjunct_grows : (n : Names) (s : Bytes) (at : ℕ) (d : Disjunct) (e : ℕ) (h : DisjunctText n s at d e) → (at + 2 ≤ h.middle) × (h.middle + 2 ≤ e)
disjunct_grows n s at d e h = (origins_grow n s (at + 2) d.origins h.middle h.origins, literals_grow n s (h.middle + 2) d.literals e h.literals)

pub disjuncts_grow : (n : Names) (s : Bytes) (at : ℕ) (ds : List Disjunct) (e : ℕ) → Follow (DisjunctText n s) at ds e → at ≤ e
disjuncts_grow n s = follow_grows (DisjunctText n s) (λ at d e h. (let g = disjunct_grows n s at d e h in omega arith))

pub sequent_grows : (n : Names) (s : Bytes) (at : ℕ) (q : Sequent) (e : ℕ) (h : SequentText n s at q e) → (at + 4 ≤ h.middle) × (h.middle + 2 ≤ e)
sequent_grows n s at q e h = (literals_grow n s (at + 4) q.body h.middle h.body, disjuncts_grow n s (h.middle + 2) q.head e h.head)

pub sequents_grow : (n : Names) (s : Bytes) (at : ℕ) (qs : List Sequent) (e : ℕ) → Follow (SequentText n s) at qs e → at ≤ e
sequents_grow n s = follow_grows (SequentText n s) (λ at q e h. (let g = sequent_grows n s at q e h in omega arith))

-- ---- texts move

-- Bytes u that have the numbers of s from place d to place hi, d places earlier.
module _ (n : Names) (s u : Bytes) (d hi : ℕ) (agree : (i : ℕ) → d ≤ i → i + 2 ≤ hi → num u (i - d) ≡ num s i) where
  later : (at k : ℕ) → d ≤ at → at + k + 2 ≤ hi → num u (at - d + k) ≡ num s (at + k)
  later at k l h = ap (num u) (omega arith) ∙ agree (at + k) (omega arith) h

  nums_moved : (k at : ℕ) → d ≤ at → at + 2 * k ≤ hi → nums u (at - d) k ≡ nums s at k
  unfolding nums
  nums_moved zero at l h = refl
  nums_moved (suc k) at l h = rw (agree at l (omega arith)) (ap (λ r. num s at ∷ r) (ap (λ m. nums u m k) (omega arith) ∙ nums_moved k (at + 2) (omega arith) (omega arith)))

  mutual
    unfolding TermText

    pub term_moved : (at : ℕ) (t : Term) (e : ℕ) → d ≤ at → e ≤ hi → TermText n s at t e → TermText n u (at - d) t (e - d)
    term_moved at (var i) e l h x = (agree at l (omega arith) ∙ x.0, (later at 2 l (omega arith) ∙ x.1.0, omega arith))
    term_moved at (con c) e l h x = (agree at l (omega arith) ∙ x.0, (later at 2 l (omega arith) ∙ x.1.0, omega arith))
    term_moved at (app f ts) e l h x =
        let g = terms_grow n s (at + 4) ts e x.1.1.1 in
        let p : at + 4 - d ≡ at - d + 4 = omega arith in (
          agree at l (omega arith) ∙ x.0,
          (
            later at 2 l (omega arith) ∙ x.1.0,
            (x.1.1.0, subst (λ m. TermsText n u m ts (e - d)) p (terms_moved (at + 4) ts e (omega arith) h x.1.1.1)),
          ),
        )

    pub terms_moved : (at : ℕ) (ts : Terms) (e : ℕ) → d ≤ at → e ≤ hi → TermsText n s at ts e → TermsText n u (at - d) ts (e - d)
    terms_moved at nil e l h x = ap (λ m. m - d) x
    terms_moved at (cons t ts) e l h x =
        let g = term_grows n s at t x.0 x.1.0 in
        let k = terms_grow n s x.0 ts e x.1.1 in
        (x.0 - d, (term_moved at t x.0 l (omega arith) x.1.0, terms_moved x.0 ts e (omega arith) h x.1.1))

  follow_moved : {A : Type 0} (R Q : ℕ → A → ℕ → Type 0) → ((at : ℕ) (x : A) (e : ℕ) → R at x e → at ≤ e)
      → ((at : ℕ) (x : A) (e : ℕ) → d ≤ at → e ≤ hi → R at x e → Q (at - d) x (e - d))
      → (at : ℕ) (xs : List A) (e : ℕ) → d ≤ at → e ≤ hi → Follow R at xs e → Follow Q (at - d) xs (e - d)
  unfolding Follow
  follow_moved R Q g f at [] e l h x = ap (λ m. m - d) x
  follow_moved R Q g f at (y ∷ ys) e l h x =
      let a = g at y x.0 x.1.0 in
      let b = follow_grows R g x.0 ys e x.1.1 in
      (x.0 - d, (f at y x.0 l (omega arith) x.1.0, follow_moved R Q g f x.0 ys e (omega arith) h x.1.1))

  pub literal_moved : (at : ℕ) (l : Literal) (e : ℕ) → d ≤ at → e ≤ hi → LiteralText n s at l e → LiteralText n u (at - d) l (e - d)
  unfolding LiteralText
  literal_moved at (fact r ts) e l h x =
      let g = terms_grow n s (at + 4) ts e x.1.1.1 in
      let p : at + 4 - d ≡ at - d + 4 = omega arith in (
        agree at l (omega arith) ∙ x.0,
        (
          later at 2 l (omega arith) ∙ x.1.0,
          (x.1.1.0, subst (λ m. TermsText n u m ts (e - d)) p (terms_moved (at + 4) ts e (omega arith) h x.1.1.1)),
        ),
      )
  literal_moved at (same t v) e l h x =
      let g = terms_grow n s (at + 2) (cons t (cons v nil)) e x.1 in
      let p : at + 2 - d ≡ at - d + 2 = omega arith in
      (agree at l (omega arith) ∙ x.0, subst (λ m. TermsText n u m (cons t (cons v nil)) (e - d)) p (terms_moved (at + 2) (cons t (cons v nil)) e (omega arith) h x.1))

  pub origin_moved : (at : ℕ) (o : Origin) (e : ℕ) → d ≤ at → e ≤ hi → OriginText n s at o e → OriginText n u (at - d) o (e - d)
  origin_moved at o e l h x =
      let g = x.next in
      let k = length o.args in
      let p : at + 6 - d ≡ at - d + 6 = omega arith in
      record {
        kind = agree at l (omega arith) ∙ x.kind;
        witness = later at 2 l (omega arith) ∙ x.witness;
        count = later at 4 l (omega arith) ∙ x.count;
        arity = x.arity;
        args = x.args ∙ sym (nums_moved k (at + 6) (omega arith) (omega arith)) ∙ ap (λ m. nums u m k) p;
        next = omega arith;
      }

  pub literals_moved : (at : ℕ) (ls : List Literal) (e : ℕ) → d ≤ at → e ≤ hi → Follow (LiteralText n s) at ls e → Follow (LiteralText n u) (at - d) ls (e - d)
  literals_moved = follow_moved (LiteralText n s) (LiteralText n u) (λ at l e h. omega (arith, literal_grows n s at l e h)) literal_moved

  pub origins_moved : (at : ℕ) (os : List Origin) (e : ℕ) → d ≤ at → e ≤ hi → Follow (OriginText n s) at os e → Follow (OriginText n u) (at - d) os (e - d)
  origins_moved = follow_moved (OriginText n s) (OriginText n u) (λ at l e h. omega (arith, origin_grows n s at l e h)) origin_moved

  pub disjunct_moved : (at : ℕ) (x : Disjunct) (e : ℕ) → d ≤ at → e ≤ hi → DisjunctText n s at x e → DisjunctText n u (at - d) x (e - d)
  disjunct_moved at x e l h t =
      let g = disjunct_grows n s at x e t in
      let m = t.middle in
      let p : at + 2 - d ≡ at - d + 2 = omega arith in
      let q : m + 2 - d ≡ m - d + 2 = omega arith in
      record {
        count = agree at l (omega arith) ∙ t.count;
        middle = m - d;
        origins = subst (λ a. Follow (OriginText n u) a x.origins (m - d)) p (origins_moved (at + 2) x.origins m (omega arith) (omega arith) t.origins);
        literal_count = agree m (omega arith) (omega arith) ∙ t.literal_count;
        literals = subst (λ a. Follow (LiteralText n u) a x.literals (e - d)) q (literals_moved (m + 2) x.literals e (omega arith) h t.literals);
      }

  pub sequent_moved : (at : ℕ) (x : Sequent) (e : ℕ) → d ≤ at → e ≤ hi → SequentText n s at x e → SequentText n u (at - d) x (e - d)
  sequent_moved at x e l h t =
      let g = sequent_grows n s at x e t in
      let m = t.middle in
      let p : at + 4 - d ≡ at - d + 4 = omega arith in
      let q : m + 2 - d ≡ m - d + 2 = omega arith in
      let head = follow_moved (DisjunctText n s) (DisjunctText n u) (λ a y b z. (let r = disjunct_grows n s a y b z in omega arith)) disjunct_moved
      (m + 2) x.head e (omega arith) h t.head in
      record {
        free = agree at l (omega arith) ∙ t.free;
        count = later at 2 l (omega arith) ∙ t.count;
        middle = m - d;
        body = subst (λ a. Follow (LiteralText n u) a x.body (m - d)) p (literals_moved (at + 4) x.body m (omega arith) (omega arith) t.body);
        head_count = agree m (omega arith) (omega arith) ∙ t.head_count;
        head = subst (λ a. Follow (DisjunctText n u) a x.head (e - d)) q head;
      }

-- ---- a part of the bytes

-- The bytes from a place to a place.
unfoldable pub part : ℕ → ℕ → Bytes → Bytes
part a e s = take (e - a) (drop a s)

pub part_length : (a e : ℕ) (s : Bytes) → e ≤ length s → length (part a e s) ≡ e - a
unfolding part
part_length a e s h = length-take-le (e - a) (drop a s) (omega (arith, length-drop a s))

part_byte : (a e : ℕ) (s : Bytes) (i : ℕ) → a ≤ i → i < e → get_or (part a e s) (i - a) 0 ≡ get_or s i 0
unfolding part
part_byte a e s i l h = get_or-take (e - a) (drop a s) (i - a) 0 (omega arith) ∙ get_or-drop a s (i - a) 0 ∙ ap (λ k. get_or s k 0) (omega arith)

pub part_num : (a e : ℕ) (s : Bytes) (i : ℕ) → a ≤ i → i + 2 ≤ e → num (part a e s) (i - a) ≡ num s i
unfolding num
part_num a e s i l h =
    let p : suc (i - a) ≡ suc i - a = omega arith in
    omega (arith, part_byte a e s i l (omega arith), ap (λ k. get_or (part a e s) k 0) p ∙ part_byte a e s (suc i) (omega arith) (omega arith))

-- A sequent's text is the whole text of its own part.
pub sequent_part : (n : Names) (s : Bytes) (a : ℕ) (q : Sequent) (e : ℕ) → SequentText n s a q e → e ≤ length s
    → SequentText n (part a e s) 0 q (length (part a e s))
sequent_part n s a q e h l =
    let z : a - a ≡ 0 = omega arith in
    subst (λ m. SequentText n (part a e s) 0 q m) (sym (part_length a e s l))
    (subst (λ m. SequentText n (part a e s) m q (e - a)) z
    (sequent_moved n s (part a e s) a e (part_num a e s) a q e (omega arith) (omega arith) h))
