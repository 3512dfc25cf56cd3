-- What was read stands in the text: from a reading that gave a thing to the thing's text, which ends within the bytes.
use Rattle.std.specs.Prelude.{◌≡◌, refl, ℕ, zero, suc, ◌+◌, ◌*◌, ◌≤◌, Bool, ◌&&◌, List, [], ◌∷◌, length, get_or, ltb, eqb}
use Rattle.std.proofs.Common.{sym, ap, ◌∙◌, subst, arith, eqb→eq}
use Rattle.base.specs.Branch.{if}
use Rattle.rules.specs.Book.{Term, var, con, app, terms, Literal, Origin, Disjunct, Sequent, Names, Book}
use Rattle.rules.specs.Reading.{Bytes, Read, got, refused, and_then, giving, many, num, declared, term_at, literal_at, origin_at, disjunct_at, sequent_at, witnesses, witness_arity, levels}
use Rattle.texts.specs.Reads.{then_got, giving_got, if_got, if_passed, if_escaped, number_got, ranged_got, declared_got, Follow, many_got, many_fits}
use Rattle.texts.specs.Names.{nums, names_in, count_at, sequents_at}
use Rattle.texts.specs.Heads.{Accepted}
use Rattle.texts.specs.Text.{count, TermText, TermsText, LiteralText, OriginText, DisjunctText, SequentText}

-- ---- terms

pub count_terms : (ts : List Term) → count (terms ts) ≡ length ts
unfolding count terms
count_terms [] = refl
count_terms (t ∷ ts) = ap suc (count_terms ts)

pub follow_terms : (n : Names) (s : Bytes) (at : ℕ) (ts : List Term) (e : ℕ) → Follow (TermText n s) at ts e → TermsText n s at (terms ts) e
unfolding Follow TermsText terms
follow_terms n s at [] e h = h
follow_terms n s at (t ∷ ts) e h = (h.0, (h.1.0, follow_terms n s h.0 ts e h.1.1))

never : {A C : Type 0} (k p : ℕ) (a : A) (e : ℕ) → refused k p ≡ got a e → C
never k p a e h = let z : ◌≡◌ {A = ℕ} 0 1 = cc in absurd (omega arith)

-- A variable or a constant: its number.
leaf : (make : ℕ → Term) (m : ℕ) (s : Bytes) (at : ℕ) (t : Term) (e : ℕ) → giving make (declared m s at) ≡ got t e
    → ((i : ℕ) × ((t ≡ make i) × ((num s at ≡ i) × (e ≡ at + 2)))) × (e ≤ length s)
leaf make m s at t e h =
    let g = giving_got _ _ _ _ h in
    let d = declared_got m s at g.from e g.read in
    ((g.from, (g.is, (d.0.is, d.0.next))), d.0.fits)

-- Terms as many as counted, where each that is read has its text.
row : (n : Names) (s : Bytes) (f : ℕ → Read Term) → ((at : ℕ) (t : Term) (e : ℕ) → f at ≡ got t e → TermText n s at t e × (e ≤ length s))
    → (k at : ℕ) (ts : List Term) (e : ℕ) → at ≤ length s → many k f at ≡ got ts e
    → (TermsText n s at (terms ts) e × (count (terms ts) ≡ k)) × (e ≤ length s)
row n s f r k at ts e l h =
    let p = many_got (TermText n s) f (λ a t m q. (r a t m q).0) k at ts e h in
    ((follow_terms n s at ts e p.0, count_terms ts ∙ p.1), many_fits s f (λ a t m q. (r a t m q).1) k at ts e l h)

-- What readings of terms give stands in the text.
abbrev pub Gives : Names → Bytes → (ℕ → Read Term) → Type 0
Gives n s f = (at : ℕ) (t : Term) (e : ℕ) → f at ≡ got t e → TermText n s at t e × (e ≤ length s)

application_got : (n : Names) (s : Bytes) (f : ℕ → Read Term) (deep : ℕ → Bool) (at m : ℕ) (t : Term) (e : ℕ) → Gives n s f → num s at ≡ 2 → m ≡ at + 2
    → and_then (declared (length n.functions) s m) (λ g p. if (deep g) (λ _. refused 8 m) (λ _. giving (λ ts. app g (terms ts)) (many (get_or n.functions g 0) f p))) ≡ got t e
    → TermText n s at t e × (e ≤ length s)
unfolding TermText
application_got n s f deep at m t e r two next h =
    let k = then_got _ _ _ _ h in
    let d = declared_got (length n.functions) s m k.first k.middle k.before in
    let i = if_escaped (deep k.first) _ _ _ _ _ k.after in
    let g = giving_got _ _ _ _ i.1 in
    let p = row n s f r (get_or n.functions k.first 0) k.middle g.from e d.0.fits g.read in
    let q : k.middle ≡ at + 4 = omega (arith, d.0.next) in (
      subst (λ u. TermText n s at u e) (sym g.is)
          (two, (ap (num s) (sym next) ∙ d.0.is, (p.0.1, subst (λ a. TermsText n s a (terms g.from) e) q p.0.0))),
      p.1,
    )

pub term_got : (l : ℕ) (n : Names) (v : ℕ) (s : Bytes) → Gives n s (term_at l n v s)
unfolding term_at TermText
term_got zero n v s at t e h = never 8 at t e h
term_got (suc l) n v s at t e h =
    let k = then_got _ _ _ _ h in
    let d = number_got s at k.first k.middle k.before in
    let r = term_got l n v s in
    if_got (eqb k.first 0) _ _ t e (λ z q. (
    let p = leaf var v s k.middle t e q in
    let is = eqb→eq k.first 0 z in
    (subst (λ u. TermText n s at u e) (sym p.0.1.0) (d.is ∙ is, (ap (num s) (sym d.next) ∙ p.0.1.1.0, omega (arith, d.next, p.0.1.1.1))), p.1)))
    (λ _ a. if_got (eqb k.first 1) _ _ t e (λ z q. (
    let p = leaf con n.constants s k.middle t e q in
    let is = eqb→eq k.first 1 z in
    (subst (λ u. TermText n s at u e) (sym p.0.1.0) (d.is ∙ is, (ap (num s) (sym d.next) ∙ p.0.1.1.0, omega (arith, d.next, p.0.1.1.1))), p.1)))
    (λ _ b. if_got (eqb k.first 2) _ _ t e
    (λ z q. application_got n s (term_at l n v s) (λ f. eqb l 0 && ltb 0 (get_or n.functions f 0)) at k.middle t e r (d.is ∙ eqb→eq k.first 2 z) d.next q)
    (λ _ q. never 6 at t e q) b) a) k.after

-- ---- literals

pub literal_got : (n : Names) (v : ℕ) (s : Bytes) (at : ℕ) (l : Literal) (e : ℕ) → literal_at n v s at ≡ got l e → LiteralText n s at l e × (e ≤ length s)
unfolding literal_at LiteralText TermsText
literal_got n v s at l e h =
    let k = then_got _ _ _ _ h in
    let d = number_got s at k.first k.middle k.before in
    let r = term_got levels n v s in
    if_got (eqb k.first 0) _ _ l e (λ z a. (
    let t = then_got _ _ _ _ a in
    let c = declared_got (length n.relations) s k.middle t.first t.middle t.before in
    let g = giving_got _ _ _ _ t.after in
    let p = row n s (term_at levels n v s) r (get_or n.relations t.first 0) t.middle g.from e c.0.fits g.read in
    let q : t.middle ≡ at + 4 = omega (arith, c.0.next, d.next) in (
      subst (λ u. LiteralText n s at u e) (sym g.is)
          (d.is ∙ eqb→eq k.first 0 z, (ap (num s) (sym d.next) ∙ c.0.is, (p.0.1, subst (λ m. TermsText n s m (terms g.from) e) q p.0.0))),
      p.1,
    )))
    (λ _ b. if_got (eqb k.first 1) _ _ l e (λ z a. (
    let t = then_got _ _ _ _ a in
    let g = giving_got _ _ _ _ t.after in
    let x = r k.middle t.first t.middle t.before in
    let y = r t.middle g.from e g.read in (
      subst (λ u. LiteralText n s at u e) (sym g.is)
          (d.is ∙ eqb→eq k.first 1 z, (t.middle, (subst (λ m. TermText n s m t.first t.middle) d.next x.0, (e, (y.0, refl))))),
      y.1,
    )))
    (λ _ q. never 6 at l e q) b) k.after

-- ---- origins, disjuncts, sequents

-- Variables in a row.
variables_got : (v : ℕ) (s : Bytes) (k at : ℕ) (xs : List ℕ) (e : ℕ) → many k (declared v s) at ≡ got xs e → (xs ≡ nums s at k) × ((e ≡ at + 2 * k) × (length xs ≡ k))
unfolding many nums
variables_got v s zero at xs e h =
    let p : [] ≡ xs = cc in let q : at ≡ e = cc in
    (sym p, (omega arith, sym (ap length p)))
variables_got v s (suc k) at xs e h =
    let t = then_got _ _ _ _ h in
    let d = declared_got v s at t.first t.middle t.before in
    let g = giving_got _ _ _ _ t.after in
    let r = variables_got v s k t.middle g.from e g.read in
    let next = d.0.next in (
      g.is ∙ ap (λ y. y ∷ g.from) (sym d.0.is) ∙ ap (λ l. num s at ∷ l) (r.0 ∙ ap (λ m. nums s m k) next),
      (omega (arith, r.1.0), ap length g.is ∙ ap suc r.1.1),
    )

pub origin_got : (n : Names) (v : ℕ) (s : Bytes) (at : ℕ) (o : Origin) (e : ℕ) → origin_at n v s at ≡ got o e → OriginText n s at o e × (e ≤ length s)
unfolding origin_at
origin_got n v s at o e h =
    let k = then_got _ _ _ _ h in
    let d = number_got s at k.first k.middle k.before in
    let i = if_escaped _ _ _ _ _ _ k.after in
    let w = then_got _ _ _ _ i.1 in
    let x = declared_got (witnesses n k.first) s k.middle w.first w.middle w.before in
    let c = then_got _ _ _ _ w.after in
    let y = number_got s w.middle c.first c.middle c.before in
    let j = if_passed (eqb c.first (witness_arity n k.first w.first)) _ _ _ _ _ c.after in
    let g = giving_got _ _ _ _ j.1 in
    let a = variables_got v s c.first c.middle g.from e g.read in
    let f = many_fits s (declared v s) (λ b z m q. (declared_got v s b z m q).0.fits) c.first c.middle g.from e y.fits g.read in
    let p : w.middle ≡ at + 4 = omega (arith, d.next, x.0.next) in
    let q : c.middle ≡ at + 6 = omega (arith, y.next) in
    let z : c.first ≡ length g.from = sym a.1.1 in
    let made = subst (λ u. OriginText n s at u e) (sym g.is) (record {
      kind = d.is;
      witness = ap (num s) (sym d.next) ∙ x.0.is;
      count = ap (num s) (sym p) ∙ y.is ∙ z;
      arity = a.1.1 ∙ eqb→eq c.first (witness_arity n k.first w.first) j.0;
      args = a.0 ∙ ap (λ m. nums s m c.first) q ∙ ap (nums s (at + 6)) z;
      next = omega (arith, a.1.0);
    }) in
    (made, f)

pub disjunct_got : (n : Names) (v : ℕ) (s : Bytes) (at : ℕ) (d : Disjunct) (e : ℕ) → disjunct_at n v s at ≡ got d e → DisjunctText n s at d e × (e ≤ length s)
unfolding disjunct_at
disjunct_got n v s at d e h =
    let k = then_got _ _ _ _ h in
    let x = ranged_got 0 4 s at k.first k.middle k.before in
    let o = then_got _ _ _ _ k.after in
    let os = many_got (OriginText n s) (origin_at n v s) (λ a u m q. (origin_got n v s a u m q).0) k.first k.middle o.first o.middle o.before in
    let m = then_got _ _ _ _ o.after in
    let y = ranged_got 0 16 s o.middle m.first m.middle m.before in
    let g = giving_got _ _ _ _ m.after in
    let w = v + k.first in
    let ls = many_got (LiteralText n s) (literal_at n w s) (λ a u b q. (literal_got n w s a u b q).0) m.first m.middle g.from e g.read in
    let f = many_fits s (literal_at n w s) (λ a u b q. (literal_got n w s a u b q).1) m.first m.middle g.from e y.0.fits g.read in (
      subst (λ u. DisjunctText n s at u e) (sym g.is) (record {
        count = x.0.is ∙ sym os.1;
        middle = o.middle;
        origins = subst (λ a. Follow (OriginText n s) a o.first o.middle) x.0.next os.0;
        literal_count = y.0.is ∙ sym ls.1;
        literals = subst (λ a. Follow (LiteralText n s) a g.from e) y.0.next ls.0;
      }),
      f,
    )

pub sequent_got : (n : Names) (s : Bytes) (at : ℕ) (q : Sequent) (e : ℕ) → sequent_at n s at ≡ got q e → SequentText n s at q e × (e ≤ length s)
unfolding sequent_at
sequent_got n s at q e h =
    let v = then_got _ _ _ _ h in
    let w = ranged_got 0 4 s at v.first v.middle v.before in
    let k = then_got _ _ _ _ v.after in
    let x = ranged_got 0 16 s v.middle k.first k.middle k.before in
    let b = then_got _ _ _ _ k.after in
    let ls = many_got (LiteralText n s) (literal_at n v.first s) (λ a u m r. (literal_got n v.first s a u m r).0) k.first k.middle b.first b.middle b.before in
    let m = then_got _ _ _ _ b.after in
    let y = ranged_got 0 8 s b.middle m.first m.middle m.before in
    let g = giving_got _ _ _ _ m.after in
    let ds = many_got (DisjunctText n s) (disjunct_at n v.first s) (λ a u c r. (disjunct_got n v.first s a u c r).0) m.first m.middle g.from e g.read in
    let f = many_fits s (disjunct_at n v.first s) (λ a u c r. (disjunct_got n v.first s a u c r).1) m.first m.middle g.from e y.0.fits g.read in
    let next : k.middle ≡ at + 4 = omega (arith, w.0.next, x.0.next) in (
      subst (λ u. SequentText n s at u e) (sym g.is) (record {
        free = w.0.is;
        count = ap (num s) (sym w.0.next) ∙ x.0.is ∙ sym ls.1;
        middle = b.middle;
        body = subst (λ a. Follow (LiteralText n s) a b.first b.middle) next ls.0;
        head_count = y.0.is ∙ sym ds.1;
        head = subst (λ a. Follow (DisjunctText n s) a g.from e) y.0.next ds.0;
      }),
      f,
    )

-- An accepted book's sequents stand in it one behind the other, from where they start to its end, as many as counted.
pub sequents_got : (s : Bytes) (b : Book) → Accepted s b
    → Follow (SequentText (names_in s) s) (sequents_at s) b.sequents (length s) × (length b.sequents ≡ num s (count_at s))
sequents_got s b a = many_got (SequentText (names_in s) s) (sequent_at (names_in s) s) (λ at q e h. (sequent_got (names_in s) s at q e h).0)
    (num s (count_at s)) (sequents_at s) b.sequents (length s) a.read
