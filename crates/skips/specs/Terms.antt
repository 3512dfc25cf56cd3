-- Terms still to come: a term's own arguments stand before the terms behind it, so that one count suffices.
use Rattle.std.specs.Prelude.{◌≡◌, ℕ, suc, ◌+◌, ◌-◌, ◌*◌, ◌/◌, ◌≤◌, ◌<◌, length, get_or, eqb}
use Rattle.std.proofs.Common.{sym, ap, subst, arith, eq-eqb, ne_eqb}
use Rattle.base.specs.Branch.{if}
use Rattle.rules.specs.Book.{var, con, app, Terms, nil, cons, Names}
use Rattle.rules.specs.Reading.{Bytes, num}
use Rattle.texts.specs.Text.{count, TermText, TermsText}
use Rattle.texts.specs.Parts.{term_grows}

unfoldable pub below_at : Names → Bytes → ℕ → ℕ
below_at n s at = if (eqb (num s at) 2) (λ _. get_or n.functions (num s (at + 2)) 0) (λ _. 0)

pub below_some : (n : Names) (s : Bytes) (at : ℕ) → num s at ≡ 2 → below_at n s at ≡ get_or n.functions (num s (at + 2)) 0
unfolding below_at if
below_some n s at z = rw (eq-eqb (num s at) 2 z)

pub below_none : (n : Names) (s : Bytes) (at : ℕ) → (num s at ≡ 2 → ⊥) → below_at n s at ≡ 0
unfolding below_at if
below_none n s at z = rw (ne_eqb (num s at) 2 z)

abbrev pub SkipsTerms : Names → Bytes → ℕ → ℕ → ℕ → Type 0
SkipsTerms n s at k r = (ts : Terms) (e : ℕ) → TermsText n s at ts e → count ts ≡ k → e ≤ length s → r ≡ e

joined : Terms → Terms → Terms
joined nil us = us
joined (cons t ts) us = cons t (joined ts us)

joined_count : (ts us : Terms) → count (joined ts us) ≡ count ts + count us
unfolding count joined
joined_count nil us = omega arith
joined_count (cons t ts) us = omega (arith, joined_count ts us)

joined_text : (n : Names) (s : Bytes) (at m e : ℕ) (ts us : Terms) → TermsText n s at ts m → TermsText n s m us e → TermsText n s at (joined ts us) e
unfolding TermsText joined
joined_text n s at m e nil us h k = subst (λ a. TermsText n s a us e) h k
joined_text n s at m e (cons t ts) us h k = (h.0, (h.1.0, joined_text n s h.0 m e ts us h.1.1 k))

-- So many terms from a place to the end.
pub record Coming (n : Names) (s : Bytes) (p k e : ℕ) : Type 0 where
  pub terms : Terms
  pub stands : TermsText n s p terms e
  pub counted : count terms ≡ k

-- One term less, and the terms directly below it.
coming_next : (n : Names) (s : Bytes) (p k e : ℕ) → 0 < k → Coming n s p k e → Coming n s (p + 4) (k - 1 + below_at n s p) e
unfolding TermText TermsText count
coming_next n s p k e h c = go c.terms c.stands c.counted
  where
    leaf : (us : Terms) (m : ℕ) → m ≡ p + 4 → TermsText n s m us e → suc (count us) ≡ k → (num s p ≡ 2 → ⊥) → Coming n s (p + 4) (k - 1 + below_at n s p) e
    leaf us m q x y z = record { terms = us; stands = subst (λ a. TermsText n s a us e) q x; counted = omega (arith, below_none n s p z) }

    go : (ts : Terms) → TermsText n s p ts e → count ts ≡ k → Coming n s (p + 4) (k - 1 + below_at n s p) e
    go nil x y = absurd (omega arith)
    go (cons (var i) us) x y = leaf us x.0 x.1.0.1.1 x.1.1 y (λ z. (let w = x.1.0.0 in omega arith))
    go (cons (con i) us) x y = leaf us x.0 x.1.0.1.1 x.1.1 y (λ z. (let w = x.1.0.0 in omega arith))
    go (cons (app f ts) us) x y =
        let a = x.1.0 in
        record {
          terms = joined ts us;
          stands = joined_text n s (p + 4) x.0 e ts us a.1.1.1 x.1.1;
          counted = omega (arith, joined_count ts us, below_some n s p a.0, ap (λ g. get_or n.functions g 0) a.1.0, a.1.1.0);
        }

-- Each of them has four bytes or more.
terms_room : (n : Names) (s : Bytes) (p : ℕ) (us : Terms) (e : ℕ) → TermsText n s p us e → p + 4 * count us ≤ e
unfolding TermsText count
terms_room n s p nil e x = omega (arith, x)
terms_room n s p (cons t us) e x = omega (arith, term_grows n s p t x.0 x.1.0, terms_room n s x.0 us e x.1.1)

never_short : (n : Names) (s : Bytes) (p k e : ℕ) → (length s - p) / 4 < k → (us : Terms) → TermsText n s p us e → count us ≡ k → e ≤ length s → ⊥
never_short n s p k e w us x c l = omega (arith, terms_room n s p us e x)

none_left : (n : Names) (s : Bytes) (p k e : ℕ) → k ≡ 0 → (us : Terms) → TermsText n s p us e → count us ≡ k → p ≡ e
unfolding TermsText count
none_left n s p k e z nil x c = sym x
none_left n s p k e z (cons t us) x c = absurd (omega arith)

-- For whatever terms stand at the start: so many are still to come from p on.
abbrev pub Awaits : Names → Bytes → ℕ → ℕ → ℕ → ℕ → Type 0
Awaits n s at k p left = (ts : Terms) (e : ℕ) → TermsText n s at ts e → count ts ≡ k → e ≤ length s → Coming n s p left e

module _ (n : Names) (s : Bytes) (at k : ℕ) where
  pub awaits_next : (p left : ℕ) → 0 < left → Awaits n s at k p left → Awaits n s at k (p + 4) (left - 1 + below_at n s p)
  awaits_next p left h a ts e x c l = coming_next n s p left e h (a ts e x c l)

  -- Where so many terms are awaited there is text for them.
  pub awaits_short : (p left r : ℕ) → (length s - p) / 4 < left → Awaits n s at k p left → SkipsTerms n s at k r
  awaits_short p left r w a ts e x c l = let b = a ts e x c l in absurd (never_short n s p left e w b.terms b.stands b.counted l)

  pub awaits_end : (p left : ℕ) → left ≡ 0 → Awaits n s at k p left → SkipsTerms n s at k p
  awaits_end p left z a ts e x c l = let b = a ts e x c l in none_left n s p left e z b.terms b.stands b.counted
