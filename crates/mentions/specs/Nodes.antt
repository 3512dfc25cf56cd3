-- The nodes of a term's text, each of four bytes in the order of reading: is one of them this variable?
use Rattle.std.specs.Prelude.{◌≡◌, Bool, true, false, ◌&&◌, ◌||◌, length, eqb}
use Rattle.std.specs.List.{list_any, range_with_len}
use Rattle.std.proofs.Math.Path.{refl, ap}
use Rattle.std.proofs.Common.{sym, ap₂, ◌∙◌, arith, ne_eqb}
use Prim.Native.Nat.{ℕ, zero, suc, ◌+◌, ◌-◌, ◌*◌, ◌/◌, ◌≤◌, ◌<◌}
use Rattle.rules.specs.Book.{Term, var, con, app, Terms, nil, cons, Literal, fact, same, Names, in_term, in_terms, in_literal}
use Rattle.rules.specs.Reading.{Bytes, num}
use Rattle.texts.specs.Text.{TermText, TermsText, LiteralText}
use Rattle.texts.specs.Parts.{term_grows, terms_grow}

unfoldable pub node_is : Bytes → ℕ → ℕ → Bool
node_is s at v = eqb (num s at) 0 && eqb (num s (at + 2)) v

-- One of so many nodes from a place on.
unfoldable pub nodes_have : Bytes → ℕ → ℕ → ℕ → Bool
nodes_have s at zero v = false
nodes_have s at (suc k) v = node_is s at v || nodes_have s (at + 4) k v

-- ---- what is asked of a node, and of several

pub node_variable : (s : Bytes) (at v x : ℕ) → num s at ≡ 0 → x ≡ num s (at + 2) → eqb x v ≡ node_is s at v
unfolding node_is
node_variable s at v x z q = rw (z, q)

pub node_other : (s : Bytes) (at v x : ℕ) → x ≡ num s at → (x ≡ 0 → ⊥) → eqb x 0 ≡ node_is s at v
unfolding node_is
node_other s at v x q z = rw (← q, ne_eqb x 0 z)

pub have_none : (s : Bytes) (v p k : ℕ) → k ≡ 0 → false ≡ nodes_have s p k v
unfolding nodes_have
have_none s v p zero z = refl
have_none s v p (suc k) z = absurd (omega arith)

-- One of the nodes counted from 0 on.
pub have_any : (s : Bytes) (v p k i : ℕ) → list_any (λ j. node_is s (p + 4 * j) v) (range_with_len i k) ≡ nodes_have s (p + 4 * i) k v
unfolding nodes_have
have_any s v p zero i = refl
have_any s v p (suc k) i = let e : p + 4 * (i + 1) ≡ p + 4 * i + 4 = omega arith in
    ap (λ b. node_is s (p + 4 * i) v || b) (have_any s v p k (i + 1) ∙ ap (λ q. nodes_have s q k v) e)

-- ---- the nodes of a term

-- How many nodes.
unfoldable mutual
  nodes : Term → ℕ
  nodes (var i) = 1
  nodes (con c) = 1
  nodes (app f ts) = suc (nodes_of ts)

  nodes_of : Terms → ℕ
  nodes_of nil = 0
  nodes_of (cons t ts) = nodes t + nodes_of ts

or_false : (b : Bool) → b || false ≡ b
or_false true = refl
or_false false = refl

or_or : (a b c : Bool) → (a || b) || c ≡ a || (b || c)
or_or true b c = refl
or_or false b c = refl

have_more : (s : Bytes) (v a b at : ℕ) → nodes_have s at (a + b) v ≡ nodes_have s at a v || nodes_have s (at + 4 * a) b v
unfolding nodes_have
have_more s v zero b at =
    let z : 0 + b ≡ b = omega arith in
    let e : at ≡ at + 4 * 0 = omega arith in
    ap (λ k. nodes_have s at k v) z ∙ ap (λ p. nodes_have s p b v) e
have_more s v (suc a) b at =
    let z : suc a + b ≡ suc (a + b) = omega arith in
    let e : at + 4 + 4 * a ≡ at + 4 * suc a = omega arith in
    ap (λ k. nodes_have s at k v) z
    ∙ ap (λ r. node_is s at v || r) (have_more s v a b (at + 4) ∙ ap (λ p. nodes_have s (at + 4) a v || nodes_have s p b v) e)
    ∙ sym (or_or (node_is s at v) (nodes_have s (at + 4) a v) (nodes_have s (at + 4 * suc a) b v))

module _ (n : Names) (s : Bytes) where
  mutual
    unfolding TermText nodes

    term_end : (at : ℕ) (t : Term) (e : ℕ) → TermText n s at t e → e ≡ at + 4 * nodes t
    term_end at (var i) e h = omega (arith, h.1.1)
    term_end at (con c) e h = omega (arith, h.1.1)
    term_end at (app f ts) e h = omega (arith, terms_end (at + 4) ts e h.1.1.1)

    terms_end : (at : ℕ) (ts : Terms) (e : ℕ) → TermsText n s at ts e → e ≡ at + 4 * nodes_of ts
    terms_end at nil e h = omega (arith, h)
    terms_end at (cons t ts) e h = omega (arith, term_end at t h.0 h.1.0, terms_end h.0 ts e h.1.1)

  module _ (v : ℕ) where
    mutual
      unfolding TermText nodes nodes_have node_is in_term

      term_has : (at : ℕ) (t : Term) (e : ℕ) → TermText n s at t e → nodes_have s at (nodes t) v ≡ in_term t v
      term_has at (var i) e h = rw (h.0, h.1.0) (or_false (eqb i v))
      term_has at (con c) e h = rw h.0
      term_has at (app f ts) e h = rw h.0 (terms_have (at + 4) ts e h.1.1.1)

      terms_have : (at : ℕ) (ts : Terms) (e : ℕ) → TermsText n s at ts e → nodes_have s at (nodes_of ts) v ≡ in_terms ts v
      terms_have at nil e h = refl
      terms_have at (cons t ts) e h =
          have_more s v (nodes t) (nodes_of ts) at
          ∙ ap₂ (λ a b. a || b) (term_has at t h.0 h.1.0) (ap (λ p. nodes_have s p (nodes_of ts) v) (sym (term_end at t h.0 h.1.0)) ∙ terms_have h.0 ts e h.1.1)

    span : (at : ℕ) (ts : Terms) (e : ℕ) → TermsText n s at ts e → nodes_have s at ((e - at) / 4) v ≡ in_terms ts v
    span at ts e h =
        let q : (e - at) / 4 ≡ nodes_of ts = omega (arith, terms_end at ts e h) in
        ap (λ k. nodes_have s at k v) q ∙ terms_have at ts e h

    -- ---- literals

    abbrev pub Mentions : ℕ → Bool → Type 0
    Mentions at r = (l : Literal) (e : ℕ) → LiteralText n s at l e → e ≤ length s → r ≡ in_literal v l

    module _ (at : ℕ) where
      pub literal_short : length s - at < 4 → Mentions at false
      unfolding LiteralText TermsText
      literal_short h (fact r ts) e x l = absurd (omega (arith, terms_grow n s (at + 4) ts e x.1.1.1))
      literal_short h (same t u) e x l = let b = x.1 in absurd (omega (arith, term_grows n s (at + 2) t b.0 b.1.0, terms_grow n s b.0 (cons u nil) e b.1.1))

      module _ (g : ℕ) (ends : (l : Literal) (e : ℕ) → LiteralText n s at l e → e ≤ length s → g ≡ e) where
        pub literal_fact : num s at ≡ 0 → (r : Bool) → r ≡ nodes_have s (at + 4) ((g - (at + 4)) / 4) v → Mentions at r
        unfolding LiteralText in_literal
        literal_fact z r q (fact i ts) e x l = q ∙ ap (λ y. nodes_have s (at + 4) ((y - (at + 4)) / 4) v) (ends (fact i ts) e x l) ∙ span (at + 4) ts e x.1.1.1
        literal_fact z r q (same t u) e x l = absurd (omega (arith, x.0))

        pub literal_same : (num s at ≡ 0 → ⊥) → (r : Bool) → r ≡ nodes_have s (at + 2) ((g - (at + 2)) / 4) v → Mentions at r
        unfolding LiteralText in_literal in_term
        literal_same z r q (fact i ts) e x l = absurd (z x.0)
        literal_same z r q (same t u) e x l =
            q ∙ ap (λ y. nodes_have s (at + 2) ((y - (at + 2)) / 4) v) (ends (same t u) e x l) ∙ span (at + 2) (cons t (cons u nil)) e x.1
            ∙ ap (λ b. in_term t v || b) (or_false (in_term u v))
