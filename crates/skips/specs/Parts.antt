-- One law for each way out of walking over a literal, an origin, a disjunct and a sequent.
use Rattle.std.specs.Prelude.{◌≡◌, ℕ, ◌+◌, ◌-◌, ◌≤◌, ◌<◌, length}
use Rattle.std.proofs.Math.Path.{refl, sym, ap}
use Rattle.std.proofs.Common.{◌∙◌, subst, arith}
use Rattle.std.proofs.Math.ListN.{get_or}
use Rattle.rules.specs.Book.{nil, cons, fact, same, Disjunct, Sequent, Names}
use Rattle.rules.specs.Reading.{Bytes, num}
use Rattle.texts.specs.Reads.{Follow}
use Rattle.texts.specs.Text.{count, TermsText, LiteralText, OriginText, DisjunctText, SequentText}
use Rattle.texts.specs.Parts.{term_grows, terms_grow, literal_grows, origin_grows, disjunct_grows, sequent_grows}
use Rattle.skips.specs.Rest.{Skips, SkipsMany, Grows}
use Rattle.skips.specs.Terms.{SkipsTerms}

-- Each grows.
module _ (n : Names) (s : Bytes) where
  pub literal_on : Grows (LiteralText n s)
  literal_on at x e h = omega (arith, literal_grows n s at x e h)

  pub origin_on : Grows (OriginText n s)
  origin_on at x e h = omega (arith, origin_grows n s at x e h)

  pub disjunct_on : Grows (DisjunctText n s)
  disjunct_on at x e h = let g = disjunct_grows n s at x e h in omega arith

  pub sequent_on : Grows (SequentText n s)
  sequent_on at x e h = let g = sequent_grows n s at x e h in omega arith

  module _ (at : ℕ) where
    -- ---- literals

    pub literal_short : (r : ℕ) → length s - at < 4 → Skips (LiteralText n s) (length s) at r
    unfolding LiteralText TermsText
    literal_short r h (fact g ts) e x l = absurd (omega (arith, terms_grow n s (at + 4) ts e x.1.1.1))
    literal_short r h (same t u) e x l = let b = x.1 in absurd (omega (arith, term_grows n s (at + 2) t b.0 b.1.0, terms_grow n s b.0 (cons u nil) e b.1.1))

    pub literal_fact : (k r : ℕ) → num s at ≡ 0 → k ≡ get_or n.relations (num s (at + 2)) 0 → SkipsTerms n s (at + 4) k r → Skips (LiteralText n s) (length s) at r
    unfolding LiteralText
    literal_fact k r z q h (fact g ts) e x l = h ts e x.1.1.1 (x.1.1.0 ∙ ap (λ y. get_or n.relations y 0) (sym x.1.0) ∙ sym q) l
    literal_fact k r z q h (same t u) e x l = let w = x.0 in absurd (omega arith)

    pub literal_same : (r : ℕ) → (num s at ≡ 0 → ⊥) → SkipsTerms n s (at + 2) 2 r → Skips (LiteralText n s) (length s) at r
    unfolding LiteralText count
    literal_same r z h (fact g ts) e x l = absurd (z x.0)
    literal_same r z h (same t u) e x l = h (cons t (cons u nil)) e x.1 refl l

    -- ---- disjuncts

    pub disjunct_short : (r : ℕ) → length s - at < 2 → Skips (DisjunctText n s) (length s) at r
    disjunct_short r h x e t l = let g = disjunct_grows n s at x e t in absurd (omega arith)

    module _ (m : ℕ) (o : SkipsMany (OriginText n s) (length s) (at + 2) (num s at) m) where
      middle : (x : Disjunct) (e : ℕ) (t : DisjunctText n s at x e) → e ≤ length s → m ≡ t.middle
      middle x e t l = let g = disjunct_grows n s at x e t in o x.origins t.middle t.origins (sym t.count) (omega arith)

      pub disjunct_cut : (r : ℕ) → length s - m < 2 → Skips (DisjunctText n s) (length s) at r
      disjunct_cut r h x e t l = let g = disjunct_grows n s at x e t in let q = middle x e t l in absurd (omega arith)

      pub disjunct_end : (r : ℕ) → SkipsMany (LiteralText n s) (length s) (m + 2) (num s m) r → Skips (DisjunctText n s) (length s) at r
      disjunct_end r h x e t l =
          let q = middle x e t l in
          h x.literals e (subst (λ a. Follow (LiteralText n s) (a + 2) x.literals e) (sym q) t.literals) (sym (ap (num s) q ∙ t.literal_count)) l

    -- ---- sequents

    pub sequent_short : (r : ℕ) → length s - at < 4 → Skips (SequentText n s) (length s) at r
    sequent_short r h x e t l = let g = sequent_grows n s at x e t in absurd (omega arith)

    module _ (m : ℕ) (o : SkipsMany (LiteralText n s) (length s) (at + 4) (num s (at + 2)) m) where
      head_at : (x : Sequent) (e : ℕ) (t : SequentText n s at x e) → e ≤ length s → m ≡ t.middle
      head_at x e t l = let g = sequent_grows n s at x e t in o x.body t.middle t.body (sym t.count) (omega arith)

      pub sequent_cut : (r : ℕ) → length s - m < 2 → Skips (SequentText n s) (length s) at r
      sequent_cut r h x e t l = let g = sequent_grows n s at x e t in let q = head_at x e t l in absurd (omega arith)

      pub sequent_end : (r : ℕ) → SkipsMany (DisjunctText n s) (length s) (m + 2) (num s m) r → Skips (SequentText n s) (length s) at r
      sequent_end r h x e t l =
          let q = head_at x e t l in
          h x.head e (subst (λ a. Follow (DisjunctText n s) (a + 2) x.head e) (sym q) t.head) (sym (ap (num s) q ∙ t.head_count)) l
