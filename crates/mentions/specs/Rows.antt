-- Literals that follow one another, gone over for a variable: what is left of them says what all of them say.
use Rattle.std.specs.Prelude.{◌≡◌, refl, ℕ, ◌+◌, ◌-◌, ◌≤◌, ◌<◌, Bool, true, false, ◌||◌, List, [], ◌∷◌, length}
use Rattle.std.proofs.Math.Path.{sym, ap, subst}
use Rattle.std.proofs.Common.{◌∙◌, arith}
use Rattle.base.specs.Lists.{any}
use Rattle.rules.specs.Book.{Literal, Names, in_literal}
use Rattle.rules.specs.Reading.{Bytes}
use Rattle.texts.specs.Reads.{Follow}
use Rattle.texts.specs.Text.{LiteralText}
use Rattle.texts.specs.Parts.{literals_grow}
use Rattle.skips.specs.Rest.{Skips}
use Rattle.mentions.specs.Nodes.{Mentions}

-- So many literals from a place to the end, and whether one of them has the variable.
pub record Rest (n : Names) (s : Bytes) (v p k e : ℕ) (b : Bool) : Type 0 where
  pub literals : List Literal
  pub follow : Follow (LiteralText n s) p literals e
  pub counted : length literals ≡ k
  pub has : b ≡ any (in_literal v) literals

abbrev pub Left : Names → Bytes → ℕ → ℕ → ℕ → ℕ → ℕ → Type 0
Left n s v at k i p = (ls : List Literal) (e : ℕ) → Follow (LiteralText n s) at ls e → length ls ≡ k → e ≤ length s → Rest n s v p (k - i) e (any (in_literal v) ls)

abbrev pub MentionsOne : Names → Bytes → ℕ → ℕ → ℕ → Bool → Type 0
MentionsOne n s v at k r = (ls : List Literal) (e : ℕ) → Follow (LiteralText n s) at ls e → length ls ≡ k → e ≤ length s → r ≡ any (in_literal v) ls

module _ (n : Names) (s : Bytes) (v at k : ℕ) where
  pub left_start : Left n s v at k 0 at
  left_start ls e f c l = record { literals = ls; follow = f; counted = omega arith; has = refl }

  module _ (i p : ℕ) (r : Left n s v at k i p) where
    pub left_end : k ≤ i → MentionsOne n s v at k false
    left_end h ls e f c l = let x = r ls e f c l in go x.literals x.counted x.has
      where
        go : (xs : List Literal) → length xs ≡ k - i → any (in_literal v) ls ≡ any (in_literal v) xs → false ≡ any (in_literal v) ls
        go [] q b = sym b
        go (y ∷ ys) q b = absurd (omega arith)

    module _ (inside : i < k) where
      pub left_here : Mentions n s v p true → MentionsOne n s v at k true
      left_here g ls e f c l = let x = r ls e f c l in go x.literals x.follow x.counted x.has
        where
          go : (xs : List Literal) → Follow (LiteralText n s) p xs e → length xs ≡ k - i → any (in_literal v) ls ≡ any (in_literal v) xs → true ≡ any (in_literal v) ls
          go [] w q b = absurd (omega arith)
          go (y ∷ ys) w q b = unfold Follow in (
              let m = literals_grow n s w.0 ys e w.1.1 in
              sym (b ∙ ap (λ o. o || any (in_literal v) ys) (sym (g y w.0 w.1.0 (omega arith)))))

      pub left_next : (q : ℕ) → Mentions n s v p false → Skips (LiteralText n s) (length s) p q → Left n s v at k (i + 1) q
      left_next q g j ls e f c l = let x = r ls e f c l in go x.literals x.follow x.counted x.has
        where
          go : (xs : List Literal) → Follow (LiteralText n s) p xs e → length xs ≡ k - i → any (in_literal v) ls ≡ any (in_literal v) xs
              → Rest n s v q (k - (i + 1)) e (any (in_literal v) ls)
          go [] w z b = absurd (omega arith)
          go (y ∷ ys) w z b = unfold Follow in (
              let m = literals_grow n s w.0 ys e w.1.1 in
              record {
                literals = ys;
                follow = subst (λ a. Follow (LiteralText n s) a ys e) (sym (j y w.0 w.1.0 (omega arith))) w.1.1;
                counted = omega arith;
                has = b ∙ ap (λ o. o || any (in_literal v) ys) (sym (g y w.0 w.1.0 (omega arith)));
              })
