-- What stands first in a term, by document 01: the count of its arguments, which is 0 for a leaf, and the place where they start, or a
-- refusal and its place; and one law for each way in which the reading of a term goes on from there.
use Rattle.std.specs.Prelude.{◌≡◌, refl, ℕ, zero, suc, ◌-◌, ◌<◌, ◌&&◌, false, length, get_or, ltb, eqb, Result}
use Rattle.std.proofs.Common.{ap, sym, ◌∙◌, arith}
use borrow.Author.Tests.{lt-ltb, eq-eqb, ne_eqb}
use Rattle.base.specs.Branch.{if}
use Rattle.rules.specs.Book.{Term, var, con, app, terms, Names}
use Rattle.rules.specs.Reading.{Bytes, Read, got, refused, and_then, giving, many, number, declared, term_at}
use Rattle.numbers.specs.declared.Fault.{Fault}
use Rattle.numbers.specs.Answers.{checked, reading, checked_giving}

-- The answer for a term, once its arguments have theirs.
abbrev pub headed : Result (ℕ × ℕ) Fault → (ℕ → ℕ → Read (Unit {0})) → Read (Unit {0})
headed r f = and_then (reading r) f

-- An application behind its kind, as the reading of a term has it.
unfoldable pub application_at : ℕ → Names → ℕ → Bytes → ℕ → Read Term
application_at l n v s at = and_then (declared (length n.functions) s at) (λ f g.
    if (eqb l 0 && ltb 0 (get_or n.functions f 0)) (λ _. refused 8 at) (λ _.
    giving (λ ts. app f (terms ts)) (many (get_or n.functions f 0) (term_at l n v s) g)))

neither : (l k : ℕ) → (l ≡ 0 → 0 < k → ⊥) → eqb l 0 && ltb 0 k ≡ false
neither zero zero z = refl
neither zero (suc k) z = absurd (z refl (omega arith))
neither (suc l) k z = rw (ne_eqb (suc l) 0 (λ q. omega arith))

-- So many arguments from a place on, with so many levels left.
unfoldable pub args_at : ℕ → Names → ℕ → Bytes → ℕ → ℕ → Read (Unit {0})
args_at l n v s k g = checked (many k (term_at l n v s) g)

-- A variable or a constant is its number, with no arguments behind it.
leaf_is : {A : Type 0} (make : ℕ → A) (r : Read ℕ) (l : ℕ) (n : Names) (v : ℕ) (s : Bytes)
    → checked (giving make r) ≡ and_then (giving (λ _. 0) r) (args_at l n v s)
unfolding checked giving and_then args_at many
leaf_is make (got x e) l n v s = refl
leaf_is make (refused m p) l n v s = refl

module _ (l : ℕ) (n : Names) (v : ℕ) (s : Bytes) (at : ℕ) where
  pub term_fault : (m p : ℕ) → refused m p ≡ number s at → checked (term_at (suc l) n v s at) ≡ refused m p
  unfolding term_at and_then checked giving
  term_fault m p h = rw (← h)

  module _ (k e : ℕ) (h : got k e ≡ number s at) where
    pub term_var : k ≡ 0 → checked (term_at (suc l) n v s at) ≡ and_then (giving (λ _. 0) (declared v s e)) (args_at l n v s)
    unfolding term_at and_then if
    term_var z = rw (← h, eq-eqb k 0 z) (leaf_is var (declared v s e) l n v s)

    pub term_con : k ≡ 1 → checked (term_at (suc l) n v s at) ≡ and_then (giving (λ _. 0) (declared n.constants s e)) (args_at l n v s)
    unfolding term_at and_then if
    term_con z = rw (← h, z) (leaf_is con (declared n.constants s e) l n v s)

    pub term_app : k ≡ 2 → checked (term_at (suc l) n v s at) ≡ checked (application_at l n v s e)
    unfolding term_at and_then if application_at
    term_app z = rw (← h, z)

    pub term_unknown : (k ≡ 0 → ⊥) → (k ≡ 1 → ⊥) → (k ≡ 2 → ⊥) → checked (term_at (suc l) n v s at) ≡ refused 6 at
    unfolding term_at and_then if checked giving
    term_unknown a b c = rw (← h, ne_eqb k 0 a, ne_eqb k 1 b, ne_eqb k 2 c)

  pub app_fault : (m p : ℕ) → refused m p ≡ declared (length n.functions) s at → checked (application_at l n v s at) ≡ refused m p
  unfolding application_at and_then checked giving
  app_fault m p h = rw (← h)

  module _ (f g : ℕ) (h : got f g ≡ declared (length n.functions) s at) where
    pub app_deep : l ≡ 0 → 0 < get_or n.functions f 0 → checked (application_at l n v s at) ≡ refused 8 at
    unfolding application_at and_then checked giving if
    app_deep z a = rw (← h, eq-eqb l 0 z, lt-ltb 0 (get_or n.functions f 0) a)

    pub app_goes : (l ≡ 0 → 0 < get_or n.functions f 0 → ⊥) → checked (application_at l n v s at) ≡ args_at l n v s (get_or n.functions f 0) g
    unfolding application_at and_then if args_at
    app_goes z =
        rw (← h, neither l (get_or n.functions f 0) z) (checked_giving _ (many (get_or n.functions f 0) (term_at l n v s) g))

pub term_none : (l : ℕ) (n : Names) (v : ℕ) (s : Bytes) (at : ℕ) → l ≡ 0 → checked (term_at l n v s at) ≡ refused 8 at
unfolding term_at checked giving
term_none l n v s at z = rw z

-- A term where a level is left has the level that is left less one below it.
pub level_left : (l : ℕ) → (l ≡ 0 → ⊥) → suc (l - 1) ≡ l
level_left l z = omega arith

-- Its arguments end the term.
pub term_ends : (l : ℕ) (n : Names) (v : ℕ) (s : Bytes) (at k g : ℕ) (r : Read (Unit {0})) → (l ≡ 0 → ⊥)
    → checked (term_at (suc (l - 1)) n v s at) ≡ args_at (l - 1) n v s k g → r ≡ checked (many k (term_at (l - 1) n v s) g) → r ≡ checked (term_at l n v s at)
unfolding args_at
term_ends l n v s at k g r z e q = q ∙ sym e ∙ ap (λ m. checked (term_at m n v s at)) (level_left l z)
