-- Steps of the reading that the check takes by themselves, as the definitions have them.
use Rattle.std.specs.Prelude.{◌≡◌, refl, ℕ, ◌∷◌}
use Rattle.std.proofs.Common.{ap, sym, ◌∙◌, arith}
use Rattle.rules.specs.Reading.{Bytes, Read, got, refused, and_then, giving, many, ranged, mark, version, names_at}
use Rattle.texts.specs.Names.{nums, names_in}
use Rattle.texts.specs.Heads.{row_got, mark_got, version_got, arities_at, names_rows, front_at, sequents_from, front_got}
use Rattle.numbers.specs.Answers.{checked, checked_ends}
use Rattle.numbers.specs.Chains.{after_ends, after_refused}

-- Two readings, one after the other, end where two counted ones do.
pub two : {A B : Type 0} (make : A → A → B) (f : ℕ → Read A) (at : ℕ)
    → checked (and_then (f at) (λ x e. giving (make x) (f e))) ≡ checked (many 2 f at)
unfolding many and_then giving checked
two make f at = go (f at)
  where
    last : (x : _) (r : Read _) → checked (giving (make x) r) ≡ checked (giving (λ xs. x ∷ xs) (and_then r (λ y e. giving (λ xs. y ∷ xs) (many 0 f e))))
    last x (got y e) = refl
    last x (refused n p) = refl

    go : (r : Read _) → checked (and_then r (λ x e. giving (make x) (f e))) ≡ checked (and_then r (λ x e. giving (λ xs. x ∷ xs) (many 1 f e)))
    go (got x e) = last x (f e)
    go (refused n p) = refl

-- ---- the head of a book

-- Behind five counts that were read, the arities that they count.
pub names_counted : (s : Bytes) (e : ℕ) → got tt e ≡ checked (many 5 (ranged 0 64 s) 5) → checked (names_at s 5) ≡ checked (arities_at s (nums s 5 5) e)
names_counted s e h =
    let d = checked_ends (many 5 (ranged 0 64 s) 5) e h in
    let r = row_got 0 64 s 5 5 d.thing e d.read in
    ap checked (names_rows s 5) ∙ after_ends (many 5 (ranged 0 64 s) 5) (arities_at s) e h ∙ ap (λ xs. checked (arities_at s xs e)) r.are

pub names_refused : (s : Bytes) (n p : ℕ) → refused n p ≡ checked (many 5 (ranged 0 64 s) 5) → checked (names_at s 5) ≡ refused n p
names_refused s n p h = ap checked (names_rows s 5) ∙ after_refused (many 5 (ranged 0 64 s) 5) (arities_at s) n p h

-- Behind mark and version the names start at 5.
pub names_start : (s : Bytes) (x a y b : ℕ) → got x a ≡ mark s → got y b ≡ version s a → checked (names_at s b) ≡ checked (names_at s 5)
names_start s x a y b h k =
    let m = mark_got s x a (sym h) in
    let v = version_got s a y b (sym k) in
    let q : b ≡ 5 = omega arith in
    ap (λ i. checked (names_at s i)) q

-- Behind a head that was read, the sequents are read with the names that stand there.
pub front_names : (s : Bytes) (e : ℕ) → got tt e ≡ checked (front_at s) → checked (and_then (front_at s) (sequents_from s)) ≡ checked (sequents_from s (names_in s) e)
front_names s e h =
    let d = checked_ends (front_at s) e h in
    after_ends (front_at s) (sequents_from s) e h ∙ ap (λ n. checked (sequents_from s n e)) (front_got s d.thing e d.read).are
