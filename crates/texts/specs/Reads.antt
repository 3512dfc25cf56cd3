-- What a reading that gives a thing is made of, and the laws of one reading after another.
-- Everything here holds of any reading; the texts of terms and sequents are in Text and Texts.
use Rattle.std.specs.Prelude.{◌≡◌, refl, ℕ, zero, suc, ◌+◌, ◌≤◌, ◌<◌, Bool, not, ◌&&◌, List, [], ◌∷◌, length, T, leb, ltb}
use Rattle.std.proofs.Common.{sym, ap, ◌∙◌, subst, arith, leb→le, ltb→lt}
use Rattle.base.specs.Branch.{if}
use Rattle.base.specs.BranchLaws.{if_elim, and_l, and_r}
use Rattle.rules.specs.Reading.{Bytes, Read, got, refused, and_then, giving, many, num, number, ranged, declared}

-- ---- one reading after another

-- What a reading gave, where another came after it.
pub record Then {A B : Type 0} (r : Read A) (f : A → ℕ → Read B) (b : B) (e : ℕ) : Type 0 where
  pub first : A
  pub middle : ℕ
  pub before : r ≡ got first middle
  pub after : f first middle ≡ got b e

pub then_got : {A B : Type 0} (r : Read A) (f : A → ℕ → Read B) (b : B) (e : ℕ) → and_then r f ≡ got b e → Then r f b e
unfolding and_then
then_got (got a m) f b e h = record { first = a; middle = m; before = refl; after = h }
then_got (refused n p) f b e h = let z : ◌≡◌ {A = ℕ} 0 1 = cc in absurd (omega arith)

pub record Made {A B : Type 0} (f : A → B) (r : Read A) (b : B) (e : ℕ) : Type 0 where
  pub from : A
  pub read : r ≡ got from e
  pub is : b ≡ f from

pub giving_got : {A B : Type 0} (f : A → B) (r : Read A) (b : B) (e : ℕ) → giving f r ≡ got b e → Made f r b e
unfolding giving
giving_got f (got a m) b e h = let q : m ≡ e = cc in record { from = a; read = ap (got a) q; is = cc }
giving_got f (refused n p) b e h = let z : ◌≡◌ {A = ℕ} 0 1 = cc in absurd (omega arith)

-- Two ways to go on that agree.
pub then_agree : {A B : Type 0} (r : Read A) (f g : A → ℕ → Read B) → ((a : A) (e : ℕ) → f a e ≡ g a e) → and_then r f ≡ and_then r g
unfolding and_then
then_agree (got a e) f g h = h a e
then_agree (refused n p) f g h = refl

pub then_then : {A B C : Type 0} (r : Read A) (f : A → ℕ → Read B) (g : B → ℕ → Read C)
    → and_then (and_then r f) g ≡ and_then r (λ a e. and_then (f a e) g)
unfolding and_then
then_then (got a e) f g = refl
then_then (refused n p) f g = refl

pub then_giving : {A B C : Type 0} (f : A → B) (r : Read A) (g : B → ℕ → Read C)
    → and_then (giving f r) g ≡ and_then r (λ a e. g (f a) e)
unfolding and_then giving
then_giving f (got a e) g = refl
then_giving f (refused n p) g = refl

-- ---- a test in a reading

pub if_got : {A : Type 0} (b : Bool) (f g : Unit {0} → Read A) (a : A) (e : ℕ) {C : Type 0} → (T b → f tt ≡ got a e → C) → (T (not b) → g tt ≡ got a e → C)
    → if b f g ≡ got a e → C
if_got b f g a e {C} p q h = if_elim (λ r. r ≡ got a e → C) b f g p q h

never : {A C : Type 0} (n p : ℕ) (a : A) (e : ℕ) → refused n p ≡ got a e → C
never n p a e h = let z : ◌≡◌ {A = ℕ} 0 1 = cc in absurd (omega arith)

-- A test whose other branch is refused.
pub if_passed : {A : Type 0} (b : Bool) (f : Unit {0} → Read A) (n p : ℕ) (a : A) (e : ℕ) → if b f (λ _. refused n p) ≡ got a e → T b × (f tt ≡ got a e)
if_passed b f n p a e h = if_got b f (λ _. refused n p) a e (λ t q. (t, q)) (λ t q. never n p a e q) h

pub if_escaped : {A : Type 0} (b : Bool) (f : Unit {0} → Read A) (n p : ℕ) (a : A) (e : ℕ) → if b (λ _. refused n p) f ≡ got a e → T (not b) × (f tt ≡ got a e)
if_escaped b f n p a e h = if_got b (λ _. refused n p) f a e (λ t q. never n p a e q) (λ t q. (t, q)) h

-- ---- numbers

-- A number that was read: it is the one that stands there, two bytes long and within the text.
pub record Number (s : Bytes) (at x e : ℕ) : Type 0 where
  pub is : num s at ≡ x
  pub next : e ≡ at + 2
  pub fits : e ≤ length s

same_number : (x y p q : ℕ) → got x p ≡ got y q → (x ≡ y) × (p ≡ q)
same_number x y p q h = (cc, cc)

pub number_got : (s : Bytes) (at x e : ℕ) → number s at ≡ got x e → Number s at x e
unfolding number
number_got s at x e h =
    let p = if_passed (leb (at + 2) (length s)) (λ _. got (num s at) (at + 2)) 2 at x e h in
    let l = leb→le (at + 2) (length s) p.0 in
    let q = same_number (num s at) x (at + 2) e p.1 in
    record { is = q.0; next = omega arith; fits = omega arith }

pub ranged_got : (low high : ℕ) (s : Bytes) (at x e : ℕ) → ranged low high s at ≡ got x e → Number s at x e × ((low ≤ x) × (x ≤ high))
unfolding ranged
ranged_got low high s at x e h =
    let t = then_got _ _ _ _ h in
    let p = if_passed (leb low t.first && leb t.first high) (λ _. got t.first t.middle) 5 at x e t.after in
    let q = same_number t.first x t.middle e p.1 in
    let k = number_got s at t.first t.middle t.before in
    let l = leb→le low t.first (and_l (leb low t.first) (leb t.first high) p.0) in
    let u = leb→le t.first high (and_r (leb low t.first) (leb t.first high) p.0) in
    (record { is = k.is ∙ q.0; next = omega arith; fits = omega arith }, (omega arith, omega arith))

pub declared_got : (n : ℕ) (s : Bytes) (at x e : ℕ) → declared n s at ≡ got x e → Number s at x e × (x < n)
unfolding declared
declared_got n s at x e h =
    let t = then_got _ _ _ _ h in
    let p = if_passed (ltb t.first n) (λ _. got t.first t.middle) 7 at x e t.after in
    let q = same_number t.first x t.middle e p.1 in
    let k = number_got s at t.first t.middle t.before in
    let l = ltb→lt t.first n p.0 in
    (record { is = k.is ∙ q.0; next = omega arith; fits = omega arith }, omega arith)

-- ---- as many as counted

-- Things that follow one another from a place to a place, each from where the one before it ends.
unfoldable pub Follow : {A : Type 0} → (ℕ → A → ℕ → Type 0) → ℕ → List A → ℕ → Type 0
Follow R at [] e = e ≡ at
Follow R at (x ∷ xs) e = (m : ℕ) × (R at x m × Follow R m xs e)

same_got : {A : Type 0} (a b : A) (p q : ℕ) → got a p ≡ got b q → (a ≡ b) × (p ≡ q)
same_got a b p q h = (cc, cc)

-- What each reading gives has R: then the things that many give follow one another by R, and are as many as counted.
pub many_got : {A : Type 0} (R : ℕ → A → ℕ → Type 0) (f : ℕ → Read A) → ((at : ℕ) (x : A) (e : ℕ) → f at ≡ got x e → R at x e)
    → (k at : ℕ) (xs : List A) (e : ℕ) → many k f at ≡ got xs e → Follow R at xs e × (length xs ≡ k)
unfolding many Follow
many_got R f h zero at xs e q =
    let p = same_got [] xs at e q in
    (subst (λ l. Follow R at l e) p.0 (sym p.1), sym (ap length p.0))
many_got R f h (suc k) at xs e q =
    let t = then_got _ _ _ _ q in
    let g = giving_got _ _ _ _ t.after in
    let r = many_got R f h k t.middle g.from e g.read in
    (subst (λ l. Follow R at l e) (sym g.is) (t.middle, (h at t.first t.middle t.before, r.0)), ap length g.is ∙ ap suc r.1)

-- Where each reading ends within the text, so do many.
pub many_fits : {A : Type 0} (s : Bytes) (f : ℕ → Read A) → ((at : ℕ) (x : A) (e : ℕ) → f at ≡ got x e → e ≤ length s)
    → (k at : ℕ) (xs : List A) (e : ℕ) → at ≤ length s → many k f at ≡ got xs e → e ≤ length s
unfolding many
many_fits s f h zero at xs e l q = let p = same_got [] xs at e q in omega arith
many_fits s f h (suc k) at xs e l q =
    let t = then_got _ _ _ _ q in
    let g = giving_got _ _ _ _ t.after in
    many_fits s f h k t.middle g.from e (h at t.first t.middle t.before) g.read
