-- A book is refused by one of the numbers 1 to 10, and what a call does is one of two things: it refuses by a number from 1 to 12, or
-- 13 where it asks for a sound pool; or its book was read, its pool has a right length, its settings are known, and its pool is sound
-- where that is asked.
use Rattle.std.specs.Prelude.{◌≡◌, refl, ℕ, zero, suc, ◌+◌, ◌≤◌, Bool, [], ◌∷◌, length, get_or, T}
use Rattle.std.proofs.Common.{sym, subst, arith}
use Rattle.base.specs.Branch.{if}
use Rattle.base.specs.BranchLaws.{if_elim}
use Rattle.rules.specs.Book.{var, con, app, terms, fact, same, Names, Book}
use Rattle.rules.specs.Reading.{Bytes, Read, got, refused, case_read, and_then, giving, many, number, ranged, declared, mark_byte, mark, version, names_at, levels, term_at, literal_at, origin_at, witnesses, disjunct_at, sequent_at, ended, read_book}
use Rattle.rules.specs.Sheet.{limits}
use Rattle.rules.specs.Pool.{State}
use Rattle.rules.specs.Image.{pool_in}
use Rattle.rules.specs.Sound.{sound}
use Rattle.rules.specs.Calls.{right_length, checked, soundly}

-- One of the refusal numbers from 1 to the last one.
pub record Refusal (last n : ℕ) : Type 0 where
  pub some : 1 ≤ n
  pub most : n ≤ last

-- ---- a book's refusals

-- A reading that refuses does so by a number from 1 to 10.
record Reads {A : Type 0} (r : Read A) : Type 0 where
  numbers : (n at : ℕ) → r ≡ refused n at → Refusal 10 n

reads_got : {A : Type 0} (a : A) (e : ℕ) → Reads (got a e)
reads_got a e = record { numbers = λ n at q. let z : ◌≡◌ {A = ℕ} 0 1 = cc in absurd (omega arith) }

reads_refused : {A : Type 0} (n at : ℕ) → Refusal 10 n → Reads {A = A} (refused n at)
reads_refused {A} n at p = record { numbers = λ k e q. let z : n ≡ k = cc in subst (Refusal 10) z p }

then_reads : {A B : Type 0} (r : Read A) (f : A → ℕ → Read B) → Reads r → ((a : A) (e : ℕ) → Reads (f a e)) → Reads (and_then r f)
unfolding and_then
then_reads (got a e) f p g = g a e
then_reads (refused n at) f p g = reads_refused n at (p.numbers n at refl)

giving_reads : {A B : Type 0} (f : A → B) (r : Read A) → Reads r → Reads (giving f r)
unfolding giving
giving_reads f (got a e) p = reads_got (f a) e
giving_reads f (refused n at) p = reads_refused n at (p.numbers n at refl)

many_reads : {A : Type 0} (n : ℕ) (f : ℕ → Read A) → ((at : ℕ) → Reads (f at)) → (at : ℕ) → Reads (many n f at)
unfolding many
many_reads zero f g at = reads_got [] at
many_reads (suc n) f g at = then_reads (f at) _ (g at) (λ x e. giving_reads (λ xs. x ∷ xs) _ (many_reads n f g e))

either_reads : {A : Type 0} (b : Bool) (f g : Unit {0} → Read A) → Reads (f tt) → Reads (g tt) → Reads (if b f g)
either_reads b f g p q = if_elim Reads b f g (λ _. p) (λ _. q)

is : (n : ℕ) → 1 ≤ n → n ≤ 10 → Refusal 10 n
is n a b = record { some = a; most = b }

number_reads : (s : Bytes) (at : ℕ) → Reads (number s at)
unfolding number
number_reads s at = either_reads _ _ _ (reads_got _ _) (reads_refused 2 at (is 2 (omega arith) (omega arith)))

ranged_reads : (low high : ℕ) (s : Bytes) (at : ℕ) → Reads (ranged low high s at)
unfolding ranged
ranged_reads low high s at = then_reads _ _ (number_reads s at) (λ x e. either_reads _ _ _ (reads_got _ _) (reads_refused 5 at (is 5 (omega arith) (omega arith))))

declared_reads : (n : ℕ) (s : Bytes) (at : ℕ) → Reads (declared n s at)
unfolding declared
declared_reads n s at = then_reads _ _ (number_reads s at) (λ x e. either_reads _ _ _ (reads_got _ _) (reads_refused 7 at (is 7 (omega arith) (omega arith))))

unknown : {A : Type 0} (at : ℕ) → Reads {A = A} (refused 6 at)
unknown at = reads_refused 6 at (is 6 (omega arith) (omega arith))

deep : {A : Type 0} (at : ℕ) → Reads {A = A} (refused 8 at)
deep at = reads_refused 8 at (is 8 (omega arith) (omega arith))

term_reads : (l : ℕ) (d : Names) (v : ℕ) (s : Bytes) (at : ℕ) → Reads (term_at l d v s at)
unfolding term_at
term_reads zero d v s at = deep at
term_reads (suc l) d v s at = then_reads _ _ (number_reads s at) (λ kind e.
    either_reads _ _ _ (giving_reads var _ (declared_reads v s e))
    (either_reads _ _ _ (giving_reads con _ (declared_reads d.constants s e))
    (either_reads _ _ _ (then_reads _ _ (declared_reads (length d.functions) s e) (λ f g.
    either_reads _ _ _ (deep e) (giving_reads (λ ts. app f (terms ts)) _ (many_reads (get_or d.functions f 0) (term_at l d v s) (term_reads l d v s) g))))
    (unknown at))))

literal_reads : (d : Names) (v : ℕ) (s : Bytes) (at : ℕ) → Reads (literal_at d v s at)
unfolding literal_at
literal_reads d v s at = then_reads _ _ (number_reads s at) (λ kind e.
    either_reads _ _ _ (then_reads _ _ (declared_reads (length d.relations) s e) (λ r g.
    giving_reads (λ ts. fact r (terms ts)) _ (many_reads (get_or d.relations r 0) (term_at levels d v s) (term_reads levels d v s) g)))
    (either_reads _ _ _ (then_reads _ _ (term_reads levels d v s e) (λ t g. giving_reads (same t) _ (term_reads levels d v s g))) (unknown at)))

origin_reads : (d : Names) (v : ℕ) (s : Bytes) (at : ℕ) → Reads (origin_at d v s at)
unfolding origin_at
origin_reads d v s at = then_reads _ _ (number_reads s at) (λ kind a. either_reads _ _ _ (unknown at)
    (then_reads _ _ (declared_reads (witnesses d kind) s a) (λ w b. then_reads _ _ (number_reads s b) (λ k c.
    either_reads _ _ _ (giving_reads (λ xs. record { kind = kind; witness = w; args = xs }) _ (many_reads k (declared v s) (declared_reads v s) c))
    (reads_refused 9 b (is 9 (omega arith) (omega arith)))))))

disjunct_reads : (d : Names) (v : ℕ) (s : Bytes) (at : ℕ) → Reads (disjunct_at d v s at)
unfolding disjunct_at
disjunct_reads d v s at = then_reads _ _ (ranged_reads 0 4 s at) (λ k a. then_reads _ _ (many_reads k (origin_at d v s) (origin_reads d v s) a) (λ os b.
    then_reads _ _ (ranged_reads 0 16 s b) (λ n c. giving_reads _ _ (many_reads n (literal_at d (v + k) s) (literal_reads d (v + k) s) c))))

sequent_reads : (d : Names) (s : Bytes) (at : ℕ) → Reads (sequent_at d s at)
unfolding sequent_at
sequent_reads d s at = then_reads _ _ (ranged_reads 0 4 s at) (λ v a. then_reads _ _ (ranged_reads 0 16 s a) (λ k b.
    then_reads _ _ (many_reads k (literal_at d v s) (literal_reads d v s) b) (λ ls c. then_reads _ _ (ranged_reads 0 8 s c) (λ n e.
    giving_reads _ _ (many_reads n (disjunct_at d v s) (disjunct_reads d v s) e)))))

names_reads : (s : Bytes) (at : ℕ) → Reads (names_at s at)
unfolding names_at
names_reads s at =
    then_reads _ _ (ranged_reads 0 64 s at) (λ c₁ a. then_reads _ _ (ranged_reads 0 64 s a) (λ c₂ b. then_reads _ _ (ranged_reads 0 64 s b) (λ c₃ c.
    then_reads _ _ (ranged_reads 0 64 s c) (λ c₄ d. then_reads _ _ (ranged_reads 0 64 s d) (λ c₅ e.
    then_reads _ _ (many_reads c₂ (ranged 0 4 s) (ranged_reads 0 4 s) e) (λ fs g. then_reads _ _ (many_reads c₃ (ranged 0 4 s) (ranged_reads 0 4 s) g) (λ rs h.
    giving_reads _ _ (many_reads c₅ (ranged 1 4 s) (ranged_reads 1 4 s) h))))))))

mark_byte_reads : (c : ℕ) (s : Bytes) (at : ℕ) → Reads (mark_byte c s at)
unfolding mark_byte
mark_byte_reads c s at = either_reads _ _ _ (either_reads _ _ _ (reads_got _ _) (reads_refused 3 at (is 3 (omega arith) (omega arith)))) (reads_refused 2 at (is 2 (omega arith) (omega arith)))

mark_reads : (s : Bytes) → Reads (mark s)
unfolding mark
mark_reads s = then_reads _ _ (mark_byte_reads 82 s 0) (λ _ a. then_reads _ _ (mark_byte_reads 85 s a) (λ _ b. mark_byte_reads 76 s b))

version_reads : (s : Bytes) (at : ℕ) → Reads (version s at)
unfolding version
version_reads s at = then_reads _ _ (number_reads s at) (λ x e. either_reads _ _ _ (reads_got _ _) (reads_refused 4 at (is 4 (omega arith) (omega arith))))

book_reads : (s : Bytes) → Reads (read_book s)
unfolding read_book ended
book_reads s = either_reads _ _ _ (reads_refused 1 0 (is 1 (omega arith) (omega arith)))
    (then_reads _ _ (mark_reads s) (λ _ a. then_reads _ _ (version_reads s a) (λ _ b. then_reads _ _ (names_reads s b) (λ d c. then_reads _ _ (ranged_reads 0 128 s c) (λ k e.
    then_reads _ _ (many_reads k (sequent_at d s) (sequent_reads d s) e) (λ ss g. either_reads _ _ _ (reads_got _ _) (reads_refused 10 g (is 10 (omega arith) (omega arith)))))))))

pub book_refusal : (s : Bytes) (n at : ℕ) → read_book s ≡ refused n at → Refusal 10 n
book_refusal s n at e = (book_reads s).numbers n at e

-- ---- the two ways of a call

-- What is known where a call goes on: the book, and that length and settings are right.
pub record Passed (book pool : Bytes) (settings : Bool) (b : Book) : Type 0 where
  pub end : ℕ
  pub reads : read_book book ≡ got b end
  pub length_right : T (right_length (length pool))
  pub known : T settings

case_read_elim {κ} : {A B : Type 0} (P : B → Type κ) (r : Read A) (f : ℕ → ℕ → B) (g : A → ℕ → B)
    → ((n at : ℕ) → r ≡ refused n at → P (f n at)) → ((a : A) (e : ℕ) → r ≡ got a e → P (g a e)) → P (case_read r f g)
unfolding case_read
case_read_elim P (got a e) f g p q = q a e refl
case_read_elim P (refused n at) f g p q = p n at refl

pub checked_elim {κ} : {A : Type 0} (P : A → Type κ) (book pool : Bytes) (settings : Bool) (refusing : ℕ → A) (going : Book → A)
    → ((n : ℕ) → Refusal 12 n → P (refusing n)) → ((b : Book) → Passed book pool settings b → P (going b)) → P (checked book pool settings refusing going)
unfolding checked
checked_elim P book pool settings refusing going f g =
    case_read_elim P (read_book book) _ _ (λ n at e. let q = book_refusal book n at e in f n (record { some = q.some; most = omega (arith, q.most) })) (λ b e r.
    if_elim P _ _ _ (λ l. if_elim P _ _ _ (λ k. g b (record { end = e; reads = r; length_right = l; known = k })) (λ _. f 12 (record { some = omega arith; most = omega arith }))) (λ _. f 11 (record { some = omega arith; most = omega arith })))

pub soundly_elim {κ} : {A : Type 0} (P : A → Type κ) (book pool : Bytes) (settings : Bool) (refusing : ℕ → A) (going : Book → State → A)
    → ((n : ℕ) → Refusal 13 n → P (refusing n)) → ((b : Book) → Passed book pool settings b → T (sound limits b pool) → P (going b (pool_in limits pool)))
    → P (soundly book pool settings refusing going)
unfolding soundly
soundly_elim P book pool settings refusing going f g =
    checked_elim P book pool settings refusing _ (λ n q. f n (record { some = q.some; most = omega (arith, q.most) })) (λ b p.
    if_elim P _ _ _ (λ t. g b p t) (λ _. f 13 (record { some = omega arith; most = omega arith })))

-- The same where the book is known.
pub soundly_of {κ} : {A : Type 0} (P : A → Type κ) (book pool : Bytes) (settings : Bool) (refusing : ℕ → A) (going : Book → State → A) (b : Book) (e : ℕ) → read_book book ≡ got b e
    → ((n : ℕ) → Refusal 13 n → P (refusing n)) → (T (right_length (length pool)) → T settings → T (sound limits b pool) → P (going b (pool_in limits pool)))
    → P (soundly book pool settings refusing going)
soundly_of P book pool settings refusing going b e r f g =
    soundly_elim P book pool settings refusing going f (λ c p t.
    let q = p.reads in
    let z : b ≡ c = cc in
    subst (λ d. P (going d (pool_in limits pool))) z (g p.length_right p.known (subst (λ d. T (sound limits d pool)) (sym z) t)))
