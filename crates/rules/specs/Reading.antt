-- Bytes read into a book (01, "The rule book" and "Refusal numbers" 1 to 10). The first fault in byte order decides, since the
-- numbers are read one after another; at one number 2 comes before its value's fault. A refusal carries the place of its fault.
use Rattle.std.specs.Prelude.{ℕ, zero, suc, ◌+◌, ◌*◌, ◌&&◌, List, [], ◌∷◌, length, get_or, leb, ltb, eqb}
use Rattle.base.specs.Branch.{if}
use Rattle.rules.specs.Book.{Term, var, con, app, terms, Literal, fact, same, Origin, Disjunct, Sequent, Names, Book}

abbrev pub Bytes : Type 0
Bytes = List ℕ

-- What a reading gives: a thing and the place behind it, or a refusal's number and the place of the fault.
pub data Read (A : Type 0) : Type 0 where
  got : A → ℕ → Read A
  refused : ℕ → ℕ → Read A

unfoldable pub case_read : {A B : Type 0} → Read A → (ℕ → ℕ → B) → (A → ℕ → B) → B
case_read (got a e) f g = g a e
case_read (refused n p) f g = f n p

-- One reading after another.
unfoldable pub and_then : {A B : Type 0} → Read A → (A → ℕ → Read B) → Read B
and_then (got a e) f = f a e
and_then (refused n p) f = refused n p

-- The same reading, with another thing made of what it gives.
unfoldable pub giving : {A B : Type 0} → (A → B) → Read A → Read B
giving f (got a e) = got (f a) e
giving f (refused n p) = refused n p

-- As many as counted, in order.
unfoldable pub many : {A : Type 0} → ℕ → (ℕ → Read A) → ℕ → Read (List A)
many zero f at = got [] at
many (suc n) f at = and_then (f at) (λ x e. giving (λ xs. x ∷ xs) (many n f e))

-- A 16-bit number, low byte first.
unfoldable pub num : Bytes → ℕ → ℕ
num s at = get_or s at 0 + 256 * get_or s (suc at) 0

-- 2: the book ends before a wanted number.
unfoldable pub number : Bytes → ℕ → Read ℕ
number s at = if (leb (at + 2) (length s)) (λ _. got (num s at) (at + 2)) (λ _. refused 2 at)

-- 5: a count or arity outside its range.
unfoldable pub ranged : ℕ → ℕ → Bytes → ℕ → Read ℕ
ranged low high s at = and_then (number s at) (λ x e. if (leb low x && leb x high) (λ _. got x e) (λ _. refused 5 at))

-- 7: a symbol or variable that is not declared there; n of them are.
unfoldable pub declared : ℕ → Bytes → ℕ → Read ℕ
declared n s at = and_then (number s at) (λ x e. if (ltb x n) (λ _. got x e) (λ _. refused 7 at))

-- 2 inside the mark, 3 at a wrong mark byte, even if the book ends after it.
unfoldable pub mark_byte : ℕ → Bytes → ℕ → Read ℕ
mark_byte c s at = if (ltb at (length s)) (λ _. if (eqb (get_or s at 0) c) (λ _. got c (suc at)) (λ _. refused 3 at)) (λ _. refused 2 at)

-- `RUL`
unfoldable pub mark : Bytes → Read ℕ
mark s = and_then (mark_byte 82 s 0) (λ _ a. and_then (mark_byte 85 s a) (λ _ b. mark_byte 76 s b))

-- 4: a version that is not 1.
unfoldable pub version : Bytes → ℕ → Read ℕ
version s at = and_then (number s at) (λ x e. if (eqb x 1) (λ _. got x e) (λ _. refused 4 at))

-- The five counts, then the arities: all functions, all relations, all function witnesses.
unfoldable pub names_at : Bytes → ℕ → Read Names
names_at s at =
    and_then (ranged 0 64 s at) (λ constants a. and_then (ranged 0 64 s a) (λ functions b. and_then (ranged 0 64 s b) (λ relations c.
    and_then (ranged 0 64 s c) (λ constant_witnesses d. and_then (ranged 0 64 s d) (λ function_witnesses e.
    and_then (many functions (ranged 0 4 s) e) (λ fs g. and_then (many relations (ranged 0 4 s) g) (λ rs h.
    giving (λ ws. record { constants = constants; functions = fs; relations = rs; constant_witnesses = constant_witnesses; function_witnesses = ws })
    (many function_witnesses (ranged 1 4 s) h))))))))

-- Terms nest to at most eight levels; a literal's own term is level 1.
unfoldable pub levels : ℕ
levels = 8

-- A term where so many levels are left (this one counted) and v variables may be named. 6: unknown kind.
-- 8: an application with arguments at the last level, at the function's number.
unfoldable pub term_at : ℕ → Names → ℕ → Bytes → ℕ → Read Term
term_at zero n v s at = refused 8 at
term_at (suc l) n v s at = and_then (number s at) (λ kind e.
    if (eqb kind 0) (λ _. giving var (declared v s e)) (λ _.
    if (eqb kind 1) (λ _. giving con (declared n.constants s e)) (λ _.
    if (eqb kind 2) (λ _. and_then (declared (length n.functions) s e) (λ f g.
    if (eqb l 0 && ltb 0 (get_or n.functions f 0)) (λ _. refused 8 e) (λ _.
    giving (λ ts. app f (terms ts)) (many (get_or n.functions f 0) (term_at l n v s) g)))) (λ _.
    refused 6 at))))

unfoldable pub literal_at : Names → ℕ → Bytes → ℕ → Read Literal
literal_at n v s at = and_then (number s at) (λ kind e.
    if (eqb kind 0) (λ _. and_then (declared (length n.relations) s e) (λ r g.
    giving (λ ts. fact r (terms ts)) (many (get_or n.relations r 0) (term_at levels n v s) g))) (λ _.
    if (eqb kind 1) (λ _. and_then (term_at levels n v s e) (λ t g. giving (same t) (term_at levels n v s g))) (λ _.
    refused 6 at)))

-- How many witnesses of a kind are declared, and the arity of one (a constant witness has none).
unfoldable pub witnesses : Names → ℕ → ℕ
witnesses n kind = if (eqb kind 0) (λ _. n.constant_witnesses) (λ _. length n.function_witnesses)

unfoldable pub witness_arity : Names → ℕ → ℕ → ℕ
witness_arity n kind w = if (eqb kind 0) (λ _. 0) (λ _. get_or n.function_witnesses w 0)

-- 6 at the kind, 7 at the witness number, 9 at an argument count that is not the witness's, 7 at an argument.
unfoldable pub origin_at : Names → ℕ → Bytes → ℕ → Read Origin
origin_at n v s at = and_then (number s at) (λ kind a. if (ltb 1 kind) (λ _. refused 6 at) (λ _.
    and_then (declared (witnesses n kind) s a) (λ w b. and_then (number s b) (λ k c.
    if (eqb k (witness_arity n kind w))
    (λ _. giving (λ xs. record { kind = kind; witness = w; args = xs }) (many k (declared v s) c)) (λ _. refused 9 b)))))

-- A disjunct also names its own existentials, behind the v free variables.
unfoldable pub disjunct_at : Names → ℕ → Bytes → ℕ → Read Disjunct
disjunct_at n v s at = and_then (ranged 0 4 s at) (λ k a. and_then (many k (origin_at n v s) a) (λ os b.
    and_then (ranged 0 16 s b) (λ m c. giving (λ ls. record { origins = os; literals = ls }) (many m (literal_at n (v + k) s) c))))

unfoldable pub sequent_at : Names → Bytes → ℕ → Read Sequent
sequent_at n s at = and_then (ranged 0 4 s at) (λ v a. and_then (ranged 0 16 s a) (λ k b. and_then (many k (literal_at n v s) b) (λ ls c.
    and_then (ranged 0 8 s c) (λ m d. giving (λ ds. record { free = v; body = ls; head = ds }) (many m (disjunct_at n v s) d)))))

-- 10: bytes left over.
unfoldable pub ended : {A : Type 0} → Bytes → A → ℕ → Read A
ended s a at = if (eqb at (length s)) (λ _. got a at) (λ _. refused 10 at)

-- 1 comes first: a book over 32,768 bytes.
unfoldable pub read_book : Bytes → Read Book
read_book s = if (ltb 32768 (length s)) (λ _. refused 1 0) (λ _.
    and_then (mark s) (λ _ a. and_then (version s a) (λ _ b. and_then (names_at s b) (λ n c. and_then (ranged 0 128 s c) (λ k d.
    and_then (many k (sequent_at n s) d) (λ ss e. ended s (record { names = n; sequents = ss }) e))))))
