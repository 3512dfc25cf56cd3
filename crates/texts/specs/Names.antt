-- What the head of a book names, at the places where it stands: the counts at 5, 7, 9, 11 and 13, the arities from 15 on.
-- `names_in` is total, so that readers of counts and arities have contracts without a condition; that the names of an accepted
-- book are these is a law of Heads.
use Rattle.std.specs.Prelude.{◌≡◌, refl, ℕ, zero, suc, ◌+◌, ◌*◌, ◌≤◌, ◌<◌, List, [], ◌∷◌, length, get_or}
use Rattle.std.proofs.Common.{ap, ◌∙◌, arith}
use Rattle.std.proofs.Math.ListN.{get_or-eq_default}
use Rattle.rules.specs.Book.{Names}
use Rattle.rules.specs.Reading.{Bytes, num}

-- So many numbers from a place on.
unfoldable pub nums : Bytes → ℕ → ℕ → List ℕ
nums s at zero = []
nums s at (suc k) = num s at ∷ nums s (at + 2) k

pub nums_length : (s : Bytes) (at k : ℕ) → length (nums s at k) ≡ k
unfolding nums
nums_length s at zero = refl
nums_length s at (suc k) = ap suc (nums_length s (at + 2) k)

pub nums_at : (s : Bytes) (at k i : ℕ) → i < k → get_or (nums s at k) i 0 ≡ num s (at + 2 * i)
unfolding nums
nums_at s at zero i h = absurd (omega arith)
nums_at s at (suc k) zero h = ap (num s) (omega arith)
nums_at s at (suc k) (suc i) h = nums_at s (at + 2) k i (omega arith) ∙ ap (num s) (omega arith)

pub nums_past : (s : Bytes) (at k i : ℕ) → k ≤ i → get_or (nums s at k) i 0 ≡ 0
nums_past s at k i h = get_or-eq_default (nums s at k) 0 (omega (arith, nums_length s at k))

-- Where the arities of relations and of function witnesses start, where the sequent count stands, and where the sequents start.
unfoldable pub relations_at : Bytes → ℕ
relations_at s = 15 + 2 * num s 7

unfoldable pub witnesses_at : Bytes → ℕ
witnesses_at s = relations_at s + 2 * num s 9

unfoldable pub count_at : Bytes → ℕ
count_at s = witnesses_at s + 2 * num s 13

unfoldable pub sequents_at : Bytes → ℕ
sequents_at s = count_at s + 2

unfoldable pub names_in : Bytes → Names
names_in s = record {
  constants = num s 5;
  functions = nums s 15 (num s 7);
  relations = nums s (relations_at s) (num s 9);
  constant_witnesses = num s 11;
  function_witnesses = nums s (witnesses_at s) (num s 13);
}

-- ---- its counts and arities by their places

pub functions_count : (s : Bytes) → length (names_in s).functions ≡ num s 7
unfolding names_in
functions_count s = nums_length s 15 (num s 7)

pub relations_count : (s : Bytes) → length (names_in s).relations ≡ num s 9
unfolding names_in
relations_count s = nums_length s (relations_at s) (num s 9)

pub witnesses_count : (s : Bytes) → length (names_in s).function_witnesses ≡ num s 13
unfolding names_in
witnesses_count s = nums_length s (witnesses_at s) (num s 13)

pub function_arity : (s : Bytes) (f : ℕ) → f < num s 7 → get_or (names_in s).functions f 0 ≡ num s (15 + 2 * f)
unfolding names_in
function_arity s f h = nums_at s 15 (num s 7) f h

pub relation_arity : (s : Bytes) (r : ℕ) → r < num s 9 → get_or (names_in s).relations r 0 ≡ num s (relations_at s + 2 * r)
unfolding names_in
relation_arity s r h = nums_at s (relations_at s) (num s 9) r h

pub witness_arity_lem : (s : Bytes) (w : ℕ) → w < num s 13 → get_or (names_in s).function_witnesses w 0 ≡ num s (witnesses_at s + 2 * w)
unfolding names_in
witness_arity_lem s w h = nums_at s (witnesses_at s) (num s 13) w h

-- A symbol that is not declared has arity 0.
pub function_none : (s : Bytes) (f : ℕ) → num s 7 ≤ f → get_or (names_in s).functions f 0 ≡ 0
unfolding names_in
function_none s f h = nums_past s 15 (num s 7) f h

pub relation_none : (s : Bytes) (r : ℕ) → num s 9 ≤ r → get_or (names_in s).relations r 0 ≡ 0
unfolding names_in
relation_none s r h = nums_past s (relations_at s) (num s 9) r h

pub witness_none : (s : Bytes) (w : ℕ) → num s 13 ≤ w → get_or (names_in s).function_witnesses w 0 ≡ 0
unfolding names_in
witness_none s w h = nums_past s (witnesses_at s) (num s 13) w h
