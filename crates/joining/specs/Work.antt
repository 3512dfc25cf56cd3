-- Merging on packed tables, with the pairs that wait and with what each element is now: one pair, pairs one after another, and
-- depths lowered in the end. The document's own definitions, with numbers for keys, facts and pairs.
use Rattle.std.specs.Prelude.{◌≡◌, refl, ℕ, zero, suc, ◌+◌, ◌/◌, ◌%◌, min, max, List, [], ◌∷◌, map, length, eqb}
use Rattle.std.proofs.Common.{sym, ap, ◌∙◌, arith}
use Rattle.std.proofs.Math.Option.{none, some, some-ne-none}
use Rattle.std.proofs.lemmas.List.{length-map}
use Rattle.base.specs.Branch.{if, case_l, three}
use Rattle.base.specs.BranchLaws.{if_elim, case_o_elim}
use Rattle.rules.specs.Merge.{merge_depths, sum}
use Rattle.packing.specs.Compare.{ways}
use Rattle.packing.specs.Replace.{replaced, key_of, value_of}
use Rattle.tables.specs.Table.{look_in, put_in, put_known}
use Rattle.renaming.specs.Order.{order_in, order_length}
use Rattle.filing.specs.File.{Files, file_in, refile_in, refact_in}
use Rattle.lowering.specs.Lower.{lower_in}

pub record Work : Type 0 where
  pub keys : List ℕ
  pub pairs : List ℕ
  pub facts : List ℕ
  pub depths : List ℕ
  pub history : List ℕ

-- Other pairs wait.
abbrev pub waiting : List ℕ → Work → Work
waiting ps v = record { keys = v.keys; pairs = ps; facts = v.facts; depths = v.depths; history = v.history }

-- s survives, l goes.
unfoldable pub into_in : ℕ → ℕ → Work → Work
into_in s l v =
    let r = refile_in (order_in (map (replaced s l) v.keys)) ([], map (replaced s l) v.pairs) in
    record { keys = r.0; pairs = r.1; facts = refact_in (order_in (map (replaced s l) v.facts)) []; depths = merge_depths s l v.depths; history = map (replaced s l) v.history }

-- The two elements of a pair become one; they may be one already.
unfoldable pub next_in : ℕ → Work → Work
next_in p v = if (eqb (p / 256) (p % 256)) (λ _. v) (λ _. into_in (min (p / 256) (p % 256)) (max (p / 256) (p % 256)) v)

unfoldable pub merge_all_in : ℕ → Work → Work
merge_all_in zero v = v
merge_all_in (suc n) v = case_l v.pairs (λ _. v) (λ p ps. merge_all_in n (next_in p (waiting ps v)))

abbrev pub lowered_in : Work → Work
lowered_in v = record { keys = v.keys; pairs = v.pairs; facts = v.facts; depths = lower_in (sum v.depths) v.keys v.depths; history = v.history }

-- ---- a key that falls away has become a pair

put_fresh : (x : ℕ) (xs : List ℕ) → look_in (key_of x) xs ≡ none → length (put_in x xs) ≡ suc (length xs)
unfolding look_in put_in three
put_fresh x [] = λ e. refl
put_fresh x (y ∷ ys) = ways
    (λ o. three o (λ _. none) (λ _. some (value_of y)) (λ _. look_in (key_of x) ys) ≡ none → length (three o (λ _. x ∷ y ∷ ys) (λ _. x ∷ ys) (λ _. y ∷ put_in x ys)) ≡ suc (suc (length ys))) (key_of x) (key_of y)
    (λ _ _. refl) (λ _ e. absurd (some-ne-none (value_of y) e)) (λ _ e. ap suc (put_fresh x ys e))

file_length : (x : ℕ) (r : Files) → length (file_in x r).0 + length (file_in x r).1 ≡ suc (length r.0 + length r.1)
unfolding file_in
file_length x r =
    case_o_elim (λ (ps : List ℕ). length (put_in x r.0) + length ps ≡ suc (length r.0 + length r.1)) (look_in (key_of x) r.0) _ _
    (λ e. let q = put_fresh x r.0 e in omega arith) (λ v e. let q = put_known x r.0 v e in omega arith)

refile_length : (xs : List ℕ) (r : Files) → length (refile_in xs r).0 + length (refile_in xs r).1 ≡ length xs + (length r.0 + length r.1)
unfolding refile_in
refile_length [] r = omega arith
refile_length (x ∷ xs) r = let i = refile_length xs (file_in x r) in let j = file_length x r in omega arith

-- How many rounds there can be.
abbrev pub rounds : Work → ℕ
rounds v = length v.pairs + length v.keys

into_rounds : (s l : ℕ) (v : Work) → rounds (into_in s l v) ≡ rounds v
unfolding into_in
into_rounds s l v =
    let f = replaced s l in
    let r = refile_length (order_in (map f v.keys)) ([], map f v.pairs) in
    let o = order_length (map f v.keys) in
    let p = length-map v.keys f in
    let q = length-map v.pairs f in
    omega arith

next_rounds : (p : ℕ) (v : Work) → rounds (next_in p v) ≡ rounds v
unfolding next_in
next_rounds p v =
    if_elim (λ (u : Work). rounds u ≡ rounds v) (eqb (p / 256) (p % 256)) _ _ (λ _. refl) (λ _. into_rounds (min (p / 256) (p % 256)) (max (p / 256) (p % 256)) v)

-- ---- one round, and the end

pub all_next : (v : Work) (p : ℕ) (ps : List ℕ) → v.pairs ≡ p ∷ ps
    → merge_all_in (rounds v) v ≡ merge_all_in (rounds (next_in p (waiting ps v))) (next_in p (waiting ps v))
unfolding merge_all_in case_l
all_next v p ps e =
    let n : rounds v ≡ suc (length ps + length v.keys) = omega (arith, ap length e) in
    let r = next_rounds p (waiting ps v) in
    ap (λ k. merge_all_in k v) n
    ∙ ap (λ (l : List ℕ). case_l l (λ _. v) (λ p ps. merge_all_in (length qs + length v.keys) (next_in p (waiting ps v)))) e
    ∙ ap (λ k. merge_all_in k (next_in p (waiting ps v))) (sym r)
  where
    qs : List ℕ
    qs = ps

pub all_end : (n : ℕ) (v : Work) → v.pairs ≡ [] → merge_all_in n v ≡ v
unfolding merge_all_in case_l
all_end zero v e = refl
all_end (suc n) v e = ap (λ (l : List ℕ). case_l l (λ _. v) (λ p ps. merge_all_in n (next_in p (waiting ps v)))) e
