-- When a pool is sound for a book (01, "The pool"), clause by clause, as a test.
use Prim.Native.Nat.{ℕ, min, max, Ordering}
use Rattle.std.specs.Prelude.{Bool, true, false, ◌&&◌, ◌||◌, List, [], ◌∷◌, map, length, get_or, leb, ltb, eqb}
use Rattle.std.proofs.Math.Option.{Option, none, some}
use Rattle.base.specs.Branch.{if, case_o, is_lt}
use Rattle.base.specs.Lists.{all, mem, distinct, from, is_nil, equal}
use Rattle.rules.specs.Book.{Names, Book}
use Rattle.rules.specs.Reading.{Bytes}
use Rattle.rules.specs.Sheet.{key_order, Fact, fact_order, Entry, Model, Sheet, known, Limits}
use Rattle.rules.specs.Fire.{places}
use Rattle.rules.specs.Bound.{depth_over}
use Rattle.rules.specs.Pool.{State, schedulers, strategies, strategy_of, numbers, sheet_at, sheets_at, used}
use Rattle.rules.specs.Image.{sheet_bytes, sheet_in, pool_bytes, pool_in}

-- "Keys and facts rise strictly": each entry is below the next.
unfoldable pub rising_from {ℓ} : {A : Type ℓ} → (A → A → Ordering) → A → List A → Bool
rising_from o x [] = true
rising_from o x (y ∷ ys) = is_lt (o x y) && rising_from o y ys

unfoldable pub rising {ℓ} : {A : Type ℓ} → (A → A → Ordering) → List A → Bool
rising o [] = true
rising o (x ∷ xs) = rising_from o x xs

-- The i-th arity of a list of arities is n.
unfoldable pub has_arity : List ℕ → ℕ → ℕ → Bool
has_arity arities i n = ltb i (length arities) && eqb (get_or arities i 0) n

-- "Name declared symbols with their arities": of a kind, in key order.
unfoldable pub declared_as : Names → ℕ → ℕ → ℕ → Bool
declared_as d kind symbol n =
    if (eqb kind 1) (λ _. ltb symbol d.constants && eqb n 0) (λ _.
    if (eqb kind 2) (λ _. has_arity d.functions symbol n) (λ _.
    if (eqb kind 3) (λ _. ltb symbol d.constant_witnesses && eqb n 0) (λ _.
    if (eqb kind 4) (λ _. has_arity d.function_witnesses symbol n) (λ _. false))))

unfoldable pub key_declared : Names → Entry → Bool
key_declared d x = declared_as d x.0.kind x.0.symbol (length x.0.args)

unfoldable pub fact_declared : Names → Fact → Bool
fact_declared d f = has_arity d.relations f.relation (length f.args)

-- The least depth that the keys give an element; none if no key yields it.
unfoldable pub least : List ℕ → List Entry → ℕ → Option ℕ
least ds [] e = none
least ds (x ∷ xs) e =
    if (eqb x.1 e)
    (λ _. let d = depth_over (map (λ a. get_or ds a 0) x.0.args) in some (case_o (least ds xs e) (λ _. d) (min d)))
    (λ _. least ds xs e)

-- "Each element's depth is the least over its keys"; one that was merged away has 0.
unfoldable pub depth_right : Model → ℕ → Bool
depth_right m e = case_o (least m.depths m.keys e) (λ _. eqb (get_or m.depths e 0) 0) (eqb (get_or m.depths e 0))

-- The parts about a sheet alone, its limits included, but for number and place.
unfoldable pub sound_model : Limits → Names → Model → Bool
sound_model lim d m =
    (leb m.created lim.elements && (leb (length m.keys) lim.keys && leb (length m.facts) lim.facts))
    && ((rising (λ (x y : Entry). key_order x.0 y.0) m.keys && rising fact_order m.facts)
    && ((all (key_declared d) m.keys && all (fact_declared d) m.facts)
    && ((all (λ (x : Entry). all (known m) x.0.args) m.keys && all (λ (f : Fact). all (known m) f.args) m.facts)
    && (all (λ (x : Entry). ltb x.1 m.created) m.keys
    && (eqb (length m.depths) m.created && all (depth_right m) (from 0 m.created))))))

-- A sheet, with so many places.
unfoldable pub sound_sheet : Limits → Names → ℕ → Sheet → Bool
sound_sheet lim d n x = sound_model lim d x.model && ltb x.place n

unfoldable pub is_blank : Sheet → Bool
is_blank x = (eqb x.number 0 && eqb x.place 0)
    && (eqb x.model.created 0 && (is_nil x.model.keys && (is_nil x.model.facts && is_nil x.model.depths)))

-- "Lists name each slot in use once": no slot twice, all of them there, and a slot that none names is free, all zero.
unfoldable pub sound_lists : State → Bool
sound_lists s = distinct (used s) && (all (λ i. ltb i (length s.slots)) (used s)
    && all (λ i. mem i (used s) || is_blank (sheet_at s i)) (from 0 (length s.slots)))

-- "Model numbers differ and are below the next", which is at most 65,536: used up.
unfoldable pub sound_numbers : State → Bool
sound_numbers s = leb s.next numbers
    && (distinct (map (λ (x : Sheet). x.number) (sheets_at s (used s))) && all (λ (x : Sheet). ltb x.number s.next) (sheets_at s (used s)))

unfoldable pub sound_state : Limits → Book → State → Bool
sound_state lim b s =
    (ltb s.scheduler schedulers && ltb s.strategy strategies)
    && (sound_lists s && (sound_numbers s
    && all (sound_sheet lim b.names (places (strategy_of s.strategy) (length b.sequents))) (sheets_at s (used s))))

-- "Image rules hold": the bytes are the image of what they say, mark, version and unused room included.
unfoldable pub sound : Limits → Book → Bytes → Bool
sound lim b p = equal (pool_bytes lim (pool_in lim p)) p && sound_state lim b (pool_in lim p)

-- "A lone sheet is sound by the parts about itself, its place 0 or below the sequent count", whatever the strategy. Image rules hold
-- for it, too; its number is any.
unfoldable pub sound_lone : Limits → Book → Bytes → Bool
sound_lone lim b s = equal (sheet_bytes lim (sheet_in lim s)) s && sound_sheet lim b.names (max 1 (length b.sequents)) (sheet_in lim s)
