-- The ways out of the small tests, one law for each.
use Rattle.std.specs.Prelude.{◌≡◌, refl, Bool, true, false, ◌&&◌, Option, None, Some, is_some, MatchOption, List, [], ◌∷◌, map, zero, suc, length, get_or, set, ltb, eqb}
use Rattle.std.proofs.Common.{sym, ap₂, ◌∙◌, subst, arith, add-one, get_or-set_same, get_or-set_other}
use Rattle.std.proofs.Math.Path.{ap}
use Prim.Native.Nat.{ℕ, ◌+◌, ◌-◌, ◌≤◌, ◌<◌, min, max}
use Rattle.std.proofs.Math.Decide.{ℕ_discrete}
use borrow.Author.Tests.{lt-ltb, le-ltb, eq-eqb, ne_eqb}
use Rattle.std.specs.List.{fold, range_with_len}
use Rattle.std.specs.Option.{unwrap_or}
use Rattle.std.proofs.lemmas.List.{get_or-map}
use Rattle.base.specs.Branch.{if}
use Rattle.base.specs.Lists.{from}
use Rattle.rules.specs.Book.{Names}
use Rattle.rules.specs.Bound.{depth_over}
use Rattle.rules.specs.Sound.{has_arity, declared_as}
use Rattle.sheetparts.specs.Loops.{up_to, up_next}
use Rattle.sheetparts.specs.Tests.{lowest, shown, wanted, unknown}

-- ---- a symbol

pub arity_yes : (ars : List ℕ) (i n k r : ℕ) → k ≡ length ars → i < k → r ≡ get_or ars i 0 → eqb r n ≡ has_arity ars i n
unfolding has_arity
arity_yes ars i n k r e h q = ap (λ x. eqb x n) q ∙ ap (λ b. b && eqb (get_or ars i 0) n) (sym (lt-ltb i (length ars) (omega arith)))

pub arity_no : (ars : List ℕ) (i n k : ℕ) → k ≡ length ars → k ≤ i → false ≡ has_arity ars i n
unfolding has_arity
arity_no ars i n k e h = ap (λ b. b && eqb (get_or ars i 0) n) (sym (le-ltb i (length ars) (omega arith)))

pub low_yes : (i n k c : ℕ) → k ≡ c → i < k → eqb n 0 ≡ ltb i c && eqb n 0
low_yes i n k c e h = ap (λ b. b && eqb n 0) (sym (lt-ltb i c (omega arith)))

pub low_no : (i n k c : ℕ) → k ≡ c → k ≤ i → false ≡ ltb i c && eqb n 0
low_no i n k c e h = ap (λ b. b && eqb n 0) (sym (le-ltb i c (omega arith)))

module _ (d : Names) (kind symbol n : ℕ) where
  pub constant : kind ≡ 1 → declared_as d kind symbol n ≡ ltb symbol d.constants && eqb n 0
  unfolding declared_as if
  constant e = rw e

  pub function : kind ≡ 2 → declared_as d kind symbol n ≡ has_arity d.functions symbol n
  unfolding declared_as if
  function e = rw e

  pub constant_witness : kind ≡ 3 → declared_as d kind symbol n ≡ ltb symbol d.constant_witnesses && eqb n 0
  unfolding declared_as if
  constant_witness e = rw e

  pub function_witness : kind ≡ 4 → declared_as d kind symbol n ≡ has_arity d.function_witnesses symbol n
  unfolding declared_as if
  function_witness e = rw e

  pub nothing : (kind ≡ 1 → ⊥) → (kind ≡ 2 → ⊥) → (kind ≡ 3 → ⊥) → (kind ≡ 4 → ⊥) → false ≡ declared_as d kind symbol n
  unfolding declared_as if
  nothing a b c e = rw (ne_eqb kind 1 a, ne_eqb kind 2 b, ne_eqb kind 3 c, ne_eqb kind 4 e)

-- ---- depths

-- The greatest so far, handed on from each argument to the next, is the greatest of all.
handed_on : (f : ℕ → ℕ) (m i n : ℕ) → fold max m (map (λ j. f j + 1) (range_with_len i n)) ≡ max m (depth_over (map f (from i n)))
unfolding depth_over from
handed_on f m i zero = omega arith
handed_on f m i (suc n) =
    let rest = ap (λ j. max (max m (f i + 1)) (depth_over (map f (from j n)))) (add-one i) in
    handed_on f (max m (f i + 1)) (i + 1) n ∙ omega (arith, rest)

pub greatest : (f : ℕ → ℕ) (n : ℕ) → fold max 0 (map (λ j. f j + 1) (range_with_len 0 n)) ≡ depth_over (map f (up_to 0 n))
unfolding up_to
greatest f n =
    let z : n - 0 ≡ n = omega arith in
    let all = handed_on f 0 0 n in
    rw z (omega (arith, all))

-- No depth is above 256, the one behind a byte.
pub few : (f : ℕ → ℕ) → ((j : ℕ) → f j < 256) → (i n : ℕ) → depth_over (map f (up_to i n)) ≤ 256
unfolding up_to depth_over from
few f b i n = go i (n - i)
  where
    go : (i n : ℕ) → depth_over (map f (from i n)) ≤ 256
    go i zero = omega arith
    go i (suc n) = omega (arith, b i, go (suc i) n)

-- One key more in front: its value's depth falls to its own, if that is less.
module _ (v f : ℕ → ℕ) (i n : ℕ) (h : i < n) where
  abbrev before : ℕ → ℕ
  before e = lowest v f (up_to (i + 1) n) e

  step : (e : ℕ) → lowest v f (up_to i n) e ≡ if (eqb (v i) e) (λ _. min (f i) (before e)) (λ _. before e)
  unfolding lowest
  step e = ap (λ l. lowest v f l e) (up_next i n h)

  pub low_here : lowest v f (up_to i n) (v i) ≡ min (f i) (before (v i))
  unfolding if
  low_here = step (v i) ∙ ap (λ b. if b (λ _. min (f i) (before (v i))) (λ _. before (v i))) (eq-eqb (v i) (v i) refl)

  pub low_there : (e : ℕ) → (v i ≡ e → ⊥) → lowest v f (up_to i n) e ≡ before e
  unfolding if
  low_there e d = step e ∙ ap (λ b. if b (λ _. min (f i) (before e)) (λ _. before e)) (ne_eqb (v i) e d)

  abbrev Low : ℕ → List ℕ → Type 0
  Low j t = (e : ℕ) → e < 256 → get_or t e 0 ≡ lowest v f (up_to j n) e

  pub low_met : (t : List ℕ) → v i < 256 → length t ≡ 256 → Low (i + 1) t → Low i (set t (v i) (min (get_or t (v i) 0) (f i)))
  low_met t b w g e k =
      let m = min (get_or t (v i) 0) (f i) in
      elim (ℕ_discrete (v i) e) [
        | yes p ↦ subst (λ x. get_or (set t (v i) m) x 0 ≡ lowest v f (up_to i n) x) p (omega (arith, get_or-set_same t (v i) m 0 (omega arith), g (v i) b, low_here))
        | no p ↦ get_or-set_other t (v i) e m 0 (λ q. p (sym q)) ∙ g e k ∙ sym (low_there e p)
      ]

-- The key before i, of value x and depth y, in a loop that goes down.
module _ (v f : ℕ → ℕ) (i n x y : ℕ) (t : List ℕ) (some : 0 < i) (h : i ≤ n) (p : x ≡ v (i - 1)) (q : y ≡ f (i - 1)) (b : x < 256)
    (g : (e : ℕ) → e < 256 → get_or t e 0 ≡ lowest v f (up_to i n) e) where
  lows : (e : ℕ) → e < 256 → get_or t e 0 ≡ lowest v f (up_to (i - 1 + 1) n) e
  lows e k = let z : i ≡ i - 1 + 1 = omega arith in g e k ∙ ap (λ j. lowest v f (up_to j n) e) z

  pub key_met : length t ≡ 256 → (e : ℕ) → e < 256 → get_or (set t x (min (get_or t x 0) y)) e 0 ≡ lowest v f (up_to (i - 1) n) e
  key_met w e k =
      ap₂ (λ (a z : ℕ). get_or (set t a (min (get_or t a 0) z)) e 0) p q
      ∙ low_met v f (i - 1) n (omega arith) t (omega arith) w lows e k

-- ---- a branch whose test is known

pub on : {A : Type 0} (b : Bool) (f g : Unit {0} → A) → b ≡ true → if b f g ≡ f tt
unfolding if
on b f g e = rw e

pub off : {A : Type 0} (b : Bool) (f g : Unit {0} → A) → b ≡ false → if b f g ≡ g tt
unfolding if
off b f g e = rw e

-- ---- a table of least depths as code has it

shown_known : (o : Option ℕ) → is_some o ≡ ltb (shown o) 512
shown_known None = refl
shown_known (Some least) = sym (lt-ltb (min least 511) 512 (omega arith))

shown_wanted : (o : Option ℕ) (x : ℕ) → x < 256 → eqb x (unwrap_or o 0) ≡ eqb x (wanted (shown o))
unfolding wanted unknown if
shown_wanted None x h = refl
shown_wanted (Some least) x h =
    let m = min least 511 in
    let told = off (eqb m 512) (λ _. 0) (λ _. m) (ne_eqb m 512 (omega arith)) in
    elim (ℕ_discrete x least) [
      | yes p ↦ ap (λ d. eqb x d) (omega (arith, p, told))
      | no p ↦ ne_eqb x least p ∙ sym (ne_eqb x (wanted m) (λ q. p (omega (arith, q, h, told))))
    ]

pub known : (t : List (Option ℕ)) (e : ℕ) → e < length t → is_some (get_or t e None) ≡ ltb (get_or (map shown t) e 0) 512
known t e h = shown_known (get_or t e None) ∙ ap (λ x. ltb x 512) (sym (get_or-map shown t e None 0 h))

pub depth_wanted : (t : List (Option ℕ)) (e x : ℕ) → x < 256 → eqb x (unwrap_or (get_or t e None) 0) ≡ eqb x (wanted (get_or (map shown t) e 0))
unfolding wanted unknown if
depth_wanted [] e x b = refl
depth_wanted (o ∷ t) zero x b = shown_wanted o x b
depth_wanted (o ∷ t) (suc e) x b = depth_wanted t e x b

-- The lesser of the least depth so far and an entry's.
pub lesser : (o : Option ℕ) (deep r : ℕ) → deep ≤ 256 → MatchOption o (r ≡ deep) (λ least. r ≡ min least deep) → shown (Some r) ≡ min (shown o) deep
lesser None deep r h e = omega arith
lesser (Some least) deep r h e = omega arith
