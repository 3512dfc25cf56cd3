-- Open behind the book's check: the pool's length, the settings, and the image of one waiting, empty model 0, which is eight bytes in
-- a pool of zeros.
use Rattle.std.proofs.Math.Path.{◌≡◌, refl, sym, ap}
use Rattle.std.proofs.Common.{ap₂, ◌∙◌, subst, arith}
use Rattle.std.specs.Prelude.{ℕ, zero, suc, ◌+◌, ◌-◌, ◌*◌, ◌/◌, ◌≤◌, ◌<◌, Bool, ◌&&◌, ◌++◌, map, length, set, replicate, T}
use Rattle.std.proofs.Math.Decide.{dec_le}
use Rattle.std.proofs.Math.Bool.{true, false}
use Rattle.std.proofs.lemmas.List.{replicate-append-replicate}
use Rattle.std.proofs.Math.Dec.{leb, ltb, eqb}
use borrow.Author.Tests.{ltb-true, lt-ltb, le-ltb, le-leb, lt-leb, eq-eqb, ne_eqb}
use Rattle.base.specs.Branch.{if}
use Rattle.base.specs.Lists.{flat}
use Rattle.rules.specs.Book.{Book}
use Rattle.rules.specs.Reading.{Bytes, Read, got, refused, case_read, read_book}
use Rattle.rules.specs.Sheet.{blank, limits}
use Rattle.rules.specs.Pool.{opened, schedulers, strategies}
use Rattle.rules.specs.Image.{word, long, padded, pool_mark, most_slots, pool_head, pool_bytes, head_size, sheet_size, slots_in, sheet_bytes}
use Rattle.rules.specs.Calls.{right_length, checked, Outcome, outcome, open_call, OpenPromise}
use Rattle.numbers.specs.Answers.{outside}
use Rattle.images.specs.Sheets.{blank_zero}
use Rattle.poolcheck.specs.Books.{right_slots}
use Rattle.sheetparts.specs.Ways.{on, off}
use Rattle.settings.specs.declared.Scheduler.{Scheduler}
use Rattle.settings.specs.declared.Strategy.{Strategy}
use Rattle.settings.specs.Codes.{code_of_scheduler, code_of_strategy, scheduler_low, strategy_low}

-- ---- lengths

module _ (len n : ℕ) (e : n ≡ (len - 208) / 2128) where
  right_is : right_length len ≡ eqb len (208 + 2128 * n) && (leb 1 n && leb n 64)
  unfolding right_length head_size slots_in sheet_size limits most_slots
  right_is = ap (λ k. eqb len (208 + 2128 * k) && (leb 1 k && leb k 64)) (sym e)

  pub length_wrong : (len ≡ 208 + 2128 * n → ⊥) → false ≡ right_length len
  length_wrong h = sym (right_is ∙ ap (λ b. b && (leb 1 n && leb n 64)) (ne_eqb len (208 + 2128 * n) h))

  pub length_none : len ≡ 208 + 2128 * n → n < 1 → false ≡ right_length len
  length_none h l = sym (right_is ∙ ap₂ (λ a b. a && (b && leb n 64)) (eq-eqb len (208 + 2128 * n) h) (lt-leb 1 n l))

  pub length_right : len ≡ 208 + 2128 * n → (b : Bool) → (b ≡ true → (1 ≤ n) × (n ≤ 64)) → (b ≡ false → 1 ≤ n → n ≤ 64 → ⊥) → b ≡ right_length len
  length_right h true y z = let p = y refl in sym (right_is ∙ rw (eq-eqb len (208 + 2128 * n) h, le-leb 1 n p.0, le-leb n 64 p.1) refl)
  length_right h false y z = sym (right_is ∙ rw (eq-eqb len (208 + 2128 * n) h, outside 1 64 n (z refl)) refl)

pub length_short : (len : ℕ) → len < 208 → false ≡ right_length len
length_short len h = length_wrong len ((len - 208) / 2128) refl (λ e. omega arith)

pub length_least : (len : ℕ) → right_length len ≡ true → 208 ≤ len
length_least len e = elim (dec_le 208 len) [ yes h ↦ h | no h ↦ (let f = length_short len (omega arith) in let z : ◌≡◌ {A = ℕ} 0 1 = cc in absurd (omega arith)) ]

pub right_true : (len : ℕ) → right_length len ≡ true → T (right_length len)
right_true len e = subst T (sym e) tt

-- ---- behind the book's check

-- 12: a scheduler and a strategy that document 01 knows.
abbrev pub settings_known : ℕ → ℕ → Bool
settings_known scheduler strategy = ltb scheduler schedulers && ltb strategy strategies

unfoldable pub open_rest : Bytes → ℕ → ℕ → Outcome
open_rest pool scheduler strategy =
    if (right_length (length pool)) (λ _. if (settings_known scheduler strategy)
    (λ _. outcome 0 (pool_bytes limits (opened scheduler strategy (slots_in limits (length pool))))) (λ _. outcome 12 pool)) (λ _. outcome 11 pool)

pub record OpenRest (pool : Bytes) (scheduler strategy answer : ℕ) (after : Bytes) : Type 0 where
  pub answers : answer ≡ (open_rest pool scheduler strategy).answer
  pub leaves : after ≡ (open_rest pool scheduler strategy).pool

module _ (scheduler strategy : ℕ) where
  pub scheduler_unknown : 2 ≤ scheduler → settings_known scheduler strategy ≡ false
  unfolding schedulers
  scheduler_unknown h = ap (λ b. b && ltb strategy strategies) (le-ltb scheduler 2 h)

  strategy_unknown : scheduler < 2 → 2 ≤ strategy → settings_known scheduler strategy ≡ false
  unfolding schedulers strategies
  strategy_unknown h k = rw (lt-ltb scheduler 2 h, le-ltb strategy 2 k) refl

  both_known : scheduler < 2 → strategy < 2 → settings_known scheduler strategy ≡ true
  unfolding schedulers strategies
  both_known h k = rw (lt-ltb scheduler 2 h, lt-ltb strategy 2 k) refl

  -- Where the scheduler is known, the strategy decides.
  pub strategy_decides : scheduler < 2 → ltb strategy 2 ≡ settings_known scheduler strategy
  unfolding schedulers strategies
  strategy_decides h = sym (ap (λ b. b && ltb strategy 2) (lt-ltb scheduler 2 h))

  pub settings_within : true ≡ settings_known scheduler strategy → (scheduler < 2) × (strategy < 2)
  unfolding schedulers strategies
  settings_within e = go (ltb scheduler 2) (ltb strategy 2) refl refl (sym e)
    where
      go : (a b : Bool) → ltb scheduler 2 ≡ a → ltb strategy 2 ≡ b → a && b ≡ true → (scheduler < 2) × (strategy < 2)
      go true true p q _ = (ltb-true scheduler 2 p, ltb-true strategy 2 q)
      go true false p q e = absurd (let z : ◌≡◌ {A = ℕ} 0 1 = cc in omega arith)
      go false b p q e = absurd (let z : ◌≡◌ {A = ℕ} 0 1 = cc in omega arith)

module _ (pool : Bytes) (scheduler strategy : ℕ) where
  rest_is : (o : Outcome) → open_rest pool scheduler strategy ≡ o → OpenRest pool scheduler strategy o.answer o.pool
  rest_is o e = record { answers = ap (λ (x : Outcome). x.answer) (sym e); leaves = ap (λ (x : Outcome). x.pool) (sym e) }

  pub open_eleven : right_length (length pool) ≡ false → OpenRest pool scheduler strategy 11 pool
  unfolding open_rest outcome
  open_eleven e = rest_is (outcome 11 pool) (off (right_length (length pool)) _ _ e)

  module _ (e : right_length (length pool) ≡ true) where
    twelve : settings_known scheduler strategy ≡ false → OpenRest pool scheduler strategy 12 pool
    unfolding open_rest outcome
    twelve u = rest_is (outcome 12 pool) (on (right_length (length pool)) _ _ e ∙ off (settings_known scheduler strategy) _ _ u)

    pub no_scheduler : 2 ≤ scheduler → OpenRest pool scheduler strategy 12 pool
    no_scheduler h = twelve (scheduler_unknown scheduler strategy h)

    pub no_strategy : (s : Scheduler) → code_of_scheduler s ≡ scheduler → 2 ≤ strategy → OpenRest pool scheduler strategy 12 pool
    no_strategy s p h = let l = scheduler_low s in twelve (strategy_unknown scheduler strategy (omega arith) h)

    pub opens : (s : Scheduler) → code_of_scheduler s ≡ scheduler → (t : Strategy) → code_of_strategy t ≡ strategy
        → (after : Bytes) → after ≡ pool_bytes limits (opened (code_of_scheduler s) (code_of_strategy t) (slots_in limits (length pool))) → OpenRest pool scheduler strategy 0 after
    unfolding open_rest outcome
    opens s p t q after w =
        let l = scheduler_low s in
        let m = strategy_low t in
        let o = on (right_length (length pool)) _ _ e ∙ on (settings_known scheduler strategy) _ _ (both_known scheduler strategy (omega arith) (omega arith)) in
        let x : after ≡ pool_bytes limits (opened scheduler strategy (slots_in limits (length pool))) = w ∙ ap₂ (λ (j k : ℕ). pool_bytes limits (opened j k (slots_in limits (length pool)))) p q in
        record { answers = ap (λ (x : Outcome). x.answer) (sym o); leaves = x ∙ ap (λ (x : Outcome). x.pool) (sym o) }

-- ---- the image

blanks : (n : ℕ) → flat (map (sheet_bytes limits) (replicate n blank)) ≡ replicate (2128 * n) 0
unfolding flat limits sheet_size
blanks zero = refl
blanks (suc n) =
    let e : 2128 + 2128 * n ≡ 2128 * suc n = omega arith in
    ap₂ (λ (x y : Bytes). x ++ y) (blank_zero limits) (blanks n) ∙ replicate-append-replicate 2128 (2128 * n) 0 ∙ ap (λ k. replicate k 0) e

-- The eight bytes that are not zero.
abbrev pub marks : ℕ → ℕ → Bytes → Bytes
marks scheduler strategy p = set (set (set (set (set (set (set (set p 0 77) 1 68) 2 76) 3 1) 5 scheduler) 6 strategy) 8 1) 12 1

marked : (scheduler strategy n : ℕ) (rest : Bytes) → marks scheduler strategy (replicate 208 0 ++ rest) ≡ pool_head (opened scheduler strategy n) ++ rest
unfolding pool_head pool_mark opened long word padded most_slots
marked scheduler strategy n rest = refl

pub open_image : (scheduler strategy n : ℕ) (len : ℕ) → len ≡ 208 + 2128 * n → marks scheduler strategy (replicate len 0) ≡ pool_bytes limits (opened scheduler strategy n)
unfolding pool_bytes opened
open_image scheduler strategy n len e =
    ap (λ k. marks scheduler strategy (replicate k 0)) e ∙ ap (marks scheduler strategy) (sym (replicate-append-replicate 208 (2128 * n) 0))
    ∙ marked scheduler strategy n (replicate (2128 * n) 0) ∙ ap (λ (l : Bytes). pool_head (opened scheduler strategy n) ++ l) (sym (blanks n))

-- The same for a pool of a right length.
pub open_written : (scheduler strategy : ℕ) (pool after : Bytes) → T (right_length (length pool)) → after ≡ replicate (length pool) 0
    → marks scheduler strategy after ≡ pool_bytes limits (opened scheduler strategy (slots_in limits (length pool)))
unfolding slots_in head_size sheet_size limits
open_written scheduler strategy pool after t e =
    ap (marks scheduler strategy) e ∙ open_image scheduler strategy ((length pool - 208) / 2128) (length pool) (right_slots (length pool) t).0

-- ---- the promise

module _ (book pool : Bytes) (scheduler strategy : ℕ) where
  pub open_going : (b : Book) (e : ℕ) → read_book book ≡ got b e → (answer : ℕ) (after : Bytes) → OpenRest pool scheduler strategy answer after → OpenPromise book pool scheduler strategy answer after
  unfolding open_call checked case_read open_rest
  open_going b e q answer after g =
      let o : open_call book pool scheduler strategy ≡ open_rest pool scheduler strategy = ap (λ (r : Read Book). case_read r (λ n at. outcome n pool) (λ _ _. open_rest pool scheduler strategy)) q in
      record { answers = g.answers ∙ ap (λ (x : Outcome). x.answer) (sym o); leaves = g.leaves ∙ ap (λ (x : Outcome). x.pool) (sym o) }

  pub open_refused : (n at : ℕ) → read_book book ≡ refused n at → OpenPromise book pool scheduler strategy n pool
  unfolding open_call checked case_read outcome open_rest
  open_refused n at q =
      let o : open_call book pool scheduler strategy ≡ outcome n pool = ap (λ (r : Read Book). case_read r (λ n at. outcome n pool) (λ _ _. open_rest pool scheduler strategy)) q in
      record { answers = ap (λ (x : Outcome). x.answer) (sym o); leaves = ap (λ (x : Outcome). x.pool) (sym o) }
