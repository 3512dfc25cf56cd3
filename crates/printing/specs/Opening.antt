-- What is printed where open refuses, where the fourth byte is not 0, and what is known where the run begins.
use Rattle.std.specs.Prelude.{◌≡◌, refl, ℕ, ◌+◌, ◌*◌, ◌≤◌, ◌<◌, Bool, true, false, ◌&&◌, Result, Ok, Err, length, get_or, drop, T, ltb, eqb}
use Rattle.std.proofs.Math.Path.{sym, ap, ap₂}
use Rattle.std.proofs.Common.{◌∙◌, subst, arith, ltb→lt, lt-ltb, le-ltb, ne_eqb}
use Rattle.base.specs.Branch.{if}
use Rattle.base.specs.BranchLaws.{and_l, and_r}
use Rattle.rules.specs.Book.{Book, rules}
use Rattle.rules.specs.Reading.{Bytes, num, Read, got, refused, case_read, read_book}
use Rattle.rules.specs.Sheet.{limits}
use Rattle.rules.specs.Pool.{schedulers, strategies, opened}
use Rattle.rules.specs.Step.{Ran, run}
use Rattle.rules.specs.Image.{head_size, sheet_size, slots_in, most_slots, pool_bytes}
use Rattle.rules.specs.Calls.{right_length, bound_of, known_bound, checked, Outcome, outcome, open_call, OpenPromise}
use Rattle.refusals.specs.declared.Refusal.{Refusal}
use Rattle.refusals.specs.Numbers.{number as refusal_number}
use Rattle.sheetparts.specs.Ways.{on, off}
use Rattle.demands.specs.Refusals.{book_refusal}
use Rattle.lines.specs.Text.{listing, refusal}
use Rattle.lines.specs.Printed.{settings_in, known_settings, slot_count, budget, ran, printed}

-- What is known where the run begins.
pub record Opened (input pool : Bytes) : Type 0 where
  pub long : 8 ≤ length input
  pub book : Book
  pub end : ℕ
  pub reads : read_book (drop 8 input) ≡ got book end
  pub scheduler : get_or input 0 0 < 2
  pub strategy : get_or input 1 0 < 2
  pub zero : get_or input 3 0 ≡ 0
  pub is : pool ≡ pool_bytes limits (opened (get_or input 0 0) (get_or input 1 0) 12)

-- An input opens its pool, or what it is refused with is what is printed.
abbrev pub OpenedOr : Bytes → Result (Unit {0}) Refusal → Bytes → Type 0
OpenedOr input (Ok done) after = Opened input after
OpenedOr input (Err r) after = refusal (refusal_number r) ≡ printed input

-- ---- the parts of an input

module _ (input : Bytes) where
  abbrev pub book : Bytes
  book = drop 8 input

  abbrev pub scheduler : ℕ
  scheduler = get_or input 0 0

  abbrev pub strategy : ℕ
  strategy = get_or input 1 0

  abbrev pub bound : ℕ
  bound = get_or input 2 0

  abbrev pub number : ℕ
  number = num input 4 + 65536 * num input 6

  abbrev pub known : Bool
  known = ltb scheduler 2 && ltb strategy 2

  abbrev pub fine : Bool
  fine = eqb (get_or input 3 0) 0 && known_bound bound number

  abbrev pub ran_of : Book → Ran
  ran_of b = run limits 1000 (bound_of bound number) (rules b) (opened scheduler strategy 12)

  abbrev pub text_of : Book → Bytes
  text_of b = listing (ran_of b).stop (ran_of b).steps (ran_of b).state

  abbrev pub image : Bytes
  image = pool_bytes limits (opened scheduler strategy 12)

-- ---- where the book is read

-- Open's answer and the text, of one reading: a refusal is what is printed; an unrefused open had a book and known settings.
module _ (pool after : Bytes) (known rest : Bool) (text : Book → Bytes) where
  abbrev pub opens : Read Book → Outcome
  opens r = case_read r (λ n at. outcome n pool) (λ b e. if known (λ _. outcome 0 after) (λ _. outcome 12 pool))

  abbrev pub prints : Read Book → Bytes
  prints r = case_read r (λ n at. refusal n) (λ b e. if (known && rest) (λ _. text b) (λ _. refusal 12))

record Went (known : Bool) (r : Read Book) (after left : Bytes) : Type 0 where
  book : Book
  end : ℕ
  reads : r ≡ got book end
  knows : known ≡ true
  leaves : left ≡ after

refused_prints : (pool after : Bytes) (known rest : Bool) (text : Book → Bytes) (r : Read Book) → ((opens pool after known rest text r).answer ≡ 0 → ⊥)
    → prints pool after known rest text r ≡ refusal (opens pool after known rest text r).answer
unfolding case_read outcome if
refused_prints pool after known rest text (refused n at) h = refl
refused_prints pool after true rest text (got b e) h = absurd (h refl)
refused_prints pool after false rest text (got b e) h = refl

went : (pool after : Bytes) (known rest : Bool) (text : Book → Bytes) (r : Read Book) → ((n at : ℕ) → r ≡ refused n at → 1 ≤ n) → (opens pool after known rest text r).answer ≡ 0
    → Went known r after (opens pool after known rest text r).pool
unfolding case_read outcome if
went pool after known rest text (refused n at) f h = let z = f n at refl in absurd (omega arith)
went pool after true rest text (got b e) f h = record { book = b; end = e; reads = refl; knows = refl; leaves = refl }
went pool after false rest text (got b e) f h = absurd (omega arith)

-- ---- an input under 8 bytes

pub prints_two : (input : Bytes) → length input < 8 → refusal 2 ≡ printed input
unfolding printed
prints_two input h = sym (on (ltb (length input) 8) _ _ (lt-ltb (length input) 8 h))

-- ---- an input of 8 bytes or more

module _ (input : Bytes) (long : 8 ≤ length input) where
  pub printed_is : (pool : Bytes) → printed input ≡ prints pool (image input) (known input) (fine input) (text_of input) (read_book (book input))
  unfolding printed known_settings settings_in schedulers strategies ran slot_count budget
  printed_is pool = off (ltb (length input) 8) _ _ (le-ltb (length input) 8 long)

  module _ (pool : Bytes) (right : length pool ≡ 25744) where
    open_is : open_call (book input) pool (scheduler input) (strategy input) ≡ opens pool (image input) (known input) (fine input) (text_of input) (read_book (book input))
    unfolding open_call checked schedulers strategies right_length head_size sheet_size slots_in limits most_slots if
    open_is = ap (λ n. case_read (read_book (book input)) (λ n at. outcome n pool) (λ b _.
        if (right_length n) (λ _. if (known input) (λ _. outcome 0 (pool_bytes limits (opened (scheduler input) (strategy input) (slots_in limits n)))) (λ _. outcome 12 pool)) (λ _. outcome 11 pool))) right

    module _ (answer : ℕ) (after : Bytes) (o : OpenPromise (book input) pool (scheduler input) (strategy input) answer after) where
      answers : answer ≡ (opens pool (image input) (known input) (fine input) (text_of input) (read_book (book input))).answer
      answers = o.answers ∙ ap (λ (x : Outcome). x.answer) open_is

      -- Open refuses.
      pub prints_refusal : (answer ≡ 0 → ⊥) → refusal answer ≡ printed input
      prints_refusal h = sym (printed_is pool ∙ refused_prints pool (image input) (known input) (fine input) (text_of input) (read_book (book input)) (λ z. h (answers ∙ z)) ∙ ap refusal (sym answers))

      opened_went : answer ≡ 0 → Went (known input) (read_book (book input)) (image input) (opens pool (image input) (known input) (fine input) (text_of input) (read_book (book input))).pool
      opened_went h = went pool (image input) (known input) (fine input) (text_of input) (read_book (book input)) (λ n at e. (book_refusal (book input) n at e).some) (sym answers ∙ h)

      -- The fourth byte is not 0.
      pub prints_twelve : answer ≡ 0 → (get_or input 3 0 ≡ 0 → ⊥) → refusal 12 ≡ printed input
      unfolding case_read if
      prints_twelve h z =
          let g = opened_went h in
          sym (printed_is pool ∙ ap (prints pool (image input) (known input) (fine input) (text_of input)) g.reads ∙ ap₂ (λ (k f : Bool). if (k && (f && known_bound (bound input) (number input))) (λ _. text_of input g.book) (λ _. refusal 12)) g.knows (ne_eqb (get_or input 3 0) 0 z))

      -- The pool is open.
      pub is_opened : answer ≡ 0 → get_or input 3 0 ≡ 0 → Opened input after
      is_opened h z =
          let g = opened_went h in
          let t = subst T (sym g.knows) tt in
          record {
            long = long;
            book = g.book;
            end = g.end;
            reads = g.reads;
            scheduler = ltb→lt (scheduler input) 2 (and_l (ltb (scheduler input) 2) _ t);
            strategy = ltb→lt (strategy input) 2 (and_r (ltb (scheduler input) 2) _ t);
            zero = z;
            is = o.leaves ∙ ap (λ (x : Outcome). x.pool) open_is ∙ g.leaves;
          }
