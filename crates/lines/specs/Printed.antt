-- What the listing program prints, of every input (01, behind "Corners"): 8 bytes of settings and a book; 12 slots, budget 1,000.
use Rattle.std.specs.Prelude.{ℕ, ◌+◌, ◌*◌, Bool, ◌&&◌, length, get_or, drop, ltb, eqb}
use Rattle.base.specs.Branch.{if}
use Rattle.rules.specs.Book.{Book, rules}
use Rattle.rules.specs.Reading.{Bytes, num, case_read, read_book}
use Rattle.rules.specs.Sheet.{limits}
use Rattle.rules.specs.Pool.{schedulers, strategies, opened}
use Rattle.rules.specs.Step.{Ran, run}
use Rattle.rules.specs.Calls.{bound_of, known_bound}
use Rattle.lines.specs.Text.{listing, refusal}

-- "8 bytes of settings (scheduler, strategy, bound, 0, then the bound's number, low byte first)."
pub record Settings : Type 0 where
  pub scheduler : ℕ
  pub strategy : ℕ
  pub bound : ℕ
  pub zero : ℕ
  pub number : ℕ

unfoldable pub settings_in : Bytes → Settings
settings_in s = record {
  scheduler = get_or s 0 0;
  strategy = get_or s 1 0;
  bound = get_or s 2 0;
  zero = get_or s 3 0;
  number = num s 4 + 65536 * num s 6;
}

-- 12: known settings, as the calls know them, and the fourth byte 0.
unfoldable pub known_settings : Settings → Bool
known_settings t = (ltb t.scheduler schedulers && ltb t.strategy strategies) && (eqb t.zero 0 && known_bound t.bound t.number)

unfoldable pub slot_count : ℕ
slot_count = 12

unfoldable pub budget : ℕ
budget = 1000

-- A run from an opened pool, listed.
unfoldable pub ran : Settings → Book → Ran
ran t b = run limits budget (bound_of t.bound t.number) (rules b) (opened t.scheduler t.strategy slot_count)

-- "Input under 8 bytes is refused as 2"; then the book's first fault, then 12.
unfoldable pub printed : Bytes → Bytes
printed input =
    if (ltb (length input) 8) (λ _. refusal 2) (λ _.
    case_read (read_book (drop 8 input)) (λ n at. refusal n) (λ b end.
    if (known_settings (settings_in input)) (λ _. let r = ran (settings_in input) b in listing r.stop r.steps r.state) (λ _. refusal 12)))
