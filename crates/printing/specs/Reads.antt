-- The promises as code has them, and that the program reads enough of its input.
use Rattle.std.specs.Prelude.{◌≡◌, refl, ℕ, ◌+◌, ◌-◌, ◌*◌, ◌≤◌, Bool, true, false, length, get_or, take, drop, ltb}
use Rattle.std.proofs.Common.{sym, ap, ◌∙◌, arith, length-drop, take_all, length-take-le, lt-ltb, le-ltb, ltb-true, ltb-false}
use Rattle.base.specs.Branch.{if}
use Rattle.rules.specs.Book.{Book}
use Rattle.rules.specs.Reading.{Bytes, num, Read, case_read, read_book}
use Rattle.rules.specs.Calls.{OpenPromise, RunPromise}
use Rattle.sheetparts.specs.Ways.{on, off}
use Rattle.lines.specs.Text.{listing, refusal}
use Rattle.lines.specs.Printed.{settings_in, known_settings, ran, printed}

-- ---- the promises as code has them: the book is the part of the input from 8 on, the settings are numbers that were read

from_eight : (input : Bytes) → take (length input - 8) (drop 8 input) ≡ drop 8 input
from_eight input = take_all (length input - 8) (drop 8 input) (omega (arith, length-drop 8 input))

pub open_read : (input pool : Bytes) (a b answer : ℕ) (after : Bytes) → a ≡ get_or input 0 0 → b ≡ get_or input 1 0
    → OpenPromise (take (length input - 8) (drop 8 input)) pool a b answer after → OpenPromise (drop 8 input) pool (get_or input 0 0) (get_or input 1 0) answer after
open_read input pool a b answer after e f o = rw (from_eight input, e, f) at o

pub run_read : (input pool : Bytes) (a n stop steps : ℕ) (after : Bytes) → a ≡ get_or input 2 0 → n ≡ num input 4 + 65536 * num input 6
    → RunPromise (take (length input - 8) (drop 8 input)) pool a n 1000 stop steps after
    → RunPromise (drop 8 input) pool (get_or input 2 0) (num input 4 + 65536 * num input 6) 1000 stop steps after
run_read input pool a n stop steps after e f r = rw (from_eight input, e, f) at r

-- ---- a longer input: its first 32,777 bytes tell that its book is too long

long_book : (input : Bytes) → 32777 ≤ length input → printed input ≡ refusal 1
unfolding printed read_book case_read
long_book input h =
    off (ltb (length input) 8) _ _ (le-ltb (length input) 8 (omega arith))
    ∙ ap (λ (r : Read Book). case_read r (λ n at. refusal n) (λ b end. if (known_settings (settings_in input)) (λ _. let r = ran (settings_in input) b in listing r.stop r.steps r.state) (λ _. refusal 12)))
    (on (ltb 32768 (length (drop 8 input))) _ _ (lt-ltb 32768 (length (drop 8 input)) (omega (arith, length-drop 8 input))))

-- So what the program reads, and no more, decides what it prints.
pub printed_cut : (input : Bytes) → printed (take 32777 input) ≡ printed input
printed_cut input = go (ltb (length input) 32777) refl
  where
    go : (b : Bool) → ltb (length input) 32777 ≡ b → printed (take 32777 input) ≡ printed input
    go true e = ap printed (take_all 32777 input (let l = ltb-true (length input) 32777 e in omega arith))
    go false e =
        let l = ltb-false (length input) 32777 e in
        long_book (take 32777 input) (omega (arith, length-take-le 32777 input l)) ∙ sym (long_book input l)
