-- A key packed digit by digit: kind, symbol and number of arguments first, then each argument at its weight, highest first.
use Rattle.std.specs.Prelude.{◌≡◌, ℕ, ◌+◌, ◌*◌, ◌/◌, ◌≤◌, ◌<◌, List, [], ◌∷◌, length}
use Rattle.std.proofs.Common.{mul-le-mul_right, arith}
use Rattle.rules.specs.Sheet.{key}
use Rattle.packing.specs.Digits.{number_from}
use Rattle.packing.specs.Pack.{pack_key}

-- The number of a key before its arguments.
abbrev pub start : ℕ → ℕ → ℕ → ℕ
start kind symbol n = ((kind * 256 + symbol) * 256 + n) * 4294967296

-- Behind a number, arguments from the weight of the first on.
unfoldable pub pack_args : ℕ → ℕ → List ℕ → ℕ
pack_args acc w [] = acc
pack_args acc w (x ∷ xs) = pack_args (acc + x * w) (w / 256) xs

-- The weight of the first argument.
abbrev pub top : ℕ
top = 16777216

pub pack_args_lem : (kind symbol : ℕ) (xs : List ℕ) → length xs ≤ 4 → pack_args (start kind symbol (length xs)) top xs ≡ pack_key (key kind symbol xs)
unfolding pack_args pack_key number_from
pack_args_lem kind symbol [] h = omega arith
pack_args_lem kind symbol (a ∷ []) h = omega arith
pack_args_lem kind symbol (a ∷ b ∷ []) h = omega arith
pack_args_lem kind symbol (a ∷ b ∷ c ∷ []) h = omega arith
pack_args_lem kind symbol (a ∷ b ∷ c ∷ e ∷ []) h = omega arith
pack_args_lem kind symbol (a ∷ b ∷ c ∷ e ∷ f ∷ xs) h = absurd (omega arith)

-- There is room for arguments from this weight on.
abbrev pub Roomy : ℕ → ℕ → Type 0
Roomy acc w = acc + 256 * w ≤ 1152921504606846976

pub weighs : (v w : ℕ) → v < 256 → v * w ≤ 255 * w
weighs v w h = mul-le-mul_right w (omega arith)
