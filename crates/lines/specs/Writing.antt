-- Fields as code writes them behind a text.
use Rattle.std.specs.Prelude.{◌≡◌, ℕ, ◌+◌, ◌^◌, ◌<◌, [], ◌∷◌, ◌++◌, length, get_or, take}
use Rattle.std.proofs.Common.{sym, ap, ◌∙◌, add-one, append_assoc, append-nil, take-suc}
use Rattle.std.specs.Fmt as fmt
use Rattle.rules.specs.Reading.{Bytes}
use Rattle.lines.specs.Text.{fields}
use Rattle.lines.specs.Numbers.{decimal_is, fields_append, field_one}

-- A space and the digits of a number.
pub field_parts : (p : Bytes) (x : ℕ) → x < 2 ^ 64 → (p ++ (32 ∷ [])) ++ fmt.decimal x ≡ p ++ fields (x ∷ [])
field_parts p x h = append_assoc p (32 ∷ []) (fmt.decimal x) ∙ ap (λ (d : Bytes). p ++ (32 ∷ d)) (sym (decimal_is x h)) ∙ ap (λ (d : Bytes). p ++ d) (sym (field_one x))

-- A row of none, and one more field of a row.
pub fields_none : (p : Bytes) → p ++ fields [] ≡ p
unfolding fields
fields_none p = append-nil p

pub row_more : (p s : Bytes) (i : ℕ) → i < length s → (p ++ fields (take i s)) ++ fields (get_or s i 0 ∷ []) ≡ p ++ fields (take (i + 1) s)
row_more p s i h =
    append_assoc p (fields (take i s)) (fields (get_or s i 0 ∷ []))
    ∙ ap (λ (d : Bytes). p ++ d) (sym (fields_append (take i s) (get_or s i 0 ∷ [])) ∙ ap fields (sym (ap (λ j. take j s) (add-one i) ∙ take-suc s i 0 h)))
