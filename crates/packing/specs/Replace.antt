-- Digits of a packed entry, each read back, and one element renamed to another in all of them.
use Rattle.std.specs.Prelude.{◌≡◌, refl, ℕ, zero, suc, ◌+◌, ◌-◌, ◌*◌, ◌/◌, ◌%◌, ◌^◌, ◌<◌, map, length, get_or, eqb}
use Rattle.std.proofs.Common.{sym, ap, ◌∙◌, eqb→eq}
use native.Mathlib.Omega.{arith}
use Rattle.std.proofs.lemmas.List.{length-map}
use Rattle.std.proofs.Math.ListN.{get_or-map}
use Rattle.base.specs.BranchLaws.{if_elim}
use Rattle.base.specs.ListLaws.{all_get_d_or, all_map}
use Rattle.rules.specs.Sheet.{key, Fact, Entry}
use Rattle.rules.specs.Merge.{rename, rename_entry, rename_fact}
use Rattle.images.specs.Storable.{Octet, FewKey, ByteKey}
use Rattle.packing.specs.Digits.{number_from}
use Rattle.packing.specs.Pack.{pack_key, pack_entry, pack_fact, fact_entry, FitsEntry}

-- ---- the digits

abbrev pub count_of : ℕ → ℕ
count_of x = x / 256 ^ 5 % 256

-- The i-th of the four arguments.
unfoldable pub arg_of : ℕ → ℕ → ℕ
arg_of x i = x / 256 ^ (4 - i) % 256

abbrev pub key_of : ℕ → ℕ
key_of x = x / 256

abbrev pub value_of : ℕ → ℕ
value_of x = x % 256

-- The number of eight digits, highest first.
abbrev pub eight : (a b c d e f g h : ℕ) → ℕ
eight a b c d e f g h = ((((((a * 256 + b) * 256 + c) * 256 + d) * 256 + e) * 256 + f) * 256 + g) * 256 + h

module _ (a b c d e f g h : ℕ) (pb : b < 256) (pc : c < 256) (pd : d < 256) (pe : e < 256) (pf : f < 256) (pg : g < 256) (ph : h < 256) where
  digit_count : count_of (eight a b c d e f g h) ≡ c
  digit_count = omega arith

  digit_top : eight a b c d e f g h / 256 ^ 5 ≡ (a * 256 + b) * 256 + c
  digit_top = omega arith

  digit_args : (arg_of (eight a b c d e f g h) 0 ≡ d) × (arg_of (eight a b c d e f g h) 1 ≡ e)
      × (arg_of (eight a b c d e f g h) 2 ≡ f) × (arg_of (eight a b c d e f g h) 3 ≡ g)
  unfolding arg_of
  digit_args = (omega arith, omega arith, omega arith, omega arith)

-- An entry with digits below 256, of at most four arguments.
pub record Eight (x : Entry) : Type 0 where
  pub few : FewKey x
  pub bytes : ByteKey x

pub eight_of : {arity : ℕ → ℕ → ℕ} (x : Entry) → FitsEntry arity x → Eight x
eight_of x p = record { few = p.key.few; bytes = record { kind = p.key.kind; symbol = p.key.symbol; args = p.key.args; value = p.value } }

pub pack_eight : (x : Entry)
    → pack_entry x ≡ eight x.0.kind x.0.symbol (length x.0.args) (get_or x.0.args 0 0) (get_or x.0.args 1 0) (get_or x.0.args 2 0) (get_or x.0.args 3 0) x.1
unfolding pack_entry pack_key number_from
pack_eight x = omega arith

pub key_of_lem : (x : Entry) → x.1 < 256 → key_of (pack_entry x) ≡ pack_key x.0
unfolding pack_entry
key_of_lem x h = omega arith

pub value_of_lem : (x : Entry) → x.1 < 256 → value_of (pack_entry x) ≡ x.1
unfolding pack_entry
value_of_lem x h = omega arith

module _ (x : Entry) (p : Eight x) where
  octet_at : (i : ℕ) → get_or x.0.args i 0 < 256
  octet_at i = all_get_d_or Octet x.0.args i 0 p.bytes.args (omega arith)

  few_octet : length x.0.args < 256
  few_octet = omega (arith, p.few)

  pub count_of_lem : count_of (pack_entry x) ≡ length x.0.args
  count_of_lem = ap count_of (pack_eight x) ∙ digit_count x.0.kind _ _ _ _ _ _ _ p.bytes.symbol few_octet (octet_at 0) (octet_at 1) (octet_at 2) (octet_at 3) p.bytes.value

  top_of : pack_entry x / 256 ^ 5 ≡ (x.0.kind * 256 + x.0.symbol) * 256 + length x.0.args
  top_of = ap (λ n. n / 256 ^ 5) (pack_eight x) ∙ digit_top x.0.kind _ _ _ _ _ _ _ p.bytes.symbol few_octet (octet_at 0) (octet_at 1) (octet_at 2) (octet_at 3) p.bytes.value

  args_of : (arg_of (pack_entry x) 0 ≡ get_or x.0.args 0 0) × (arg_of (pack_entry x) 1 ≡ get_or x.0.args 1 0)
      × (arg_of (pack_entry x) 2 ≡ get_or x.0.args 2 0) × (arg_of (pack_entry x) 3 ≡ get_or x.0.args 3 0)
  args_of =
      rw (pack_eight x)
      (digit_args x.0.kind _ _ _ _ _ _ _ p.bytes.symbol few_octet (octet_at 0) (octet_at 1) (octet_at 2) (octet_at 3) p.bytes.value)

  pub arg_of_lem : (i : ℕ) → i < 4 → arg_of (pack_entry x) i ≡ get_or x.0.args i 0
  arg_of_lem zero h = args_of.0
  arg_of_lem (suc zero) h = args_of.1
  arg_of_lem (suc (suc zero)) h = args_of.2
  arg_of_lem (suc (suc (suc zero))) h = args_of.3
  arg_of_lem (suc (suc (suc (suc i)))) h = absurd (omega arith)

-- ---- renaming: an unused digit is 0 and no element that goes is 0

unfoldable pub replaced : ℕ → ℕ → ℕ → ℕ
replaced s l x =
    x / 256 ^ 5 * 256 ^ 5 + rename s l (arg_of x 0) * 256 ^ 4 + rename s l (arg_of x 1) * 256 ^ 3 + rename s l (arg_of x 2) * 256 ^ 2
    + rename s l (arg_of x 3) * 256 + rename s l (value_of x)

pub rename_zero : (s l : ℕ) → s < l → rename s l 0 ≡ 0
unfolding rename
rename_zero s l h = if_elim (λ r. r ≡ 0) (eqb 0 l) _ _ (λ t. let e = eqb→eq 0 l t in absurd (omega arith)) (λ _. refl)

pub rename_octet : (s l e : ℕ) → s < 256 → e < 256 → rename s l e < 256
unfolding rename
rename_octet s l e p q = if_elim (λ r. r < 256) (eqb e l) _ _ (λ _. p) (λ _. q)

pub pack_rename : (s l : ℕ) (x : Entry) → s < l → Eight x → pack_entry (rename_entry s l x) ≡ replaced s l (pack_entry x)
unfolding replaced rename_entry
pack_rename s l x h p =
    let arg : (i : ℕ) → i < 4 → rename s l (arg_of (pack_entry x) i) ≡ get_or (map (rename s l) x.0.args) i 0 = λ i j.
    ap (rename s l) (arg_of_lem x p i j) ∙ sym (get_or-map (rename s l) x.0.args i 0) ∙ ap (λ d. get_or (map (rename s l) x.0.args) i d) (rename_zero s l h) in
    let a0 = arg 0 (omega arith) in
    let a1 = arg 1 (omega arith) in
    let a2 = arg 2 (omega arith) in
    let a3 = arg 3 (omega arith) in
    let v = ap (rename s l) (value_of_lem x p.bytes.value) in
    let t = top_of x p in
    let n = length-map x.0.args (rename s l) in
    let w = pack_eight (rename_entry s l x) in
    omega arith

pub fact_rename : (s l : ℕ) (f : Fact) → s < l → Eight (fact_entry f) → pack_fact (rename_fact s l f) ≡ replaced s l (pack_fact f)
unfolding rename_fact rename_entry
fact_rename s l f h p = ap (λ v. pack_entry (key 0 f.relation (map (rename s l) f.args), v)) (sym (rename_zero s l h)) ∙ pack_rename s l (fact_entry f) h p

pub rename_fits : {arity : ℕ → ℕ → ℕ} (s l : ℕ) (x : Entry) → s < 256 → FitsEntry arity x → FitsEntry arity (rename_entry s l x)
unfolding rename_entry
rename_fits s l x h p = record {
  key = record {
    kind = p.key.kind;
    symbol = p.key.symbol;
    args = all_map Octet Octet (rename s l) (λ e q. rename_octet s l e h q) x.0.args p.key.args;
    few = omega (arith, length-map x.0.args (rename s l), p.key.few);
    count = length-map x.0.args (rename s l) ∙ p.key.count;
  };
  value = rename_octet s l x.1 h p.value;
}
