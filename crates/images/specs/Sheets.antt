-- The image of a sheet has the sheet's size and is read back, whatever comes behind; the blank sheet's image is all zero.
-- The head computes byte by byte; behind it each region is cut off in turn, by the laws of Regions.
use Rattle.std.specs.Prelude.{◌≡◌, ℕ, ◌+◌, ◌*◌, ◌≤◌, min, length, get_or, drop, replicate}
use Rattle.std.proofs.Common.{ap, ◌∙◌}
use Rattle.std.proofs.Math.Path.{ap₂}
use Rattle.std.proofs.Math.Nat.{sub-zero}
use native.Mathlib.Omega.{arith}
use mathlib.Core.List.{List, [], ◌∷◌, ◌++◌, map, append_assoc}
use Rattle.std.proofs.Math.ListN.{take, length-append}
use Rattle.std.proofs.lemmas.List.{replicate-append-replicate}
use Rattle.std.proofs.Math.Seq.{get_or_at}
use Rattle.base.specs.Lists.{flat}
use Rattle.rules.specs.Reading.{Bytes, num}
use Rattle.rules.specs.Sheet.{Fact, Entry, Model, Sheet, empty, blank, Limits}
use Rattle.rules.specs.Image.{word, padded, entry_bytes, key_bytes, fact_bytes, sheet_head, sheet_bytes, sheet_size, part, args_in, key_in, fact_in, sheet_in}
use Rattle.images.specs.Regions.{padded_length, padded_take, padded_back, padded_next, table_length, padded_table}
use Rattle.images.specs.Storable.{SmallLimits, FewKey, FewFact, StorableModel, StorableSheet}

-- ---- entries

module _ (kind symbol : ℕ) (args : List ℕ) (value : ℕ) (few : length args ≤ 4) where
  entry_length : length (entry_bytes kind symbol args value) ≡ 8
  unfolding entry_bytes
  entry_length = simp length-append (omega (arith, padded_length 4 args few))

  entry_args : args_in (entry_bytes kind symbol args value) ≡ args
  unfolding entry_bytes args_in part
  entry_args = padded_back 4 args (value ∷ []) few

  entry_value : get_or (entry_bytes kind symbol args value) 7 0 ≡ value
  unfolding entry_bytes
  entry_value = get_or_at (padded 4 args) value [] 0 4 (padded_length 4 args few)

key_length : (x : Entry) → FewKey x → length (key_bytes x) ≡ 8
unfolding key_bytes
key_length x few = entry_length x.0.kind x.0.symbol x.0.args x.1 few

fact_length : (f : Fact) → FewFact f → length (fact_bytes f) ≡ 8
unfolding fact_bytes
fact_length f few = entry_length 0 f.relation f.args 0 few

key_back : (x : Entry) → FewKey x → key_in (key_bytes x) ≡ x
unfolding key_bytes key_in entry_bytes
key_back x few = λ i. (
  record { kind = x.0.kind; symbol = x.0.symbol; args = entry_args x.0.kind x.0.symbol x.0.args x.1 few i },
  entry_value x.0.kind x.0.symbol x.0.args x.1 few i,
)

fact_back : (f : Fact) → FewFact f → fact_in (fact_bytes f) ≡ f
unfolding fact_bytes fact_in entry_bytes
fact_back f few = λ i. record { relation = f.relation; args = entry_args 0 f.relation f.args 0 few i }

-- ---- the regions

abbrev key_table : Model → Bytes
key_table m = flat (map key_bytes m.keys)

abbrev fact_table : Model → Bytes
fact_table m = flat (map fact_bytes m.facts)

keys_fit_lem : (lim : Limits) (m : Model) → StorableModel lim m → length (key_table m) ≤ 8 * lim.keys
keys_fit_lem lim m st = omega (arith, table_length 8 FewKey key_bytes key_length m.keys st.key_args)

facts_fit_lem : (lim : Limits) (m : Model) → StorableModel lim m → length (fact_table m) ≤ 8 * lim.facts
facts_fit_lem lim m st = omega (arith, table_length 8 FewFact fact_bytes fact_length m.facts st.fact_args)

pub sheet_length : (lim : Limits) (x : Sheet) → StorableSheet lim x → length (sheet_bytes lim x) ≡ sheet_size lim
unfolding sheet_bytes sheet_size sheet_head word
sheet_length lim x st =
    let k = padded_length (8 * lim.keys) (key_table x.model) (keys_fit_lem lim x.model st.model) in
    let f = padded_length (8 * lim.facts) (fact_table x.model) (facts_fit_lem lim x.model st.model) in
    let d = padded_length lim.elements x.model.depths (omega arith) in
    simp length-append (omega arith)

-- ---- reading back

module _ (lim : Limits) (small : SmallLimits lim) (x : Sheet) (st : StorableSheet lim x) (rest : Bytes) where
  abbrev image : Bytes
  image = sheet_bytes lim x ++ rest

  abbrev from_depths : Bytes
  from_depths = padded lim.elements x.model.depths ++ rest

  abbrev from_facts : Bytes
  from_facts = padded (8 * lim.facts) (fact_table x.model) ++ from_depths

  at_keys : drop 16 image ≡ padded (8 * lim.keys) (key_table x.model) ++ from_facts
  unfolding sheet_bytes sheet_head word
  at_keys = simp append_assoc

  at_facts : drop (16 + 8 * lim.keys) image ≡ from_facts
  at_facts = padded_next 16 (8 * lim.keys) image (key_table x.model) from_facts (keys_fit_lem lim x.model st.model) at_keys

  at_depths : drop (16 + 8 * lim.keys + 8 * lim.facts) image ≡ from_depths
  at_depths = padded_next (16 + 8 * lim.keys) (8 * lim.facts) image (fact_table x.model) from_depths (facts_fit_lem lim x.model st.model) at_facts

  numbers_back : (num image 0 ≡ x.number) × (num image 2 ≡ x.place) × (num image 4 ≡ x.model.created)
  unfolding num sheet_bytes sheet_head word
  numbers_back = omega arith

  counts_back : (min (num image 4) lim.elements ≡ x.model.created) × (min (num image 6) lim.keys ≡ length x.model.keys)
      × (min (num image 8) lim.facts ≡ length x.model.facts)
  unfolding num sheet_bytes sheet_head word
  counts_back = omega arith

  pub sheet_back : sheet_in lim (sheet_bytes lim x ++ rest) ≡ x
  unfolding sheet_in
  sheet_back =
      let m = x.model in
      let ks = padded_table 8 FewKey key_bytes key_length key_in key_back m.keys st.model.key_args (8 * lim.keys) _ _ _ counts_back.1 at_keys in
      let fs = padded_table 8 FewFact fact_bytes fact_length fact_in fact_back m.facts st.model.fact_args (8 * lim.facts) _ _ _ counts_back.2 at_facts in
      let ds = ap₂ (λ (n : ℕ) (l : Bytes). take n l) counts_back.0 at_depths ∙ padded_take lim.elements m.created m.depths rest st.model.depths in
      λ i. record {
        number = numbers_back.0 i;
        place = numbers_back.1 i;
        model = record { created = numbers_back.2 i; keys = ks i; facts = fs i; depths = ds i };
      }

-- ---- the blank sheet

pub blank_zero : (lim : Limits) → sheet_bytes lim blank ≡ replicate (sheet_size lim) 0
unfolding sheet_bytes sheet_size sheet_head word padded blank empty flat
blank_zero lim =
    let n = 8 * lim.keys + (8 * lim.facts + lim.elements) in
    let e : 16 + n ≡ sheet_size lim = omega arith in
    simp (sub-zero, replicate-append-replicate) (replicate-append-replicate {A = ℕ} 16 n 0 ∙ ap (λ k. replicate {A = ℕ} k 0) e)
