-- The image of a sheet, loaded, is a working form that holds the sheet; and a working form that holds a sheet is stored as the
-- sheet's image.
use Rattle.std.specs.Prelude.{◌≡◌, refl, get_or}
use Rattle.std.proofs.Math.Path.{sym, ap}
use Rattle.std.proofs.Common.{◌∙◌, subst, arith}
use Prim.Native.Nat.{ℕ, zero, suc, ◌+◌, ◌-◌, ◌*◌, ◌/◌, ◌%◌, ◌^◌, ◌<◌, min}
use mathlib.Core.List.{List, [], ◌∷◌, ◌++◌, map, append_assoc}
use Rattle.std.proofs.Math.ListN.{length, drop, replicate, length-map}
use Rattle.base.specs.Lists.{flat}
use Rattle.base.specs.ListLaws.{map_map, map_agree, all_both, all_get_d_or}
use Rattle.rules.specs.Reading.{Bytes, num}
use Rattle.rules.specs.Sheet.{Fact, Entry, Sheet, Limits}
use Rattle.rules.specs.Image.{word, padded, key_bytes, fact_bytes, sheet_head, sheet_bytes, parts, key_in, fact_in, sheet_in}
use Rattle.images.specs.Regions.{padded_next, table_length}
use Rattle.images.specs.Storable.{SmallLimits, FewKey, FewFact, StorableSheet, Octet, ByteKey, ByteFact, ByteSheet}
use Rattle.images.specs.Sheets.{sheet_back}
use Rattle.packing.specs.Pack.{pack_entry, pack_fact, fact_entry, key_digits, fact_digits}
use Rattle.packing.specs.Replace.{eight, Eight, pack_eight}
use Rattle.octets.specs.Words.{number_at, numbers_at, numbers_table, octets, octet, octet_all}
use Rattle.sheets.specs.Form.{view_of, Shows, Holds}
use Rattle.sheets.specs.Load.{view_in, Loaded}
use Rattle.slots.specs.Store.{head_bytes, table_bytes, depth_bytes, view_bytes}

-- ---- entries

key_size : (x : Entry) → FewKey x → length (key_bytes x) ≡ 8
key_size x h = ap length (key_digits x h)

key_read : (x : Entry) → FewKey x → (rest : Bytes) → number_at (key_bytes x ++ rest) 0 ≡ pack_entry x
unfolding number_at
key_read x h rest = ap (λ (l : Bytes). number_at (l ++ rest) 0) (key_digits x h) ∙ sym (pack_eight x)

fact_size : (f : Fact) → FewFact f → length (fact_bytes f) ≡ 8
fact_size f h = ap length (fact_digits f) ∙ key_size (fact_entry f) h

fact_read : (f : Fact) → FewFact f → (rest : Bytes) → number_at (fact_bytes f ++ rest) 0 ≡ pack_fact f
fact_read f h rest = ap (λ (l : Bytes). number_at (l ++ rest) 0) (fact_digits f) ∙ key_read (fact_entry f) h rest

octets_eight : (a b c d e f g h : ℕ) → a < 256 → b < 256 → c < 256 → d < 256 → e < 256 → f < 256 → g < 256 → h < 256
    → octets (eight a b c d e f g h) ≡ a ∷ b ∷ c ∷ d ∷ e ∷ f ∷ g ∷ h ∷ []
unfolding octets
octets_eight a b c d e f g h pa pb pc pd pe pf pg ph =
    let n = eight a b c d e f g h in
    let q₀ : n / 256 ^ 7 % 256 ≡ a = omega arith in
    let q₁ : n / 256 ^ 6 % 256 ≡ b = omega arith in
    let q₂ : n / 256 ^ 5 % 256 ≡ c = omega arith in
    let q₃ : n / 256 ^ 4 % 256 ≡ d = omega arith in
    let q₄ : n / 256 ^ 3 % 256 ≡ e = omega arith in
    let q₅ : n / 256 ^ 2 % 256 ≡ f = omega arith in
    let q₆ : n / 256 % 256 ≡ g = omega arith in
    let q₇ : n % 256 ≡ h = omega arith in
    λ i. q₀ i ∷ q₁ i ∷ q₂ i ∷ q₃ i ∷ q₄ i ∷ q₅ i ∷ q₆ i ∷ q₇ i ∷ []

key_write : (x : Entry) → Eight x → octets (pack_entry x) ≡ key_bytes x
key_write x p =
    let arg : (i : ℕ) → get_or x.0.args i 0 < 256 = λ i. all_get_d_or Octet x.0.args i 0 p.bytes.args (omega arith) in
    ap octets (pack_eight x)
    ∙ octets_eight _ _ _ _ _ _ _ _ p.bytes.kind p.bytes.symbol (omega (arith, p.few)) (arg 0) (arg 1) (arg 2) (arg 3) p.bytes.value
    ∙ sym (key_digits x p.few)

fact_eight : (f : Fact) → FewFact f → ByteFact f → Eight (fact_entry f)
fact_eight f h b = record { few = h; bytes = record { kind = omega arith; symbol = b.relation; args = b.args; value = omega arith } }

fact_write : (f : Fact) → Eight (fact_entry f) → octets (pack_fact f) ≡ fact_bytes f
fact_write f p = key_write (fact_entry f) p ∙ sym (fact_digits f)

-- ---- loading

parts_length : (size n : ℕ) (s : Bytes) → length (parts size n s) ≡ n
unfolding parts
parts_length size zero s = refl
parts_length size (suc n) s = ap suc (parts_length size n (drop size s))

module _ (lim : Limits) (small : SmallLimits lim) (x : Sheet) (st : StorableSheet lim x) (rest : Bytes) where
  abbrev image : Bytes
  image = sheet_bytes lim x ++ rest

  abbrev key_table : Bytes
  key_table = flat (map key_bytes x.model.keys)

  abbrev fact_table : Bytes
  fact_table = flat (map fact_bytes x.model.facts)

  abbrev from_depths : Bytes
  from_depths = padded lim.elements x.model.depths ++ rest

  abbrev from_facts : Bytes
  from_facts = padded (8 * lim.facts) fact_table ++ from_depths

  at_keys : drop 16 image ≡ padded (8 * lim.keys) key_table ++ from_facts
  unfolding sheet_bytes sheet_head word
  at_keys = simp append_assoc

  at_facts : drop (16 + 8 * lim.keys) image ≡ from_facts
  at_facts =
      padded_next 16 (8 * lim.keys) image key_table from_facts
      (omega (arith, table_length 8 FewKey key_bytes key_size x.model.keys st.model.key_args, st.model.keys)) at_keys

  -- What reading the image gives, field by field.
  back : sheet_in lim image ≡ x
  back = sheet_back lim small x st rest

  key_count : min (num image 6) lim.keys ≡ length x.model.keys
  unfolding sheet_in
  key_count =
      let n = min (num image 6) lim.keys in
      sym (length-map (parts 8 n (drop 16 image)) key_in ∙ parts_length 8 n (drop 16 image)) ∙ ap (λ (y : Sheet). length y.model.keys) back

  fact_count : min (num image 8) lim.facts ≡ length x.model.facts
  unfolding sheet_in
  fact_count =
      let n = min (num image 8) lim.facts in
      let s = drop (16 + 8 * lim.keys) image in
      sym (length-map (parts 8 n s) fact_in ∙ parts_length 8 n s) ∙ ap (λ (y : Sheet). length y.model.facts) back

  pub image_shown : Shows (view_in lim (sheet_bytes lim x ++ rest)) x
  unfolding view_in sheet_in padded
  image_shown =
      let m = x.model in
      let e₄ : num image 4 ≡ m.created = ap (λ (y : Sheet). y.model.created) back in
      let padK : Bytes = replicate (8 * lim.keys - length key_table) 0 in
      let padF : Bytes = replicate (8 * lim.facts - length fact_table) 0 in
      record {
        number = ap (λ (y : Sheet). y.number) back;
        place = ap (λ (y : Sheet). y.place) back;
        created = omega (arith, st.model.created);
        keys = ap (numbers_at image 16) key_count
            ∙ numbers_table FewKey key_bytes pack_entry key_size key_read image 16 m.keys (padK ++ from_facts) st.model.key_args (at_keys ∙ append_assoc key_table padK from_facts);
        facts = ap (numbers_at image (16 + 8 * lim.keys)) fact_count
            ∙ numbers_table FewFact fact_bytes pack_fact fact_size fact_read image (16 + 8 * lim.keys) m.facts (padF ++ from_depths) st.model.fact_args (at_facts ∙ append_assoc fact_table padF from_depths);
        depths = ap (λ (y : Sheet). y.model.depths) back;
      }

  -- What was loaded from an image holds its sheet.
  pub loaded_holds : (w : List ℕ) → Loaded lim (sheet_bytes lim x ++ rest) w → Holds lim w x
  loaded_holds w l = record { formed = l.formed; shows = subst (λ v. Shows v x) (sym l.view) image_shown }

-- ---- storing

module _ (lim : Limits) (x : Sheet) (st : StorableSheet lim x) (bs : ByteSheet x) where
  write_keys : map octets (map pack_entry x.model.keys) ≡ map key_bytes x.model.keys
  write_keys =
      map_map octets pack_entry x.model.keys
      ∙ map_agree Eight (λ y. octets (pack_entry y)) key_bytes key_write x.model.keys
      (all_both FewKey ByteKey Eight (λ y f b. record { few = f; bytes = b }) x.model.keys st.model.key_args bs.keys)

  write_facts : map octets (map pack_fact x.model.facts) ≡ map fact_bytes x.model.facts
  write_facts =
      map_map octets pack_fact x.model.facts
      ∙ map_agree (λ f. Eight (fact_entry f)) (λ y. octets (pack_fact y)) fact_bytes fact_write x.model.facts
      (all_both FewFact ByteFact (λ f. Eight (fact_entry f)) fact_eight x.model.facts st.model.fact_args bs.facts)

  pub stored_image : (w : List ℕ) → Holds lim w x → view_bytes lim (view_of lim w) ≡ sheet_bytes lim x
  unfolding view_bytes head_bytes table_bytes depth_bytes sheet_bytes sheet_head
  stored_image w h =
      let v = view_of lim w in
      let s = h.shows in
      let m = x.model in
      let lk : length v.keys ≡ length m.keys = ap length s.keys ∙ length-map m.keys pack_entry in
      let lf : length v.facts ≡ length m.facts = ap length s.facts ∙ length-map m.facts pack_fact in
      let ks : map octets v.keys ≡ map key_bytes m.keys = ap (map octets) s.keys ∙ write_keys in
      let fs : map octets v.facts ≡ map fact_bytes m.facts = ap (map octets) s.facts ∙ write_facts in
      let ds : flat (map octet v.depths) ≡ m.depths = ap (λ (l : List ℕ). flat (map octet l)) s.depths ∙ octet_all m.depths bs.depths in
      λ i. (word (s.number i) ++ (word (s.place i) ++ (word (s.created i) ++ (word (lk i) ++ (word (lf i) ++ replicate 6 0)))))
      ++ (padded (8 * lim.keys) (flat (ks i)) ++ (padded (8 * lim.facts) (flat (fs i)) ++ padded lim.elements (ds i)))
