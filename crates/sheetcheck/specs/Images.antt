-- A sheet's bytes are the image of what they say exactly if the head's unused bytes are zero, keys and facts are within their limits,
-- each entry is in shape, and the room behind them is zero.
use Rattle.std.specs.Prelude.{◌≡◌, ℕ, zero, suc, ◌+◌, ◌-◌, ◌*◌, ◌/◌, ◌%◌, ◌≤◌, ◌<◌, min, get_or, drop, replicate, T}
use Rattle.std.proofs.Math.Path.{refl, sym, ap, subst}
use Rattle.std.proofs.Common.{ap₂, ◌∙◌, length-take, take-append-drop, take_all}
use native.Mathlib.Omega.{arith}
use mathlib.Core.List.{List, [], ◌∷◌, ◌++◌, map}
use Rattle.std.proofs.Math.ListN.{length, take, length-append, length-drop}
use Rattle.std.proofs.lemmas.List.{length-map}
use Rattle.base.specs.Lists.{All, flat, from}
use Rattle.base.specs.ListLaws.{map_map, all_map, all_unmap}
use Rattle.pools.specs.Count.{from_all, all_from}
use Rattle.rules.specs.Reading.{Bytes, num}
use Rattle.rules.specs.Sheet.{Limits}
use Rattle.rules.specs.Image.{word, padded, entry_bytes, key_bytes, fact_bytes, sheet_head, sheet_bytes, sheet_size, part, parts, args_in, key_in, fact_in, sheet_in}
use Rattle.images.specs.Regions.{padded_length}
use Rattle.sheetparts.specs.Loops.{up_to}
use Rattle.sheetparts.specs.Tests.{byte_at, zeros, spare, facts_from, depths_from, Fair}
use Rattle.sheetcheck.specs.Regions.{join_split, part_length, part_at, part_join, part_row, region_front, front_region, parts_row, table_parts, parts_table}
use Rattle.sheetcheck.specs.Entries.{args_at, args_here, image_length, image_entry, entry_image_lem}

four_long : (a b c d : Bytes) (k f e : ℕ) → length a ≡ 16 → length b ≡ k → length c ≡ f → length d ≡ e → length (a ++ (b ++ (c ++ d))) ≡ 16 + k + f + e
four_long a b c d k f e p q r t = simp length-append (omega arith)

-- ---- a table of entries

parts_length : (size k : ℕ) (s : Bytes) → length (parts size k s) ≡ k
unfolding parts
parts_length size zero s = refl
parts_length size (suc k) s = ap suc (parts_length size k (drop size s))

module _ (kind value : Bytes → ℕ) where
  -- What is written of what is read.
  abbrev pub again : Bytes → Bytes
  again p = entry_bytes (kind p) (get_or p 1 0) (args_in p) (value p)

  again_length : (ps : List Bytes) → length (flat (map again ps)) ≡ 8 * length ps
  unfolding flat
  again_length [] = refl
  again_length (p ∷ ps) = omega (arith, length-append (again p) (flat (map again ps)), image_length (kind p) (get_or p 1 0) (value p) p, again_length ps)

  module _ (s : Bytes) (at room n : ℕ) (fits : at + 8 * room ≤ length s) (h : n ≤ room) where
    abbrev Same : ℕ → Type 0
    Same i = again (part (at + 8 * i) 8 s) ≡ part (at + 8 * i) 8 s

    sized : length (flat (map again (parts 8 n (drop at s)))) ≡ 8 * n
    sized = again_length (parts 8 n (drop at s)) ∙ ap (λ k. 8 * k) (parts_length 8 n (drop at s))

    pub image_table : padded (8 * room) (flat (map again (parts 8 n (drop at s)))) ≡ part at (8 * room) s → ((i : ℕ) → i < n → Same i) × T (zeros s (at + 8 * n) (8 * room - 8 * n))
    unfolding part up_to
    image_table e =
        let r = region_front s at (8 * room) (8 * n) _ fits (omega arith) sized e in
        let a = table_parts 8 again (λ p _. image_length (kind p) (get_or p 1 0) (value p) p) n (drop at s) (simp length-drop (omega arith)) r.0 in
        let b = all_unmap (λ p. again p ≡ p) (λ j. part (at + 8 * j) 8 s) (up_to 0 n) (subst (All (λ p. again p ≡ p)) (parts_row 8 n s at) a) in
        (λ i l. all_from Same 0 (n - 0) b i (omega arith) (omega arith), r.1)

    pub table_image : ((i : ℕ) → i < n → Same i) → T (zeros s (at + 8 * n) (8 * room - 8 * n)) → padded (8 * room) (flat (map again (parts 8 n (drop at s)))) ≡ part at (8 * room) s
    unfolding part up_to
    table_image g t =
        let b = from_all Same 0 (n - 0) (λ j _ l. g j (omega arith)) in
        let a = subst (All (λ p. again p ≡ p)) (sym (parts_row 8 n s at)) (all_map Same (λ p. again p ≡ p) (λ j. part (at + 8 * j) 8 s) (λ j q. q) (up_to 0 n) b) in
        front_region s at (8 * room) (8 * n) _ fits (omega arith) sized (parts_table 8 again (λ p _. image_length (kind p) (get_or p 1 0) (value p) p) n (drop at s) a) t

-- ---- the head

word_back : (x y : ℕ) → x < 256 → y < 256 → word (x + 256 * y) ≡ x ∷ y ∷ []
unfolding word
word_back x y p q =
    let a : (x + 256 * y) % 256 ≡ x = omega arith in
    let d : (x + 256 * y) / 256 ≡ y = omega arith in
    let m : y % 256 ≡ y = omega arith in
    rw (a, d, m)

two_words : (a b x y u v : ℕ) → a < 65536 → b < 65536 → x < 256 → y < 256 → u < 256 → v < 256
    → (a % 256 ≡ x) × ((a / 256 % 256 ≡ y) × ((b % 256 ≡ u) × (b / 256 % 256 ≡ v))) → (a ≡ x + 256 * y) × (b ≡ u + 256 * v)
two_words a b x y u v p q r t w z e = (omega arith, omega arith)

-- Ten bytes and six.
tail_ten : (a b c d e f g h i j a' b' c' d' e' f' g' h' i' j' : ℕ) (xs ys : Bytes)
    → a ∷ b ∷ c ∷ d ∷ e ∷ f ∷ g ∷ h ∷ i ∷ j ∷ xs ≡ a' ∷ b' ∷ c' ∷ d' ∷ e' ∷ f' ∷ g' ∷ h' ∷ i' ∷ j' ∷ ys
    → ((g ≡ g') × ((h ≡ h') × ((i ≡ i') × (j ≡ j')))) × (xs ≡ ys)
tail_ten a b c d e f g h i j a' b' c' d' e' f' g' h' i' j' xs ys q = ((cc, (cc, (cc, cc))), cc)

-- The head that is written of what is read, with so many keys and facts.
abbrev head_of : Bytes → ℕ → ℕ → Bytes
head_of s a b = word (num s 0) ++ (word (num s 2) ++ (word (num s 4) ++ (word a ++ (word b ++ replicate 6 0))))

module _ (s : Bytes) (bytes : (i : ℕ) → byte_at s i < 256) (long : 16 ≤ length s) where
  ten_row : part 0 16 s ≡ byte_at s 0 ∷ byte_at s 1 ∷ byte_at s 2 ∷ byte_at s 3 ∷ byte_at s 4 ∷ byte_at s 5 ∷ byte_at s 6 ∷ byte_at s 7 ∷ byte_at s 8 ∷ byte_at s 9 ∷ part 10 6 s
  unfolding up_to from
  ten_row = part_join 0 16 10 s (omega arith) ∙ ap (λ (l : Bytes). l ++ part 10 6 s) (part_row s 0 10 (omega arith))

  pub head_image : T (zeros s 10 6) → head_of s (num s 6) (num s 8) ≡ part 0 16 s
  unfolding num
  head_image t =
      let w : (i : ℕ) → word (byte_at s i + 256 * byte_at s (suc i)) ≡ byte_at s i ∷ byte_at s (suc i) ∷ [] = λ i. word_back (byte_at s i) (byte_at s (suc i)) (bytes i) (bytes (suc i)) in
      let z = Rattle.sheetcheck.specs.Regions.zeros_part s 10 6 (omega arith) t in
      rw (w 0, w 2, w 4, w 6, w 8, z) (sym ten_row)

  pub image_head : (a b : ℕ) → a < 65536 → b < 65536 → head_of s a b ≡ part 0 16 s → ((a ≡ num s 6) × (b ≡ num s 8)) × T (zeros s 10 6)
  unfolding num word
  image_head a b p q e =
      let r = tail_ten _ _ _ _ _ _ _ _ _ _ _ _ _ _ _ _ _ _ _ _ _ _ (e ∙ ten_row) in
      (two_words a b _ _ _ _ p q (bytes 6) (bytes 7) (bytes 8) (bytes 9) r.0, Rattle.sheetcheck.specs.Regions.part_zeros s 10 6 r.1)

-- ---- the sheet

-- The image rule, test by test; created elements within their limit is a rule of its own.
pub record Shape (lim : Limits) (s : Bytes) : Type 0 where
  pub created : num s 4 ≤ lim.elements
  pub keys : num s 6 ≤ lim.keys
  pub facts : num s 8 ≤ lim.facts
  pub head : T (zeros s 10 6)
  pub key_room : T (zeros s (16 + 8 * num s 6) (8 * lim.keys - 8 * num s 6))
  pub fact_room : T (zeros s (facts_from lim + 8 * num s 8) (8 * lim.facts - 8 * num s 8))
  pub depth_room : T (zeros s (depths_from lim + num s 4) (lim.elements - num s 4))
  pub key_spares : (i : ℕ) → i < num s 6 → T (spare s (16 + 8 * i))
  pub fact_spares : (i : ℕ) → i < num s 8 → T (spare s (facts_from lim + 8 * i))
  pub fact_kinds : (i : ℕ) → i < num s 8 → byte_at s (facts_from lim + 8 * i) ≡ 0
  pub fact_values : (i : ℕ) → i < num s 8 → byte_at s (facts_from lim + 8 * i + 7) ≡ 0

module _ (lim : Limits) (fair : Fair lim) (s : Bytes) (len : length s ≡ sheet_size lim) where
  abbrev key_parts : List Bytes
  key_parts = parts 8 (min (num s 6) lim.keys) (drop 16 s)

  abbrev fact_parts : List Bytes
  fact_parts = parts 8 (min (num s 8) lim.facts) (drop (facts_from lim) s)

  abbrev key_kind : Bytes → ℕ
  key_kind p = get_or p 0 0

  abbrev key_end : Bytes → ℕ
  key_end p = get_or p 7 0

  abbrev none : Bytes → ℕ
  none p = 0

  abbrev depth_list : List ℕ
  depth_list = take (min (num s 4) lim.elements) (drop (depths_from lim) s)

  -- The image in its four regions.
  image_is : sheet_bytes lim (sheet_in lim s) ≡ head_of s (length key_parts) (length fact_parts)
      ++ (padded (8 * lim.keys) (flat (map (again key_kind key_end) key_parts)) ++ (padded (8 * lim.facts) (flat (map (again none none) fact_parts)) ++ padded lim.elements depth_list))
  unfolding sheet_bytes sheet_head sheet_in key_bytes key_in fact_bytes fact_in facts_from depths_from
  image_is = simp (map_map, length-map)

  -- The bytes in the same regions.
  abbrev behind_keys : Bytes
  behind_keys = part (facts_from lim) (8 * lim.facts) s ++ part (depths_from lim) lim.elements s

  whole_is : s ≡ part 0 16 s ++ (part 16 (8 * lim.keys) s ++ behind_keys)
  unfolding sheet_size facts_from depths_from part
  whole_is =
      let n = 8 * lim.keys + (8 * lim.facts + lim.elements) in
      let a : n - 8 * lim.keys ≡ 8 * lim.facts + lim.elements = omega arith in
      let b : 8 * lim.facts + lim.elements - 8 * lim.facts ≡ lim.elements = omega arith in
      sym (take-append-drop 16 s)
      ∙ ap (λ (l : Bytes). take 16 s ++ l) (sym (take_all n (drop 16 s) (simp length-drop (omega arith))) ∙ part_join 16 n (8 * lim.keys) s (omega arith))
      ∙ ap (λ k. take 16 s ++ (part 16 (8 * lim.keys) s ++ part (16 + 8 * lim.keys) k s)) a
      ∙ ap (λ (l : Bytes). take 16 s ++ (part 16 (8 * lim.keys) s ++ l)) (part_join (16 + 8 * lim.keys) (8 * lim.facts + lim.elements) (8 * lim.facts) s (omega arith)
      ∙ ap (λ k. part (16 + 8 * lim.keys) (8 * lim.facts) s ++ part (16 + 8 * lim.keys + 8 * lim.facts) k s) b)

  -- ---- how long the regions are

  pub size_is : (16 + 8 * lim.keys ≡ facts_from lim) × ((facts_from lim + 8 * lim.facts ≡ depths_from lim) × (depths_from lim + lim.elements ≡ length s))
  unfolding facts_from depths_from sheet_size
  size_is = (omega arith, (omega arith, omega arith))

  depth_length : length depth_list ≡ min (num s 4) lim.elements
  depth_length = length-take (min (num s 4) lim.elements) (drop (depths_from lim) s) ∙ omega (arith, length-drop (depths_from lim) s, size_is)

  table_fits : (kind value : Bytes → ℕ) (at room n : ℕ) → n ≤ room → length (padded (8 * room) (flat (map (again kind value) (parts 8 n (drop at s))))) ≡ 8 * room
  table_fits kind value at room n h =
      padded_length (8 * room) _ (omega (arith, again_length kind value (parts 8 n (drop at s)), parts_length 8 n (drop at s)))

  -- ---- a canonical entry

  module _ (p : ℕ) (h : p + 8 ≤ length s) where
    key_again : again key_kind key_end (part p 8 s) ≡ entry_bytes (byte_at s p) (byte_at s (p + 1)) (args_at s p) (byte_at s (p + 7))
    key_again =
        let z : p + 0 ≡ p = omega arith in
        ap₂ (λ (a : ℕ) (b : ℕ). entry_bytes a b (args_in (part p 8 s)) (get_or (part p 8 s) 7 0)) (part_at p 8 s 0 (omega arith) ∙ ap (byte_at s) z) (part_at p 8 s 1 (omega arith))
        ∙ ap₂ (λ (xs : List ℕ) (v : ℕ). entry_bytes (byte_at s p) (byte_at s (p + 1)) xs v) (args_here s p h) (part_at p 8 s 7 (omega arith))

    fact_again : again none none (part p 8 s) ≡ entry_bytes 0 (byte_at s (p + 1)) (args_at s p) 0
    fact_again = ap₂ (λ (b : ℕ) (xs : List ℕ). entry_bytes 0 b xs 0) (part_at p 8 s 1 (omega arith)) (args_here s p h)

    fact_image_lem : T (spare s p) → byte_at s p ≡ 0 → byte_at s (p + 7) ≡ 0 → entry_bytes 0 (byte_at s (p + 1)) (args_at s p) 0 ≡ part p 8 s
    fact_image_lem t a b = ap₂ (λ (x y : ℕ). entry_bytes x (byte_at s (p + 1)) (args_at s p) y) (sym a) (sym b) ∙ entry_image_lem s p h t

  depths_part : min (num s 4) lim.elements ≡ num s 4 → depth_list ≡ part (depths_from lim) (num s 4) s
  unfolding part
  depths_part c = ap (λ n. take n (drop (depths_from lim) s)) c

  head_long : (a b : ℕ) → length (head_of s a b) ≡ 16
  unfolding word
  head_long a b = refl

  -- Whatever bytes are read, the image has the sheet's size.
  pub image_size : length (sheet_bytes lim (sheet_in lim s)) ≡ sheet_size lim
  unfolding sheet_size
  image_size =
      let k = table_fits key_kind key_end 16 lim.keys (min (num s 6) lim.keys) (omega arith) in
      let f = table_fits none none (facts_from lim) lim.facts (min (num s 8) lim.facts) (omega arith) in
      let e = padded_length lim.elements depth_list (omega (arith, depth_length)) in
      ap length image_is ∙ four_long (head_of s (length key_parts) (length fact_parts)) (padded (8 * lim.keys) (flat (map (again key_kind key_end) key_parts))) (padded (8 * lim.facts) (flat (map (again none none) fact_parts)))
      (padded lim.elements depth_list) (8 * lim.keys) (8 * lim.facts) lim.elements (head_long (length key_parts) (length fact_parts)) k f e

  module _ (bytes : (i : ℕ) → byte_at s i < 256) where
    -- ---- both ways

    pub shape_image : Shape lim s → sheet_bytes lim (sheet_in lim s) ≡ s
    shape_image g =
        let k : min (num s 6) lim.keys ≡ num s 6 = omega (arith, g.keys) in
        let f : min (num s 8) lim.facts ≡ num s 8 = omega (arith, g.facts) in
        let c : min (num s 4) lim.elements ≡ num s 4 = omega (arith, g.created) in
        let hd = ap₂ (λ (a b : ℕ). head_of s a b) (parts_length 8 _ (drop 16 s) ∙ k) (parts_length 8 _ (drop (facts_from lim) s) ∙ f) ∙ head_image s bytes (omega (arith, size_is)) g.head in
        let ks = ap (λ n. padded (8 * lim.keys) (flat (map (again key_kind key_end) (parts 8 n (drop 16 s))))) k
        ∙ table_image key_kind key_end s 16 lim.keys (num s 6) (omega (arith, size_is)) g.keys
        (λ i l. key_again (16 + 8 * i) (omega (arith, size_is, g.keys)) ∙ entry_image_lem s (16 + 8 * i) (omega (arith, size_is, g.keys)) (g.key_spares i l)) g.key_room in
        let fs = ap (λ n. padded (8 * lim.facts) (flat (map (again none none) (parts 8 n (drop (facts_from lim) s))))) f
        ∙ table_image none none s (facts_from lim) lim.facts (num s 8) (omega (arith, size_is)) g.facts
        (λ i l. fact_again (facts_from lim + 8 * i) (omega (arith, size_is, g.facts)) ∙ fact_image_lem (facts_from lim + 8 * i) (omega (arith, size_is, g.facts)) (g.fact_spares i l) (g.fact_kinds i l) (g.fact_values i l)) g.fact_room in
        let ds = front_region s (depths_from lim) lim.elements (num s 4) depth_list (omega (arith, size_is)) g.created (depth_length ∙ c) (depths_part c) g.depth_room in
        image_is ∙ ap₂ (λ (a b : Bytes). a ++ b) hd (ap₂ (λ (a b : Bytes). a ++ b) ks (ap₂ (λ (a b : Bytes). a ++ b) fs ds)) ∙ sym whole_is

    pub image_shape : num s 4 ≤ lim.elements → sheet_bytes lim (sheet_in lim s) ≡ s → Shape lim s
    image_shape created e =
        let lk = parts_length 8 (min (num s 6) lim.keys) (drop 16 s) in
        let lf = parts_length 8 (min (num s 8) lim.facts) (drop (facts_from lim) s) in
        let q = sym image_is ∙ e ∙ whole_is in
        let a = join_split _ _ _ _ (head_long (length key_parts) (length fact_parts) ∙ sym (part_length 0 16 s (omega (arith, size_is)))) q in
        let b = join_split _ _ _ _ (table_fits key_kind key_end 16 lim.keys (min (num s 6) lim.keys) (omega arith) ∙ sym (part_length 16 (8 * lim.keys) s (omega (arith, size_is)))) a.1 in
        let d = join_split _ _ _ _ (table_fits none none (facts_from lim) lim.facts (min (num s 8) lim.facts) (omega arith) ∙ sym (part_length (facts_from lim) (8 * lim.facts) s (omega (arith, size_is)))) b.1 in
        let hd = image_head s bytes (omega (arith, size_is)) (length key_parts) (length fact_parts) (omega (arith, fair.keys)) (omega (arith, fair.facts)) a.0 in
        let k : min (num s 6) lim.keys ≡ num s 6 = sym lk ∙ hd.0.0 in
        let f : min (num s 8) lim.facts ≡ num s 8 = sym lf ∙ hd.0.1 in
        let c : min (num s 4) lim.elements ≡ num s 4 = omega arith in
        let nk : num s 6 ≤ lim.keys = omega arith in
        let nf : num s 8 ≤ lim.facts = omega arith in
        let ks = image_table key_kind key_end s 16 lim.keys (num s 6) (omega (arith, size_is)) nk
        (ap (λ n. padded (8 * lim.keys) (flat (map (again key_kind key_end) (parts 8 n (drop 16 s))))) (sym k) ∙ b.0) in
        let fs = image_table none none s (facts_from lim) lim.facts (num s 8) (omega (arith, size_is)) nf
        (ap (λ n. padded (8 * lim.facts) (flat (map (again none none) (parts 8 n (drop (facts_from lim) s))))) (sym f) ∙ d.0) in
        let ds = region_front s (depths_from lim) lim.elements (num s 4) depth_list (omega (arith, size_is)) created (depth_length ∙ c) d.1 in
        let key : (i : ℕ) → i < num s 6 → 16 + 8 * i + 8 ≤ length s = λ i l. omega (arith, size_is) in
        let fact : (i : ℕ) → i < num s 8 → facts_from lim + 8 * i + 8 ≤ length s = λ i l. omega (arith, size_is) in
        let fe : (i : ℕ) (l : i < num s 8) → _ = λ i l. image_entry s (facts_from lim + 8 * i) (fact i l) 0 0 (sym (fact_again (facts_from lim + 8 * i) (fact i l)) ∙ fs.0 i l) in
        record {
          created = created;
          keys = nk;
          facts = nf;
          head = hd.1;
          key_room = ks.1;
          fact_room = fs.1;
          depth_room = ds.1;
          key_spares = λ i l. (image_entry s (16 + 8 * i) (key i l) _ _ (sym (key_again (16 + 8 * i) (key i l)) ∙ ks.0 i l)).1.0;
          fact_spares = λ i l. (fe i l).1.0;
          fact_kinds = λ i l. sym (fe i l).0;
          fact_values = λ i l. sym (fe i l).1.1;
        }
