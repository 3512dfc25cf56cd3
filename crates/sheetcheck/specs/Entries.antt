-- An entry of eight bytes: what is read of it, when it is the image of that, and its key as a number. One law serves keys and facts:
-- a fact is an entry of kind 0 and value 0.
use Rattle.std.specs.Prelude.{◌≡◌, ℕ, ◌+◌, ◌-◌, ◌*◌, ◌≤◌, length, take, drop}
use Rattle.std.proofs.Math.Path.{refl, sym, ap, ap₂}
use Rattle.std.proofs.Common.{◌∙◌, length-append, length-take, take_at, le→leb}
use native.Mathlib.Omega.{arith}
use mathlib.Core.List.{List, [], ◌∷◌, ◌++◌, map}
use Rattle.std.proofs.Math.ListN.{get_or}
use Rattle.std.proofs.Math.Seq.{get_or_at, take-take}
use Rattle.std.proofs.Math.Dec.{T, leb, leb→le}
use Rattle.base.specs.BranchLaws.{and_l, and_r, and_i}
use Rattle.rules.specs.Reading.{Bytes}
use Rattle.rules.specs.Sheet.{key, rel}
use Rattle.rules.specs.Image.{padded, entry_bytes, key_bytes, part, args_in, key_in, fact_in}
use Rattle.images.specs.Regions.{padded_length}
use Rattle.packing.specs.Digits.{number_from, number}
use Rattle.packing.specs.Pack.{pack_key, pack_entry, key_number_lem}
use Rattle.sheetparts.specs.Loops.{up_to}
use Rattle.sheetparts.specs.Tests.{byte_at, zeros, spare, key_number}
use Rattle.sheetcheck.specs.Regions.{join_split, part_length, part_row, region_front, front_region}

-- The arguments that are read of an entry at a place.
abbrev pub args_at : Bytes → ℕ → List ℕ
args_at s at = take (byte_at s (at + 2)) (part (at + 3) 4 s)

same_eight : (a b c d e f g h a' b' c' d' e' f' g' h' : ℕ) → a ≡ a' → b ≡ b' → c ≡ c' → d ≡ d' → e ≡ e' → f ≡ f' → g ≡ g' → h ≡ h'
    → a ∷ b ∷ c ∷ d ∷ e ∷ f ∷ g ∷ h ∷ [] ≡ a' ∷ b' ∷ c' ∷ d' ∷ e' ∷ f' ∷ g' ∷ h' ∷ []
same_eight a b c d e f g h a' b' c' d' e' f' g' h' p q r t u v w x = cc

cons_parts : (a b c d e f : ℕ) (xs ys : Bytes) → a ∷ b ∷ c ∷ xs ≡ d ∷ e ∷ f ∷ ys → (a ≡ d) × ((c ≡ f) × (xs ≡ ys))
cons_parts a b c d e f xs ys h = (cc, (cc, cc))

one_part : (a b : ℕ) → a ∷ [] ≡ b ∷ [] → a ≡ b
one_part a b h = cc

-- At most four arguments, with zeros behind them.
pub spare_few : (s : Bytes) (at : ℕ) → T (spare s at) → (byte_at s (at + 2) ≤ 4) × T (zeros s (at + 3 + byte_at s (at + 2)) (4 - byte_at s (at + 2)))
unfolding spare
spare_few s at t = (leb→le (byte_at s (at + 2)) 4 (and_l (leb (byte_at s (at + 2)) 4) _ t), and_r (leb (byte_at s (at + 2)) 4) _ t)

-- Whatever eight bytes are read, the image has eight.
pub image_length : (kind symbol value : ℕ) (p : Bytes) → length (entry_bytes kind symbol (args_in p) value) ≡ 8
unfolding entry_bytes args_in part
image_length kind symbol value p =
    let few : length (take (get_or p 2 0) (take 4 (drop 3 p))) ≤ 4 = omega (arith, length-take (get_or p 2 0) (take 4 (drop 3 p)), length-take 4 (drop 3 p)) in
    simp length-append (omega (arith, padded_length 4 (take (get_or p 2 0) (take 4 (drop 3 p))) few))

module _ (s : Bytes) (at : ℕ) (fits : at + 8 ≤ length s) where
  eight_row : part at 8 s ≡ byte_at s at ∷ byte_at s (at + 1) ∷ byte_at s (at + 2) ∷ byte_at s (at + 3) ∷ byte_at s (at + 4) ∷ byte_at s (at + 5) ∷ byte_at s (at + 6) ∷ byte_at s (at + 7) ∷ []
  unfolding up_to Rattle.base.specs.Lists.from
  eight_row = let z : at + 0 ≡ at = omega arith in part_row s at 8 fits ∙ same_eight _ _ _ _ _ _ _ _ _ _ _ _ _ _ _ _ (ap (byte_at s) z) refl refl refl refl refl refl refl

  four_row : part (at + 3) 4 s ≡ byte_at s (at + 3) ∷ byte_at s (at + 4) ∷ byte_at s (at + 5) ∷ byte_at s (at + 6) ∷ []
  unfolding up_to Rattle.base.specs.Lists.from
  four_row =
      let a : at + 3 + 0 ≡ at + 3 = omega arith in
      let b : at + 3 + 1 ≡ at + 4 = omega arith in
      let c : at + 3 + 2 ≡ at + 5 = omega arith in
      let d : at + 3 + 3 ≡ at + 6 = omega arith in
      part_row s (at + 3) 4 (omega arith) ∙ rw (a, b, c, d)

  -- The eight bytes as an entry has them.
  eight_part : part at 8 s ≡ byte_at s at ∷ byte_at s (at + 1) ∷ byte_at s (at + 2) ∷ (part (at + 3) 4 s ++ (byte_at s (at + 7) ∷ []))
  eight_part = eight_row ∙ ap (λ (l : Bytes). byte_at s at ∷ byte_at s (at + 1) ∷ byte_at s (at + 2) ∷ (l ++ (byte_at s (at + 7) ∷ []))) (sym four_row)

  four_length : length (part (at + 3) 4 s) ≡ 4
  four_length = part_length (at + 3) 4 s (omega arith)

  -- ---- what is read

  pub args_here : args_in (part at 8 s) ≡ args_at s at
  unfolding args_in part
  args_here = ap args_in eight_part ∙ ap (take (byte_at s (at + 2))) (take_at (part (at + 3) 4 s) (byte_at s (at + 7) ∷ []) 4 four_length)

  pub key_here : key_in (part at 8 s) ≡ (key (byte_at s at) (byte_at s (at + 1)) (args_at s at), byte_at s (at + 7))
  unfolding key_in
  key_here =
      let v : get_or (part at 8 s) 7 0 ≡ byte_at s (at + 7) = ap (λ l. get_or l 7 0) eight_part ∙ get_or_at (part (at + 3) 4 s) (byte_at s (at + 7)) [] 0 4 four_length in
      λ i. (key (ap (λ l. get_or l 0 0) eight_part i) (ap (λ l. get_or l 1 0) eight_part i) (args_here i), v i)

  pub fact_here : fact_in (part at 8 s) ≡ rel (byte_at s (at + 1)) (args_at s at)
  unfolding fact_in
  fact_here = λ i. rel (ap (λ l. get_or l 1 0) eight_part i) (args_here i)

  pub few_args : length (args_at s at) ≤ 4
  few_args = omega (arith, length-take (byte_at s (at + 2)) (part (at + 3) 4 s), four_length)

  pub args_row : byte_at s (at + 2) ≤ 4 → args_at s at ≡ map (λ j. byte_at s (at + 3 + j)) (up_to 0 (byte_at s (at + 2)))
  unfolding part
  args_row h = take-take (byte_at s (at + 2)) 4 (drop (at + 3) s) h ∙ part_row s (at + 3) (byte_at s (at + 2)) (omega arith)

  pub args_length : byte_at s (at + 2) ≤ 4 → length (args_at s at) ≡ byte_at s (at + 2)
  args_length h = length-take (byte_at s (at + 2)) (part (at + 3) 4 s) ∙ omega (arith, four_length)

  -- ---- its image

  pub image_entry : (kind value : ℕ) → entry_bytes kind (byte_at s (at + 1)) (args_at s at) value ≡ part at 8 s → (kind ≡ byte_at s at) × (T (spare s at) × (value ≡ byte_at s (at + 7)))
  unfolding entry_bytes spare
  image_entry kind value e =
      let p = cons_parts _ _ _ _ _ _ _ _ (e ∙ eight_part) in
      let q = join_split (padded 4 (args_at s at)) (value ∷ []) (part (at + 3) 4 s) (byte_at s (at + 7) ∷ []) (padded_length 4 (args_at s at) few_args ∙ sym four_length) p.1.1 in
      let n : byte_at s (at + 2) ≤ 4 = omega (arith, p.1.0, few_args) in
      let r = region_front s (at + 3) 4 (byte_at s (at + 2)) (args_at s at) (omega arith) n p.1.0 q.0 in
      (p.0, (and_i (leb (byte_at s (at + 2)) 4) _ (le→leb (byte_at s (at + 2)) 4 n) r.1, one_part value (byte_at s (at + 7)) q.1))

  pub entry_image_lem : T (spare s at) → entry_bytes (byte_at s at) (byte_at s (at + 1)) (args_at s at) (byte_at s (at + 7)) ≡ part at 8 s
  unfolding entry_bytes part
  entry_image_lem t =
      let f = spare_few s at t in
      let l = args_length f.0 in
      let r = front_region s (at + 3) 4 (byte_at s (at + 2)) (args_at s at) (omega arith) f.0 l (take-take (byte_at s (at + 2)) 4 (drop (at + 3) s) f.0) f.1 in
      ap₂ (λ (n : ℕ) (x : Bytes). byte_at s at ∷ byte_at s (at + 1) ∷ n ∷ (x ++ (byte_at s (at + 7) ∷ []))) l r ∙ sym eight_part

  -- ---- its key as a number

  number_here : number (part at 8 s) ≡ key_number s at * 256 + byte_at s (at + 7)
  unfolding key_number number_from
  number_here = ap number eight_row

  pub packed_here : T (spare s at) → pack_key (key (byte_at s at) (byte_at s (at + 1)) (args_at s at)) ≡ key_number s at
  unfolding pack_entry key_bytes
  packed_here t =
      let e = sym (key_number_lem (key (byte_at s at) (byte_at s (at + 1)) (args_at s at), byte_at s (at + 7)) few_args) ∙ ap number (entry_image_lem t) ∙ number_here in
      omega arith
