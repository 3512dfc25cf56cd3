-- The text off a slot's bytes is the text of the sheet that the bytes say.
use Rattle.std.specs.Prelude.{◌≡◌, refl, ℕ, ◌<◌, min, Bool, true, false, length, drop, T}
use Rattle.std.proofs.Math.Path.{sym, ap, ap₂}
use Rattle.std.proofs.Common.{◌∙◌, arith, get_or-take}
use mathlib.Core.List.{List, [], ◌∷◌, ◌++◌, map, append_assoc}
use Rattle.std.proofs.Math.ListN.{length-drop}
use Rattle.std.proofs.Math.Seq.{get_or-drop, length-take-le}
use Rattle.base.specs.Branch.{if}
use Rattle.base.specs.Lists.{mem, firsts, keep, from, flat}
use Rattle.base.specs.ListLaws.{map_map, map_agree, mem_in, in_mem, firsts_some, firsts_all, all_in, all_mem, In}
use Rattle.pools.specs.Count.{from_all}
use Rattle.rules.specs.Reading.{Bytes, num}
use Rattle.rules.specs.Sheet.{Entry, Model, domain, known, limits}
use Rattle.rules.specs.Image.{key_in, fact_in, parts, sheet_in}
use Rattle.lines.specs.Text.{key_line, depth_text, depth_line, fact_line, told, model_lines, sheet_lines, newline, fields}
use Rattle.pages.specs.Tables.{key_text, fact_text, table_text, values_in, depth_part, depths_text}

groups : (p a b c : Bytes) → ((p ++ a) ++ b) ++ c ≡ p ++ (a ++ (b ++ c))
groups p a b c = simp append_assoc

-- ---- the elements that keys yield

same_test : (a b : Bool) → (T a → T b) → (T b → T a) → a ≡ b
same_test true true f g = refl
same_test true false f g = absurd (f tt)
same_test false true f g = absurd (g tt)
same_test false false f g = refl

-- First appearances have the same numbers.
mem_firsts : (e : ℕ) (xs : List ℕ) → mem e (firsts xs) ≡ mem e xs
mem_firsts e xs = same_test (mem e (firsts xs)) (mem e xs)
    (λ t. in_mem e xs (all_mem (λ x. In x xs) (firsts xs) (firsts_all (λ x. In x xs) xs (all_in xs)) e t))
    (λ t. in_mem e (firsts xs) (firsts_some (λ x. x ≡ e) xs (mem_in e xs t)))

-- Lines of the entries that pass a test.
flat_keep : (f : ℕ → Bytes) (p : ℕ → Bool) (xs : List ℕ) → flat (map f (keep p xs)) ≡ flat (map (λ x. if (p x) (λ _. f x) (λ _. [])) xs)
unfolding flat keep if
flat_keep f p [] = refl
flat_keep f p (x ∷ xs) = go (p x) (flat_keep f p xs)
  where
    go : (b : Bool) → flat (map f (keep p xs)) ≡ flat (map (λ x. if (p x) (λ _. f x) (λ _. [])) xs)
        → flat (map f (if b (λ _. x ∷ keep p xs) (λ _. keep p xs))) ≡ if b (λ _. f x) (λ _. []) ++ flat (map (λ x. if (p x) (λ _. f x) (λ _. [])) xs)
    go true e = ap (λ (l : Bytes). f x ++ l) e
    go false e = e

module _ (s : Bytes) where
  abbrev m : Model
  m = (sheet_in limits s).model

  abbrev keys : ℕ
  keys = min (num s 6) 128

  abbrev elements : ℕ
  elements = min (num s 4) 64

  abbrev facts : ℕ
  facts = min (num s 8) 128

  known_is : (e : ℕ) → known m e ≡ mem e (values_in keys s)
  unfolding known domain values_in sheet_in limits key_in
  known_is e = mem_firsts e _ ∙ ap (mem e) (map_map (λ (x : Entry). x.1) key_in (parts 8 keys (drop 16 s)))

  keys_are_lem : table_text key_text 16 keys s ≡ flat (map key_line m.keys)
  unfolding table_text key_text sheet_in limits
  keys_are_lem = ap flat (sym (map_map key_line key_in (parts 8 keys (drop 16 s))))

  facts_are_lem : table_text fact_text 1040 facts s ≡ flat (map fact_line m.facts)
  unfolding table_text fact_text sheet_in limits
  facts_are_lem = ap flat (sym (map_map fact_line fact_in (parts 8 facts (drop 1040 s))))

  -- The depths of the elements that keys yield.
  module _ (fits : length s ≡ 2128) where
    depths_long : length m.depths ≡ elements
    unfolding sheet_in limits
    depths_long = length-take-le elements (drop 2064 s) (omega (arith, length-drop 2064 s))

    part_is : (e : ℕ) → e < elements → depth_part keys s e ≡ if (known m e) (λ _. depth_line m e) (λ _. [])
    unfolding depth_part depth_line sheet_in limits
    part_is e h =
        ap₂ (λ (b : Bool) (d : ℕ). if b (λ _. depth_text e d) (λ _. [])) (sym (known_is e)) (sym (get_or-take elements (drop 2064 s) e 0 h ∙ get_or-drop 2064 s e 0))

    depths_are : depths_text keys elements s ≡ flat (map (depth_line m) (told m))
    unfolding depths_text told
    depths_are =
        ap flat (map_agree (λ e. e < elements) (depth_part keys s) (λ e. if (known m e) (λ _. depth_line m e) (λ _. [])) part_is (from 0 elements) (from_all (λ e. e < elements) 0 elements (λ j a b. omega arith)))
        ∙ sym (flat_keep (depth_line m) (known m) (from 0 elements))
        ∙ ap (λ n. flat (map (depth_line m) (keep (known m) (from 0 n)))) (sym depths_long)

    -- What is written, table by table, is what the sheet says.
    pub model_parts : (p : Bytes) → ((p ++ table_text key_text 16 keys s) ++ depths_text keys elements s) ++ table_text fact_text 1040 facts s ≡ p ++ model_lines m
    unfolding model_lines
    model_parts p =
        groups p (table_text key_text 16 keys s) (depths_text keys elements s) (table_text fact_text 1040 facts s)
        ∙ ap₂ (λ (a b : Bytes). p ++ (a ++ b)) keys_are_lem (ap₂ (λ (a b : Bytes). a ++ b) depths_are facts_are_lem)

pub sheet_parts : (p w s : Bytes) → (((p ++ w) ++ fields (num s 0 ∷ [])) ++ newline) ++ model_lines (sheet_in limits s).model ≡ p ++ sheet_lines w (sheet_in limits s)
unfolding sheet_lines sheet_in
sheet_parts p w s = simp append_assoc
