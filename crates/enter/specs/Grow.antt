-- One key more on the working form: the writes that put it there, and what the form shows afterwards.
use Rattle.std.specs.Prelude.{◌≡◌, ℕ, ◌+◌, ◌≤◌, ◌<◌, length, take, drop}
use Rattle.std.proofs.Common.{sym, ◌∙◌, arith, add-one, length-set, length-drop, get_or-set_same, get_or-set_other, take-suc-set}
use Rattle.std.proofs.Math.Path.{ap, subst}
use Rattle.std.proofs.Props.{props}
use mathlib.Core.List.{List, [], ◌∷◌, ◌++◌}
use Rattle.std.proofs.Math.ListN.{get_or, set}
use Rattle.std.proofs.lemmas.List.{drop-set-add}
use borrow.Rule.Slice.PartMut.{put_mid}
use Rattle.rules.specs.Sheet.{Limits}
use Rattle.rules.specs.Image.{part}
use Rattle.tables.specs.Table.{put_in, Rising, rising_prop, put_rises}
use Rattle.octets.specs.Patch.{patched, patched_length, patched_part, patched_one}
use Rattle.sheets.specs.Parts.{part_here, part_before, part_behind, count_before}
use Rattle.sheets.specs.Form.{View, view_of, Formed, keys_at, facts_at, depths_at, history_at, form_size}

-- ---- what is asked of a form, whatever it holds

-- Its counts are within the limits, elements are digits, room for keys will do for facts, and keys and facts rise.
pub record Sturdy (lim : Limits) (w : List ℕ) : Type 0 where
  pub formed : Formed lim w
  pub few : lim.elements ≤ 256
  pub even : lim.facts ≤ lim.keys
  pub rising : Rising (view_of lim w).keys
  pub held : Rising (view_of lim w).facts

pub sturdy_prop : (lim : Limits) (w : List ℕ) → IsProp (Sturdy lim w)
sturdy_prop lim w = hlevel (props, rising_prop)

-- ---- one entry set

module _ (s : List ℕ) (j v : ℕ) (h : j < length s) where
  pub part_set_behind : (b m : ℕ) → j < b → part b m (set s j v) ≡ part b m s
  part_set_behind b m l = ap (part b m) (patched_one s j v h) ∙ part_behind j (v ∷ []) s (omega arith) b m (omega arith)

  pub part_set_before : (b m : ℕ) → b + m ≤ j → part b m (set s j v) ≡ part b m s
  part_set_before b m l = ap (part b m) (patched_one s j v h) ∙ part_before j (v ∷ []) s (omega arith) b m l

pub part_snoc : (a m d : ℕ) (s : List ℕ) → a + m < length s → part a (m + 1) (set s (a + m) d) ≡ part a m s ++ (d ∷ [])
unfolding part
part_snoc a m d s h = rw (drop-set-add a s m d, add-one) (take-suc-set (drop a s) m d (omega (arith, length-drop a s)))

-- ---- a key put in

-- The entry x in its place, and the depth d behind the others.
unfoldable pub grown : ℕ → ℕ → View → View
grown x d v = record {
  number = v.number;
  place = v.place;
  created = v.created + 1;
  keys = put_in x v.keys;
  facts = v.facts;
  depths = v.depths ++ (d ∷ []);
  history = v.history;
}

-- Keys lent and come back, then the depth, the created count and the count of keys.
unfoldable pub after : Limits → ℕ → ℕ → ℕ → List ℕ → List ℕ → List ℕ
after lim k d n w ys = set (set (set (put_mid keys_at k w ys) (depths_at lim + get_or w 2 0) d) 2 (get_or w 2 0 + 1)) 3 n

module _ (lim : Limits) (k d n x : ℕ) (w ys : List ℕ) (s : Sturdy lim w) (ek : k ≡ lim.keys) (room : get_or w 2 0 < lim.elements) (ly : length ys ≡ k)
    (ln : n ≤ lim.keys) (put : take n ys ≡ put_in x (view_of lim w).keys) where
  abbrev w₁ : List ℕ
  w₁ = patched keys_at ys w

  abbrev w₂ : List ℕ
  w₂ = set w₁ (depths_at lim + get_or w 2 0) d

  abbrev w₃ : List ℕ
  w₃ = set w₂ 2 (get_or w 2 0 + 1)

  abbrev w₄ : List ℕ
  w₄ = set w₃ 3 n

  after_is : after lim k d n w ys ≡ w₄
  unfolding after
  after_is = ap (λ (l : List ℕ). set (set (set l (depths_at lim + get_or w 2 0) d) 2 (get_or w 2 0 + 1)) 3 n) (patched_part keys_at k ys w ly)

  z₁ : length w₁ ≡ form_size lim
  z₁ = patched_length keys_at ys w (omega (arith, s.formed.size)) ∙ s.formed.size

  z₂ : length w₂ ≡ form_size lim
  z₂ = length-set w₁ (depths_at lim + get_or w 2 0) d ∙ z₁

  z₃ : length w₃ ≡ form_size lim
  z₃ = length-set w₂ 2 (get_or w 2 0 + 1) ∙ z₂

  z₄ : length w₄ ≡ form_size lim
  z₄ = length-set w₃ 3 n ∙ z₃

  -- Counts.
  other : (i : ℕ) → i < 5 → (i ≡ 2 → ⊥) → (i ≡ 3 → ⊥) → get_or w₄ i 0 ≡ get_or w i 0
  other i h p q =
      get_or-set_other w₃ 3 i n 0 q ∙ get_or-set_other w₂ 2 i (get_or w 2 0 + 1) 0 p
      ∙ get_or-set_other w₁ (depths_at lim + get_or w 2 0) i d 0 (λ e. omega arith) ∙ count_before keys_at ys w (omega (arith, s.formed.size)) i h

  created_is : get_or w₄ 2 0 ≡ get_or w 2 0 + 1
  created_is = get_or-set_other w₃ 3 2 n 0 (λ e. omega arith) ∙ get_or-set_same w₂ 2 (get_or w 2 0 + 1) 0 (omega (arith, z₂))

  count_is : get_or w₄ 3 0 ≡ n
  count_is = get_or-set_same w₃ 3 n 0 (omega (arith, z₃))

  -- The counts lie before every region.
  behind : (b m : ℕ) → 4 ≤ b → part b m w₄ ≡ part b m w₂
  behind b m h = part_set_behind w₃ 3 n (omega (arith, z₃)) b m (omega arith) ∙ part_set_behind w₂ 2 (get_or w 2 0 + 1) (omega (arith, z₂)) b m (omega arith)

  keys_are_lem : part keys_at n w₄ ≡ put_in x (view_of lim w).keys
  keys_are_lem =
      behind keys_at n (omega arith) ∙ part_set_before w₁ (depths_at lim + get_or w 2 0) d (omega (arith, z₁)) keys_at n (omega arith)
      ∙ part_here keys_at ys w (omega (arith, s.formed.size)) n (omega arith) ∙ put

  facts_are_lem : part (facts_at lim) (get_or w 4 0) w₄ ≡ part (facts_at lim) (get_or w 4 0) w
  facts_are_lem =
      behind (facts_at lim) (get_or w 4 0) (omega arith)
      ∙ part_set_before w₁ (depths_at lim + get_or w 2 0) d (omega (arith, z₁)) (facts_at lim) (get_or w 4 0) (omega (arith, s.formed.facts))
      ∙ part_behind keys_at ys w (omega (arith, s.formed.size)) (facts_at lim) (get_or w 4 0) (omega arith)

  depths_are : part (depths_at lim) (get_or w 2 0 + 1) w₄ ≡ part (depths_at lim) (get_or w 2 0) w ++ (d ∷ [])
  depths_are =
      behind (depths_at lim) (get_or w 2 0 + 1) (omega arith)
      ∙ part_snoc (depths_at lim) (get_or w 2 0) d w₁ (omega (arith, z₁))
      ∙ ap (λ (l : List ℕ). l ++ (d ∷ [])) (part_behind keys_at ys w (omega (arith, s.formed.size)) (depths_at lim) (get_or w 2 0) (omega arith))

  history_is : part (history_at lim) lim.elements w₄ ≡ part (history_at lim) lim.elements w
  history_is =
      behind (history_at lim) lim.elements (omega arith)
      ∙ part_set_behind w₁ (depths_at lim + get_or w 2 0) d (omega (arith, z₁)) (history_at lim) lim.elements (omega arith)
      ∙ part_behind keys_at ys w (omega (arith, s.formed.size)) (history_at lim) lim.elements (omega arith)

  view_is : view_of lim w₄ ≡ grown x d (view_of lim w)
  unfolding view_of grown
  view_is =
      let a = other 0 (omega arith) (λ e. omega arith) (λ e. omega arith) in
      let b = other 1 (omega arith) (λ e. omega arith) (λ e. omega arith) in
      let f = ap (λ m. part (facts_at lim) m w₄) (other 4 (omega arith) (λ e. omega arith) (λ e. omega arith)) ∙ facts_are_lem in
      let g = ap (λ m. part keys_at m w₄) count_is ∙ keys_are_lem in
      let h = ap (λ m. part (depths_at lim) m w₄) created_is ∙ depths_are in
      λ i. record { number = a i; place = b i; created = created_is i; keys = g i; facts = f i; depths = h i; history = history_is i }

  sturdy_is : Sturdy lim w₄
  sturdy_is = record {
    formed = record {
      size = z₄;
      created = omega (arith, created_is);
      keys = omega (arith, count_is);
      facts = omega (arith, other 4 (omega arith) (λ e. omega arith) (λ e. omega arith), s.formed.facts);
    };
    few = s.few;
    even = s.even;
    rising = subst (λ (v : View). Rising v.keys) (sym view_is) (unfold grown in put_rises x (view_of lim w).keys s.rising);
    held = subst (λ (v : View). Rising v.facts) (sym view_is) (unfold grown in s.held);
  }

  pub after_view : view_of lim (after lim k d n w ys) ≡ grown x d (view_of lim w)
  after_view = ap (view_of lim) after_is ∙ view_is

  pub after_sturdy : Sturdy lim (after lim k d n w ys)
  after_sturdy = subst (Sturdy lim) (sym after_is) sturdy_is
