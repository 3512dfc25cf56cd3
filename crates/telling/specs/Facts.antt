-- One fact more on the working form: the writes that put it there, what the form shows afterwards, and what that says of the model.
use Rattle.std.specs.Prelude.{◌≡◌, refl, Bool, true, false, ◌⊎◌, length, get_or, drop, T, Result, Ok, Err}
use Rattle.std.proofs.Math.Path.{sym, ap, ap₂, subst}
use Rattle.std.proofs.Common.{◌∙◌, arith, inr, length-set, get_or-set_same, get_or-set_other}
use Prim.Native.Nat.{ℕ, suc, ◌+◌, ◌*◌, ◌≤◌, ◌<◌, Ordering}
use Rattle.std.proofs.Math.Logic.{inl}
use mathlib.Core.List.{List, [], ◌∷◌, map}
use Rattle.std.proofs.Math.ListN.{take, set}
use Rattle.std.proofs.lemmas.List.{length-map}
use Rattle.std.proofs.Math.Dec.{compare_is_eq}
use borrow.Rule.Slice.PartMut.{put_mid}
use Rattle.base.specs.Branch.{three}
use Rattle.base.specs.Lists.{All}
use Rattle.rules.specs.Book.{Names}
use Rattle.rules.specs.Sheet.{Fact, fact_order, holds, insert_fact, Model, Limits}
use Rattle.rules.specs.Image.{part}
use Rattle.rules.specs.Bound.{History}
use Rattle.rules.specs.Child.{with_fact}
use Rattle.laws.specs.Tables.{fact_eq}
use Rattle.packing.specs.Pack.{pack_key, pack_entry, pack_fact, fact_key, arity_of}
use Rattle.tables.specs.Table.{put_in, look_in, is_some, Rising, put_rises}
use Rattle.tables.specs.Ways.{Put, put_front}
use Rattle.tables.specs.Carry.{FitsFact, facts_insert_is, facts_hold_is}
use Rattle.octets.specs.Patch.{patched, patched_length, patched_part}
use Rattle.sheets.specs.Parts.{part_here, part_before, part_behind, count_before, part_front}
use Rattle.sheets.specs.Form.{View, view_of, keys_at, facts_at, depths_at, history_at, form_size}
use Rattle.enter.specs.Grow.{Sturdy, part_set_behind}
use Rattle.enter.specs.Keep.{Carries, carries_view}
use Rattle.telling.specs.declared.TooLarge.{TooLarge}

-- ---- on the form

-- The fact x in its place.
unfoldable pub holding : ℕ → View → View
holding x v = record {
  number = v.number;
  place = v.place;
  created = v.created;
  keys = v.keys;
  facts = put_in x v.facts;
  depths = v.depths;
  history = v.history;
}

unfoldable pub after : Limits → ℕ → ℕ → List ℕ → List ℕ → List ℕ
after lim k n w ys = set (put_mid (facts_at lim) k w ys) 4 n

module _ (lim : Limits) (k n x : ℕ) (w ys : List ℕ) (s : Sturdy lim w) (ek : k ≡ lim.facts) (ly : length ys ≡ k) (ln : n ≤ lim.facts)
    (put : take n ys ≡ put_in x (view_of lim w).facts) where
  abbrev w₁ : List ℕ
  w₁ = patched (facts_at lim) ys w

  abbrev w₂ : List ℕ
  w₂ = set w₁ 4 n

  after_is : after lim k n w ys ≡ w₂
  unfolding after
  after_is = ap (λ (l : List ℕ). set l 4 n) (patched_part (facts_at lim) k ys w ly)

  fits : facts_at lim + length ys ≤ length w
  fits = omega (arith, s.formed.size)

  z₁ : length w₁ ≡ form_size lim
  z₁ = patched_length (facts_at lim) ys w fits ∙ s.formed.size

  other : (i : ℕ) → i < 5 → (i ≡ 4 → ⊥) → get_or w₂ i 0 ≡ get_or w i 0
  other i h p = get_or-set_other w₁ 4 i n 0 p ∙ count_before (facts_at lim) ys w fits i (omega arith)

  count_is : get_or w₂ 4 0 ≡ n
  count_is = get_or-set_same w₁ 4 n 0 (omega (arith, z₁))

  keys_are_lem : part keys_at (get_or w 3 0) w₂ ≡ part keys_at (get_or w 3 0) w
  keys_are_lem = part_set_behind w₁ 4 n (omega (arith, z₁)) keys_at (get_or w 3 0) (omega arith) ∙ part_before (facts_at lim) ys w fits keys_at (get_or w 3 0) (omega (arith, s.formed.keys))

  facts_are_lem : part (facts_at lim) n w₂ ≡ put_in x (view_of lim w).facts
  facts_are_lem = part_set_behind w₁ 4 n (omega (arith, z₁)) (facts_at lim) n (omega arith) ∙ part_here (facts_at lim) ys w fits n (omega arith) ∙ put

  behind : (b m : ℕ) → depths_at lim ≤ b → part b m w₂ ≡ part b m w
  behind b m h = part_set_behind w₁ 4 n (omega (arith, z₁)) b m (omega arith) ∙ part_behind (facts_at lim) ys w fits b m (omega arith)

  view_is : view_of lim w₂ ≡ holding x (view_of lim w)
  unfolding view_of holding
  view_is =
      let a = other 0 (omega arith) (λ e. omega arith) in
      let b = other 1 (omega arith) (λ e. omega arith) in
      let c = other 2 (omega arith) (λ e. omega arith) in
      let g = ap (λ m. part keys_at m w₂) (other 3 (omega arith) (λ e. omega arith)) ∙ keys_are_lem in
      let f = ap (λ m. part (facts_at lim) m w₂) count_is ∙ facts_are_lem in
      let h = ap (λ m. part (depths_at lim) m w₂) c ∙ behind (depths_at lim) (get_or w 2 0) (omega arith) in
      let j = behind (history_at lim) lim.elements (omega arith) in
      λ i. record { number = a i; place = b i; created = c i; keys = g i; facts = f i; depths = h i; history = j i }

  sturdy_is : Sturdy lim w₂
  sturdy_is = record {
    formed = record {
      size = length-set w₁ 4 n ∙ z₁;
      created = omega (arith, other 2 (omega arith) (λ e. omega arith), s.formed.created);
      keys = omega (arith, other 3 (omega arith) (λ e. omega arith), s.formed.keys);
      facts = omega (arith, count_is);
    };
    few = s.few;
    even = s.even;
    rising = subst (λ (v : View). Rising v.keys) (sym view_is) (unfold holding in s.rising);
    held = subst (λ (v : View). Rising v.facts) (sym view_is) (unfold holding in put_rises x (view_of lim w).facts s.held);
  }

  after_view : view_of lim (after lim k n w ys) ≡ holding x (view_of lim w)
  after_view = ap (view_of lim) after_is ∙ view_is

  after_sturdy : Sturdy lim (after lim k n w ys)
  after_sturdy = subst (Sturdy lim) (sym after_is) sturdy_is

-- ---- what putting a fact in says: it is in its place, or was there already, or there is no room

abbrev pub Stored : Limits → ℕ → List ℕ → Result (Unit {0}) TooLarge → List ℕ → Type 0
Stored lim q w (Ok done) w' = (view_of lim w' ≡ holding (q * 256) (view_of lim w)) ⊎ ((view_of lim w' ≡ view_of lim w) × (true ≡ is_some (look_in q (view_of lim w).facts)))
Stored lim q w (Err e) w' = (lim.facts ≤ length (view_of lim w).facts) × (false ≡ is_some (look_in q (view_of lim w).facts))

pub record PutFact (lim : Limits) (q : ℕ) (w : List ℕ) (r : Result (Unit {0}) TooLarge) (w' : List ℕ) : Type 0 where
  pub sturdy : Sturdy lim w'
  pub stored : Stored lim q w r w'

true_false : true ≡ false → ⊥
true_false e = subst T e tt

module _ {lim : Limits} {q : ℕ} {w : List ℕ} (s : Sturdy lim w) where
  -- The facts' room was lent as k entries and came back as ys.
  pub exit_put : {k n : ℕ} {ys : List ℕ} → k ≡ lim.facts → length ys ≡ k → get_or w 4 0 < lim.facts → Put (q * 256) (get_or w 4 0) (take k (drop (facts_at lim) w)) n ys
      → (done : Unit {0}) → PutFact lim q w (Ok done) (after lim k n w ys)
  unfolding view_of
  exit_put {k} {n} {ys} ek ly free p done =
      let x = q * 256 in
      let put : take n ys ≡ put_in x (view_of lim w).facts = put_front p ∙ ap (put_in x) (part_front (facts_at lim) k (get_or w 4 0) w (omega arith)) in
      record {
        sturdy = after_sturdy lim k n x w ys s ek ly (omega (arith, p.high)) put;
        stored = inl (after_view lim k n x w ys s ek ly (omega (arith, p.high)) put);
      }

  pub exit_there : {r : Bool} → r ≡ is_some (look_in q (view_of lim w).facts) → r ≡ true → (done : Unit {0}) → PutFact lim q w (Ok done) w
  exit_there e t done = record { sturdy = s; stored = inr (refl, sym t ∙ e) }

  pub exit_full : lim.facts ≤ length (view_of lim w).facts → {r : Bool} → r ≡ is_some (look_in q (view_of lim w).facts) → r ≡ false → (f : TooLarge) → PutFact lim q w (Err f) w
  exit_full l e t f = record { sturdy = s; stored = (l, sym t ∙ e) }

-- ---- what that says of the model

insert_held : (f : Fact) (xs : List Fact) → true ≡ holds f xs → insert_fact f xs ≡ xs
unfolding holds insert_fact three
insert_held f [] e = absurd (true_false e)
insert_held f (x ∷ xs) e = go (fact_order f x) refl e (insert_held f xs)
  where
    go : (o : Ordering) → fact_order f x ≡ o → true ≡ three o (λ _. false) (λ _. true) (λ _. holds f xs) → (true ≡ holds f xs → insert_fact f xs ≡ xs)
        → three o (λ _. f ∷ x ∷ xs) (λ _. f ∷ xs) (λ _. x ∷ insert_fact f xs) ≡ x ∷ xs
    go Ordering.lt i h r = absurd (true_false h)
    go Ordering.eq i h r = ap (λ (y : Fact). y ∷ xs) (fact_eq f x (subst (λ o. T (compare_is_eq o)) (sym i) tt))
    go Ordering.gt i h r = ap (λ (l : List Fact). x ∷ l) (r h)

insert_new : (f : Fact) (xs : List Fact) → false ≡ holds f xs → length (insert_fact f xs) ≡ suc (length xs)
unfolding holds insert_fact three
insert_new f [] e = refl
insert_new f (x ∷ xs) e = go (fact_order f x) e (insert_new f xs)
  where
    go : (o : Ordering) → false ≡ three o (λ _. false) (λ _. true) (λ _. holds f xs) → (false ≡ holds f xs → length (insert_fact f xs) ≡ suc (length xs))
        → length (three o (λ _. f ∷ x ∷ xs) (λ _. f ∷ xs) (λ _. x ∷ insert_fact f xs)) ≡ suc (suc (length xs))
    go Ordering.lt h r = refl
    go Ordering.eq h r = absurd (true_false (sym h))
    go Ordering.gt h r = ap suc (r h)

module _ (lim : Limits) (d : Names) (w : List ℕ) (m : Model) (now : History) (c : Carries lim w m now) (fit : All (FitsFact (arity_of d)) m.facts) (f : Fact) (fits : FitsFact (arity_of d) f)
    (q : ℕ) (is : q ≡ pack_key (fact_key f)) (w' : List ℕ) where
  held_is : holds f m.facts ≡ is_some (look_in q (view_of lim w).facts)
  held_is = facts_hold_is (arity_of d) f m.facts fits fit ∙ sym (ap₂ (λ (k : ℕ) (l : List ℕ). is_some (look_in k l)) is c.facts)

  pub fact_carried : (done : Unit {0}) → PutFact lim q w (Ok done) w' → Carries lim w' (with_fact m f) now
  fact_carried done p = go p.stored
    where
      go : (view_of lim w' ≡ holding (q * 256) (view_of lim w)) ⊎ ((view_of lim w' ≡ view_of lim w) × (true ≡ is_some (look_in q (view_of lim w).facts))) → Carries lim w' (with_fact m f) now
      go (inl e) = unfold holding pack_entry in (
          let x : q * 256 ≡ pack_fact f = omega (arith, is) in
          record {
            formed = p.sturdy.formed;
            created = ap (λ (u : View). u.created) e ∙ c.created;
            keys = ap (λ (u : View). u.keys) e ∙ c.keys;
            facts = ap (λ (u : View). u.facts) e ∙ ap₂ put_in x c.facts ∙ sym (facts_insert_is (arity_of d) f m.facts fits fit);
            depths = ap (λ (u : View). u.depths) e ∙ c.depths;
            history = ap (λ (u : View). u.history) e ∙ c.history;
          })
      go (inr e) =
          let o = carries_view p.sturdy.formed e.0 c in
          record {
            formed = o.formed;
            created = o.created;
            keys = o.keys;
            facts = o.facts ∙ ap (map pack_fact) (sym (insert_held f m.facts (e.1 ∙ sym held_is)));
            depths = o.depths;
            history = o.history;
          }

  pub fact_crowds : (r : TooLarge) → PutFact lim q w (Err r) w' → lim.facts < length (insert_fact f m.facts)
  fact_crowds r p =
      let e = p.stored in
      omega (arith, e.0, ap length c.facts ∙ length-map m.facts pack_fact, insert_new f m.facts (e.1 ∙ sym held_is))
