-- A form that carries a model and a history, and what putting a key in does to it: what the code says of numbers, and what that
-- says of the model.
use Rattle.std.specs.Prelude.{◌≡◌, refl, ◌⊎◌, drop}
use Rattle.std.specs.Prelude.{true, Some, None}
use Rattle.std.specs.Prelude as std
use Rattle.std.proofs.lemmas.Option.{none-some, same_Some}
use Rattle.std.proofs.Math.Path.{sym, ap, ap₂, subst}
use Rattle.std.proofs.Common.{◌∙◌, arith}
use Prim.Native.Nat.{ℕ, suc, ◌+◌, ◌*◌, ◌≤◌, ◌<◌}
use Rattle.std.proofs.Math.Numerals.{add-one}
use Rattle.std.proofs.Math.Logic.{inl, inr}
use Rattle.std.proofs.Math.Option.{none, some, some-injective, none-ne-some, some-ne-none}
use mathlib.Core.List.{List, [], ◌∷◌, ◌++◌, map}
use Rattle.std.proofs.Math.ListN.{length, get_or, take, length-map}
use Rattle.base.specs.Lists.{All, from}
use Rattle.base.specs.BranchLaws.{case_o_elim}
use Rattle.rules.specs.Book.{Names}
use Rattle.rules.specs.Sheet.{Key, Model, find, Limits}
use Rattle.rules.specs.Bound.{History, depth_over, depth_at}
use Rattle.rules.specs.Child.{add, put}
use Rattle.soundness.specs.Tools.{insert_key_length}
use Rattle.soundness.specs.Neat.{Small}
use Rattle.packing.specs.Pack.{pack_key, pack_entry, pack_fact, Fits, FitsEntry, arity_of}
use Rattle.tables.specs.Table.{look_in, put_in, option_of}
use Rattle.tables.specs.Ways.{look_some}
use Rattle.tables.specs.Ways.{Put, put_front}
use Rattle.tables.specs.Carry.{find_is, insert_is}
use Rattle.look.specs.Answers.{Octets}
use Rattle.sheets.specs.Parts.{part_length, part_front}
use Rattle.sheets.specs.Form.{View, view_of, Formed, keys_at, facts_at}
use Rattle.enter.specs.Grow.{Sturdy, grown, after, after_view, after_sturdy}

-- ---- a form that carries a model

-- What each element is now is written for every element that there is room for.
pub record Carries (lim : Limits) (w : List ℕ) (m : Model) (now : History) : Type 0 where
  pub formed : Formed lim w
  pub created : (view_of lim w).created ≡ m.created
  pub keys : (view_of lim w).keys ≡ map pack_entry m.keys
  pub facts : (view_of lim w).facts ≡ map pack_fact m.facts
  pub depths : (view_of lim w).depths ≡ m.depths
  pub history : (view_of lim w).history ≡ map now (from 0 lim.elements)

-- A form that shows the same carries the same.
pub carries_view : {lim : Limits} {w w' : List ℕ} {m : Model} {now : History} → Formed lim w' → view_of lim w' ≡ view_of lim w → Carries lim w m now → Carries lim w' m now
carries_view f e c = record {
  formed = f;
  created = ap (λ (v : View). v.created) e ∙ c.created;
  keys = ap (λ (v : View). v.keys) e ∙ c.keys;
  facts = ap (λ (v : View). v.facts) e ∙ c.facts;
  depths = ap (λ (v : View). v.depths) e ∙ c.depths;
  history = ap (λ (v : View). v.history) e ∙ c.history;
}

pub carries_small : {lim : Limits} {w : List ℕ} {m : Model} {now : History} → Carries lim w m now → Small lim m
unfolding view_of
carries_small {lim} {w} {m} c =
    let f = c.formed in
    let k = part_length keys_at (get_or w 3 0) w (omega (arith, f.size, f.keys)) in
    let l = part_length (facts_at lim) (get_or w 4 0) w (omega (arith, f.size, f.facts)) in
    record {
      few_created = omega (arith, c.created, f.created);
      few_keys = omega (arith, f.keys, sym k ∙ ap length c.keys ∙ length-map m.keys pack_entry);
      few_facts = omega (arith, f.facts, sym l ∙ ap length c.facts ∙ length-map m.facts pack_fact);
    }

-- ---- what putting key q in at depth d says: the key's element, a new one, or none where there is no room

abbrev pub NoRoom : Limits → View → Type 0
NoRoom lim v = (lim.elements ≤ v.created) ⊎ (lim.keys ≤ length v.keys)

pub record PutKey (lim : Limits) (q d : ℕ) (w : List ℕ) (r : std.Option ℕ) (w' : List ℕ) : Type 0 where
  pub sturdy : Sturdy lim w'
  pub octets : Octets r
  pub found : (v : ℕ) → look_in q (view_of lim w).keys ≡ some v → (r ≡ Some v) × (view_of lim w' ≡ view_of lim w)
  pub new : look_in q (view_of lim w).keys ≡ none → (v : ℕ) → r ≡ Some v
      → (v ≡ (view_of lim w).created) × (view_of lim w' ≡ grown (q * 256 + (view_of lim w).created) d (view_of lim w))
  pub full : look_in q (view_of lim w).keys ≡ none → r ≡ None → NoRoom lim (view_of lim w)

module _ (lim : Limits) (q d : ℕ) (w : List ℕ) (s : Sturdy lim w) where
  pub exit_found : (old : std.Option ℕ) → old ≡ option_of (look_in q (view_of lim w).keys) → Octets old → std.is_some old ≡ true → PutKey lim q d w old w
  exit_found None is o h = absurd (cc)
  exit_found (Some e) is o h =
      let l = look_some q (view_of lim w).keys e is in
      record {
        sturdy = s;
        octets = o;
        found = λ v g. (ap Some (some-injective _ _ (sym l ∙ g)), refl);
        new = λ g _ _. absurd (some-ne-none e (sym l ∙ g));
        full = λ g _. absurd (some-ne-none e (sym l ∙ g));
      }

  module _ (l : look_in q (view_of lim w).keys ≡ none) where
    pub exit_full : NoRoom lim (view_of lim w) → PutKey lim q d w None w
    exit_full n = record {
      sturdy = s;
      octets = tt;
      found = λ v e. absurd (none-ne-some v (sym l ∙ e));
      new = λ _ v e. absurd (none-some v e);
      full = λ _ _. n;
    }

    -- The keys' room was lent as k entries and came back as ys.
    pub exit_new : get_or w 2 0 < lim.elements → (k n : ℕ) (ys : List ℕ) → k ≡ lim.keys → length ys ≡ k → get_or w 3 0 < lim.keys
        → Put (q * 256 + get_or w 2 0) (get_or w 3 0) (take k (drop keys_at w)) n ys → PutKey lim q d w (Some (get_or w 2 0)) (after lim k d n w ys)
    unfolding view_of
    exit_new room k n ys ek ly free p =
        let x = q * 256 + get_or w 2 0 in
        let put : take n ys ≡ put_in x (view_of lim w).keys = put_front p ∙ ap (put_in x) (part_front keys_at k (get_or w 3 0) w (omega arith)) in
        let few = s.few in
        record {
          sturdy = after_sturdy lim k d n x w ys s ek room ly (omega (arith, p.high)) put;
          octets = omega arith;
          found = λ v e. absurd (none-ne-some v (sym l ∙ e));
          new = λ _ v e. (sym (same_Some _ _ e), after_view lim k d n x w ys s ek room ly (omega (arith, p.high)) put);
          full = λ _ e. absurd (none-some _ (sym e));
        }

-- ---- what that says of the model

-- More elements or keys than there is room for.
abbrev pub Crowded : Limits → Model → Type 0
Crowded lim m = (lim.elements < m.created) ⊎ (lim.keys < length m.keys)

-- The element, and the form carries the model that has it; or there is no room for it.
abbrev pub PutIs : Limits → History → Model × ℕ → std.Option ℕ → List ℕ → Type 0
PutIs lim now p None w' = Crowded lim p.0
PutIs lim now p (Some v) w' = (v ≡ p.1) × Carries lim w' p.0 now

module _ (lim : Limits) (d : Names) (w : List ℕ) (m : Model) (now : History) (c : Carries lim w m now) (fit : All (FitsEntry (arity_of d)) m.keys) (k : Key) (fits : Fits (arity_of d) k)
    (q : ℕ) (is : q ≡ pack_key k) where
  looked : look_in q (view_of lim w).keys ≡ find k m.keys
  looked = ap₂ look_in is c.keys ∙ sym (find_is (arity_of d) k m.keys fits fit)

  module _ (depth : ℕ) (w' : List ℕ) (deep : depth ≡ depth_over (map (depth_at m) k.args)) where
    grows : (e : ℕ) → PutKey lim q depth w (Some e) w' → find k m.keys ≡ none → (e ≡ m.created) × Carries lim w' (add m k) now
    unfolding add pack_entry grown
    grows u p e =
        let g = p.new (looked ∙ e) u refl in
        let v = view_of lim w in
        let n : v.created ≡ m.created = c.created in
        let x : q * 256 + v.created ≡ pack_entry (k, m.created) = ap₂ (λ a b. a * 256 + b) is n in
        let low : m.created < 256 = subst (λ z. z < 256) (g.0 ∙ n) p.octets in (
          g.0 ∙ n,
          record {
            formed = p.sturdy.formed;
            created = ap (λ (u : View). u.created) g.1 ∙ add-one v.created ∙ ap suc n;
            keys = ap (λ (u : View). u.keys) g.1 ∙ ap₂ put_in x c.keys
                ∙ sym (insert_is (arity_of d) (k, m.created) m.keys (record { key = fits; value = low }) fit);
            facts = ap (λ (u : View). u.facts) g.1 ∙ c.facts;
            depths = ap (λ (u : View). u.depths) g.1 ∙ ap₂ (λ (a : List ℕ) (b : ℕ). a ++ (b ∷ [])) c.depths deep;
            history = ap (λ (u : View). u.history) g.1 ∙ c.history;
          },
        )

    crowds : find k m.keys ≡ none → NoRoom lim (view_of lim w) → Crowded lim (add m k)
    unfolding add
    crowds e (inl a) = inl (omega (arith, c.created))
    crowds e (inr a) = inr (omega (arith, ap length c.keys ∙ length-map m.keys pack_entry, (insert_key_length (k, m.created) m.keys).0 e))

    pub put_is : (r : std.Option ℕ) → PutKey lim q depth w r w' → PutIs lim now (put m k) r w'
    unfolding put
    put_is None p = case_o_elim (λ (o : Model × ℕ). Crowded lim o.0) (find k m.keys) _ _
        (λ e. crowds e (p.full (looked ∙ e) refl)) (λ v e. absurd (none-some v (p.found v (looked ∙ e)).0))
    put_is (Some u) p = case_o_elim (λ (o : Model × ℕ). (u ≡ o.1) × Carries lim w' o.0 now) (find k m.keys) _ _
        (grows u p) (λ v e. let f = p.found v (looked ∙ e) in (same_Some _ _ f.0, carries_view p.sturdy.formed f.1 c))
