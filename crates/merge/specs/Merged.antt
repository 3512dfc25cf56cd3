-- A merge of two elements in a form, and that it is the document's: a form that holds a sheet, with what each element is now, holds
-- afterwards the sheet that the document's merge gives.
use Rattle.std.specs.Prelude.{◌≡◌, refl, ℕ, zero, suc, ◌+◌, ◌*◌, ◌<◌, List, [], ◌∷◌, length, get_or, drop, set, eqb}
use Rattle.std.proofs.Math.Path.{sym, ap, subst}
use Rattle.std.proofs.Common.{◌∙◌}
use native.Mathlib.Omega.{arith}
use Rattle.base.specs.BranchLaws.{if_elim}
use Rattle.rules.specs.Sheet.{Limits, Model, Sheet}
use Rattle.rules.specs.Bound.{History}
use Rattle.rules.specs.Image.{part}
use Rattle.rules.specs.Merge.{Pair, merge_into, merge_all, lowered, merge}
use Rattle.renaming.specs.Order.{Sorted}
use Rattle.filing.specs.Carry.{pack_pair}
use Rattle.limits.specs.Limits.{keys_at, facts_at, depths_at, history_at}
use Rattle.sheets.specs.Form.{View, view_of, Formed}
use Rattle.images.specs.Kept.{Kept, kept_set, part_set, kept_count, kept_before, kept_behind, part_size}
use Rattle.merge.specs.Regions.{LoweredTo}
use Rattle.joining.specs.Work.{Work, waiting, merge_all_in, rounds, lowered_in}
use Rattle.joining.specs.Carry.{work_of, Ready, Packs, merged_in, merge_is}
use Rattle.merge.specs.Into.{keys_room, work_at, Orderly, Fewer, fewer_then}
use Rattle.merge.specs.Next.{Stacked, AllForm}
use Rattle.merge.specs.Held.{HoldsNow, with_model}

-- ---- on numbers

-- What a view has to be merged.
abbrev pub work_in : View → Work
work_in v = record { keys = v.keys; pairs = []; facts = v.facts; depths = v.depths; history = v.history }

-- The tables of w' are those of w with a and b merged.
pub record Tables (lim : Limits) (a b : ℕ) (w w' : List ℕ) : Type 0 where
  pub keys : (view_of lim w').keys ≡ (merged_in a b (work_in (view_of lim w))).keys
  pub facts : (view_of lim w').facts ≡ (merged_in a b (work_in (view_of lim w))).facts
  pub depths : (view_of lim w').depths ≡ (merged_in a b (work_in (view_of lim w))).depths
  pub history : (view_of lim w').history ≡ (merged_in a b (work_in (view_of lim w))).history

module _ (lim : Limits) (a b : ℕ) (w : List ℕ) (g : Formed lim w) where
  abbrev n : ℕ
  n = lim.keys + lim.keys

  abbrev first : List ℕ
  first = set w (keys_at + n) (a * 256 + b)

  placed : Kept keys_at (keys_room lim) w first
  placed = kept_set keys_at (keys_room lim) w n (a * 256 + b) (omega arith)

  first_fewer : Fewer w first
  first_fewer = record {
    kept = λ i h. kept_count placed i (omega arith);
    keys = omega (arith, kept_count placed 3 (omega arith));
    facts = omega (arith, kept_count placed 4 (omega arith));
  }

  last : (k : ℕ) (t : List ℕ) (x : ℕ) → length t ≡ suc k → drop k (set t k x) ≡ x ∷ []
  last zero (y ∷ []) x e = refl
  last zero [] x e = absurd (omega arith)
  last zero (y ∷ z ∷ t) x e = absurd (omega arith)
  last (suc k) [] x e = absurd (omega arith)
  last (suc k) (y ∷ t) x e = last k t x (omega arith)

  first_work : work_at lim n first ≡ waiting (pack_pair (a, b) ∷ []) (work_in (view_of lim w))
  unfolding view_of
  first_work = λ i. record {
    keys = keys i;
    pairs = pairs i;
    facts = facts i;
    depths = depths i;
    history = history i;
  }
    where
      keys : part keys_at (get_or first 3 0) first ≡ part keys_at (get_or w 3 0) w
      keys =
          let e : keys_at + n + 0 ≡ keys_at + n = omega arith in
          let k : Kept (keys_at + n) 1 w first = subst (λ j. Kept (keys_at + n) 1 w (set w j (a * 256 + b))) e (kept_set (keys_at + n) 1 w 0 (a * 256 + b) (omega arith)) in
          ap (λ j. part keys_at j first) (kept_count placed 3 (omega arith)) ∙ kept_before k keys_at (get_or w 3 0) (omega (arith, g.keys))

      pairs : drop n (part keys_at (keys_room lim) first) ≡ pack_pair (a, b) ∷ []
      pairs = ap (drop n) (part_set keys_at (keys_room lim) w n (a * 256 + b) (omega arith))
          ∙ last n (part keys_at (keys_room lim) w) (a * 256 + b) (part_size keys_at (keys_room lim) w (omega (arith, g.size)) ∙ (omega arith))

      facts : part (facts_at lim) (get_or first 4 0) first ≡ part (facts_at lim) (get_or w 4 0) w
      facts = ap (λ j. part (facts_at lim) j first) (kept_count placed 4 (omega arith)) ∙ kept_behind placed (facts_at lim) (get_or w 4 0) (omega arith)

      depths : part (depths_at lim) (get_or first 2 0) first ≡ part (depths_at lim) (get_or w 2 0) w
      depths = ap (λ j. part (depths_at lim) j first) (kept_count placed 2 (omega arith)) ∙ kept_behind placed (depths_at lim) (get_or w 2 0) (omega arith)

      history : part (history_at lim) lim.elements first ≡ part (history_at lim) lim.elements w
      history = kept_behind placed (history_at lim) lim.elements (omega arith)

  -- The pair stands alone at the end of its room.
  pub first_stacked : Orderly lim w → Stacked lim n first
  unfolding view_of
  first_stacked o = record {
    formed = record {
      size = placed.size ∙ g.size;
      created = omega (arith, kept_count placed 2 (omega arith), g.created);
      keys = omega (arith, kept_count placed 3 (omega arith), g.keys);
      facts = omega (arith, kept_count placed 4 (omega arith), g.facts);
    };
    orderly = record {
      even = o.even;
      keys = subst Sorted (sym (ap (λ (u : Work). u.keys) first_work)) o.keys;
      facts = subst Sorted (sym (ap (λ (u : Work). u.facts) first_work)) o.facts;
    };
    high = omega arith;
    room = omega (arith, kept_count placed 3 (omega arith), g.keys);
  }

  -- The pairs merged, and then the depths lowered.
  module _ (w₂ w₃ : List ℕ) (q : AllForm lim n first w₂) (l : LoweredTo keys_at (get_or w₂ 3 0) (depths_at lim) (get_or w₂ 2 0) w₂ w₃) where
    abbrev v : Work
    v = work_in (view_of lim w)

    all : work_at lim (keys_room lim) w₂ ≡ merge_all_in (suc (length v.keys)) (waiting (pack_pair (a, b) ∷ []) v)
    all =
        let e : rounds (waiting (pack_pair (a, b) ∷ []) v) ≡ suc (length v.keys) = omega arith in
        q.work ∙ ap (λ (u : Work). merge_all_in (rounds u) u) first_work ∙ ap (λ k. merge_all_in k (waiting (pack_pair (a, b) ∷ []) v)) e

    lowers : Fewer w₂ w₃
    lowers = record {
      kept = λ i h. kept_count l.kept i (omega arith);
      keys = omega (arith, kept_count l.kept 3 (omega arith));
      facts = omega (arith, kept_count l.kept 4 (omega arith));
    }

    fewest : Fewer w w₃
    fewest = fewer_then first_fewer (fewer_then q.fewer lowers)

    form : Formed lim w₃
    form = record {
      size = l.kept.size ∙ q.formed.size;
      created = omega (arith, fewest.kept 2 (omega arith), g.created);
      keys = omega (arith, fewest.keys, g.keys);
      facts = omega (arith, fewest.facts, g.facts);
    }

    -- Region by region, what lowering has left of them.
    keys₃ : part keys_at (get_or w₃ 3 0) w₃ ≡ part keys_at (get_or w₂ 3 0) w₂
    keys₃ = ap (λ j. part keys_at j w₃) (kept_count l.kept 3 (omega arith)) ∙ kept_before l.kept keys_at (get_or w₂ 3 0) (omega (arith, q.formed.keys))

    facts₃ : part (facts_at lim) (get_or w₃ 4 0) w₃ ≡ part (facts_at lim) (get_or w₂ 4 0) w₂
    facts₃ = ap (λ j. part (facts_at lim) j w₃) (kept_count l.kept 4 (omega arith)) ∙ kept_before l.kept (facts_at lim) (get_or w₂ 4 0) (omega (arith, q.formed.facts))

    depths₃ : part (depths_at lim) (get_or w₃ 2 0) w₃ ≡ (lowered_in (work_at lim (keys_room lim) w₂)).depths
    depths₃ = ap (λ j. part (depths_at lim) j w₃) (kept_count l.kept 2 (omega arith)) ∙ l.depths

    history₃ : part (history_at lim) lim.elements w₃ ≡ part (history_at lim) lim.elements w₂
    history₃ = kept_behind l.kept (history_at lim) lim.elements (omega (arith, q.formed.created))

    tables : Tables lim a b w w₃
    unfolding view_of merged_in
    tables = record {
      keys = keys₃ ∙ ap (λ (u : Work). (lowered_in u).keys) all;
      facts = facts₃ ∙ ap (λ (u : Work). (lowered_in u).facts) all;
      depths = depths₃ ∙ ap (λ (u : Work). (lowered_in u).depths) all;
      history = history₃ ∙ ap (λ (u : Work). (lowered_in u).history) all;
    }

-- ---- as the document has it

-- The sheet with a and b merged.
abbrev pub merged_sheet : ℕ → ℕ → Sheet → History → Sheet
merged_sheet a b x now = with_model (merge a b x.model now).0 x

all_created : (k : ℕ) (m : Model) (now : History) (ps : List Pair) → (merge_all k m now ps).0.created ≡ m.created
unfolding merge_all merge_into
all_created zero m now ps = refl
all_created (suc k) m now [] = refl
all_created (suc k) m now (p ∷ ps) =
    if_elim (λ (r : Model × History). r.0.created ≡ m.created) (eqb p.0 p.1) _ _ (λ _. all_created k m now ps) (λ _. all_created k _ _ _)

merge_created : (a b : ℕ) (m : Model) (now : History) → (merge a b m now).0.created ≡ m.created
unfolding merge lowered
merge_created a b m now = all_created (suc (length m.keys)) m now ((a, b) ∷ [])

module _ (lim : Limits) (a b : ℕ) (pa : a < 256) (pb : b < 256) (w w' : List ℕ) (form : Formed lim w') (f : Fewer w w') (t : Tables lim a b w w')
    (arity : ℕ → ℕ → ℕ) (x : Sheet) (now : History) (h : HoldsNow lim w x now) (r : Ready arity lim.elements x.model now) where
  before : work_in (view_of lim w) ≡ work_of lim.elements x.model now []
  before = λ i. record { keys = h.holds.shows.keys i; pairs = []; facts = h.holds.shows.facts i; depths = h.holds.shows.depths i; history = h.history i }

  after : Packs arity lim.elements (merged_in a b (work_of lim.elements x.model now [])) (merge a b x.model now)
  after = merge_is arity lim.elements a b x.model now [] r pa pb

  held : HoldsNow lim w' (merged_sheet a b x now) (merge a b x.model now).1
  unfolding view_of
  held = record {
    holds = record {
      formed = form;
      shows = record {
        number = f.kept 0 (omega arith) ∙ h.holds.shows.number;
        place = f.kept 1 (omega arith) ∙ h.holds.shows.place;
        created = f.kept 2 (omega arith) ∙ h.holds.shows.created ∙ sym (merge_created a b x.model now);
        keys = t.keys ∙ ap (λ (u : Work). (merged_in a b u).keys) before ∙ after.keys;
        facts = t.facts ∙ ap (λ (u : Work). (merged_in a b u).facts) before ∙ after.facts;
        depths = t.depths ∙ ap (λ (u : Work). (merged_in a b u).depths) before ∙ after.depths;
      };
    };
    history = t.history ∙ ap (λ (u : Work). (merged_in a b u).history) before ∙ after.history;
  }

-- What merging a and b makes of a form: for whatever sheet and history it holds, it holds the document's merge, ready for more.
pub record MergedForm (lim : Limits) (a b : ℕ) (w w' : List ℕ) : Type 0 where
  pub formed : Formed lim w'
  pub fewer : Fewer w w'
  pub tables : Tables lim a b w w'
  pub holds : (arity : ℕ → ℕ → ℕ) (x : Sheet) (now : History) → HoldsNow lim w x now → Ready arity lim.elements x.model now
      → HoldsNow lim w' (merged_sheet a b x now) (merge a b x.model now).1
  pub ready : (arity : ℕ → ℕ → ℕ) (x : Sheet) (now : History) → HoldsNow lim w x now → Ready arity lim.elements x.model now
      → Ready arity lim.elements (merge a b x.model now).0 (merge a b x.model now).1

pub merged_made : (lim : Limits) (a b : ℕ) → a < 256 → b < 256 → (w : List ℕ) → Formed lim w → (w₂ w₃ : List ℕ)
    → AllForm lim (lim.keys + lim.keys) (set w (keys_at + (lim.keys + lim.keys)) (a * 256 + b)) w₂
    → LoweredTo keys_at (get_or w₂ 3 0) (depths_at lim) (get_or w₂ 2 0) w₂ w₃ → MergedForm lim a b w w₃
merged_made lim a b pa pb w g w₂ w₃ q l =
    let o = form lim a b w g w₂ w₃ q l in
    let f = fewest lim a b w g w₂ w₃ q l in
    let t = tables lim a b w g w₂ w₃ q l in
    record {
      formed = o;
      fewer = f;
      tables = t;
      holds = held lim a b pa pb w w₃ o f t;
      ready = λ arity x now h r. (after lim a b pa pb w w₃ o f t arity x now h r).ready;
    }
