-- What recording keeps: a fact more leaves a sheet tidy; merging leaves the tables of a form rising and the sheet tidy; a form that
-- carries a model is not too big.
use Rattle.std.specs.Prelude.{◌≡◌, refl, ℕ, zero, suc, ◌/◌, ◌%◌, min, max, false, List, [], ◌∷◌, length, eqb}
use Rattle.std.proofs.Common.{sym, subst, le-ltb}
use Rattle.base.specs.Lists.{All, from}
use Rattle.base.specs.BranchLaws.{if_elim, case_l_elim}
use Rattle.rules.specs.Book.{Names}
use Rattle.rules.specs.Sheet.{Model, Sheet, Limits}
use Rattle.rules.specs.Bound.{History}
use Rattle.rules.specs.Merge.{merge}
use Rattle.rules.specs.Child.{too_big}
use Rattle.images.specs.Storable.{Octet}
use Rattle.soundness.specs.Neat.{Small}
use Rattle.packing.specs.Pack.{arity_of}
use Rattle.tables.specs.Table.{Rising}
use Rattle.filing.specs.File.{refile_rises, refact_rises, rising_sorted}
use Rattle.filing.specs.Carry.{pack_pair}
use Rattle.joining.specs.Work.{Work, waiting, into_in, next_in, merge_all_in}
use Rattle.joining.specs.Carry.{merged_in}
use Rattle.joining.specs.Carry as joining
use Rattle.merge.specs.Held.{HoldsNow}
use Rattle.merge.specs.Into.{Orderly}
use Rattle.merge.specs.Merged.{work_in, MergedForm}
use Rattle.look.specs.Shown.{neat_keys_fit, neat_facts_shown}
use Rattle.sheets.specs.Form.{view_of}
use Rattle.enter.specs.Grow.{Sturdy}
use Rattle.enter.specs.Keep.{Carries}
use Rattle.enter.specs.Marks.{Holding}

-- ---- sizes

pub small_fits : (lim : Limits) (m : Model) → Small lim m → too_big lim m ≡ false
unfolding too_big
small_fits lim m s =
    rw (le-ltb lim.elements m.created s.few_created, le-ltb lim.keys (length m.keys) s.few_keys, le-ltb lim.facts (length m.facts) s.few_facts)

-- ---- a merge

pub sturdy_orderly : (lim : Limits) (w : List ℕ) → Sturdy lim w → Orderly lim w
unfolding view_of
sturdy_orderly lim w s = record { even = s.even; keys = rising_sorted _ s.rising; facts = rising_sorted _ s.held }

abbrev Rises : Work → Type 0
Rises v = Rising v.keys × Rising v.facts

into_rises : (s l : ℕ) (v : Work) → Rises (into_in s l v)
unfolding into_in Rising
into_rises s l v = (refile_rises _ ([], _) tt, refact_rises _ [] tt)

all_rises : (n : ℕ) (v : Work) → Rises v → Rises (merge_all_in n v)
unfolding merge_all_in next_in
all_rises zero v g = g
all_rises (suc n) v g = case_l_elim Rises v.pairs _ _ (λ _. g) (λ p ps _. all_rises n _
    (if_elim Rises (eqb (p / 256) (p % 256)) _ _ (λ _. g) (λ _. into_rises (min (p / 256) (p % 256)) (max (p / 256) (p % 256)) (waiting ps v))))

pub merged_sturdy : (lim : Limits) (a b : ℕ) (w w' : List ℕ) → Sturdy lim w → MergedForm lim a b w w' → Sturdy lim w'
unfolding merged_in
merged_sturdy lim a b w w' s g =
    let r = all_rises (suc (length (view_of lim w).keys)) (waiting (pack_pair (a, b) ∷ []) (work_in (view_of lim w))) (s.rising, s.held) in
    record { formed = g.formed; few = s.few; even = s.even; rising = subst Rising (sym g.tables.keys) r.0; held = subst Rising (sym g.tables.facts) r.1 }

-- What each element is now is below 256.
abbrev pub Digits : Limits → History → Type 0
Digits lim now = All (λ e. Octet (now e)) (from 0 lim.elements)

module _ (lim : Limits) (d : Names) (w w' : List ℕ) (m : Model) (now : History) (h : Holding lim d w m now) (o : Digits lim now) (a b : ℕ) (g : MergedForm lim a b w w') where
  abbrev sheet : Sheet
  sheet = record { number = (view_of lim w).number; place = (view_of lim w).place; model = m }

  holds : HoldsNow lim w sheet now
  holds = record {
    holds = record {
      formed = h.carries.formed;
      shows = record { number = refl; place = refl; created = h.carries.created; keys = h.carries.keys; facts = h.carries.facts; depths = h.carries.depths };
    };
    history = h.carries.history;
  }

  ready : joining.Ready (arity_of d) lim.elements m now
  ready = record {
    keys = neat_keys_fit d h.small lim m h.neat h.few;
    facts = (neat_facts_shown d h.small lim m h.neat h.few (view_of lim w).facts h.carries.facts).facts_fit;
    history = o;
  }

  pub merged_carries : Carries lim w' (merge a b m now).0 (merge a b m now).1
  merged_carries =
      let r = g.holds (arity_of d) sheet now holds ready in
      let s = r.holds.shows in
      record { formed = g.formed; created = s.created; keys = s.keys; facts = s.facts; depths = s.depths; history = r.history }

  pub merged_digits : Digits lim (merge a b m now).1
  merged_digits = (g.ready (arity_of d) sheet now holds ready).history
