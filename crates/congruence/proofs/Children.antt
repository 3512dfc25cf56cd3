-- Where another way of merging does what `merge` does, the children of a step are the same; and the Rust's way does.
use Rattle.std.specs.Prelude.{◌≡◌, ℕ, true, ◌||◌, length}
use Rattle.std.proofs.Math.Path.{refl, ap}
use Rattle.std.proofs.Common.{sym, ◌∙◌, subst, le_refl}
use Rattle.std.proofs.Math.Option.{some}
use mathlib.Core.List.{List, [], ◌∷◌, map}
use Rattle.std.proofs.Math.Dec.{T}
use Rattle.base.specs.Branch.{if}
use Rattle.base.specs.Lists.{All}
use Rattle.base.specs.BranchLaws.{if_elim}
use Rattle.base.specs.ListLaws.{all_all, all_any, map_agree}
use Rattle.rules.specs.Book.{Literal, fact, same, Disjunct, Names, Book, rules}
use Rattle.rules.specs.Reading.{Bytes, read_book, got}
use Rattle.rules.specs.Sheet.{Entry, Model, domain, known, Limits}
use Rattle.rules.specs.Look.{Meaning, head_meanings, observed}
use Rattle.rules.specs.Fire.{Firing, firing, Strategy, visits}
use Rattle.rules.specs.Bound.{Bound, History, terms_of, admitted}
use Rattle.rules.specs.Merge.{Pair, merge}
use Rattle.rules.specs.Child.{enter, Child, too_big, recorded, tell, tells, child}
use Rattle.rules.specs.Sound.{sound_model}
use Rattle.laws.specs.Firing.{visits_within, firing_is}
use Rattle.laws.specs.MergeBy.{Orders, EachReorders, merge_by}
use Rattle.soundness.specs.Tools.{Yields, Yielded, known_yielded, yielded_known}
use Rattle.soundness.specs.Neat.{Neat}
use Rattle.soundness.specs.Model.{sound_neat}
use Rattle.soundness.specs.Book.{WfLiteral, WfDisjunct, WfSequent, read_wf}
use Rattle.soundness.specs.Enter.{Tidy, Means, enter_entered}
use Rattle.soundness.specs.Child.{Good, tell_good, head_means, head_length, domain_known}
use Rattle.congruence.proofs.Merged.{merge_any_order}
use Rattle.congruence.specs.History.{Living}
use Rattle.congruence.proofs.History.{enter_living, enters_living, merge_living}
use Rattle.congruence.specs.Rust.{rust_merge}
use Rattle.congruence.proofs.Rust.{rust_is_merge}
use Rattle.congruence.specs.Children.{Merging, child_by, recorded_by, tell_by, tells_by}

-- ---- where it merges what `merge` does, the children are the same

-- A sheet's own sizes.
abbrev sizes : Model → Limits
sizes m = record { elements = m.created; keys = length m.keys; facts = length m.facts }

tidy_neat : (d : Names) (B : ℕ → Type 0) (now : History) (m : Model) → Tidy d B now m → Neat (sizes m) d m
tidy_neat d B now m g = record { small = record { few_created = le_refl _; few_keys = le_refl _; few_facts = le_refl _ }; listed = g.listed; linked = g.linked }

-- On every neat sheet and any two of its elements, with a history that takes elements to themselves, it is `merge`.
abbrev Merges : Merging → Type 0
Merges join = (lim : Limits) (d : Names) (m : Model) → Neat lim d m → (a b : ℕ) → T (known m a) → T (known m b) → (now : History) → Living now m → join a b m now ≡ merge a b m now

module _ (join : Merging) (g : Merges join) where
  module _ (lim : Limits) (bd : Bound) (d : Names) (B : ℕ → Type 0) (env : List Meaning) (means : All (Means d B) env) where
    -- A child on its way, with its history.
    abbrev OnTheWay : Child → Type 0
    OnTheWay k = Good lim d B k × Living k.now k.model

    -- The identity's two terms are recorded, and the merge is of two elements of a neat sheet.
    recorded_by_lem : (l : Literal) (k : Child) → WfLiteral d (length env) l → OnTheWay k
        → (recorded_by join lim env l k ≡ recorded lim env l k) × Living (recorded lim env l k).now (recorded lim env l k).model
    unfolding recorded_by recorded
    recorded_by_lem (fact r ts) k w t = let v = enters_living k.now env ts k.model t.1 in (refl, record { twice = v.twice; own = v.own; new = v.new })
    recorded_by_lem (same s u) k w t =
        let q = enter_entered d B k.now env means s k.model w.0 t.0.tidy in
        let p = enter_entered d B k.now env means u (enter s k.model k.now env).0 w.1 q.tidy in
        let m = (enter u (enter s k.model k.now env).0 k.now env).0 in
        let n = tidy_neat d B k.now m p.tidy in
        let kx = yielded_known m _ (p.stay _ q.yields.0) in
        let ky = yielded_known m _ p.yields.0 in
        let v = enter_living k.now env u _ (enter_living k.now env s k.model t.1) in
        let e = g (sizes m) d m n _ _ kx ky k.now v in
        (λ i. record { model = (e i).0; now = (e i).1; cut = k.cut; over = k.over || too_big lim m }, merge_living (sizes m) d m n _ _ kx ky k.now v)

    tell_by_lem : (l : Literal) (k : Child) → WfLiteral d (length env) l → OnTheWay k → tell_by join lim bd env l k ≡ tell lim bd env l k
    unfolding tell_by tell
    tell_by_lem l k w t =
        let e = (recorded_by_lem l k w t).0 in
        λ i. if (admitted bd (length (domain k.model)) (terms_of l) k.model k.now env)
        (λ _. if (observed k.model env l) (λ _. k) (λ _. e i)) (λ _. record { model = k.model; now = k.now; cut = true; over = k.over })

    tell_living : (l : Literal) (k : Child) → WfLiteral d (length env) l → OnTheWay k → Living (tell lim bd env l k).now (tell lim bd env l k).model
    unfolding tell
    tell_living l k w t =
        if_elim (λ (c : Child). Living c.now c.model) _ _ _
        (λ _. if_elim (λ (c : Child). Living c.now c.model) _ _ _ (λ _. t.1) (λ _. (recorded_by_lem l k w t).1)) (λ _. t.1)

    tells_by_lem : (ls : List Literal) (k : Child) → All (WfLiteral d (length env)) ls → OnTheWay k → tells_by join lim bd env ls k ≡ tells lim bd env ls k
    unfolding tells_by tells
    tells_by_lem [] k w t = refl
    tells_by_lem (l ∷ ls) k w t =
        ap (tells_by join lim bd env ls) (tell_by_lem l k w.0 t)
        ∙ tells_by_lem ls (tell lim bd env l k) w.1 (tell_good lim d B env means bd l k w.0 t.0, tell_living l k w.0 t)

  -- Of a neat sheet, at a choice of its elements.
  child_by_lem : (lim : Limits) (bd : Bound) (d : Names) (m : Model) (c : List ℕ) (j : Disjunct) → Neat lim d m → All (λ e. T (known m e)) c → WfDisjunct d (length c) j
      → child_by join lim bd m c j ≡ child lim bd m c j
  unfolding child_by child
  child_by_lem lim bd d m c j n a w =
      let Y = Yielded m.keys in
      tells_by_lem lim bd d Y (head_meanings c j) (head_means d Y c (all_all (λ e. T (known m e)) Y (known_yielded m) c a) j w.0) j.literals _
      (subst (λ z. All (WfLiteral d z) j.literals) (sym (head_length c j)) w.1) (
        record { tidy = record { listed = n.listed; linked = n.linked; follows = λ e y. y }; small = λ _. n.small },
        record { twice = λ e. refl; own = all_any (Yields (λ v. v ≡ v)) (λ _. refl) m.keys; new = λ e _. refl },
      )

  -- All children of a step on a sound sheet: a book that was read, any bound, strategy and place, and what fires there.
  children_by : (book : Bytes) (b : Book) (e : ℕ) → read_book book ≡ got b e → (lim : Limits) (bd : Bound) (m : Model) → T (sound_model lim b.names m)
      → (st : Strategy) (place : ℕ) (f : Firing) → firing m (visits st place (rules b)) ≡ some f
      → map (child_by join lim bd m f.choice) f.sequent.head ≡ map (child lim bd m f.choice) f.sequent.head
  children_by book b e r lim bd m t st place f q =
      let vs = visits st place (rules b) in
      let w = firing_is (λ e. T (known m e)) (λ x. WfSequent b.names x.1) m (domain_known m) vs (visits_within st place (rules b) (WfSequent b.names) (read_wf book b e r)) f q in
      map_agree (WfDisjunct b.names f.sequent.free) (child_by join lim bd m f.choice) (child lim bd m f.choice)
      (λ j v. child_by_lem lim bd b.names m f.choice j (sound_neat lim b.names m t) w.chosen.1 (subst (λ n. WfDisjunct b.names n j) (sym w.chosen.0) v))
      f.sequent.head w.visited.1

-- ---- so by any order, and by the Rust's rounds

module _ (book : Bytes) (b : Book) (e : ℕ) (r : read_book book ≡ got b e) (lim : Limits) (bd : Bound) (m : Model) (t : T (sound_model lim b.names m))
    (st : Strategy) (place : ℕ) (f : Firing) (q : firing m (visits st place (rules b)) ≡ some f) where
  pub children_any_order : (order : Orders Entry) (next : Orders Pair) → EachReorders order → EachReorders next
      → map (child_by (merge_by order next) lim bd m f.choice) f.sequent.head ≡ map (child lim bd m f.choice) f.sequent.head
  children_any_order order next ro rn =
      children_by (merge_by order next) (λ l d n g x y kx ky now _. merge_any_order l d n g x y kx ky now order next ro rn) book b e r lim bd m t st place f q

  pub children_rust : map (child_by rust_merge lim bd m f.choice) f.sequent.head ≡ map (child lim bd m f.choice) f.sequent.head
  children_rust = children_by rust_merge rust_is_merge book b e r lim bd m t st place f q
