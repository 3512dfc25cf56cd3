-- The ways out of the definition of a step.
use Rattle.std.proofs.Math.Path.{◌≡◌, refl, ap}
use Rattle.std.proofs.Common.{sym, ◌∙◌, arith}
use Prim.Native.Nat.{ℕ, suc, ◌+◌, ◌≤◌, ◌<◌}
use Rattle.std.specs.Prelude.{Bool}
use Rattle.std.proofs.Math.Bool.{true, false}
use Rattle.std.proofs.Math.Option.{Option, none, some}
use mathlib.Core.List.{List, [], ◌∷◌, ◌++◌}
use Rattle.std.proofs.Math.ListN.{length}
use Rattle.std.proofs.Math.Dec.{ltb}
use borrow.Author.Tests.{ltb-false}
use Rattle.base.specs.Branch.{if, case_o, case_l}
use Rattle.base.specs.Lists.{any, is_nil}
use Rattle.rules.specs.Book.{Disjunct, Sequent}
use Rattle.rules.specs.Sheet.{Limits}
use Rattle.rules.specs.Fire.{Firing, firing, place_after}
use Rattle.rules.specs.Pool.{State, numbers, sheet_at, free, changed}
use Rattle.rules.specs.Bound.{Bound}
use Rattle.rules.specs.Child.{Child}
use Rattle.rules.specs.Step.{placed, Answer, refuse, done, with_placed, without_base, with_children, step_on, step}
use Rattle.pools.specs.Steps.{strategy_in, visited, kids_of}
use Rattle.stepping.specs.Heads.{room_of}

module _ (lim : Limits) (bd : Bound) (rs : List Sequent) (s : State) where
  pub step_none : s.waiting ≡ [] → step lim bd rs s ≡ refuse 14 s
  unfolding step case_l
  step_none e = ap (λ (w : List ℕ). case_l w (λ _. refuse 14 s) (λ i ws. step_on lim bd rs s i ws)) e

  module _ (i : ℕ) (ws : List ℕ) (w : s.waiting ≡ i ∷ ws) where
    steps_on : step lim bd rs s ≡ step_on lim bd rs s i ws
    unfolding step case_l
    steps_on = ap (λ (w : List ℕ). case_l w (λ _. refuse 14 s) (λ i ws. step_on lim bd rs s i ws)) w

    abbrev kids_answer : Firing → Answer
    kids_answer f = with_children s i ws (place_after (strategy_in s) f.index (length rs)) (kids_of lim bd s i f)

    abbrev answer_to : Option Firing → Answer
    answer_to o = case_o o (λ _. done (changed s s.next ws (s.complete ++ (i ∷ [])) s.bounded s.slots))
        (λ f. if (is_nil f.sequent.head) (λ _. done (without_base s i ws)) (λ _. kids_answer f))

    answered : step lim bd rs s ≡ answer_to (firing (sheet_at s i).model (visited rs s i))
    unfolding step_on
    answered = steps_on

    pub step_done : firing (sheet_at s i).model (visited rs s i) ≡ none → step lim bd rs s ≡ done (changed s s.next ws (s.complete ++ (i ∷ [])) s.bounded s.slots)
    unfolding case_o
    step_done e = answered ∙ ap answer_to e

    module _ (f : Firing) (e : firing (sheet_at s i).model (visited rs s i) ≡ some f) where
      fired : step lim bd rs s ≡ if (is_nil f.sequent.head) (λ _. done (without_base s i ws)) (λ _. kids_answer f)
      unfolding case_o
      fired = answered ∙ ap answer_to e

      pub step_failed : f.sequent.head ≡ [] → step lim bd rs s ≡ done (without_base s i ws)
      unfolding if
      step_failed n = fired ∙ ap (λ (h : List Disjunct). if (is_nil h) (λ _. done (without_base s i ws)) (λ _. kids_answer f)) n

      pub step_kids : 0 < length f.sequent.head → step lim bd rs s ≡ with_children s i ws (place_after (strategy_in s) f.index (length rs)) (kids_of lim bd s i f)
      unfolding if
      step_kids l = fired ∙ go f.sequent.head l
        where
          go : (h : List Disjunct) → 0 < length h → if (is_nil h) (λ _. done (without_base s i ws)) (λ _. kids_answer f) ≡ kids_answer f
          go [] z = absurd (omega arith)
          go (d ∷ ds) z = refl

-- ---- children

module _ (s : State) (i : ℕ) (ws : List ℕ) (place : ℕ) (ks : List Child) where
  abbrev over : Bool
  over = any (λ (k : Child). k.over) ks

  abbrev stored : Answer
  stored = with_placed (without_base s i ws) (placed (free (without_base s i ws)) place s.next ks)

  abbrev small : Bool → Answer
  small o = if o (λ _. refuse 15 s) (λ _. if (ltb (suc (length (free s))) (length ks)) (λ _. refuse 16 s) (λ _. if (ltb numbers (s.next + length ks)) (λ _. refuse 17 s) (λ _. stored)))

  pub kids_over : true ≡ over → with_children s i ws place ks ≡ refuse 15 s
  unfolding with_children if
  kids_over e = ap small (sym e)

  module _ (o : false ≡ over) where
    pub kids_full : (r : ℕ) → r ≡ room_of s (length ks) → (r ≡ 0 → ⊥) → with_children s i ws place ks ≡ refuse r s
    unfolding with_children if room_of
    kids_full r e n = ap small (sym o) ∙ go (ltb (suc (length (free s))) (length ks)) (ltb numbers (s.next + length ks)) e
      where
        go : (a b : Bool) → r ≡ if a (λ _. 16) (λ _. if b (λ _. 17) (λ _. 0)) → if a (λ _. refuse 16 s) (λ _. if b (λ _. refuse 17 s) (λ _. stored)) ≡ refuse r s
        go true b q = ap (λ k. refuse k s) (sym q)
        go false true q = ap (λ k. refuse k s) (sym q)
        go false false q = absurd (n q)

    pub kids_placed : 0 ≡ room_of s (length ks) → (with_children s i ws place ks ≡ stored) × ((length ks ≤ suc (length (free s))) × (s.next + length ks ≤ numbers))
    unfolding with_children if room_of
    kids_placed e = go (ltb (suc (length (free s))) (length ks)) refl (ltb numbers (s.next + length ks)) refl e
      where
        go : (a : Bool) → ltb (suc (length (free s))) (length ks) ≡ a → (b : Bool) → ltb numbers (s.next + length ks) ≡ b → ◌≡◌ {A = ℕ} 0 (if a (λ _. 16) (λ _. if b (λ _. 17) (λ _. 0)))
            → (with_children s i ws place ks ≡ stored) × ((length ks ≤ suc (length (free s))) × (s.next + length ks ≤ numbers))
        go true p b q z = absurd (omega arith)
        go false p true q z = absurd (omega arith)
        go false p false q z = (
          ap small (sym o) ∙ ap (λ (x : Bool). if x (λ _. refuse 16 s) (λ _. if (ltb numbers (s.next + length ks)) (λ _. refuse 17 s) (λ _. stored))) p
              ∙ ap (λ (x : Bool). if x (λ _. refuse 17 s) (λ _. stored)) q,
          (ltb-false (suc (length (free s))) (length ks) p, ltb-false numbers (s.next + length ks) q),
        )
