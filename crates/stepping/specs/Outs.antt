-- The ways out of the code of a step, in the numbers that the code has.
use Rattle.std.specs.Prelude.{◌≡◌, ℕ, ◌+◌, ◌*◌, ◌≤◌, ◌<◌, Bool, true, false, List, ◌∷◌, ◌++◌, Option, None, Some}
use Rattle.std.proofs.Common.{sym, ◌∙◌, subst}
use Rattle.std.proofs.Math.Path.{ap}
use native.Mathlib.Omega.{arith}
use lib.ListN.{length, get_or, take, drop}
use Rattle.rules.specs.Book.{rules}
use Rattle.rules.specs.Reading.{Bytes, num}
use Rattle.rules.specs.Fire.{firing}
use Rattle.rules.specs.Pool.{strategy_of, sheet_at, used}
use Rattle.rules.specs.Image.{part, pool_bytes}
use Rattle.rules.specs.Bound.{Bound}
use Rattle.rules.specs.Step.{Answer, refuse, done}
use Rattle.placing.specs.OneByOne.{free_count}
use Rattle.pools.specs.Count.{cnt_all}
use Rattle.pools.specs.Steps.{visited}
use Rattle.texts.specs.Names.{count_at}
use Rattle.sheets.specs.Load.{Loaded}
use Rattle.enter.specs.Grow.{Sturdy}
use Rattle.firing.specs.Answers.{Elements}
use Rattle.evaluate.specs.declared.Fired.{Fired}
use Rattle.evaluate.specs.Answers.{Answers}
use Rattle.evalforms.specs.Basis.{Evaluated}
use Rattle.children.specs.Derived.{AnyOver}
use Rattle.children.specs.Lent.{elements_kept}
use Rattle.lists.specs.Moves.{Finished}
use Rattle.adopting.specs.Slots.{Freed}
use Rattle.stepping.specs.Standing.{L, Standing, Stepped, few, shows, small, short, strategy_is, none_waits, first_waits, Based, based, slot_fits, neat, sturdy}
use Rattle.stepping.specs.Heads.{HeadAt, NextPlace, RoomFor}
use Rattle.stepping.specs.Ways.{step_none, step_done}
use Rattle.stepping.specs.Settling.{Settled}
use Rattle.stepping.specs.Branch.{Fires, HasFired, Branched, text_there, elements, branch_failed, branch_over, branch_full, branch_settled}

-- ---- a branch

module _ (text p : Bytes) (i q a : ℕ) (base env : List ℕ) (g : HasFired text p i q a base env) where
  abbrev z : Standing text p
  z = g.standing

  abbrev f : Fires text p z i q a base env
  f = g.fires

  pub sequent_inside : (a ≤ length text) × (length text ≤ 32768)
  sequent_inside = let t = text_there text p z i q a base env f in (omega (arith, t.0, t.1), short text p z)

  pub head_inside : (at : ℕ) → HeadAt text a at → at + 2 ≤ length text
  head_inside at h = let t = text_there text p z i q a base env f in let e = h f.at.sequent f.end f.at.stands f.at.fits in omega (arith, t.1)

  pub slot_inside : 208 + 2128 * i + 2128 ≤ length p
  slot_inside = slot_fits text p z i f.rest f.waiting

  pub base_sturdy : Sturdy L base
  base_sturdy = sturdy text p z i f.rest f.waiting base f.based

  pub choice_there : (v : ℕ) → v ≡ num text a → (env₁ : List ℕ) → 8 ≤ length env → length env₁ ≡ length env → take v env₁ ≡ take v env → Elements env₁ v
  choice_there v e env₁ l n t =
      elements_kept v env env₁ n t (subst (Elements env) (sym e) (elements text p z i q a base env f l))

module _ (text p : Bytes) (i q a : ℕ) (bd : Bound) (base env : List ℕ) (at n v : ℕ) (h : HeadAt text a at) (en : n ≡ num text at) (ev : v ≡ num text a) where
  pub out_failed : n ≡ 0 → (p' : Bytes) → Freed L i p p' → Branched text p i q a bd base env 0 p'
  out_failed e p' fr z f = branch_failed text p z i q a base env f at (h f.at.sequent f.end f.at.stands f.at.fits) bd (sym en ∙ e) p' fr

  module _ (no : n ≡ 0 → ⊥) (l : 8 ≤ length env) (o : Bool) (over : AnyOver text (at + 2) n v bd L env base o) where
    moved : (o' : Bool) → o ≡ o' → AnyOver text (at + 2) (num text at) (num text a) bd L env base o'
    moved o' e = subst (λ x. AnyOver text (at + 2) (num text at) (num text a) bd L env base x) e (subst (λ x. AnyOver text (at + 2) (num text at) x bd L env base o) ev (subst (λ x. AnyOver text (at + 2) x v bd L env base o) en over))

    pub out_over : o ≡ true → Branched text p i q a bd base env 15 p
    out_over e z f = branch_over text p z i q a base env f at (h f.at.sequent f.end f.at.stands f.at.fits) bd (λ x. no (en ∙ x)) l (moved true e)

    module _ (e : o ≡ false) (r : ℕ) (room : RoomFor p n r) where
      room' : RoomFor p (num text at) r
      room' = subst (λ x. RoomFor p x r) en room

      pub out_full : (r ≡ 0 → ⊥) → Branched text p i q a bd base env r p
      out_full w z f = branch_full text p z i q a base env f at (h f.at.sequent f.end f.at.stands f.at.fits) bd (λ x. no (en ∙ x)) l (moved false e) r room' w

      pub out_settled : r ≡ 0 → (k : ℕ) → NextPlace (strategy_of (get_or p 6 0)) q (num text (count_at text)) k → (env₁ : List ℕ) → length env₁ ≡ length env → take v env₁ ≡ take v env
          → (p' : Bytes) → Settled text i (at + 2) n v bd k env₁ base p p' → Branched text p i q a bd base env 0 p'
      out_settled w k np env₁ n₁ t p' st z f =
          branch_settled text p z i q a base env f at (h f.at.sequent f.end f.at.stands f.at.fits) bd (λ x. no (en ∙ x)) l (moved false e) r room' w k np env₁
          (omega arith) (subst (λ x. take x env₁ ≡ take x env) ev t) p'
          (subst (λ x. Settled text i (at + 2) (num text at) x bd k env₁ base p p') ev (subst (λ x. Settled text i (at + 2) x v bd k env₁ base p p') en st))

-- ---- a step

module _ (text p : Bytes) (bd : Bound) where
  pub out_none : get_or p 12 0 ≡ 0 → Stepped text bd p 14 p
  unfolding refuse
  out_none e z =
      let s = step_none L bd (rules z.book) z.state (none_waits text p z e) in
      (ap (λ (x : Answer). x.refusal) (sym s), z.image ∙ ap (λ (x : Answer). pool_bytes L x.state) (sym s))

  module _ (some : get_or p 12 0 ≡ 0 → ⊥) where
    abbrev i : ℕ
    i = get_or p 16 0

    abbrev rest : Standing text p → List ℕ
    rest z = drop 1 z.state.waiting

    abbrev waits : (z : Standing text p) → z.state.waiting ≡ i ∷ rest z
    waits z = first_waits text p z some

    pub first_inside : Standing text p → 208 + 2128 * i + 2128 ≤ length p
    first_inside z = slot_fits text p z i (rest z) (waits z)

    module _ (base : List ℕ) (l : Loaded L (part (208 + 2128 * i) 2128 p) base) where
      pub on_base : (z : Standing text p) → Based text p z i (rest z) (waits z) base
      on_base z = based text p z i (rest z) (waits z) base l

      module _ (env : List ℕ) (r : Option Fired) (ev : Evaluated text (strategy_of (get_or p 6 0)) L base r env) where
        answered : (z : Standing text p) → Answers text (firing (sheet_at z.state i).model (visited (rules z.book) z.state i)) env r
        answered z =
            subst (λ k. Answers text (firing (sheet_at z.state i).model (Rattle.rules.specs.Fire.visits (strategy_of k) (sheet_at z.state i).place (rules z.book))) env r) (strategy_is text p z)
            (ev z.book z.end z.reads (sheet_at z.state i) (on_base z).holds (small text p z) (neat text p z i (rest z) (waits z)) (omega arith))

        pub fires_at : (f : Fired) → r ≡ Some f → (z : Standing text p) → Fires text p z i f.number f.at base env
        fires_at f x z = record { rest = rest z; waiting = waits z; based = on_base z; end = f.end; at = subst (Answers text _ env) x (answered z) }

        pub out_done : r ≡ None → (p' : Bytes) → Finished p p' → Stepped text bd p 0 p'
        unfolding done used
        out_done x p' fin z =
            let s = step_done L bd (rules z.book) z.state i (rest z) (waits z) (subst (Answers text _ env) x (answered z)) in
            (ap (λ (y : Answer). y.refusal) (sym s), fin L z.state (shows text p z) i (rest z) (waits z) full ∙ ap (λ (y : Answer). pool_bytes L y.state) (sym s))
          where
            full : length z.state.complete < 64
            full =
                let c = free_count z.state z.tidy.once (cnt_all (λ j. j < length z.state.slots) (used z.state) z.tidy.there) in
                let w = ap length (waits z) in
                let m = few text p z in
                let u = lib.ListN.length-append z.state.waiting (z.state.complete ++ z.state.bounded) in
                let v = lib.ListN.length-append z.state.complete z.state.bounded in
                omega arith

        pub out_branch : (f : Fired) → r ≡ Some f → (n : ℕ) (p' : Bytes) → Branched text p i f.number f.at bd base env n p' → Stepped text bd p n p'
        out_branch f x n p' b z = b z (fires_at f x z)
