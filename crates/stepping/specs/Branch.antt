-- A sequent that fired on the base: what code has of it, and the ways out.
use Rattle.std.specs.Prelude.{◌≡◌, ℕ, zero, suc, ◌+◌, ◌≤◌, ◌<◌, Bool, not, get_or, take, drop}
use Rattle.std.proofs.Math.Path.{refl, sym, ap, ap₂}
use Rattle.std.proofs.Common.{◌∙◌, subst, le_trans, arith}
use Rattle.std.proofs.Math.Bool.{true, false}
use mathlib.Core.List.{List, [], ◌∷◌, map}
use Rattle.std.proofs.Math.ListN.{length, length-map}
use Rattle.std.proofs.Math.Dec.{T}
use Rattle.base.specs.Lists.{All, any}
use Rattle.base.specs.ListLaws.{all_all, all_both, all_append, all_take, all_drop}
use Rattle.rules.specs.Book.{Disjunct, Sequent, completed_disjunct, completed, rules}
use Rattle.rules.specs.Reading.{Bytes, num}
use Rattle.rules.specs.Sheet.{Model, known, limits}
use Rattle.rules.specs.Fire as fire
use Rattle.rules.specs.Fire.{firing, visits, place_after, places, numbered, linear, fair, Strategy}
use Rattle.rules.specs.Pool.{State, strategy_of, numbers, sheet_at, used, free}
use Rattle.rules.specs.Image.{pool_bytes}
use Rattle.rules.specs.Bound.{Bound}
use Rattle.rules.specs.Child.{Child, child}
use Rattle.rules.specs.Sound.{sound_model}
use Rattle.rules.specs.Step.{Answer, refuse, done, placed, with_placed, without_base, with_children}
use Rattle.laws.specs.Firing.{Fired, firing_is, visits_within}
use Rattle.soundness.specs.Tools.{known_yielded}
use Rattle.soundness.specs.Join.{yielded_low}
use Rattle.soundness.specs.Child.{domain_known}
use Rattle.pools.specs.Count.{cnt_all}
use Rattle.pools.specs.Slots.{free_more}
use Rattle.pools.specs.Tidy.{places_of}
use Rattle.pools.specs.Steps.{strategy_in, visited, same_length, place_right, none_over}
use Rattle.pools.specs.Steps as pools
use Rattle.demands.specs.Kept.{kids_sound}
use Rattle.texts.specs.Names.{names_in, count_at}
use Rattle.texts.specs.Parts.{sequent_grows}
use Rattle.firing.specs.Answers.{Elements}
use Rattle.evaluate.specs.Answers.{FiresAt}
use Rattle.children.specs.Derived.{Parent, DisjunctsHere, AnyOver}
use Rattle.adopting.specs.Slots.{Freed}
use Rattle.offspring.specs.All.{Good, kids_of}
use Rattle.stepping.specs.Standing.{L, Standing, Went, ground, few, shows, small, strategy_is, count_is, Based, inside, neat, model_sound, carries}
use Rattle.stepping.specs.Heads.{NextPlace, RoomFor, room_of}
use Rattle.stepping.specs.Ways.{step_failed, step_kids, kids_over, kids_full, kids_placed}
use Rattle.stepping.specs.Settling.{Parting, Settled}

-- Sequent q, which stands at a, fires on the sheet in slot i, the first that waits and whose working form base is.
pub record Fires (text p : Bytes) (z : Standing text p) (i q a : ℕ) (base env : List ℕ) : Type 0 where
  pub rest : List ℕ
  pub waiting : z.state.waiting ≡ i ∷ rest
  pub based : Based text p z i rest waiting base
  pub end : ℕ
  pub at : FiresAt text (firing (sheet_at z.state i).model (visited (rules z.book) z.state i)) env q a end

pub record HasFired (text p : Bytes) (i q a : ℕ) (base env : List ℕ) : Type 0 where
  pub standing : Standing text p
  pub fires : Fires text p standing i q a base env

pub has_fired : (text p : Bytes) (i q a : ℕ) (base env : List ℕ) (z : Standing text p) → Fires text p z i q a base env → HasFired text p i q a base env
has_fired text p i q a base env z f = record { standing = z; fires = f }

abbrev pub Branched : Bytes → Bytes → ℕ → ℕ → ℕ → Bound → List ℕ → List ℕ → ℕ → Bytes → Type 0
Branched text p i q a bd base env r p' = (z : Standing text p) → Fires text p z i q a base env → Went text p z bd r p'

-- ---- numbers of visits

numbered_low : (k : ℕ) (rs : List Sequent) → All (λ (x : ℕ × Sequent). x.0 < k + length rs) (numbered k rs)
unfolding numbered
numbered_low k [] = tt
numbered_low k (r ∷ rs) = (omega arith, all_all (λ (x : ℕ × Sequent). x.0 < suc k + length rs) (λ (x : ℕ × Sequent). x.0 < k + suc (length rs)) (λ x l. omega arith) (numbered (suc k) rs) (numbered_low (suc k) rs))

all_numbers : (rs : List Sequent) → All (λ (x : ℕ × Sequent). x.0 < length rs) (numbered 0 rs)
all_numbers rs = let e : 0 + length rs ≡ length rs = omega arith in subst (λ k. All (λ (x : ℕ × Sequent). x.0 < k) (numbered 0 rs)) e (numbered_low 0 rs)

visits_low : (st : Strategy) (p : ℕ) (rs : List Sequent) → All (λ (x : ℕ × Sequent). x.0 < length rs) (visits st p rs)
unfolding visits
visits_low linear p rs = all_numbers rs
visits_low fair p rs = all_append (λ (x : ℕ × Sequent). x.0 < length rs) (drop p (numbered 0 rs)) (take p (numbered 0 rs)) (all_drop (λ (x : ℕ × Sequent). x.0 < length rs) p (numbered 0 rs) (all_numbers rs)) (all_take (λ (x : ℕ × Sequent). x.0 < length rs) p (numbered 0 rs) (all_numbers rs))

within : (b : Bool) → T (not b) → b ≡ false
within true t = absurd t
within false t = refl

module _ (text p : Bytes) (z : Standing text p) (i q a : ℕ) (base env : List ℕ) (f : Fires text p z i q a base env) where
  abbrev s : State
  s = z.state

  abbrev m : Model
  m = (sheet_at s i).model

  abbrev sq : Sequent
  sq = f.at.sequent

  abbrev fired : fire.Firing
  fired = record { index = q; sequent = completed sq; choice = take sq.free env }

  what : Fired (λ e. T (known m e)) (λ (x : ℕ × Sequent). x.0 < length (rules z.book)) m fired
  what = firing_is (λ e. T (known m e)) (λ (x : ℕ × Sequent). x.0 < length (rules z.book)) m (domain_known m) (visited (rules z.book) s i)
      (visits_low (strategy_in s) (sheet_at s i).place (rules z.book)) fired f.at.is

  pub index_low : q < num text (count_at text)
  index_low = let l = what.visited in let n = same_length z.book in let c = count_is text z.book z.end z.reads in omega arith

  -- ---- the sequent's text

  pub free_is : num text a ≡ sq.free
  free_is = f.at.stands.free

  pub text_there : (a + 4 ≤ f.at.stands.middle) × (f.at.stands.middle + 2 ≤ length text)
  text_there = let g = sequent_grows (names_in text) text a sq f.end f.at.stands in let h = f.at.fits in (g.0, omega arith)

  pub chosen : All (λ e. T (known m e)) (take (num text a) env)
  chosen = subst (λ v. All (λ e. T (known m e)) (take v env)) (sym free_is) what.chosen.1

  pub elements : 8 ≤ length env → Elements env (num text a)
  elements l =
      let n = neat text p z i f.rest f.waiting in
      let k = f.at.rule.few in
      let e = free_is in
      (omega arith, all_all (λ e. T (known m e)) (λ e. e < 256) (λ e t. let y = yielded_low m n.linked e (known_yielded m e t) in let c = n.small.few_created in omega arith) (take (num text a) env) chosen)

  pub parent : (env₁ : List ℕ) → take (num text a) env₁ ≡ take (num text a) env → Parent text L base m (take (num text a) env₁)
  parent env₁ e = record {
    small = small text p z;
    neat = neat text p z i f.rest f.waiting;
    carries = carries text p z i f.rest f.waiting base f.based;
    chosen = subst (All (λ e. T (known m e))) (sym e) chosen;
  }

  module _ (at : ℕ) (is : at ≡ f.at.stands.middle) where
    pub here : (env₁ : List ℕ) → 8 ≤ length env₁ → DisjunctsHere text (at + 2) (num text at) (length env₁) (num text a) sq.head f.end
    here env₁ l = subst (λ k. DisjunctsHere text (k + 2) (num text k) (length env₁) (num text a) sq.head f.end) (sym is) (record {
      wf = subst (λ v. All (WfD v) sq.head) (sym free_is) f.at.rule.wf.1;
      few = all_all (λ (d : Disjunct). length d.origins ≤ 4) (λ (d : Disjunct). num text a + length d.origins ≤ length env₁)
          (λ d k. let v = f.at.rule.few in let e = free_is in omega arith) sq.head f.at.rule.few_origins;
      stand = f.at.stands.head;
      counted = sym f.at.stands.head_count;
      fits = f.at.fits;
    })
      where
        WfD : ℕ → Disjunct → Type 0
        WfD = Rattle.soundness.specs.Book.WfDisjunct (names_in text)

    pub head_count_lem : num text at ≡ length sq.head
    head_count_lem = ap (num text) is ∙ f.at.stands.head_count

    module _ (bd : Bound) where
      abbrev kids : List Child
      kids = kids_of bd L (num text a) (take (num text a) env) m sq.head

      -- The definition's children are those.
      kids_are : pools.kids_of L bd s i fired ≡ kids
      unfolding completed
      kids_are = ap (λ v. kids_of bd L v (take v env) m sq.head) (sym free_is)

      kids_count : length kids ≡ num text at
      kids_count = length-map (map (completed_disjunct (num text a)) sq.head) (child L bd m (take (num text a) env)) ∙ length-map sq.head (completed_disjunct (num text a)) ∙ sym head_count_lem

      whole_count : length (completed sq).head ≡ num text at
      unfolding completed
      whole_count = length-map sq.head (completed_disjunct sq.free) ∙ sym head_count_lem

      -- ---- the ways out

      pub branch_failed : num text at ≡ 0 → (p' : Bytes) → Freed L i p p' → Went text p z bd 0 p'
      unfolding done
      branch_failed n p' g =
          let e = step_failed L bd (rules z.book) s i f.rest f.waiting fired f.at.is (none (completed sq).head (whole_count ∙ n)) in
          (ap (λ (x : Answer). x.refusal) (sym e), g s (shows text p z) f.rest f.waiting (inside text p z i f.rest f.waiting) ∙ ap (λ (x : Answer). pool_bytes L x.state) (sym e))
        where
          none : (ds : List Disjunct) → length ds ≡ 0 → ds ≡ []
          none [] e = refl
          none (d ∷ ds) e = absurd (omega arith)

      module _ (n : num text at ≡ 0 → ⊥) where
        abbrev place : ℕ
        place = place_after (strategy_in s) q (length (rules z.book))

        stepped : Rattle.rules.specs.Step.step L bd (rules z.book) s ≡ with_children s i f.rest place kids
        stepped = step_kids L bd (rules z.book) s i f.rest f.waiting fired f.at.is (let c = whole_count in positive c) ∙ ap (with_children s i f.rest place) kids_are
          where
            positive : length (completed sq).head ≡ num text at → 0 < length (completed sq).head
            positive c = go (num text at) n c
              where
                go : (k : ℕ) → (k ≡ 0 → ⊥) → length (completed sq).head ≡ k → 0 < length (completed sq).head
                go zero h c = absurd (h refl)
                go (suc k) h c = omega arith

        abbrev over : Bool
        over = any (λ (k : Child). k.over) kids

        over_is : (r : Bool) → 8 ≤ length env → AnyOver text (at + 2) (num text at) (num text a) bd L env base r → r ≡ over
        over_is r l o = o m (parent env refl) sq.head f.end (here env l)

        pub branch_over : 8 ≤ length env → AnyOver text (at + 2) (num text at) (num text a) bd L env base true → Went text p z bd 15 p
        unfolding refuse
        branch_over l o =
            let e = stepped ∙ kids_over s i f.rest place kids (over_is true l o) in
            (ap (λ (x : Answer). x.refusal) (sym e), z.image ∙ ap (λ (x : Answer). pool_bytes L x.state) (sym e))

        module _ (l : 8 ≤ length env) (o : AnyOver text (at + 2) (num text at) (num text a) bd L env base false) (r : ℕ) (rm : RoomFor p (num text at) r) where
          room_here : r ≡ room_of s (length kids)
          room_here = rm s (shows text p z) z.tidy.once (cnt_all (λ j. j < length s.slots) (used s) z.tidy.there) ∙ ap (room_of s) (sym kids_count)

          pub branch_full : (r ≡ 0 → ⊥) → Went text p z bd r p
          unfolding refuse
          branch_full h =
              let e = stepped ∙ kids_full s i f.rest place kids (over_is false l o) r room_here h in
              (ap (λ (x : Answer). x.refusal) (sym e), z.image ∙ ap (λ (x : Answer). pool_bytes L x.state) (sym e))

          module _ (h : r ≡ 0) (k : ℕ) (np : NextPlace (strategy_of (get_or p 6 0)) q (num text (count_at text)) k) (env₁ : List ℕ) (l₁ : 8 ≤ length env₁) (same : take (num text a) env₁ ≡ take (num text a) env) where
            enough : (with_children s i f.rest place kids ≡ with_placed (without_base s i f.rest) (placed (free (without_base s i f.rest)) place s.next kids))
                × ((length kids ≤ suc (length (free s))) × (s.next + length kids ≤ numbers))
            enough = kids_placed s i f.rest place kids (over_is false l o) (sym h ∙ room_here)

            place_is : k ≡ place
            place_is =
                np index_low ∙ ap₂ (λ st c. place_after (strategy_of st) q c) (strategy_is text p z) (sym (count_is text z.book z.end z.reads) ∙ sym (same_length z.book))

            all_good : All (Good L z.book) kids
            unfolding limits
            all_good = all_both (λ (c : Child). T (not c.over)) (λ (c : Child). T (not c.over) → T (sound_model L z.book.names c.model)) (Good L z.book)
                (λ c y g. (within c.over y, g y)) kids (none_over kids (subst (λ x. T (not x)) (over_is false l o) tt))
                (subst (All (λ (c : Child). T (not c.over) → T (sound_model L z.book.names c.model))) kids_are
                (kids_sound text z.book z.end z.reads bd m (visited (rules z.book) s i) fired (model_sound text p z i f.rest f.waiting)
                (visits_within (strategy_in s) (sheet_at s i).place (rules z.book)) f.at.is))

            -- The children as they are when they are stored.
            abbrev late : List Child
            late = kids_of bd L (num text a) (take (num text a) env₁) m sq.head

            late_is : late ≡ kids
            late_is = ap (λ (c : List ℕ). kids_of bd L (num text a) c m sq.head) same

            parting : Parting text i (at + 2) (num text at) (num text a) bd k env₁ base p
            parting = record {
              book = z.book;
              ground = ground text p z;
              state = s;
              tidy = z.tidy;
              few = few text p z;
              image = z.image;
              rest = f.rest;
              waiting = f.waiting;
              model = m;
              parent = parent env₁ same;
              head = sq.head;
              end = f.end;
              here = here env₁ l₁;
              there = subst (λ (c : ℕ). c < places_of z.book s) (sym place_is) (subst (λ c. place < places (strategy_in s) c) (same_length z.book) (place_right (strategy_in s) q (length (rules z.book)) (omega (arith, what.visited))));
              good = subst (All (Good L z.book)) (sym late_is) all_good;
              fits = subst (λ (c : List Child). length c ≤ length (free (without_base s i f.rest))) (sym late_is)
                  (le_trans enough.1.0 (free_more s i f.rest f.waiting z.tidy.once (inside text p z i f.rest f.waiting)));
              left = subst (λ (c : List Child). s.next + length c ≤ numbers) (sym late_is) enough.1.1;
            }

            pub branch_settled : (p' : Bytes) → Settled text i (at + 2) (num text at) (num text a) bd k env₁ base p p' → Went text p z bd 0 p'
            unfolding with_placed done parting
            branch_settled p' st =
                let e = stepped ∙ enough.0 in
                let s₀ = without_base s i f.rest in (
                  ap (λ (x : Answer). x.refusal) (sym e),
                  st parting ∙ ap₂ (λ (c : ℕ) (ks : List Child). pool_bytes L (with_placed s₀ (placed (free s₀) c s.next ks)).state) place_is late_is ∙ ap (λ (x : Answer). pool_bytes L x.state) (sym e),
                )
