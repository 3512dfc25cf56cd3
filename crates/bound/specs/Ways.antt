-- One law for each way out of the depth of a term and of an argument list.
use Rattle.std.specs.Prelude.{◌≡◌, Some, None}
use Rattle.std.specs.Prelude as std
use Rattle.std.proofs.lemmas.Option.{none-some, some_pair_parts}
use Rattle.std.proofs.Math.Path.{sym, ap, ap₂}
use Rattle.std.proofs.Common.{◌∙◌, subst, arith}
use Prim.Native.Nat.{ℕ, ◌+◌, ◌-◌, ◌%◌, ◌≤◌, ◌<◌, max}
use Rattle.std.proofs.Math.Option.{Option, none, some}
use mathlib.Core.List.{List}
use Rattle.std.proofs.Math.ListN.{length, get_or}
use Rattle.std.proofs.lemmas.List.{length-map}
use Rattle.base.specs.Branch.{case_o}
use Rattle.base.specs.ListLaws.{all_get_d}
use Rattle.rules.specs.Book.{Term, var, con, app, nil, cons}
use Rattle.rules.specs.Reading.{Bytes, num}
use Rattle.rules.specs.Sheet.{Model, Limits}
use Rattle.rules.specs.Look.{Meaning, nobody, look}
use Rattle.rules.specs.Bound.{History, depth_over, depth_at, depth_meaning, depth, depths}
use Rattle.soundness.specs.Tools.{Yielded}
use Rattle.soundness.specs.Enter.{Means}
use Rattle.texts.specs.Names.{names_in}
use Rattle.texts.specs.Text.{count, TermText, TermsText}
use Rattle.texts.specs.Parts.{term_grows}
use Rattle.nodes.specs.declared.Atom.TheVariants.{Variable, Constant}
use Rattle.nodes.specs.declared.Head.TheVariants.{Leaf, Apply}
use Rattle.nodes.specs.Heads.{HeadAt}
use Rattle.look.specs.Shown.{pack_meaning}
use Rattle.look.specs.Answers.{IsLook}
use Rattle.look.specs.Ways.{look_some, look_none}
use Rattle.sheets.specs.Form.{view_of}
use Rattle.enter.specs.Terms.{told_holding, TermsAt}
use Rattle.enter.specs.Ways.{terms_first, meaning_at}
use Rattle.enter.specs.Ways as enter
use Rattle.bound.specs.Seen.{told_at, setting_stands, shallow, DepthMeant}
use Rattle.bound.specs.Answers.{IsDepthVariable, IsDepth, IsDepths, HeadDepth}

-- ---- the definition's two ways

pub depth_known : (t : Term) (m : Model) (now : History) (ms : List Meaning) (v : ℕ) → look t m ms ≡ some v → depth t m now ms ≡ depth_at m v
unfolding depth case_o
depth_known (var i) m now ms v e = ap (λ (o : Option ℕ). case_o o (λ _. depth_meaning m now (get_or ms i nobody)) (depth_at m)) e
depth_known (con c) m now ms v e = ap (λ (o : Option ℕ). case_o o (λ _. 0) (depth_at m)) e
depth_known (app f ts) m now ms v e = ap (λ (o : Option ℕ). case_o o (λ _. depth_over (depths ts m now ms)) (depth_at m)) e

unfoldable pub unknown_depth : Term → Model → History → List Meaning → ℕ
unknown_depth (var i) m now ms = depth_meaning m now (get_or ms i nobody)
unknown_depth (con c) m now ms = 0
unknown_depth (app f ts) m now ms = depth_over (depths ts m now ms)

pub depth_unknown : (t : Term) (m : Model) (now : History) (ms : List Meaning) → look t m ms ≡ none → depth t m now ms ≡ unknown_depth t m now ms
unfolding depth case_o unknown_depth
depth_unknown (var i) m now ms e = ap (λ (o : Option ℕ). case_o o (λ _. depth_meaning m now (get_or ms i nobody)) (depth_at m)) e
depth_unknown (con c) m now ms e = ap (λ (o : Option ℕ). case_o o (λ _. 0) (depth_at m)) e
depth_unknown (app f ts) m now ms e = ap (λ (o : Option ℕ). case_o o (λ _. depth_over (depths ts m now ms)) (depth_at m)) e

-- ---- variables

module _ (lim : Limits) (env : List ℕ) (i : ℕ) (w : List ℕ) where
  pub variable_past : length env ≤ i → IsDepthVariable lim env i w 0
  variable_past h book z m now t l = absurd (omega (arith, ap length z.env_is ∙ length-map z.ms pack_meaning))

  pub variable_meant : (x r : ℕ) → get_or env i 0 ≡ x → DepthMeant lim x w r → IsDepthVariable lim env i w r
  variable_meant x r q g book z m now t l =
      let μ = get_or z.ms i nobody in
      g.is (names_in book) m now μ (told_holding t) (setting_stands t μ (all_get_d (Means (names_in book) (Yielded z.base)) z.ms i nobody l z.means)) (sym q ∙ meaning_at z i l)

-- ---- what stands first in an unknown term

module _ (book text : Bytes) (at : ℕ) (lim : Limits) (env w : List ℕ) (j : ℕ) (is : num text (at + 2) ≡ j) where
  pub head_variable : num text at ≡ 0 → (r : ℕ) → IsDepthVariable lim env j w r → HeadDepth book text at lim env w (Some (Leaf r))
  unfolding TermText unknown_depth
  head_variable k r g z m now t (var i) e a n =
      let p : j ≡ i = sym is ∙ a.stands.1.0 in
      (subst (λ y. r ≡ depth_meaning m now (get_or z.ms y nobody)) p (g book z m now t (subst (λ y. y < length z.ms) (sym p) a.wf)) ∙ sym (depth_unknown (var i) m now z.ms n), a.stands.1.1)
  head_variable k r g z m now t (con c) e a n = absurd (omega (arith, a.stands.0))
  head_variable k r g z m now t (app f ts) e a n = absurd (omega (arith, a.stands.0))

  pub head_constant : num text at ≡ 1 → HeadDepth book text at lim env w (Some (Leaf 0))
  unfolding TermText unknown_depth
  head_constant k z m now t (var i) e a n = absurd (omega (arith, a.stands.0))
  head_constant k z m now t (con c) e a n = (sym (depth_unknown (con c) m now z.ms n), a.stands.1.1)
  head_constant k z m now t (app f ts) e a n = absurd (omega (arith, a.stands.0))

-- The same of what was read there.
module _ (book text : Bytes) (at : ℕ) (lim : Limits) (env w : List ℕ) where
  pub read_variable : (i : ℕ) → HeadAt book text at (Some (Leaf (Variable i))) → (r : ℕ) → IsDepthVariable lim env i w r → HeadDepth book text at lim env w (Some (Leaf r))
  read_variable i h = head_variable book text at lim env w i (sym h.1.1.0) h.0

  pub read_constant : (c : ℕ) → HeadAt book text at (Some (Leaf (Constant c))) → HeadDepth book text at lim env w (Some (Leaf 0))
  read_constant c h = head_constant book text at lim env w c (sym h.1.1.0) h.0

  pub read_apply : (f k : ℕ) → HeadAt book text at (Some (Apply f k)) → HeadDepth book text at lim env w (Some (Apply f k))
  read_apply f k h = (enter.read_apply book text at lim env w f k h).1

-- ---- terms

module _ (book text : Bytes) (at : ℕ) (lim : Limits) (env w dom : List ℕ) where
  pub term_known : (v g r : ℕ) → IsLook book text at env (view_of lim w).keys dom (Some (v, g)) → r ≡ get_or (view_of lim w).depths v 0 % 65536 → IsDepth book text at lim env w dom (Some (r, g))
  unfolding depth_at
  term_known v g r l q z m now t d u e a =
      let p = look_some (look u m z.ms) v e g (l m z.ms u e (told_at t d a)) in
      let i : r ≡ depth u m now z.ms = q ∙ ap (λ (ds : List ℕ). get_or ds v 0 % 65536) t.carries.depths ∙ (omega (arith, shallow (told_holding t) v))
      ∙ sym (depth_known u m now z.ms v p.0) in
      ap₂ (λ (p q : ℕ). Some (p, q)) i (sym p.1)

  pub term_short : HeadDepth book text at lim env w None → IsDepth book text at lim env w dom None
  term_short h z m now t d u e a = absurd (omega (arith, h, a.fits, term_grows (names_in book) text at u e a.stands))

  module _ (missing : IsLook book text at env (view_of lim w).keys dom None) where
    pub term_leaf : (r : ℕ) → HeadDepth book text at lim env w (Some (Leaf r)) → IsDepth book text at lim env w dom (Some (r, at + 4))
    term_leaf r h z m now t d u e a =
        let n = look_none (look u m z.ms) e (missing m z.ms u e (told_at t d a)) in
        let p = h z m now t u e a n in
        ap₂ (λ (p q : ℕ). Some (p, q)) p.0 (sym p.1)

    pub term_apply : (f k : ℕ) (r : std.Option (ℕ × ℕ)) → HeadDepth book text at lim env w (Some (Apply f k)) → IsDepths book text (at + 4) k lim env w dom r → IsDepth book text at lim env w dom r
    unfolding unknown_depth
    term_apply f k r h i z m now t d u e a =
        let n = look_none (look u m z.ms) e (missing m z.ms u e (told_at t d a)) in
        let p = h (length z.ms) u e a in
        i z m now t d p.terms e p.there
        ∙ ap (λ y. Some (y, e)) (sym (depth_unknown u m now z.ms n ∙ ap (λ y. unknown_depth y m now z.ms) p.is))

-- ---- argument lists

never : {C : Type 0} (d e : ℕ) → ◌≡◌ {A = std.Option (ℕ × ℕ)} None (Some (d, e)) → C
never d e p = absurd (none-some (d, e) p)

module _ (book text : Bytes) (at k : ℕ) (lim : Limits) (env w dom : List ℕ) where
  pub list_end : k ≡ 0 → IsDepths book text at k lim env w dom (Some (0, at))
  unfolding TermsText count depths depth_over
  list_end h z m now t d nil e a = ap (λ y. Some (0, y)) (sym a.stands)
  list_end h z m now t d (cons u us) e a = absurd (omega (arith, a.counted))

  module _ (none : k ≡ 0 → ⊥) where
    pub list_short : IsDepth book text at lim env w dom None → IsDepths book text at k lim env w dom None
    unfolding count
    list_short g z m now t d nil e a = absurd (none (sym a.counted))
    list_short g z m now t d (cons u us) e a =
        let f = terms_first book text at k (length z.ms) none u us e a in
        never (depth u m now z.ms) f.0 (g z m now t d u f.0 f.1.0)

    module _ (x b : ℕ) (g : IsDepth book text at lim env w dom (Some (x, b))) where
      pub list_stopped : IsDepths book text b (k - 1) lim env w dom None → IsDepths book text at k lim env w dom None
      unfolding count
      list_stopped i z m now t d nil e a = absurd (none (sym a.counted))
      list_stopped i z m now t d (cons u us) e a =
          let f = terms_first book text at k (length z.ms) none u us e a in
          let p = same (g z m now t d u f.0 f.1.0) in
          never (depth_over (depths us m now z.ms)) e (i z m now t d us e (subst (λ y. TermsAt book text y (k - 1) (length z.ms) us e) (sym p.1) f.1.1))
        where
          same : {y c : ℕ} → ◌≡◌ {A = std.Option (ℕ × ℕ)} (Some (x, b)) (Some (y, c)) → (x ≡ y) × (b ≡ c)
          same q = some_pair_parts _ _ _ _ q

      pub list_more : (y c r : ℕ) → IsDepths book text b (k - 1) lim env w dom (Some (y, c)) → r ≡ max (x + 1) y → IsDepths book text at k lim env w dom (Some (r, c))
      unfolding count depths depth_over
      list_more y c r i q z m now t d nil e a = absurd (none (sym a.counted))
      list_more y c r i q z m now t d (cons u us) e a =
          let f = terms_first book text at k (length z.ms) none u us e a in
          let p = same (g z m now t d u f.0 f.1.0) in
          let o = rest (i z m now t d us e (subst (λ y. TermsAt book text y (k - 1) (length z.ms) us e) (sym p.1) f.1.1)) in
          ap₂ (λ (p q : ℕ). Some (p, q)) (q ∙ ap₂ max (let j = p.0 in omega arith) o.0) o.1
        where
          same : {y c : ℕ} → ◌≡◌ {A = std.Option (ℕ × ℕ)} (Some (x, b)) (Some (y, c)) → (x ≡ y) × (b ≡ c)
          same q = some_pair_parts _ _ _ _ q

          rest : {s t : ℕ} → ◌≡◌ {A = std.Option (ℕ × ℕ)} (Some (y, c)) (Some (s, t)) → (y ≡ s) × (c ≡ t)
          rest q = some_pair_parts _ _ _ _ q
