-- One law for each way out of entering a variable, a term and an argument list.
use Rattle.std.specs.Prelude.{◌≡◌, refl, ℕ, zero, suc, ◌+◌, ◌-◌, ◌*◌, ◌/◌, ◌≤◌, ◌<◌}
use Rattle.std.proofs.Math.Path.{sym, ap, subst}
use Rattle.std.specs.Prelude.{Some, None}
use Rattle.std.specs.Prelude as std
use Rattle.std.proofs.Common.{◌∙◌, arith}
use mathlib.Core.List.{List, [], ◌∷◌, map}
use Rattle.std.proofs.Math.ListN.{length, get_or}
use Rattle.std.proofs.lemmas.List.{length-map}
use Rattle.std.proofs.Math.Dec.{T}
use Rattle.base.specs.ListLaws.{all_get_d, all_all}
use Rattle.rules.specs.Book.{Term, var, con, app, Terms, nil, cons}
use Rattle.rules.specs.Reading.{Bytes, num}
use Rattle.rules.specs.Sheet.{key, Model, Limits}
use Rattle.rules.specs.Look.{Meaning, elem, witness, nobody}
use Rattle.rules.specs.Bound.{History}
use Rattle.rules.specs.Child.{put, put_meaning, enter, enters}
use Rattle.rules.specs.Sound.{declared_as}
use Rattle.soundness.specs.Tools.{Yielded}
use Rattle.soundness.specs.Book.{WfTerm}
use Rattle.soundness.specs.Book as sound
use Rattle.soundness.specs.Enter.{Means, enters_count, enter_entered, enters_entered}
use Rattle.packing.specs.Pack.{pack_key}
use Rattle.texts.specs.Names.{names_in}
use Rattle.texts.specs.Text.{count, TermText, TermsText}
use Rattle.texts.specs.Parts.{term_grows, terms_grow}
use Rattle.look.specs.Shown.{pack_meaning}
use Rattle.nodes.specs.declared.Atom.TheVariants.{Variable, Constant}
use Rattle.nodes.specs.declared.Head.TheVariants.{Leaf, Apply}
use Rattle.nodes.specs.Heads.{HeadAt}
use Rattle.look.specs.Digits.{start, top, pack_args, pack_args_lem}
use Rattle.enter.specs.Keep.{PutIs, Crowded}
use Rattle.enter.specs.Grows.{put_grows, enters_grow, crowded_grows}
use Rattle.enter.specs.Marks.{Proper, proper_fits, Recorded, Still, Stands, Meant}
use Rattle.enter.specs.Terms.{Setting, Told, told_holding, TermAt, TermsAt, EntersIs, IsVariable, IsEnter, IsEnters, Applies, HeadIs}

-- The two counts of terms are one.
pub counts_agree : (ts : Terms) → count ts ≡ sound.count ts
unfolding count
counts_agree nil = refl
counts_agree (cons t ts) = ap suc (counts_agree ts)

-- ---- variables

-- What the environment has for a variable.
pub meaning_at : {book : Bytes} {lim : Limits} {env : List ℕ} (z : Setting book lim env) (i : ℕ) → i < length z.ms → get_or env i 0 ≡ pack_meaning (get_or z.ms i nobody)
meaning_at z i h = ap (λ (e : List ℕ). get_or e i 0) z.env_is ∙ at z.ms i h
  where
    at : (ms : List Meaning) (i : ℕ) → i < length ms → get_or (map pack_meaning ms) i 0 ≡ pack_meaning (get_or ms i nobody)
    at [] i h = absurd (omega arith)
    at (x ∷ ms) zero h = refl
    at (x ∷ ms) (suc i) h = at ms i (omega arith)

module _ (lim : Limits) (env : List ℕ) (i : ℕ) (w : List ℕ) where
  pub variable_past : length env ≤ i → IsVariable lim env i w None w
  variable_past h book z m now t l = absurd (omega (arith, ap length z.env_is ∙ length-map z.ms pack_meaning))

  pub variable_meant : (x : ℕ) (r : std.Option ℕ) (w' : List ℕ) → get_or env i 0 ≡ x → Meant lim x w r w' → IsVariable lim env i w r w'
  variable_meant x r w' q g book z m now t l =
      g.is (names_in book) m now (get_or z.ms i nobody) (told_holding t)
      (go (get_or z.ms i nobody) (all_get_d (Means (names_in book) (Yielded z.base)) z.ms i nobody l z.means))
      (sym q ∙ meaning_at z i l)
    where
      still : (e : ℕ) → Yielded z.base e → Still lim m now e
      still e y = (z.low e y, t.tidy.follows e y)

      go : (μ : Meaning) → Means (names_in book) (Yielded z.base) μ → Stands lim (names_in book) m now μ
      go (elem e) b = unfold Stands in still e b
      go (witness k) b = unfold Stands in (all_all (Yielded z.base) (Still lim m now) still k.args b.0, b.1)

-- ---- what stands first

module _ (book text : Bytes) (at : ℕ) (lim : Limits) (env w : List ℕ) (j : ℕ) (is : num text (at + 2) ≡ j) where
  pub head_variable : num text at ≡ 0 → (r : std.Option ℕ) (w' : List ℕ) → IsVariable lim env j w r w' → HeadIs book text at lim env w (Some (Leaf r)) w'
  unfolding TermText enter
  head_variable k r w' g z m now t (var i) e a =
      let q : j ≡ i = sym is ∙ a.stands.1.0 in
      (subst (λ n. PutIs lim now (put_meaning m now (get_or z.ms n nobody)) r w') q (g book z m now t (subst (λ n. n < length z.ms) (sym q) a.wf)), a.stands.1.1)
  head_variable k r w' g z m now t (con c) e a = absurd (omega (arith, a.stands.0))
  head_variable k r w' g z m now t (app f ts) e a = absurd (omega (arith, a.stands.0))

  pub head_constant : num text at ≡ 1 → (q : ℕ) (r : std.Option ℕ) (w' : List ℕ) → q ≡ start 1 j 0 → Recorded lim q w r w' → HeadIs book text at lim env w (Some (Leaf r)) w'
  unfolding TermText enter pack_args
  head_constant k q r w' p g z m now t (var i) e a = absurd (omega (arith, a.stands.0))
  head_constant k q r w' p g z m now t (con c) e a =
      let i : j ≡ c = sym is ∙ a.stands.1.0 in
      (g.is (names_in book) m now (key 1 c []) (told_holding t) (record { over = tt; declared = a.wf }) (p ∙ ap (λ n. start 1 n 0) i ∙ pack_args_lem 1 c [] (omega arith)), a.stands.1.1)
  head_constant k q r w' p g z m now t (app f ts) e a = absurd (omega (arith, a.stands.0))

  pub head_applied : (num text at ≡ 0 → ⊥) → (num text at ≡ 1 → ⊥) → (k : ℕ) → k ≡ get_or (names_in book).functions j 0 → HeadIs book text at lim env w (Some (Apply j k)) w
  unfolding TermText
  head_applied n0 n1 k q = (refl, go)
    where
      go : (n : ℕ) (t : Term) (e : ℕ) → TermAt book text at n t e → Applies book text at n t e j k
      go n (var i) e a = absurd (n0 a.stands.0)
      go n (con c) e a = absurd (n1 a.stands.0)
      go n (app f ts) e a =
          let i : f ≡ j = sym a.stands.1.0 ∙ is in
          record {
            terms = ts;
            is = ap (λ g. app g ts) i;
            wf = subst (λ g. WfTerm (app g ts) (names_in book) n) i a.wf;
            there = record {
              wf = a.wf.1;
              stands = a.stands.1.1.1;
              counted = a.stands.1.1.0 ∙ ap (λ g. get_or (names_in book).functions g 0) i ∙ sym q;
              fits = a.fits;
            };
          }

-- The same of what was read there.
module _ (book text : Bytes) (at : ℕ) (lim : Limits) (env w : List ℕ) where
  pub read_variable : (i : ℕ) → HeadAt book text at (Some (Leaf (Variable i))) → (r : std.Option ℕ) (w' : List ℕ) → IsVariable lim env i w r w' → HeadIs book text at lim env w (Some (Leaf r)) w'
  read_variable i h = head_variable book text at lim env w i (sym h.1.1.0) h.0

  pub read_constant : (c : ℕ) → HeadAt book text at (Some (Leaf (Constant c))) → (q : ℕ) (r : std.Option ℕ) (w' : List ℕ) → q ≡ start 1 c 0 → Recorded lim q w r w'
      → HeadIs book text at lim env w (Some (Leaf r)) w'
  read_constant c h = head_constant book text at lim env w c (sym h.1.1.0) h.0

  pub read_apply : (f k : ℕ) → HeadAt book text at (Some (Apply f k)) → HeadIs book text at lim env w (Some (Apply f k)) w
  read_apply f k h = head_applied book text at lim env w f (sym h.1.0.1.0) h.0.0 h.0.1 k h.1.1.0

-- ---- argument lists

-- The first of terms that stand at a place, and the others.
pub terms_first : (book text : Bytes) (at k n : ℕ) → (k ≡ 0 → ⊥) → (u : Term) (us : Terms) (e : ℕ) → TermsAt book text at k n (cons u us) e
    → (g : ℕ) × (TermAt book text at n u g × TermsAt book text g (k - 1) n us e)
unfolding TermsText count
terms_first book text at k n none u us e a =
    let g = a.stands.0 in
    let l = terms_grow (names_in book) text g us e a.stands.1.1 in (
      g,
      (
        record { wf = a.wf.0; stands = a.stands.1.0; fits = omega (arith, a.fits) },
        record { wf = a.wf.1; stands = a.stands.1.1; counted = omega (arith, a.counted); fits = a.fits },
      ),
    )

module _ (book text : Bytes) (at k acc wt : ℕ) (lim : Limits) (env w : List ℕ) where
  pub list_end : k ≡ 0 → IsEnters book text at k acc wt lim env w (Some (acc, at)) w
  unfolding TermsText count enters pack_args
  list_end h z m now t nil e a = (sym a.stands, (refl, t.carries))
  list_end h z m now t (cons u us) e a = absurd (omega (arith, a.counted))

  module _ (none : k ≡ 0 → ⊥) where
    pub list_full : (w' : List ℕ) → IsEnter book text at lim env w None w' → IsEnters book text at k acc wt lim env w None w'
    unfolding count enters
    list_full w' g z m now t nil e a = absurd (none (sym a.counted))
    list_full w' g z m now t (cons u us) e a =
        let f = terms_first book text at k (length z.ms) none u us e a in
        crowded_grows lim (enter u m now z.ms).0 (enters us (enter u m now z.ms).0 now z.ms).0
        (enters_grow us (enter u m now z.ms).0 now z.ms) (g z m now t u f.0 f.1.0)

    pub list_more : (v b : ℕ) (r : std.Option (ℕ × ℕ)) (w₁ w₂ : List ℕ) → IsEnter book text at lim env w (Some (v, b)) w₁
        → IsEnters book text b (k - 1) (acc + v * wt) (wt / 256) lim env w₁ r w₂ → IsEnters book text at k acc wt lim env w r w₂
    unfolding count enters
    list_more v b r w₁ w₂ g i z m now t nil e a = absurd (none (sym a.counted))
    list_more v b r w₁ w₂ g i z m now t (cons u us) e a =
        let f = terms_first book text at k (length z.ms) none u us e a in
        let p = g z m now t u f.0 f.1.0 in
        let n = enter_entered (names_in book) (Yielded z.base) now z.ms z.means u m f.1.0.wf t.tidy in
        behind e now w₂ r (enters us (enter u m now z.ms).0 now z.ms) p.1.0
        (i z (enter u m now z.ms).0 now (record { tidy = n.tidy; carries = p.1.1 }) us e (subst (λ j. TermsAt book text j (k - 1) (length z.ms) us e) (sym p.0) f.1.1))
      where
        behind : {x : ℕ} (e : ℕ) (now : History) (w₂ : List ℕ) (r : std.Option (ℕ × ℕ)) (q : Model × List ℕ) → v ≡ x → EntersIs lim now q (acc + v * wt) (wt / 256) e r w₂
            → EntersIs lim now (q.0, x ∷ q.1) acc wt e r w₂
        behind e now w₂ None q j h = h
        behind e now w₂ (Some p) q j h = (h.0, ((h.1.0 ∙ ap (λ y. pack_args (acc + y * wt) (wt / 256) q.1) j ∙ (unfold pack_args in refl)), h.1.1))

-- ---- terms

module _ (book text : Bytes) (at : ℕ) (lim : Limits) (env w : List ℕ) where
  pub term_short : (w' : List ℕ) → HeadIs book text at lim env w None w' → IsEnter book text at lim env w None w'
  term_short w' h z m now t u e a = absurd (omega (arith, h, a.fits, term_grows (names_in book) text at u e a.stands))

  pub term_leaf : (v : ℕ) (w' : List ℕ) → HeadIs book text at lim env w (Some (Leaf (Some v))) w' → IsEnter book text at lim env w (Some (v, at + 4)) w'
  term_leaf v w' h z m now t u e b = let p = h z m now t u e b in (sym p.1, p.0)

  pub term_gone : (w' : List ℕ) → HeadIs book text at lim env w (Some (Leaf None)) w' → IsEnter book text at lim env w None w'
  term_gone w' h z m now t u e b = (h z m now t u e b).0

  module _ (f k : ℕ) (w₁ : List ℕ) (h : HeadIs book text at lim env w (Some (Apply f k)) w₁) where
    pub term_full : (w₂ : List ℕ) → IsEnters book text (at + 4) k (start 2 f k) top lim env w₁ None w₂ → IsEnter book text at lim env w None w₂
    unfolding enter
    term_full w₂ i z m now t u e b =
        let a = h.1 (length z.ms) u e b in
        let c = i z m now (subst (λ (l : List ℕ). Told book lim env z l m now) (sym h.0) t) a.terms e a.there in
        subst (λ y. Crowded lim (enter y m now z.ms).0) (sym a.is) (
        crowded_grows lim (enters a.terms m now z.ms).0 (put (enters a.terms m now z.ms).0 (key 2 f (enters a.terms m now z.ms).1)).0
        (put_grows (enters a.terms m now z.ms).0 (key 2 f (enters a.terms m now z.ms).1)) c)

    module _ (p b : ℕ) (w₂ w₃ : List ℕ) (i : IsEnters book text (at + 4) k (start 2 f k) top lim env w₁ (Some (p, b)) w₂) where
      -- The key that the arguments make is put into the model that has them.
      applied : (v : std.Option ℕ) → Recorded lim p w₂ v w₃ → (z : Setting book lim env) (m : Model) (now : History) → Told book lim env z w m now
          → (u : Term) (e : ℕ) → TermAt book text at (length z.ms) u e → PutIs lim now (enter u m now z.ms) v w₃ × (b ≡ e)
      unfolding enter
      applied v g z m now t u e x =
          let a = h.1 (length z.ms) u e x in
          let ts = a.terms in
          let d = names_in book in
          let q = enters ts m now z.ms in
          let c = i z m now (subst (λ (l : List ℕ). Told book lim env z l m now) (sym h.0) t) ts e a.there in
          let n = enters_entered d (Yielded z.base) now z.ms z.means ts m a.wf.1 t.tidy in
          let l : length q.1 ≡ sound.count ts = enters_count d (Yielded z.base) now z.ms z.means ts m in
          let told : Told book lim env z w₂ q.0 now = record { tidy = n.tidy; carries = c.1.1 } in
          let proper : Proper d q.0 (key 2 f q.1) = record { over = n.yields; declared = subst (λ y. T (declared_as d 2 f y)) (sym l) a.wf.0 } in
          let fits = proper_fits (told_holding told) (key 2 f q.1) proper in
          let is : p ≡ pack_key (key 2 f q.1) = c.1.0 ∙ ap (λ y. pack_args (start 2 f y) top q.1) (sym (l ∙ sym (counts_agree ts) ∙ a.there.counted)) ∙ pack_args_lem 2 f q.1 fits.few in
          (subst (λ y. PutIs lim now (enter y m now z.ms) v w₃) (sym a.is) (g.is d q.0 now (key 2 f q.1) (told_holding told) proper is), c.0)

      pub term_applied : (v : ℕ) → Recorded lim p w₂ (Some v) w₃ → IsEnter book text at lim env w (Some (v, b)) w₃
      term_applied v g z m now t u e x = let a = applied (Some v) g z m now t u e x in (a.1, a.0)

      pub term_unroomed : Recorded lim p w₂ None w₃ → IsEnter book text at lim env w None w₃
      term_unroomed g z m now t u e x = (applied None g z m now t u e x).0
