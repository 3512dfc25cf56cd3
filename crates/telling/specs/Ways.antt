-- One law for each way out of recording, judging and telling a literal.
use Rattle.std.specs.Prelude.{◌≡◌, refl, ℕ, ◌+◌, ◌-◌, ◌≤◌, ◌<◌, Bool, true, false, ◌||◌, List, length, T, ltb}
use Rattle.std.proofs.Math.Path.{sym, ap, subst}
use Rattle.std.proofs.Common.{ap₂, ◌∙◌, arith, lt→ltb}
use Rattle.std.proofs.Math.ListN.{get_or}
use Rattle.base.specs.BranchLaws.{or_r}
use Rattle.base.specs.ListLaws.{all_all}
use Rattle.base.specs.Lists.{All}
use Rattle.rules.specs.Book.{Term, Terms, nil, cons, Literal, fact, same}
use Rattle.rules.specs.Reading.{Bytes, num}
use Rattle.rules.specs.Sheet.{Fact, rel, Model, Limits}
use Rattle.rules.specs.Child.{enter, enters, Child, too_big, with_fact, recorded}
use Rattle.rules.specs.Sound.{has_arity, fact_declared}
use Rattle.images.specs.Storable.{Octet}
use Rattle.soundness.specs.Tools.{Yielded}
use Rattle.soundness.specs.Join.{merge_linked}
use Rattle.soundness.specs.Neat.{merge_listed}
use Rattle.soundness.specs.Book.{WfTerm}
use Rattle.soundness.specs.Book as sound
use Rattle.soundness.specs.Enter.{enters_count, enter_entered, enters_entered}
use Rattle.packing.specs.Pack.{pack_key, fact_key, arity_of}
use Rattle.tables.specs.Carry.{FitsFact}
use Rattle.texts.specs.Names.{names_in}
use Rattle.texts.specs.Text.{count, TermsText, LiteralText}
use Rattle.texts.specs.Parts.{term_grows, terms_grow}
use Rattle.look.specs.Shown.{neat_facts_shown, fact_fits}
use Rattle.look.specs.Digits.{start, top, pack_args, pack_args_lem}
use Rattle.merge.specs.Merged.{MergedForm}
use Rattle.sheets.specs.Form.{view_of}
use Rattle.std.specs.Prelude.{Some, None, Result, Ok, Err}
use Rattle.enter.specs.Keep.{Carries, carries_small, Crowded}
use Rattle.enter.specs.Grows.{enter_grows, crowded_grows, crowded_big, crowded_fact}
use Rattle.enter.specs.Marks.{yielded_octet, fits_low}
use Rattle.enter.specs.Terms.{Setting, Told, told_holding, TermAt, TermsAt, IsEnter, IsEnters}
use Rattle.enter.specs.Ways.{counts_agree, terms_first}
use Rattle.telling.specs.Facts.{PutFact, fact_carried, fact_crowds}
use Rattle.soundness.specs.Child.{fact_tidy}
use Rattle.telling.specs.Stays.{small_fits, merged_carries, merged_digits}
use Rattle.telling.specs.Literals.{Held, LiteralAt, Records, IsRecorded}
use Rattle.telling.specs.declared.TooLarge.{TooLarge}

pub true_false : {C : Type 0} → true ≡ false → C
true_false e = absurd (subst T e tt)

-- ---- literals that stand at a place

pub literal_grows : (book text : Bytes) (at n : ℕ) (l : Literal) (e : ℕ) → LiteralAt book text at n l e → at + 4 ≤ length text
unfolding LiteralText TermsText
literal_grows book text at n (fact r ts) e a = omega (arith, terms_grow (names_in book) text (at + 4) ts e a.stands.1.1.1, a.fits)
literal_grows book text at n (same t u) e a =
    let b = a.stands.1 in
    omega (arith, term_grows (names_in book) text (at + 2) t b.0 b.1.0, terms_grow (names_in book) text b.0 (cons u nil) e b.1.1, a.fits)

module _ (book text : Bytes) (at : ℕ) where
  module _ (j k : ℕ) (is : num text (at + 2) ≡ j) (arity : k ≡ get_or (names_in book).relations j 0) where
    pub fact_terms : (n r : ℕ) (ts : Terms) (e : ℕ) → LiteralAt book text at n (fact r ts) e → (r ≡ j) × TermsAt book text (at + 4) k n ts e
    unfolding LiteralText
    fact_terms n r ts e a =
        let p : r ≡ j = sym a.stands.1.0 ∙ is in (
          p,
          record {
            wf = a.wf.1;
            stands = a.stands.1.1.1;
            counted = a.stands.1.1.0 ∙ ap (λ g. get_or (names_in book).relations g 0) p ∙ sym arity;
            fits = a.fits;
          },
        )

  pub same_terms : (n : ℕ) (t u : Term) (e : ℕ) → LiteralAt book text at n (same t u) e → TermsAt book text (at + 2) 2 n (cons t (cons u nil)) e
  unfolding LiteralText count
  same_terms n t u e a = record { wf = (a.wf.0, (a.wf.1, tt)); stands = a.stands.1; counted = refl; fits = a.fits }

  pub same_sides : (n : ℕ) (t u : Term) (e : ℕ) → LiteralAt book text at n (same t u) e → (g : ℕ) × (TermAt book text (at + 2) n t g × TermAt book text g n u e)
  unfolding TermsText
  same_sides n t u e a =
      let p = terms_first book text (at + 2) 2 n (λ x. omega arith) t (cons u nil) e (same_terms n t u e a) in
      let q = terms_first book text p.0 1 n (λ x. omega arith) u nil e p.1.1 in
      (p.0, (p.1.0, subst (λ y. TermAt book text p.0 n u y) (sym q.1.1.stands) q.1.0))

-- The child's own flag, where it was not set before.
fits_still : {b : Bool} (lim : Limits) (m : Model) → b ≡ false → too_big lim m ≡ false → b || too_big lim m ≡ false
fits_still lim m e f = rw (e, f)

-- ---- both sides of an identity, wherever they come from

module _ (book : Bytes) (lim : Limits) (env : List ℕ) (z : Setting book lim env) (w : List ℕ) (k : Child) (s : Held book lim env z w k) where
  pub entered_told : (t : Term) (w₁ : List ℕ) → WfTerm t (names_in book) (length z.ms) → Carries lim w₁ (enter t k.model k.now z.ms).0 k.now
      → Told book lim env z w₁ (enter t k.model k.now z.ms).0 k.now
  entered_told t w₁ f c = record { tidy = (enter_entered (names_in book) (Yielded z.base) k.now z.ms z.means t k.model f s.told.tidy).tidy; carries = c }

  module _ (t u : Term) where
    abbrev left : Model × ℕ
    left = enter t k.model k.now z.ms

    abbrev right : Model × ℕ
    right = enter u left.0 k.now z.ms

    pub side_full_2 : (f : TooLarge) (w' : List ℕ) → Crowded lim right.0 → Records book lim env z (recorded lim z.ms (same t u) k) (Err f) w'
    unfolding recorded
    side_full_2 f w' c = or_r k.over (too_big lim right.0) (crowded_big lim right.0 c)

    pub side_full : (f : TooLarge) (w' : List ℕ) → Crowded lim left.0 → Records book lim env z (recorded lim z.ms (same t u) k) (Err f) w'
    side_full f w' c = side_full_2 f w' (crowded_grows lim left.0 right.0 (enter_grows u left.0 k.now z.ms) c)

    pub side_merged : WfTerm t (names_in book) (length z.ms) → WfTerm u (names_in book) (length z.ms) → (x y : ℕ) (w₂ w₃ : List ℕ) → x ≡ left.1 → y ≡ right.1 → Carries lim w₂ right.0 k.now
        → MergedForm lim x y w₂ w₃ → (done : Unit {0}) → Records book lim env z (recorded lim z.ms (same t u) k) (Ok done) w₃
    unfolding recorded
    side_merged f g x y w₂ w₃ i j c r done =
        let d = names_in book in
        let B = Yielded z.base in
        let n = enter_entered d B k.now z.ms z.means t k.model f s.told.tidy in
        let l = enter_entered d B k.now z.ms z.means u left.0 g n.tidy in
        let told : Told book lim env z w₂ right.0 k.now = record { tidy = l.tidy; carries = c } in
        let form : MergedForm lim left.1 right.1 w₂ w₃ = subst (λ v. MergedForm lim v right.1 w₂ w₃) i (subst (λ v. MergedForm lim x v w₂ w₃) j r) in
        let joined = merge_linked B left.1 right.1 right.0 k.now l.tidy.linked l.tidy.follows (l.stay left.1 n.yields.0) l.yields.0 in
        record {
          told = record {
            tidy = record { listed = merge_listed d left.1 right.1 right.0 k.now l.tidy.listed; linked = joined.0; follows = joined.1 };
            carries = merged_carries lim d w₂ w₃ right.0 k.now (told_holding told) s.digits left.1 right.1 form;
          };
          digits = merged_digits lim d w₂ w₃ right.0 k.now (told_holding told) s.digits left.1 right.1 form;
          within = fits_still lim right.0 s.within (small_fits lim right.0 (carries_small c));
        }

-- ---- a fact

module _ {C : Type 0} {book text : Bytes} {at m e : ℕ} where
  not_same : {t u : Term} → num text at ≡ 0 → LiteralAt book text at m (same t u) e → C
  unfolding LiteralText
  not_same h a = absurd (omega (arith, a.stands.0))

  not_fact : {r : ℕ} {ts : Terms} → (num text at ≡ 0 → ⊥) → LiteralAt book text at m (fact r ts) e → C
  unfolding LiteralText
  not_fact h a = absurd (h a.stands.0)

module _ {book text : Bytes} {at : ℕ} {lim : Limits} {env w : List ℕ} where
  pub literal_short : length text - at < 4 → (r : Result (Unit {0}) TooLarge) (w' : List ℕ) → IsRecorded book text at lim env w r w'
  literal_short h r w' z k s l e a = absurd (omega (arith, literal_grows book text at (length z.ms) l e a))

  module _ (fact_here : num text at ≡ 0) {j n : ℕ} (is : num text (at + 2) ≡ j) (arity : n ≡ get_or (names_in book).relations j 0) where
    pub fact_full : (f : TooLarge) (w' : List ℕ) → IsEnters book text (at + 4) n (start 0 j n) top lim env w None w' → IsRecorded book text at lim env w (Err f) w'
    unfolding recorded
    fact_full f w' g z k s (same t u) e a = not_same fact_here a
    fact_full f w' g z k s (fact r ts) e a =
        let p = fact_terms book text at j n is arity (length z.ms) r ts e a in
        let q = enters ts k.model k.now z.ms in
        let m = with_fact q.0 (rel r q.1) in
        or_r k.over (too_big lim m) (crowded_big lim m (crowded_fact lim q.0 (rel r q.1) (g z k.model k.now s.told ts e p.1)))

    module _ {x b : ℕ} {w₁ : List ℕ} (g : IsEnters book text (at + 4) n (start 0 j n) top lim env w (Some (x, b)) w₁) where
      -- What the entered terms give: the form that carries them, and the fact's number.
      module _ (z : Setting book lim env) (k : Child) (s : Held book lim env z w k) (r : ℕ) (ts : Terms) (e : ℕ) (a : LiteralAt book text at (length z.ms) (fact r ts) e) where
        abbrev q : Model × List ℕ
        q = enters ts k.model k.now z.ms

        abbrev f : Fact
        f = rel r q.1

        parts : (r ≡ j) × TermsAt book text (at + 4) n (length z.ms) ts e
        parts = fact_terms book text at j n is arity (length z.ms) r ts e a

        terms_told : Told book lim env z w₁ q.0 k.now
        terms_told = record {
          tidy = (enters_entered (names_in book) (Yielded z.base) k.now z.ms z.means ts k.model a.wf.1 s.told.tidy).tidy;
          carries = (g z k.model k.now s.told ts e parts.1).1.1;
        }

        yields : All (Yielded q.0.keys) q.1
        yields = (enters_entered (names_in book) (Yielded z.base) k.now z.ms z.means ts k.model a.wf.1 s.told.tidy).yields

        counted : length q.1 ≡ sound.count ts
        counted = enters_count (names_in book) (Yielded z.base) k.now z.ms z.means ts k.model

        declared : T (has_arity (names_in book).relations r (length q.1))
        declared = subst (λ y. T (has_arity (names_in book).relations r y)) (sym counted) a.wf.0

        fits : FitsFact (arity_of (names_in book)) f
        fits = record {
          key = fact_fits (names_in book) z.small r q.1 declared (all_all (Yielded q.0.keys) Octet (yielded_octet (told_holding terms_told)) q.1 yields);
          value = omega arith;
        }

        number : x ≡ pack_key (fact_key f)
        number =
            (g z k.model k.now s.told ts e parts.1).1.0
            ∙ ap₂ (λ (y c : ℕ). pack_args (start 0 y c) top q.1) (sym parts.0) (sym (counted ∙ sym (counts_agree ts) ∙ parts.1.counted)) ∙ pack_args_lem 0 r q.1 fits.key.few

        fit : All (FitsFact (arity_of (names_in book))) q.0.facts
        fit = (neat_facts_shown (names_in book) z.small lim q.0 (told_holding terms_told).neat z.few (view_of lim w₁).facts terms_told.carries.facts).facts_fit

        -- The fact is in its place, or there is no room for it.
        put_done : (done : Unit {0}) (w₂ : List ℕ) → PutFact lim x w₁ (Ok done) w₂ → Records book lim env z (recorded lim z.ms (fact r ts) k) (Ok done) w₂
        unfolding recorded
        put_done done w₂ p =
            let c = fact_carried lim (names_in book) w₁ q.0 k.now terms_told.carries fit f fits x number w₂ done p in
            record {
              told = record {
                tidy = fact_tidy (names_in book) (Yielded z.base) k.now q.0 f terms_told.tidy yields (unfold fact_declared in declared);
                carries = c;
              };
              digits = s.digits;
              within = fits_still lim (with_fact q.0 f) s.within (small_fits lim (with_fact q.0 f) (carries_small c));
            }

        put_over : (g : TooLarge) (w₂ : List ℕ) → PutFact lim x w₁ (Err g) w₂ → Records book lim env z (recorded lim z.ms (fact r ts) k) (Err g) w₂
        unfolding recorded
        put_over g w₂ p =
            let l = fact_crowds lim (names_in book) w₁ q.0 k.now terms_told.carries fit f fits x number w₂ g p in
            or_r k.over (too_big lim (with_fact q.0 f)) (unfold too_big in or_r (ltb lim.elements q.0.created) _ (or_r (ltb lim.keys (length q.0.keys)) _ (lt→ltb lim.facts _ l)))

      pub fact_large : 72057594037927936 ≤ x → (o : Result (Unit {0}) TooLarge) (w' : List ℕ) → IsRecorded book text at lim env w o w'
      fact_large l o w' z k s (same t u) e a = not_same fact_here a
      fact_large l o w' z k s (fact r ts) e a = absurd (omega (arith, number z k s r ts e a, fits_low (fact_key (f z k s r ts e a)) (fits z k s r ts e a).key))

      pub fact_put : {o : Result (Unit {0}) TooLarge} {w₂ : List ℕ} → PutFact lim x w₁ o w₂ → IsRecorded book text at lim env w o w₂
      fact_put p z k s (same t u) e a = not_same fact_here a
      fact_put {o = Ok done} {w₂} p z k s (fact r ts) e a = put_done z k s r ts e a done w₂ p
      fact_put {o = Err g} {w₂} p z k s (fact r ts) e a = put_over z k s r ts e a g w₂ p

  -- ---- an identity

  module _ (no-fact : num text at ≡ 0 → ⊥) where
    pub same_full : (f : TooLarge) (w' : List ℕ) → IsEnter book text (at + 2) lim env w None w' → IsRecorded book text at lim env w (Err f) w'
    same_full f w' g z k s (fact r ts) e a = not_fact no-fact a
    same_full f w' g z k s (same t u) e a =
        let p = same_sides book text at (length z.ms) t u e a in
        side_full book lim env z w k s t u f w' (g z k.model k.now s.told t p.0 p.1.0)

    module _ {x b : ℕ} {w₁ : List ℕ} (g : IsEnter book text (at + 2) lim env w (Some (x, b)) w₁) where
      module _ (z : Setting book lim env) (k : Child) (s : Held book lim env z w k) (t u : Term) (e : ℕ) (a : LiteralAt book text at (length z.ms) (same t u) e) where
        sides : (y : ℕ) × (TermAt book text (at + 2) (length z.ms) t y × TermAt book text y (length z.ms) u e)
        sides = same_sides book text at (length z.ms) t u e a

        first_told : Told book lim env z w₁ (enter t k.model k.now z.ms).0 k.now
        first_told = entered_told book lim env z w k s t w₁ sides.1.0.wf (g z k.model k.now s.told t sides.0 sides.1.0).1.1

        second_at : TermAt book text b (length z.ms) u e
        second_at = subst (λ y. TermAt book text y (length z.ms) u e) (sym (g z k.model k.now s.told t sides.0 sides.1.0).0) sides.1.1

      pub same_full_2 : (f : TooLarge) (w' : List ℕ) → IsEnter book text b lim env w₁ None w' → IsRecorded book text at lim env w (Err f) w'
      same_full_2 f w' h z k s (fact r ts) e a = not_fact no-fact a
      same_full_2 f w' h z k s (same t u) e a =
          side_full_2 book lim env z w k s t u f w' (h z (enter t k.model k.now z.ms).0 k.now (first_told z k s t u e a) u e (second_at z k s t u e a))

      pub same_merged : {y c : ℕ} {w₂ w₃ : List ℕ} → IsEnter book text b lim env w₁ (Some (y, c)) w₂ → MergedForm lim x y w₂ w₃ → (done : Unit {0})
          → IsRecorded book text at lim env w (Ok done) w₃
      same_merged h r done z k s (fact i ts) e a = not_fact no-fact a
      same_merged {y} {c} {w₂} {w₃} h r done z k s (same t u) e a =
          let v = sides z k s t u e a in
          let i = g z k.model k.now s.told t v.0 v.1.0 in
          let o = h z (enter t k.model k.now z.ms).0 k.now (first_told z k s t u e a) u e (second_at z k s t u e a) in
          side_merged book lim env z w k s t u v.1.0.wf v.1.1.wf x y w₂ w₃ i.1.0 o.1.0 o.1.1 r done
