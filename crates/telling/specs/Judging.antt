-- One law for each way out of judging a literal, and of telling it.
use Rattle.std.specs.Prelude.{◌≡◌, ℕ, ◌+◌, ◌-◌, ◌<◌, Bool, true, false, Ok, Err, List, map, length, get_or}
use Rattle.std.proofs.Math.Path.{refl, sym}
use Rattle.std.proofs.Common.{ap, ◌∙◌, arith}
use Rattle.base.specs.Branch.{if}
use Rattle.base.specs.Lists.{firsts}
use Rattle.rules.specs.Book.{nil, cons, Literal, fact, same}
use Rattle.rules.specs.Reading.{Bytes, num}
use Rattle.rules.specs.Sheet.{Model, domain, Limits}
use Rattle.rules.specs.Look.{observed}
use Rattle.rules.specs.Bound.{Bound, History, terms_of, admitted}
use Rattle.rules.specs.Child.{Child, recorded, tell}
use Rattle.packing.specs.Pack.{arity_of}
use Rattle.packing.specs.Replace.{value_of}
use Rattle.texts.specs.Names.{names_in}
use Rattle.texts.specs.Text.{LiteralText}
use Rattle.domains.specs.Firsts.{domain_is_lem}
use Rattle.look.specs.Shown.{Shown, FactsShown, neat_keys_fit, neat_shown, neat_facts_shown}
use Rattle.look.specs.Answers as look
use Rattle.showing.specs.Tables.{TablesOf}
use Rattle.enter.specs.Terms.{Setting, Told, told_holding}
use Rattle.bound.specs.Seen.{setting_means}
use Rattle.bound.specs.Answers.{IsAdmitted}
use Rattle.telling.specs.declared.Judged.TheVariants.{Cut, Seen, New}
use Rattle.telling.specs.declared.TooLarge.{TooLarge}
use Rattle.telling.specs.Literals.{Held, LiteralAt, Records, IsRecorded, IsAllowed, IsJudged, Goes, IsTold}
use Rattle.telling.specs.Ways.{literal_grows, fact_terms, same_terms}

-- ---- what the bound says of a literal

module _ {book text : Bytes} {at : ℕ} (b : Bound) (size : ℕ) {lim : Limits} {env w dom : List ℕ} where
  pub allowed_short : length text - at < 4 → IsAllowed book text at b size lim env w dom false
  allowed_short h z m now t d l e a = absurd (omega (arith, literal_grows book text at (length z.ms) l e a))

  pub allowed_fact : num text at ≡ 0 → {j n : ℕ} → num text (at + 2) ≡ j → n ≡ get_or (names_in book).relations j 0 → {r : Bool}
      → IsAdmitted book text (at + 4) n b size lim env w dom r → IsAllowed book text at b size lim env w dom r
  unfolding LiteralText terms_of
  allowed_fact k {j} {n} is arity g z m now t d (fact q ts) e a = g z m now t d ts e (fact_terms book text at j n is arity (length z.ms) q ts e a).1
  allowed_fact k {j} {n} is arity g z m now t d (same u v) e a = absurd (omega (arith, a.stands.0))

  pub allowed_same : (num text at ≡ 0 → ⊥) → {r : Bool} → IsAdmitted book text (at + 2) 2 b size lim env w dom r → IsAllowed book text at b size lim env w dom r
  unfolding LiteralText terms_of
  allowed_same k g z m now t d (fact q ts) e a = absurd (k a.stands.0)
  allowed_same k g z m now t d (same u v) e a = g z m now t d (cons u (cons v nil)) e (same_terms book text at (length z.ms) u v e a)

-- ---- judging

-- The domain that was listed is the model's.
module _ (book : Bytes) (lim : Limits) (env w keys facts dom : List ℕ) (tables : TablesOf lim w keys facts dom) (z : Setting book lim env) (m : Model) (now : History) (t : Told book lim env z w m now) where
  pub domain_here : dom ≡ domain m
  domain_here =
      tables.domain_is ∙ ap (λ (l : List ℕ). firsts (map value_of l)) t.carries.keys
      ∙ domain_is_lem (arity_of (names_in book)) m (neat_keys_fit (names_in book) z.small lim m (told_holding t).neat z.few)

  -- What the tables show.
  pub keys_here : Shown (names_in book) m keys dom
  keys_here = neat_shown (names_in book) z.small lim m (told_holding t).neat z.few keys dom (tables.keys_are ∙ t.carries.keys) domain_here

  pub facts_here : FactsShown (names_in book) m facts
  facts_here = neat_facts_shown (names_in book) z.small lim m (told_holding t).neat z.few facts (tables.facts_are ∙ t.carries.facts)

module _ {book text : Bytes} {at : ℕ} (b : Bound) {lim : Limits} {env w keys facts dom : List ℕ} (tables : TablesOf lim w keys facts dom) where
  module _ {r : Bool} (allowed : IsAllowed book text at b (length dom) lim env w dom r) where
    asked : (z : Setting book lim env) (k : Child) → Held book lim env z w k → (l : Literal) (e : ℕ) → LiteralAt book text at (length z.ms) l e
        → admitted b (length (domain k.model)) (terms_of l) k.model k.now z.ms ≡ r
    asked z k s l e a =
        ap (λ (d : List ℕ). admitted b (length d) (terms_of l) k.model k.now z.ms) (sym (domain_here book lim env w keys facts dom tables z k.model k.now s.told))
        ∙ sym (allowed z k.model k.now s.told (domain_here book lim env w keys facts dom tables z k.model k.now s.told) l e a)

    pub judged_cut : r ≡ false → IsJudged book text at b lim env w Cut
    judged_cut q z k s l e a = asked z k s l e a ∙ q

    module _ {o : Bool} (g : look.IsObserved book text at env keys facts dom o) where
      seen : (z : Setting book lim env) (k : Child) → Held book lim env z w k → (l : Literal) (e : ℕ) → LiteralAt book text at (length z.ms) l e
          → observed k.model z.ms l ≡ o
      seen z k s l e a =
          let t = s.told in
          sym (g k.model z.ms l e (record {
            shown = keys_here book lim env w keys facts dom tables z k.model k.now t;
            held = facts_here book lim env w keys facts dom tables z k.model k.now t;
            means = setting_means z;
            wf = a.wf;
            stands = a.stands;
            fits = a.fits;
          }))

      pub judged_seen : r ≡ true → o ≡ true → IsJudged book text at b lim env w Seen
      judged_seen p q z k s l e a = (asked z k s l e a ∙ p, seen z k s l e a ∙ q)

      pub judged_new : r ≡ true → o ≡ false → IsJudged book text at b lim env w New
      judged_new p q z k s l e a = (asked z k s l e a ∙ p, seen z k s l e a ∙ q)

-- ---- telling

-- The three ways of the definition.
module _ (book : Bytes) (lim : Limits) (b : Bound) (env w : List ℕ) (z : Setting book lim env) (k : Child) (s : Held book lim env z w k) (l : Literal) where
  abbrev asks : Bool
  asks = admitted b (length (domain k.model)) (terms_of l) k.model k.now z.ms

  pub tell_cut : asks ≡ false → Goes book lim env z (tell lim b z.ms l k) (Ok true) w
  unfolding tell if
  tell_cut p = rw p (record { told = s.told; digits = s.digits; within = s.within }, refl)

  pub tell_seen : (cut : Bool) → cut ≡ k.cut → asks ≡ true → observed k.model z.ms l ≡ true → Goes book lim env z (tell lim b z.ms l k) (Ok cut) w
  unfolding tell if
  tell_seen cut c p q = rw (p, q) (s, c)

  recorded_cut : (l : Literal) → (recorded lim z.ms l k).cut ≡ k.cut
  unfolding recorded
  recorded_cut (fact r ts) = refl
  recorded_cut (same t u) = refl

  module _ (cut : Bool) (c : cut ≡ k.cut) (p : asks ≡ true) (q : observed k.model z.ms l ≡ false) (w' : List ℕ) where
    pub tell_recorded : (done : Unit {0}) → Records book lim env z (recorded lim z.ms l k) (Ok done) w' → Goes book lim env z (tell lim b z.ms l k) (Ok cut) w'
    unfolding tell if
    tell_recorded done g = rw (p, q) (g, c ∙ sym (recorded_cut l))

    pub tell_over : (e : TooLarge) → Records book lim env z (recorded lim z.ms l k) (Err e) w' → Goes book lim env z (tell lim b z.ms l k) (Err e) w'
    unfolding tell if
    tell_over e g = rw (p, q) g

module _ {book text : Bytes} {at : ℕ} (b : Bound) {lim : Limits} {env : List ℕ} {cut : Bool} {w : List ℕ} where
  pub told_cut : IsJudged book text at b lim env w Cut → IsTold book text at b lim env cut w (Ok true) w
  told_cut g z k s c l e a = tell_cut book lim b env w z k s l (g z k s l e a)

  pub told_seen : IsJudged book text at b lim env w Seen → IsTold book text at b lim env cut w (Ok cut) w
  told_seen g z k s c l e a = let p = g z k s l e a in tell_seen book lim b env w z k s l cut c p.0 p.1

  module _ (g : IsJudged book text at b lim env w New) (w' : List ℕ) where
    pub told_new : (done : Unit {0}) → IsRecorded book text at lim env w (Ok done) w' → IsTold book text at b lim env cut w (Ok cut) w'
    told_new done h z k s c l e a = let p = g z k s l e a in tell_recorded book lim b env w z k s l cut c p.0 p.1 w' done (h z k s l e a)

    pub told_over : (f : TooLarge) → IsRecorded book text at lim env w (Err f) w' → IsTold book text at b lim env cut w (Err f) w'
    told_over f h z k s c l e a = let p = g z k s l e a in tell_over book lim b env w z k s l cut c p.0 p.1 w' f (h z k s l e a)
