-- "v = v" told to a child, for an existential v: it is in no text, so it is judged and recorded by its variable.
use Rattle.std.specs.Prelude.{◌≡◌, refl, ℕ, suc, ◌+◌, ◌≤◌, ◌<◌, Bool, true, false, List, length, take, Some, None, Result, Ok, Err}
use Rattle.std.specs.Prelude as std
use Rattle.std.proofs.Math.Path.{sym}
use Rattle.std.proofs.Common.{ap, ap₂, ◌∙◌, add-one}
use Rattle.std.proofs.Math.Option.{Option, none, some}
use borrow.Author.Tests.{eq-eqb}
use Rattle.base.specs.Branch.{if, case_o}
use Rattle.rules.specs.Book.{var, Literal, same}
use Rattle.rules.specs.Reading.{Bytes}
use Rattle.rules.specs.Sheet.{domain, Limits}
use Rattle.rules.specs.Look.{look, observed}
use Rattle.rules.specs.Bound.{Bound, depth, terms_of, admits, admitted}
use Rattle.rules.specs.Child.{enter, Child, recorded, tell}
use Rattle.tables.specs.Table.{option_of}
use Rattle.texts.specs.Names.{names_in}
use Rattle.look.specs.Answers as look
use Rattle.merge.specs.Merged.{MergedForm}
use Rattle.showing.specs.Tables.{TablesOf}
use Rattle.enter.specs.Terms.{Setting, Told, IsVariable}
use Rattle.bound.specs.Seen.{setting_means}
use Rattle.bound.specs.Answers.{IsDepthVariable}
use Rattle.bound.specs.Ways.{depth_unknown, unknown_depth}
use Rattle.telling.specs.declared.Judged.{Judged}
use Rattle.telling.specs.declared.Judged.TheVariants.{Cut, Seen, New}
use Rattle.telling.specs.declared.TooLarge.{TooLarge}
use Rattle.telling.specs.Literals.{Held, Records, JudgedAs, Goes}
use Rattle.telling.specs.Ways.{entered_told, side_full, side_full_2, side_merged}
use Rattle.telling.specs.Judging.{domain_here, keys_here, tell_cut, tell_seen, tell_recorded, tell_over}

abbrev pub own : ℕ → Literal
own v = same (var v) (var v)

-- ---- answers, in any setting

abbrev pub IsJudged : Bound → Limits → List ℕ → ℕ → List ℕ → Judged → Type 0
IsJudged b lim env v w r = (book : Bytes) (z : Setting book lim env) (k : Child) → Held book lim env z w k → v < length z.ms
    → JudgedAs (admitted b (length (domain k.model)) (terms_of (own v)) k.model k.now z.ms) (observed k.model z.ms (own v)) r

abbrev pub IsRecorded : Limits → List ℕ → ℕ → List ℕ → Result (Unit {0}) TooLarge → List ℕ → Type 0
IsRecorded lim env v w r w' = (book : Bytes) (z : Setting book lim env) (k : Child) → Held book lim env z w k → v < length z.ms
    → Records book lim env z (recorded lim z.ms (own v) k) r w'

abbrev pub IsOwn : Bound → Limits → List ℕ → ℕ → Bool → List ℕ → Result Bool TooLarge → List ℕ → Type 0
IsOwn b lim env v before w r w' = (book : Bytes) (z : Setting book lim env) (k : Child) → Held book lim env z w k → before ≡ k.cut → v < length z.ms
    → Goes book lim env z (tell lim b z.ms (own v) k) r w'

-- ---- judging

none_here : (o : Option ℕ) (x : std.Option ℕ) → x ≡ option_of o → std.is_some x ≡ false → o ≡ none
none_here none x e h = refl
none_here (some v) x e h = let z : true ≡ false = sym (ap std.is_some e) ∙ h in absurd (cc)

some_here : (o : Option ℕ) (x : std.Option ℕ) → x ≡ option_of o → std.is_some x ≡ true → (v : ℕ) × (o ≡ some v)
some_here none x e h = let z : false ≡ true = sym (ap std.is_some e) ∙ h in absurd (cc)
some_here (some v) x e h = (v, refl)

module _ (b : Bound) {lim : Limits} {env : List ℕ} {v : ℕ} {w keys facts dom : List ℕ} (tables : TablesOf lim w keys facts dom) {x : std.Option ℕ}
    (is : look.IsVariable env v keys dom x) where
  module _ (book : Bytes) (z : Setting book lim env) (k : Child) (s : Held book lim env z w k) (l : v < length z.ms) where
    looked : x ≡ option_of (look (var v) k.model z.ms)
    unfolding look
    looked = is (names_in book) k.model z.ms (keys_here book lim env w keys facts dom tables z k.model k.now s.told) (setting_means z) l

    unknown : std.is_some x ≡ false → look (var v) k.model z.ms ≡ none
    unknown h = none_here (look (var v) k.model z.ms) x looked h

    size : length dom ≡ length (domain k.model)
    size = ap (λ (l : List ℕ). length l) (domain_here book lim env w keys facts dom tables z k.model k.now s.told)

  pub judged_seen : std.is_some x ≡ true → IsJudged b lim env v w Seen
  unfolding terms_of admitted observed case_o
  judged_seen h book z k s l =
      let e = some_here (look (var v) k.model z.ms) x (looked book z k s l) h in
      (rw e.1, rw (e.1, eq-eqb e.0 e.0 refl))

  module _ (far : std.is_some x ≡ false) {d : ℕ} (deep : IsDepthVariable lim env v w d) where
    depth_here : (book : Bytes) (z : Setting book lim env) (k : Child) (s : Held book lim env z w k) (l : v < length z.ms) → d ≡ depth (var v) k.model k.now z.ms
    unfolding unknown_depth
    depth_here book z k s l = deep book z k.model k.now s.told l ∙ sym (depth_unknown (var v) k.model k.now z.ms (unknown book z k s l far))

    -- What the bound says of the first and the second side.
    first : (book : Bytes) (z : Setting book lim env) (k : Child) (s : Held book lim env z w k) (l : v < length z.ms) (r : Bool) → r ≡ admits b (length dom) d
        → admits b (length (domain k.model)) (depth (var v) k.model k.now z.ms) ≡ r
    first book z k s l r q = sym (q ∙ ap₂ (admits b) (size book z k s l) (depth_here book z k s l))

    second : (book : Bytes) (z : Setting book lim env) (k : Child) (s : Held book lim env z w k) (l : v < length z.ms) (r : Bool) → r ≡ admits b (length dom + 1) d
        → admits b (suc (length (domain k.model))) (depth (var v) k.model k.now z.ms) ≡ r
    second book z k s l r q = sym (q ∙ ap₂ (admits b) (add-one (length dom) ∙ ap suc (size book z k s l)) (depth_here book z k s l))

    pub judged_cut : {r : Bool} → r ≡ admits b (length dom) d → r ≡ false → IsJudged b lim env v w Cut
    unfolding terms_of admitted case_o if
    judged_cut {r} q f book z k s l = rw (unknown book z k s l far, first book z k s l r q, f)

    module _ {r t : Bool} (q : r ≡ admits b (length dom) d) (p : r ≡ true) (u : t ≡ admits b (length dom + 1) d) where
      pub judged_cut_2 : t ≡ false → IsJudged b lim env v w Cut
      unfolding terms_of admitted case_o if
      judged_cut_2 f book z k s l = rw (unknown book z k s l far, first book z k s l r q, p, second book z k s l t u, f)

      pub judged_new : t ≡ true → IsJudged b lim env v w New
      unfolding terms_of admitted observed case_o if
      judged_new f book z k s l = (rw (unknown book z k s l far, first book z k s l r q, p, second book z k s l t u, f), rw (unknown book z k s l far))

-- ---- recording

module _ {lim : Limits} {env : List ℕ} {v : ℕ} {w : List ℕ} (w₁ : List ℕ) where
  pub own_full : (f : TooLarge) → IsVariable lim env v w None w₁ → IsRecorded lim env v w (Err f) w₁
  unfolding enter
  own_full f g book z k s l = side_full book lim env z w k s (var v) (var v) f w₁ (g book z k.model k.now s.told l)

  module _ {x : ℕ} (w₂ : List ℕ) (g : IsVariable lim env v w (Some x) w₁) where
    told₁ : (book : Bytes) (z : Setting book lim env) (k : Child) (s : Held book lim env z w k) → v < length z.ms → Told book lim env z w₁ (enter (var v) k.model k.now z.ms).0 k.now
    unfolding enter
    told₁ book z k s l = entered_told book lim env z w k s (var v) w₁ l (g book z k.model k.now s.told l).1

    pub own_full_2 : (f : TooLarge) → IsVariable lim env v w₁ None w₂ → IsRecorded lim env v w (Err f) w₂
    unfolding enter
    own_full_2 f h book z k s l = side_full_2 book lim env z w k s (var v) (var v) f w₂ (h book z (enter (var v) k.model k.now z.ms).0 k.now (told₁ book z k s l) l)

    pub own_merged : {y : ℕ} {w₃ : List ℕ} → IsVariable lim env v w₁ (Some y) w₂ → MergedForm lim x y w₂ w₃ → (done : Unit {0}) → IsRecorded lim env v w (Ok done) w₃
    unfolding enter
    own_merged {y} {w₃} h r done book z k s l =
        let p = g book z k.model k.now s.told l in
        let q = h book z (enter (var v) k.model k.now z.ms).0 k.now (told₁ book z k s l) l in
        side_merged book lim env z w k s (var v) (var v) l l x y w₂ w₃ p.0 q.0 q.1 r done

-- ---- telling

module _ (b : Bound) {lim : Limits} {env : List ℕ} {v : ℕ} {cut : Bool} {w : List ℕ} where
  pub own_cut : IsJudged b lim env v w Cut → IsOwn b lim env v cut w (Ok true) w
  own_cut g book z k s c l = tell_cut book lim b env w z k s (own v) (g book z k s l)

  pub own_seen : IsJudged b lim env v w Seen → IsOwn b lim env v cut w (Ok cut) w
  own_seen g book z k s c l = let p = g book z k s l in tell_seen book lim b env w z k s (own v) cut c p.0 p.1

  module _ (g : IsJudged b lim env v w New) (w' : List ℕ) where
    pub own_new : (done : Unit {0}) → IsRecorded lim env v w (Ok done) w' → IsOwn b lim env v cut w (Ok cut) w'
    own_new done h book z k s c l = let p = g book z k s l in tell_recorded book lim b env w z k s (own v) cut c p.0 p.1 w' done (h book z k s l)

    pub own_over : (f : TooLarge) → IsRecorded lim env v w (Err f) w' → IsOwn b lim env v cut w (Err f) w'
    own_over f h book z k s c l = let p = g book z k s l in tell_over book lim b env w z k s (own v) cut c p.0 p.1 w' f (h book z k s l)
