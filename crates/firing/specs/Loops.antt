-- One law for each way out of the tests of literals, disjuncts, heads and sequents.
use Rattle.std.specs.Prelude.{◌≡◌, ℕ, zero, suc, ◌+◌, ◌-◌, ◌≤◌, ◌<◌, Bool, true, false, ◌&&◌, ◌||◌, List, [], ◌∷◌, ◌++◌, map, take}
use Rattle.std.specs.Prelude as std
use Rattle.std.proofs.Math.Path.{refl, sym, ap, ap₂, subst}
use Rattle.std.proofs.Common.{◌∙◌, length-take-le}
use native.Mathlib.Omega.{arith}
use Rattle.std.proofs.Math.Bool.{not}
use Rattle.std.proofs.Math.ListN.{length}
use Rattle.base.specs.Lists.{All, all, any}
use Rattle.base.specs.ListLaws.{all_all}
use Rattle.rules.specs.Book.{var, Literal, Disjunct, Sequent, Names, completed_disjunct, completed}
use Rattle.rules.specs.Reading.{Bytes, num}
use Rattle.rules.specs.Sheet.{Model}
use Rattle.rules.specs.Look.{Meaning, body_meanings, head_meanings, look, observed}
use Rattle.rules.specs.Fire.{disjunct_observed, body_observed, head_observed, fires}
use Rattle.soundness.specs.Book.{WfLiteral, WfOrigin, WfDisjunct}
use Rattle.tables.specs.Table.{is_some}
use Rattle.tables.specs.Ways.{some_is}
use Rattle.texts.specs.Reads.{Follow}
use Rattle.texts.specs.Names.{names_in}
use Rattle.texts.specs.Text.{LiteralText, DisjunctText}
use Rattle.texts.specs.Parts.{literals_grow, disjuncts_grow, disjunct_grows, sequent_grows}
use Rattle.look.specs.Shown.{Shown, Means}
use Rattle.look.specs.Answers.{LiteralAt, IsObserved, IsVariable}
use Rattle.skips.specs.Rest.{Skips}
use Rattle.firing.specs.Answers.{Elements, LiteralsAt, AllObserved, have_elements, HaveElements, MadeEnv, pack_origin, DisjunctAt, IsDisjunct, HeadAt, IsHead, SequentAt, Fires}
use Rattle.firing.specs.Mentions.{disjunct_fails, disjunct_has}
use Rattle.soundness.specs.Child.{head_length}
use Rattle.firing.specs.Means.{body_means, body_length, head_means, few_args}

-- ---- literals

-- After i literals: those still to come have the whole's answer.
pub record LiteralsRest (book text : Bytes) (p k : ℕ) (env keys facts dom : List ℕ) (m : Model) (ms : List Meaning) (e : ℕ) (whole : Bool) : Type 0 where
  pub rest : List Literal
  pub ats : LiteralsAt book text p k env keys facts dom m ms rest e
  pub is : whole ≡ all (observed m ms) rest

abbrev pub LiteralsLeft : Bytes → Bytes → ℕ → ℕ → List ℕ → List ℕ → List ℕ → List ℕ → ℕ → ℕ → Type 0
LiteralsLeft book text at n env keys facts dom i p = (m : Model) (ms : List Meaning) (ls : List Literal) (e : ℕ)
    → LiteralsAt book text at n env keys facts dom m ms ls e → LiteralsRest book text p (n - i) env keys facts dom m ms e (all (observed m ms) ls)

module _ (book text : Bytes) (at n : ℕ) (env keys facts dom : List ℕ) where
  pub literals_start : LiteralsLeft book text at n env keys facts dom 0 at
  literals_start m ms ls e s = record {
    rest = ls;
    ats = record { sees = s.sees; means = s.means; wf = s.wf; stand = s.stand; counted = (let z = s.counted in omega arith); fits = s.fits };
    is = refl;
  }

  module _ (i p : ℕ) (left : LiteralsLeft book text at n env keys facts dom i p) where
    -- The next literal, and those behind it.
    first : (m : Model) (ms : List Meaning) (e : ℕ) (k : ℕ) (l : Literal) (rs : List Literal) → LiteralsAt book text p k env keys facts dom m ms (l ∷ rs) e
        → (b : ℕ) × (LiteralAt book text p env keys facts dom m ms l b × LiteralsAt book text b (k - 1) env keys facts dom m ms rs e)
    unfolding Follow
    first m ms e k l rs s =
        let b = s.stand.0 in
        let g = literals_grow (names_in book) text b rs e s.stand.1.1 in
        let f = s.fits in
        let z = s.counted in (
          b,
          (
            record { shown = s.sees.shown; held = s.sees.held; means = s.means; wf = s.wf.0; stands = s.stand.1.0; fits = omega arith },
            record { sees = s.sees; means = s.means; wf = s.wf.1; stand = s.stand.1.1; counted = omega arith; fits = f },
          ),
        )

    pub literals_stop : i < n → IsObserved book text p env keys facts dom false → AllObserved book text at n env keys facts dom false
    literals_stop h o m ms ls e s = let r = left m ms ls e s in go r.rest r.ats r.is
      where
        go : (rs : List Literal) → LiteralsAt book text p (n - i) env keys facts dom m ms rs e → all (observed m ms) ls ≡ all (observed m ms) rs → false ≡ all (observed m ms) ls
        go [] a q = let z = a.counted in absurd (omega arith)
        go (l ∷ rs) a q = let f = first m ms e (n - i) l rs a in sym (q ∙ ap (λ (b : Bool). b && all (observed m ms) rs) (sym (o m ms l f.0 f.1.0)))

    pub literals_next : (q : ℕ) → i < n → IsObserved book text p env keys facts dom true → Skips (LiteralText (names_in book) text) (length text) p q
        → LiteralsLeft book text at n env keys facts dom (i + 1) q
    literals_next q h o k m ms ls e s = let r = left m ms ls e s in go r.rest r.ats r.is
      where
        go : (rs : List Literal) → LiteralsAt book text p (n - i) env keys facts dom m ms rs e → all (observed m ms) ls ≡ all (observed m ms) rs
            → LiteralsRest book text q (n - (i + 1)) env keys facts dom m ms e (all (observed m ms) ls)
        go [] a w = let z = a.counted in absurd (omega arith)
        go (l ∷ rs) a w =
            let f = first m ms e (n - i) l rs a in
            let b = f.1.0 in
            let y : q ≡ f.0 = k l f.0 b.stands b.fits in
            let x : n - i - 1 ≡ n - (i + 1) = omega arith in
            record {
              rest = rs;
              ats = subst (λ j. LiteralsAt book text q j env keys facts dom m ms rs e) x (subst (λ j. LiteralsAt book text j (n - i - 1) env keys facts dom m ms rs e) (sym y) f.1.1);
              is = w ∙ ap (λ (c : Bool). c && all (observed m ms) rs) (sym (o m ms l f.0 b));
            }

    pub literals_end : n ≤ i → AllObserved book text at n env keys facts dom true
    literals_end h m ms ls e s = let r = left m ms ls e s in go r.rest r.ats r.is
      where
        go : (rs : List Literal) → LiteralsAt book text p (n - i) env keys facts dom m ms rs e → all (observed m ms) ls ≡ all (observed m ms) rs → true ≡ all (observed m ms) ls
        go [] a q = sym q
        go (l ∷ rs) a q = let z = a.counted in absurd (omega arith)

-- ---- existentials

module _ (m : Model) (ms : List Meaning) where
  have_all : (v k : ℕ) → ((i : ℕ) → i < k → is_some (look (var (v + i)) m ms) ≡ true) → have_elements m ms v k ≡ true
  unfolding have_elements
  have_all v zero h = refl
  have_all v (suc k) h =
      let z : v + 0 ≡ v = omega arith in
      let r = have_all (suc v) k (λ i l. let y : v + suc i ≡ suc v + i = omega arith in subst (λ j. is_some (look (var j) m ms) ≡ true) y (h (suc i) (omega arith))) in
      ap₂ (λ (a b : Bool). a && b) (subst (λ j. is_some (look (var j) m ms) ≡ true) z (h 0 (omega arith))) r

  have_not : (v k i : ℕ) → i < k → is_some (look (var (v + i)) m ms) ≡ false → have_elements m ms v k ≡ false
  unfolding have_elements
  have_not v zero i l h = absurd (omega arith)
  have_not v (suc k) zero l h =
      let z : v + 0 ≡ v = omega arith in
      ap (λ (a : Bool). a && have_elements m ms (suc v) k) (subst (λ j. is_some (look (var j) m ms) ≡ false) z h)
  have_not v (suc k) (suc i) l h =
      let y : v + suc i ≡ suc v + i = omega arith in
      go (is_some (look (var v) m ms)) (have_not (suc v) k i (omega arith) (subst (λ j. is_some (look (var j) m ms) ≡ false) y h))
    where
      go : (a : Bool) → have_elements m ms (suc v) k ≡ false → a && have_elements m ms (suc v) k ≡ false
      go true e = e
      go false e = refl

module _ (v k : ℕ) (env keys dom : List ℕ) where
  -- Whether variable i of those from v on has an element, by what a look answers.
  pub record Seen (i : ℕ) (b : Bool) : Type 0 where
    pub answer : std.Option ℕ
    pub is : IsVariable env (v + i) keys dom answer
    pub tests : std.is_some answer ≡ b

  seen : (i : ℕ) (b : Bool) → Seen i b → i < k → (d : Names) (m : Model) (ms : List Meaning) → Shown d m keys dom → Means d env ms → v + k ≤ length ms
      → is_some (look (var (v + i)) m ms) ≡ b
  unfolding look
  seen i b s h d m ms x y l = sym (some_is (look (var (v + i)) m ms) s.answer (s.is d m ms x y (omega arith))) ∙ s.tests

  pub elements_all : ((i : ℕ) → i < k → Seen i true) → HaveElements v k env keys dom true
  elements_all f d m ms x y l = sym (have_all m ms v k (λ i h. seen i true (f i h) h d m ms x y l))

  pub elements_not : (i : ℕ) → i < k → Seen i false → HaveElements v k env keys dom false
  elements_not i h s d m ms x y l = sym (have_not m ms v k i h (seen i false s h d m ms x y l))

-- ---- a disjunct

module _ (book text : Bytes) (at : ℕ) (env : List ℕ) (v : ℕ) (keys facts dom : List ℕ) (elements : Elements env v) where
  pub disjunct_short : (r : Bool) → length text - at < 2 → IsDisjunct book text at env v keys facts dom r
  disjunct_short r h m d e s = let g = disjunct_grows (names_in book) text at d e s.stands in let f = s.fits in absurd (omega arith)

  pub disjunct_wide : (k : ℕ) (r : Bool) → k ≡ num text at → length env - v < k → IsDisjunct book text at env v keys facts dom r
  disjunct_wide k r q h m d e s = let f = s.few in let z = s.stands.count in let w = elements.0 in absurd (omega arith)

  module _ (k : ℕ) (q : k ≡ num text at) (env' : List ℕ) (b : ℕ) (made : MadeEnv book text (at + 2) k env v env' b) where
    made_of : (m : Model) (d : Disjunct) (e : ℕ) (s : DisjunctAt book text at (length env) v keys facts dom m d e)
        → (take (v + k) env' ≡ take v env ++ map (pack_origin (take v env)) d.origins) × (b ≡ s.stands.middle)
    made_of m d e s =
        let g = disjunct_grows (names_in book) text at d e s.stands in
        let f = s.fits in
        let l = length-take-le v env elements.0 in
        made d.origins s.stands.middle (record {
          wf = s.wf.0;
          few = few_args (names_in book) s.sees.shown.small (take v env) elements.1 d (subst (λ j. All (WfOrigin (names_in book) j) d.origins) (sym l) s.wf.0);
          stand = s.stands.origins;
          counted = sym (q ∙ s.stands.count);
          fits = omega arith;
        })

    pub disjunct_cut : (r : Bool) → length text - b < 2 → IsDisjunct book text at env v keys facts dom r
    disjunct_cut r h m d e s =
        let g = disjunct_grows (names_in book) text at d e s.stands in
        let f = s.fits in
        let z = (made_of m d e s).1 in
        absurd (omega arith)

    -- Its literals over the environment that was made.
    literals : (m : Model) (d : Disjunct) (e : ℕ) → DisjunctAt book text at (length env) v keys facts dom m d e
        → LiteralsAt book text (b + 2) (num text b) (take (v + k) env') keys facts dom m (head_meanings (take v env) d) d.literals e
    literals m d e s =
        let z = made_of m d e s in
        let l = length-take-le v env elements.0 in
        record {
          sees = s.sees;
          means = head_means (names_in book) s.sees.shown.small (take v env) elements.1 d
              (subst (λ j. All (WfOrigin (names_in book) j) d.origins) (sym l) s.wf.0) (take (v + k) env') z.0;
          wf = subst (λ j. All (WfLiteral (names_in book) j) d.literals) (sym (head_length (take v env) d ∙ ap (λ j. j + length d.origins) l)) s.wf.1;
          stand = subst (λ j. Follow (LiteralText (names_in book) text) (j + 2) d.literals e) (sym z.1) s.stands.literals;
          counted = sym (ap (num text) z.1 ∙ s.stands.literal_count);
          fits = s.fits;
        }

    pub disjunct_not : AllObserved book text (b + 2) (num text b) (take (v + k) env') keys facts dom false → IsDisjunct book text at env v keys facts dom false
    disjunct_not o m d e s = sym (disjunct_fails m (take v env) v d (sym (o m (head_meanings (take v env) d) d.literals e (literals m d e s))))

    pub disjunct_is : (r : Bool) → AllObserved book text (b + 2) (num text b) (take (v + k) env') keys facts dom true → HaveElements v k (take (v + k) env') keys dom r
        → IsDisjunct book text at env v keys facts dom r
    disjunct_is r o x m d e s =
        let ls = literals m d e s in
        let c : k ≡ length d.origins = q ∙ s.stands.count in
        let w = head_length (take v env) d in
        let l = length-take-le v env elements.0 in
        x (names_in book) m (head_meanings (take v env) d) s.sees.shown ls.means (omega arith)
        ∙ ap (have_elements m (head_meanings (take v env) d) v) c
        ∙ sym (disjunct_has m (take v env) v d (sym (o m (head_meanings (take v env) d) d.literals e ls)))

-- Only the chosen elements of the environment matter, and its length.
pub disjunct_env : (book text : Bytes) (at : ℕ) (env env₀ : List ℕ) (v : ℕ) (keys facts dom : List ℕ) (r : Bool) → length env ≡ length env₀ → take v env ≡ take v env₀
    → IsDisjunct book text at env v keys facts dom r → IsDisjunct book text at env₀ v keys facts dom r
disjunct_env book text at env env₀ v keys facts dom r l t f m d e s =
    f m d e (subst (λ j. DisjunctAt book text at j v keys facts dom m d e) (sym l) s) ∙ ap (λ (c : List ℕ). disjunct_observed m c (completed_disjunct v d)) t

-- ---- a head

pub record HeadRest (book text : Bytes) (p k room v : ℕ) (c keys facts dom : List ℕ) (m : Model) (e : ℕ) (whole : Bool) : Type 0 where
  pub rest : List Disjunct
  pub ats : HeadAt book text p k room v keys facts dom m rest e
  pub is : whole ≡ any (disjunct_observed m c) (map (completed_disjunct v) rest)

abbrev pub HeadLeft : Bytes → Bytes → ℕ → ℕ → List ℕ → ℕ → List ℕ → List ℕ → List ℕ → ℕ → ℕ → Type 0
HeadLeft book text at n env v keys facts dom i p = (m : Model) (ds : List Disjunct) (e : ℕ) → HeadAt book text at n (length env) v keys facts dom m ds e
    → HeadRest book text p (n - i) (length env) v (take v env) keys facts dom m e (any (disjunct_observed m (take v env)) (map (completed_disjunct v) ds))

module _ (book text : Bytes) (at n : ℕ) (env : List ℕ) (v : ℕ) (keys facts dom : List ℕ) where
  pub head_start : HeadLeft book text at n env v keys facts dom 0 at
  head_start m ds e s = record {
    rest = ds;
    ats = record { sees = s.sees; wf = s.wf; few = s.few; stand = s.stand; counted = (let z = s.counted in omega arith); fits = s.fits };
    is = refl;
  }

  module _ (i p : ℕ) (left : HeadLeft book text at n env v keys facts dom i p) where
    first_disjunct : (m : Model) (e k : ℕ) (d : Disjunct) (rs : List Disjunct) → HeadAt book text p k (length env) v keys facts dom m (d ∷ rs) e
        → (b : ℕ) × (DisjunctAt book text p (length env) v keys facts dom m d b × HeadAt book text b (k - 1) (length env) v keys facts dom m rs e)
    unfolding Follow
    first_disjunct m e k d rs s =
        let b = s.stand.0 in
        let g = disjuncts_grow (names_in book) text b rs e s.stand.1.1 in
        let f = s.fits in
        let z = s.counted in (
          b,
          (
            record { sees = s.sees; wf = s.wf.0; few = s.few.0; stands = s.stand.1.0; fits = omega arith },
            record { sees = s.sees; wf = s.wf.1; few = s.few.1; stand = s.stand.1.1; counted = omega arith; fits = f },
          ),
        )

    pub head_stop : i < n → IsDisjunct book text p env v keys facts dom true → IsHead book text at n env v keys facts dom true
    head_stop h o m ds e s = let r = left m ds e s in go r.rest r.ats r.is
      where
        go : (rs : List Disjunct) → HeadAt book text p (n - i) (length env) v keys facts dom m rs e
            → any (disjunct_observed m (take v env)) (map (completed_disjunct v) ds) ≡ any (disjunct_observed m (take v env)) (map (completed_disjunct v) rs)
            → true ≡ any (disjunct_observed m (take v env)) (map (completed_disjunct v) ds)
        go [] a q = let z = a.counted in absurd (omega arith)
        go (d ∷ rs) a q = let f = first_disjunct m e (n - i) d rs a in sym (q ∙ ap (λ (b : Bool). b || any (disjunct_observed m (take v env)) (map (completed_disjunct v) rs)) (sym (o m d f.0 f.1.0)))

    pub head_next : (q : ℕ) → i < n → IsDisjunct book text p env v keys facts dom false → Skips (DisjunctText (names_in book) text) (length text) p q
        → HeadLeft book text at n env v keys facts dom (i + 1) q
    head_next q h o k m ds e s = let r = left m ds e s in go r.rest r.ats r.is
      where
        go : (rs : List Disjunct) → HeadAt book text p (n - i) (length env) v keys facts dom m rs e
            → any (disjunct_observed m (take v env)) (map (completed_disjunct v) ds) ≡ any (disjunct_observed m (take v env)) (map (completed_disjunct v) rs)
            → HeadRest book text q (n - (i + 1)) (length env) v (take v env) keys facts dom m e (any (disjunct_observed m (take v env)) (map (completed_disjunct v) ds))
        go [] a w = let z = a.counted in absurd (omega arith)
        go (d ∷ rs) a w =
            let f = first_disjunct m e (n - i) d rs a in
            let b = f.1.0 in
            let y : q ≡ f.0 = k d f.0 b.stands b.fits in
            let x : n - i - 1 ≡ n - (i + 1) = omega arith in
            record {
              rest = rs;
              ats = subst (λ j. HeadAt book text q j (length env) v keys facts dom m rs e) x (subst (λ j. HeadAt book text j (n - i - 1) (length env) v keys facts dom m rs e) (sym y) f.1.1);
              is = w ∙ ap (λ (c : Bool). c || any (disjunct_observed m (take v env)) (map (completed_disjunct v) rs)) (sym (o m d f.0 b));
            }

    pub head_end : n ≤ i → IsHead book text at n env v keys facts dom false
    head_end h m ds e s = let r = left m ds e s in go r.rest r.ats r.is
      where
        go : (rs : List Disjunct) → HeadAt book text p (n - i) (length env) v keys facts dom m rs e
            → any (disjunct_observed m (take v env)) (map (completed_disjunct v) ds) ≡ any (disjunct_observed m (take v env)) (map (completed_disjunct v) rs)
            → false ≡ any (disjunct_observed m (take v env)) (map (completed_disjunct v) ds)
        go [] a q = sym q
        go (d ∷ rs) a q = let z = a.counted in absurd (omega arith)

-- ---- a sequent

module _ (book text : Bytes) (at : ℕ) (env : List ℕ) (v : ℕ) (keys facts dom : List ℕ) (elements : Elements env v) where
  body : (m : Model) (q : Sequent) (s : SequentAt book text keys facts dom m q) → v ≡ q.free
      → LiteralsAt book text 4 (num text 2) (take v env) keys facts dom m (body_meanings (take v env)) q.body s.stands.middle
  body m q s z =
      let g = sequent_grows (names_in book) text 0 q (length text) s.stands in
      let l = length-take-le v env elements.0 in
      record {
        sees = s.sees;
        means = body_means (names_in book) (take v env) elements.1;
        wf = subst (λ j. All (WfLiteral (names_in book) j) q.body) (sym (body_length (take v env) ∙ l ∙ z)) s.rule.wf.0;
        stand = s.stands.body;
        counted = sym s.stands.count;
        fits = omega arith;
      }

  pub fires_not : AllObserved book text 4 (num text 2) (take v env) keys facts dom false → Fires book text at env v keys facts dom false
  unfolding fires body_observed completed
  fires_not o m q s z w = ap (λ (b : Bool). b && not (head_observed m (completed q) (take v env))) (o m (body_meanings (take v env)) q.body s.stands.middle (body m q s z))

  pub fires_if : 8 ≤ length env → (h : Bool) → AllObserved book text 4 (num text 2) (take v env) keys facts dom true → IsHead book text (at + 2) (num text at) env v keys facts dom h
      → Fires book text at env v keys facts dom (not h)
  unfolding fires body_observed head_observed completed
  fires_if room h o i m q s z w =
      let g = sequent_grows (names_in book) text 0 q (length text) s.stands in
      let few = s.rule.few in
      let hd : HeadAt book text (at + 2) (num text at) (length env) v keys facts dom m q.head (length text) = record {
        sees = s.sees;
        wf = subst (λ j. All (WfDisjunct (names_in book) j) q.head) (sym z) s.rule.wf.1;
        few = all_all (λ (d : Disjunct). length d.origins ≤ 4) (λ (d : Disjunct). v + length d.origins ≤ length env) (λ d l. omega arith) q.head s.rule.few_origins;
        stand = subst (λ j. Follow (DisjunctText (names_in book) text) (j + 2) q.head (length text)) (sym w) s.stands.head;
        counted = sym (ap (num text) w ∙ s.stands.head_count);
        fits = omega arith;
      } in
      ap₂ (λ (a b : Bool). a && not b) (o m (body_meanings (take v env)) q.body s.stands.middle (body m q s z))
      (i m q.head (length text) hd ∙ ap (λ j. any (disjunct_observed m (take v env)) (map (completed_disjunct j) q.head)) z)
