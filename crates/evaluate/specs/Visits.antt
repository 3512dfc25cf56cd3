-- Sequents tried one after another, and a strategy's order as parts of the book's order.
use Rattle.std.specs.Prelude.{◌≡◌, refl, true, false, length, take, drop}
use Rattle.std.proofs.Common.{sym, ◌∙◌, length-take, length-drop}
use Rattle.std.specs.Prelude.{Some, None}
use Rattle.std.specs.Prelude as std
use Rattle.std.proofs.Math.Path.{ap, ap₂, subst}
use Prim.Native.Nat.{ℕ, zero, suc, ◌+◌, ◌-◌, ◌≤◌, ◌<◌}
use native.Mathlib.Omega.{arith}
use Rattle.std.proofs.Math.Option.{Option, none, some}
use mathlib.Core.List.{List, [], ◌∷◌, ◌++◌, map}
use Rattle.base.specs.Branch.{case_o}
use Rattle.base.specs.Lists.{first_of}
use Rattle.base.specs.ListLaws.{all_take, all_drop}
use Rattle.rules.specs.Book.{Sequent, Book, completed, rules}
use Rattle.rules.specs.Reading.{Bytes, num, got, read_book}
use Rattle.rules.specs.Sheet.{Model, domain}
use Rattle.rules.specs.Fire.{choices, fires, numbered, Firing, firing, Strategy, linear, fair, visits}
use Rattle.rules.specs.Pool.{strategy_of}
use Rattle.texts.specs.Reads.{Follow}
use Rattle.texts.specs.Names.{names_in, count_at, sequents_at}
use Rattle.texts.specs.Heads.{accepted}
use Rattle.texts.specs.Text.{SequentText}
use Rattle.texts.specs.Texts.{sequents_got}
use Rattle.texts.specs.Parts.{part, sequents_grow, sequent_part}
use Rattle.skips.specs.Rest.{Skips, SkipsMany}
use Rattle.firing.specs.Answers.{Sees, Rule, SequentAt, FirstChoice}
use Rattle.evaluate.specs.declared.Fired.{Fired}
use Rattle.evaluate.specs.Answers.{FiresAt, Answers, SequentsAt, FirstOf, Evaluates}
use Rattle.evaluate.specs.Rules.{book_rules}

-- ---- visits one after another

abbrev Visit : Type 0
Visit = ℕ × Sequent

-- A visit at which something fires, or nothing.
firing_here : (m : Model) (i : ℕ) (q : Sequent) (vs : List Visit) (c : List ℕ) → first_of (fires m q) (choices q.free (domain m)) ≡ some c
    → firing m ((i, q) ∷ vs) ≡ some (record { index = i; sequent = q; choice = c })
unfolding firing case_o
firing_here m i q vs c e = ap (λ (o : Option (List ℕ)). case_o o (λ _. firing m vs) (λ c. some (record { index = i; sequent = q; choice = c }))) e

firing_not : (m : Model) (i : ℕ) (q : Sequent) (vs : List Visit) → first_of (fires m q) (choices q.free (domain m)) ≡ none → firing m ((i, q) ∷ vs) ≡ firing m vs
unfolding firing case_o
firing_not m i q vs e = ap (λ (o : Option (List ℕ)). case_o o (λ _. firing m vs) (λ c. some (record { index = i; sequent = q; choice = c }))) e

-- Over any list of visits: those of a first part come first.
pub firing_append : (m : Model) (us vs : List Visit) → firing m (us ++ vs) ≡ case_o (firing m us) (λ _. firing m vs) some
unfolding firing case_o
firing_append m [] vs = refl
firing_append m (u ∷ us) vs = go (first_of (fires m u.1) (choices u.1.free (domain m))) (firing_append m us vs)
  where
    go : (o : Option (List ℕ)) → firing m (us ++ vs) ≡ case_o (firing m us) (λ _. firing m vs) some
        → case_o o (λ _. firing m (us ++ vs)) (λ c. some (record { index = u.0; sequent = u.1; choice = c }))
        ≡ case_o (case_o o (λ _. firing m us) (λ c. some (record { index = u.0; sequent = u.1; choice = c }))) (λ _. firing m vs) some
    go none e = e
    go (some c) e = refl

-- ---- sequents in a row

-- After j of them: those still to come have the whole's answer.
pub record SequentsRest (book : Bytes) (p k i : ℕ) (keys facts dom : List ℕ) (m : Model) (e : ℕ) (whole : Option Firing) : Type 0 where
  pub rest : List Sequent
  pub ats : SequentsAt book p k keys facts dom m rest e
  pub is : whole ≡ firing m (numbered i (map completed rest))

abbrev pub SequentsLeft : Bytes → ℕ → ℕ → ℕ → List ℕ → List ℕ → List ℕ → ℕ → ℕ → Type 0
SequentsLeft book at i n keys facts dom j p = (m : Model) (qs : List Sequent) (e : ℕ) → SequentsAt book at n keys facts dom m qs e
    → SequentsRest book p (n - j) (i + j) keys facts dom m e (firing m (numbered i (map completed qs)))

module _ (book : Bytes) (at i n : ℕ) (keys facts dom : List ℕ) where
  pub sequents_start : SequentsLeft book at i n keys facts dom 0 at
  sequents_start m qs e s =
      let z : i ≡ i + 0 = omega arith in
      record {
        rest = qs;
        ats = record { sees = s.sees; rules = s.rules; stand = s.stand; counted = (let y = s.counted in omega arith); fits = s.fits };
        is = ap (λ k. firing m (numbered k (map completed qs))) z;
      }

  module _ (j p : ℕ) (left : SequentsLeft book at i n keys facts dom j p) where
    pub sequents_end : (env : List ℕ) → n ≤ j → FirstOf book at i n keys facts dom None env
    unfolding firing numbered
    sequents_end env h m qs e s = let r = left m qs e s in go r.rest r.ats r.is
      where
        go : (rs : List Sequent) → SequentsAt book p (n - j) keys facts dom m rs e → firing m (numbered i (map completed qs)) ≡ firing m (numbered (i + j) (map completed rs))
            → firing m (numbered i (map completed qs)) ≡ none
        go [] a w = w
        go (q ∷ rs) a w = let z = a.counted in absurd (omega arith)

    module _ (g : ℕ) (h : j < n) (skip : Skips (SequentText (names_in book) book) (length book) p g) where
      -- The next sequent as its own text, and those behind it.
      next : (m : Model) (e : ℕ) (q : Sequent) (rs : List Sequent) → SequentsAt book p (n - j) keys facts dom m (q ∷ rs) e
          → (SequentText (names_in book) book p q g × ((g ≤ length book) × Rule (names_in book) q)) × (SequentAt book (part p g book) keys facts dom m q × SequentsAt book g (n - (j + 1)) keys facts dom m rs e)
      unfolding Follow
      next m e q rs s =
          let b = s.stand.0 in
          let grow = sequents_grow (names_in book) book b rs e s.stand.1.1 in
          let f = s.fits in
          let is : g ≡ b = skip q b s.stand.1.0 (omega arith) in
          let t : SequentText (names_in book) book p q g = subst (λ x. SequentText (names_in book) book p q x) (sym is) s.stand.1.0 in
          let z = s.counted in (
            (t, (omega arith, s.rules.0)),
            (
              record { sees = s.sees; rule = s.rules.0; stands = sequent_part (names_in book) book p q g t (omega arith) },
              record { sees = s.sees; rules = s.rules.1; stand = subst (λ x. Follow (SequentText (names_in book) book) x rs e) (sym is) s.stand.1.1; counted = omega arith; fits = f },
            ),
          )

      pub sequents_next : (env : List ℕ) → FirstChoice book (part p g book) keys facts dom false env → SequentsLeft book at i n keys facts dom (j + 1) g
      unfolding numbered completed
      sequents_next env f m qs e s = let r = left m qs e s in go r.rest r.ats r.is
        where
          go : (rs : List Sequent) → SequentsAt book p (n - j) keys facts dom m rs e → firing m (numbered i (map completed qs)) ≡ firing m (numbered (i + j) (map completed rs))
              → SequentsRest book g (n - (j + 1)) (i + (j + 1)) keys facts dom m e (firing m (numbered i (map completed qs)))
          go [] a w = let z = a.counted in absurd (omega arith)
          go (q ∷ rs) a w =
              let t = next m e q rs a in
              let y : suc (i + j) ≡ i + (j + 1) = omega arith in
              record {
                rest = rs;
                ats = t.1.1;
                is = w ∙ firing_not m (i + j) (completed q) (numbered (suc (i + j)) (map completed rs)) (f m q t.1.0) ∙ ap (λ k. firing m (numbered k (map completed rs))) y;
              }

      pub sequents_found : (env : List ℕ) → FirstChoice book (part p g book) keys facts dom true env → FirstOf book at i n keys facts dom (Some (record { number = i + j; at = p; end = g })) env
      unfolding numbered completed
      sequents_found env f m qs e s = let r = left m qs e s in go r.rest r.ats r.is
        where
          go : (rs : List Sequent) → SequentsAt book p (n - j) keys facts dom m rs e → firing m (numbered i (map completed qs)) ≡ firing m (numbered (i + j) (map completed rs))
              → FiresAt book (firing m (numbered i (map completed qs))) env (i + j) p g
          go [] a w = let z = a.counted in absurd (omega arith)
          go (q ∷ rs) a w =
              let t = next m e q rs a in
              record {
                sequent = q;
                rule = t.0.1.1;
                stands = t.0.0;
                fits = t.0.1.0;
                is = w ∙ firing_here m (i + j) (completed q) (numbered (suc (i + j)) (map completed rs)) (take q.free env) (f m q t.1.0);
              }

-- ---- the order of a strategy

numbered_take : (i p : ℕ) (ss : List Sequent) → take p (numbered i (map completed ss)) ≡ numbered i (map completed (take p ss))
unfolding numbered
numbered_take i zero ss = refl
numbered_take i (suc p) [] = refl
numbered_take i (suc p) (s ∷ ss) = ap (λ (l : List Visit). (i, completed s) ∷ l) (numbered_take (suc i) p ss)

numbered_drop : (i p : ℕ) (ss : List Sequent) → drop p (numbered i (map completed ss)) ≡ numbered (i + p) (map completed (drop p ss))
unfolding numbered
numbered_drop i zero ss = let z : i ≡ i + 0 = omega arith in ap (λ k. numbered k (map completed ss)) z
numbered_drop i (suc p) [] = refl
numbered_drop i (suc p) (s ∷ ss) = let z : suc i + p ≡ i + suc p = omega arith in numbered_drop (suc i) p ss ∙ ap (λ k. numbered k (map completed (drop p ss))) z

follow_split : {A : Type 0} (R : ℕ → A → ℕ → Type 0) (p at : ℕ) (xs : List A) (e : ℕ) → Follow R at xs e → (b : ℕ) × (Follow R at (take p xs) b × Follow R b (drop p xs) e)
unfolding Follow
follow_split R zero at xs e h = (at, (refl, h))
follow_split R (suc p) at [] e h = (at, (refl, h))
follow_split R (suc p) at (x ∷ xs) e h = let r = follow_split R p h.0 xs e h.1.1 in (r.0, ((h.0, (h.1.0, r.1.0)), r.1.1))

module _ (book : Bytes) (keys facts dom : List ℕ) (m : Model) (b : Book) (e : ℕ) (h : read_book book ≡ got b e) (sees : Sees (names_in book) m keys facts dom) where
  whole : SequentsAt book (sequents_at book) (num book (count_at book)) keys facts dom m b.sequents (length book)
  whole =
      let g = sequents_got book b (accepted book b e h) in
      record { sees = sees; rules = book_rules book b e h; stand = g.0; counted = g.1; fits = omega arith }

  pub linear_is : (r : std.Option Fired) (env : List ℕ) (place : ℕ) → FirstOf book (sequents_at book) 0 (num book (count_at book)) keys facts dom r env
      → Answers book (firing m (visits linear place (rules b))) env r
  unfolding visits rules
  linear_is r env place f = f m b.sequents (length book) whole

  module _ (place : ℕ) (low : place ≤ num book (count_at book)) (at : ℕ) (skip : SkipsMany (SequentText (names_in book) book) (length book) (sequents_at book) place at) where
    -- The sequents from the place on, and those before it.
    later : SequentsAt book at (num book (count_at book) - place) keys facts dom m (drop place b.sequents) (length book)
    later =
        let w = whole in
        let f = follow_split (SequentText (names_in book) book) place (sequents_at book) b.sequents (length book) w.stand in
        let c = w.counted in
        let l = length-take place b.sequents in
        let g = sequents_grow (names_in book) book f.0 (drop place b.sequents) (length book) f.1.1 in
        let z : at ≡ f.0 = skip (take place b.sequents) f.0 f.1.0 (omega arith) g in
        record {
          sees = sees;
          rules = all_drop (Rule (names_in book)) place b.sequents w.rules;
          stand = subst (λ x. Follow (SequentText (names_in book) book) x (drop place b.sequents) (length book)) (sym z) f.1.1;
          counted = (let d = length-drop place b.sequents in omega arith);
          fits = omega arith;
        }

    earlier : (x : ℕ) × SequentsAt book (sequents_at book) place keys facts dom m (take place b.sequents) x
    earlier =
        let w = whole in
        let f = follow_split (SequentText (names_in book) book) place (sequents_at book) b.sequents (length book) w.stand in
        let c = w.counted in
        let g = sequents_grow (names_in book) book f.0 (drop place b.sequents) (length book) f.1.1 in (
          f.0,
          record {
            sees = sees;
            rules = all_take (Rule (names_in book)) place b.sequents w.rules;
            stand = f.1.0;
            counted = (let l = length-take place b.sequents in omega arith);
            fits = g;
          },
        )

    parts : firing m (visits fair place (rules b))
        ≡ case_o (firing m (numbered place (map completed (drop place b.sequents)))) (λ _. firing m (numbered 0 (map completed (take place b.sequents)))) some
    unfolding visits rules
    parts =
        let z : 0 + place ≡ place = omega arith in
        ap₂ (λ (u v : List Visit). firing m (u ++ v)) (numbered_drop 0 place b.sequents ∙ ap (λ k. numbered k (map completed (drop place b.sequents))) z) (numbered_take 0 place b.sequents)
        ∙ firing_append m (numbered place (map completed (drop place b.sequents))) (numbered 0 (map completed (take place b.sequents)))

    pub fair_later : (r : Fired) (env : List ℕ) → FirstOf book at place (num book (count_at book) - place) keys facts dom (Some r) env
        → Answers book (firing m (visits fair place (rules b))) env (Some r)
    unfolding case_o
    fair_later r env f =
        let x = f m (drop place b.sequents) (length book) later in
        record {
          sequent = x.sequent;
          rule = x.rule;
          stands = x.stands;
          fits = x.fits;
          is = parts ∙ ap (λ (o : Option Firing). case_o o (λ _. firing m (numbered 0 (map completed (take place b.sequents)))) some) x.is;
        }

    pub fair_earlier : (r : std.Option Fired) (env₀ env : List ℕ) → FirstOf book at place (num book (count_at book) - place) keys facts dom None env₀
        → FirstOf book (sequents_at book) 0 place keys facts dom r env → Answers book (firing m (visits fair place (rules b))) env r
    unfolding case_o
    fair_earlier r env₀ env f g =
        let x = f m (drop place b.sequents) (length book) later in
        let y = earlier in
        let z : firing m (visits fair place (rules b)) ≡ firing m (numbered 0 (map completed (take place b.sequents))) =
        parts ∙ ap (λ (o : Option Firing). case_o o (λ _. firing m (numbered 0 (map completed (take place b.sequents)))) some) x in
        subst (λ o. Answers book o env r) (sym z) (g m (take place b.sequents) y.0 y.1)

-- ---- the strategies by their numbers

pub is_linear : (s : ℕ) → s ≡ 0 → strategy_of s ≡ linear
unfolding strategy_of
is_linear zero e = refl
is_linear (suc s) e = absurd (omega arith)

pub is_fair : (s : ℕ) → (s ≡ 0 → ⊥) → strategy_of s ≡ fair
unfolding strategy_of
is_fair zero e = absurd (e refl)
is_fair (suc s) e = refl

-- ---- one law for each way out of the evaluator

module _ (book : Bytes) (place : ℕ) (keys facts dom env : List ℕ) where
  pub evaluates_never : (strategy : Strategy) (r : std.Option Fired) (start : ℕ) → start ≡ sequents_at book → length book < start → Evaluates book strategy place keys facts dom r env
  evaluates_never strategy r start q l m b e h sees = let a = (accepted book b e h).starts in absurd (omega arith)

  pub evaluates_linear : (r : std.Option Fired) → FirstOf book (sequents_at book) 0 (num book (count_at book)) keys facts dom r env → Evaluates book linear place keys facts dom r env
  evaluates_linear r f m b e h sees = linear_is book keys facts dom m b e h sees r env place f

  module _ (low : place ≤ num book (count_at book)) (at : ℕ) (skip : SkipsMany (SequentText (names_in book) book) (length book) (sequents_at book) place at) where
    pub evaluates_later : (r : std.Option Fired) → (r ≡ None → ⊥) → FirstOf book at place (num book (count_at book) - place) keys facts dom r env → Evaluates book fair place keys facts dom r env
    evaluates_later None n f = absurd (n refl)
    evaluates_later (Some r) n f = λ m b e h sees. fair_later book keys facts dom m b e h sees place low at skip r env f

    pub evaluates_earlier : (r : std.Option Fired) (env₀ : List ℕ) → FirstOf book at place (num book (count_at book) - place) keys facts dom None env₀
        → FirstOf book (sequents_at book) 0 place keys facts dom r env → Evaluates book fair place keys facts dom r env
    evaluates_earlier r env₀ f g m b e h sees = fair_earlier book keys facts dom m b e h sees place low at skip r env₀ env f g
