-- A child as a whole: for a form that holds the base, the literals of a disjunct and then the identities of its existentials that no
-- literal has are the child of the completed disjunct.
use Rattle.std.specs.Prelude.{◌≡◌, ℕ, zero, suc, ◌+◌, ◌-◌, ◌≤◌, ◌<◌, Bool, true, false, List, map, length, T, Result, Ok, Err}
use Rattle.std.proofs.Math.Path.{refl}
use Rattle.std.proofs.Common.{sym, ap, ◌∙◌, subst, arith}
use Rattle.base.specs.Lists.{All, from}
use Rattle.base.specs.ListLaws.{all_all}
use Rattle.rules.specs.Book.{Disjunct, appended, completed_disjunct}
use Rattle.rules.specs.Reading.{Bytes, num}
use Rattle.rules.specs.Sheet.{Model, known, Limits}
use Rattle.rules.specs.Look.{head_meanings}
use Rattle.rules.specs.Bound.{Bound}
use Rattle.rules.specs.Child.{Child, tells, child}
use Rattle.images.specs.Storable.{Octet}
use Rattle.soundness.specs.Tools.{Yielded, known_yielded}
use Rattle.soundness.specs.Join.{yielded_low}
use Rattle.soundness.specs.Neat.{Neat}
use Rattle.soundness.specs.Book.{SmallNames, WfLiteral, WfDisjunct}
use Rattle.soundness.specs.Child.{head_means, head_length}
use Rattle.texts.specs.Names.{names_in}
use Rattle.texts.specs.Reads.{Follow}
use Rattle.texts.specs.Text.{LiteralText, OriginText, DisjunctText}
use Rattle.texts.specs.Parts.{disjunct_grows}
use Rattle.skips.specs.Rest.{SkipsMany}
use Rattle.look.specs.Shown.{pack_meaning}
use Rattle.enter.specs.Keep.{Carries}
use Rattle.enter.specs.Terms.{Setting}
use Rattle.telling.specs.Literals.{Held, Goes}
use Rattle.telling.specs.declared.TooLarge.{TooLarge}
use Rattle.child.specs.Tells.{tells_stay, tells_then, LiteralsAt, IsTells}
use Rattle.child.specs.Owns.{IsOwns}

-- ---- the base

-- The form holds the base's model, each element itself; elements of it are chosen, and the environment has what the disjunct's
-- variables stand for.
pub record Base (book : Bytes) (lim : Limits) (env w : List ℕ) (m : Model) (c : List ℕ) (d : Disjunct) : Type 0 where
  pub small : SmallNames (names_in book)
  pub neat : Neat lim (names_in book) m
  pub carries : Carries lim w m (λ e. e)
  pub chosen : All (λ e. T (known m e)) c
  pub wf : WfDisjunct (names_in book) (length c) d
  pub env_is : env ≡ map pack_meaning (head_meanings c d)

-- The child is within its limits: the form carries its model.
pub record InRoom (lim : Limits) (k : Child) (cut : Bool) (w' : List ℕ) : Type 0 where
  pub within : k.over ≡ false
  pub carries : Carries lim w' k.model k.now
  pub skipped : cut ≡ k.cut

-- It is, or it needed more room than there is.
abbrev pub Made : Limits → Child → Result Bool TooLarge → List ℕ → Type 0
Made lim k (Ok cut) w' = InRoom lim k cut w'
Made lim k (Err e) w' = k.over ≡ true

abbrev pub IsChild : Bytes → Bytes → ℕ → ℕ → Bound → Limits → List ℕ → List ℕ → Result Bool TooLarge → List ℕ → Type 0
IsChild book text at free b lim env w r w' = (m : Model) (c : List ℕ) (d : Disjunct) (e : ℕ) → Base book lim env w m c d → length c ≡ free
    → DisjunctText (names_in book) text at d e → e ≤ length text → Made lim (child lim b m c (completed_disjunct free d)) r w'

below_all : (n a : ℕ) → a + n ≤ 256 → All Octet (from a n)
unfolding from
below_all zero a h = tt
below_all (suc n) a h = (omega arith, below_all n (suc a) (omega arith))

true_is : (b : Bool) → T b → b ≡ true
true_is true t = refl
true_is false t = absurd t

module _ (book text : Bytes) (at free : ℕ) (b : Bound) (lim : Limits) (few : lim.elements ≤ 256) (env w : List ℕ) where
  setting : (m : Model) (c : List ℕ) (d : Disjunct) → Base book lim env w m c d → Setting book lim env
  setting m c d g = record {
    base = m.keys;
    ms = head_meanings c d;
    small = g.small;
    few = few;
    low = λ e y. (let l = yielded_low m g.neat.linked e y in let f = g.neat.small.few_created in omega arith);
    env_is = g.env_is;
    means = head_means (names_in book) (Yielded m.keys) c (all_all (λ e. T (known m e)) (Yielded m.keys) (known_yielded m) c g.chosen) d g.wf.0;
  }

  abbrev newborn : Model → Child
  newborn m = record { model = m; now = λ e. e; cut = false; over = false }

  born : (m : Model) (c : List ℕ) (d : Disjunct) (g : Base book lim env w m c d) → Held book lim env (setting m c d g) w (newborn m)
  unfolding setting
  born m c d g = record {
    told = record { tidy = record { listed = g.neat.listed; linked = g.neat.linked; follows = λ e y. y }; carries = g.carries };
    digits = below_all lim.elements 0 (omega arith);
    within = refl;
  }

  -- The child of the completed disjunct: its literals, then what is appended.
  abbrev whole : Model → List ℕ → Disjunct → Child
  whole m c d = tells lim b (head_meanings c d) (appended free d.origins d.literals) (tells lim b (head_meanings c d) d.literals (newborn m))

  child_is : (m : Model) (c : List ℕ) (d : Disjunct) → child lim b m c (completed_disjunct free d) ≡ whole m c d
  unfolding child completed_disjunct head_meanings
  child_is m c d = tells_then lim b (head_meanings c d) d.literals (appended free d.origins d.literals) (newborn m)

  pub child_short : length text - at < 2 → (o : Result Bool TooLarge) (w' : List ℕ) → IsChild book text at free b lim env w o w'
  child_short h o w' m c d e g q t l = let r = disjunct_grows (names_in book) text at d e t in absurd (omega arith)

  module _ (middle : ℕ) (skip : SkipsMany (OriginText (names_in book) text) (length text) (at + 2) (num text at) middle) where
    middle_is : (d : Disjunct) (e : ℕ) (t : DisjunctText (names_in book) text at d e) → e ≤ length text → middle ≡ t.middle
    middle_is d e t l = let r = disjunct_grows (names_in book) text at d e t in skip d.origins t.middle t.origins (sym t.count) (omega arith)

    pub child_cut_off : length text - middle < 2 → (o : Result Bool TooLarge) (w' : List ℕ) → IsChild book text at free b lim env w o w'
    child_cut_off h o w' m c d e g q t l = let r = disjunct_grows (names_in book) text at d e t in let i = middle_is d e t l in absurd (omega arith)

    module _ (n : ℕ) (is : n ≡ num text middle) where
      literals_at : (m : Model) (c : List ℕ) (d : Disjunct) (e : ℕ) (g : Base book lim env w m c d) → DisjunctText (names_in book) text at d e → e ≤ length text
          → LiteralsAt book text (middle + 2) n (length (head_meanings c d)) d.literals e
      literals_at m c d e g t l =
          let i = middle_is d e t l in
          record {
            wf = subst (λ y. All (WfLiteral (names_in book) y) d.literals) (sym (head_length c d)) g.wf.1;
            follow = subst (λ y. Follow (LiteralText (names_in book) text) (y + 2) d.literals e) (sym i) t.literals;
            counted = sym (is ∙ ap (num text) i ∙ t.literal_count);
            fits = l;
          }

      told : (o : Result Bool TooLarge) (w₁ : List ℕ) → IsTells book text (middle + 2) n b lim env false w o w₁ → (m : Model) (c : List ℕ) (d : Disjunct) (e : ℕ) (g : Base book lim env w m c d)
          → DisjunctText (names_in book) text at d e → e ≤ length text → Goes book lim env (setting m c d g) (tells lim b (head_meanings c d) d.literals (newborn m)) o w₁
      unfolding setting
      told o w₁ first m c d e g t l = first (setting m c d g) (newborn m) (born m c d g) refl d.literals e (literals_at m c d e g t l)

      pub child_over : (f : TooLarge) (w₁ : List ℕ) → IsTells book text (middle + 2) n b lim env false w (Err f) w₁ → IsChild book text at free b lim env w (Err f) w₁
      child_over f w₁ first m c d e g q t l =
          let k = tells_stay lim b (head_meanings c d) (appended free d.origins d.literals) _ (told (Err f) w₁ first m c d e g t l) in
          true_is _ (subst (λ (k : Child). T k.over) (sym (child_is m c d)) k)

      module _ (cut : Bool) (w₁ : List ℕ) (first : IsTells book text (middle + 2) n b lim env false w (Ok cut) w₁) (o : Result Bool TooLarge) (w₂ : List ℕ)
          (rest : IsOwns book text (middle + 2) n b lim env free (num text at) cut w₁ o w₂) where
        goes : (m : Model) (c : List ℕ) (d : Disjunct) (e : ℕ) (g : Base book lim env w m c d) → length c ≡ free → DisjunctText (names_in book) text at d e → e ≤ length text
            → Goes book lim env (setting m c d g) (whole m c d) o w₂
        unfolding setting
        goes m c d e g q t l =
            let r = told (Ok cut) w₁ first m c d e g t l in
            rest (setting m c d g) _ r.0 r.1 (omega (arith, q, head_length c d, t.count)) d.literals e (literals_at m c d e g t l) d.origins (sym t.count)

        pub child_made : IsChild book text at free b lim env w o w₂
        child_made m c d e g q t l = subst (λ (k : Child). Made lim k o w₂) (sym (child_is m c d)) (go o (goes m c d e g q t l))
          where
            go : (o : Result Bool TooLarge) → Goes book lim env (setting m c d g) (whole m c d) o w₂ → Made lim (whole m c d) o w₂
            go (Ok cut') r = record { within = r.0.within; carries = r.0.told.carries; skipped = r.1 }
            go (Err f) r = true_is (whole m c d).over r
