-- What recording and telling a literal say: for whatever literal stands at the place and whatever child the form holds, the answer
-- is the definition's.
use Rattle.std.specs.Prelude.{◌≡◌, ℕ, ◌≤◌, Bool, true, false, List, length, T, Result, Ok, Err}
use Rattle.rules.specs.Book.{Literal}
use Rattle.rules.specs.Reading.{Bytes}
use Rattle.rules.specs.Sheet.{Model, domain, Limits}
use Rattle.rules.specs.Look.{observed}
use Rattle.rules.specs.Bound.{Bound, History, terms_of, admitted}
use Rattle.rules.specs.Child.{Child, recorded, tell}
use Rattle.soundness.specs.Book.{WfLiteral}
use Rattle.texts.specs.Names.{names_in}
use Rattle.texts.specs.Text.{LiteralText}
use Rattle.enter.specs.Terms.{Setting, Told}
use Rattle.telling.specs.declared.Judged.{Judged}
use Rattle.telling.specs.declared.Judged.TheVariants.{Cut, Seen, New}
use Rattle.telling.specs.declared.TooLarge.{TooLarge}
use Rattle.telling.specs.Stays.{Digits}

-- A child on its way that was never too big, in a form.
pub record Held (book : Bytes) (lim : Limits) (env : List ℕ) (z : Setting book lim env) (w : List ℕ) (k : Child) : Type 0 where
  pub told : Told book lim env z w k.model k.now
  pub digits : Digits lim k.now
  pub within : k.over ≡ false

pub record LiteralAt (book text : Bytes) (at n : ℕ) (l : Literal) (e : ℕ) : Type 0 where
  pub wf : WfLiteral (names_in book) n l
  pub stands : LiteralText (names_in book) text at l e
  pub fits : e ≤ length text

-- ---- recording

-- The form holds the child with the literal, or that child is over its limits.
abbrev pub Records : (book : Bytes) (lim : Limits) (env : List ℕ) → Setting book lim env → Child → Result (Unit {0}) TooLarge → List ℕ → Type 0
Records book lim env z k (Ok done) w' = Held book lim env z w' k
Records book lim env z k (Err e) w' = T k.over

abbrev pub IsRecorded : Bytes → Bytes → ℕ → Limits → List ℕ → List ℕ → Result (Unit {0}) TooLarge → List ℕ → Type 0
IsRecorded book text at lim env w r w' = (z : Setting book lim env) (k : Child) → Held book lim env z w k → (l : Literal) (e : ℕ) → LiteralAt book text at (length z.ms) l e
    → Records book lim env z (recorded lim z.ms l k) r w'

-- ---- what a literal's terms are to the bound

abbrev pub IsAllowed : Bytes → Bytes → ℕ → Bound → ℕ → Limits → List ℕ → List ℕ → List ℕ → Bool → Type 0
IsAllowed book text at b size lim env w dom r = (z : Setting book lim env) (m : Model) (now : History) → Told book lim env z w m now → dom ≡ domain m
    → (l : Literal) (e : ℕ) → LiteralAt book text at (length z.ms) l e → r ≡ admitted b size (terms_of l) m now z.ms

-- ---- judging: skipped, seen already, or to be recorded

abbrev pub JudgedAs : Bool → Bool → Judged → Type 0
JudgedAs a o Cut = a ≡ false
JudgedAs a o Seen = (a ≡ true) × (o ≡ true)
JudgedAs a o New = (a ≡ true) × (o ≡ false)

abbrev pub IsJudged : Bytes → Bytes → ℕ → Bound → Limits → List ℕ → List ℕ → Judged → Type 0
IsJudged book text at b lim env w r = (z : Setting book lim env) (k : Child) → Held book lim env z w k → (l : Literal) (e : ℕ) → LiteralAt book text at (length z.ms) l e
    → JudgedAs (admitted b (length (domain k.model)) (terms_of l) k.model k.now z.ms) (observed k.model z.ms l) r

-- ---- telling

-- What a child has become: in the form, with a literal skipped or not, or over its limits.
abbrev pub Goes : (book : Bytes) (lim : Limits) (env : List ℕ) → Setting book lim env → Child → Result Bool TooLarge → List ℕ → Type 0
Goes book lim env z k (Ok cut) w' = Held book lim env z w' k × (cut ≡ k.cut)
Goes book lim env z k (Err e) w' = T k.over

abbrev pub IsTold : Bytes → Bytes → ℕ → Bound → Limits → List ℕ → Bool → List ℕ → Result Bool TooLarge → List ℕ → Type 0
IsTold book text at b lim env before w r w' = (z : Setting book lim env) (k : Child) → Held book lim env z w k → before ≡ k.cut
    → (l : Literal) (e : ℕ) → LiteralAt book text at (length z.ms) l e → Goes book lim env z (tell lim b z.ms l k) r w'
