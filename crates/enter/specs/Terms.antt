-- What entering a term, or an argument list, says: for whatever stands at the place, the answer is the definition's.
use Rattle.std.specs.Prelude.{◌≡◌, ℕ, ◌+◌, ◌-◌, ◌≤◌, ◌<◌, List, map, length, get_or, Some, None}
use Rattle.std.specs.Prelude as std
use Rattle.base.specs.Lists.{All}
use Rattle.rules.specs.Book.{Term, app, Terms}
use Rattle.rules.specs.Reading.{Bytes}
use Rattle.rules.specs.Sheet.{Entry, Model, Limits}
use Rattle.rules.specs.Look.{Meaning, nobody}
use Rattle.rules.specs.Bound.{History}
use Rattle.rules.specs.Child.{put_meaning, enter, enters}
use Rattle.soundness.specs.Tools.{Yielded}
use Rattle.soundness.specs.Book.{SmallNames, WfTerm, WfTerms}
use Rattle.soundness.specs.Enter.{Tidy, Means}
use Rattle.texts.specs.Names.{names_in}
use Rattle.texts.specs.Text.{count, TermText, TermsText}
use Rattle.look.specs.Shown.{pack_meaning}
use Rattle.look.specs.Digits.{pack_args}
use Rattle.nodes.specs.declared.Head.{Head}
use Rattle.nodes.specs.declared.Head.TheVariants.{Leaf, Apply}
use Rattle.enter.specs.Keep.{Carries, carries_small, PutIs, Crowded}
use Rattle.enter.specs.Marks.{Holding}

-- ---- what stays while terms are entered: the base's keys, and what variables stand for

pub record Setting (book : Bytes) (lim : Limits) (env : List ℕ) : Type 0 where
  pub base : List Entry
  pub ms : List Meaning
  pub small : SmallNames (names_in book)
  pub few : lim.elements ≤ 256
  pub low : (e : ℕ) → Yielded base e → e < lim.elements
  pub env_is : env ≡ map pack_meaning ms
  pub means : All (Means (names_in book) (Yielded base)) ms

-- ---- what changes: a tidy model that the form carries

pub record Told (book : Bytes) (lim : Limits) (env : List ℕ) (z : Setting book lim env) (w : List ℕ) (m : Model) (now : History) : Type 0 where
  pub tidy : Tidy (names_in book) (Yielded z.base) now m
  pub carries : Carries lim w m now

pub told_holding : {book : Bytes} {lim : Limits} {env : List ℕ} {z : Setting book lim env} {w : List ℕ} {m : Model} {now : History} → Told book lim env z w m now → Holding lim (names_in book) w m now
told_holding {z = z} t = record {
  small = z.small;
  few = z.few;
  neat = record { small = carries_small t.carries; listed = t.tidy.listed; linked = t.tidy.linked };
  carries = t.carries;
}

-- ---- what stands at a place

pub record TermAt (book text : Bytes) (at n : ℕ) (t : Term) (e : ℕ) : Type 0 where
  pub wf : WfTerm t (names_in book) n
  pub stands : TermText (names_in book) text at t e
  pub fits : e ≤ length text

pub record TermsAt (book text : Bytes) (at k n : ℕ) (ts : Terms) (e : ℕ) : Type 0 where
  pub wf : WfTerms ts (names_in book) n
  pub stands : TermsText (names_in book) text at ts e
  pub counted : count ts ≡ k
  pub fits : e ≤ length text

-- ---- answers

-- The element of the definition, with the form that carries the model; or the model has no room for it.
abbrev pub EnterIs : Limits → History → Model × ℕ → ℕ → std.Option (ℕ × ℕ) → List ℕ → Type 0
EnterIs lim now p e None w' = Crowded lim p.0
EnterIs lim now p e (Some r) w' = (r.1 ≡ e) × ((r.0 ≡ p.1) × Carries lim w' p.0 now)

-- The elements packed behind a number from a weight on.
abbrev pub EntersIs : Limits → History → Model × List ℕ → ℕ → ℕ → ℕ → std.Option (ℕ × ℕ) → List ℕ → Type 0
EntersIs lim now p acc wt e None w' = Crowded lim p.0
EntersIs lim now p acc wt e (Some r) w' = (r.1 ≡ e) × ((r.0 ≡ pack_args acc wt p.1) × Carries lim w' p.0 now)

-- ---- what they are, in any setting, for any model that is told and any term that stands there

abbrev pub IsVariable : Limits → List ℕ → ℕ → List ℕ → std.Option ℕ → List ℕ → Type 0
IsVariable lim env i w r w' = (book : Bytes) (z : Setting book lim env) (m : Model) (now : History) → Told book lim env z w m now → i < length z.ms
    → PutIs lim now (put_meaning m now (get_or z.ms i nobody)) r w'

abbrev pub IsEnter : Bytes → Bytes → ℕ → Limits → List ℕ → List ℕ → std.Option (ℕ × ℕ) → List ℕ → Type 0
IsEnter book text at lim env w r w' = (z : Setting book lim env) (m : Model) (now : History) → Told book lim env z w m now
    → (t : Term) (e : ℕ) → TermAt book text at (length z.ms) t e → EnterIs lim now (enter t m now z.ms) e r w'

abbrev pub IsEnters : Bytes → Bytes → ℕ → ℕ → ℕ → ℕ → Limits → List ℕ → List ℕ → std.Option (ℕ × ℕ) → List ℕ → Type 0
IsEnters book text at k acc wt lim env w r w' = (z : Setting book lim env) (m : Model) (now : History) → Told book lim env z w m now
    → (ts : Terms) (e : ℕ) → TermsAt book text at k (length z.ms) ts e → EntersIs lim now (enters ts m now z.ms) acc wt e r w'

-- A term that is an application of f to k terms.
pub record Applies (book text : Bytes) (at n : ℕ) (t : Term) (e f k : ℕ) : Type 0 where
  pub terms : Terms
  pub is : t ≡ app f terms
  pub wf : WfTerm (app f terms) (names_in book) n
  pub there : TermsAt book text (at + 4) k n terms e

abbrev pub HeadIs : Bytes → Bytes → ℕ → Limits → List ℕ → List ℕ → std.Option (Head (std.Option ℕ)) → List ℕ → Type 0
HeadIs book text at lim env w None w' = length text - at < 4
HeadIs book text at lim env w (Some (Leaf v)) w' = (z : Setting book lim env) (m : Model) (now : History) → Told book lim env z w m now
    → (t : Term) (e : ℕ) → TermAt book text at (length z.ms) t e → PutIs lim now (enter t m now z.ms) v w' × (e ≡ at + 4)
HeadIs book text at lim env w (Some (Apply f k)) w' = (w' ≡ w) × ((n : ℕ) (t : Term) (e : ℕ) → TermAt book text at n t e → Applies book text at n t e f k)
