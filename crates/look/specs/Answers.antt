-- What the answers of lookup say: for whatever term stands at the place, the answer is the definition's.
use Rattle.std.specs.Prelude.{◌≡◌, ℕ, ◌+◌, ◌-◌, ◌≤◌, ◌<◌, Bool, List, length, get_or, Some, None, IfSome}
use Rattle.std.specs.Prelude as std
use Rattle.std.proofs.Math.Option.{Option, none, some}
use Rattle.rules.specs.Book.{Term, app, Terms, Literal, Names}
use Rattle.rules.specs.Reading.{Bytes}
use Rattle.rules.specs.Sheet.{Model}
use Rattle.rules.specs.Look.{Meaning, nobody, look_meaning, look, looks, observed}
use Rattle.soundness.specs.Book.{WfTerm, WfTerms, WfLiteral}
use Rattle.tables.specs.Table.{option_of}
use Rattle.texts.specs.Names.{names_in}
use Rattle.texts.specs.Text.{count, TermText, TermsText, LiteralText}
use Rattle.nodes.specs.declared.Head.{Head}
use Rattle.nodes.specs.declared.Head.TheVariants.{Leaf, Apply}
use Rattle.look.specs.Shown.{Shown, FactsShown, Means}
use Rattle.look.specs.Digits.{pack_args}

-- ---- answers

-- A value with the place behind its text, if there is one.
abbrev pub as_look : Option ℕ → ℕ → std.Option (ℕ × ℕ)
as_look none e = None
as_look (some v) e = Some (v, e)

abbrev pub as_args : ℕ → ℕ → Option (List ℕ) → ℕ → std.Option (ℕ × ℕ)
as_args acc w none e = None
as_args acc w (some xs) e = Some (pack_args acc w xs, e)

-- Whatever the text: the next place is further on, and within it.
abbrev pub LookGood : ℕ → ℕ → std.Option (ℕ × ℕ) → Type 0
LookGood len at None = Unit
LookGood len at (Some r) = (r.0 < 256) × ((at < r.1) × (r.1 ≤ len))

abbrev pub ArgsGood : ℕ → ℕ → std.Option (ℕ × ℕ) → Type 0
ArgsGood len at None = Unit
ArgsGood len at (Some r) = (at ≤ r.1) × (r.1 ≤ len)

-- A value is an element.
abbrev pub Octets : std.Option ℕ → Type 0
Octets r = IfSome r (λ v. v < 256)

-- ---- what they are, for any model that is shown and any meanings

abbrev pub IsVariable : List ℕ → ℕ → List ℕ → List ℕ → std.Option ℕ → Type 0
IsVariable env i keys dom r = (d : Names) (m : Model) (ms : List Meaning) → Shown d m keys dom → Means d env ms → i < length ms
    → r ≡ option_of (look_meaning m (get_or ms i nobody))

-- A model, meanings and a term that stands there.
pub record At (book text : Bytes) (at : ℕ) (env keys dom : List ℕ) (m : Model) (ms : List Meaning) (t : Term) (e : ℕ) : Type 0 where
  pub shown : Shown (names_in book) m keys dom
  pub means : Means (names_in book) env ms
  pub wf : WfTerm t (names_in book) (length ms)
  pub stands : TermText (names_in book) text at t e
  pub fits : e ≤ length text

pub record Ats (book text : Bytes) (at n : ℕ) (env keys dom : List ℕ) (m : Model) (ms : List Meaning) (ts : Terms) (e : ℕ) : Type 0 where
  pub shown : Shown (names_in book) m keys dom
  pub means : Means (names_in book) env ms
  pub wf : WfTerms ts (names_in book) (length ms)
  pub stands : TermsText (names_in book) text at ts e
  pub counted : count ts ≡ n
  pub fits : e ≤ length text

abbrev pub IsLook : Bytes → Bytes → ℕ → List ℕ → List ℕ → List ℕ → std.Option (ℕ × ℕ) → Type 0
IsLook book text at env keys dom r = (m : Model) (ms : List Meaning) (t : Term) (e : ℕ) → At book text at env keys dom m ms t e → r ≡ as_look (look t m ms) e

abbrev pub IsArgs : Bytes → Bytes → ℕ → ℕ → ℕ → ℕ → List ℕ → List ℕ → List ℕ → std.Option (ℕ × ℕ) → Type 0
IsArgs book text at n acc w env keys dom r =
    (m : Model) (ms : List Meaning) (ts : Terms) (e : ℕ) → Ats book text at n env keys dom m ms ts e → r ≡ as_args acc w (looks ts m ms) e

-- A term that is an application of f to n terms.
pub record Applies (book text : Bytes) (at : ℕ) (env keys dom : List ℕ) (m : Model) (ms : List Meaning) (t : Term) (e f n : ℕ) : Type 0 where
  pub terms : Terms
  pub is : t ≡ app f terms
  pub ats : Ats book text (at + 4) n env keys dom m ms terms e

abbrev pub HeadIs : Bytes → Bytes → ℕ → List ℕ → List ℕ → List ℕ → std.Option (Head (std.Option ℕ)) → Type 0
HeadIs book text at env keys dom None = length text - at < 4
HeadIs book text at env keys dom (Some (Leaf v)) = (m : Model) (ms : List Meaning) (t : Term) (e : ℕ) → At book text at env keys dom m ms t e → (v ≡ option_of (look t m ms)) × (e ≡ at + 4)
HeadIs book text at env keys dom (Some (Apply f n)) = (m : Model) (ms : List Meaning) (t : Term) (e : ℕ) → At book text at env keys dom m ms t e → Applies book text at env keys dom m ms t e f n

-- ---- literals

pub record LiteralAt (book text : Bytes) (at : ℕ) (env keys facts dom : List ℕ) (m : Model) (ms : List Meaning) (l : Literal) (e : ℕ) : Type 0 where
  pub shown : Shown (names_in book) m keys dom
  pub held : FactsShown (names_in book) m facts
  pub means : Means (names_in book) env ms
  pub wf : WfLiteral (names_in book) (length ms) l
  pub stands : LiteralText (names_in book) text at l e
  pub fits : e ≤ length text

abbrev pub IsObserved : Bytes → Bytes → ℕ → List ℕ → List ℕ → List ℕ → List ℕ → Bool → Type 0
IsObserved book text at env keys facts dom r =
    (m : Model) (ms : List Meaning) (l : Literal) (e : ℕ) → LiteralAt book text at env keys facts dom m ms l e → r ≡ observed m ms l
