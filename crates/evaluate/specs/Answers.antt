-- What the evaluator answers: nothing, or a sequent's number and where its text stands; the choice is left in the environment.
use Rattle.std.specs.Prelude.{◌≡◌, ℕ, ◌+◌, ◌≤◌, List, map, length, take, Some, None}
use Rattle.std.specs.Prelude as std
use Rattle.std.proofs.Common.{sym, ap, subst, arith}
use Rattle.std.proofs.Math.Option.{Option, none, some}
use Rattle.base.specs.Lists.{All}
use Rattle.rules.specs.Book.{Sequent, Book, completed, rules}
use Rattle.rules.specs.Reading.{Bytes, got, read_book}
use Rattle.rules.specs.Sheet.{Model}
use Rattle.rules.specs.Fire.{numbered, Firing, firing, Strategy, visits}
use Rattle.texts.specs.Reads.{Follow}
use Rattle.texts.specs.Names.{names_in}
use Rattle.texts.specs.Text.{SequentText}
use Rattle.texts.specs.Parts.{part, part_length}
use Rattle.skips.specs.Rest.{Skips}
use Rattle.firing.specs.Answers.{Sees, Rule}
use Rattle.evaluate.specs.declared.Fired.{Fired}

-- A part of the book from a place on: it is a sequent's whole text, where one stands there.
pub record Handed (book : Bytes) (at : ℕ) (q : Bytes) : Type 0 where
  pub within : at + length q ≤ length book
  pub is : q ≡ part at (at + length q) book
  pub skips : Skips (SequentText (names_in book) book) (length book) at (at + length q)

pub handed : (book : Bytes) (at e : ℕ) → at ≤ e → e ≤ length book → Skips (SequentText (names_in book) book) (length book) at e → Handed book at (part at e book)
handed book at e h l s =
    let n : at + length (part at e book) ≡ e = omega (arith, part_length at e book l) in
    record { within = omega arith; is = ap (λ k. part at k book) (sym n); skips = subst (λ k. Skips (SequentText (names_in book) book) (length book) at k) (sym n) s }

-- The sequent i that stands from a to e of the book fires, at the elements that stand first in the environment.
pub record FiresAt (book : Bytes) (o : Option Firing) (env : List ℕ) (i a e : ℕ) : Type 0 where
  pub sequent : Sequent
  pub rule : Rule (names_in book) sequent
  pub stands : SequentText (names_in book) book a sequent e
  pub fits : e ≤ length book
  pub is : o ≡ some (record { index = i; sequent = completed sequent; choice = take sequent.free env })

abbrev pub Answers : Bytes → Option Firing → List ℕ → std.Option Fired → Type 0
Answers book o env None = o ≡ none
Answers book o env (Some f) = FiresAt book o env f.number f.at f.end

-- So many sequents from a place on, the first of which has number i.
pub record SequentsAt (book : Bytes) (at n : ℕ) (keys facts dom : List ℕ) (m : Model) (qs : List Sequent) (e : ℕ) : Type 0 where
  pub sees : Sees (names_in book) m keys facts dom
  pub rules : All (Rule (names_in book)) qs
  pub stand : Follow (SequentText (names_in book) book) at qs e
  pub counted : length qs ≡ n
  pub fits : e ≤ length book

abbrev pub FirstOf : Bytes → ℕ → ℕ → ℕ → List ℕ → List ℕ → List ℕ → std.Option Fired → List ℕ → Type 0
FirstOf book at i n keys facts dom r env =
    (m : Model) (qs : List Sequent) (e : ℕ) → SequentsAt book at n keys facts dom m qs e → Answers book (firing m (numbered i (map completed qs))) env r

abbrev pub Evaluates : Bytes → Strategy → ℕ → List ℕ → List ℕ → List ℕ → std.Option Fired → List ℕ → Type 0
Evaluates book strategy place keys facts dom r env =
    (m : Model) (b : Book) (e : ℕ) → read_book book ≡ got b e → Sees (names_in book) m keys facts dom
    → Answers book (firing m (visits strategy place (rules b))) env r
