-- What depths of terms and the test of a bound say: for whatever stands at the place, the answer is the definition's.
use Rattle.std.specs.Prelude.{◌≡◌, ℕ, ◌+◌, ◌-◌, ◌≤◌, ◌<◌, Bool, true, false, List, length, get_or, ◌⊎◌, Some, None}
use Rattle.std.specs.Prelude as std
use Rattle.std.proofs.Math.Option.{none, some}
use Rattle.rules.specs.Book.{Term, Terms}
use Rattle.rules.specs.Reading.{Bytes}
use Rattle.rules.specs.Sheet.{Model, domain, Limits}
use Rattle.rules.specs.Look.{Meaning, nobody, look}
use Rattle.rules.specs.Bound.{Bound, History, depth_meaning, depth, depths, depth_over, admits, admitted}
use Rattle.nodes.specs.declared.Head.{Head}
use Rattle.nodes.specs.declared.Head.TheVariants.{Leaf, Apply}
use Rattle.enter.specs.Terms.{Setting, Told, TermAt, TermsAt, Applies}

-- Whatever the text: depths are no more than the text allows, and the next place is further on.
abbrev pub DepthGood : ℕ → ℕ → std.Option (ℕ × ℕ) → Type 0
DepthGood len at None = Unit
DepthGood len at (Some r) = (r.0 ≤ 65536 + (r.1 - at)) × ((at < r.1) × (r.1 ≤ len))

abbrev pub DepthsGood : ℕ → ℕ → std.Option (ℕ × ℕ) → Type 0
DepthsGood len at None = Unit
DepthsGood len at (Some r) = (r.0 ≤ 65537 + (r.1 - at)) × ((at ≤ r.1) × (r.1 ≤ len))

abbrev pub AskGood : ℕ → ℕ → ℕ → std.Option (ℕ × ℕ) → Type 0
AskGood len at size None = Unit
AskGood len at size (Some r) = ((at < r.0) × (r.0 ≤ len)) × (r.1 ≤ size + 1)

-- ---- what they are, in any setting, for any model that is told and any term that stands there

-- What holds of each such model and term.
abbrev pub Everywhere : (book text : Bytes) → ℕ → (lim : Limits) → List ℕ → List ℕ → List ℕ → ((m : Model) (now : History) → List Meaning → Term → ℕ → Type 0) → Type 0
Everywhere book text at lim env w dom P = (z : Setting book lim env) (m : Model) (now : History) → Told book lim env z w m now → dom ≡ domain m
    → (t : Term) (e : ℕ) → TermAt book text at (length z.ms) t e → P m now z.ms t e

abbrev pub IsDepthVariable : Limits → List ℕ → ℕ → List ℕ → ℕ → Type 0
IsDepthVariable lim env i w r = (book : Bytes) (z : Setting book lim env) (m : Model) (now : History) → Told book lim env z w m now → i < length z.ms
    → r ≡ depth_meaning m now (get_or z.ms i nobody)

abbrev pub IsDepth : Bytes → Bytes → ℕ → Limits → List ℕ → List ℕ → List ℕ → std.Option (ℕ × ℕ) → Type 0
IsDepth book text at lim env w dom r = Everywhere book text at lim env w dom (λ m now ms t e. r ≡ Some (depth t m now ms, e))

abbrev pub IsDepths : Bytes → Bytes → ℕ → ℕ → Limits → List ℕ → List ℕ → List ℕ → std.Option (ℕ × ℕ) → Type 0
IsDepths book text at k lim env w dom r = (z : Setting book lim env) (m : Model) (now : History) → Told book lim env z w m now → dom ≡ domain m
    → (ts : Terms) (e : ℕ) → TermsAt book text at k (length z.ms) ts e → r ≡ Some (depth_over (depths ts m now z.ms), e)

-- What stands first in an unknown term.
abbrev pub HeadDepth : Bytes → Bytes → ℕ → Limits → List ℕ → List ℕ → std.Option (Head ℕ) → Type 0
HeadDepth book text at lim env w None = length text - at < 4
HeadDepth book text at lim env w (Some (Leaf d)) = (z : Setting book lim env) (m : Model) (now : History) → Told book lim env z w m now
    → (t : Term) (e : ℕ) → TermAt book text at (length z.ms) t e → look t m z.ms ≡ none → (d ≡ depth t m now z.ms) × (e ≡ at + 4)
HeadDepth book text at lim env w (Some (Apply f k)) = (n : ℕ) (t : Term) (e : ℕ) → TermAt book text at n t e → Applies book text at n t e f k

-- A term that is put to the bound: refused; or the place behind it, and the count, which is one more where the term is new.
abbrev pub IsAsked : Bytes → Bytes → ℕ → Bound → ℕ → Limits → List ℕ → List ℕ → List ℕ → std.Option (ℕ × ℕ) → Type 0
IsAsked book text at b size lim env w dom None = Everywhere book text at lim env w dom (λ m now ms t e. (look t m ms ≡ none) × (false ≡ admits b size (depth t m now ms)))
IsAsked book text at b size lim env w dom (Some r) = Everywhere book text at lim env w dom (λ m now ms t e. (r.0 ≡ e)
    × ((((v : ℕ) × (look t m ms ≡ some v)) × (r.1 ≡ size)) ⊎ ((look t m ms ≡ none) × ((true ≡ admits b size (depth t m now ms)) × (r.1 ≡ size + 1)))))

abbrev pub IsAdmitted : Bytes → Bytes → ℕ → ℕ → Bound → ℕ → Limits → List ℕ → List ℕ → List ℕ → Bool → Type 0
IsAdmitted book text at k b size lim env w dom r = (z : Setting book lim env) (m : Model) (now : History) → Told book lim env z w m now → dom ≡ domain m
    → (ts : Terms) (e : ℕ) → TermsAt book text at k (length z.ms) ts e → r ≡ admitted b size ts m now z.ms
