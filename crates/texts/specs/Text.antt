-- The text of a term, a literal, an origin, a disjunct, a sequent: "the bytes from this place to that are this thing".
-- By recursion on the thing, so that code which follows the text needs no count of levels. `n` gives the arities.
use Rattle.std.specs.Prelude.{◌≡◌, ℕ, suc, ◌+◌, ◌*◌, length, get_or}
use Rattle.rules.specs.Book.{Term, var, con, app, Terms, nil, cons, Literal, fact, same, Origin, Disjunct, Sequent, Names}
use Rattle.rules.specs.Reading.{Bytes, num, witness_arity}
use Rattle.texts.specs.Reads.{Follow}
use Rattle.texts.specs.Names.{nums}

-- How many terms.
unfoldable pub count : Terms → ℕ
count nil = 0
count (cons t ts) = suc (count ts)

-- 0 variable; 1 constant; 2 function and its terms.
unfoldable mutual
  pub TermText : Names → Bytes → ℕ → Term → ℕ → Type 0
  TermText n s at (var i) e = (num s at ≡ 0) × ((num s (at + 2) ≡ i) × (e ≡ at + 4))
  TermText n s at (con c) e = (num s at ≡ 1) × ((num s (at + 2) ≡ c) × (e ≡ at + 4))
  TermText n s at (app f ts) e = (num s at ≡ 2) × ((num s (at + 2) ≡ f) × ((count ts ≡ get_or n.functions f 0) × TermsText n s (at + 4) ts e))

  pub TermsText : Names → Bytes → ℕ → Terms → ℕ → Type 0
  TermsText n s at nil e = e ≡ at
  TermsText n s at (cons t ts) e = (m : ℕ) × (TermText n s at t m × TermsText n s m ts e)

-- 0, relation, its terms; or 1 and two terms.
unfoldable pub LiteralText : Names → Bytes → ℕ → Literal → ℕ → Type 0
LiteralText n s at (fact r ts) e = (num s at ≡ 0) × ((num s (at + 2) ≡ r) × ((count ts ≡ get_or n.relations r 0) × TermsText n s (at + 4) ts e))
LiteralText n s at (same t u) e = (num s at ≡ 1) × TermsText n s (at + 2) (cons t (cons u nil)) e

-- Kind, witness number, argument count, that many variables.
pub record OriginText (n : Names) (s : Bytes) (at : ℕ) (o : Origin) (e : ℕ) : Type 0 where
  pub kind : num s at ≡ o.kind
  pub witness : num s (at + 2) ≡ o.witness
  pub count : num s (at + 4) ≡ length o.args
  pub arity : length o.args ≡ witness_arity n o.kind o.witness
  pub args : o.args ≡ nums s (at + 6) (length o.args)
  pub next : e ≡ at + 6 + 2 * length o.args

-- Origins and literals, each behind their count; `middle` is where the literals' count stands.
pub record DisjunctText (n : Names) (s : Bytes) (at : ℕ) (d : Disjunct) (e : ℕ) : Type 0 where
  pub count : num s at ≡ length d.origins
  pub middle : ℕ
  pub origins : Follow (OriginText n s) (at + 2) d.origins middle
  pub literal_count : num s middle ≡ length d.literals
  pub literals : Follow (LiteralText n s) (middle + 2) d.literals e

-- Free variables, body, head; `middle` is where the disjuncts' count stands.
pub record SequentText (n : Names) (s : Bytes) (at : ℕ) (q : Sequent) (e : ℕ) : Type 0 where
  pub free : num s at ≡ q.free
  pub count : num s (at + 2) ≡ length q.body
  pub middle : ℕ
  pub body : Follow (LiteralText n s) (at + 4) q.body middle
  pub head_count : num s middle ≡ length q.head
  pub head : Follow (DisjunctText n s) (middle + 2) q.head e
