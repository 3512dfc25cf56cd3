-- What the answers say: for whatever literals, origins and disjuncts stand at the place, they are the definition's.
use Rattle.std.specs.Prelude.{◌≡◌, ℕ, zero, suc, ◌+◌, ◌≤◌, ◌<◌, Bool, true, ◌&&◌, List, ◌++◌, map, length, take}
use Rattle.base.specs.Lists.{All, all, any, entries, first_of}
use Rattle.rules.specs.Book.{var, Literal, Origin, Disjunct, Sequent, Names, completed_disjunct, completed}
use Rattle.rules.specs.Reading.{Bytes, num}
use Rattle.rules.specs.Sheet.{key, Model, domain}
use Rattle.rules.specs.Look.{Meaning, look, observed}
use Rattle.rules.specs.Fire.{disjunct_observed, fires, choices}
use Rattle.soundness.specs.Book.{WfLiteral, WfOrigin, WfDisjunct, WfSequent}
use Rattle.packing.specs.Pack.{pack_key}
use Rattle.tables.specs.Table.{Rising, is_some}
use Rattle.texts.specs.Reads.{Follow}
use Rattle.texts.specs.Names.{names_in, nums}
use Rattle.texts.specs.Text.{LiteralText, OriginText, DisjunctText, SequentText}
use Rattle.look.specs.Shown.{Shown, FactsShown, Means}
use Rattle.look.specs.Digits.{start, top, pack_args}
use Rattle.choosing.specs.Choosing.{perhaps}

-- ---- what is asked of the tables, whatever they show

pub record TablesReady (keys facts dom : List ℕ) : Type 0 where
  pub keys_rise : Rising keys
  pub facts_rise : Rising facts
  pub octets : All (λ e. e < 256) dom

-- Chosen elements stand first in the environment.
abbrev pub Elements : List ℕ → ℕ → Type 0
Elements env v = (v ≤ length env) × All (λ e. e < 256) (take v env)

-- A model by its three tables.
pub record Sees (d : Names) (m : Model) (keys facts dom : List ℕ) : Type 0 where
  pub shown : Shown d m keys dom
  pub held : FactsShown d m facts

-- ---- literals

pub record LiteralsAt (book text : Bytes) (at n : ℕ) (env keys facts dom : List ℕ) (m : Model) (ms : List Meaning) (ls : List Literal) (e : ℕ) : Type 0 where
  pub sees : Sees (names_in book) m keys facts dom
  pub means : Means (names_in book) env ms
  pub wf : All (WfLiteral (names_in book) (length ms)) ls
  pub stand : Follow (LiteralText (names_in book) text) at ls e
  pub counted : length ls ≡ n
  pub fits : e ≤ length text

abbrev pub AllObserved : Bytes → Bytes → ℕ → ℕ → List ℕ → List ℕ → List ℕ → List ℕ → Bool → Type 0
AllObserved book text at n env keys facts dom r =
    (m : Model) (ms : List Meaning) (ls : List Literal) (e : ℕ) → LiteralsAt book text at n env keys facts dom m ms ls e → r ≡ all (observed m ms) ls

-- ---- existentials

-- So many variables from v on have elements.
unfoldable pub have_elements : Model → List Meaning → ℕ → ℕ → Bool
have_elements m ms v zero = true
have_elements m ms v (suc k) = is_some (look (var v) m ms) && have_elements m ms (suc v) k

abbrev pub HaveElements : ℕ → ℕ → List ℕ → List ℕ → List ℕ → Bool → Type 0
HaveElements v k env keys dom r = (d : Names) (m : Model) (ms : List Meaning) → Shown d m keys dom → Means d env ms → v + k ≤ length ms → r ≡ have_elements m ms v k

-- The key of the origin at a place, over chosen elements.
abbrev pub IsOriginKey : Bytes → ℕ → List ℕ → ℕ → Type 0
IsOriginKey text at c r = num text at ≤ 1 → All (λ i. i < length c) (nums text (at + 6) (num text (at + 4)))
    → r ≡ pack_args (start (3 + num text at) (num text (at + 2)) (num text (at + 4))) top (entries c (nums text (at + 6) (num text (at + 4))))

abbrev pub pack_origin : List ℕ → Origin → ℕ
pack_origin c o = pack_key (key (3 + o.kind) o.witness (entries c o.args))

pub record OriginsAt (book text : Bytes) (at k v : ℕ) (os : List Origin) (e : ℕ) : Type 0 where
  pub wf : All (WfOrigin (names_in book) v) os
  pub few : All (λ (o : Origin). length o.args ≤ 4) os
  pub stand : Follow (OriginText (names_in book) text) at os e
  pub counted : length os ≡ k
  pub fits : e ≤ length text

-- The environment with the origins' keys behind the chosen elements, and the place behind the origins.
abbrev pub MadeEnv : Bytes → Bytes → ℕ → ℕ → List ℕ → ℕ → List ℕ → ℕ → Type 0
MadeEnv book text at k env v env' r =
    (os : List Origin) (e : ℕ) → OriginsAt book text at k v os e → (take (v + k) env' ≡ take v env ++ map (pack_origin (take v env)) os) × (r ≡ e)

-- ---- disjuncts and sequents

pub record DisjunctAt (book text : Bytes) (at room v : ℕ) (keys facts dom : List ℕ) (m : Model) (d : Disjunct) (e : ℕ) : Type 0 where
  pub sees : Sees (names_in book) m keys facts dom
  pub wf : WfDisjunct (names_in book) v d
  pub few : v + length d.origins ≤ room
  pub stands : DisjunctText (names_in book) text at d e
  pub fits : e ≤ length text

abbrev pub IsDisjunct : Bytes → Bytes → ℕ → List ℕ → ℕ → List ℕ → List ℕ → List ℕ → Bool → Type 0
IsDisjunct book text at env v keys facts dom r =
    (m : Model) (d : Disjunct) (e : ℕ) → DisjunctAt book text at (length env) v keys facts dom m d e → r ≡ disjunct_observed m (take v env) (completed_disjunct v d)

pub record HeadAt (book text : Bytes) (at n room v : ℕ) (keys facts dom : List ℕ) (m : Model) (ds : List Disjunct) (e : ℕ) : Type 0 where
  pub sees : Sees (names_in book) m keys facts dom
  pub wf : All (WfDisjunct (names_in book) v) ds
  pub few : All (λ (d : Disjunct). v + length d.origins ≤ room) ds
  pub stand : Follow (DisjunctText (names_in book) text) at ds e
  pub counted : length ds ≡ n
  pub fits : e ≤ length text

abbrev pub IsHead : Bytes → Bytes → ℕ → ℕ → List ℕ → ℕ → List ℕ → List ℕ → List ℕ → Bool → Type 0
IsHead book text at n env v keys facts dom r =
    (m : Model) (ds : List Disjunct) (e : ℕ) → HeadAt book text at n (length env) v keys facts dom m ds e
    → r ≡ any (disjunct_observed m (take v env)) (map (completed_disjunct v) ds)

-- A rule of an accepted book: well-formed, at most four free variables, and at most four origins in a disjunct.
pub record Rule (d : Names) (q : Sequent) : Type 0 where
  pub wf : WfSequent d q
  pub few : q.free ≤ 4
  pub few_origins : All (λ (j : Disjunct). length j.origins ≤ 4) q.head

-- The whole text is this sequent.
pub record SequentAt (book text : Bytes) (keys facts dom : List ℕ) (m : Model) (q : Sequent) : Type 0 where
  pub sees : Sees (names_in book) m keys facts dom
  pub rule : Rule (names_in book) q
  pub stands : SequentText (names_in book) text 0 q (length text)

abbrev pub Fires : Bytes → Bytes → ℕ → List ℕ → ℕ → List ℕ → List ℕ → List ℕ → Bool → Type 0
Fires book text at env v keys facts dom r =
    (m : Model) (q : Sequent) (s : SequentAt book text keys facts dom m q) → v ≡ q.free → at ≡ s.stands.middle → r ≡ fires m (completed q) (take v env)

abbrev pub FirstChoice : Bytes → Bytes → List ℕ → List ℕ → List ℕ → Bool → List ℕ → Type 0
FirstChoice book text keys facts dom r env =
    (m : Model) (q : Sequent) → SequentAt book text keys facts dom m q
    → first_of (fires m (completed q)) (choices q.free (domain m)) ≡ perhaps r (take q.free env)
