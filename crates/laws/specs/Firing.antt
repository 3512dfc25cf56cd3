-- Firing: what fires was visited and is at a choice of the domain; where nothing fires, no visited sequent fires at any choice.
-- The choices are just the lists of living elements of the right length. Each strategy visits each sequent at least once.
use Rattle.std.specs.Prelude.{◌≡◌, refl, ℕ, zero, suc, Bool, true, false, not, List, [], ◌∷◌, map, length, take, drop, T}
use Rattle.std.proofs.Common.{sym, ap, subst, arith, T_not}
use Rattle.std.proofs.Math.Option.{none, some, none-ne-some, some-ne-none, some-injective}
use Rattle.base.specs.Lists.{All, mem}
use Rattle.base.specs.BranchLaws.{case_o_elim, and_i}
use Rattle.base.specs.ListLaws.{all_all, all_map, all_unmap, all_append, all_left, all_right, all_take, all_drop, all_parts, all_flat, all_unflat, all_mem, first_is, first_none}
use Rattle.rules.specs.Book.{Sequent}
use Rattle.rules.specs.Sheet.{Model, domain, known}
use Rattle.rules.specs.Fire.{choices, body_observed, head_observed, fires, numbered, Firing, firing, Strategy, linear, fair, visits}
use Rattle.rules.specs.Arrangement.{KeepsAt, KeepsAll}

-- A list of v numbers that all have P.
abbrev pub Choice : (ℕ → Type 0) → ℕ → List ℕ → Type 0
Choice P v c = (length c ≡ v) × All P c

pub choices_are : (P : ℕ → Type 0) (v : ℕ) (d : List ℕ) → All P d → All (Choice P v) (choices v d)
unfolding choices
choices_are P zero d a = ((refl, tt), tt)
choices_are P (suc v) d a =
    all_flat (Choice P (suc v)) _ (all_map (Choice P v) (All (Choice P (suc v))) _
    (λ c g. all_map P (Choice P (suc v)) (λ (e : ℕ). e ∷ c) (λ e p. (ap suc g.0, (p, g.1))) d a) (choices v d) (choices_are P v d a))

-- What holds at each choice of the evaluator's list holds at each list of living elements.
pub choices_all : (Q : List ℕ → Type 0) (v : ℕ) (d : List ℕ) → All Q (choices v d) → (c : List ℕ) → Choice (λ e. T (mem e d)) v c → Q c
unfolding choices
choices_all Q zero d a [] g = a.0
choices_all Q zero d a (x ∷ c) g = let p = g.0 in absurd (omega arith)
choices_all Q (suc v) d a [] g = let p = g.0 in absurd (omega arith)
choices_all Q (suc v) d a (x ∷ c) g =
    let rest = choices_all (λ b. All Q (map (λ (e : ℕ). e ∷ b) d)) v d
    (all_unmap (All Q) (λ (b : List ℕ). map (λ (e : ℕ). e ∷ b) d) (choices v d) (all_unflat Q _ a)) c (let p = g.0 in omega arith, g.1.1) in
    all_mem (λ e. Q (e ∷ c)) d (all_unmap Q (λ (e : ℕ). e ∷ c) d rest) x g.1.0

-- What fired: a sequent that was visited, at a choice whose elements have what all of the domain has.
pub record Fired (P : ℕ → Type 0) (Q : ℕ × Sequent → Type 0) (m : Model) (f : Firing) : Type 0 where
  pub visited : Q (f.index, f.sequent)
  pub chosen : Choice P f.sequent.free f.choice
  pub fired : T (fires m f.sequent f.choice)

pub firing_is : (P : ℕ → Type 0) (Q : ℕ × Sequent → Type 0) (m : Model) → All P (domain m) → (ss : List (ℕ × Sequent)) → All Q ss
    → (f : Firing) → firing m ss ≡ some f → Fired P Q m f
unfolding firing
firing_is P Q m d [] a f e = absurd (none-ne-some f e)
firing_is P Q m d (s ∷ ss) a f e =
    case_o_elim (λ o. o ≡ some f → Fired P Q m f) _ _ _
    (λ _ q. firing_is P Q m d ss a.1 f q)
    (λ c p q. let r = first_is (Choice P s.1.free) (fires m s.1) _ (choices_are P s.1.free (domain m) d) c p in
    subst (Fired P Q m) (some-injective _ _ q) (record { visited = a.0; chosen = r.0; fired = r.1 })) e

firing_none : (m : Model) (ss : List (ℕ × Sequent)) → firing m ss ≡ none → All (λ (x : ℕ × Sequent). All (λ c. T (not (fires m x.1 c))) (choices x.1.free (domain m))) ss
unfolding firing
firing_none m [] e = tt
firing_none m (s ∷ ss) e =
    case_o_elim (λ o. o ≡ none → All (λ (x : ℕ × Sequent). All (λ c. T (not (fires m x.1 c))) (choices x.1.free (domain m))) (s ∷ ss)) _ _ _
    (λ p q. (first_none (fires m s.1) _ p, firing_none m ss q))
    (λ c p q. absurd (some-ne-none _ q)) e

-- ---- every strategy visits every sequent, and nothing else

numbered_all {κ} : (Q : Sequent → Type κ) (i : ℕ) (ss : List Sequent) → All Q ss → All (λ (x : ℕ × Sequent). Q x.1) (numbered i ss)
unfolding numbered
numbered_all Q i [] a = tt
numbered_all Q i (s ∷ ss) a = (a.0, numbered_all Q (suc i) ss a.1)

all_numbered {κ} : (Q : Sequent → Type κ) (i : ℕ) (ss : List Sequent) → All (λ (x : ℕ × Sequent). Q x.1) (numbered i ss) → All Q ss
unfolding numbered
all_numbered Q i [] a = tt
all_numbered Q i (s ∷ ss) a = (a.0, all_numbered Q (suc i) ss a.1)

-- A list of visits has each of the sequents at least once: what holds of all that it visits holds of all of them.
abbrev pub Covers : List Sequent → List (ℕ × Sequent) → Type 1
Covers rs vs = (Q : Sequent → Type 0) → All (λ (x : ℕ × Sequent). Q x.1) vs → All Q rs

-- And it visits nothing else.
abbrev pub Within : List Sequent → List (ℕ × Sequent) → Type 1
Within rs vs = (Q : Sequent → Type 0) → All Q rs → All (λ (x : ℕ × Sequent). Q x.1) vs

pub visits_cover : (st : Strategy) (p : ℕ) (rs : List Sequent) → Covers rs (visits st p rs)
unfolding visits
visits_cover linear p rs Q a = all_numbered Q 0 rs a
visits_cover fair p rs Q a =
    all_numbered Q 0 rs (all_parts (λ (x : ℕ × Sequent). Q x.1) p (numbered 0 rs)
    (all_right (λ (x : ℕ × Sequent). Q x.1) (drop p (numbered 0 rs)) (take p (numbered 0 rs)) a)
    (all_left (λ (x : ℕ × Sequent). Q x.1) (drop p (numbered 0 rs)) (take p (numbered 0 rs)) a))

pub visits_within : (st : Strategy) (p : ℕ) (rs : List Sequent) → Within rs (visits st p rs)
unfolding visits
visits_within linear p rs Q a = numbered_all Q 0 rs a
visits_within fair p rs Q a =
    let n = numbered_all Q 0 rs a in
    all_append (λ (x : ℕ × Sequent). Q x.1) (drop p (numbered 0 rs)) (take p (numbered 0 rs))
    (all_drop (λ (x : ℕ × Sequent). Q x.1) p (numbered 0 rs) n) (all_take (λ (x : ℕ × Sequent). Q x.1) p (numbered 0 rs) n)

-- ---- a sheet at which nothing fires keeps every rule

quiet_keeps : (m : Model) (s : Sequent) (c : List ℕ) → T (not (fires m s c)) → KeepsAt m s c
unfolding fires
quiet_keeps m s c t b = go (head_observed m s c) refl
  where
    go : (h : Bool) → head_observed m s c ≡ h → T h
    go true e = tt
    go false e = absurd (T_not (fires m s c) t (and_i (body_observed m s c) (not (head_observed m s c)) b (subst (λ z. T (not z)) (sym e) tt)))

pub nothing_keeps : (m : Model) (rs : List Sequent) (vs : List (ℕ × Sequent)) → Covers rs vs → firing m vs ≡ none → KeepsAll m rs
unfolding known
nothing_keeps m rs vs cover e =
    cover (λ (s : Sequent). (c : List ℕ) → length c ≡ s.free → All (λ x. T (known m x)) c → KeepsAt m s c)
    (all_all (λ (x : ℕ × Sequent). All (λ c. T (not (fires m x.1 c))) (choices x.1.free (domain m)))
    (λ (x : ℕ × Sequent). (c : List ℕ) → length c ≡ x.1.free → All (λ y. T (known m y)) c → KeepsAt m x.1 c)
    (λ x a c l k. quiet_keeps m x.1 c (choices_all (λ b. T (not (fires m x.1 b))) x.1.free (domain m) a c (l, k))) vs (firing_none m vs e))
