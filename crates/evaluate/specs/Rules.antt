-- The sequents of an accepted book are rules: well-formed, with few free variables and origins.
use Rattle.std.specs.Prelude.{◌≡◌, refl, ℕ, ◌+◌, ◌≤◌, List, [], ◌∷◌, length}
use Rattle.std.proofs.Common.{sym, ap, ◌∙◌, subst, arith}
use Rattle.base.specs.Lists.{All}
use Rattle.base.specs.ListLaws.{all_all, all_both, all_unmap, all_left}
use Rattle.rules.specs.Book.{Origin, Disjunct, Sequent, Names, Book, appended, completed_disjunct, completed, rules}
use Rattle.rules.specs.Reading.{Bytes, Read, got, many, origin_at, disjunct_at, sequent_at, read_book}
use Rattle.soundness.specs.Book.{WfLiteral, WfDisjunct, WfSequent, read_wf}
use Rattle.texts.specs.Reads.{then_got, giving_got, ranged_got, Follow, many_got}
use Rattle.texts.specs.Names.{names_in, sequents_at}
use Rattle.texts.specs.Heads.{accepted}
use Rattle.firing.specs.Answers.{Rule}

-- ---- what was completed is well-formed before

raw_disjunct : (d : Names) (v : ℕ) (j : Disjunct) → WfDisjunct d v (completed_disjunct v j) → WfDisjunct d v j
unfolding completed_disjunct
raw_disjunct d v j w = (w.0, all_left (WfLiteral d (v + length j.origins)) j.literals (appended v j.origins j.literals) w.1)

raw_sequent : (d : Names) (q : Sequent) → WfSequent d (completed q) → WfSequent d q
unfolding completed
raw_sequent d q w = (
  w.0,
  all_all (λ j. WfDisjunct d q.free (completed_disjunct q.free j)) (WfDisjunct d q.free) (raw_disjunct d q.free) q.head
      (all_unmap (WfDisjunct d q.free) (completed_disjunct q.free) q.head w.1),
)

-- ---- few free variables and origins

follow_all : {A : Type 0} (P : A → Type 0) (at : ℕ) (xs : List A) (e : ℕ) → Follow (λ _ x _. P x) at xs e → All P xs
unfolding Follow
follow_all P at [] e h = tt
follow_all P at (x ∷ xs) e h = (h.1.0, follow_all P h.0 xs e h.1.1)

many_all : {A : Type 0} (P : A → Type 0) (f : ℕ → Read A) → ((at : ℕ) (x : A) (e : ℕ) → f at ≡ got x e → P x)
    → (k at : ℕ) (xs : List A) (e : ℕ) → many k f at ≡ got xs e → All P xs × (length xs ≡ k)
many_all P f h k at xs e q = let r = many_got (λ _ x _. P x) f h k at xs e q in (follow_all P at xs e r.0, r.1)

disjunct_few : (n : Names) (v : ℕ) (s : Bytes) (at : ℕ) (d : Disjunct) (e : ℕ) → disjunct_at n v s at ≡ got d e → length d.origins ≤ 4
unfolding disjunct_at
disjunct_few n v s at d e h =
    let k = then_got _ _ _ _ h in
    let x = ranged_got 0 4 s at k.first k.middle k.before in
    let o = then_got _ _ _ _ k.after in
    let os = many_all (λ (y : Origin). y ≡ y) (origin_at n v s) (λ a u m q. refl) k.first k.middle o.first o.middle o.before in
    let m = then_got _ _ _ _ o.after in
    let g = giving_got _ _ _ _ m.after in
    let z : length d.origins ≡ k.first = ap (λ (y : Disjunct). length y.origins) g.is ∙ os.1 in
    let w = x.1.1 in
    omega arith

abbrev Few : Sequent → Type 0
Few q = (q.free ≤ 4) × All (λ (j : Disjunct). length j.origins ≤ 4) q.head

sequent_few : (n : Names) (s : Bytes) (at : ℕ) (q : Sequent) (e : ℕ) → sequent_at n s at ≡ got q e → Few q
unfolding sequent_at
sequent_few n s at q e h =
    let v = then_got _ _ _ _ h in
    let w = ranged_got 0 4 s at v.first v.middle v.before in
    let k = then_got _ _ _ _ v.after in
    let b = then_got _ _ _ _ k.after in
    let m = then_got _ _ _ _ b.after in
    let g = giving_got _ _ _ _ m.after in
    let ds = many_all (λ (j : Disjunct). length j.origins ≤ 4) (disjunct_at n v.first s) (λ a u c r. disjunct_few n v.first s a u c r) m.first m.middle g.from e g.read in
    subst Few (sym g.is) (w.1.1, ds.0)

pub book_rules : (s : Bytes) (b : Book) (e : ℕ) → read_book s ≡ got b e → All (Rule (names_in s)) b.sequents
unfolding rules
book_rules s b e h =
    let a = accepted s b e h in
    let w = all_unmap (WfSequent b.names) completed b.sequents (read_wf s b e h) in
    let f = many_all Few (sequent_at (names_in s) s) (λ at q m r. sequent_few (names_in s) s at q m r) _ (sequents_at s) b.sequents (length s) a.read in
    all_both (λ q. WfSequent b.names (completed q)) Few (Rule (names_in s))
    (λ q x y. record { wf = subst (λ d. WfSequent d q) a.head.are (raw_sequent b.names q x); few = y.0; few_origins = y.1 }) b.sequents w f.0
