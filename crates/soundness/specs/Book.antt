-- Well-formed rules: terms name declared symbols with their arities and variables that are there. Reading gives only such rules,
-- since what holds of all that a part's reading gives is carried through the three ways of joining readings.
use Rattle.std.specs.Prelude.{◌≡◌, refl, ℕ, zero, suc, ◌+◌, ◌≤◌, ◌<◌, List, [], ◌∷◌, length, get_or, T, leb, ltb, eqb}
use Rattle.std.proofs.Common.{sym, ap, ◌∙◌, subst, le_refl, arith, leb→le, ltb→lt, lt→ltb, nltb→le, eqb→eq}
use Rattle.base.specs.Branch.{if}
use Rattle.base.specs.Lists.{All}
use Rattle.base.specs.BranchLaws.{if_elim, and_r, and_i, eq→eqb}
use Rattle.base.specs.ListLaws.{all_map, all_append}
use Rattle.rules.specs.Book.{Term, var, con, app, Terms, nil, cons, terms, Literal, fact, same, Origin, Disjunct, Sequent, Names, Book, appended, completed_disjunct, completed, rules}
use Rattle.rules.specs.Reading.{Bytes, Read, got, refused, and_then, giving, many, number, ranged, declared, mark, version, names_at, levels, term_at, literal_at, witnesses, witness_arity, origin_at, disjunct_at, sequent_at, ended, read_book}
use Rattle.rules.specs.Sound.{has_arity, declared_as}

-- ---- well-formed

abbrev pub count : Terms → ℕ
count nil = 0
count (cons t ts) = suc (count ts)

-- Over n variables.
abbrev mutual
  pub WfTerm : Term → Names → ℕ → Type 0
  WfTerm (var i) d n = i < n
  WfTerm (con c) d n = T (declared_as d 1 c 0)
  WfTerm (app f ts) d n = T (declared_as d 2 f (count ts)) × WfTerms ts d n

  pub WfTerms : Terms → Names → ℕ → Type 0
  WfTerms nil d n = Unit
  WfTerms (cons t ts) d n = WfTerm t d n × WfTerms ts d n

abbrev pub WfLiteral : Names → ℕ → Literal → Type 0
WfLiteral d n (fact r ts) = T (has_arity d.relations r (count ts)) × WfTerms ts d n
WfLiteral d n (same s t) = WfTerm s d n × WfTerm t d n

-- Over v free variables.
abbrev pub WfOrigin : Names → ℕ → Origin → Type 0
WfOrigin d v o = (o.kind ≤ 1) × T (declared_as d (3 + o.kind) o.witness (length o.args)) × All (λ i. i < v) o.args

abbrev pub WfDisjunct : Names → ℕ → Disjunct → Type 0
WfDisjunct d v j = All (WfOrigin d v) j.origins × All (WfLiteral d (v + length j.origins)) j.literals

abbrev pub WfSequent : Names → Sequent → Type 0
WfSequent d s = All (WfLiteral d s.free) s.body × All (WfDisjunct d s.free) s.head

-- ---- what is appended names existentials that are there

appended_wf : (d : Names) (n v : ℕ) (os : List Origin) (ls : List Literal) → v + length os ≤ n → All (WfLiteral d n) (appended v os ls)
unfolding appended
appended_wf d n v [] ls l = tt
appended_wf d n v (o ∷ os) ls l =
    if_elim (All (WfLiteral d n)) _ _ _ (λ _. appended_wf d n (suc v) os ls (omega arith)) (λ _. ((omega arith, omega arith), appended_wf d n (suc v) os ls (omega arith)))

completed_wf : (d : Names) (s : Sequent) → WfSequent d s → WfSequent d (completed s)
unfolding completed completed_disjunct
completed_wf d s w = (
  w.0,
  all_map (WfDisjunct d s.free) (WfDisjunct d s.free) (completed_disjunct s.free)
      (λ j q. (
        q.0,
        all_append (WfLiteral d (s.free + length j.origins)) j.literals (appended s.free j.origins j.literals) q.1
            (appended_wf d (s.free + length j.origins) s.free j.origins j.literals (le_refl _)),
      )) s.head w.1,
)

-- ---- the ways of joining readings

-- What is got has P.
record Gives {A : Type 0} (P : A → Type 0) (r : Read A) : Type 0 where
  has : (a : A) (e : ℕ) → r ≡ got a e → P a

gives_got : {A : Type 0} {P : A → Type 0} (a : A) (e : ℕ) → P a → Gives P (got a e)
gives_got {P = P} a e p = record { has = λ b f q. let z : a ≡ b = cc in subst P z p }

gives_refused : {A : Type 0} {P : A → Type 0} (n at : ℕ) → Gives P (refused n at)
gives_refused n at = record { has = λ b f q. let z : ◌≡◌ {A = ℕ} 0 1 = cc in absurd (omega arith) }

and_then_gives : {A B : Type 0} {P : A → Type 0} {Q : B → Type 0} (r : Read A) (f : A → ℕ → Read B)
    → Gives P r → ((a : A) (e : ℕ) → P a → Gives Q (f a e)) → Gives Q (and_then r f)
unfolding and_then
and_then_gives (got a e) f p g = g a e (p.has a e refl)
and_then_gives (refused n at) f p g = gives_refused n at

-- After a reading of which nothing is said.
then_gives : {A B : Type 0} {Q : B → Type 0} (r : Read A) (f : A → ℕ → Read B) → ((a : A) (e : ℕ) → Gives Q (f a e)) → Gives Q (and_then r f)
then_gives r f g = and_then_gives {P = λ _. Unit} r f (record { has = λ a e q. tt }) (λ a e _. g a e)

giving_gives : {A B : Type 0} {P : A → Type 0} {Q : B → Type 0} (f : A → B) (r : Read A) → Gives P r → ((a : A) → P a → Q (f a)) → Gives Q (giving f r)
unfolding giving
giving_gives f (got a e) p g = gives_got (f a) e (g a (p.has a e refl))
giving_gives f (refused n at) p g = gives_refused n at

-- As many as counted, all with P.
abbrev Just : {A : Type 0} → ℕ → (A → Type 0) → List A → Type 0
Just n P xs = (length xs ≡ n) × All P xs

many_gives : {A : Type 0} (P : A → Type 0) (n : ℕ) (f : ℕ → Read A) → ((at : ℕ) → Gives P (f at)) → (at : ℕ) → Gives (Just n P) (many n f at)
unfolding many
many_gives P zero f g at = gives_got [] at (refl, tt)
many_gives P (suc n) f g at =
    and_then_gives (f at) _ (g at) (λ x e p. giving_gives (λ xs. x ∷ xs) _ (many_gives P n f g e) (λ xs q. (ap suc q.0, (p, q.1))))

-- ---- numbers

ranged_gives : (low high : ℕ) (s : Bytes) (at : ℕ) → Gives (λ x. x ≤ high) (ranged low high s at)
unfolding ranged
ranged_gives low high s at =
    then_gives (number s at) _ (λ x e. if_elim (Gives (λ n. n ≤ high)) _ _ _ (λ t. gives_got x e (leb→le x high (and_r (leb low x) (leb x high) t))) (λ _. gives_refused 5 at))

declared_gives : (n : ℕ) (s : Bytes) (at : ℕ) → Gives (λ x. x < n) (declared n s at)
unfolding declared
declared_gives n s at =
    then_gives (number s at) _ (λ x e. if_elim (Gives (λ i. i < n)) _ _ _ (λ t. gives_got x e (ltb→lt x n t)) (λ _. gives_refused 7 at))

-- ---- what declares what

arity_is : (ns : List ℕ) (i n : ℕ) → i < length ns → n ≡ get_or ns i 0 → T (has_arity ns i n)
unfolding has_arity
arity_is ns i n l e = and_i (ltb i (length ns)) _ (lt→ltb i (length ns) l) (eq→eqb (get_or ns i 0) n (sym e))

constant_is : (d : Names) (c : ℕ) → c < d.constants → T (declared_as d 1 c 0)
unfolding declared_as if
constant_is d c l = and_i (ltb c d.constants) _ (lt→ltb c d.constants l) tt

function_is : (d : Names) (f n : ℕ) → f < length d.functions → n ≡ get_or d.functions f 0 → T (declared_as d 2 f n)
unfolding declared_as if
function_is d f n l e = arity_is d.functions f n l e

witness_is : (d : Names) (kind w n : ℕ) → kind ≤ 1 → w < witnesses d kind → n ≡ witness_arity d kind w → T (declared_as d (3 + kind) w n)
unfolding declared_as if witnesses witness_arity
witness_is d zero w n k l e = and_i (ltb w d.constant_witnesses) (eqb n 0) (lt→ltb w d.constant_witnesses l) (eq→eqb n 0 e)
witness_is d (suc zero) w n k l e = arity_is d.function_witnesses w n l e
witness_is d (suc (suc kind)) w n k l e = absurd (omega arith)

-- ---- terms and literals

terms_wf : (d : Names) (n : ℕ) (ts : List Term) → All (λ t. WfTerm t d n) ts → WfTerms (terms ts) d n
unfolding terms
terms_wf d n [] a = tt
terms_wf d n (t ∷ ts) a = (a.0, terms_wf d n ts a.1)

terms_count : (ts : List Term) → count (terms ts) ≡ length ts
unfolding terms
terms_count [] = refl
terms_count (t ∷ ts) = ap suc (terms_count ts)

term_at_gives : (l : ℕ) (d : Names) (v : ℕ) (s : Bytes) (at : ℕ) → Gives (λ t. WfTerm t d v) (term_at l d v s at)
unfolding term_at
term_at_gives zero d v s at = gives_refused 8 at
term_at_gives (suc l) d v s at =
    then_gives (number s at) _ (λ kind e.
    if_elim (Gives (λ t. WfTerm t d v)) _ _ _ (λ _. giving_gives var _ (declared_gives v s e) (λ x p. p)) (λ _.
    if_elim (Gives (λ t. WfTerm t d v)) _ _ _ (λ _. giving_gives con _ (declared_gives d.constants s e) (λ x p. constant_is d x p)) (λ _.
    if_elim (Gives (λ t. WfTerm t d v)) _ _ _ (λ _. and_then_gives _ _ (declared_gives (length d.functions) s e) (λ f g p.
    if_elim (Gives (λ t. WfTerm t d v)) _ _ _ (λ _. gives_refused 8 e) (λ _.
    giving_gives (λ ts. app f (terms ts)) _ (many_gives (λ t. WfTerm t d v) (get_or d.functions f 0) (term_at l d v s) (term_at_gives l d v s) g)
    (λ ts q. (function_is d f (count (terms ts)) p (terms_count ts ∙ q.0), terms_wf d v ts q.1))))) (λ _.
    gives_refused 6 at))))

literal_at_gives : (d : Names) (v : ℕ) (s : Bytes) (at : ℕ) → Gives (WfLiteral d v) (literal_at d v s at)
unfolding literal_at
literal_at_gives d v s at =
    then_gives (number s at) _ (λ kind e.
    if_elim (Gives (WfLiteral d v)) _ _ _ (λ _. and_then_gives _ _ (declared_gives (length d.relations) s e) (λ r g p.
    giving_gives (λ ts. fact r (terms ts)) _ (many_gives (λ t. WfTerm t d v) (get_or d.relations r 0) (term_at levels d v s) (term_at_gives levels d v s) g)
    (λ ts q. (arity_is d.relations r (count (terms ts)) p (terms_count ts ∙ q.0), terms_wf d v ts q.1)))) (λ _.
    if_elim (Gives (WfLiteral d v)) _ _ _ (λ _. and_then_gives _ _ (term_at_gives levels d v s e) (λ t g p. giving_gives (same t) _ (term_at_gives levels d v s g) (λ u q. (p, q)))) (λ _.
    gives_refused 6 at)))

-- ---- origins, disjuncts, sequents

origin_at_gives : (d : Names) (v : ℕ) (s : Bytes) (at : ℕ) → Gives (WfOrigin d v) (origin_at d v s at)
unfolding origin_at
origin_at_gives d v s at =
    then_gives (number s at) _ (λ kind a. if_elim (Gives (WfOrigin d v)) _ _ _ (λ _. gives_refused 6 at) (λ t.
    and_then_gives _ _ (declared_gives (witnesses d kind) s a) (λ w b p. then_gives (number s b) _ (λ k c.
    if_elim (Gives (WfOrigin d v)) _ _ _
    (λ u. giving_gives (λ xs. record { kind = kind; witness = w; args = xs }) _ (many_gives (λ i. i < v) k (declared v s) (declared_gives v s) c)
    (λ xs q. let small = nltb→le 1 kind t in
    (small, witness_is d kind w (length xs) small p (q.0 ∙ eqb→eq k (witness_arity d kind w) u), q.1)))
    (λ _. gives_refused 9 b)))))

disjunct_at_gives : (d : Names) (v : ℕ) (s : Bytes) (at : ℕ) → Gives (WfDisjunct d v) (disjunct_at d v s at)
unfolding disjunct_at
disjunct_at_gives d v s at =
    then_gives (ranged 0 4 s at) _ (λ k a. and_then_gives _ _ (many_gives (WfOrigin d v) k (origin_at d v s) (origin_at_gives d v s) a) (λ os b p.
    then_gives (ranged 0 16 s b) _ (λ n c.
    giving_gives (λ ls. record { origins = os; literals = ls }) _ (many_gives (WfLiteral d (v + k)) n (literal_at d (v + k) s) (literal_at_gives d (v + k) s) c)
    (λ ls q. (p.1, subst (λ z. All (WfLiteral d (v + z)) ls) (sym p.0) q.1)))))

sequent_at_gives : (d : Names) (s : Bytes) (at : ℕ) → Gives (WfSequent d) (sequent_at d s at)
unfolding sequent_at
sequent_at_gives d s at =
    then_gives (ranged 0 4 s at) _ (λ v a. then_gives (ranged 0 16 s a) _ (λ k b.
    and_then_gives _ _ (many_gives (WfLiteral d v) k (literal_at d v s) (literal_at_gives d v s) b) (λ ls c p. then_gives (ranged 0 8 s c) _ (λ n e.
    giving_gives (λ js. record { free = v; body = ls; head = js }) _ (many_gives (WfDisjunct d v) n (disjunct_at d v s) (disjunct_at_gives d v s) e) (λ js q. (p.1, q.1))))))

-- ---- names and the book

-- Symbols and arguments fit bytes.
pub record SmallNames (d : Names) : Type 0 where
  pub few_constants : d.constants ≤ 64
  pub few_functions : length d.functions ≤ 64
  pub few_relations : length d.relations ≤ 64
  pub few_constant_witnesses : d.constant_witnesses ≤ 64
  pub few_function_witnesses : length d.function_witnesses ≤ 64
  pub function_arities : All (λ n. n ≤ 4) d.functions
  pub relation_arities : All (λ n. n ≤ 4) d.relations
  pub witness_arities : All (λ n. n ≤ 4) d.function_witnesses

names_at_gives : (s : Bytes) (at : ℕ) → Gives SmallNames (names_at s at)
unfolding names_at
names_at_gives s at =
    and_then_gives _ _ (ranged_gives 0 64 s at) (λ c a pc. and_then_gives _ _ (ranged_gives 0 64 s a) (λ f b pf. and_then_gives _ _ (ranged_gives 0 64 s b) (λ r e pr.
    and_then_gives _ _ (ranged_gives 0 64 s e) (λ k g pk. and_then_gives _ _ (ranged_gives 0 64 s g) (λ w h pw.
    and_then_gives _ _ (many_gives (λ n. n ≤ 4) f (ranged 0 4 s) (ranged_gives 0 4 s) h) (λ fs i qf.
    and_then_gives _ _ (many_gives (λ n. n ≤ 4) r (ranged 0 4 s) (ranged_gives 0 4 s) i) (λ rs j qr.
    giving_gives _ _ (many_gives (λ n. n ≤ 4) w (ranged 1 4 s) (ranged_gives 1 4 s) j) (λ ws qw. record {
      few_constants = pc;
      few_functions = let z = qf.0 in omega arith;
      few_relations = let z = qr.0 in omega arith;
      few_constant_witnesses = pk;
      few_function_witnesses = let z = qw.0 in omega arith;
      function_arities = qf.1;
      relation_arities = qr.1;
      witness_arities = qw.1;
    }))))))))

-- What is read: well-formed sequents, small names, at most 128 sequents.
abbrev WellRead : Book → Type 0
WellRead b = All (WfSequent b.names) b.sequents × SmallNames b.names × (length b.sequents ≤ 128)

read_book_gives : (s : Bytes) → Gives WellRead (read_book s)
unfolding read_book ended
read_book_gives s =
    if_elim (Gives WellRead) _ _ _ (λ _. gives_refused 1 0) (λ _.
    then_gives (mark s) _ (λ _ a. then_gives (version s a) _ (λ _ b. and_then_gives _ _ (names_at_gives s b) (λ n c small. and_then_gives _ _ (ranged_gives 0 128 s c) (λ k e few.
    and_then_gives _ _ (many_gives (WfSequent n) k (sequent_at n s) (sequent_at_gives n s) e) (λ ss f q.
    if_elim (Gives WellRead) _ _ _ (λ _. gives_got _ f (q.1, small, let z = q.0 in omega arith)) (λ _. gives_refused 10 f)))))))

pub read_wf : (s : Bytes) (b : Book) (e : ℕ) → read_book s ≡ got b e → All (WfSequent b.names) (rules b)
unfolding rules
read_wf s b e q =
    all_map (WfSequent b.names) (WfSequent b.names) completed (completed_wf b.names) b.sequents ((read_book_gives s).has b e q).0

pub read_small : (s : Bytes) (b : Book) (e : ℕ) → read_book s ≡ got b e → SmallNames b.names × (length b.sequents ≤ 128)
read_small s b e q = let r = (read_book_gives s).has b e q in (r.1, r.2)
