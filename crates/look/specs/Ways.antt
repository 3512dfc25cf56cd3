-- One law for each way out of the lookup of a variable, a term and an argument list.
use Rattle.std.proofs.Math.Path.{◌≡◌, refl, sym, ap, ap₂, subst}
use Rattle.std.proofs.Common.{◌∙◌, arith}
use Prim.Native.Nat.{ℕ, zero, suc, ◌+◌, ◌-◌, ◌*◌, ◌/◌, ◌≤◌, ◌<◌}
use Rattle.std.specs.Prelude.{true, false, Some, None}
use Rattle.std.specs.Prelude as std
use Rattle.std.proofs.lemmas.Option.{none-some, same_Some, some_pair_parts}
use Rattle.std.proofs.Math.Option.{Option, none, some}
use mathlib.Core.List.{List, [], ◌∷◌, map}
use Rattle.std.proofs.Math.ListN.{length, get_or}
use Rattle.std.proofs.lemmas.List.{length-map}
use Rattle.std.proofs.Math.Dec.{T}
use Rattle.base.specs.Branch.{if, case_o}
use Rattle.base.specs.Lists.{All, mem}
use Rattle.base.specs.BranchLaws.{if_elim}
use Rattle.base.specs.ListLaws.{all_get_d}
use Rattle.rules.specs.Book.{Term, var, con, app, Terms, nil, cons, Names}
use Rattle.rules.specs.Reading.{Bytes, num}
use Rattle.rules.specs.Sheet.{Key, key, Model, find, known}
use Rattle.rules.specs.Look.{Meaning, elem, witness, nobody, look_meaning, look, looks}
use Rattle.rules.specs.Sound.{declared_as}
use Rattle.soundness.specs.Book.{WfTerm, WfTerms}
use Rattle.soundness.specs.Book as sound
use Rattle.images.specs.Storable.{Octet}
use Rattle.packing.specs.Pack.{pack_key, Fits, arity_of}
use Rattle.tables.specs.Table.{look_in, option_of}
use Rattle.tables.specs.Carry.{find_is}
use Rattle.texts.specs.Names.{names_in}
use Rattle.texts.specs.Text.{count, TermText, TermsText}
use Rattle.texts.specs.Parts.{term_grows, terms_grow}
use Rattle.nodes.specs.declared.Atom.TheVariants.{Variable, Constant}
use Rattle.nodes.specs.declared.Head.TheVariants.{Leaf, Apply}
use Rattle.nodes.specs.Heads.{HeadAt}
use Rattle.look.specs.Shown.{Shown, Means, Plain, pack_meaning, declared_fits, find_octet, witness_look, witness_above}
use Rattle.look.specs.Digits.{start, top, pack_args, pack_args_lem}
use Rattle.look.specs.Answers.{as_look, as_args, IsVariable, At, Ats, IsLook, IsArgs, HeadIs}

-- ---- a key's value by its number

pub found_key : {d : Names} {m : Model} {keys dom : List ℕ} → Shown d m keys dom → (k : Key) → Fits (arity_of d) k → option_of (look_in (pack_key k) keys) ≡ option_of (find k m.keys)
found_key {d} {m} s k p = ap (λ (xs : List ℕ). option_of (look_in (pack_key k) xs)) s.keys_are ∙ ap option_of (sym (find_is (arity_of d) k m.keys p s.keys_fit))

-- ---- variables

module _ (env : List ℕ) (i : ℕ) (keys dom : List ℕ) where
  -- What stands at i of the environment: a meaning that is packed as this number.
  meant : (d : Names) (ms : List Meaning) → Means d env ms → i < length ms → (get_or env i 0 ≡ pack_meaning (get_or ms i nobody)) × Plain d (get_or ms i nobody)
  meant d ms s h = (
    ap (λ (l : List ℕ). get_or l i 0) s.are ∙ at ms i h,
    all_get_d (Plain d) ms i nobody h s.plain,
  )
    where
      at : (ms : List Meaning) (i : ℕ) → i < length ms → get_or (map pack_meaning ms) i 0 ≡ pack_meaning (get_or ms i nobody)
      at [] i h = absurd (omega arith)
      at (x ∷ ms) zero h = refl
      at (x ∷ ms) (suc i) h = at ms i (omega arith)

  pub variable_past : length env ≤ i → IsVariable env i keys dom None
  variable_past h d m ms s e l = absurd (omega (arith, ap length e.are ∙ length-map ms pack_meaning))

  module _ (x : ℕ) (is : get_or env i 0 ≡ x) where
    pub variable_witness : 256 ≤ x → (r : std.Option ℕ) → r ≡ option_of (look_in x keys) → IsVariable env i keys dom r
    unfolding pack_meaning Plain
    variable_witness h r e d m ms s n l = let p = meant d ms n l in go (get_or ms i nobody) (sym is ∙ p.0) p.1
      where
        go : (μ : Meaning) → x ≡ pack_meaning μ → Plain d μ → r ≡ option_of (look_meaning m μ)
        go (elem y) q g = absurd (omega arith)
        go (witness k) q g = e ∙ ap (λ z. option_of (look_in z keys)) q ∙ found_key s k g.0 ∙ ap option_of (sym (witness_look s k))

    pub variable_element : x < 256 → (r : std.Option ℕ) → r ≡ option_of (if (mem x dom) (λ _. some x) (λ _. none)) → IsVariable env i keys dom r
    unfolding pack_meaning Plain look_meaning known
    variable_element h r e d m ms s n l = let p = meant d ms n l in go (get_or ms i nobody) (sym is ∙ p.0) p.1
      where
        go : (μ : Meaning) → x ≡ pack_meaning μ → Plain d μ → r ≡ option_of (look_meaning m μ)
        go (elem y) q g = e ∙ ap₂ (λ (l : List ℕ) (z : ℕ). option_of (if (mem z l) (λ _. some z) (λ _. none))) s.domain_is q
        go (witness k) q g = absurd (omega (arith, witness_above k g.1))

    pub variable_lives : x < 256 → true ≡ mem x dom → IsVariable env i keys dom (Some x)
    unfolding if
    variable_lives h t = variable_element h (Some x) (ap (λ b. option_of (if b (λ _. some x) (λ _. none))) t)

    pub variable_gone : x < 256 → false ≡ mem x dom → IsVariable env i keys dom None
    unfolding if
    variable_gone h t = variable_element h None (ap (λ b. option_of (if b (λ _. some x) (λ _. none))) t)

-- ---- every answer is an element below 256

module _ {d : Names} {m : Model} {keys dom : List ℕ} (s : Shown d m keys dom) where
  living_octet : (e : ℕ) → e < 256 → (v : ℕ) → if (known m e) (λ _. some e) (λ _. none) ≡ some v → v < 256
  living_octet e h v = if_elim (λ o. o ≡ some v → v < 256) (known m e) _ _ (λ _ q. let z : e ≡ v = cc in omega arith) (λ _ q. let z : ◌≡◌ {A = ℕ} 0 1 = cc in absurd (omega arith))

  meaning_octet : (μ : Meaning) → Plain d μ → (v : ℕ) → look_meaning m μ ≡ some v → v < 256
  unfolding look_meaning Plain
  meaning_octet (elem e) p v q = living_octet e p v q
  meaning_octet (witness k) p v q = find_octet s k v (sym (witness_look s k) ∙ q)

  module _ (ms : List Meaning) (plain : All (Plain d) ms) where
    found_octet : {A : Type 0} (o : Option A) (f : A → Key) (v : ℕ) → case_o o (λ _. none) (λ xs. find (f xs) m.keys) ≡ some v → v < 256
    unfolding case_o
    found_octet none f v q = let z : ◌≡◌ {A = ℕ} 0 1 = cc in absurd (omega arith)
    found_octet (some xs) f v q = find_octet s (f xs) v q

    both : (a : Option ℕ) (b : Option (List ℕ)) → ((v : ℕ) → a ≡ some v → v < 256) → ((xs : List ℕ) → b ≡ some xs → All Octet xs) → (n : ℕ) → ((xs : List ℕ) → b ≡ some xs → length xs ≡ n)
        → (ys : List ℕ) → case_o a (λ _. none) (λ v. case_o b (λ _. none) (λ xs. some (v ∷ xs))) ≡ some ys → All Octet ys × (length ys ≡ suc n)
    unfolding case_o
    both none b f g n l ys q = let z : ◌≡◌ {A = ℕ} 0 1 = cc in absurd (omega arith)
    both (some v) none f g n l ys q = let z : ◌≡◌ {A = ℕ} 0 1 = cc in absurd (omega arith)
    both (some v) (some xs) f g n l ys q = let z : v ∷ xs ≡ ys = cc in subst (λ zs. All Octet zs × (length zs ≡ suc n)) z ((f v refl, g xs refl), ap suc (l xs refl))

    mutual
      unfolding look looks

      pub look_octet : (t : Term) → WfTerm t d (length ms) → (v : ℕ) → look t m ms ≡ some v → v < 256
      look_octet (var i) w v q = meaning_octet (get_or ms i nobody) (all_get_d (Plain d) ms i nobody w plain) v q
      look_octet (con c) w v q = find_octet s (key 1 c []) v q
      look_octet (app f ts) w v q = found_octet (looks ts m ms) (λ xs. key 2 f xs) v q

      pub looks_octets : (ts : Terms) → WfTerms ts d (length ms) → (ys : List ℕ) → looks ts m ms ≡ some ys → All Octet ys × (length ys ≡ sound.count ts)
      looks_octets nil w ys q = let z : [] ≡ ys = cc in subst (λ zs. All Octet zs × (length zs ≡ 0)) z (tt, refl)
      looks_octets (cons t ts) w ys q =
          both (look t m ms) (looks ts m ms) (λ v e. look_octet t w.0 v e) (λ xs e. (looks_octets ts w.1 xs e).0) (sound.count ts) (λ xs e. (looks_octets ts w.1 xs e).1) ys q

pub counts : (ts : Terms) → sound.count ts ≡ count ts
unfolding count
counts nil = refl
counts (cons t ts) = ap suc (counts ts)

-- ---- answers tell what the lookup is

pub look_some : (o : Option ℕ) (v m e : ℕ) → Some (v, e) ≡ as_look o m → (o ≡ some v) × (m ≡ e)
look_some none v m e p = absurd (none-some (v, e) (sym p))
look_some (some w) v m e p = let q = some_pair_parts v w e m p in (ap some (sym q.0), sym q.1)

pub look_none : (o : Option ℕ) (m : ℕ) → None ≡ as_look o m → o ≡ none
look_none none m p = refl
look_none (some w) m p = absurd (none-some (w, m) p)

-- A value that is there, with a place, and one that is not.
pub value_look : (o : Option ℕ) (v e : ℕ) → Some v ≡ option_of o → Some (v, e) ≡ as_look o e
value_look none v e p = absurd (none-some v (sym p))
value_look (some w) v e p = ap (λ x. Some (x, e)) (same_Some v w p)

pub none_look : (o : Option ℕ) (e : ℕ) → None ≡ option_of o → None ≡ as_look o e
none_look none e p = refl
none_look (some w) e p = absurd (none-some w p)

-- An argument list that was looked up.
pub record Listed (acc w : ℕ) (o : Option (List ℕ)) (m p e : ℕ) : Type 0 where
  pub values : List ℕ
  pub is : o ≡ some values
  pub packed : p ≡ pack_args acc w values
  pub ends : m ≡ e

pub args_some : (acc w : ℕ) (o : Option (List ℕ)) (m p e : ℕ) → Some (p, e) ≡ as_args acc w o m → Listed acc w o m p e
args_some acc w none m p e q = absurd (none-some (p, e) (sym q))
args_some acc w (some xs) m p e q =
    let z = some_pair_parts p (pack_args acc w xs) e m q in
    record { values = xs; is = refl; packed = z.0; ends = sym z.1 }

pub args_none : (acc w : ℕ) (o : Option (List ℕ)) (m : ℕ) → None ≡ as_args acc w o m → o ≡ none
args_none acc w none m q = refl
args_none acc w (some xs) m q = absurd (none-some (pack_args acc w xs, m) q)

-- ---- argument lists

module _ (book text : Bytes) (at acc w n : ℕ) (env keys dom : List ℕ) where
  pub list_end : n ≡ 0 → IsArgs book text at n acc w env keys dom (Some (acc, at))
  unfolding TermsText count looks pack_args
  list_end z m ms nil e s = ap (λ j. Some (acc, j)) (sym s.stands)
  list_end z m ms (cons t ts) e s = absurd (omega (arith, s.counted))

  -- The first of the terms, and those behind it.
  first : (m : Model) (ms : List Meaning) (t : Term) (ts : Terms) (e : ℕ) → Ats book text at n env keys dom m ms (cons t ts) e
      → (b : ℕ) × (At book text at env keys dom m ms t b × Ats book text b (n - 1) env keys dom m ms ts e)
  unfolding TermsText count
  first m ms t ts e s =
      let b = s.stands.0 in
      let k = s.counted in (
        b,
        (
          record { shown = s.shown; means = s.means; wf = s.wf.0; stands = s.stands.1.0; fits = omega (arith, terms_grow (names_in book) text b ts e s.stands.1.1, s.fits) },
          record { shown = s.shown; means = s.means; wf = s.wf.1; stands = s.stands.1.1; counted = omega arith; fits = s.fits },
        ),
      )

  pub list_missing : (n ≡ 0 → ⊥) → IsLook book text at env keys dom None → IsArgs book text at n acc w env keys dom None
  unfolding count looks case_o
  list_missing z l m ms nil e s = absurd (z (sym s.counted))
  list_missing z l m ms (cons t ts) e s = let f = first m ms t ts e s in rw (look_none (look t m ms) f.0 (l m ms t f.0 f.1.0))

  pub list_more : (n ≡ 0 → ⊥) → (v b : ℕ) (r : std.Option (ℕ × ℕ)) → IsLook book text at env keys dom (Some (v, b)) → IsArgs book text b (n - 1) (acc + v * w) (w / 256) env keys dom r
      → IsArgs book text at n acc w env keys dom r
  unfolding count looks case_o pack_args
  list_more z v b r l i m ms nil e s = absurd (z (sym s.counted))
  list_more z v b r l i m ms (cons t ts) e s =
      let f = first m ms t ts e s in
      let k = look_some (look t m ms) v f.0 b (l m ms t f.0 f.1.0) in
      rw k.0 (i m ms ts e (subst (λ c. Ats book text c (n - 1) env keys dom m ms ts e) k.1 f.1.1) ∙ go (looks ts m ms))
    where
      go : (o : Option (List ℕ)) → as_args (acc + v * w) (w / 256) o e ≡ as_args acc w (case_o o (λ _. none) (λ xs. some (v ∷ xs))) e
      go none = refl
      go (some xs) = refl

-- ---- what stands first

module _ (book text : Bytes) (at k : ℕ) (env keys dom : List ℕ) (named : num text (at + 2) ≡ k) where
  pub head_variable : num text at ≡ 0 → (v : std.Option ℕ) → IsVariable env k keys dom v → HeadIs book text at env keys dom (Some (Leaf v))
  unfolding TermText look
  head_variable z v r m ms (var i) e s =
      let p : k ≡ i = sym named ∙ s.stands.1.0 in
      (subst (λ j. v ≡ option_of (look_meaning m (get_or ms j nobody))) p (r (names_in book) m ms s.shown s.means (subst (λ j. j < length ms) (sym p) s.wf)), s.stands.1.1)
  head_variable z v r m ms (con c) e s = absurd (omega (arith, s.stands.0))
  head_variable z v r m ms (app f ts) e s = absurd (omega (arith, s.stands.0))

  pub head_constant : num text at ≡ 1 → (v : std.Option ℕ) → v ≡ option_of (look_in (start 1 k 0) keys) → HeadIs book text at env keys dom (Some (Leaf v))
  unfolding TermText look pack_args
  head_constant z v r m ms (var i) e s = absurd (omega (arith, s.stands.0))
  head_constant z v r m ms (con c) e s =
      let p : k ≡ c = sym named ∙ s.stands.1.0 in
      let f = declared_fits (names_in book) s.shown.small (key 1 c []) s.wf tt in
      (r ∙ ap (λ j. option_of (look_in (start 1 j 0) keys)) p ∙ ap (λ q. option_of (look_in q keys)) (pack_args_lem 1 c [] (omega arith)) ∙ found_key s.shown (key 1 c []) f, s.stands.1.1)
  head_constant z v r m ms (app f ts) e s = absurd (omega (arith, s.stands.0))

  pub head_apply : (num text at ≡ 0 → ⊥) → (num text at ≡ 1 → ⊥) → (n : ℕ) → n ≡ get_or (names_in book).functions k 0 → HeadIs book text at env keys dom (Some (Apply k n))
  unfolding TermText
  head_apply z o n r m ms (var i) e s = absurd (z s.stands.0)
  head_apply z o n r m ms (con c) e s = absurd (o s.stands.0)
  head_apply z o n r m ms (app f ts) e s =
      let p : f ≡ k = sym s.stands.1.0 ∙ named in
      record {
        terms = ts;
        is = ap (λ g. app g ts) p;
        ats = record {
          shown = s.shown;
          means = s.means;
          wf = s.wf.1;
          stands = s.stands.1.1.1;
          counted = s.stands.1.1.0 ∙ ap (λ g. get_or (names_in book).functions g 0) p ∙ sym r;
          fits = s.fits;
        };
      }

-- The same of what was read there.
module _ (book text : Bytes) (at : ℕ) (env keys dom : List ℕ) where
  pub read_variable : (i : ℕ) → HeadAt book text at (Some (Leaf (Variable i))) → (v : std.Option ℕ) → IsVariable env i keys dom v → HeadIs book text at env keys dom (Some (Leaf v))
  read_variable i h = head_variable book text at i env keys dom (sym h.1.1.0) h.0

  pub read_constant : (c : ℕ) → HeadAt book text at (Some (Leaf (Constant c))) → (v : std.Option ℕ) → v ≡ option_of (look_in (start 1 c 0) keys) → HeadIs book text at env keys dom (Some (Leaf v))
  read_constant c h = head_constant book text at c env keys dom (sym h.1.1.0) h.0

  pub read_apply : (f n : ℕ) → HeadAt book text at (Some (Apply f n)) → HeadIs book text at env keys dom (Some (Apply f n))
  read_apply f n h = head_apply book text at f env keys dom (sym h.1.0.1.0) h.0.0 h.0.1 n h.1.1.0

-- ---- terms

module _ (book text : Bytes) (at : ℕ) (env keys dom : List ℕ) where
  pub term_short : length text - at < 4 → IsLook book text at env keys dom None
  term_short h m ms t e s = absurd (omega (arith, term_grows (names_in book) text at t e s.stands, s.fits))

  pub term_leaf : (v : ℕ) → HeadIs book text at env keys dom (Some (Leaf (Some v))) → IsLook book text at env keys dom (Some (v, at + 4))
  term_leaf v h m ms t e s =
      let p = h m ms t e s in
      value_look (look t m ms) v (at + 4) p.0 ∙ ap (as_look (look t m ms)) (sym p.1)

  pub term_gone : HeadIs book text at env keys dom (Some (Leaf None)) → IsLook book text at env keys dom None
  term_gone h m ms t e s = none_look (look t m ms) e (h m ms t e s).0

  -- The value of an application whose arguments were looked up.
  module _ (f n : ℕ) (h : HeadIs book text at env keys dom (Some (Apply f n))) where
    pub term_missing : IsArgs book text (at + 4) n (start 2 f n) top env keys dom None → IsLook book text at env keys dom None
    unfolding look case_o
    term_missing i m ms t e s =
        let a = h m ms t e s in
        let o = args_none (start 2 f n) top (looks a.terms m ms) e (i m ms a.terms e a.ats) in
        rw (a.is, o)

    module _ (p b : ℕ) (i : IsArgs book text (at + 4) n (start 2 f n) top env keys dom (Some (p, b))) where
      -- The value of the key that the arguments make is that of the term.
      applied : (m : Model) (ms : List Meaning) (t : Term) (e : ℕ) → At book text at env keys dom m ms t e → (option_of (look_in p keys) ≡ option_of (look t m ms)) × (e ≡ b)
      unfolding look case_o
      applied m ms t e s =
          let a = h m ms t e s in
          let o = args_some (start 2 f n) top (looks a.terms m ms) e p b (i m ms a.terms e a.ats) in
          let w : WfTerm (app f a.terms) (names_in book) (length ms) = subst (λ u. WfTerm u (names_in book) (length ms)) a.is s.wf in
          let l = looks_octets s.shown ms s.means.plain a.terms w.1 o.values o.is in
          let fits = declared_fits (names_in book) s.shown.small (key 2 f o.values) (subst (λ c. T (declared_as (names_in book) 2 f c)) (sym l.1) w.0) l.0 in
          let c : n ≡ length o.values = sym a.ats.counted ∙ sym (counts a.terms) ∙ sym l.1 in
          let k : p ≡ pack_key (key 2 f o.values) = o.packed ∙ ap (λ j. pack_args (start 2 f j) top o.values) c ∙ pack_args_lem 2 f o.values fits.few in
          let is : option_of (look_in p keys) ≡ option_of (find (key 2 f o.values) m.keys) = ap (λ j. option_of (look_in j keys)) k ∙ found_key s.shown (key 2 f o.values) fits in
          (rw (a.is, o.is) is, o.ends)

      pub term_apply : (v : ℕ) → Some v ≡ option_of (look_in p keys) → IsLook book text at env keys dom (Some (v, b))
      term_apply v q m ms t e s = let a = applied m ms t e s in value_look (look t m ms) v b (q ∙ a.0) ∙ ap (as_look (look t m ms)) (sym a.1)

      pub term_unknown : None ≡ option_of (look_in p keys) → IsLook book text at env keys dom None
      term_unknown q m ms t e s = none_look (look t m ms) e (q ∙ (applied m ms t e s).0)
