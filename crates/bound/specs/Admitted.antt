-- One law for each way out of putting a literal's terms to the bound.
use Rattle.std.specs.Prelude.{◌≡◌, ℕ, zero, suc, ◌+◌, ◌-◌, ◌≤◌, ◌<◌, Bool, true, false, List, length, leb, ltb, ◌⊎◌, Some, None}
use Rattle.std.proofs.lemmas.Option.{none-some, some_pair_parts}
use Rattle.std.proofs.Math.Path.{refl}
use Rattle.std.proofs.Common.{sym, ap, ◌∙◌, subst, arith, inl, inr}
use Rattle.std.proofs.Math.Numerals.{add-one}
use Rattle.std.proofs.Math.Option.{none, some}
use Rattle.base.specs.Branch.{if, case_o}
use Rattle.rules.specs.Book.{Term, Terms, nil, cons}
use Rattle.rules.specs.Reading.{Bytes}
use Rattle.rules.specs.Sheet.{Model, domain, Limits}
use Rattle.rules.specs.Look.{Meaning, look}
use Rattle.rules.specs.Bound.{Bound, History, depth, admits, admitted}
use Rattle.rules.specs.Calls.{bound_of}
use Rattle.texts.specs.Text.{count}
use Rattle.look.specs.Answers.{IsLook}
use Rattle.look.specs.Ways.{look_some, look_none}
use Rattle.sheets.specs.Form.{view_of}
use Rattle.enter.specs.Terms.{Setting, Told, TermAt, TermsAt}
use Rattle.enter.specs.Ways.{terms_first}
use Rattle.bound.specs.Seen.{told_at}
use Rattle.bound.specs.Answers.{IsDepth, IsAsked, IsAdmitted}

-- ---- what a bound of each kind admits

pub admits_any : (kind n size d : ℕ) → kind ≡ 0 → true ≡ admits (bound_of kind n) size d
unfolding bound_of admits
admits_any zero n size d e = refl
admits_any (suc k) n size d e = absurd (omega arith)

pub admits_size : (kind n size d : ℕ) → kind ≡ 1 → ltb size n ≡ admits (bound_of kind n) size d
unfolding bound_of admits
admits_size zero n size d e = absurd (omega arith)
admits_size (suc zero) n size d e = refl
admits_size (suc (suc k)) n size d e = absurd (omega arith)

pub admits_depth : (kind n size d : ℕ) → (kind ≡ 0 → ⊥) → (kind ≡ 1 → ⊥) → leb d n ≡ admits (bound_of kind n) size d
unfolding bound_of admits
admits_depth zero n size d p q = absurd (p refl)
admits_depth (suc zero) n size d p q = absurd (q refl)
admits_depth (suc (suc zero)) n size d p q = refl
admits_depth (suc (suc (suc k))) n size d p q = refl

-- ---- one term

module _ (book text : Bytes) (at : ℕ) (b : Bound) (size : ℕ) (lim : Limits) (env w dom : List ℕ) where
  pub ask_known : (v g : ℕ) → IsLook book text at env (view_of lim w).keys dom (Some (v, g)) → IsAsked book text at b size lim env w dom (Some (g, size))
  ask_known v g l z m now t d u e a =
      let p = look_some (look u m z.ms) v e g (l m z.ms u e (told_at t d a)) in (sym p.1, inl ((v, p.0), refl))

  module _ (missing : IsLook book text at env (view_of lim w).keys dom None) where
    unknown : (z : Setting book lim env) (m : Model) (now : History) → Told book lim env z w m now → dom ≡ domain m → (u : Term) (e : ℕ) → TermAt book text at (length z.ms) u e
        → look u m z.ms ≡ none
    unknown z m now t d u e a = look_none (look u m z.ms) e (missing m z.ms u e (told_at t d a))

    pub ask_short : IsDepth book text at lim env w dom None → IsAsked book text at b size lim env w dom None
    ask_short g z m now t d u e a = absurd (none-some _ (g z m now t d u e a))

    pub ask_refused : (x g : ℕ) → IsDepth book text at lim env w dom (Some (x, g)) → false ≡ admits b size x → IsAsked book text at b size lim env w dom None
    ask_refused x g i q z m now t d u e a = (unknown z m now t d u e a, q ∙ ap (admits b size) (some_pair_parts _ _ _ _ (i z m now t d u e a)).0)

    pub ask_new : (x g : ℕ) → IsDepth book text at lim env w dom (Some (x, g)) → true ≡ admits b size x → IsAsked book text at b size lim env w dom (Some (g, size + 1))
    ask_new x g i q z m now t d u e a =
        let p = some_pair_parts _ _ _ _ (i z m now t d u e a) in
        (p.1, inr (unknown z m now t d u e a, (q ∙ ap (admits b size) p.0, refl)))

-- ---- a literal's terms, left to right

-- A first term that is known, or new and admitted, before the others.
more_of : (b : Bound) (size n : ℕ) (r : Bool) (u : Term) (us : Terms) (m : Model) (now : History) (ms : List Meaning)
    → (((v : ℕ) × (look u m ms ≡ some v)) × (n ≡ size)) ⊎ ((look u m ms ≡ none) × ((true ≡ admits b size (depth u m now ms)) × (n ≡ size + 1)))
    → r ≡ admitted b n us m now ms → r ≡ admitted b size (cons u us) m now ms
unfolding admitted case_o if
more_of b size n r u us m now ms (inl p) j = rw p.0.1 (rw p.1 at j)
more_of b size n r u us m now ms (inr p) j = rw (p.0, ← p.1.0) (rw add-one at (rw p.1.1 at j))

module _ (book text : Bytes) (at k : ℕ) (b : Bound) (size : ℕ) (lim : Limits) (env w dom : List ℕ) where
  pub admitted_end : k ≡ 0 → IsAdmitted book text at k b size lim env w dom true
  unfolding count admitted
  admitted_end h z m now t d nil e a = refl
  admitted_end h z m now t d (cons u us) e a = absurd (omega (arith, a.counted))

  module _ (none : k ≡ 0 → ⊥) where
    pub admitted_refused : IsAsked book text at b size lim env w dom None → IsAdmitted book text at k b size lim env w dom false
    unfolding count admitted case_o if
    admitted_refused g z m now t d nil e a = absurd (none (sym a.counted))
    admitted_refused g z m now t d (cons u us) e a =
        let f = terms_first book text at k (length z.ms) none u us e a in
        let p = g z m now t d u f.0 f.1.0 in
        rw (p.0, ← p.1)

    pub admitted_more : (c n : ℕ) (r : Bool) → IsAsked book text at b size lim env w dom (Some (c, n)) → IsAdmitted book text c (k - 1) b n lim env w dom r
        → IsAdmitted book text at k b size lim env w dom r
    unfolding count admitted case_o if
    admitted_more c n r g i z m now t d nil e a = absurd (none (sym a.counted))
    admitted_more c n r g i z m now t d (cons u us) e a =
        let f = terms_first book text at k (length z.ms) none u us e a in
        let p = g z m now t d u f.0 f.1.0 in
        let j = i z m now t d us e (subst (λ y. TermsAt book text y (k - 1) (length z.ms) us e) (sym p.0) f.1.1) in
        more_of b size n r u us m now z.ms p.1 j

-- What is left of the terms has the answer of all.
module _ (book text : Bytes) (at k : ℕ) (b : Bound) (size : ℕ) (lim : Limits) (env w dom : List ℕ) where
  abbrev pub AdmittedLeft : ℕ → ℕ → ℕ → Type 0
  AdmittedLeft i p n = (r : Bool) → IsAdmitted book text p (k - i) b n lim env w dom r → IsAdmitted book text at k b size lim env w dom r

  pub left_all : AdmittedLeft 0 at size
  left_all r g = let z : k - 0 ≡ k = omega arith in subst (λ j. IsAdmitted book text at j b size lim env w dom r) z g

  module _ (i p n : ℕ) (left : AdmittedLeft i p n) where
    pub left_end : k ≤ i → IsAdmitted book text at k b size lim env w dom true
    left_end h = left true (admitted_end book text p (k - i) b n lim env w dom (omega arith))

    module _ (h : i < k) where
      pub left_refused : IsAsked book text p b n lim env w dom None → IsAdmitted book text at k b size lim env w dom false
      left_refused g = left false (admitted_refused book text p (k - i) b n lim env w dom (λ z. omega arith) g)

      pub left_more : (c j : ℕ) → IsAsked book text p b n lim env w dom (Some (c, j)) → AdmittedLeft (i + 1) c j
      left_more c j g r f =
          let z : k - (i + 1) ≡ k - i - 1 = omega arith in
          left r (admitted_more book text p (k - i) b n lim env w dom (λ z. omega arith) c j r g (subst (λ y. IsAdmitted book text c y b j lim env w dom r) z f))
