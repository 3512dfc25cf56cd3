-- One law for each way out of the test whether a literal is observed.
use Rattle.std.specs.Prelude.{◌≡◌, ℕ, ◌+◌, ◌-◌, ◌<◌, Bool, false, eqb, Some, None}
use Rattle.std.proofs.Math.Path.{sym, ap, ap₂, subst}
use Rattle.std.proofs.Common.{◌∙◌}
use native.Mathlib.Omega.{arith}
use Rattle.std.proofs.Math.Option.{some}
use mathlib.Core.List.{List}
use Rattle.std.proofs.Math.ListN.{length, get_or}
use Rattle.std.proofs.Math.Dec.{T}
use Rattle.base.specs.Branch.{case_o}
use Rattle.rules.specs.Book.{Term, Terms, nil, cons, fact, same}
use Rattle.rules.specs.Reading.{Bytes, num}
use Rattle.rules.specs.Sheet.{key, rel, Model}
use Rattle.rules.specs.Look.{Meaning, look, looks, observed}
use Rattle.rules.specs.Sound.{has_arity}
use Rattle.packing.specs.Pack.{pack_key, arity_of}
use Rattle.tables.specs.Table.{look_in, is_some}
use Rattle.tables.specs.Carry.{facts_hold_is}
use Rattle.texts.specs.Names.{names_in}
use Rattle.texts.specs.Text.{TermText, TermsText, LiteralText}
use Rattle.texts.specs.Parts.{term_grows, terms_grow}
use Rattle.look.specs.Shown.{fact_fits}
use Rattle.look.specs.Digits.{start, top, pack_args, pack_args_lem}
use Rattle.look.specs.Answers.{Ats, At, IsLook, IsArgs, LiteralAt, IsObserved}
use Rattle.look.specs.Ways.{counts, looks_octets, look_some, look_none, args_some, args_none}

module _ (book text : Bytes) (at : ℕ) (env keys facts dom : List ℕ) where
  pub literal_short : length text - at < 4 → IsObserved book text at env keys facts dom false
  unfolding LiteralText TermsText
  literal_short h m ms (fact r ts) e s = absurd (omega (arith, terms_grow (names_in book) text (at + 4) ts e s.stands.1.1.1, s.fits))
  literal_short h m ms (same t u) e s =
      let b = s.stands.1 in
      absurd (omega (arith, term_grows (names_in book) text (at + 2) t b.0 b.1.0, terms_grow (names_in book) text b.0 (cons u nil) e b.1.1, s.fits))

  -- ---- a fact

  module _ (k n : ℕ) (named : num text (at + 2) ≡ k) (arity : n ≡ get_or (names_in book).relations k 0) where
    arguments : (m : Model) (ms : List Meaning) (r : ℕ) (ts : Terms) (e : ℕ) → LiteralAt book text at env keys facts dom m ms (fact r ts) e
        → (r ≡ k) × Ats book text (at + 4) n env keys dom m ms ts e
    unfolding LiteralText
    arguments m ms r ts e s =
        let p : r ≡ k = sym s.stands.1.0 ∙ named in (
          p,
          record {
            shown = s.shown;
            means = s.means;
            wf = s.wf.1;
            stands = s.stands.1.1.1;
            counted = s.stands.1.1.0 ∙ ap (λ g. get_or (names_in book).relations g 0) p ∙ sym arity;
            fits = s.fits;
          },
        )

    pub fact_missing : IsArgs book text (at + 4) n (start 0 k n) top env keys dom None → num text at ≡ 0 → IsObserved book text at env keys facts dom false
    unfolding observed case_o LiteralText
    fact_missing i z m ms (same t u) e s = absurd (omega (arith, s.stands.0))
    fact_missing i z m ms (fact r ts) e s =
        let a = arguments m ms r ts e s in
        rw (args_none (start 0 k n) top (looks ts m ms) e (i m ms ts e a.1))

    pub fact_held : (p b : ℕ) (r : Bool) → IsArgs book text (at + 4) n (start 0 k n) top env keys dom (Some (p, b)) → r ≡ is_some (look_in p facts)
        → num text at ≡ 0 → IsObserved book text at env keys facts dom r
    unfolding observed case_o LiteralText
    fact_held p b r i q z m ms (same t u) e s = absurd (omega (arith, s.stands.0))
    fact_held p b r i q z m ms (fact g ts) e s =
        let a = arguments m ms g ts e s in
        let o = args_some (start 0 k n) top (looks ts m ms) e p b (i m ms ts e a.1) in
        let xs = o.values in
        let l = looks_octets s.shown ms s.means.plain ts s.wf.1 xs o.is in
        let f = fact_fits (names_in book) s.shown.small g xs (subst (λ c. T (has_arity (names_in book).relations g c)) (sym l.1) s.wf.0) l.0 in
        let c : n ≡ length xs = sym a.1.counted ∙ sym (counts ts) ∙ sym l.1 in
        let w : p ≡ pack_key (key 0 g xs) = o.packed ∙ ap₂ (λ (y j : ℕ). pack_args (start 0 y j) top xs) (sym a.0) c ∙ pack_args_lem 0 g xs f.few in
        rw o.is (q ∙ ap₂ (λ (y : ℕ) (l : List ℕ). is_some (look_in y l)) w s.held.facts_are
        ∙ sym (facts_hold_is (arity_of (names_in book)) (rel g xs) m.facts (record { key = f; value = omega arith }) s.held.facts_fit))

  -- ---- an identity

  sides : (m : Model) (ms : List Meaning) (t u : Term) (e : ℕ) → LiteralAt book text at env keys facts dom m ms (same t u) e
      → (b : ℕ) × (At book text (at + 2) env keys dom m ms t b × At book text b env keys dom m ms u e)
  unfolding LiteralText TermsText
  sides m ms t u e s =
      let b = s.stands.1 in
      let c = b.1.1 in
      let q : c.0 ≡ e = sym c.1.1 in (
        b.0,
        (
          record { shown = s.shown; means = s.means; wf = s.wf.0; stands = b.1.0; fits = omega (arith, term_grows (names_in book) text b.0 u c.0 c.1.0, s.fits) },
          record { shown = s.shown; means = s.means; wf = s.wf.1; stands = subst (λ z. TermText (names_in book) text b.0 u z) q c.1.0; fits = s.fits },
        ),
      )

  module _ (no : num text at ≡ 0 → ⊥) where
    pub same_left : IsLook book text (at + 2) env keys dom None → IsObserved book text at env keys facts dom false
    unfolding observed case_o LiteralText
    same_left i m ms (fact r ts) e s = absurd (no s.stands.0)
    same_left i m ms (same t u) e s = let a = sides m ms t u e s in rw (look_none (look t m ms) a.0 (i m ms t a.0 a.1.0))

    module _ (v b : ℕ) (i : IsLook book text (at + 2) env keys dom (Some (v, b))) where
      left : (m : Model) (ms : List Meaning) (t u : Term) (e : ℕ) → LiteralAt book text at env keys facts dom m ms (same t u) e
          → (look t m ms ≡ some v) × At book text b env keys dom m ms u e
      left m ms t u e s =
          let a = sides m ms t u e s in
          let k = look_some (look t m ms) v a.0 b (i m ms t a.0 a.1.0) in
          (k.0, subst (λ c. At book text c env keys dom m ms u e) k.1 a.1.1)

      pub same_right : IsLook book text b env keys dom None → IsObserved book text at env keys facts dom false
      unfolding observed case_o LiteralText
      same_right j m ms (fact r ts) e s = absurd (no s.stands.0)
      same_right j m ms (same t u) e s =
          let a = left m ms t u e s in
          rw (a.0, look_none (look u m ms) e (j m ms u e a.1))

      pub same_both : (w g : ℕ) → IsLook book text b env keys dom (Some (w, g)) → IsObserved book text at env keys facts dom (eqb v w)
      unfolding observed case_o LiteralText
      same_both w g j m ms (fact r ts) e s = absurd (no s.stands.0)
      same_both w g j m ms (same t u) e s =
          let a = left m ms t u e s in
          rw (a.0, (look_some (look u m ms) w e g (j m ms u e a.1)).0)
