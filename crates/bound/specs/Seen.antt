-- A model as a lookup sees it: told by the form, with its domain listed; and depths are small.
use Rattle.std.specs.Prelude.{◌≡◌, ℕ, ◌*◌, ◌%◌, ◌≤◌, ◌<◌, not, ◌⊎◌}
use Rattle.std.proofs.Common.{sym, ◌∙◌, arith, inl, inr, T_not}
use Rattle.std.proofs.Math.Path.{ap, ap₂, subst}
use mathlib.Core.List.{List, map}
use lib.ListN.{length, get_or}
use Rattle.std.proofs.Math.Dec.{T}
use Rattle.base.specs.BranchLaws.{decided}
use Rattle.base.specs.ListLaws.{map_map, all_all, all_map, all_any}
use Rattle.rules.specs.Book.{Term, Names}
use Rattle.rules.specs.Reading.{Bytes}
use Rattle.rules.specs.Sheet.{key, Model, domain, known, Limits}
use Rattle.rules.specs.Look.{Meaning, elem, witness}
use Rattle.rules.specs.Bound.{History, depth_over, depth_at, depth_meaning}
use Rattle.rules.specs.Sound.{declared_as}
use Rattle.images.specs.Storable.{Octet}
use Rattle.soundness.specs.Tools.{Yielded, yielded_known}
use Rattle.soundness.specs.Depth.{depth_low}
use Rattle.soundness.specs.Enter.{Means}
use Rattle.packing.specs.Pack.{pack_key, Fits, arity_of}
use Rattle.look.specs.Shown.{Shown, pack_meaning, Plain, declared_fits, neat_shown, witness_above}
use Rattle.look.specs.Shown as shown
use Rattle.look.specs.Answers as look
use Rattle.texts.specs.Names.{names_in}
use Rattle.sheets.specs.Form.{view_of}
use Rattle.enter.specs.Grow.{Sturdy}
use Rattle.enter.specs.Args.{depth_of, depth_is, resolved, resolved_is}
use Rattle.enter.specs.Marks.{Holding, proper_fits, fits_eight, fits_low, yielded_octet, history_at_lem, Still, Stands, declared_kind, witness_fits}
use Rattle.enter.specs.Terms.{Setting, Told, told_holding, TermAt}

-- ---- as lookup has it

plain : {lim : Limits} {book : Bytes} {env : List ℕ} (z : Setting book lim env) (μ : Meaning) → Means (names_in book) (Yielded z.base) μ → Plain (names_in book) μ
unfolding Plain
plain z (elem e) b = let l = z.low e b in let f = z.few in omega arith
plain {book = book} z (witness k) b = (
  declared_fits (names_in book) z.small k b.1 (all_all (Yielded z.base) Octet (λ e y. let l = z.low e y in let f = z.few in omega arith) k.args b.0),
  declared_kind (names_in book) k.kind k.symbol (length k.args) b.1,
)

pub setting_means : {lim : Limits} {book : Bytes} {env : List ℕ} (z : Setting book lim env) → shown.Means (names_in book) env z.ms
setting_means {book = book} z = record { are = z.env_is; plain = all_all (Means (names_in book) (Yielded z.base)) (Plain (names_in book)) (plain z) z.ms z.means }

pub told_shown : {lim : Limits} {book : Bytes} {env : List ℕ} {z : Setting book lim env} {w : List ℕ} {m : Model} {now : History} {dom : List ℕ}
    → Told book lim env z w m now → dom ≡ domain m → Shown (names_in book) m (view_of lim w).keys dom
told_shown {lim} {book} {z = z} {w} {m} {dom = dom} t e = neat_shown (names_in book) z.small lim m (told_holding t).neat z.few (view_of lim w).keys dom t.carries.keys e

pub told_at : {lim : Limits} {book text : Bytes} {at : ℕ} {env : List ℕ} {z : Setting book lim env} {w : List ℕ} {m : Model} {now : History} {dom : List ℕ} {t : Term} {e : ℕ}
    → Told book lim env z w m now → dom ≡ domain m → TermAt book text at (length z.ms) t e → look.At book text at env (view_of lim w).keys dom m z.ms t e
told_at {z = z} t d a = record { shown = told_shown t d; means = setting_means z; wf = a.wf; stands = a.stands; fits = a.fits }

-- What a variable stands for, with what elements are now.
pub setting_stands : {lim : Limits} {book : Bytes} {env : List ℕ} {z : Setting book lim env} {w : List ℕ} {m : Model} {now : History} → Told book lim env z w m now
    → (μ : Meaning) → Means (names_in book) (Yielded z.base) μ → Stands lim (names_in book) m now μ
unfolding Stands
setting_stands {z = z} t (elem e) b = (z.low e b, t.tidy.follows e b)
setting_stands {lim} {z = z} {m = m} {now = now} t (witness k) b =
    (all_all (Yielded z.base) (Still lim m now) (λ e y. (z.low e y, t.tidy.follows e y)) k.args b.0, b.1)

-- ---- depths are small

pub shallow : {lim : Limits} {d : Names} {w : List ℕ} {m : Model} {now : History} → Holding lim d w m now → (e : ℕ) → get_or m.depths e 0 < 65536
shallow {lim} {d} {m = m} h e = go (decided (known m e))
  where
    go : T (known m e) ⊎ T (not (known m e)) → get_or m.depths e 0 < 65536
    go (inl t) = let l = depth_low lim d m h.neat e t in let f = h.neat.small.few_created in let g = h.few in omega arith
    go (inr t) = let z = h.neat.linked.gone e (λ y. T_not (known m e) t (yielded_known m e y)) in omega arith

-- ---- the depth of what a variable stands for, whatever the number

pub record DepthMeant (lim : Limits) (x : ℕ) (w : List ℕ) (r : ℕ) : Type 0 where
  pub bound : r ≤ 65536
  pub is : (d : Names) (m : Model) (now : History) (μ : Meaning) → Holding lim d w m now → Stands lim d m now μ → x ≡ pack_meaning μ → r ≡ depth_meaning m now μ

module _ (lim : Limits) (x : ℕ) (w : List ℕ) (s : Sturdy lim w) where
  pub depth_element : x < 256 → (y r : ℕ) → y ≡ get_or (view_of lim w).history x 0 % 256 → r ≡ get_or (view_of lim w).depths y 0 % 65536 → DepthMeant lim x w r
  unfolding Stands pack_meaning depth_meaning depth_at
  depth_element l y r e f = record { bound = omega arith; is = go }
    where
      go : (d : Names) (m : Model) (now : History) (μ : Meaning) → Holding lim d w m now → Stands lim d m now μ → x ≡ pack_meaning μ → r ≡ depth_meaning m now μ
      go d m now (elem u) h p q =
          let o = yielded_octet h (now u) p.1 in
          let i : y ≡ now u = e ∙ ap (λ z. get_or (view_of lim w).history z 0 % 256) q ∙ (omega (arith, history_at_lem h.carries u p.0)) in
          f ∙ ap₂ (λ (ds : List ℕ) (z : ℕ). get_or ds z 0 % 65536) h.carries.depths i ∙ (omega (arith, shallow h (now u)))
      go d m now (witness k) h p q = absurd (omega (arith, witness_above k (declared_kind d k.kind k.symbol (length k.args) p.1)))

  pub depth_large : 72057594037927936 ≤ x → DepthMeant lim x w 0
  unfolding Stands pack_meaning
  depth_large l = record { bound = omega arith; is = go }
    where
      go : (d : Names) (m : Model) (now : History) (μ : Meaning) → Holding lim d w m now → Stands lim d m now μ → x ≡ pack_meaning μ → 0 ≡ depth_meaning m now μ
      go d m now (elem u) h p q = absurd (let f = s.few in omega (arith, p.0))
      go d m now (witness k) h p q = absurd (omega (arith, fits_low k (witness_fits lim x w s d m now k h p.0 p.1)))

  pub depth_witness : 256 ≤ x → (q r : ℕ) → q ≡ resolved (view_of lim w).history (x * 256) → r ≡ depth_of (view_of lim w).depths (q * 256) → r ≤ 65536 → DepthMeant lim x w r
  unfolding Stands pack_meaning depth_meaning depth_at
  depth_witness l q r e f b = record { bound = b; is = go }
    where
      go : (d : Names) (m : Model) (now : History) (μ : Meaning) → Holding lim d w m now → Stands lim d m now μ → x ≡ pack_meaning μ → r ≡ depth_meaning m now μ
      go d m now (elem u) h p i = absurd (let g = s.few in omega (arith, p.0))
      go d m now (witness k) h p i =
          let hs = (view_of lim w).history in
          let k' = key k.kind k.symbol (map now k.args) in
          let a = all_all (Still lim m now) (λ y. (get_or hs y 0 ≡ now y) × (now y < 256))
          (λ y u. (history_at_lem h.carries y u.0, yielded_octet h (now y) u.1)) k.args p.0 in
          let is : q ≡ pack_key k' = e ∙ ap (λ n. resolved hs (n * 256)) i ∙ resolved_is k (fits_eight k (witness_fits lim x w s d m now k h p.0 p.1)) now hs a in
          let fit : Fits (arity_of d) k' = proper_fits h k' (record {
            over = all_map (Still lim m now) (Yielded m.keys) now (λ y u. u.1) k.args p.0;
            declared = subst (λ n. T (declared_as d k.kind k.symbol n)) (sym (lib.ListN.length-map k.args now)) p.1;
          }) in
          f ∙ ap₂ (λ (ds : List ℕ) (n : ℕ). depth_of ds (n * 256)) h.carries.depths is
          ∙ depth_is k' (fits_eight k' fit) m.depths (all_any (λ y. get_or m.depths y 0 < 65536) (shallow h) (map now k.args))
          ∙ ap depth_over (map_map (λ y. get_or m.depths y 0) now k.args)
