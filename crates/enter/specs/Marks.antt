-- What recording a key says of the model that the form carries, and recording what a variable stands for, as it is now.
use Rattle.std.specs.Prelude.{◌≡◌, ℕ, zero, suc, ◌+◌, ◌*◌, ◌%◌, ◌≤◌, ◌<◌, length, Some, None}
use Rattle.std.specs.Prelude as std
use Rattle.std.proofs.Common.{sym, ◌∙◌, arith}
use Rattle.std.proofs.Math.Path.{ap, ap₂, subst}
use mathlib.Core.List.{List, map}
use Rattle.std.proofs.Math.ListN.{get_or}
use Rattle.std.proofs.lemmas.List.{length-map}
use Rattle.std.proofs.Math.Dec.{T}
use Rattle.base.specs.Branch.{if}
use Rattle.base.specs.Lists.{All, from}
use Rattle.base.specs.ListLaws.{all_all, all_map, all_get_d_or}
use Rattle.rules.specs.Book.{Names}
use Rattle.rules.specs.Sheet.{Key, key, Model, Limits}
use Rattle.rules.specs.Look.{Meaning, elem, witness}
use Rattle.rules.specs.Bound.{History, depth_over, depth_at}
use Rattle.rules.specs.Child.{put, put_meaning}
use Rattle.rules.specs.Sound.{declared_as}
use Rattle.images.specs.Storable.{Octet}
use Rattle.soundness.specs.Tools.{Yielded, yielded_known}
use Rattle.soundness.specs.Join.{yielded_low}
use Rattle.soundness.specs.Neat.{Neat}
use Rattle.soundness.specs.Depth.{depth_low}
use Rattle.soundness.specs.Book.{SmallNames}
use Rattle.packing.specs.Digits.{number_from}
use Rattle.packing.specs.Pack.{pack_key, Fits, arity_of}
use Rattle.packing.specs.Replace.{Eight, eight_of}
use Rattle.look.specs.Answers.{Octets}
use Rattle.look.specs.Shown.{pack_meaning, declared_fits, neat_keys_fit, witness_above}
use Rattle.sheets.specs.Form.{view_of}
use Rattle.enter.specs.Grow.{Sturdy}
use Rattle.enter.specs.Keep.{Carries, PutKey, PutIs, put_is}
use Rattle.enter.specs.Args.{depth_of, depth_is, resolved, resolved_is}

-- ---- a model that the form carries, and a key over its elements

pub record Holding (lim : Limits) (d : Names) (w : List ℕ) (m : Model) (now : History) : Type 0 where
  pub small : SmallNames d
  pub few : lim.elements ≤ 256
  pub neat : Neat lim d m
  pub carries : Carries lim w m now

pub record Proper (d : Names) (m : Model) (k : Key) : Type 0 where
  pub over : All (Yielded m.keys) k.args
  pub declared : T (declared_as d k.kind k.symbol (length k.args))

pub yielded_octet : {lim : Limits} {d : Names} {w : List ℕ} {m : Model} {now : History} → Holding lim d w m now → (e : ℕ) → Yielded m.keys e → e < 256
yielded_octet {m = m} h e y = let p = yielded_low m h.neat.linked e y in let q = h.neat.small.few_created in let f = h.few in omega arith

pub proper_fits : {lim : Limits} {d : Names} {w : List ℕ} {m : Model} {now : History} → Holding lim d w m now → (k : Key) → Proper d m k → Fits (arity_of d) k
proper_fits {d = d} {m = m} h k p = declared_fits d h.small k p.declared (all_all (Yielded m.keys) Octet (yielded_octet h) k.args p.over)

pub fits_eight : {arity : ℕ → ℕ → ℕ} (k : Key) → Fits arity k → Eight (k, 0)
fits_eight k f = eight_of (k, 0) (record { key = f; value = omega arith })

-- The number of a key has seven digits.
pub fits_low : {arity : ℕ → ℕ → ℕ} (k : Key) → Fits arity k → pack_key k < 72057594037927936
unfolding pack_key number_from
fits_low k f =
    let a : (i : ℕ) → get_or k.args i 0 < 256 = λ i. all_get_d_or Octet k.args i 0 f.args (omega arith) in
    omega (arith, f.kind, f.symbol, f.few, a 0, a 1, a 2, a 3)

-- ---- recording a key

pub record Recorded (lim : Limits) (q : ℕ) (w : List ℕ) (r : std.Option ℕ) (w' : List ℕ) : Type 0 where
  pub sturdy : Sturdy lim w'
  pub octets : Octets r
  pub is : (d : Names) (m : Model) (now : History) (k : Key) → Holding lim d w m now → Proper d m k → q ≡ pack_key k → PutIs lim now (put m k) r w'

module _ (lim : Limits) (q : ℕ) (w : List ℕ) where
  -- No key has such a number.
  pub recorded_large : Sturdy lim w → 72057594037927936 ≤ q → Recorded lim q w None w
  recorded_large s l = record {
    sturdy = s;
    octets = tt;
    is = λ d m now k h p e. (let f = fits_low k (proper_fits h k p) in absurd (omega arith));
  }

  pub recorded_put : (r : std.Option ℕ) (w' : List ℕ) → PutKey lim q (depth_of (view_of lim w).depths (q * 256)) w r w' → Recorded lim q w r w'
  recorded_put r w' g = record {
    sturdy = g.sturdy;
    octets = g.octets;
    is = λ d m now k h p e. put_is lim d w m now h.carries (neat_keys_fit d h.small lim m h.neat h.few) k (proper_fits h k p) q e _ w' (deep d m now k h p e) r g;
  }
    where
      low : (d : Names) (m : Model) (now : History) (k : Key) → Holding lim d w m now → Proper d m k → All (λ e. get_or m.depths e 0 < 65536) k.args
      low d m now k h p = all_all (Yielded m.keys) (λ e. get_or m.depths e 0 < 65536)
          (λ e y. let l = depth_low lim d m h.neat e (yielded_known m e y) in let f = h.neat.small.few_created in let g = h.few in omega arith) k.args p.over

      deep : (d : Names) (m : Model) (now : History) (k : Key) → Holding lim d w m now → Proper d m k → q ≡ pack_key k
          → depth_of (view_of lim w).depths (q * 256) ≡ depth_over (map (depth_at m) k.args)
      deep d m now k h p e = unfold depth_at in
          ap₂ (λ (ds : List ℕ) (n : ℕ). depth_of ds (n * 256)) h.carries.depths e ∙ depth_is k (fits_eight k (proper_fits h k p)) m.depths (low d m now k h p)

-- ---- what a variable stands for: an element, or a witness over elements, each with what it is now

abbrev pub Still : Limits → Model → History → ℕ → Type 0
Still lim m now e = (e < lim.elements) × Yielded m.keys (now e)

unfoldable pub Stands : Limits → Names → Model → History → Meaning → Type 0
Stands lim d m now (elem e) = Still lim m now e
Stands lim d m now (witness k) = All (Still lim m now) k.args × T (declared_as d k.kind k.symbol (length k.args))

pub record Meant (lim : Limits) (x : ℕ) (w : List ℕ) (r : std.Option ℕ) (w' : List ℕ) : Type 0 where
  pub sturdy : Sturdy lim w'
  pub octets : Octets r
  pub is : (d : Names) (m : Model) (now : History) (μ : Meaning) → Holding lim d w m now → Stands lim d m now μ → x ≡ pack_meaning μ → PutIs lim now (put_meaning m now μ) r w'

pub declared_kind : (d : Names) (kind symbol n : ℕ) → T (declared_as d kind symbol n) → 0 < kind
unfolding declared_as if
declared_kind d zero symbol n t = absurd t
declared_kind d (suc kind) symbol n t = omega arith

from_at : (n a i : ℕ) (f : ℕ → ℕ) → i < n → get_or (map f (from a n)) i 0 ≡ f (a + i)
unfolding from
from_at zero a i f h = absurd (omega arith)
from_at (suc n) a zero f h = ap f (omega arith)
from_at (suc n) a (suc i) f h = from_at n (suc a) i f (omega arith) ∙ ap f (omega arith)

-- What the history says of an element that there is room for.
pub history_at_lem : {lim : Limits} {w : List ℕ} {m : Model} {now : History} → Carries lim w m now → (e : ℕ) → e < lim.elements → get_or (view_of lim w).history e 0 ≡ now e
history_at_lem {lim} {now = now} c e l = ap (λ (h : List ℕ). get_or h e 0) c.history ∙ from_at lim.elements 0 e now l ∙ ap now (omega arith)

module _ (lim : Limits) (x : ℕ) (w : List ℕ) (s : Sturdy lim w) where
  pub witness_fits : (d : Names) (m : Model) (now : History) (k : Key) → Holding lim d w m now → All (Still lim m now) k.args → T (declared_as d k.kind k.symbol (length k.args))
      → Fits (arity_of d) k
  witness_fits d m now k h a t = declared_fits d h.small k t (all_all (Still lim m now) Octet (λ e p. let f = s.few in let l = p.0 in omega arith) k.args a)

  pub meant_element : x < 256 → (r : ℕ) → r ≡ get_or (view_of lim w).history x 0 % 256 → Meant lim x w (Some r) w
  unfolding Stands pack_meaning put_meaning
  meant_element l r e = record { sturdy = s; octets = omega arith; is = go }
    where
      go : (d : Names) (m : Model) (now : History) (μ : Meaning) → Holding lim d w m now → Stands lim d m now μ → x ≡ pack_meaning μ → PutIs lim now (put_meaning m now μ) (Some r) w
      go d m now (elem y) h p q =
          let o = yielded_octet h (now y) p.1 in
          let i : r ≡ now y = e ∙ ap (λ z. get_or (view_of lim w).history z 0 % 256) q ∙ (omega (arith, history_at_lem h.carries y p.0)) in
          (i, h.carries)
      go d m now (witness k) h p q = absurd (omega (arith, witness_above k (declared_kind d k.kind k.symbol (length k.args) p.1)))

  pub meant_large : 72057594037927936 ≤ x → Meant lim x w None w
  unfolding Stands pack_meaning
  meant_large l = record { sturdy = s; octets = tt; is = go }
    where
      go : (d : Names) (m : Model) (now : History) (μ : Meaning) → Holding lim d w m now → Stands lim d m now μ → x ≡ pack_meaning μ → PutIs lim now (put_meaning m now μ) None w
      go d m now (elem y) h p q = absurd (let f = s.few in omega (arith, p.0))
      go d m now (witness k) h p q = absurd (omega (arith, fits_low k (witness_fits d m now k h p.0 p.1)))

  pub meant_witness : 256 ≤ x → (q : ℕ) (r : std.Option ℕ) (w' : List ℕ) → q ≡ resolved (view_of lim w).history (x * 256) → Recorded lim q w r w' → Meant lim x w r w'
  unfolding Stands pack_meaning put_meaning
  meant_witness l q r w' e g = record { sturdy = g.sturdy; octets = g.octets; is = go }
    where
      go : (d : Names) (m : Model) (now : History) (μ : Meaning) → Holding lim d w m now → Stands lim d m now μ → x ≡ pack_meaning μ → PutIs lim now (put_meaning m now μ) r w'
      go d m now (elem y) h p i = absurd (let f = s.few in omega (arith, p.0))
      go d m now (witness k) h p i =
          let f = witness_fits d m now k h p.0 p.1 in
          let hs = (view_of lim w).history in
          let a = all_all (Still lim m now) (λ y. (get_or hs y 0 ≡ now y) × (now y < 256))
          (λ y u. (history_at_lem h.carries y u.0, yielded_octet h (now y) u.1)) k.args p.0 in
          g.is d m now (key k.kind k.symbol (map now k.args)) h
          (record {
            over = all_map (Still lim m now) (Yielded m.keys) now (λ y u. u.1) k.args p.0;
            declared = subst (λ n. T (declared_as d k.kind k.symbol n)) (sym (length-map k.args now)) p.1;
          })
          (e ∙ ap (λ n. resolved hs (n * 256)) i ∙ resolved_is k (fits_eight k f) now hs a)
