-- The key of an origin packed argument by argument, and the environment made key by key.
use Rattle.std.specs.Prelude.{◌≡◌, refl, length, get_or, set}
use Rattle.std.proofs.Math.Path.{sym, ap, subst}
use Rattle.std.proofs.Common.{ap₂, ◌∙◌, drop-cons, get_or-take, length-take-le}
use Prim.Native.Nat.{ℕ, zero, suc, ◌+◌, ◌-◌, ◌*◌, ◌/◌, ◌≤◌, ◌<◌}
use native.Mathlib.Omega.{arith}
use mathlib.Core.List.{List, [], ◌∷◌, ◌++◌, map, append-nil}
use Rattle.std.proofs.Math.ListN.{take}
use Rattle.std.proofs.Math.Seq.{take-suc-set, append_snoc}
use Rattle.base.specs.Lists.{All, entries}
use Rattle.base.specs.ListLaws.{all_get_d, all_any, entries_length, entries_all}
use Rattle.rules.specs.Book.{Origin, Names}
use Rattle.rules.specs.Reading.{Bytes, num}
use Rattle.rules.specs.Sheet.{key}
use Rattle.images.specs.Storable.{Octet}
use Rattle.texts.specs.Reads.{Follow}
use Rattle.texts.specs.Names.{names_in, nums}
use Rattle.texts.specs.Text.{OriginText}
use Rattle.texts.specs.Parts.{origins_grow}
use Rattle.look.specs.Digits.{start, top, pack_args, pack_args_lem}
use Rattle.skips.specs.Rest.{Skips}
use Rattle.firing.specs.Answers.{Elements, IsOriginKey, pack_origin, OriginsAt}

-- ---- entries at places within the list

entry_here : (c : List ℕ) (i : ℕ) (is : List ℕ) → i < length c → entries c (i ∷ is) ≡ get_or c i 0 ∷ entries c is
unfolding entries
entry_here c i is h = ap (λ (l : List ℕ). take 1 l ++ entries c is) (drop-cons c i 0 h)

pub entries_are : (P : ℕ → Type 0) (c is : List ℕ) → All (λ i. i < length c) is → All P c → (length (entries c is) ≡ length is) × All P (entries c is)
entries_are P c is a p = (entries_length c is a, entries_all P c is p)

-- ---- one key

-- After i arguments: what is packed, and the arguments still to come.
abbrev pub Packs : Bytes → ℕ → ℕ → List ℕ → ℕ → ℕ → ℕ → ℕ → Type 0
Packs text at n c first i acc w = All (λ j. j < length c) (nums text (at + 6) n)
    → All (λ j. j < length c) (nums text (at + 6 + 2 * i) (n - i))
    × (pack_args first top (entries c (nums text (at + 6) n)) ≡ pack_args acc w (entries c (nums text (at + 6 + 2 * i) (n - i))))

nums_first : (s : Bytes) (at k : ℕ) → 0 < k → nums s at k ≡ num s at ∷ nums s (at + 2) (k - 1)
unfolding nums
nums_first s at zero h = absurd (omega arith)
nums_first s at (suc k) h = let z : k ≡ suc k - 1 = omega arith in ap (λ j. num s at ∷ nums s (at + 2) j) z

module _ (text : Bytes) (at n : ℕ) (c : List ℕ) (first : ℕ) where
  pub packs_start : Packs text at n c first 0 first top
  packs_start a =
      let z : at + 6 + 2 * 0 ≡ at + 6 = omega arith in
      let y : n - 0 ≡ n = omega arith in
      rw (z, y) (a, refl)

  module _ (i acc w : ℕ) (h : i < n) (p : Packs text at n c first i acc w) where
    next : All (λ j. j < length c) (nums text (at + 6) n) → All (λ j. j < length c) (num text (at + 6 + 2 * i) ∷ nums text (at + 6 + 2 * (i + 1)) (n - (i + 1)))
        × (pack_args first top (entries c (nums text (at + 6) n)) ≡ pack_args acc w (entries c (num text (at + 6 + 2 * i) ∷ nums text (at + 6 + 2 * (i + 1)) (n - (i + 1)))))
    next a =
        let q = nums_first text (at + 6 + 2 * i) (n - i) (omega arith) in
        let z : at + 6 + 2 * i + 2 ≡ at + 6 + 2 * (i + 1) = omega arith in
        let y : n - i - 1 ≡ n - (i + 1) = omega arith in
        let e : nums text (at + 6 + 2 * i) (n - i) ≡ num text (at + 6 + 2 * i) ∷ nums text (at + 6 + 2 * (i + 1)) (n - (i + 1)) =
        q ∙ ap₂ (λ (b k : ℕ). num text (at + 6 + 2 * i) ∷ nums text b k) z y in
        subst (λ (l : List ℕ). All (λ j. j < length c) l × (pack_args first top (entries c (nums text (at + 6) n)) ≡ pack_args acc w (entries c l))) e (p a)

    -- An argument that is no free variable: there is no such origin.
    pub packs_never : length c ≤ num text (at + 6 + 2 * i) → (r : ℕ) → All (λ j. j < length c) (nums text (at + 6) n) → r ≡ pack_args first top (entries c (nums text (at + 6) n))
    packs_never l r a = let q = (next a).0.0 in absurd (omega arith)

    pub packs_next : (j : ℕ) → num text (at + 6 + 2 * i) ≡ j → j < length c → Packs text at n c first (i + 1) (acc + get_or c j 0 * w) (w / 256)
    unfolding pack_args
    packs_next j e l a =
        let q = next a in (
          q.0.1,
          q.1 ∙ ap (λ (b : ℕ). pack_args acc w (entries c (b ∷ nums text (at + 6 + 2 * (i + 1)) (n - (i + 1))))) e
              ∙ ap (pack_args acc w) (entry_here c j (nums text (at + 6 + 2 * (i + 1)) (n - (i + 1))) l),
        )

  pub packs_end : (i acc w : ℕ) → n ≤ i → Packs text at n c first i acc w → All (λ j. j < length c) (nums text (at + 6) n) → acc ≡ pack_args first top (entries c (nums text (at + 6) n))
  unfolding nums entries pack_args
  packs_end i acc w h p a = let z : n - i ≡ 0 = omega arith in sym ((p a).1 ∙ ap (λ k. pack_args acc w (entries c (nums text (at + 6 + 2 * i) k))) z)

-- The key of the origin that stands there.
pub origin_key : (n : Names) (text : Bytes) (at : ℕ) (o : Origin) (e : ℕ) (c : List ℕ) (r : ℕ) → OriginText n text at o e → o.kind ≤ 1 → All (λ i. i < length c) o.args → length o.args ≤ 4
    → IsOriginKey text at c r → r ≡ pack_origin c o
origin_key n text at o e c r t k a f i =
    let args : o.args ≡ nums text (at + 6) (num text (at + 4)) = t.args ∙ ap (nums text (at + 6)) (sym t.count) in
    let l = entries_are (λ (x : ℕ). x ≡ x) c o.args a (all_any (λ (x : ℕ). x ≡ x) (λ x. refl) c) in
    let s : start (3 + num text at) (num text (at + 2)) (num text (at + 4)) ≡ start (3 + o.kind) o.witness (length (entries c o.args)) =
    (let p = t.kind in let q = t.witness in let w = t.count in let b = l.0 in omega arith) in
    i (let p = t.kind in omega arith) (subst (All (λ j. j < length c)) args a)
    ∙ ap₂ (λ (b : ℕ) (x : List ℕ). pack_args b top (entries c x)) s (sym args)
    ∙ pack_args_lem (3 + o.kind) o.witness (entries c o.args) (let b = l.0 in omega arith)

-- ---- the environment

-- After i origins: those still to come, and the environment with them is the whole.
pub record Coming (book text : Bytes) (p k v : ℕ) (env : List ℕ) (n : ℕ) (whole c : List ℕ) (e : ℕ) : Type 0 where
  pub origins : List Origin
  pub ats : OriginsAt book text p k v origins e
  pub is : whole ≡ take n env ++ map (pack_origin c) origins

abbrev pub Makes : Bytes → Bytes → ℕ → ℕ → ℕ → List ℕ → ℕ → ℕ → List ℕ → Type 0
Makes book text at k v c i p env =
    (os : List Origin) (e : ℕ) → OriginsAt book text at k v os e → Coming book text p (k - i) v env (v + i) (c ++ map (pack_origin c) os) c e

module _ (book text : Bytes) (at k v : ℕ) (c : List ℕ) (len : length c ≡ v) where
  pub makes_start : (env : List ℕ) → c ≡ take v env → Makes book text at k v c 0 at env
  makes_start env q os e s =
      let z : v + 0 ≡ v = omega arith in
      record {
        origins = os;
        ats = record { wf = s.wf; few = s.few; stand = s.stand; counted = (let w = s.counted in omega arith); fits = s.fits };
        is = ap (λ (l : List ℕ). l ++ map (pack_origin c) os) (q ∙ ap (λ j. take j env) (sym z));
      }

  module _ (i p : ℕ) (env : List ℕ) (h : i < k) (g : Makes book text at k v c i p env) where
    pub makes_next : (r q : ℕ) → v + i < length env → IsOriginKey text p c r → Skips (OriginText (names_in book) text) (length text) p q
        → Makes book text at k v c (i + 1) q (set env (v + i) r)
    unfolding Follow
    makes_next r q room key skip os e s = let b = g os e s in go b.origins b.ats b.is
      where
        go : (rs : List Origin) → OriginsAt book text p (k - i) v rs e → c ++ map (pack_origin c) os ≡ take (v + i) env ++ map (pack_origin c) rs
            → Coming book text q (k - (i + 1)) v (set env (v + i) r) (v + (i + 1)) (c ++ map (pack_origin c) os) c e
        go [] t w = let z = t.counted in absurd (omega arith)
        go (o ∷ rs) t w =
            let m = t.stand.0 in
            let grow = origins_grow (names_in book) text m rs e t.stand.1.1 in
            let f = t.fits in
            let is : q ≡ m = skip o m t.stand.1.0 (omega arith) in
            let wo = t.wf.0 in
            let ro : r ≡ pack_origin c o = origin_key (names_in book) text p o m c r t.stand.1.0 wo.0 (subst (λ j. All (λ x. x < j) o.args) (sym len) wo.2) t.few.0 key in
            let y : v + (i + 1) ≡ suc (v + i) = omega arith in
            record {
              origins = rs;
              ats = record {
                wf = t.wf.1;
                few = t.few.1;
                stand = subst (λ a. Follow (OriginText (names_in book) text) a rs e) (sym is) t.stand.1.1;
                counted = (let z = t.counted in omega arith);
                fits = f;
              };
              is = w ∙ ap (λ x. take (v + i) env ++ (x ∷ map (pack_origin c) rs)) (sym ro) ∙ sym (append_snoc (take (v + i) env) r (map (pack_origin c) rs))
                  ∙ ap (λ (l : List ℕ). l ++ map (pack_origin c) rs) (sym (ap (λ j. take j (set env (v + i) r)) y ∙ take-suc-set env (v + i) r room));
            }

  pub makes_end : (i p : ℕ) (env : List ℕ) → i ≡ k → Makes book text at k v c i p env → (os : List Origin) (e : ℕ) → OriginsAt book text at k v os e
      → (take (v + k) env ≡ c ++ map (pack_origin c) os) × (p ≡ e)
  unfolding Follow
  makes_end i p env h g os e s = let b = g os e s in go b.origins b.ats b.is
    where
      go : (rs : List Origin) → OriginsAt book text p (k - i) v rs e → c ++ map (pack_origin c) os ≡ take (v + i) env ++ map (pack_origin c) rs
          → (take (v + k) env ≡ c ++ map (pack_origin c) os) × (p ≡ e)
      go [] t w = (sym (w ∙ append-nil (take (v + i) env) ∙ ap (λ j. take (v + j) env) h), sym t.stand)
      go (o ∷ rs) t w = let z = t.counted in absurd (omega arith)

-- ---- for the loop that packs one key

pub element_octet : (env : List ℕ) (v j : ℕ) → Elements env v → j < v → get_or env j 0 < 256
element_octet env v j a h = subst Octet (get_or-take v env j 0 h) (all_get_d Octet (take v env) j 0 (omega (arith, length-take-le v env a.0)) a.1)

pub origin_done : (text : Bytes) (at : ℕ) (c : List ℕ) (first n r : ℕ) → n ≡ num text (at + 4) → first ≡ start (3 + num text at) (num text (at + 2)) (num text (at + 4))
    → (All (λ j. j < length c) (nums text (at + 6) n) → r ≡ pack_args first top (entries c (nums text (at + 6) n))) → IsOriginKey text at c r
origin_done text at c first n r e f g k a =
    g (subst (λ x. All (λ j. j < length c) (nums text (at + 6) x)) (sym e) a) ∙ ap₂ (λ (x y : ℕ). pack_args x top (entries c (nums text (at + 6) y))) f e
