-- Depths mean something: an element's depth is the least height of a variable-free term that the sheet's keys lead to it, and it
-- is below the created count.
-- Both go down from an element to the arguments of the key that reaches its depth. Below a depth every smaller depth occurs, so
-- that there are more created elements than the depth counts.
use Rattle.std.specs.Prelude.{◌≡◌, length, get_or, T}
use Rattle.std.proofs.Math.Path.{refl, ap, ap₂}
use Rattle.std.proofs.Common.{sym, ◌∙◌, subst, le_refl, le_trans, arith, inl, inr}
use Prim.Native.Nat.{ℕ, zero, suc, ◌+◌, ◌-◌, ◌≤◌, ◌<◌, min}
use Rattle.std.proofs.Math.Decide.{ℕ_discrete}
use Rattle.std.proofs.Math.Option.{some}
use mathlib.Core.List.{List, [], ◌∷◌, map}
use Rattle.base.specs.Lists.{All, Some}
use Rattle.base.specs.ListLaws.{In, all_in}
use Rattle.rules.specs.Book.{Names}
use Rattle.rules.specs.Sheet.{key, Entry, Model, find, known, Limits}
use Rattle.rules.specs.Bound.{depth_over}
use Rattle.rules.specs.Sound.{sound_model}
use Rattle.laws.specs.Tables.{KeysRise, find_all}
use Rattle.soundness.specs.Tools.{all_pair, some_meets, KeyOver, Yielded, known_yielded, find_in}
use Rattle.soundness.specs.Settle.{depth_in, given, RestsAt, ReachedBy}
use Rattle.soundness.specs.Join.{Linked, yielded_low}
use Rattle.soundness.specs.Neat.{Neat}
use Rattle.soundness.specs.Model.{sound_neat}

-- ---- the key that reaches a depth

-- A key of the sheet that yields the element and gives just its depth, over yielded elements.
abbrev Source : Model → ℕ → Entry → Type 0
Source m e x = In x m.keys × (x.1 ≡ e) × (given m.depths x.0.args ≡ depth_in m.depths e) × KeyOver (Yielded m.keys) x

source : (m : Model) → Linked m → (e : ℕ) → Yielded m.keys e → (x : Entry) × Source m e x
source m g e y =
    let ds = m.depths in
    let ks = m.keys in
    some_meets (ReachedBy ds e) (λ (x : Entry). In x ks × (RestsAt ds x × KeyOver (Yielded ks) x)) ((x : Entry) × Source m e x)
    (λ x p q. (x, (q.0, p.0, (let u = ap (depth_in ds) p.0 in let v = p.1 in let w = q.1.0 in omega arith), q.1.1))) ks (g.reached e y)
    (all_pair (λ x. In x ks) (λ (x : Entry). RestsAt ds x × KeyOver (Yielded ks) x) ks (all_in ks) (all_pair (RestsAt ds) (KeyOver (Yielded ks)) ks g.rests g.key_args))

-- ---- depths are below the created count

-- How many entries are below n.
count_below : ℕ → List ℕ → ℕ
count_below n [] = 0
count_below n (x ∷ xs) = min 1 (n - x) + count_below n xs

count_below_length : (n : ℕ) (ds : List ℕ) → count_below n ds ≤ length ds
unfolding count_below
count_below_length n [] = le_refl 0
count_below_length n (x ∷ xs) = let r = count_below_length n xs in omega arith

count_below_up : (n : ℕ) (ds : List ℕ) → count_below n ds ≤ count_below (suc n) ds
unfolding count_below
count_below_up n [] = le_refl 0
count_below_up n (x ∷ xs) = let r = count_below_up n xs in omega arith

-- One more, where n occurs.
count_below_more : (n : ℕ) (ds : List ℕ) → In n ds → count_below n ds < count_below (suc n) ds
unfolding count_below
count_below_more n [] i = absurd i.lower
count_below_more n (x ∷ xs) (inl p) = let r = count_below_up n xs in omega arith
count_below_more n (x ∷ xs) (inr i) = let r = count_below_more n xs i in omega arith

occurs : (ds : List ℕ) (e : ℕ) → e < length ds → In (get_or ds e 0) ds
occurs [] e l = absurd (omega arith)
occurs (x ∷ xs) zero l = inl refl
occurs (x ∷ xs) (suc e) l = inr (occurs xs e (omega arith))

there : (m : Model) → Linked m → (e : ℕ) → Yielded m.keys e → (n : ℕ) → depth_in m.depths e ≡ n → In n m.depths
there m g e y n p =
    subst (λ z. In z m.depths) p (occurs m.depths e (let l = yielded_low m g e y in let q = g.long in omega arith))

-- A key that gives suc n has an argument of depth n.
argument : (f : ℕ → ℕ) (n : ℕ) (xs : List ℕ) → depth_over (map f xs) ≡ suc n → Some (λ e. f e ≡ n) xs
unfolding depth_over
argument f n [] p = absurd (omega arith)
argument f n (x ∷ xs) p = elim (ℕ_discrete (f x) n) [ yes q ↦ inl q | no q ↦ inr (argument f n xs (omega arith)) ]

-- So every smaller depth occurs.
counted : (m : Model) → Linked m → (n e : ℕ) → Yielded m.keys e → depth_in m.depths e ≡ n → n < count_below (suc n) m.depths
counted m g zero e y p = let q = count_below_more 0 m.depths (there m g e y 0 p) in omega arith
counted m g (suc n) e y p =
    let s = source m g e y in
    let q = count_below_more (suc n) m.depths (there m g e y (suc n) p) in
    let r : n < count_below (suc n) m.depths =
    some_meets (λ a. depth_in m.depths a ≡ n) (Yielded m.keys) (n < count_below (suc n) m.depths) (λ a b z. counted m g n a z b) s.0.0.args
    (argument (depth_in m.depths) n s.0.0.args (s.1.2 ∙ p)) s.1.3 in
    omega arith

pub depth_low : (lim : Limits) (d : Names) (m : Model) → Neat lim d m → (e : ℕ) → T (known m e) → get_or m.depths e 0 < m.created
depth_low lim d m g e k =
    let n = get_or m.depths e 0 in
    let p = counted m g.linked n e (known_yielded m e k) refl in
    let q = count_below_length (suc n) m.depths in
    let r = g.linked.long in
    omega arith

-- ---- names

-- A variable-free term: a kind and a symbol, as a key has them, over names.
mutual
  pub data Name : Type 0 where
    name : ℕ → ℕ → NameList → Name

  pub data NameList : Type 0 where
    no_names : NameList
    add_name : Name → NameList → NameList

-- "0 without arguments, else 1 + the greatest": as for depths.
unfoldable mutual
  pub height : Name → ℕ
  height (name k s ts) = depth_over (heights ts)

  pub heights : NameList → List ℕ
  heights no_names = []
  heights (add_name t ts) = height t ∷ heights ts

-- A sheet's keys lead a name to an element: the arguments to theirs, and the key over those has it for its value.
module _ (m : Model) where
  abbrev mutual
    pub Leads : Name → ℕ → Type 0
    Leads (name k s ts) e = (xs : List ℕ) × LeadAll ts xs × (find (key k s xs) m.keys ≡ some e)

    pub LeadAll : NameList → List ℕ → Type 0
    LeadAll no_names xs = xs ≡ []
    LeadAll (add_name t ts) xs = (x : ℕ) × (ys : List ℕ) × (xs ≡ x ∷ ys) × Leads t x × LeadAll ts ys

-- ---- the least height

-- Some name that leads to the element has its depth for a height, and none that leads to it is lower.
pub record LeastHeight (m : Model) (e : ℕ) : Type 0 where
  pub lowest : Name
  pub leads : Leads m lowest e
  pub reaches : height lowest ≡ get_or m.depths e 0
  pub least : (t : Name) → Leads m t e → get_or m.depths e 0 ≤ height t

module _ (m : Model) (g : Linked m) where
  mutual
    unfolding height depth_over

    high : (t : Name) (e : ℕ) → Leads m t e → depth_in m.depths e ≤ height t
    high (name k s ts) e l =
        le_trans (find_all (RestsAt m.depths) (key k s l.0) m.keys e g.rests l.2) (highs ts l.0 l.1)

    highs : (ts : NameList) (xs : List ℕ) → LeadAll m ts xs → given m.depths xs ≤ depth_over (heights ts)
    highs no_names xs l = subst (λ z. given m.depths z ≤ 0) (sym l) (le_refl 0)
    highs (add_name t ts) xs l =
        let p = high t l.0 l.3 in
        let q = highs ts l.1 l.4 in
        subst (λ z. given m.depths z ≤ depth_over (heights (add_name t ts))) (sym l.2) (omega arith)

  -- Names for all of some elements that are shallow.
  all_named : (n : ℕ) → ((e : ℕ) → Yielded m.keys e → depth_in m.depths e < n → (t : Name) × Leads m t e × (height t ≡ depth_in m.depths e))
      → (xs : List ℕ) → All (Yielded m.keys) xs → given m.depths xs ≤ n → (ts : NameList) × LeadAll m ts xs × (heights ts ≡ map (depth_in m.depths) xs)
  unfolding depth_over heights
  all_named n f [] a l = (no_names, refl, refl)
  all_named n f (x ∷ xs) a l =
      let t = f x a.0 (omega arith) in
      let r = all_named n f xs a.1 (omega arith) in
      (add_name t.0 r.0, (x, xs, refl, t.1, r.1), ap₂ (λ (y : ℕ) ys. y ∷ ys) t.2 r.2)

  named : KeysRise m.keys → (n e : ℕ) → Yielded m.keys e → depth_in m.depths e < n → (t : Name) × Leads m t e × (height t ≡ depth_in m.depths e)
  unfolding height
  named o zero e y l = absurd (omega arith)
  named o (suc n) e y l =
      let s = source m g e y in
      let x = s.0 in
      let r = all_named n (named o n) x.0.args s.1.3 (let z = s.1.2 in omega arith) in
      (name x.0.kind x.0.symbol r.0, (x.0.args, r.1, find_in m.keys o x s.1.0 ∙ ap some s.1.1), ap depth_over r.2 ∙ s.1.2)

pub depth_is_least_height : (lim : Limits) (d : Names) (m : Model) → Neat lim d m → (e : ℕ) → T (known m e) → LeastHeight m e
depth_is_least_height lim d m g e k =
    let r = named m g.linked g.listed.keys_rise (suc (get_or m.depths e 0)) e (known_yielded m e k) (le_refl _) in
    record { lowest = r.0; leads = r.1; reaches = r.2; least = λ t l. high m g.linked t e l }

pub sound_depth : (lim : Limits) (d : Names) (m : Model) → T (sound_model lim d m) → (e : ℕ) → T (known m e) → LeastHeight m e
sound_depth lim d m t = depth_is_least_height lim d m (sound_neat lim d m t)
