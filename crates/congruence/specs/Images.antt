-- What a function on elements makes of keys, entries and facts, and of a table of them.
use Rattle.std.specs.Prelude.{◌≡◌, ℕ, ◌↔◌, List, map}
use Rattle.std.proofs.Common.{sym, ap, ◌∙◌, subst, map-id}
use Rattle.base.specs.Lists.{All, Some}
use Rattle.base.specs.ListLaws.{map_map, all_all, all_in, some_some, In}
use Rattle.rules.specs.Sheet.{Key, key, Fact, rel, Entry}
use Rattle.soundness.specs.Tools.{in_has, some_meets}

abbrev pub key_image : (ℕ → ℕ) → Key → Key
key_image h k = key k.kind k.symbol (map h k.args)

abbrev pub entry_image : (ℕ → ℕ) → Entry → Entry
entry_image h x = (key_image h x.0, h x.1)

abbrev pub fact_image : (ℕ → ℕ) → Fact → Fact
fact_image h f = rel f.relation (map h f.args)

-- The image of an image.
pub key_twice : (g h : ℕ → ℕ) (k : Key) → key_image g (key_image h k) ≡ key_image (λ e. g (h e)) k
key_twice g h k = λ i. key k.kind k.symbol (map_map g h k.args i)

pub entry_twice : (g h : ℕ → ℕ) (x : Entry) → entry_image g (entry_image h x) ≡ entry_image (λ e. g (h e)) x
entry_twice g h x = λ i. (key_twice g h x.0 i, g (h x.1))

pub fact_twice : (g h : ℕ → ℕ) (f : Fact) → fact_image g (fact_image h f) ≡ fact_image (λ e. g (h e)) f
fact_twice g h f = λ i. rel f.relation (map_map g h f.args i)

-- Under the identity.
pub entry_self : (x : Entry) → entry_image (λ e. e) x ≡ x
entry_self x = λ i. (key x.0.kind x.0.symbol (map-id x.0.args i), x.1)

pub fact_self : (f : Fact) → fact_image (λ e. e) f ≡ f
fact_self f = λ i. rel f.relation (map-id f.args i)

-- ---- tables

-- y is what f makes of some entry of xs.
abbrev pub From : {A : Type 0} → (A → A) → List A → A → Type 0
From f xs y = Some (λ x. f x ≡ y) xs

-- ys has just what f makes of the entries of xs.
abbrev pub Images : {A : Type 0} → (A → A) → List A → List A → Type 0
Images {A} f xs ys = (y : A) → In y ys ↔ From f xs y

module _ {A : Type 0} (f : A → A) where
  -- What comes from an entry comes from it on.
  pub from_on : (g k : A → A) → ((x : A) → g (f x) ≡ k x) → (xs : List A) (y : A) → From f xs y → From k xs (g y)
  from_on g k e xs y s = some_some (λ x. f x ≡ y) (λ x. k x ≡ g y) (λ x p. sym (e x) ∙ ap g p) xs s

  -- Where f changes nothing.
  pub self_from : ((x : A) → f x ≡ x) → (xs : List A) → All (From f xs) xs
  self_from e xs = all_all (λ x. In x xs) (From f xs) (λ y i. some_some (λ x. x ≡ y) (λ x. f x ≡ y) (λ x q. e x ∙ q) xs i) xs (all_in xs)

  pub self_there : ((x : A) → f x ≡ x) → (xs : List A) → All (λ x. In (f x) xs) xs
  self_there e xs = all_all (λ x. In x xs) (λ x. In (f x) xs) (λ x i. subst (λ z. In z xs) (sym (e x)) i) xs (all_in xs)

  pub images_are : (xs ys : List A) → All (From f xs) ys → All (λ x. In (f x) ys) xs → Images f xs ys
  images_are xs ys from there y = (
    λ i. in_has (From f xs) y ys i from,
    λ s. some_meets (λ x. f x ≡ y) (λ x. In (f x) ys) (In y ys) (λ x e i. subst (λ z. In z ys) e i) xs s there,
  )
