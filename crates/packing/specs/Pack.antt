-- Keys, entries and facts as numbers: kind, symbol, number of arguments, four arguments, value, as digits to base 256.
-- A fact is packed as an entry of kind 0 with value 0. Key order is the order of the numbers of keys, which are those of
-- entries / 256, as long as a symbol has one arity.
use Rattle.std.specs.Prelude.{◌≡◌, refl, List, [], ◌∷◌, ◌++◌, Bool, length, get_or, replicate, T, eqb, ltb}
use Rattle.std.proofs.Math.Path.{sym}
use Rattle.std.proofs.Common.{ap, ap₂, ◌∙◌, arith, eqb→eq}
use Prim.Native.Nat.{ℕ, ◌+◌, ◌-◌, ◌*◌, ◌≤◌, ◌<◌, compare}
use Rattle.base.specs.Branch.{if, or_then, order}
use Rattle.base.specs.Lists.{All}
use Rattle.base.specs.BranchLaws.{if_elim, and_r}
use Rattle.base.specs.ListLaws.{all_get_d_or}
use Rattle.rules.specs.Book.{Names}
use Rattle.rules.specs.Sheet.{Key, key, Fact, Entry, key_order, fact_order}
use Rattle.rules.specs.Sound.{has_arity, declared_as}
use Rattle.rules.specs.Image.{padded, entry_bytes, key_bytes, fact_bytes}
use Rattle.images.specs.Storable.{Octet}
use Rattle.packing.specs.Compare.{ways, compare_eq}
use Rattle.packing.specs.Digits.{number_from, number, number_order, order_behind}

-- ---- packing

abbrev pub four : List ℕ → List ℕ
four xs = get_or xs 0 0 ∷ get_or xs 1 0 ∷ get_or xs 2 0 ∷ get_or xs 3 0 ∷ []

-- The seven digits of a key, as a number below 256 ^ 7.
unfoldable pub pack_key : Key → ℕ
pack_key k = number (k.kind ∷ k.symbol ∷ length k.args ∷ four k.args)

unfoldable pub pack_entry : Entry → ℕ
pack_entry x = pack_key x.0 * 256 + x.1

-- A fact as an entry.
abbrev pub fact_key : Fact → Key
fact_key f = key 0 f.relation f.args

abbrev pub fact_entry : Fact → Entry
fact_entry f = (fact_key f, 0)

abbrev pub pack_fact : Fact → ℕ
pack_fact f = pack_entry (fact_entry f)

-- ---- what fits: digits below 256, at most four arguments, and as many as the symbol's arity

pub record Fits (arity : ℕ → ℕ → ℕ) (k : Key) : Type 0 where
  pub kind : k.kind < 256
  pub symbol : k.symbol < 256
  pub args : All Octet k.args
  pub few : length k.args ≤ 4
  pub count : length k.args ≡ arity k.kind k.symbol

pub record FitsEntry (arity : ℕ → ℕ → ℕ) (x : Entry) : Type 0 where
  pub key : Fits arity x.0
  pub value : x.1 < 256

-- The arity of a declared symbol of a kind; kind 0 is a relation.
unfoldable pub arity_of : Names → ℕ → ℕ → ℕ
arity_of d kind symbol =
    if (eqb kind 0) (λ _. get_or d.relations symbol 0) (λ _.
    if (eqb kind 2) (λ _. get_or d.functions symbol 0) (λ _.
    if (eqb kind 4) (λ _. get_or d.function_witnesses symbol 0) (λ _. 0)))

has_arity_lem : (ars : List ℕ) (i n : ℕ) → T (has_arity ars i n) → n ≡ get_or ars i 0
unfolding has_arity
has_arity_lem ars i n t = sym (eqb→eq (get_or ars i 0) n (and_r (ltb i (length ars)) _ t))

-- The kinds one by one.
kinds : (d : Names) (symbol : ℕ) → (arity_of d 1 symbol ≡ 0) × (arity_of d 2 symbol ≡ get_or d.functions symbol 0)
    × (arity_of d 3 symbol ≡ 0) × (arity_of d 4 symbol ≡ get_or d.function_witnesses symbol 0)
unfolding arity_of if
kinds d symbol = (refl, refl, refl, refl)

module _ (d : Names) (kind symbol n : ℕ) where
  right : (k : ℕ) → T (eqb kind k) → n ≡ arity_of d k symbol → n ≡ arity_of d kind symbol
  right k t e = e ∙ ap (λ j. arity_of d j symbol) (sym (eqb→eq kind k t))

  abbrev Right : Bool → Type 0
  Right b = T b → n ≡ arity_of d kind symbol

  pub declared_arity : T (declared_as d kind symbol n) → n ≡ arity_of d kind symbol
  unfolding declared_as
  declared_arity =
      if_elim Right (eqb kind 1) _ _ (λ e t. right 1 e (eqb→eq n 0 (and_r (ltb symbol d.constants) (eqb n 0) t) ∙ sym (kinds d symbol).0)) (λ _.
      if_elim Right (eqb kind 2) _ _ (λ e t. right 2 e (has_arity_lem d.functions symbol n t ∙ sym (kinds d symbol).1)) (λ _.
      if_elim Right (eqb kind 3) _ _ (λ e t. right 3 e (eqb→eq n 0 (and_r (ltb symbol d.constant_witnesses) (eqb n 0) t) ∙ sym (kinds d symbol).2)) (λ _.
      if_elim Right (eqb kind 4) _ _ (λ e t. right 4 e (has_arity_lem d.function_witnesses symbol n t ∙ sym (kinds d symbol).3)) (λ _ t. absurd t))))

pub relation_arity : (d : Names) (r n : ℕ) → T (has_arity d.relations r n) → n ≡ arity_of d 0 r
unfolding arity_of if
relation_arity d r n t = has_arity_lem d.relations r n t

-- ---- order

four_is : (xs : List ℕ) → length xs ≤ 4 → padded 4 xs ≡ four xs
unfolding padded
four_is [] h = refl
four_is (a ∷ []) h = refl
four_is (a ∷ b ∷ []) h = refl
four_is (a ∷ b ∷ c ∷ []) h = refl
four_is (a ∷ b ∷ c ∷ d ∷ []) h = refl
four_is (a ∷ b ∷ c ∷ d ∷ e ∷ xs) h = absurd (omega arith)

four_order : (xs ys : List ℕ) → length xs ≤ 4 → length xs ≡ length ys → order (four xs) (four ys) ≡ order xs ys
unfolding padded
four_order xs ys h e =
    ap₂ order (sym (four_is xs h)) (sym (four_is ys (omega arith)))
    ∙ ap (λ n. order (xs ++ replicate (4 - length xs) 0) (ys ++ replicate (4 - n) 0)) (sym e)
    ∙ order_behind xs ys (replicate (4 - length xs) 0) e

pub key_order_lem : {arity : ℕ → ℕ → ℕ} (k l : Key) → Fits arity k → Fits arity l → key_order k l ≡ compare (pack_key k) (pack_key l)
unfolding pack_key order
key_order_lem {arity} k l p q =
    ways (λ o. or_then o (λ _. order (k.symbol ∷ k.args) (l.symbol ∷ l.args)) ≡ or_then o (λ _. order (symbols k) (symbols l))) k.kind l.kind
    (λ _. refl)
    (λ e. ways (λ o. or_then o (λ _. order k.args l.args) ≡ or_then o (λ _. order (length k.args ∷ four k.args) (length l.args ∷ four l.args))) k.symbol l.symbol
    (λ _. refl) (λ i. counted (p.count ∙ ap₂ arity e i ∙ sym q.count)) (λ _. refl))
    (λ _. refl)
    ∙ number_order 0 (k.kind ∷ symbols k) (l.kind ∷ symbols l) refl (digits k p) (digits l q)
  where
    symbols : Key → List ℕ
    symbols k = k.symbol ∷ length k.args ∷ four k.args

    counted : length k.args ≡ length l.args → order k.args l.args ≡ order (length k.args ∷ four k.args) (length l.args ∷ four l.args)
    counted e = sym (four_order k.args l.args p.few e) ∙ ap (λ o. or_then o (λ _. order (four k.args) (four l.args))) (sym (compare_eq (length k.args) (length l.args) e))

    digits : (k : Key) → Fits arity k → All Octet (k.kind ∷ symbols k)
    digits k p =
        let arg : (i : ℕ) → Octet (get_or k.args i 0) = λ i. all_get_d_or Octet k.args i 0 p.args (omega arith) in
        (p.kind, (p.symbol, (omega (arith, p.few), (arg 0, (arg 1, (arg 2, (arg 3, tt)))))))

pub fact_order_lem : (f g : Fact) → fact_order f g ≡ key_order (fact_key f) (fact_key g)
unfolding order
fact_order_lem f g = sym (ap (λ o. or_then o (λ _. fact_order f g)) (compare_eq 0 0 refl))

-- ---- bytes and digits

pub key_digits : (x : Entry) → length x.0.args ≤ 4 → key_bytes x ≡ x.0.kind ∷ x.0.symbol ∷ length x.0.args ∷ four x.0.args ++ (x.1 ∷ [])
unfolding key_bytes entry_bytes
key_digits x h = ap (λ (l : List ℕ). x.0.kind ∷ x.0.symbol ∷ length x.0.args ∷ l ++ (x.1 ∷ [])) (four_is x.0.args h)

pub fact_digits : (f : Fact) → fact_bytes f ≡ key_bytes (fact_entry f)
unfolding fact_bytes key_bytes
fact_digits f = refl

pub key_number_lem : (x : Entry) → length x.0.args ≤ 4 → number (key_bytes x) ≡ pack_entry x
unfolding pack_entry pack_key number_from
key_number_lem x h = ap number (key_digits x h)
