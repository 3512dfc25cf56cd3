-- A region of a list that was lent and came back: all else is kept.
use Rattle.std.specs.Prelude.{◌≡◌, ℕ, ◌+◌, ◌≤◌, List, ◌++◌, length, take}
use Rattle.std.proofs.Common.{sym, ◌∙◌, subst, subst₂, ap₂, arith, append_assoc, length-append, length-drop, drop_at, drop-drop, length-take-le}
use Rattle.std.proofs.Math.Path.{ap}
use Rattle.std.proofs.Math.ListN.{drop}
use Rattle.std.proofs.Math.Seq.{take_at}
use borrow.Rule.Slice.PartMut.{put_mid}
use Rattle.rules.specs.Image.{part}
use Rattle.images.specs.Kept.{Kept, part_size}

module _ (a k : ℕ) (w ys : List ℕ) (fits : a + k ≤ length w) (size : length ys ≡ k) where
  start : length (take a w) ≡ a
  start = length-take-le a w (omega arith)

  front : length (take a w ++ ys) ≡ a + k
  front = length-append (take a w) ys ∙ (omega (arith, start))

  pub kept_lent : Kept a k w (put_mid a k w ys)
  kept_lent = record {
    size =
        length-append (take a w) (ys ++ drop k (drop a w))
        ∙ ap (λ n. length (take a w) + n) (length-append ys (drop k (drop a w)))
        ∙ (omega (arith, start, length-drop k (drop a w), length-drop a w));
    front = take_at (take a w) (ys ++ drop k (drop a w)) a start;
    behind =
        ap (drop (a + k)) (sym (append_assoc (take a w) ys (drop k (drop a w))))
        ∙ drop_at (take a w ++ ys) (drop k (drop a w)) (a + k) front ∙ drop-drop k a w;
  }

  pub part_lent : part a k (put_mid a k w ys) ≡ ys
  unfolding part
  part_lent = ap (take k) (drop_at (take a w) (ys ++ drop k (drop a w)) a start) ∙ take_at ys (drop k (drop a w)) k size

-- All but a region is kept, and the region before and after is in a relation.
pub record Lent (P : List ℕ → List ℕ → Type 0) (at room : ℕ) (w w' : List ℕ) : Type 0 where
  pub kept : Kept at room w w'
  pub made : P (part at room w) (part at room w')

-- What a call made of the region that was lent to it.
pub lent : (P : List ℕ → List ℕ → Type 0) (at room a k : ℕ) (w ys : List ℕ) → length ys ≡ length (take k (drop a w)) → P (take k (drop a w)) ys
    → a ≡ at → k ≡ room → at + room ≤ length w → Lent P at room w (put_mid a k w ys)
unfolding part
lent P at room a k w ys size j i e fits =
    let whole : length ys ≡ room = size ∙ ap₂ (λ m n. length (take n (drop m w))) i e ∙ part_size at room w fits in
    subst₂ (λ m n. Lent P at room w (put_mid m n w ys)) (sym i) (sym e) (record {
      kept = kept_lent at room w ys fits whole;
      made = subst (P (part at room w)) (sym (part_lent at room w ys fits whole)) (subst₂ (λ m n. P (take n (drop m w)) ys) i e j);
    })
