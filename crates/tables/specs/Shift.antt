-- The first n entries of a table with a gap opened at a place, by a loop from behind or by a copy; and one entry put into the gap.
use Rattle.std.specs.Prelude.{◌≡◌, List, ◌∷◌, ◌++◌, length, get_or, take, set}
use Prim.Native.Nat.{ℕ, zero, suc, ◌+◌, ◌-◌, ◌≤◌, ◌<◌}
use Rattle.std.proofs.Math.Nat.{sub_self}
use Rattle.std.specs.List.{copy_within}
use Rattle.std.proofs.Common.{◌∙◌, add-one, sub-one, append_assoc, take-append-drop, take-suc, length-take-le}
use native.Mathlib.Omega.{arith}
use Rattle.std.proofs.Math.ListN.{drop, length-take, get_or-append}
use Rattle.std.proofs.Math.Seq.{drop-cons, append_snoc, get_or-take, take-take}
use Rattle.std.proofs.lemmas.List.{set_at}
use Rattle.images.specs.Kept.{drop_take}
use Rattle.tables.specs.Table.{insert_at}

-- Entries i to n - 1 stand one place higher, entry n is gone, and entry i stands twice.
unfoldable pub opened : List ℕ → ℕ → ℕ → List ℕ
opened t i n = take (suc i) t ++ (take (n - i) (drop i t) ++ drop (suc n) t)

set_last : (t rest : List ℕ) (j v : ℕ) → j < length t → set (take (suc j) t ++ rest) j v ≡ take j t ++ v ∷ rest
set_last t rest j v h = rw (take-suc t j 0 h, append_snoc) (set_at (take j t) _ rest v j (length-take-le j t (omega arith)))

module _ (t : List ℕ) (n : ℕ) (room : n < length t) where
  pub opened_none : opened t n n ≡ t
  unfolding opened
  opened_none = simp (sub_self, take-append-drop)

  one_more_lem : (j : ℕ) → suc j ≤ n → set (opened t (suc j) n) (suc j) (get_or (opened t (suc j) n) j 0) ≡ opened t j n
  unfolding opened
  one_more_lem j h =
      let s : n - j ≡ suc (n - suc j) = omega arith in
      rw (
        get_or-append (take (suc (suc j)) t) (take (n - suc j) (drop (suc j) t) ++ drop (suc n) t) 0 j (simp length-take (omega arith)),
        get_or-take (suc (suc j)) t j 0 (omega arith),
        set_last t (take (n - suc j) (drop (suc j) t) ++ drop (suc n) t) (suc j) (get_or t j 0) (omega arith),
        drop-cons t j 0 (omega arith),
        s,
      )

  -- One more entry moved up.
  pub opened_more : (i : ℕ) → 0 < i → i ≤ n → set (opened t i n) i (get_or (opened t i n) (i - 1) 0) ≡ opened t (i - 1) n
  opened_more zero p h = absurd (omega arith)
  opened_more (suc j) p h = rw sub-one (one_more_lem j h)

  -- Those behind the place are copied one place higher.
  pub opened_copied : (r : ℕ) → r ≤ n → copy_within t r n (r + 1) ≡ opened t r n
  unfolding opened
  opened_copied r h =
      let e : r + 1 + (n - r) ≡ suc n = omega arith in
      append_assoc (take (r + 1) t) (take (n - r) (drop r t)) (drop (r + 1 + (n - r)) t) ∙ (rw (e, add-one))

  -- The gap filled.
  pub opened_set : (r x : ℕ) → r ≤ n → set (opened t r n) r x ≡ insert_at r x (take n t) ++ drop (n + 1) t
  unfolding opened
  opened_set r x h =
      rw (add-one, set_last t (take (n - r) (drop r t) ++ drop (suc n) t) r x (omega arith), take-take r n t h, drop_take r n t, append_assoc)
