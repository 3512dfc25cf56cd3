-- What a call leaves of a page: the same bytes behind it, from the same start, with a text written at its end. One law for texts behind
-- each other, and one for the page's whole text.
use Rattle.std.specs.Prelude.{◌≡◌, refl, ℕ, ◌+◌, ◌-◌, ◌≤◌, [], ◌++◌, length, take, drop, slice_range}
use Rattle.std.proofs.Common.{◌∙◌, ap, arith, length-append, length-drop, length-take-le, take_at}
use Rattle.std.proofs.lemmas.List.{drop-append-le, drop-take}
use Rattle.std.proofs.Math.Path.{ap₂}
use borrow.Rule.Slice.PartMut.{put_mid}
use Rattle.rules.specs.Reading.{Bytes}
use Rattle.octets.specs.Patch.{patched, patched_part}
use Rattle.lines.specs.declared.Page.{Page}
use Rattle.lines.specs.Wrote.{Wrote, wrote_none, wrote_length, wrote_next, wrote_as}

-- Of a page and of what it is then: whose bytes, its start, the bytes, its end.
abbrev Leaves : {N : Type 0} → N → ℕ → Bytes → ℕ → Bytes → N → ℕ → Bytes → ℕ → Type 0
Leaves a i s n text b j t m = (b ≡ a) × (j ≡ i) × Wrote s n text t m × (length t ≡ length s)

abbrev pub Writes : Page → Bytes → Page → Type 0
Writes p text q = Leaves p.out.ghost_name p.start p.out.now p.end text q.out.ghost_name q.start q.out.now q.end

-- Nothing yet.
pub writes_none : (p : Page) → p.end ≤ length p.out.now → Writes p [] p
writes_none p h = (refl, refl, wrote_none p.out.now p.end h, refl)

module _ {N : Type 0} {a b : N} {i j n m : ℕ} {s t p : Bytes} where
  -- A text and another behind it.
  pub writes_next : {c : N} {k r : ℕ} {q u : Bytes} → Leaves a i s n p b j t m → Leaves b j t m q c k u r → Leaves a i s n (p ++ q) c k u r
  writes_next v w = (w.0 ∙ v.0, w.1 ∙ v.1, wrote_next v.2 w.2, w.3 ∙ v.3)

  -- The same text in other words.
  pub writes_as : (q : Bytes) → p ≡ q → Leaves a i s n p b j t m → Leaves a i s n q b j t m
  writes_as q e w = (w.0, w.1, wrote_as q e w.2, w.3)

-- Bytes that were lent from the end on, and came back as the text.
pub writes_lent : {N : Type 0} {a : N} {i : ℕ} {s : Bytes} {n at size m : ℕ} {p q : Bytes} → at ≡ n → size ≡ length q → m ≡ n + length q → m ≤ length s → p ≡ q
    → Leaves a i s n q a i (put_mid at size s p) m
writes_lent {N} {a} {i} {s} {n} {at} {size} {m} {p} {q} start long end within is =
    let w : Wrote s n q (put_mid at size s p) m = record {
      is = patched_part at size p s (ap length is ∙ omega (arith, long)) ∙ ap₂ (λ (j : ℕ) (x : Bytes). patched j x s) start is;
      end = end;
      within = within;
    } in
    (refl, refl, w, wrote_length s n q (put_mid at size s p) m w)

-- ---- the text

abbrev pub text_of : Page → Bytes
text_of p = slice_range p.out.now p.start p.end

-- Bytes from i to n, and behind them what is written at n.
module _ (s : Bytes) (i n : ℕ) (p : Bytes) (h : i ≤ n) (l : n ≤ length s) where
  front : drop i (take n s) ≡ take (n - i) (drop i s)
  front = let e : n ≡ i + (n - i) = omega arith in ap (λ k. drop i (take k s)) e ∙ drop-take i (n - i) s

  text_patched : take (n + length p - i) (drop i (patched n p s)) ≡ take (n - i) (drop i s) ++ p
  unfolding patched
  text_patched =
      let a = take (n - i) (drop i s) in
      let d = drop (n + length p) s in
      let k : length a ≡ n - i = length-take-le (n - i) (drop i s) (omega (arith, length-drop i s)) in
      let m : length (a ++ p) ≡ n + length p - i = omega (arith, length-append a p) in
      let f : i ≤ length (take n s) = omega (arith, length-take-le n s l) in
      ap (λ (x : Bytes). take (n + length p - i) x)
      (drop-append-le i (take n s ++ p) d (omega (arith, length-append (take n s) p)) ∙ ap (λ (x : Bytes). x ++ d) (drop-append-le i (take n s) p f ∙ ap (λ (x : Bytes). x ++ p) front))
      ∙ take_at (a ++ p) d (n + length p - i) m

-- What is written comes behind the text.
pub text_more : (a : Page) (p : Bytes) (b : Page) → a.start ≤ a.end → a.end ≤ length a.out.now → Writes a p b → text_of b ≡ text_of a ++ p
text_more a p b h l w =
    ap₂ (λ (j m : ℕ). take (m - j) (drop j b.out.now)) w.1 w.2.end
    ∙ ap (λ (x : Bytes). take (a.end + length p - a.start) (drop a.start x)) w.2.is
    ∙ text_patched a.out.now a.start a.end p h l
