-- Loops over the first entries of a list: what is left of them, and what two lists share behind a place.
use Rattle.std.specs.Prelude.{◌≡◌, ℕ, ◌+◌, ◌-◌, ◌≤◌, ◌<◌, List, [], ◌∷◌, length, get_or, take, drop}
use Rattle.std.proofs.Common.{sym, ap, ◌∙◌, arith, add-one, length-take, drop_of_length-le, drop-cons, get_or-take, drop-drop}
use Rattle.images.specs.Kept.{drop_take}

-- What is left of the first n entries at place i: an entry and the rest; at n, nothing.
pub front_cons : (t : List ℕ) (n i : ℕ) → n ≤ length t → i < n → drop i (take n t) ≡ get_or t i 0 ∷ drop (i + 1) (take n t)
front_cons t n i h q = rw (add-one, drop-cons (take n t) i 0 (simp length-take (omega arith)), get_or-take n t i 0 q)

pub rest_cons : (t : List ℕ) (i : ℕ) → i < length t → drop i t ≡ get_or t i 0 ∷ drop (i + 1) t
rest_cons t i h = rw (add-one, drop-cons t i 0 h)

pub front_end : (t : List ℕ) (n : ℕ) → drop n (take n t) ≡ []
front_end t n = drop_of_length-le (take n t) {i = n} (simp length-take (omega arith))

-- What two lists share from m on, they share behind m, and in every part there.
pub behind : (m a : ℕ) (t t' : List ℕ) → drop m t' ≡ drop m t → m ≤ a → drop a t' ≡ drop a t
behind m a t t' e h =
    let s : m + (a - m) ≡ a = omega arith in
    ap (λ j. drop j t') (sym s) ∙ sym (drop-drop (a - m) m t') ∙ ap (drop (a - m)) e ∙ drop-drop (a - m) m t ∙ ap (λ j. drop j t) s

pub behind_part : (m a b : ℕ) (t t' : List ℕ) → drop m t' ≡ drop m t → m ≤ a → drop a (take b t') ≡ drop a (take b t)
behind_part m a b t t' e h = drop_take a b t' ∙ ap (take (b - a)) (behind m a t t' e h) ∙ sym (drop_take a b t)
