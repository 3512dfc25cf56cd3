-- Bounds and depths (01, "How a step goes"; `bounder.rs`, `depth` and `exceeds` in the Rust).
use Rattle.std.specs.Prelude.{ℕ, suc, max, Bool, true, false, List, [], ◌∷◌, map, get_or, leb, ltb}
use Rattle.base.specs.Branch.{if, case_o}
use Rattle.rules.specs.Book.{Term, var, con, app, Terms, nil, cons, Literal, fact, same}
use Rattle.rules.specs.Sheet.{Model}
use Rattle.rules.specs.Look.{Meaning, elem, witness, nobody, look}

pub data Bound : Type 0 where
  unbounded : Bound
  domain_size : ℕ → Bound
  depth_pure : ℕ → Bound
  depth_reuse : ℕ → Bound

-- "DomainSize n admits size < n; Depth n admits depth <= n; Reuse refuses as Pure does."
unfoldable pub admits : Bound → ℕ → ℕ → Bool
admits unbounded size depth = true
admits (domain_size n) size depth = ltb size n
admits (depth_pure n) size depth = leb depth n
admits (depth_reuse n) size depth = leb depth n

-- "0 without arguments, else 1 + the greatest argument depth."
unfoldable pub depth_over : List ℕ → ℕ
depth_over [] = 0
depth_over (d ∷ ds) = max (suc d) (depth_over ds)

unfoldable pub depth_at : Model → ℕ → ℕ
depth_at m e = get_or m.depths e 0

-- In a child: for each element what it is now, itself or the survivor that it was merged into.
abbrev pub History : Type 0
History = ℕ → ℕ

-- "An element merged away earlier in the same child has its survivor's depth."
unfoldable pub depth_meaning : Model → History → Meaning → ℕ
depth_meaning m now (elem e) = depth_at m (now e)
depth_meaning m now (witness k) = depth_over (map (λ e. depth_at m (now e)) k.args)

-- "A known term has its element's."
unfoldable mutual
  pub depth : Term → Model → History → List Meaning → ℕ
  depth (var i) m now env = case_o (look (var i) m env) (λ _. depth_meaning m now (get_or env i nobody)) (depth_at m)
  depth (con c) m now env = case_o (look (con c) m env) (λ _. 0) (depth_at m)
  depth (app f ts) m now env = case_o (look (app f ts) m env) (λ _. depth_over (depths ts m now env)) (depth_at m)

  pub depths : Terms → Model → History → List Meaning → List ℕ
  depths nil m now env = []
  depths (cons t ts) m now env = depth t m now env ∷ depths ts m now env

-- A literal's own terms.
unfoldable pub terms_of : Literal → Terms
terms_of (fact r ts) = ts
terms_of (same s t) = cons s (cons t nil)

-- "The unknown terms of one literal, left to right, are put to the bound with size = domain size + count before it, and their depth."
unfoldable pub admitted : Bound → ℕ → Terms → Model → History → List Meaning → Bool
admitted b size nil m now env = true
admitted b size (cons t ts) m now env = case_o (look t m env)
    (λ _. if (admits b size (depth t m now env)) (λ _. admitted b (suc size) ts m now env) (λ _. false))
    (λ _. admitted b size ts m now env)
