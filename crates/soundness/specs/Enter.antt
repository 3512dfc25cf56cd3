-- Recording terms keeps a sheet listed and linked, loses no yielded element, and yields what it returns. Only one step makes
-- something new: a key that was not there, with a new element at the depth that the key gives.
use Rattle.std.specs.Prelude.{◌≡◌, List, [], ◌∷◌, ◌++◌, map, length, get_or}
use Rattle.std.proofs.Math.Path.{refl, sym, ap}
use Rattle.std.proofs.Common.{◌∙◌, subst, le_refl, le_of_eq, arith}
use Prim.Native.Nat.{ℕ, suc, ◌<◌}
use Rattle.std.proofs.Math.Option.{none, none-ne-some}
use Rattle.std.proofs.Math.ListN.{length-append}
use Rattle.std.proofs.lemmas.List.{length-map}
use Rattle.std.proofs.Math.Seq.{get_or-append_seam}
use Rattle.std.proofs.Math.Dec.{T}
use Rattle.base.specs.Lists.{All, Some}
use Rattle.base.specs.BranchLaws.{case_o_elim}
use Rattle.base.specs.ListLaws.{map_agree, all_all, all_both, all_map, all_get_d, some_some, some_all}
use Rattle.rules.specs.Book.{Term, var, con, app, Terms, nil, cons, Names}
use Rattle.rules.specs.Sheet.{Key, key, Entry, Model, find, insert_key}
use Rattle.rules.specs.Look.{Meaning, elem, witness, nobody}
use Rattle.rules.specs.Bound.{depth_over, depth_at, History}
use Rattle.rules.specs.Child.{add, put, put_meaning, enter, enters}
use Rattle.rules.specs.Sound.{declared_as, key_declared}
use Rattle.laws.specs.Tables.{find_all, insert_key_all, insert_key_rises}
use Rattle.soundness.specs.Tools.{append_other, insert_key_new, insert_key_old, all_pair, KeyOver, Yields, keys_over, facts_over, Yielded, all_yielded, yielded_has}
use Rattle.soundness.specs.Settle.{depth_in, given, RestsAt, ReachedBy, Reached}
use Rattle.soundness.specs.Join.{Linked, yielded_low, Follows}
use Rattle.soundness.specs.Neat.{Listed}
use Rattle.soundness.specs.Book.{count, WfTerm, WfTerms}

-- ---- a new key

abbrev more_keys : Model → Key → List Entry
more_keys m k = insert_key (k, m.created) m.keys

abbrev more_depths : Model → Key → List ℕ
more_depths m k = m.depths ++ (given m.depths k.args ∷ [])

module _ (m : Model) (k : Key) (g : Linked m) (a : All (Yielded m.keys) k.args) (fresh : find k m.keys ≡ none) where
  -- The new key replaces none.
  still : (Q : Entry → Type 0) → Some Q m.keys → Some Q (more_keys m k)
  still Q s = insert_key_old Q (k, m.created) m.keys (λ v q _. absurd (none-ne-some v (sym fresh ∙ q))) s

  stays : (e : ℕ) → Yielded m.keys e → Yielded (more_keys m k) e
  stays e y = still (λ (x : Entry). x.1 ≡ e) y

  new_depth : depth_in (more_depths m k) m.created ≡ given m.depths k.args
  new_depth = subst (λ z. depth_in (more_depths m k) z ≡ given m.depths k.args) g.long (get_or-append_seam m.depths (given m.depths k.args) [] 0)

  old_depth : (e : ℕ) → Yielded m.keys e → depth_in (more_depths m k) e ≡ depth_in m.depths e
  old_depth e y = append_other m.depths _ e (let l = yielded_low m g e y in let n = g.long in omega arith)

  old_given : (xs : List ℕ) → All (Yielded m.keys) xs → given (more_depths m k) xs ≡ given m.depths xs
  old_given xs b = ap depth_over (map_agree (Yielded m.keys) (depth_in (more_depths m k)) (depth_in m.depths) old_depth xs b)

  reached_new : Reached (more_depths m k) (more_keys m k) m.created
  reached_new = insert_key_new (ReachedBy (more_depths m k) m.created) (k, m.created) m.keys (refl, le_of_eq (old_given k.args a ∙ sym new_depth))

  reached_old : (e : ℕ) → Yielded m.keys e → Reached (more_depths m k) (more_keys m k) e
  reached_old e y =
      still (ReachedBy (more_depths m k) e)
      (some_some (λ (x : Entry). ReachedBy m.depths e x × KeyOver (Yielded m.keys) x) (ReachedBy (more_depths m k) e)
      (λ x q. (q.0.0, let u = old_given x.0.args q.1 in let v = old_depth e y in let z = q.0.1 in omega arith)) m.keys
      (some_all (ReachedBy m.depths e) (KeyOver (Yielded m.keys)) m.keys (g.reached e y) g.key_args))

  add_linked : Linked (add m k)
  unfolding add depth_at
  add_linked = record {
    key_args = insert_key_all (KeyOver (Yielded (more_keys m k))) (k, m.created) m.keys (all_all (Yielded m.keys) (Yielded (more_keys m k)) stays k.args a)
        (keys_over (Yielded m.keys) (Yielded (more_keys m k)) stays m.keys g.key_args);
    fact_args = facts_over (Yielded m.keys) (Yielded (more_keys m k)) stays m.facts g.fact_args;
    low = insert_key_all (λ (x : Entry). x.1 < suc m.created) (k, m.created) m.keys (le_refl _)
        (all_all (λ (x : Entry). x.1 < m.created) (λ (x : Entry). x.1 < suc m.created) (λ x l. omega arith) m.keys g.low);
    long = length-append m.depths (given m.depths k.args ∷ []) ∙ (let n = g.long in omega arith);
    reached = yielded_has (Reached (more_depths m k) (more_keys m k)) (more_keys m k) (insert_key_all (Yields (Reached (more_depths m k) (more_keys m k))) (k, m.created) m.keys reached_new
        (all_all (Yields (Yielded m.keys)) (Yields (Reached (more_depths m k) (more_keys m k))) (λ x y. reached_old x.1 y) m.keys (all_yielded m.keys)));
    rests = insert_key_all (RestsAt (more_depths m k)) (k, m.created) m.keys (le_of_eq (new_depth ∙ sym (old_given k.args a)))
        (all_both (λ (x : Entry). Yields (Yielded m.keys) x × KeyOver (Yielded m.keys) x) (RestsAt m.depths) (RestsAt (more_depths m k))
        (λ x y r. let u = old_given x.0.args y.1 in let v = old_depth x.1 y.0 in omega arith) m.keys
        (all_pair (Yields (Yielded m.keys)) (KeyOver (Yielded m.keys)) m.keys (all_yielded m.keys) g.key_args) g.rests);
    gone = λ e n. append_other m.depths _ e (λ p. n (insert_key_new (λ (x : Entry). x.1 ≡ e) (k, m.created) m.keys (sym (p ∙ g.long)))) ∙ g.gone e (λ y. n (stays e y));
  }

-- ---- terms

-- A sheet within a child, neat but for its limits: the history leads what the base has to elements that it yields.
pub record Tidy (d : Names) (B : ℕ → Type 0) (now : History) (m : Model) : Type 0 where
  pub listed : Listed d m
  pub linked : Linked m
  pub follows : Follows B m now

-- From one sheet to another, with the elements that were returned.
pub record Entered (d : Names) (B : ℕ → Type 0) (now : History) (m n : Model) (xs : List ℕ) : Type 0 where
  pub tidy : Tidy d B now n
  pub stay : (e : ℕ) → Yielded m.keys e → Yielded n.keys e
  pub yields : All (Yielded n.keys) xs

-- What a variable means: a base element, or a declared witness over base elements.
abbrev pub Means : Names → (ℕ → Type 0) → Meaning → Type 0
Means d B (elem e) = B e
Means d B (witness k) = All B k.args × T (declared_as d k.kind k.symbol (length k.args))

module _ (d : Names) (B : ℕ → Type 0) (now : History) where
  put_entered : (m : Model) (k : Key) → Tidy d B now m → All (Yielded m.keys) k.args → T (declared_as d k.kind k.symbol (length k.args))
      → Entered d B now m (put m k).0 ((put m k).1 ∷ [])
  unfolding put
  put_entered m k g a t = case_o_elim (λ (r : Model × ℕ). Entered d B now m r.0 (r.1 ∷ [])) _ _ _
      (λ f. let up = stays m k g.linked a f in record {
        tidy = record {
          listed = new_listed;
          linked = add_linked m k g.linked a f;
          follows = unfold add in λ e b. up (now e) (g.follows e b);
        };
        stay = unfold add in up;
        yields = unfold add in (insert_key_new (λ (x : Entry). x.1 ≡ m.created) (k, m.created) m.keys refl, tt);
      })
      (λ e f. record { tidy = g; stay = λ z y. y; yields = (find_all (Yields (Yielded m.keys)) k m.keys e (all_yielded m.keys) f, tt) })
    where
      new_listed : Listed d (add m k)
      new_listed = unfold add key_declared in record {
        keys_rise = insert_key_rises (k, m.created) m.keys g.listed.keys_rise;
        facts_rise = g.listed.facts_rise;
        keys_declared = insert_key_all (λ (x : Entry). T (key_declared d x)) (k, m.created) m.keys t g.listed.keys_declared;
        facts_declared = g.listed.facts_declared;
      }

  meaning_entered : (s : Meaning) → Means d B s → (m : Model) → Tidy d B now m → Entered d B now m (put_meaning m now s).0 ((put_meaning m now s).1 ∷ [])
  unfolding put_meaning
  meaning_entered (elem e) b m g = record { tidy = g; stay = λ z y. y; yields = (g.follows e b, tt) }
  meaning_entered (witness k) b m g =
      put_entered m (key k.kind k.symbol (map now k.args)) g (all_map B (Yielded m.keys) now (λ e p. g.follows e p) k.args b.0)
      (subst (λ n. T (declared_as d k.kind k.symbol n)) (sym (length-map k.args now)) b.1)

  module _ (env : List Meaning) (means : All (Means d B) env) where
    pub enters_count : (ts : Terms) (m : Model) → length (enters ts m now env).1 ≡ count ts
    unfolding enters
    enters_count nil m = refl
    enters_count (cons t ts) m = ap suc (enters_count ts (enter t m now env).0)

    mutual
      unfolding enter

      pub enter_entered : (t : Term) (m : Model) → WfTerm t d (length env) → Tidy d B now m → Entered d B now m (enter t m now env).0 ((enter t m now env).1 ∷ [])
      enter_entered (var i) m w g = meaning_entered (get_or env i nobody) (all_get_d (Means d B) env i nobody w means) m g
      enter_entered (con c) m w g = put_entered m (key 1 c []) g tt w
      enter_entered (app f ts) m w g =
          let r = enters_entered ts m w.1 g in
          let q = put_entered (enters ts m now env).0 (key 2 f (enters ts m now env).1) r.tidy r.yields (subst (λ n. T (declared_as d 2 f n)) (sym (enters_count ts m)) w.0) in
          record { tidy = q.tidy; stay = λ e y. q.stay e (r.stay e y); yields = q.yields }

      pub enters_entered : (ts : Terms) (m : Model) → WfTerms ts d (length env) → Tidy d B now m → Entered d B now m (enters ts m now env).0 (enters ts m now env).1
      enters_entered nil m w g = record { tidy = g; stay = λ e y. y; yields = tt }
      enters_entered (cons t ts) m w g =
          let r = enter_entered t m w.0 g in
          let q = enters_entered ts (enter t m now env).0 w.1 r.tidy in
          record { tidy = q.tidy; stay = λ e y. q.stay e (r.stay e y); yields = (q.stay _ r.yields.0, q.yields) }
