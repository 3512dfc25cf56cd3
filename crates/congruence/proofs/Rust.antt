-- That the Rust's merging, as Rust (specs) has it, makes of a sound sheet what `merge` does: it is merging by an order.
use Rattle.std.specs.Prelude.{◌≡◌, ℕ, zero, suc, ◌+◌, ◌≤◌, min, max, length, T, eqb}
use Rattle.std.proofs.Math.Path.{refl, subst}
use Rattle.std.proofs.Common.{sym, ap, ◌∙◌, arith, inl, eqb→eq}
use Rattle.std.proofs.Math.Decide.{dec_le}
use Rattle.std.proofs.Math.Option.{Option, none, some}
use mathlib.Core.List.{List, [], ◌∷◌, map}
use Rattle.std.proofs.lemmas.List.{length-map}
use Rattle.base.specs.Branch.{if, case_o}
use Rattle.base.specs.Lists.{All}
use Rattle.base.specs.BranchLaws.{if_elim, case_o_elim, eq→eqb, neqb→ne, if_true}
use Rattle.base.specs.ListLaws.{all_all, all_map}
use Rattle.rules.specs.Book.{Names}
use Rattle.rules.specs.Sheet.{Entry, Model, find, insert_key, known, Limits}
use Rattle.rules.specs.Bound.{History}
use Rattle.rules.specs.Merge.{rename, rename_entry, rename_fact, Pair, rename_pair, Filed, file, refile, refact, merge_depths, sum, lowered, merge}
use Rattle.rules.specs.Sound.{sound_model}
use Rattle.laws.specs.Tables.{find_all, insert_key_all}
use Rattle.laws.specs.MergeBy.{merge_into_by, merge_all_by, merge_by}
use Rattle.laws.proofs.MergeByLaws.{same_reorders}
use Rattle.soundness.specs.Tools.{Yields, yielded_has, known_yielded, insert_key_length}
use Rattle.soundness.specs.Settle.{RestsAt, AtRest}
use Rattle.soundness.specs.Join.{into_length}
use Rattle.soundness.specs.Neat.{Neat}
use Rattle.soundness.specs.Model.{sound_neat}
use Rattle.congruence.specs.Rounds.{rename_has, through_if}
use Rattle.congruence.proofs.Merged.{merge_any_order}
use Rattle.congruence.specs.History.{Living}
use Rattle.congruence.specs.Lowering.{Waits, rust_lowers, round_waits}
use Rattle.congruence.specs.Rust.{keys_before, newest_first, rust_file, rust_into, rust_merge, rust_refile, rust_rounds}

-- ---- the pairs that wait

-- A pair looked up.
abbrev through : History → Pair → Pair
through h p = (h p.0, h p.1)

-- Of the pairs by order the Rust has each, not yet looked up, but for some of one element.
data Waiting (h : History) : List Pair → List Pair → Type 0 where
  no_pair : Waiting h [] []
  left_out : (q : Pair) (ps qs : List Pair) → q.0 ≡ q.1 → Waiting h ps qs → Waiting h ps (q ∷ qs)
  pushed : (p : Pair) (ps qs : List Pair) → Waiting h ps qs → Waiting h (p ∷ ps) (through h p ∷ qs)

-- A round goes on: pairs that are renamed are those looked up in the history after it.
waiting_on : (s l : ℕ) (h : History) (ps qs : List Pair) → Waiting h ps qs → Waiting (λ e. rename s l (h e)) ps (map (rename_pair s l) qs)
waiting_on s l h _ _ no_pair = no_pair
waiting_on s l h ps _ (left_out q _ qs e w) = left_out (rename_pair s l q) ps (map (rename_pair s l) qs) (ap (rename s l) e) (waiting_on s l h ps qs w)
waiting_on s l h _ _ (pushed p ps qs w) = pushed p ps (map (rename_pair s l) qs) (waiting_on s l h ps qs w)

-- ---- one round

-- The history takes each value to itself.
abbrev Own : History → List Entry → Type 0
Own h ks = All (Yields (λ v. h v ≡ v)) ks

module _ (h : History) where
  file_waiting : (x : Entry) (o : Option ℕ) (ps qs : List Pair) → h x.1 ≡ x.1 → ((v : ℕ) → o ≡ some v → h v ≡ v) → Waiting h ps qs
      → Waiting h (case_o o (λ _. ps) (λ v. if (eqb v x.1) (λ _. ps) (λ _. (v, x.1) ∷ ps))) (case_o o (λ _. qs) (λ v. (v, x.1) ∷ qs))
  unfolding case_o
  file_waiting x none ps qs a b w = w
  file_waiting x (some v) ps qs a b w =
      if_elim (λ (rs : List Pair). Waiting h rs ((v, x.1) ∷ qs)) _ _ _
      (λ t. left_out (v, x.1) ps qs (eqb→eq v x.1 t) w)
      (λ _. subst (λ (q : Pair). Waiting h ((v, x.1) ∷ ps) (q ∷ qs)) (λ i. (b v refl i, a i)) (pushed (v, x.1) ps qs w))

  refile_waiting : (xs ks : List Entry) (ps qs : List Pair) → Own h xs → Own h ks → Waiting h ps qs
      → ((rust_refile xs (ks, ps)).0 ≡ (refile xs (ks, qs)).0) × Waiting h (rust_refile xs (ks, ps)).1 (refile xs (ks, qs)).1
  unfolding rust_refile rust_file refile file
  refile_waiting [] ks ps qs a b w = (refl, w)
  refile_waiting (x ∷ xs) ks ps qs a b w =
      refile_waiting xs (insert_key x ks) _ _ a.1 (insert_key_all (Yields (λ v. h v ≡ v)) x ks a.0 b)
      (file_waiting x (find x.0 ks) ps qs a.0 (λ v e. find_all (Yields (λ v. h v ≡ v)) x.0 ks v b e) w)

rust_refile_all : (P : Entry → Type 0) (xs : List Entry) (r : Filed) → All P xs → All P r.0 → All P (rust_refile xs r).0
unfolding rust_refile rust_file
rust_refile_all P [] r a b = b
rust_refile_all P (x ∷ xs) r a b = rust_refile_all P xs (rust_file x r) a.1 (insert_key_all P x r.0 a.0 b)

-- A pair for each key that falls away, at most.
rust_length : (xs : List Entry) (r : Filed) → length (rust_refile xs r).0 + length (rust_refile xs r).1 ≤ length xs + (length r.0 + length r.1)
unfolding rust_refile rust_file
rust_length [] r = omega arith
rust_length (x ∷ xs) r =
    let i = rust_length xs (rust_file x r) in
    let j : length (rust_file x r).0 + length (rust_file x r).1 ≤ suc (length r.0 + length r.1) =
    case_o_elim (λ (ps : List Pair). length (insert_key x r.0) + length ps ≤ suc (length r.0 + length r.1)) _ _ _
    (λ e. let q = (insert_key_length x r.0).0 e in omega arith)
    (λ v e. let q = (insert_key_length x r.0).1 v e in
    if_elim (λ (ps : List Pair). length (insert_key x r.0) + length ps ≤ suc (length r.0 + length r.1)) _ _ _ (λ _. omega arith) (λ _. omega arith)) in
    omega arith

renamed_stays : (s l x : ℕ) → rename s l (rename s l x) ≡ rename s l x
renamed_stays s l = rename_has (λ x y. rename s l y ≡ y) s l
    (rename_has (λ y z. y ≡ s → z ≡ s) s l (λ _. refl) (λ _ _ q. q) s refl)
    (λ e d. rename_has (λ y z. y ≡ e → z ≡ e) s l (λ q. absurd (d (sym q))) (λ _ _ q. q) e refl)

-- What the history takes to itself before a round, it takes to itself after it, renamed.
module _ (h : History) (twice : (e : ℕ) → h (h e) ≡ h e) (a b : ℕ) where
  smaller_own : h (min (h a) (h b)) ≡ min (h a) (h b)
  smaller_own = elim (dec_le (h a) (h b)) [
    | yes d ↦ (let u : h a ≡ min (h a) (h b) = omega arith in subst (λ z. h z ≡ z) u (twice a))
    | no d ↦ (let u : h b ≡ min (h a) (h b) = omega arith in subst (λ z. h z ≡ z) u (twice b))
  ]

  abbrev r : ℕ → ℕ
  r = rename (min (h a) (h b)) (max (h a) (h b))

  own_renamed : (v : ℕ) → h v ≡ v → r (h (r v)) ≡ r v
  own_renamed v e = ap r (rename_has (λ x y. h x ≡ x → h y ≡ y) _ _ (λ _. smaller_own) (λ x _ q. q) v e) ∙ renamed_stays _ _ v

-- The round by order makes the same sheet, and the same pairs wait.
record SameRound (s l : ℕ) (m : Model) (h : History) (ps qs : List Pair) : Type 0 where
  sheet : (rust_into s l m ps).0 ≡ (merge_into_by (keys_before 0) (newest_first 0) s l m qs).0
  waits : Waiting (λ e. rename s l (h e)) (rust_into s l m ps).1 (merge_into_by (keys_before 0) (newest_first 0) s l m qs).1
  own : Own (λ e. rename s l (h e)) (rust_into s l m ps).0.keys
  less : length (rust_into s l m ps).0.keys + length (rust_into s l m ps).1 ≤ length m.keys + length ps

round_same : (s l : ℕ) (m : Model) (h : History) (ps qs : List Pair) → Waiting h ps qs → ((v : ℕ) → h v ≡ v → rename s l (h (rename s l v)) ≡ rename s l v)
    → Own h m.keys → SameRound s l m h ps qs
unfolding rust_into merge_into_by rename_entry
round_same s l m h ps qs w f o =
    let xs = map (rename_entry s l) m.keys in
    let hr : History = λ e. rename s l (h e) in
    let ox : Own hr xs = all_map (Yields (λ v. h v ≡ v)) (Yields (λ v. hr v ≡ v)) (rename_entry s l) (λ x e. f x.1 e) m.keys o in
    let c = refile_waiting hr xs [] ps (map (rename_pair s l) qs) ox tt (waiting_on s l h ps qs w) in
    record {
      sheet = λ i. record { created = m.created; keys = c.0 i; facts = refact (map (rename_fact s l) m.facts) []; depths = merge_depths s l m.depths };
      waits = c.1;
      own = rust_refile_all (Yields (λ v. hr v ≡ v)) xs ([], ps) ox tt;
      less = let n = rust_length xs ([], ps) in let z = length-map m.keys (rename_entry s l) in omega arith;
    }

-- ---- all rounds

-- With turns enough for both, the Rust's rounds are those by its order.
rounds_same : (k j : ℕ) (m : Model) (h : History) (ps qs : List Pair) (ws : List ℕ) → Waiting h ps qs → length qs + length m.keys ≤ k → length ps + length m.keys ≤ j
    → ((e : ℕ) → h (h e) ≡ h e) → Own h m.keys → merge_all_by keys_before newest_first k m h qs ≡ (rust_rounds j m h ps ws).0
unfolding rust_rounds merge_all_by
rounds_same zero zero m h _ _ ws no_pair f g t o = refl
rounds_same zero (suc j) m h _ _ ws no_pair f g t o = refl
rounds_same (suc k) zero m h _ _ ws no_pair f g t o = refl
rounds_same (suc k) (suc j) m h _ _ ws no_pair f g t o = refl
rounds_same zero j m h _ _ ws (left_out q ps qs e w) f g t o = absurd (omega arith)
rounds_same (suc k) j m h _ _ ws (left_out q ps qs e w) f g t o =
    if_true (eqb q.0 q.1) _ _ (eq→eqb q.0 q.1 e) ∙ rounds_same k j m h ps qs ws w (omega arith) g t o
rounds_same zero j m h _ _ ws (pushed p ps qs w) f g t o = absurd (omega arith)
rounds_same (suc k) zero m h _ _ ws (pushed p ps qs w) f g t o = absurd (omega arith)
rounds_same (suc k) (suc j) m h _ _ ws (pushed p ps qs w) f g t o =
    let a = h p.0 in
    let b = h p.1 in
    let r = round_same (min a b) (max a b) m h ps qs w (own_renamed h t p.0 p.1) o in
    let u = rust_into (min a b) (max a b) m ps in
    let v = merge_into_by (keys_before k) (newest_first k) (min a b) (max a b) m qs in
    let z = into_length (keys_before k) (newest_first k) same_reorders same_reorders (min a b) (max a b) m qs in
    let y = r.less in
    let hr : History = λ e. rename (min a b) (max a b) (h e) in
    through_if (λ (r : (Model × History) × List ℕ). r.0) (eqb a b) (λ _. rust_rounds j m h ps ws) (λ _. rust_rounds j u.0 hr u.1 (min a b ∷ ws))
    (λ _. merge_all_by keys_before newest_first k m h qs) (λ _. merge_all_by keys_before newest_first k v.0 hr v.1)
    (rounds_same k j m h ps qs ws w (omega arith) (omega arith) t o)
    (subst (λ (n : Model). merge_all_by keys_before newest_first k n hr v.1 ≡ (rust_rounds j u.0 hr u.1 (min a b ∷ ws)).0) r.sheet
    (rounds_same k j u.0 hr u.1 v.1 (min a b ∷ ws) r.waits (let e = ap (λ (n : Model). length n.keys) r.sheet in omega arith) (omega arith)
    (λ e. own_renamed h t p.0 p.1 (h e) (t e)) r.own))

-- Each key is at rest or over an element that stayed.
abbrev Ready : (Model × History) × List ℕ → Type 0
Ready r = All (Waits r.0.0.depths (map r.0.1 r.1)) r.0.0.keys

rounds_ready : (j : ℕ) (m : Model) (h : History) (ps : List Pair) (ws : List ℕ) → ((e : ℕ) → h (h e) ≡ h e) → Ready ((m, h), ws) → Ready (rust_rounds j m h ps ws)
unfolding rust_rounds rust_into
rounds_ready zero m h ps ws t w = w
rounds_ready (suc j) m h [] ws t w = w
rounds_ready (suc j) m h (p ∷ ps) ws t w =
    let a = h p.0 in
    let b = h p.1 in
    let s = min a b in
    let l = max a b in
    if_elim Ready (eqb a b) (λ _. rust_rounds j m h ps ws) (λ _. rust_rounds j (rust_into s l m ps).0 (λ e. rename s l (h e)) (rust_into s l m ps).1 (s ∷ ws))
    (λ _. rounds_ready j m h ps ws t w) (λ d.
    let ne = neqb→ne a b d in
    let to = round_waits s l (λ e. ne (omega arith)) m.depths h (smaller_own h t p.0 p.1) ws in
    rounds_ready j (rust_into s l m ps).0 (λ e. rename s l (h e)) (rust_into s l m ps).1 (s ∷ ws) (λ e. own_renamed h t p.0 p.1 (h e) (t e))
    (rust_refile_all (Waits (merge_depths s l m.depths) (map (λ e. rename s l (h e)) (s ∷ ws))) (map (rename_entry s l) m.keys) ([], ps)
    (all_map (Waits m.depths (map h ws)) (Waits (merge_depths s l m.depths) (map (λ e. rename s l (h e)) (s ∷ ws))) (rename_entry s l) to m.keys w) tt))

-- ---- so it is merging by that order, and on a sheet it is `merge`

-- On every sheet whose depths are at rest.
pub rust_is_by_order : (a b : ℕ) (m : Model) (now : History) → AtRest m.depths m.keys → Living now m → T (known m a) → T (known m b)
    → rust_merge a b m now ≡ merge_by keys_before newest_first a b m now
unfolding rust_merge merge_by lowered
rust_is_by_order a b m now c g ka kb =
    let own : (e : ℕ) → T (known m e) → now e ≡ e = λ e k. yielded_has (λ v. now v ≡ v) m.keys g.own e (known_yielded m e k) in
    let w = subst (λ (q : Pair). Waiting now ((a, b) ∷ []) (q ∷ [])) (λ i. (own a ka i, own b kb i)) (pushed (a, b) [] [] no_pair) in
    let e = rounds_same (suc (length m.keys)) (suc (length m.keys)) m now ((a, b) ∷ []) ((a, b) ∷ []) [] w (omega arith) (omega arith) g.twice g.own in
    let r = rust_rounds (suc (length m.keys)) m now ((a, b) ∷ []) [] in
    let n = r.0.0 in
    let y = rounds_ready (suc (length m.keys)) m now ((a, b) ∷ []) [] g.twice (all_all (RestsAt m.depths) (Waits m.depths []) (λ x q. inl q) m.keys c) in
    let z = length-map r.1 r.0.1 in
    let d = rust_lowers (length r.1 + sum n.depths) n.keys n.depths (map r.0.1 r.1) (omega arith) y in
    (λ i. (record { created = n.created; keys = n.keys; facts = n.facts; depths = d i }, r.0.1)) ∙ (λ i. let q = sym e i in (lowered q.0, q.1))

pub rust_is_merge : (lim : Limits) (d : Names) (m : Model) → Neat lim d m → (a b : ℕ) → T (known m a) → T (known m b) → (now : History) → Living now m
    → rust_merge a b m now ≡ merge a b m now
rust_is_merge lim d m g a b ka kb now l =
    rust_is_by_order a b m now g.linked.rests l ka kb ∙ merge_any_order lim d m g a b ka kb now keys_before newest_first (λ _. same_reorders) (λ _. same_reorders)

-- Of a sheet that passes the test of soundness, and any two of its elements.
pub sound_rust_is_merge : (lim : Limits) (d : Names) (m : Model) → T (sound_model lim d m) → (a b : ℕ) → T (known m a) → T (known m b) → (now : History) → Living now m
    → rust_merge a b m now ≡ merge a b m now
sound_rust_is_merge lim d m t = rust_is_merge lim d m (sound_neat lim d m t)
