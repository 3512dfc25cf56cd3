-- A lone sheet: the tests on its bytes, head, room and body, come to the definition: the bytes are the image of what they say, and
-- that is sound.
use Rattle.std.specs.Prelude.{◌≡◌, refl, Bool, ◌&&◌, drop}
use Rattle.std.proofs.Math.Path.{sym, ap, subst}
use Rattle.std.proofs.Common.{ap₂, ◌∙◌, le→leb}
use Prim.Native.Nat.{ℕ, zero, suc, ◌+◌, ◌-◌, ◌*◌, ◌≤◌, ◌<◌, min}
use Rattle.std.proofs.Math.Decide.{dec_le}
use native.Mathlib.Omega.{arith}
use Rattle.std.proofs.Math.Bool.{true, false}
use mathlib.Core.List.{List, [], ◌∷◌, map}
use Rattle.std.proofs.Math.ListN.{length, get_or, take, length-map, get_or-eq_default}
use Rattle.std.proofs.Math.Dec.{T, leb, ltb, eqb, leb→le, ltb→lt, lt→ltb, eqb→eq}
use Rattle.base.specs.Branch.{if, is_lt}
use Rattle.base.specs.Lists.{All, all, from, equal}
use Rattle.base.specs.BranchLaws.{and_l, and_r, and_i, eq→eqb}
use Rattle.base.specs.ListLaws.{map_map, map_agree, all_any, all_all, all_of, of_all, equal_eq, equal_self}
use Rattle.pools.specs.Count.{from_all, all_from}
use Rattle.rules.specs.Book.{Names}
use Rattle.rules.specs.Reading.{Bytes, num}
use Rattle.rules.specs.Sheet.{key, Fact, rel, Entry, Model, Sheet, key_order, fact_order, known, Limits}
use Rattle.rules.specs.Bound.{depth_over}
use Rattle.rules.specs.Image.{part, parts, key_in, fact_in, sheet_size, sheet_in, sheet_bytes}
use Rattle.rules.specs.Sound.{rising, has_arity, declared_as, key_declared, fact_declared, depth_right, sound_model, sound_sheet}
use Rattle.packing.specs.Pack.{fact_order_lem}
use Rattle.sheetparts.specs.Loops.{up_to, up_end, every_at, at_every}
use Rattle.sheetparts.specs.Tests.{byte_at, zeros, zero_at, named, arg_depth, entry_depth, key_value, key_depth, lowest, Lows, unknown, wanted, table_right, depth_at, depths_right, facts_from, depths_from, head_right, room_right, body_right, sheet_sound, Fair}
use Rattle.sheetcheck.specs.Regions.{part_length, part_at, parts_row}
use Rattle.sheetcheck.specs.Entries.{args_at, key_here, fact_here, args_row, args_length, spare_few}
use Rattle.sheetcheck.specs.Tables.{all_at, at_all, rising_at, at_rising, both_of, of_both, related_of, of_related, related_kind, entry_shape, key_of_entry, Clauses, table_clauses, clauses_table}
use Rattle.sheetcheck.specs.Depths.{same_test, Met, Agree, met_all, met_known, met_depth, depth_by}
use Rattle.sheetcheck.specs.Images.{Shape, shape_image, image_shape, size_is}

up_long : (n : ℕ) → length (up_to 0 n) ≡ n
unfolding up_to from
up_long n = from_long 0 (n - 0) ∙ omega arith
  where
    from_long : (a k : ℕ) → length (from a k) ≡ k
    from_long a zero = refl
    from_long a (suc k) = ap suc (from_long (suc a) k)

-- ---- depths of entries

deep_le : (g : ℕ → ℕ) → ((j : ℕ) → g j < 256) → (is : List ℕ) → depth_over (map g is) ≤ 256
unfolding depth_over
deep_le g h [] = omega arith
deep_le g h (j ∷ is) = omega (arith, h j, deep_le g h is)

module _ (lim : Limits) (fair : Fair lim) (d : Names) (s : Bytes) (len : length s ≡ sheet_size lim) (bytes : (i : ℕ) → byte_at s i < 256) where
  abbrev sheet : Sheet
  sheet = sheet_in lim s

  abbrev m : Model
  m = sheet.model

  abbrev key_place : ℕ → ℕ
  key_place i = 16 + 8 * i

  abbrev fact_place : ℕ → ℕ
  fact_place i = facts_from lim + 8 * i

  abbrev key_at : ℕ → Entry
  key_at i = (key_of_entry s (key_place i), byte_at s (key_place i + 7))

  abbrev fact_at : ℕ → Fact
  fact_at i = rel (byte_at s (fact_place i + 1)) (args_at s (fact_place i))

  -- ---- what is read, given the shape

  module _ (g : Shape lim s) where
    sizes : (16 + 8 * lim.keys ≡ facts_from lim) × ((facts_from lim + 8 * lim.facts ≡ depths_from lim) × (depths_from lim + lim.elements ≡ length s))
    sizes = size_is lim fair s len

    below : (n : ℕ) → All (λ i. i < n) (up_to 0 n)
    unfolding up_to
    below n = from_all (λ i. i < n) 0 (n - 0) (λ j _ h. omega arith)

    key_room_lem : (i : ℕ) → i < num s 6 → key_place i + 8 ≤ length s
    key_room_lem i h = omega (arith, sizes, g.keys)

    fact_room_lem : (i : ℕ) → i < num s 8 → fact_place i + 8 ≤ length s
    fact_room_lem i h = omega (arith, sizes, g.facts)

    keys_are_lem : m.keys ≡ map key_at (up_to 0 (num s 6))
    unfolding sheet_in
    keys_are_lem =
        let k : min (num s 6) lim.keys ≡ num s 6 = omega (arith, g.keys) in
        ap (λ n. map key_in (parts 8 n (drop 16 s))) k ∙ ap (map key_in) (parts_row 8 (num s 6) s 16) ∙ map_map key_in (λ j. part (16 + 8 * j) 8 s) (up_to 0 (num s 6))
        ∙ map_agree (λ i. i < num s 6) (λ j. key_in (part (16 + 8 * j) 8 s)) key_at (λ i h. key_here s (key_place i) (key_room_lem i h)) (up_to 0 (num s 6)) (below (num s 6))

    facts_are_lem : m.facts ≡ map fact_at (up_to 0 (num s 8))
    unfolding sheet_in facts_from
    facts_are_lem =
        let k : min (num s 8) lim.facts ≡ num s 8 = omega (arith, g.facts) in
        ap (λ n. map fact_in (parts 8 n (drop (facts_from lim) s))) k ∙ ap (map fact_in) (parts_row 8 (num s 8) s (facts_from lim)) ∙ map_map fact_in (λ j. part (facts_from lim + 8 * j) 8 s) (up_to 0 (num s 8))
        ∙ map_agree (λ i. i < num s 8) (λ j. fact_in (part (facts_from lim + 8 * j) 8 s)) fact_at (λ i h. fact_here s (fact_place i) (fact_room_lem i h)) (up_to 0 (num s 8)) (below (num s 8))

    depths_are : m.depths ≡ part (depths_from lim) (num s 4) s
    unfolding sheet_in part depths_from
    depths_are = let c : min (num s 4) lim.elements ≡ num s 4 = omega (arith, g.created) in ap (λ n. take n (drop (depths_from lim) s)) c

    depths_long : length m.depths ≡ num s 4
    depths_long = ap length depths_are ∙ part_length (depths_from lim) (num s 4) s (omega (arith, sizes, g.created))

    -- A depth is read at its place; past the created elements there are zeros, and past those the end.
    depth_at_lem : (a : ℕ) → get_or m.depths a 0 ≡ byte_at s (depths_from lim + a)
    unfolding zeros zero_at
    depth_at_lem a = elim (dec_le (suc a) (num s 4)) [
      | yes h ↦ ap (λ l. get_or l a 0) depths_are ∙ part_at (depths_from lim) (num s 4) s a h
      | no h ↦ get_or-eq_default m.depths 0 (omega (arith, depths_long)) ∙ sym (elim (dec_le (suc a) lim.elements) [
        | yes l ↦ (let e : depths_from lim + num s 4 + (a - num s 4) ≡ depths_from lim + a = omega arith in
            ap (byte_at s) (sym e) ∙ eqb→eq _ 0 (every_at (zero_at s (depths_from lim + num s 4)) (lim.elements - num s 4) g.depth_room (a - num s 4) (omega arith)))
        | no l ↦ get_or-eq_default s 0 (omega (arith, sizes))
      ])
    ]

    -- ---- least depths

    key_depth_lem : (i : ℕ) → i < num s 6 → depth_by m.depths (key_at i) ≡ key_depth s (depths_from lim) 16 i
    unfolding key_depth entry_depth arg_depth
    key_depth_lem i h =
        let p = key_place i in
        let f = (spare_few s p (g.key_spares i h)).0 in
        ap (λ l. depth_over (map (λ a. get_or m.depths a 0) l)) (args_row s p (key_room_lem i h) f)
        ∙ ap depth_over (map_map (λ a. get_or m.depths a 0) (λ j. byte_at s (p + 3 + j)) (up_to 0 (byte_at s (p + 2)))
        ∙ map_agree (λ _. Unit {0}) _ (arg_depth s (depths_from lim) p) (λ j _. depth_at_lem (byte_at s (p + 3 + j))) (up_to 0 (byte_at s (p + 2))) (all_any (λ _. Unit {0}) (λ _. tt) (up_to 0 (byte_at s (p + 2)))))

    agrees : (i : ℕ) → i < num s 6 → Agree m.depths key_at (key_value s 16) (key_depth s (depths_from lim) 16) i
    unfolding key_value key_depth entry_depth arg_depth
    agrees i h = (refl, (key_depth_lem i h, deep_le (arg_depth s (depths_from lim) (key_place i)) (λ j. bytes (depths_from lim + byte_at s (key_place i + 3 + j))) (up_to 0 (byte_at s (key_place i + 2)))))

    module _ (t : List ℕ) (lows : Lows s (depths_from lim) 16 0 (num s 6) t) where
      met_at : (e : ℕ) → e < 256 → Met m.depths m.keys e (get_or t e 0)
      met_at e h =
          subst (λ ks. Met m.depths ks e (get_or t e 0)) (sym keys_are_lem) (subst (Met m.depths (map key_at (up_to 0 (num s 6))) e) (sym (lows e h))
          (met_all m.depths key_at (key_value s 16) (key_depth s (depths_from lim) 16) (up_to 0 (num s 6))
          (all_all (λ i. i < num s 6) (Agree m.depths key_at (key_value s 16) (key_depth s (depths_from lim) 16)) agrees (up_to 0 (num s 6)) (below (num s 6))) e))

      knows : (e : ℕ) → e < 256 → ltb (get_or t e 0) unknown ≡ known m e
      knows e h = met_known m e (get_or t e 0) (met_at e h)

      depth_test : (e : ℕ) → e < 256 → depth_at t s (depths_from lim) e ≡ depth_right m e
      unfolding depth_at
      depth_test e h = ap (λ a. eqb a (wanted (get_or t e 0))) (sym (depth_at_lem e)) ∙ met_depth m e (get_or t e 0) (met_at e h)

      depths_hold : T (depths_right t s (depths_from lim) (num s 4)) → T (all (depth_right m) (from 0 (num s 4)))
      unfolding depths_right
      depths_hold u = of_all (depth_right m) (from 0 (num s 4)) (from_all (λ e. T (depth_right m e)) 0 (num s 4) (λ e _ h.
          subst T (depth_test e (omega (arith, g.created, fair.elements))) (every_at (depth_at t s (depths_from lim)) (num s 4) u e (omega arith))))

      hold_depths : T (all (depth_right m) (from 0 (num s 4))) → T (depths_right t s (depths_from lim) (num s 4))
      unfolding depths_right
      hold_depths u = at_every (depth_at t s (depths_from lim)) (num s 4) (λ e h. subst T (sym (depth_test e (omega (arith, g.created, fair.elements))))
          (all_from (λ e. T (depth_right m e)) 0 (num s 4) (all_of (depth_right m) (from 0 (num s 4)) u) e (omega arith) (omega arith)))

    -- ---- keys and facts, clause by clause

    abbrev keys_rise : Bool
    keys_rise = rising (λ (x y : Entry). key_order x.0 y.0) m.keys

    abbrev KeyClauses : Type 0
    KeyClauses = Clauses d false (num s 4) (known m) s 16 (num s 6)

    abbrev FactClauses : Type 0
    FactClauses = Clauses d true 1 (known m) s (facts_from lim) (num s 8)

    key_args_lem : (i : ℕ) → i < num s 6 → length (args_at s (key_place i)) ≡ byte_at s (key_place i + 2)
    key_args_lem i h = args_length s (key_place i) (key_room_lem i h) (spare_few s (key_place i) (g.key_spares i h)).0

    fact_args_lem : (i : ℕ) → i < num s 8 → length (args_at s (fact_place i)) ≡ byte_at s (fact_place i + 2)
    fact_args_lem i h = args_length s (fact_place i) (fact_room_lem i h) (spare_few s (fact_place i) (g.fact_spares i h)).0

    fact_key_lem : (i : ℕ) → i < num s 8 → key_of_entry s (fact_place i) ≡ key 0 (byte_at s (fact_place i + 1)) (args_at s (fact_place i))
    fact_key_lem i h = ap (λ k. key k (byte_at s (fact_place i + 1)) (args_at s (fact_place i))) (g.fact_kinds i h)

    fact_ordered : (i : ℕ) → suc i < num s 8 → fact_order (fact_at i) (fact_at (suc i)) ≡ key_order (key_of_entry s (fact_place i)) (key_of_entry s (fact_place (suc i)))
    fact_ordered i h = fact_order_lem (fact_at i) (fact_at (suc i)) ∙ ap₂ key_order (sym (fact_key_lem i (omega arith))) (sym (fact_key_lem (suc i) h))

    keys_hold : KeyClauses → (T keys_rise × T (all (key_declared d) m.keys)) × (T (all (λ (x : Entry). all (known m) x.0.args) m.keys) × T (all (λ (x : Entry). ltb x.1 (num s 4)) m.keys))
    unfolding key_declared named if
    keys_hold c = (
      (
        subst (λ l. T (rising (λ (x y : Entry). key_order x.0 y.0) l)) (sym keys_are_lem) (at_rising (λ (x y : Entry). key_order x.0 y.0) key_at (num s 6) c.rise),
        subst (λ l. T (all (key_declared d) l)) (sym keys_are_lem) (at_all (key_declared d) key_at (num s 6) (λ i h. subst (λ n. T (declared_as d (byte_at s (key_place i)) (byte_at s (key_place i + 1)) n)) (sym (key_args_lem i h)) (c.symbols i h))),
      ),
      (
        subst (λ l. T (all (λ (x : Entry). all (known m) x.0.args) l)) (sym keys_are_lem) (at_all (λ (x : Entry). all (known m) x.0.args) key_at (num s 6) c.knowns),
        subst (λ l. T (all (λ (x : Entry). ltb x.1 (num s 4)) l)) (sym keys_are_lem) (at_all (λ (x : Entry). ltb x.1 (num s 4)) key_at (num s 6) (λ i h. lt→ltb (byte_at s (key_place i + 7)) (num s 4) (c.values i h))),
      ),
    )

    hold_keys : T keys_rise → T (all (key_declared d) m.keys) → T (all (λ (x : Entry). all (known m) x.0.args) m.keys) → T (all (λ (x : Entry). ltb x.1 (num s 4)) m.keys) → KeyClauses
    unfolding key_declared named if
    hold_keys r a k v = record {
      symbols = λ i h. subst (λ n. T (declared_as d (byte_at s (key_place i)) (byte_at s (key_place i + 1)) n)) (key_args_lem i h) (all_at (key_declared d) key_at (num s 6) (subst (λ l. T (all (key_declared d) l)) keys_are_lem a) i h);
      spares = g.key_spares;
      values = λ i h. ltb→lt (byte_at s (key_place i + 7)) (num s 4) (all_at (λ (x : Entry). ltb x.1 (num s 4)) key_at (num s 6) (subst (λ l. T (all (λ (x : Entry). ltb x.1 (num s 4)) l)) keys_are_lem v) i h);
      knowns = all_at (λ (x : Entry). all (known m) x.0.args) key_at (num s 6) (subst (λ l. T (all (λ (x : Entry). all (known m) x.0.args) l)) keys_are_lem k);
      rise = rising_at (λ (x y : Entry). key_order x.0 y.0) key_at (num s 6) (subst (λ l. T (rising (λ (x y : Entry). key_order x.0 y.0) l)) keys_are_lem r);
    }

    facts_hold : FactClauses → (T (rising fact_order m.facts) × T (all (fact_declared d) m.facts)) × T (all (λ (f : Fact). all (known m) f.args) m.facts)
    unfolding fact_declared
    facts_hold c = (
      (
        subst (λ l. T (rising fact_order l)) (sym facts_are_lem) (at_rising fact_order fact_at (num s 8) (λ i h. subst (λ o. T (is_lt o)) (sym (fact_ordered i h)) (c.rise i h))),
        subst (λ l. T (all (fact_declared d) l)) (sym facts_are_lem) (at_all (fact_declared d) fact_at (num s 8) (λ i h. subst (λ n. T (has_arity d.relations (byte_at s (fact_place i + 1)) n)) (sym (fact_args_lem i h)) (related_of d _ _ _ (c.symbols i h)))),
      ),
      subst (λ l. T (all (λ (f : Fact). all (known m) f.args) l)) (sym facts_are_lem) (at_all (λ (f : Fact). all (known m) f.args) fact_at (num s 8) c.knowns),
    )

    hold_facts : T (rising fact_order m.facts) → T (all (fact_declared d) m.facts) → T (all (λ (f : Fact). all (known m) f.args) m.facts) → FactClauses
    unfolding fact_declared
    hold_facts r a k = record {
      symbols = λ i h. of_related d _ _ _ (g.fact_kinds i h) (subst (λ n. T (has_arity d.relations (byte_at s (fact_place i + 1)) n)) (fact_args_lem i h) (all_at (fact_declared d) fact_at (num s 8) (subst (λ l. T (all (fact_declared d) l)) facts_are_lem a) i h));
      spares = g.fact_spares;
      values = λ i h. (let z = g.fact_values i h in omega arith);
      knowns = all_at (λ (f : Fact). all (known m) f.args) fact_at (num s 8) (subst (λ l. T (all (λ (f : Fact). all (known m) f.args) l)) facts_are_lem k);
      rise = λ i h. subst (λ o. T (is_lt o)) (fact_ordered i h) (rising_at fact_order fact_at (num s 8) (subst (λ l. T (rising fact_order l)) facts_are_lem r) i h);
    }

    -- ---- the whole

    model_sound : (t : List ℕ) → Lows s (depths_from lim) 16 0 (num s 6) t → T (body_right lim d t s) → T (sound_model lim d m)
    unfolding body_right sound_model depths_right sheet_in
    model_sound t lows u =
        let a = both_of (table_right d false (num s 4) t s 16 (num s 6)) _ u in
        let b = both_of (table_right d true 1 t s (facts_from lim) (num s 8)) _ a.1 in
        let ks = keys_hold (table_clauses d false (num s 4) (known m) t s 16 (num s 6) (omega (arith, sizes, g.keys)) bytes (knows t lows) a.0) in
        let fs = facts_hold (table_clauses d true 1 (known m) t s (facts_from lim) (num s 8) (omega (arith, sizes, g.facts)) bytes (knows t lows) b.0) in
        let nk : length m.keys ≤ lim.keys = omega (arith, ap length keys_are_lem, length-map (up_to 0 (num s 6)) key_at, up_long (num s 6), g.keys) in
        let nf : length m.facts ≤ lim.facts = omega (arith, ap length facts_are_lem, length-map (up_to 0 (num s 8)) fact_at, up_long (num s 8), g.facts) in
        let ds : T (all (depth_right m) (from 0 (num s 4))) = depths_hold t lows b.1 in
        and_i (leb (num s 4) lim.elements && (leb (length m.keys) lim.keys && leb (length m.facts) lim.facts)) _
        (and_i (leb (num s 4) lim.elements) _ (le→leb (num s 4) lim.elements g.created)
        (and_i (leb (length m.keys) lim.keys) _ (le→leb (length m.keys) lim.keys nk) (le→leb (length m.facts) lim.facts nf)))
        (and_i (keys_rise && rising fact_order m.facts) _ (and_i keys_rise _ ks.0.0 fs.0.0)
        (and_i (all (key_declared d) m.keys && all (fact_declared d) m.facts) _ (and_i (all (key_declared d) m.keys) _ ks.0.1 fs.0.1)
        (and_i (all (λ (x : Entry). all (known m) x.0.args) m.keys && all (λ (f : Fact). all (known m) f.args) m.facts) _
        (and_i (all (λ (x : Entry). all (known m) x.0.args) m.keys) _ ks.1.0 fs.1)
        (and_i (all (λ (x : Entry). ltb x.1 (num s 4)) m.keys) _ ks.1.1
        (and_i (eqb (length m.depths) (num s 4)) _ (eq→eqb (length m.depths) (num s 4) depths_long) ds)))))

    sound_model_lem : (t : List ℕ) → Lows s (depths_from lim) 16 0 (num s 6) t → T (sound_model lim d m) → T (body_right lim d t s)
    unfolding body_right sound_model depths_right sheet_in
    sound_model_lem t lows u =
        let b = and_r (leb (num s 4) lim.elements && (leb (length m.keys) lim.keys && leb (length m.facts) lim.facts)) _ u in
        let r = and_l (keys_rise && rising fact_order m.facts) _ b in
        let c = and_r (keys_rise && rising fact_order m.facts) _ b in
        let a = and_l (all (key_declared d) m.keys && all (fact_declared d) m.facts) _ c in
        let e = and_r (all (key_declared d) m.keys && all (fact_declared d) m.facts) _ c in
        let k = and_l (all (λ (x : Entry). all (known m) x.0.args) m.keys && all (λ (f : Fact). all (known m) f.args) m.facts) _ e in
        let v = and_r (all (λ (x : Entry). all (known m) x.0.args) m.keys && all (λ (f : Fact). all (known m) f.args) m.facts) _ e in
        let w = and_r (all (λ (x : Entry). ltb x.1 (num s 4)) m.keys) _ v in
        let ks = hold_keys (and_l keys_rise _ r) (and_l (all (key_declared d) m.keys) _ a) (and_l (all (λ (x : Entry). all (known m) x.0.args) m.keys) _ k) (and_l (all (λ (x : Entry). ltb x.1 (num s 4)) m.keys) _ v) in
        let fs = hold_facts (and_r keys_rise _ r) (and_r (all (key_declared d) m.keys) _ a) (and_r (all (λ (x : Entry). all (known m) x.0.args) m.keys) _ k) in
        of_both (table_right d false (num s 4) t s 16 (num s 6)) _ (clauses_table d false (num s 4) (known m) t s 16 (num s 6) (omega (arith, sizes, g.keys)) bytes (knows t lows) ks)
        (of_both (table_right d true 1 t s (facts_from lim) (num s 8)) _ (clauses_table d true 1 (known m) t s (facts_from lim) (num s 8) (omega (arith, sizes, g.facts)) bytes (knows t lows) fs)
        (hold_depths t lows (and_r (eqb (length m.depths) (num s 4)) _ w)))

  -- ---- head and room

  pub head_says : (places : ℕ) → T (head_right lim places s) → ((num s 4 ≤ lim.elements) × ((num s 6 ≤ lim.keys) × (num s 8 ≤ lim.facts))) × ((num s 2 < places) × T (zeros s 10 6))
  unfolding head_right
  head_says places t =
      let a = both_of (leb (num s 4) lim.elements) _ t in
      let b = both_of (leb (num s 6) lim.keys) _ a.1 in
      let c = both_of (leb (num s 8) lim.facts) _ b.1 in
      let e = both_of (ltb (num s 2) places) (zeros s 10 6) c.1 in
      ((leb→le (num s 4) lim.elements a.0, (leb→le (num s 6) lim.keys b.0, leb→le (num s 8) lim.facts c.0)), (ltb→lt (num s 2) places e.0, e.1))

  says_head : (places : ℕ) → Shape lim s → num s 2 < places → T (head_right lim places s)
  unfolding head_right
  says_head places g h =
      of_both (leb (num s 4) lim.elements) _ (le→leb (num s 4) lim.elements g.created) (of_both (leb (num s 6) lim.keys) _ (le→leb (num s 6) lim.keys g.keys)
      (of_both (leb (num s 8) lim.facts) _ (le→leb (num s 8) lim.facts g.facts) (of_both (ltb (num s 2) places) (zeros s 10 6) (lt→ltb (num s 2) places h) g.head)))

  says_room : Shape lim s → T (room_right lim s)
  unfolding room_right
  says_room g = of_both _ _ g.key_room (of_both _ (zeros s (depths_from lim + num s 4) (lim.elements - num s 4)) g.fact_room g.depth_room)

  -- What passes the tests is in shape.
  tests_shape : (places : ℕ) (t : List ℕ) → T (head_right lim places s) → T (room_right lim s) → T (body_right lim d t s) → Shape lim s
  unfolding room_right body_right
  tests_shape places t h r u =
      let hd = head_says places h in
      let r1 = both_of (zeros s (16 + 8 * num s 6) (8 * lim.keys - 8 * num s 6)) _ r in
      let r2 = both_of (zeros s (facts_from lim + 8 * num s 8) (8 * lim.facts - 8 * num s 8)) _ r1.1 in
      let a = both_of (table_right d false (num s 4) t s 16 (num s 6)) _ u in
      let b = both_of (table_right d true 1 t s (facts_from lim) (num s 8)) _ a.1 in
      let ke = entry_shape d false (num s 4) t s 16 (num s 6) a.0 in
      let fe = entry_shape d true 1 t s (facts_from lim) (num s 8) b.0 in
      record {
        created = hd.0.0;
        keys = hd.0.1.0;
        facts = hd.0.1.1;
        head = hd.1.1;
        key_room = r1.0;
        fact_room = r2.0;
        depth_room = r2.1;
        key_spares = λ i l. (ke i l).1.0;
        fact_spares = λ i l. (fe i l).1.0;
        fact_kinds = λ i l. related_kind d _ _ _ (fe i l).0;
        fact_values = λ i l. (let z = (fe i l).1.1 in omega arith);
      }

  -- ---- the definition, both ways

  pub sound_shape : (places : ℕ) → T (sheet_sound lim d places s) → Shape lim s × (T (sound_model lim d m) × (num s 2 < places))
  unfolding sheet_sound sound_sheet sound_model sheet_in
  sound_shape places u =
      let e = equal_eq (sheet_bytes lim sheet) s (and_l (equal (sheet_bytes lim sheet) s) _ u) in
      let v = and_r (equal (sheet_bytes lim sheet) s) (sound_model lim d m && ltb (num s 2) places) u in
      let w = and_l (sound_model lim d m) (ltb (num s 2) places) v in
      let c = leb→le (num s 4) lim.elements (and_l (leb (num s 4) lim.elements) _ (and_l (leb (num s 4) lim.elements && (leb (length m.keys) lim.keys && leb (length m.facts) lim.facts)) _ w)) in
      (image_shape lim fair s len bytes c e, (w, ltb→lt (num s 2) places (and_r (sound_model lim d m) (ltb (num s 2) places) v)))

  pub shape_sound : (places : ℕ) → Shape lim s → T (sound_model lim d m) → num s 2 < places → T (sheet_sound lim d places s)
  unfolding sheet_sound sound_sheet sheet_in
  shape_sound places g w h =
      and_i (equal (sheet_bytes lim sheet) s) _ (subst (λ l. T (equal l s)) (sym (shape_image lim fair s len bytes g)) (equal_self s))
      (and_i (sound_model lim d m) (ltb (num s 2) places) w (lt→ltb (num s 2) places h))

  -- ---- the ways out

  module _ (places : ℕ) where
    pub head_out : head_right lim places s ≡ false → false ≡ sheet_sound lim d places s
    head_out e = same_test false (sheet_sound lim d places s) (λ q. absurd q) (λ u. let g = sound_shape places u in subst T e (says_head places g.0 g.1.1))

    pub room_out : room_right lim s ≡ false → false ≡ sheet_sound lim d places s
    room_out e = same_test false (sheet_sound lim d places s) (λ q. absurd q) (λ u. let g = sound_shape places u in subst T e (says_room g.0))

    pub body_out : (t : List ℕ) → head_right lim places s ≡ true → room_right lim s ≡ true → Lows s (depths_from lim) 16 0 (num s 6) t → body_right lim d t s ≡ sheet_sound lim d places s
    body_out t h r lows = same_test (body_right lim d t s) (sheet_sound lim d places s)
        (λ u. let g = tests_shape places t (subst T (sym h) tt) (subst T (sym r) tt) u in shape_sound places g (model_sound g t lows u) (head_says places (subst T (sym h) tt)).1.0)
        (λ u. let g = sound_shape places u in sound_model_lem g.0 t lows g.1.0)

    pub head_counts : head_right lim places s ≡ true → (num s 4 ≤ lim.elements) × ((num s 6 ≤ lim.keys) × (num s 8 ≤ lim.facts))
    head_counts e = (head_says places (subst T (sym e) tt)).0

-- Where no key has been looked at, every element is unknown.
pub lows_none : (s : Bytes) (d at n : ℕ) (t : List ℕ) → ((e : ℕ) → e < 256 → get_or t e 0 ≡ 512) → Lows s d at n n t
unfolding lowest unknown
lows_none s d at n t f e h = f e h ∙ sym (ap (λ l. lowest (key_value s at) (key_depth s d at) l e) (up_end n n (omega arith)))
