-- The table of steps: the P corners of document 01, and behind them a corner for every believable error that we could think of,
-- each under the name of what it shows. Every row is a run on a pool, and `corners` says that all come out as the table has them,
-- every list and every slot included. The rows about limits, lists and runs are in PoolRows. The table of bytes is ByteCorners.
use Rattle.std.specs.Prelude.{◌≡◌, refl, List, [], ◌∷◌, map}
use Rattle.base.specs.Lists.{flat}
use Rattle.rules.specs.Book.{Sequent, fact, same, cons, nil}
use Rattle.rules.specs.Sheet.{Model, rel}
use Rattle.rules.specs.Bound.{domain_size, depth_pure, depth_reuse}
use Rattle.rules.specs.Cases.{Case, did, a, b, f, g, h, k, x, y, z, P, R, S, Q, N, constant, function, some_of, plain, exists, rule, always, either, model, a↦, b↦, c↦, f↦, g↦, h↦, k↦, constant↦, function↦, is_p, is_r, is_s, is_q, is_n, nothing, just_a, a_and_b, a_is_b, sheet, unused, pool, three_slots, ran, step_on_lem, under, freely, completes, fails, opens, bounds}
use Rattle.rules.specs.PoolRows.{limitations, lists_and_slots, runs}

-- ---- the P corners of document 01, in its order and its words

-- [] gives R(f(a)), and the sheet that it leaves.
abbrev rfa : Sequent
rfa = always (R (f a) ∷ [])

abbrev a_fa : Model
a_fa = model 2 (a↦ 0 ∷ f↦ 0 1 ∷ []) (is_r 1 ∷ []) (0 ∷ 1 ∷ [])

-- R(x), S(y) gives x = y, P(y).
abbrev joins : Sequent
joins = rule 2 (R x ∷ S y ∷ []) (plain (same x y ∷ P y ∷ []) ∷ [])

abbrev pub documents : List Case
documents =
    -- "One rule, body and head empty: v = 1 on the empty model completes; v = 0 fails."
    freely (rule 1 [] []) nothing (completes nothing)
    ∷ freely (rule 0 [] []) nothing fails
    -- "'v = v', empty model: DomainSize(1) bounded, DomainSize(2) open."
    ∷ under (domain_size 1) (rule 0 [] (exists [] ∷ [])) nothing (bounds nothing)
    ∷ under (domain_size 2) (rule 0 [] (exists [] ∷ [])) nothing (opens (model 1 (constant↦ 0 0 ∷ []) [] (0 ∷ [])))
    -- "R(f(a)), empty model: DomainSize(1) open with two elements; Depth 0 bounded, either mode; Depth 1 open."
    ∷ under (domain_size 1) rfa nothing (opens a_fa)
    ∷ under (depth_pure 0) rfa nothing (bounds nothing)
    ∷ under (depth_reuse 0) rfa nothing (bounds nothing)
    ∷ under (depth_pure 1) rfa nothing (opens a_fa)
    ∷ under (depth_reuse 1) rfa nothing (opens a_fa)
    -- "a->0, f(0)->1, a = f(a): both keys ->0, depth 0, next element 2."
    ∷ freely (always (same a (f a) ∷ [])) (model 2 (a↦ 0 ∷ f↦ 0 1 ∷ []) [] (0 ∷ 1 ∷ [])) (opens (model 2 (a↦ 0 ∷ f↦ 0 0 ∷ []) [] (0 ∷ 0 ∷ [])))
    -- "a->0, b->1, f(0)->2, f(1)->3, P(3), a = b: a, b ->0, f(0)->2, P(2), domain 0, 2."
    ∷ freely (always (same a b ∷ [])) (model 4 (a↦ 0 ∷ b↦ 1 ∷ f↦ 0 2 ∷ f↦ 1 3 ∷ []) (is_p 3 ∷ []) (0 ∷ 0 ∷ 1 ∷ 1 ∷ []))
    (opens (model 4 (a↦ 0 ∷ b↦ 0 ∷ f↦ 0 2 ∷ []) (is_p 2 ∷ []) (0 ∷ 0 ∷ 1 ∷ 0 ∷ [])))
    -- "a->0, b->1, R(0), S(1); R(x), S(y) gives x = y, P(y): DomainSize(1) bounded without P; DomainSize(2) open with P(0)."
    ∷ under (domain_size 1) joins (a_and_b (is_r 0 ∷ is_s 1 ∷ [])) (bounds (a_is_b (is_r 0 ∷ is_s 0 ∷ [])))
    ∷ under (domain_size 2) joins (a_and_b (is_r 0 ∷ is_s 1 ∷ [])) (opens (a_is_b (is_p 0 ∷ is_r 0 ∷ is_s 0 ∷ [])))
    -- "P(a) held; [] gives some x P(x): still fires."
    ∷ freely (rule 0 [] (exists (P x ∷ []) ∷ [])) (just_a (is_p 0 ∷ [])) (opens (model 2 (a↦ 0 ∷ constant↦ 0 1 ∷ []) (is_p 0 ∷ is_p 1 ∷ []) (0 ∷ 0 ∷ [])))
    -- "Two open children 1, 2: FIFO next 1, LIFO next 2." They stand in slots 0, the base's own, and 1.
    ∷ step_on_lem (pool 0 0 1 (0 ∷ []) [] [] (unused ∷ unused ∷ unused ∷ [])) (either ∷ [])
    (ran 0 1 (pool 0 0 3 (0 ∷ 1 ∷ []) [] [] (sheet 1 0 (just_a (is_p 0 ∷ [])) ∷ sheet 2 0 (just_a (is_r 0 ∷ [])) ∷ unused ∷ [])))
    ∷ step_on_lem (pool 1 0 1 (0 ∷ []) [] [] (unused ∷ unused ∷ unused ∷ [])) (either ∷ [])
    (ran 0 1 (pool 1 0 3 (1 ∷ 0 ∷ []) [] [] (sheet 1 0 (just_a (is_p 0 ∷ [])) ∷ sheet 2 0 (just_a (is_r 0 ∷ [])) ∷ unused ∷ [])))
    ∷ []

-- ---- firing

-- All literals of a disjunct must be observed: with R(a) held, [] gives R(a), P(a) fires.
abbrev pub every_literal_counts : Case
every_literal_counts = freely (always (R a ∷ P a ∷ [])) (just_a (is_r 0 ∷ [])) (opens (just_a (is_p 0 ∷ is_r 0 ∷ [])))

-- One disjunct observed is enough: with R(a) held, [] gives P(a) or R(a) does not fire.
abbrev pub one_disjunct_is_enough : Case
one_disjunct_is_enough = freely either (just_a (is_r 0 ∷ [])) (completes (just_a (is_r 0 ∷ [])))

-- All literals of a body must be observed: with R(a) held, R(x), P(x) gives S(x) does not fire, nor with the two in the other order.
abbrev pub every_body_literal_counts : Case
every_body_literal_counts = step_on_lem (three_slots 1 (0 ∷ []) [] [] (sheet 0 0 (just_a (is_r 0 ∷ [])) ∷ []))
    (rule 1 (R x ∷ P x ∷ []) (plain (S x ∷ []) ∷ []) ∷ rule 1 (P x ∷ R x ∷ []) (plain (S x ∷ []) ∷ []) ∷ []) (completes (just_a (is_r 0 ∷ [])))

-- An identity is observed if both sides have the same element; two elements are not the same, and no element is not even itself.
abbrev pub two_are_not_one : Case
two_are_not_one = freely (rule 0 (same a b ∷ []) []) (a_and_b []) (completes (a_and_b []))

abbrev pub one_is_one : Case
one_is_one = freely (rule 0 (same a b ∷ []) []) (a_is_b []) fails

abbrev pub unknown_is_not_itself : Case
unknown_is_not_itself = freely (rule 0 (same (f a) (f a) ∷ []) []) (just_a []) (completes (just_a []))

-- Arguments are terms again: with f(f(a)) an element of P, P(f(f(a))) is observed.
abbrev pub arguments_are_terms : Case
arguments_are_terms = freely (rule 0 (P (f (f a)) ∷ []) []) (model 3 (a↦ 0 ∷ f↦ 0 1 ∷ f↦ 1 2 ∷ []) (is_p 2 ∷ []) (0 ∷ 1 ∷ 2 ∷ [])) fails

-- In their order: h(a, b) is looked up at (0, 1).
abbrev pub arguments_in_order : Case
arguments_in_order = freely (rule 0 (P (h a b) ∷ []) []) (model 3 (a↦ 0 ∷ b↦ 1 ∷ h↦ 0 1 2 ∷ []) (is_p 2 ∷ []) (0 ∷ 0 ∷ 1 ∷ [])) fails

-- A function without arguments is no constant: its key is an application's.
abbrev pub no_arguments_looked_up : Case
no_arguments_looked_up = freely (rule 0 (P k ∷ []) []) (model 1 (k↦ 0 ∷ []) (is_p 0 ∷ []) (0 ∷ [])) fails

-- A fact without terms is observed if it is held.
abbrev pub no_terms_observed : Case
no_terms_observed = freely (rule 0 (N ∷ []) []) (model 0 [] (is_n ∷ []) []) fails

-- A disjunct with neither literals nor existentials is always observed, so its sequent never fires.
abbrev pub nothing_to_observe : Case
nothing_to_observe = freely (rule 0 [] (plain [] ∷ [])) nothing (completes nothing)

-- Of two sequents that could fire the first does.
abbrev pub first_sequent_first : Case
first_sequent_first = step_on_lem (three_slots 1 (0 ∷ []) [] [] []) (always (P a ∷ []) ∷ always (R b ∷ []) ∷ []) (opens (just_a (is_p 0 ∷ [])))

-- Neither one with an empty body nor one with an empty head goes before it.
abbrev pub no_sequent_goes_before : Case
no_sequent_goes_before = step_on_lem (three_slots 1 (0 ∷ []) [] [] (sheet 0 0 (just_a (is_p 0 ∷ [])) ∷ []))
    (rule 1 (P x ∷ []) (plain (R x ∷ []) ∷ []) ∷ always (S a ∷ []) ∷ rule 0 [] [] ∷ []) (opens (just_a (is_p 0 ∷ is_r 0 ∷ [])))

-- The domain is in order of first appearance over the keys, not of last nor by number: of a->1, b->0, c->1 the choice x = 1 comes first.
abbrev pub domain_by_first_appearance : Case
domain_by_first_appearance = freely (rule 1 (P x ∷ []) (plain (R x ∷ []) ∷ [])) (model 2 (a↦ 1 ∷ b↦ 0 ∷ c↦ 1 ∷ []) (is_p 0 ∷ is_p 1 ∷ []) (0 ∷ 0 ∷ []))
    (opens (model 2 (a↦ 1 ∷ b↦ 0 ∷ c↦ 1 ∷ []) (is_p 0 ∷ is_p 1 ∷ is_r 1 ∷ []) (0 ∷ 0 ∷ [])))

-- Where the first choice does not fire a later one may.
abbrev pub later_choices_too : Case
later_choices_too = freely (rule 1 (P x ∷ []) (plain (R x ∷ []) ∷ [])) (a_and_b (is_p 0 ∷ is_p 1 ∷ is_r 0 ∷ [])) (opens (a_and_b (is_p 0 ∷ is_p 1 ∷ is_r 0 ∷ is_r 1 ∷ [])))

-- The first variable is fastest: of the choices (0, 1) and (1, 0), both of two elements, the one with x = 1 comes first.
abbrev pub first_variable_fastest : Case
first_variable_fastest = freely (rule 2 (Q x y ∷ []) (plain (P x ∷ []) ∷ [])) (a_and_b (is_q 0 1 ∷ is_q 1 0 ∷ [])) (opens (a_and_b (is_p 1 ∷ is_q 0 1 ∷ is_q 1 0 ∷ [])))

-- And the last slowest: of the choices (0, 0, 1) and (1, 1, 0) the second comes first.
abbrev pub last_variable_slowest : Case
last_variable_slowest = freely (rule 3 (fact 5 (cons x (cons y (cons z nil))) ∷ []) (plain (P x ∷ []) ∷ []))
    (a_and_b (rel 5 (0 ∷ 0 ∷ 1 ∷ []) ∷ rel 5 (1 ∷ 1 ∷ 0 ∷ []) ∷ [])) (opens (a_and_b (is_p 1 ∷ rel 5 (0 ∷ 0 ∷ 1 ∷ []) ∷ rel 5 (1 ∷ 1 ∷ 0 ∷ []) ∷ [])))

-- Two variables may have one element: Q(x, y) gives P(y) with Q(0, 0).
abbrev pub one_element_for_two_variables : Case
one_element_for_two_variables = freely (rule 2 (Q x y ∷ []) (plain (P y ∷ []) ∷ [])) (just_a (is_q 0 0 ∷ [])) (opens (just_a (is_p 0 ∷ is_q 0 0 ∷ [])))

-- A function witness stands at its own arguments, in their order: R(x), S(y) gives P of witness 0 at (y, x). That is then observed.
abbrev by_witness : Sequent
by_witness = rule 2 (R x ∷ S y ∷ []) (some_of (function (1 ∷ 0 ∷ []) ∷ []) (P z ∷ []) ∷ [])

abbrev by_witness_leaves : Model
by_witness_leaves = model 3 (a↦ 0 ∷ b↦ 1 ∷ function↦ (1 ∷ 0 ∷ []) 2 ∷ []) (is_p 2 ∷ is_r 0 ∷ is_s 1 ∷ []) (0 ∷ 0 ∷ 1 ∷ [])

abbrev pub witness_at_its_arguments : Case
witness_at_its_arguments = freely by_witness (a_and_b (is_r 0 ∷ is_s 1 ∷ [])) (opens by_witness_leaves)

abbrev pub witness_observed : Case
witness_observed = freely by_witness by_witness_leaves (completes by_witness_leaves)

-- Keys are in order of kind, whatever the order in which they came: [] gives a fact of a function witness, a constant witness, f(a), a.
abbrev pub keys_by_kind : Case
keys_by_kind = freely
    (rule 1 [] (some_of (constant 0 ∷ function (0 ∷ []) ∷ []) (fact 5 (cons z (cons y (cons (f a) (cons a nil)))) ∷ []) ∷ []))
    (model 1 (b↦ 0 ∷ []) [] (0 ∷ []))
    (opens (model 5 (a↦ 3 ∷ b↦ 0 ∷ f↦ 3 4 ∷ constant↦ 0 2 ∷ function↦ (0 ∷ []) 1 ∷ []) (rel 5 (1 ∷ 2 ∷ 4 ∷ 3 ∷ []) ∷ []) (0 ∷ 1 ∷ 0 ∷ 0 ∷ 1 ∷ [])))

-- Keys of one kind are in order of their symbol, then of their first argument, and facts of their relation, whatever their arity: here
-- h(1, 0) is 2, h(0, 1) is 3, and k, a function of no argument, is 4.
abbrev pub keys_by_symbol_and_arguments : Case
keys_by_symbol_and_arguments = freely (always (Q (h b a) (h a b) ∷ P k ∷ N ∷ [])) (a_and_b [])
    (opens (model 5 (a↦ 0 ∷ b↦ 1 ∷ h↦ 0 1 3 ∷ h↦ 1 0 2 ∷ k↦ 4 ∷ []) (is_p 4 ∷ is_q 2 3 ∷ is_n ∷ []) (0 ∷ 0 ∷ 1 ∷ 1 ∷ 0 ∷ [])))

-- Fair goes on after the sequent that fired, and wraps: from place 1 of 2, where sequent 1 fires, and where only sequent 0 does.
abbrev pub fair_starts_at_its_place : Case
fair_starts_at_its_place = step_on_lem (pool 0 1 1 (0 ∷ []) [] [] (sheet 0 1 nothing ∷ [])) (always (P a ∷ []) ∷ always (R a ∷ []) ∷ [])
    (ran 0 1 (pool 0 1 2 (0 ∷ []) [] [] (sheet 1 0 (just_a (is_r 0 ∷ [])) ∷ [])))

abbrev pub fair_wraps : Case
fair_wraps = step_on_lem (pool 0 1 1 (0 ∷ []) [] [] (sheet 0 1 nothing ∷ [])) (always (P a ∷ []) ∷ rule 1 [] [] ∷ [])
    (ran 0 1 (pool 0 1 2 (0 ∷ []) [] [] (sheet 1 1 (just_a (is_p 0 ∷ [])) ∷ [])))

-- Then in order from sequent 0 on, also before one that fails: from place 2 of 3, where the last does not fire and the other two would.
abbrev pub fair_wraps_in_order : Case
fair_wraps_in_order = step_on_lem (pool 0 1 1 (0 ∷ []) [] [] (sheet 0 2 nothing ∷ [])) (always (P a ∷ []) ∷ rule 0 [] [] ∷ rule 1 [] [] ∷ [])
    (ran 0 1 (pool 0 1 2 (0 ∷ []) [] [] (sheet 1 1 (just_a (is_p 0 ∷ [])) ∷ [])))

abbrev pub firings : List Case
firings = every_literal_counts ∷ one_disjunct_is_enough ∷ every_body_literal_counts ∷ two_are_not_one ∷ one_is_one ∷ unknown_is_not_itself
    ∷ arguments_are_terms ∷ arguments_in_order ∷ no_arguments_looked_up ∷ no_terms_observed ∷ nothing_to_observe ∷ first_sequent_first
    ∷ no_sequent_goes_before ∷ domain_by_first_appearance ∷ later_choices_too ∷ first_variable_fastest ∷ last_variable_slowest ∷ one_element_for_two_variables
    ∷ witness_at_its_arguments ∷ witness_observed ∷ keys_by_kind ∷ keys_by_symbol_and_arguments ∷ fair_starts_at_its_place ∷ fair_wraps
    ∷ fair_wraps_in_order ∷ []

-- ---- the bound

-- A known term is not counted: with a held, Q(a, b) puts b alone to DomainSize(2), at size 1.
abbrev pub known_not_counted : Case
known_not_counted = under (domain_size 2) (always (Q a b ∷ [])) (just_a []) (opens (a_and_b (is_q 0 1 ∷ [])))

-- Equal terms count each time: Q(a, a) is cut under DomainSize(1).
abbrev pub equal_terms_count_each : Case
equal_terms_count_each = under (domain_size 1) (always (Q a a ∷ [])) nothing (bounds nothing)

-- The size is the child's at that literal, not the base's: of P(a), R(b) under DomainSize(1) the second is cut.
abbrev pub size_at_the_literal : Case
size_at_the_literal = under (domain_size 1) (always (P a ∷ R b ∷ [])) nothing (bounds (just_a (is_p 0 ∷ [])))

-- A depth is by the greatest argument, wherever it stands: h(a, f(a)) and h(f(a), a) have depth 2.
abbrev pub greatest_argument : Case
greatest_argument = under (depth_pure 1) (always (P (h a (f a)) ∷ R (h (f a) a) ∷ [])) nothing (bounds nothing)

-- A constant witness has depth 0.
abbrev pub constant_witness_is_shallow : Case
constant_witness_is_shallow = under (depth_pure 0) (rule 0 [] (exists (P x ∷ []) ∷ [])) nothing (opens (model 1 (constant↦ 0 0 ∷ []) (is_p 0 ∷ []) (0 ∷ [])))

-- So has a function without arguments; and a fact without terms puts nothing to the bound.
abbrev pub no_arguments_is_shallow : Case
no_arguments_is_shallow = under (depth_pure 0) (always (P k ∷ [])) nothing (opens (model 1 (k↦ 0 ∷ []) (is_p 0 ∷ []) (0 ∷ [])))

abbrev pub no_terms_no_bound : Case
no_terms_no_bound = under (domain_size 0) (always (N ∷ [])) nothing (opens (model 0 [] (is_n ∷ []) []))

-- A chosen element has its own depth: with P(f(a)), where P(x) gives R(g(x)), the depth of g(x) is 2.
abbrev pub chosen_by_its_depth : Case
chosen_by_its_depth = under (depth_pure 1) (rule 1 (P x ∷ []) (plain (R (g x) ∷ []) ∷ [])) (model 2 (a↦ 0 ∷ f↦ 0 1 ∷ []) (is_p 1 ∷ []) (0 ∷ 1 ∷ []))
    (bounds (model 2 (a↦ 0 ∷ f↦ 0 1 ∷ []) (is_p 1 ∷ []) (0 ∷ 1 ∷ [])))

-- a->0, f(0)->1, f(1)->2, g(1)->3, P(2), R(3). After x = y, y has been merged away and has its survivor's depth, which is 2: it is
-- beyond Depth 1, and function witness 0 at y is beyond Depth 2.
abbrev two_deep : Model
two_deep = model 4 (a↦ 0 ∷ f↦ 0 1 ∷ f↦ 1 2 ∷ g↦ 1 3 ∷ []) (is_p 2 ∷ is_r 3 ∷ []) (0 ∷ 1 ∷ 2 ∷ 2 ∷ [])

abbrev two_deep_joined : Model
two_deep_joined = model 4 (a↦ 0 ∷ f↦ 0 1 ∷ f↦ 1 2 ∷ g↦ 1 2 ∷ []) (is_p 2 ∷ is_r 2 ∷ []) (0 ∷ 1 ∷ 2 ∷ 0 ∷ [])

abbrev pub survivor_depth : Case
survivor_depth = under (depth_pure 1) (rule 2 (P x ∷ R y ∷ []) (plain (same x y ∷ P y ∷ R y ∷ []) ∷ [])) two_deep (bounds two_deep_joined)

abbrev pub survivor_depth_in_a_witness : Case
survivor_depth_in_a_witness = under (depth_pure 2) (rule 2 (P x ∷ R y ∷ []) (some_of (function (1 ∷ []) ∷ []) (same x y ∷ P z ∷ []) ∷ [])) two_deep (bounds two_deep_joined)

-- A known inner term has its element's depth, not its height: with a->0, b->1, f(0)->1 the depth of g(f(a)) is 1.
abbrev pub known_inside_by_its_element : Case
known_inside_by_its_element = under (depth_pure 1) (always (P (g (f a)) ∷ [])) (model 2 (a↦ 0 ∷ b↦ 1 ∷ f↦ 0 1 ∷ []) [] (0 ∷ 0 ∷ []))
    (opens (model 3 (a↦ 0 ∷ b↦ 1 ∷ f↦ 0 1 ∷ g↦ 1 2 ∷ []) (is_p 2 ∷ []) (0 ∷ 0 ∷ 1 ∷ [])))

-- And so has a known witness: with a->0, b->1 and function witness 0 at 0 yielding 1, the depth of g of it is 1.
abbrev pub known_witness_by_its_element : Case
known_witness_by_its_element = under (depth_pure 1) (rule 1 (R x ∷ []) (some_of (function (0 ∷ []) ∷ []) (P (g y) ∷ []) ∷ []))
    (model 2 (a↦ 0 ∷ b↦ 1 ∷ function↦ (0 ∷ []) 1 ∷ []) (is_r 0 ∷ []) (0 ∷ 0 ∷ []))
    (opens (model 3 (a↦ 0 ∷ b↦ 1 ∷ g↦ 1 2 ∷ function↦ (0 ∷ []) 1 ∷ []) (is_p 2 ∷ is_r 0 ∷ []) (0 ∷ 0 ∷ 1 ∷ [])))

-- What the base observed need not be observed in the child: after x = y, S(y) is put to DomainSize(1) and cut.
abbrev pub no_longer_observed : Case
no_longer_observed = under (domain_size 1) (rule 2 (R x ∷ S y ∷ []) (plain (same x y ∷ S y ∷ []) ∷ [])) (a_and_b (is_r 0 ∷ is_s 1 ∷ []))
    (bounds (a_is_b (is_r 0 ∷ is_s 0 ∷ [])))

-- A term over an element merged away is unknown, though the same term over its survivor is held: of x = y, P(f(y)) the second is cut
-- under Depth 0.
abbrev pub over_merged_away_is_unknown : Case
over_merged_away_is_unknown = under (depth_pure 0) (rule 2 (R x ∷ S y ∷ []) (plain (same x y ∷ P (f y) ∷ []) ∷ []))
    (model 3 (a↦ 0 ∷ b↦ 1 ∷ f↦ 0 2 ∷ []) (is_r 0 ∷ is_s 1 ∷ []) (0 ∷ 0 ∷ 1 ∷ []))
    (bounds (model 3 (a↦ 0 ∷ b↦ 0 ∷ f↦ 0 2 ∷ []) (is_r 0 ∷ is_s 0 ∷ []) (0 ∷ 0 ∷ 1 ∷ [])))

abbrev pub boundings : List Case
boundings = known_not_counted ∷ equal_terms_count_each ∷ size_at_the_literal ∷ greatest_argument ∷ constant_witness_is_shallow
    ∷ no_arguments_is_shallow ∷ no_terms_no_bound ∷ chosen_by_its_depth ∷ survivor_depth ∷ survivor_depth_in_a_witness ∷ known_inside_by_its_element
    ∷ known_witness_by_its_element ∷ no_longer_observed ∷ over_merged_away_is_unknown ∷ []

-- ---- merging

-- The smaller element is kept, on whichever side it stands: b = a with a->0, b->1.
abbrev pub smaller_kept : Case
smaller_kept = freely (always (same b a ∷ [])) (a_and_b []) (opens (a_is_b []))

-- Depths are lowered through keys: a->0, f(0)->1, f(1)->2, f(a) = b: b, f(0) ->1, depths 0, 0, 1, next element 4.
abbrev pub depths_fall : Case
depths_fall = freely (always (same (f a) b ∷ [])) (model 3 (a↦ 0 ∷ f↦ 0 1 ∷ f↦ 1 2 ∷ []) [] (0 ∷ 1 ∷ 2 ∷ []))
    (opens (model 4 (a↦ 0 ∷ b↦ 1 ∷ f↦ 0 1 ∷ f↦ 1 2 ∷ []) [] (0 ∷ 0 ∷ 1 ∷ 0 ∷ [])))

-- Until none falls: a->0, g(0)->5, f(5)->4, f(4)->3, f(3)->2, f(2)->1, g(a) = b: each key of f stands before the one that it waits for,
-- so three passes are not enough.
abbrev pub depths_fall_again : Case
depths_fall_again = freely (always (same (g a) b ∷ [])) (model 6 (a↦ 0 ∷ f↦ 2 1 ∷ f↦ 3 2 ∷ f↦ 4 3 ∷ f↦ 5 4 ∷ g↦ 0 5 ∷ []) [] (0 ∷ 5 ∷ 4 ∷ 3 ∷ 2 ∷ 1 ∷ []))
    (opens (model 7 (a↦ 0 ∷ b↦ 5 ∷ f↦ 2 1 ∷ f↦ 3 2 ∷ f↦ 4 3 ∷ f↦ 5 4 ∷ g↦ 0 5 ∷ []) [] (0 ∷ 4 ∷ 3 ∷ 2 ∷ 1 ∷ 0 ∷ 0 ∷ [])))

-- Through the keys of witnesses, too: f(a) = b with witness 0 at f(a).
abbrev pub depths_fall_through_witnesses : Case
depths_fall_through_witnesses = freely (always (same (f a) b ∷ [])) (model 3 (a↦ 0 ∷ f↦ 0 1 ∷ function↦ (1 ∷ []) 2 ∷ []) [] (0 ∷ 1 ∷ 2 ∷ []))
    (opens (model 4 (a↦ 0 ∷ b↦ 1 ∷ f↦ 0 1 ∷ function↦ (1 ∷ []) 2 ∷ []) [] (0 ∷ 0 ∷ 1 ∷ 0 ∷ [])))

-- One merge may bring two: a = b with f and g of both.
abbrev pub two_keys_at_once : Case
two_keys_at_once = freely (always (same a b ∷ [])) (model 6 (a↦ 0 ∷ b↦ 1 ∷ f↦ 0 2 ∷ f↦ 1 3 ∷ g↦ 0 4 ∷ g↦ 1 5 ∷ []) [] (0 ∷ 0 ∷ 1 ∷ 1 ∷ 1 ∷ 1 ∷ []))
    (opens (model 6 (a↦ 0 ∷ b↦ 0 ∷ f↦ 0 2 ∷ g↦ 0 4 ∷ []) [] (0 ∷ 0 ∷ 1 ∷ 0 ∷ 1 ∷ 0 ∷ [])))

-- Three keys may become one: a = b with h(0, 0), h(0, 1) and h(1, 1).
abbrev pub three_keys_in_one : Case
three_keys_in_one = freely (always (same a b ∷ [])) (model 5 (a↦ 0 ∷ b↦ 1 ∷ h↦ 0 0 2 ∷ h↦ 0 1 3 ∷ h↦ 1 1 4 ∷ []) (is_p 4 ∷ []) (0 ∷ 0 ∷ 1 ∷ 1 ∷ 1 ∷ []))
    (opens (model 5 (a↦ 0 ∷ b↦ 0 ∷ h↦ 0 0 2 ∷ []) (is_p 2 ∷ []) (0 ∷ 0 ∷ 1 ∷ 0 ∷ 0 ∷ [])))

-- Keys that become equal with one value, g(0)->4 and g(1)->4, bring none, and keep no other from its turn.
abbrev pub one_key_already_merged : Case
one_key_already_merged = freely (always (same a b ∷ [])) (model 5 (a↦ 0 ∷ b↦ 1 ∷ f↦ 0 2 ∷ f↦ 1 3 ∷ g↦ 0 4 ∷ g↦ 1 4 ∷ []) [] (0 ∷ 0 ∷ 1 ∷ 1 ∷ 1 ∷ []))
    (opens (model 5 (a↦ 0 ∷ b↦ 0 ∷ f↦ 0 2 ∷ g↦ 0 4 ∷ []) [] (0 ∷ 0 ∷ 1 ∷ 0 ∷ 1 ∷ [])))

-- Keys of witnesses are rewritten like all others, arguments and values, and merge values: a = b with function witness 0 at both, and
-- constant witness 0 the same as b.
abbrev pub witnesses_merge : Case
witnesses_merge = freely (always (same a b ∷ []))
    (model 4 (a↦ 0 ∷ b↦ 1 ∷ constant↦ 0 1 ∷ function↦ (0 ∷ []) 2 ∷ function↦ (1 ∷ []) 3 ∷ []) (is_p 3 ∷ []) (0 ∷ 0 ∷ 1 ∷ 1 ∷ []))
    (opens (model 4 (a↦ 0 ∷ b↦ 0 ∷ constant↦ 0 0 ∷ function↦ (0 ∷ []) 2 ∷ []) (is_p 2 ∷ []) (0 ∷ 0 ∷ 1 ∷ 0 ∷ [])))

-- And one after another: a = b with f and f(f) of both.
abbrev pub keys_one_after_another : Case
keys_one_after_another = freely (always (same a b ∷ []))
    (model 6 (a↦ 0 ∷ b↦ 1 ∷ f↦ 0 2 ∷ f↦ 1 3 ∷ f↦ 2 4 ∷ f↦ 3 5 ∷ []) [] (0 ∷ 0 ∷ 1 ∷ 1 ∷ 2 ∷ 2 ∷ []))
    (opens (model 6 (a↦ 0 ∷ b↦ 0 ∷ f↦ 0 2 ∷ f↦ 2 4 ∷ []) [] (0 ∷ 0 ∷ 1 ∷ 0 ∷ 2 ∷ 0 ∷ [])))

-- Pairs that wait are renamed with the rest: f(0)->2 and g(0)->3 both meet 5, so that 2 and 3 become one.
abbrev pub waiting_pairs_renamed : Case
waiting_pairs_renamed = freely (always (same a b ∷ []))
    (model 6 (a↦ 0 ∷ b↦ 1 ∷ f↦ 0 2 ∷ f↦ 1 5 ∷ g↦ 0 3 ∷ g↦ 1 5 ∷ []) [] (0 ∷ 0 ∷ 1 ∷ 1 ∷ 0 ∷ 1 ∷ []))
    (opens (model 6 (a↦ 0 ∷ b↦ 0 ∷ f↦ 0 2 ∷ g↦ 0 2 ∷ []) [] (0 ∷ 0 ∷ 1 ∷ 0 ∷ 0 ∷ 0 ∷ [])))

-- The first element of a pair, too: f brings 3 and 4 together, g 2 and 3, so that all three become one.
abbrev pub waiting_pairs_renamed_in_both : Case
waiting_pairs_renamed_in_both = freely (always (same a b ∷ []))
    (model 5 (a↦ 0 ∷ b↦ 1 ∷ f↦ 0 3 ∷ f↦ 1 4 ∷ g↦ 0 2 ∷ g↦ 1 3 ∷ []) [] (0 ∷ 0 ∷ 1 ∷ 1 ∷ 1 ∷ []))
    (opens (model 5 (a↦ 0 ∷ b↦ 0 ∷ f↦ 0 2 ∷ g↦ 0 2 ∷ []) [] (0 ∷ 0 ∷ 1 ∷ 0 ∷ 0 ∷ [])))

-- An element merged away twice over is recorded as its last survivor: after y = z and x = y, S(z) is S(0).
abbrev pub survivor_of_a_survivor : Case
survivor_of_a_survivor = freely (rule 3 (P x ∷ R y ∷ Q z z ∷ []) (plain (same y z ∷ same x y ∷ S z ∷ []) ∷ []))
    (model 3 (a↦ 0 ∷ b↦ 1 ∷ c↦ 2 ∷ []) (is_p 0 ∷ is_r 1 ∷ is_q 2 2 ∷ []) (0 ∷ 0 ∷ 0 ∷ []))
    (opens (model 3 (a↦ 0 ∷ b↦ 0 ∷ c↦ 0 ∷ []) (is_p 0 ∷ is_r 0 ∷ is_s 0 ∷ is_q 0 0 ∷ []) (0 ∷ 0 ∷ 0 ∷ [])))

-- So is one that went because keys became equal: where x is f(b), after a = b, S(x) is S of f(a).
abbrev pub survivor_by_equal_keys : Case
survivor_by_equal_keys = freely (rule 1 (R x ∷ []) (plain (same a b ∷ S x ∷ []) ∷ [])) (model 4 (a↦ 0 ∷ b↦ 1 ∷ f↦ 0 2 ∷ f↦ 1 3 ∷ []) (is_r 3 ∷ []) (0 ∷ 0 ∷ 1 ∷ 1 ∷ []))
    (opens (model 4 (a↦ 0 ∷ b↦ 0 ∷ f↦ 0 2 ∷ []) (is_r 2 ∷ is_s 2 ∷ []) (0 ∷ 0 ∷ 1 ∷ 0 ∷ [])))

-- And in every later literal: of x = y, P(x), Q(y, y) the last is Q(0, 0).
abbrev pub survivor_behind_a_fact : Case
survivor_behind_a_fact = freely (rule 2 (R x ∷ S y ∷ []) (plain (same x y ∷ P x ∷ Q y y ∷ []) ∷ [])) (a_and_b (is_r 0 ∷ is_s 1 ∷ []))
    (opens (a_is_b (is_p 0 ∷ is_r 0 ∷ is_s 0 ∷ is_q 0 0 ∷ [])))

-- Keys and facts are put in order anew, and facts that became equal are one: a = b with h(0, 2), h(1, 1), Q(0, 2), Q(1, 1), Q(1, 2).
abbrev pub renamed_in_order : Case
renamed_in_order = freely (always (same a b ∷ []))
    (model 5 (a↦ 0 ∷ b↦ 1 ∷ c↦ 2 ∷ h↦ 0 2 3 ∷ h↦ 1 1 4 ∷ []) (is_q 0 2 ∷ is_q 1 1 ∷ is_q 1 2 ∷ []) (0 ∷ 0 ∷ 0 ∷ 1 ∷ 1 ∷ []))
    (opens (model 5 (a↦ 0 ∷ b↦ 0 ∷ c↦ 2 ∷ h↦ 0 0 4 ∷ h↦ 0 2 3 ∷ []) (is_q 0 0 ∷ is_q 0 2 ∷ []) (0 ∷ 0 ∷ 0 ∷ 1 ∷ 1 ∷ [])))

abbrev pub mergings : List Case
mergings = smaller_kept ∷ depths_fall ∷ depths_fall_again ∷ depths_fall_through_witnesses ∷ two_keys_at_once ∷ three_keys_in_one ∷ one_key_already_merged ∷ witnesses_merge
    ∷ keys_one_after_another ∷ waiting_pairs_renamed ∷ waiting_pairs_renamed_in_both ∷ survivor_of_a_survivor ∷ survivor_by_equal_keys ∷ survivor_behind_a_fact ∷ renamed_in_order ∷ []

-- ---- recording

-- A witness's arguments are recorded as their survivors: after x = y the witness at y stands at x.
abbrev pub arguments_as_survivors : Case
arguments_as_survivors = freely (rule 2 (P x ∷ R y ∷ []) (some_of (function (1 ∷ []) ∷ []) (same x y ∷ S z ∷ []) ∷ [])) (a_and_b (is_p 0 ∷ is_r 1 ∷ []))
    (opens (model 3 (a↦ 0 ∷ b↦ 0 ∷ function↦ (0 ∷ []) 2 ∷ []) (is_p 0 ∷ is_r 0 ∷ is_s 2 ∷ []) (0 ∷ 0 ∷ 1 ∷ [])))

-- Every literal is told, however many.
abbrev pub every_literal_told : Case
every_literal_told = freely (always (P a ∷ R a ∷ S a ∷ N ∷ [])) nothing (opens (just_a (is_p 0 ∷ is_r 0 ∷ is_s 0 ∷ is_n ∷ [])))

-- Terms are recorded from left to right: Q(b, a) makes b 0 and a 1; of f(a) = b the first side comes first.
abbrev pub left_to_right : Case
left_to_right = freely (always (Q b a ∷ [])) nothing (opens (model 2 (a↦ 1 ∷ b↦ 0 ∷ []) (is_q 0 1 ∷ []) (0 ∷ 0 ∷ [])))

abbrev pub first_side_first : Case
first_side_first = freely (always (same (f a) b ∷ [])) nothing (opens (model 3 (a↦ 0 ∷ b↦ 1 ∷ f↦ 0 1 ∷ []) [] (0 ∷ 0 ∷ 0 ∷ [])))

-- A new element's depth is by its greatest argument: h(a, f(a)) and h(f(a), a) have 2.
abbrev pub new_depths : Case
new_depths = freely (always (P (h a (f a)) ∷ R (h (f a) a) ∷ [])) nothing
    (opens (model 4 (a↦ 0 ∷ f↦ 0 1 ∷ h↦ 0 1 2 ∷ h↦ 1 0 3 ∷ []) (is_p 2 ∷ is_r 3 ∷ []) (0 ∷ 1 ∷ 2 ∷ 2 ∷ [])))

-- A literal that is skipped does not end the child: under Depth 0, P(f(a)) is skipped and R(b) recorded.
abbrev pub after_a_skipped_literal : Case
after_a_skipped_literal = under (depth_pure 0) (always (P (f a) ∷ R b ∷ [])) nothing (bounds (model 1 (b↦ 0 ∷ []) (is_r 0 ∷ []) (0 ∷ [])))

-- And an identity behind it does not open it again.
abbrev pub bounded_for_good : Case
bounded_for_good = under (depth_pure 0) (always (P (f a) ∷ same a b ∷ [])) nothing (bounds (a_is_b []))

-- What is appended comes behind the others: [] gives some x with P(a) makes a 0 and x 1.
abbrev pub appended_behind : Case
appended_behind = freely (rule 0 [] (exists (P a ∷ []) ∷ [])) nothing (opens (model 2 (a↦ 0 ∷ constant↦ 0 1 ∷ []) (is_p 0 ∷ []) (0 ∷ 0 ∷ [])))

-- And only for an existential that is in no literal, be it in a later term, deep inside a term or on either side: under Depth 0 all
-- literals are cut, and nothing is recorded.
abbrev pub not_appended : Case
not_appended = under (depth_pure 0) (rule 0 [] (exists (Q (f b) x ∷ []) ∷ [])) nothing (bounds nothing)

abbrev pub not_appended_for_inner : Case
not_appended_for_inner = under (depth_pure 0) (rule 0 [] (exists (Q b (f (f x)) ∷ []) ∷ [])) nothing (bounds nothing)

abbrev pub not_appended_for_a_side : Case
not_appended_for_a_side = under (depth_pure 0) (rule 0 [] (some_of (constant 0 ∷ constant 1 ∷ []) (same (f b) x ∷ same y (f b) ∷ []) ∷ [])) nothing (bounds nothing)

-- In no literal of its own disjunct: [] gives some x with P(x), or some x.
abbrev pub appended_by_disjunct : Case
appended_by_disjunct = freely (rule 0 [] (exists (P x ∷ []) ∷ exists [] ∷ [])) nothing (ran 0 1 (three_slots 3 (0 ∷ 1 ∷ []) [] []
    (sheet 1 0 (model 1 (constant↦ 0 0 ∷ []) (is_p 0 ∷ []) (0 ∷ [])) ∷ sheet 2 0 (model 1 (constant↦ 0 0 ∷ []) [] (0 ∷ [])) ∷ [])))

-- By the variable, not by its witness: of two existentials with one witness, under Depth 0, P(f(x)) is cut, and y = y is not.
abbrev pub appended_by_variable : Case
appended_by_variable = under (depth_pure 0) (rule 0 [] (some_of (constant 0 ∷ constant 0 ∷ []) (P (f x) ∷ []) ∷ [])) nothing
    (bounds (model 1 (constant↦ 0 0 ∷ []) [] (0 ∷ [])))

-- Existential j is variable v + j, and what is appended is in origin order: with one free variable, P of the second of three.
abbrev pub existentials_behind_the_free : Case
existentials_behind_the_free = freely (rule 1 [] (some_of (constant 0 ∷ constant 1 ∷ constant 2 ∷ []) (P z ∷ []) ∷ [])) (just_a [])
    (opens (model 4 (a↦ 0 ∷ constant↦ 0 2 ∷ constant↦ 1 1 ∷ constant↦ 2 3 ∷ []) (is_p 1 ∷ []) (0 ∷ 0 ∷ 0 ∷ 0 ∷ [])))

abbrev pub recordings : List Case
recordings = arguments_as_survivors ∷ every_literal_told ∷ left_to_right ∷ first_side_first ∷ new_depths ∷ after_a_skipped_literal ∷ bounded_for_good ∷ appended_behind
    ∷ not_appended ∷ not_appended_for_inner ∷ not_appended_for_a_side ∷ appended_by_disjunct ∷ appended_by_variable ∷ existentials_behind_the_free ∷ []

-- ---- the claim

abbrev pub table : List Case
table = flat (documents ∷ firings ∷ boundings ∷ mergings ∷ recordings ∷ limitations ∷ lists_and_slots ∷ runs ∷ [])

pub corners : map did table ≡ map (λ (k : Case). k.after) table
unfolding did flat
corners = refl
