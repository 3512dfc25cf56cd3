-- The rows of the table of steps that are about the pool: limits, lists, slots, numbers and runs. The claim over them is in Corners.
use Rattle.std.specs.Prelude.{ℕ, List, [], ◌∷◌}
use Rattle.rules.specs.Book.{same}
use Rattle.rules.specs.Sheet.{Limits}
use Rattle.rules.specs.Bound.{unbounded, depth_pure}
use Rattle.rules.specs.Pool.{State}
use Rattle.rules.specs.Cases.{Case, a, b, f, x, y, P, R, S, N, plain, rule, always, either, is_p, is_r, is_s, nothing, just_a, a_and_b, a_is_b, sheet, unused, pool, three_slots, ran, version_1, case, step_on_lem, within, under, opens, refuses}

-- ---- limits

abbrev room : ℕ → ℕ → ℕ → Limits
room e k f = record { elements = e; keys = k; facts = f }

-- One element, one key and one fact pass where there is room for one; one less of any is 15.
abbrev pub just_room : Case
just_room = within (room 1 1 1) unbounded (always (P a ∷ [])) nothing (opens (just_a (is_p 0 ∷ [])))

abbrev pub an_element_too_many : Case
an_element_too_many = within (room 0 1 1) unbounded (always (P a ∷ [])) nothing (refuses 15 nothing)

abbrev pub a_key_too_many : Case
a_key_too_many = within (room 1 0 1) unbounded (always (P a ∷ [])) nothing (refuses 15 nothing)

abbrev pub a_fact_too_many : Case
a_fact_too_many = within (room 1 1 0) unbounded (always (P a ∷ [])) nothing (refuses 15 nothing)

-- An identity needs room, too, for its elements and for its keys.
abbrev pub an_identity_needs_room : Case
an_identity_needs_room = within (room 1 2 0) unbounded (always (same a b ∷ [])) nothing (refuses 15 nothing)

abbrev pub an_identity_needs_keys : Case
an_identity_needs_keys = within (room 2 1 0) unbounded (always (same a b ∷ [])) nothing (refuses 15 nothing)

-- Elements are counted as created: one that was merged away takes its room.
abbrev pub merged_away_takes_room : Case
merged_away_takes_room = within (room 2 9 9) unbounded (always (P (f a) ∷ [])) (a_is_b []) (refuses 15 (a_is_b []))

-- A key that is held needs no room, nor does a fact: a is there, and of x = y, R(y) the second is R(0) again.
abbrev pub held_key_needs_no_room : Case
held_key_needs_no_room = within (room 1 1 1) unbounded (always (P a ∷ [])) (just_a []) (opens (just_a (is_p 0 ∷ [])))

abbrev pub held_needs_no_room : Case
held_needs_no_room = within (room 2 2 2) unbounded (rule 2 (R x ∷ S y ∷ []) (plain (same x y ∷ R y ∷ []) ∷ [])) (a_and_b (is_r 0 ∷ is_s 1 ∷ []))
    (opens (a_is_b (is_r 0 ∷ is_s 0 ∷ [])))

-- At any moment: R(a), R(b), a = b needs room for two facts, though it leaves one.
abbrev pub at_any_moment : Case
at_any_moment = within (room 2 2 1) unbounded (always (R a ∷ R b ∷ same a b ∷ [])) nothing (refuses 15 nothing)

-- A bounded child needs room, too, and so do the first and the last one.
abbrev pub a_bounded_child_too_big : Case
a_bounded_child_too_big = within (room 0 1 1) (depth_pure 0) (always (P a ∷ P (f a) ∷ [])) nothing (refuses 15 nothing)

abbrev pub the_first_child_too_big : Case
the_first_child_too_big = within (room 0 1 1) unbounded (rule 0 [] (plain (P a ∷ []) ∷ plain (N ∷ []) ∷ [])) nothing (refuses 15 nothing)

abbrev pub the_last_child_too_big : Case
the_last_child_too_big = within (room 0 1 1) unbounded (rule 0 [] (plain (N ∷ []) ∷ plain (P a ∷ []) ∷ [])) nothing (refuses 15 nothing)

-- A pool with one slot: the base's own is room for one child, and two are 16.
abbrev one_slot : ℕ → State
one_slot n = pool 0 0 n (0 ∷ []) [] [] (unused ∷ [])

abbrev pub the_base_leaves_its_slot : Case
the_base_leaves_its_slot = step_on_lem (one_slot 1) (always (P a ∷ []) ∷ []) (ran 0 1 (pool 0 0 2 (0 ∷ []) [] [] (sheet 1 0 (just_a (is_p 0 ∷ [])) ∷ [])))

abbrev pub no_slot_for_two : Case
no_slot_for_two = step_on_lem (one_slot 1) (either ∷ []) (ran 16 0 (one_slot 1))

-- Slots of complete and of bounded sheets are no room.
abbrev all_in_use : State
all_in_use = pool 0 0 3 (0 ∷ []) (1 ∷ []) (2 ∷ []) (unused ∷ sheet 1 0 (just_a []) ∷ sheet 2 0 (just_a []) ∷ [])

abbrev pub no_slot_among_those_in_use : Case
no_slot_among_those_in_use = step_on_lem all_in_use (either ∷ []) (ran 16 0 all_in_use)

-- Where the children are too big, too, it is 15.
abbrev pub fifteen_before_sixteen : Case
fifteen_before_sixteen = case (room 0 1 1) 1 unbounded (either ∷ []) (one_slot 1) (ran 15 0 (one_slot 1))

-- Where 65,535 is the next number one child gets it, and numbers are then used up. Two children are 17 there, if there is a slot for
-- both, and else 16.
abbrev pub the_last_number : Case
the_last_number = step_on_lem (one_slot 65535) (always (P a ∷ []) ∷ []) (ran 0 1 (pool 0 0 65536 (0 ∷ []) [] [] (sheet 65535 0 (just_a (is_p 0 ∷ [])) ∷ [])))

abbrev pub no_number_for_two : Case
no_number_for_two = step_on_lem (three_slots 65535 (0 ∷ []) [] [] []) (either ∷ []) (ran 17 0 (three_slots 65535 (0 ∷ []) [] [] []))

abbrev pub sixteen_before_seventeen : Case
sixteen_before_seventeen = step_on_lem (one_slot 65535) (either ∷ []) (ran 16 0 (one_slot 65535))

-- Bounded children need slots and numbers, too.
abbrev pub no_slot_for_two_bounded : Case
no_slot_for_two_bounded = case version_1 1 (depth_pure 0) (rule 0 [] (plain (P (f a) ∷ []) ∷ plain (R (f a) ∷ []) ∷ []) ∷ []) (one_slot 1) (ran 16 0 (one_slot 1))

abbrev pub no_number_for_a_bounded : Case
no_number_for_a_bounded = case version_1 1 (depth_pure 0) (always (P (f a) ∷ []) ∷ []) (one_slot 65536) (ran 17 0 (one_slot 65536))

-- A base that completes or fails needs no number.
abbrev pub no_number_needed : Case
no_number_needed = step_on_lem (one_slot 65536) [] (ran 0 1 (pool 0 0 65536 [] (0 ∷ []) [] (unused ∷ [])))

abbrev pub no_number_needed_to_fail : Case
no_number_needed_to_fail = step_on_lem (one_slot 65536) (rule 0 [] [] ∷ []) (ran 0 1 (pool 0 0 65536 [] [] [] (unused ∷ [])))

abbrev pub limitations : List Case
limitations = just_room ∷ an_element_too_many ∷ a_key_too_many ∷ a_fact_too_many ∷ an_identity_needs_room ∷ an_identity_needs_keys
    ∷ merged_away_takes_room ∷ held_key_needs_no_room ∷ held_needs_no_room ∷ at_any_moment ∷ a_bounded_child_too_big ∷ the_first_child_too_big ∷ the_last_child_too_big ∷ the_base_leaves_its_slot ∷ no_slot_for_two
    ∷ no_slot_among_those_in_use ∷ fifteen_before_sixteen ∷ the_last_number ∷ no_number_for_two ∷ sixteen_before_seventeen ∷ no_slot_for_two_bounded ∷ no_number_for_a_bounded
    ∷ no_number_needed ∷ no_number_needed_to_fail ∷ []

-- ---- lists, slots and numbers

-- With another sheet waiting, in slot 1: FIFO puts both children behind it, LIFO each before it.
abbrev two_wait : ℕ → State
two_wait sc = pool sc 0 2 (0 ∷ 1 ∷ []) [] [] (unused ∷ sheet 1 0 (just_a []) ∷ unused ∷ [])

abbrev two_waited : ℕ → List ℕ → State
two_waited sc w = pool sc 0 4 w [] [] (sheet 2 0 (just_a (is_p 0 ∷ [])) ∷ sheet 1 0 (just_a []) ∷ sheet 3 0 (just_a (is_r 0 ∷ [])) ∷ [])

abbrev pub fifo_behind_the_waiting : Case
fifo_behind_the_waiting = step_on_lem (two_wait 0) (either ∷ []) (ran 0 1 (two_waited 0 (1 ∷ 0 ∷ 2 ∷ [])))

abbrev pub lifo_before_the_waiting : Case
lifo_before_the_waiting = step_on_lem (two_wait 1) (either ∷ []) (ran 0 1 (two_waited 1 (2 ∷ 0 ∷ 1 ∷ [])))

-- A base that fails is dropped, its slot zero again; the others wait on.
abbrev pub a_failed_base_is_gone : Case
a_failed_base_is_gone = step_on_lem (pool 0 0 2 (1 ∷ 0 ∷ []) [] [] (unused ∷ sheet 1 0 (just_a (is_p 0 ∷ [])) ∷ [])) (rule 1 (P x ∷ []) [] ∷ [])
    (ran 0 1 (pool 0 0 2 (0 ∷ []) [] [] (unused ∷ unused ∷ [])))

-- The other two lists grow at the back, under LIFO too, and a complete base keeps its slot, its number and its place.
abbrev pub complete_at_the_back : Case
complete_at_the_back = step_on_lem (pool 1 1 2 (0 ∷ []) (1 ∷ []) [] (sheet 0 1 nothing ∷ sheet 1 0 (just_a []) ∷ [])) (rule 1 [] [] ∷ rule 1 [] [] ∷ [])
    (ran 0 1 (pool 1 1 2 [] (1 ∷ 0 ∷ []) [] (sheet 0 1 nothing ∷ sheet 1 0 (just_a []) ∷ [])))

-- A bounded child gets the place that an open one would.
abbrev pub bounded_at_the_back : Case
bounded_at_the_back = case version_1 1 (depth_pure 0) (always (P (f a) ∷ []) ∷ always (N ∷ []) ∷ [])
    (pool 0 1 2 (0 ∷ []) [] (1 ∷ []) (unused ∷ sheet 1 0 (just_a []) ∷ []))
    (ran 0 1 (pool 0 1 3 [] [] (1 ∷ 0 ∷ []) (sheet 2 1 nothing ∷ sheet 1 0 (just_a []) ∷ [])))

-- Numbers follow the disjuncts, open and bounded alike.
abbrev pub numbers_by_disjunct : Case
numbers_by_disjunct = under (depth_pure 0) (rule 0 [] (plain (P (f a) ∷ []) ∷ plain (R a ∷ []) ∷ [])) nothing
    (ran 0 1 (three_slots 3 (1 ∷ []) [] (0 ∷ []) (sheet 1 0 nothing ∷ sheet 2 0 (just_a (is_r 0 ∷ [])) ∷ [])))

-- Two bounded children follow in their order, under LIFO too, with an open one between them.
abbrev pub bounded_in_order : Case
bounded_in_order = case version_1 1 (depth_pure 0) (rule 0 [] (plain (P (f a) ∷ []) ∷ plain (R a ∷ []) ∷ plain (S (f a) ∷ []) ∷ []) ∷ [])
    (pool 1 0 2 (0 ∷ []) [] (1 ∷ []) (unused ∷ sheet 1 0 (just_a []) ∷ unused ∷ unused ∷ []))
    (ran 0 1 (pool 1 0 5 (2 ∷ []) [] (1 ∷ 0 ∷ 3 ∷ []) (sheet 2 0 nothing ∷ sheet 1 0 (just_a []) ∷ sheet 3 0 (just_a (is_r 0 ∷ [])) ∷ sheet 4 0 nothing ∷ [])))

-- The lowest free slot first, freed ones too: the base stands in slot 1, slot 0 is used, though all zero, by the empty model 0; and the
-- base stands in slot 2, slot 0 is free.
abbrev pub from_the_base's_slot : Case
from_the_base's_slot = step_on_lem (pool 0 0 2 (1 ∷ []) (0 ∷ []) [] (sheet 0 0 nothing ∷ sheet 1 0 nothing ∷ unused ∷ [])) (either ∷ [])
    (ran 0 1 (pool 0 0 4 (1 ∷ 2 ∷ []) (0 ∷ []) [] (sheet 0 0 nothing ∷ sheet 2 0 (just_a (is_p 0 ∷ [])) ∷ sheet 3 0 (just_a (is_r 0 ∷ [])) ∷ [])))

abbrev pub from_the_lowest_slot : Case
from_the_lowest_slot = step_on_lem (pool 0 0 2 (2 ∷ []) [] (1 ∷ []) (unused ∷ sheet 0 0 (just_a []) ∷ sheet 1 0 nothing ∷ [])) (either ∷ [])
    (ran 0 1 (pool 0 0 4 (0 ∷ 2 ∷ []) [] (1 ∷ []) (sheet 2 0 (just_a (is_p 0 ∷ [])) ∷ sheet 0 0 (just_a []) ∷ sheet 3 0 (just_a (is_r 0 ∷ [])) ∷ [])))

-- A child for each disjunct, however many.
abbrev pub a_child_for_each : Case
a_child_for_each = step_on_lem (three_slots 1 (0 ∷ []) [] [] []) (rule 0 [] (plain (P a ∷ []) ∷ plain (R a ∷ []) ∷ plain (S a ∷ []) ∷ []) ∷ [])
    (ran 0 1 (three_slots 4 (0 ∷ 1 ∷ 2 ∷ []) [] [] (sheet 1 0 (just_a (is_p 0 ∷ [])) ∷ sheet 2 0 (just_a (is_r 0 ∷ [])) ∷ sheet 3 0 (just_a (is_s 0 ∷ [])) ∷ [])))

abbrev pub lists_and_slots : List Case
lists_and_slots = fifo_behind_the_waiting ∷ lifo_before_the_waiting ∷ a_failed_base_is_gone ∷ complete_at_the_back ∷ bounded_at_the_back ∷ numbers_by_disjunct
    ∷ bounded_in_order ∷ from_the_base's_slot ∷ from_the_lowest_slot ∷ a_child_for_each ∷ []

-- ---- runs

-- Without a budget nothing happens; where nothing waits it is 14. A spent budget is asked first: every row above whose one step leaves
-- nothing waiting stops with 0.
abbrev pub no_budget : Case
no_budget = case version_1 0 unbounded (either ∷ []) (one_slot 1) (ran 0 0 (one_slot 1))

abbrev pub nothing_waits : Case
nothing_waits = case version_1 1 unbounded [] (three_slots 1 [] (0 ∷ []) [] []) (ran 14 0 (three_slots 1 [] (0 ∷ []) [] []))

abbrev pub until_nothing_waits : Case
until_nothing_waits = case version_1 9 unbounded (always (P a ∷ []) ∷ []) (one_slot 1) (ran 14 2 (pool 0 0 2 [] (0 ∷ []) [] (sheet 1 0 (just_a (is_p 0 ∷ [])) ∷ [])))

-- A run that is stopped keeps its steps: the second of these, which needs a second element, is 15.
abbrev pub a_stopped_run_keeps_its_steps : Case
a_stopped_run_keeps_its_steps = case (room 1 9 9) 9 unbounded (always (P a ∷ []) ∷ always (R b ∷ []) ∷ []) (one_slot 1)
    (ran 15 1 (pool 0 0 2 (0 ∷ []) [] [] (sheet 1 0 (just_a (is_p 0 ∷ [])) ∷ [])))

-- And it does not go on with another sheet: that in slot 0, which needs a second element, is 15, though the one in slot 1 could step.
abbrev two_for_one : State
two_for_one = pool 0 0 2 (0 ∷ 1 ∷ []) [] [] (sheet 0 0 (just_a []) ∷ sheet 1 0 nothing ∷ [])

abbrev pub a_stopped_run_stops : Case
a_stopped_run_stops = case (room 1 9 9) 9 unbounded (always (P b ∷ []) ∷ []) two_for_one (ran 15 0 two_for_one)

-- A run does not stop at a complete sheet while another waits.
abbrev pub all_that_wait : Case
all_that_wait = case version_1 9 unbounded [] (pool 0 0 2 (0 ∷ 1 ∷ []) [] [] (unused ∷ sheet 1 0 nothing ∷ []))
    (ran 14 2 (pool 0 0 2 [] (0 ∷ 1 ∷ []) [] (unused ∷ sheet 1 0 nothing ∷ [])))

abbrev pub runs : List Case
runs = no_budget ∷ nothing_waits ∷ until_nothing_waits ∷ all_that_wait ∷ a_stopped_run_keeps_its_steps ∷ a_stopped_run_stops ∷ []
