-- What is printed behind the run, and that it has room.
use Rattle.std.specs.Prelude.{◌≡◌, ℕ, ◌+◌, ◌*◌, ◌≤◌, ◌<◌, Bool, ◌&&◌, ◌++◌, get_or, drop}
use Rattle.std.proofs.Math.Path.{refl, sym, ap, ap₂, subst}
use Rattle.std.proofs.Common.{◌∙◌, lt-ltb, eq-eqb}
use native.Mathlib.Omega.{arith}
use Rattle.std.proofs.Math.Bool.{true, false}
use Rattle.std.proofs.Math.ListN.{length, length-append}
use Rattle.base.specs.Branch.{if}
use Rattle.base.specs.BranchLaws.{if_true}
use Rattle.rules.specs.Book.{Book, rules}
use Rattle.rules.specs.Reading.{Bytes, num, Read, case_read}
use Rattle.rules.specs.Sheet.{limits}
use Rattle.rules.specs.Bound.{Bound}
use Rattle.rules.specs.Pool.{State, schedulers, strategies, used, opened}
use Rattle.rules.specs.Step.{Ran, run}
use Rattle.rules.specs.Image.{most_slots, pool_bytes, pool_in}
use Rattle.rules.specs.Sound.{sound}
use Rattle.rules.specs.Calls.{right_length, bound_of, known_bound, checked, soundly, RunOutcome, run_call, RunPromise}
use Rattle.pools.specs.Count.{cnt_all}
use Rattle.pools.specs.Tidy.{Tidy}
use Rattle.pools.specs.Steps.{opened_tidy, opened_size, run_tidy, run_size}
use Rattle.placing.specs.OneByOne.{free_count}
use Rattle.demands.specs.Kept.{Roomy, kids_sound, same_roomy, back, image_fits, image_sound}
use Rattle.lines.specs.Text.{listing, refusal}
use Rattle.lines.specs.Printed.{printed}
use Rattle.pools.specs.Stops.{run_stops}
use Rattle.printing.specs.Stops.{ran_text, ran_listing}
use Rattle.printing.specs.Opening.{Opened, prints, book, scheduler, strategy, bound, number, known, fine, ran_of, text_of, image, printed_is}

-- ---- the run

ran_by : RunOutcome → Bytes
ran_by o = ran_text o.stop o.steps o.pool

module _ (input pool : Bytes) (w : Opened input pool) where
  abbrev s : State
  s = opened (scheduler input) (strategy input) 12

  abbrev pages : Bytes
  pages = image input

  abbrev bd : Bound
  bd = bound_of (bound input) (number input)

  abbrev bounds_known : Bool
  bounds_known = known_bound (bound input) (number input)

  abbrev end : Ran
  end = ran_of input w.book

  tidy : Tidy limits w.book s
  unfolding schedulers strategies
  tidy = opened_tidy limits w.book (scheduler input) (strategy input) 12 w.scheduler w.strategy (omega arith)

  roomy : Roomy s
  unfolding most_slots
  roomy = let e = opened_size (scheduler input) (strategy input) 12 in record { some = omega arith; few = omega arith }

  -- The image of a state, read back.
  image_back : (x : State) → Tidy limits w.book x → Roomy x → pool_in limits (pool_bytes limits x) ≡ x
  image_back = back (book input) w.book w.end w.reads

  -- A refused run, and one that was made.
  abbrev twelve : RunOutcome
  twelve = record { stop = 12; steps = 0; pool = pages }

  abbrev made : RunOutcome
  made = record { stop = end.stop; steps = end.steps; pool = pool_bytes limits end.state }

  sound_run : (k : Bool) → if k (λ _. if (sound limits w.book pages) (λ _.
      let r = run limits 1000 bd (rules w.book) (pool_in limits pages) in record { stop = r.stop; steps = r.steps; pool = pool_bytes limits r.state })
      (λ _. record { stop = 13; steps = 0; pool = pages })) (λ _. twelve) ≡ if k (λ _. made) (λ _. twelve)
  unfolding if
  sound_run true =
      if_true (sound limits w.book pages) _ _ (image_sound (book input) w.book w.end w.reads s tidy roomy)
      ∙ ap (λ (x : State). let r = run limits 1000 bd (rules w.book) x in record { stop = r.stop; steps = r.steps; pool = pool_bytes limits r.state })
      (image_back s tidy roomy)
  sound_run false = refl

  run_is : run_call (drop 8 input) pages (bound input) (number input) 1000
      ≡ if bounds_known (λ _. made) (λ _. twelve)
  unfolding run_call soundly checked case_read
  run_is =
      ap (λ (r : Read Book). case_read r (λ n at. record { stop = n; steps = 0; pool = pages }) (λ b e.
      if (right_length (length pages)) (λ _. if bounds_known (λ _. if (sound limits b pages) (λ _.
      let r = run limits 1000 bd (rules b) (pool_in limits pages) in record { stop = r.stop; steps = r.steps; pool = pool_bytes limits r.state })
      (λ _. record { stop = 13; steps = 0; pool = pages })) (λ _. twelve)) (λ _. record { stop = 11; steps = 0; pool = pages }))) w.reads
      ∙ if_true (right_length (length pages)) _ _ (image_fits (book input) w.book w.end w.reads s tidy roomy)
      ∙ sound_run bounds_known

  end_tidy : Tidy limits w.book end.state
  end_tidy = run_tidy limits w.book (kids_sound (book input) w.book w.end w.reads) 1000 bd s tidy

  end_roomy : Roomy end.state
  end_roomy = same_roomy s end.state (run_size limits 1000 bd (rules w.book) s) roomy

  made_prints : ran_by made ≡ text_of input w.book
  unfolding ran_by
  made_prints =
      ran_listing end.stop end.steps (pool_bytes limits end.state) (run_stops limits 1000 bd (rules w.book) s)
      ∙ ap (listing end.stop end.steps) (image_back end.state end_tidy end_roomy)

  both_ways : (k : Bool) → ran_by (if k (λ _. made) (λ _. twelve)) ≡ if (true && (true && k)) (λ _. text_of input w.book) (λ _. refusal 12)
  unfolding if ran_by ran_text
  both_ways true = made_prints
  both_ways false = refl

  known_settings_lem : known input ≡ true
  known_settings_lem = ap₂ (λ (a b : Bool). a && b) (lt-ltb (scheduler input) 2 w.scheduler) (lt-ltb (strategy input) 2 w.strategy)

  -- The run's answer and pool give the text.
  pub prints_run : (stop steps : ℕ) (after : Bytes) → RunPromise (drop 8 input) pool (get_or input 2 0) (num input 4 + 65536 * num input 6) 1000 stop steps after
      → ran_text stop steps after ≡ printed input
  unfolding ran_by case_read
  prints_run stop steps after p =
      let o = run_call (drop 8 input) pages (bound input) (number input) 1000 in
      let q = subst (λ (x : Bytes). RunPromise (drop 8 input) x (get_or input 2 0) (num input 4 + 65536 * num input 6) 1000 stop steps after) w.is p in
      ap (λ n. ran_text n steps after) q.stops ∙ ap₂ (λ (n : ℕ) (x : Bytes). ran_text o.stop n x) q.counts q.leaves
      ∙ ap ran_by run_is ∙ both_ways bounds_known
      ∙ sym (printed_is input w.long pool ∙ ap (prints pool pages (known input) (fine input) (text_of input)) w.reads
      ∙ ap₂ (λ (a f : Bool). if (a && (f && bounds_known)) (λ _. text_of input w.book) (λ _. refusal 12)) known_settings_lem (eq-eqb (get_or input 3 0) 0 w.zero))

  -- ---- room: a slot is listed once, so the twelve slots give at most twelve sheets

  abbrev Few : State → Type 0
  Few x = length x.complete + length x.bounded ≤ 12

  few : (x : State) → Tidy limits w.book x → length x.slots ≡ 12 → Few x
  unfolding used
  few x g e =
      let n = free_count x g.once (cnt_all (λ j. j < length x.slots) (used x) g.there) in
      omega (arith, length-append x.waiting (x.complete ++ x.bounded), length-append x.complete x.bounded)

  few_image : (x : State) → Tidy limits w.book x → Roomy x → length x.slots ≡ 12 → Few (pool_in limits (pool_bytes limits x))
  few_image x g r e = subst Few (sym (image_back x g r)) (few x g e)

  few_both : (k : Bool) → Few (pool_in limits (if k (λ _. made) (λ _. twelve)).pool)
  unfolding if
  few_both true = few_image end.state end_tidy end_roomy (run_size limits 1000 bd (rules w.book) s ∙ opened_size (scheduler input) (strategy input) 12)
  few_both false = few_image s tidy roomy (opened_size (scheduler input) (strategy input) 12)

  pub few_listed : (stop steps : ℕ) (after : Bytes) → RunPromise (drop 8 input) pool (get_or input 2 0) (num input 4 + 65536 * num input 6) 1000 stop steps after
      → length (pool_in limits after).complete + length (pool_in limits after).bounded ≤ 12
  few_listed stop steps after p =
      let q = subst (λ (x : Bytes). RunPromise (drop 8 input) x (get_or input 2 0) (num input 4 + 65536 * num input 6) 1000 stop steps after) w.is p in
      subst (λ (x : Bytes). Few (pool_in limits x)) (sym (q.leaves ∙ ap (λ (o : RunOutcome). o.pool) run_is)) (few_both bounds_known)
