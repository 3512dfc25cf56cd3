-- Take as a whole: the refusals 11, 12 and 13 behind the book's check, and the promise.
use Rattle.std.specs.Prelude.{◌≡◌, ℕ, ◌-◌, ◌/◌, ◌≤◌, ◌<◌, Bool, true, false, length, T, ltb}
use Rattle.std.proofs.Common.{sym, ◌∙◌, subst, arith, lt-ltb, le-ltb}
use Rattle.std.proofs.Math.Path.{ap}
use Rattle.rules.specs.Book.{Book}
use Rattle.rules.specs.Reading.{Bytes, Read, got, refused, case_read, read_book}
use Rattle.rules.specs.Sheet.{limits}
use Rattle.rules.specs.Step.{lists}
use Rattle.rules.specs.Sound.{sound}
use Rattle.rules.specs.Calls.{right_length, checked, soundly, TakeOutcome, take_outcome, take_call, TakePromise}
use Rattle.texts.specs.Heads.{Accepted, accepted, ReadAs}
use Rattle.sheetparts.specs.Tests.{byte_at}
use Rattle.sheetparts.specs.Ways.{on, off}
use Rattle.poolcheck.specs.Pools.{sound_frame}
use Rattle.poolcheck.specs.Books.{right_slots, PoolSound}
use Rattle.settings.specs.declared.Source.{Source}
use Rattle.settings.specs.Codes.{code_of_source, source_low}
use Rattle.openings.specs.Open.{right_true}
use Rattle.takings.specs.Take.{take_first, take_going, take_rest, Took, took_by, took_is, Ready}

-- What take does behind the book's check, for every book that the text is read as.
abbrev pub TookRest : Bytes → Bytes → ℕ → Bytes → ℕ → Bytes → Bytes → Type 0
TookRest text pool list out answer after written = (b : Book) → Accepted text b → Took (take_rest b pool list out) answer after written

module _ (text pool : Bytes) (list : ℕ) (out : Bytes) where
  pub rest_eleven : right_length (length pool) ≡ false → TookRest text pool list out 11 pool out
  unfolding take_rest
  rest_eleven e b ok = took_by _ _ _ _ _ (off (right_length (length pool)) _ _ e) (took_is 11 pool out)

  module _ (e : right_length (length pool) ≡ true) where
    pub rest_twelve : 2 ≤ list → TookRest text pool list out 12 pool out
    unfolding take_rest lists
    rest_twelve h b ok = took_by _ _ _ _ _ (on (right_length (length pool)) _ _ e ∙ off (ltb list 2) _ _ (le-ltb list 2 h)) (took_is 12 pool out)

    pub ready : ReadAs text → ((i : ℕ) → byte_at pool i < 256) → (r : Bool) → PoolSound text pool r → r ≡ true → Ready pool
    ready g bytes r s q =
        let k = right_slots (length pool) (right_true (length pool) e) in
        let f = sound_frame g.book pool ((length pool - 208) / 2128) k.0 bytes (subst T (sym (sym (s g.book (accepted text g.book g.end g.reads)) ∙ q)) tt) in
        record { slots = (length pool - 208) / 2128; long = k.0; frame = f.0; image = f.1 }

    module _ (source : Source) (is : code_of_source source ≡ list) (r : Bool) (s : PoolSound text pool r) where
      known : ltb list 2 ≡ true
      known = let l = source_low source in lt-ltb list 2 (omega arith)

      pub rest_unsound : r ≡ false → TookRest text pool list out 13 pool out
      unfolding take_rest lists
      rest_unsound q b ok = took_by _ _ _ _ _ (on (right_length (length pool)) _ _ e ∙ on (ltb list 2) _ _ known ∙ off (sound limits b pool) _ _ (sym (s b ok) ∙ q)) (took_is 13 pool out)

      pub rest_going : r ≡ true → (answer : ℕ) (after written : Bytes) → Took (take_going pool (code_of_source source) out) answer after written → TookRest text pool list out answer after written
      unfolding take_rest lists
      rest_going q answer after written t b ok =
          took_by _ _ _ _ _ (on (right_length (length pool)) _ _ e ∙ on (ltb list 2) _ _ known ∙ on (sound limits b pool) _ _ (sym (s b ok) ∙ q))
          (subst (λ j. Took (take_going pool j out) answer after written) is t)

-- ---- the promise

module _ (text pool : Bytes) (list : ℕ) (out : Bytes) where
  promised : (o : TakeOutcome) → take_call text pool list out ≡ o → (answer : ℕ) (after written : Bytes) → Took o answer after written → TakePromise text pool list out answer after written
  promised o e answer after written t = record {
    answers = t.answers ∙ ap (λ (x : TakeOutcome). x.answer) (sym e);
    leaves = t.leaves ∙ ap (λ (x : TakeOutcome). x.pool) (sym e);
    writes = t.writes ∙ ap (λ (x : TakeOutcome). x.out) (sym e);
  }

  pub take_going_lem : (b : Book) (e : ℕ) → read_book text ≡ got b e → (answer : ℕ) (after written : Bytes) → TookRest text pool list out answer after written → TakePromise text pool list out answer after written
  unfolding take_call soundly checked case_read take_rest take_going take_first
  take_going_lem b e q answer after written t =
      promised (take_rest b pool list out) (ap (λ (r : Read Book). case_read r (λ n at. take_outcome n pool out) (λ b _. take_rest b pool list out)) q) answer after written (t b (accepted text b e q))

  pub take_refused : (n at : ℕ) → read_book text ≡ refused n at → TakePromise text pool list out n pool out
  unfolding take_call soundly checked case_read take_rest take_going take_first
  take_refused n at q =
      promised (take_outcome n pool out) (ap (λ (r : Read Book). case_read r (λ n at. take_outcome n pool out) (λ b _. take_rest b pool list out)) q) n pool out (took_is n pool out)
