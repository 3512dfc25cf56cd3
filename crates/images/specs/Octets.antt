-- The image of a pool consists of bytes, if what stands in it byte by byte does: words are bytes by themselves, and zeros are.
-- The statement is wrapped in a record, so that the parts of an image are found from their proofs.
use Rattle.std.specs.Prelude.{ℕ, zero, suc, ◌-◌, ◌*◌, ◌/◌, ◌%◌, ◌≤◌, List, [], ◌∷◌, ◌++◌, map, length, replicate}
use Rattle.std.proofs.Common.{arith}
use Rattle.base.specs.Lists.{All, flat}
use Rattle.base.specs.ListLaws.{all_both, all_map, all_append, all_flat}
use Rattle.rules.specs.Reading.{Bytes}
use Rattle.rules.specs.Sheet.{Fact, Entry, Sheet, Limits}
use Rattle.rules.specs.Pool.{State}
use Rattle.rules.specs.Image.{word, long, padded, entry_bytes, key_bytes, fact_bytes, sheet_head, sheet_bytes, pool_mark, most_slots, pool_head, pool_bytes}
use Rattle.images.specs.Storable.{StorableSheet, StorableState, Octet, FewKey, FewFact, ByteKey, ByteFact, ByteSheet, ByteState}

record Octets (xs : Bytes) : Type 0 where
  all : All Octet xs

-- ---- the shapes

join : {xs ys : Bytes} → Octets xs → Octets ys → Octets (xs ++ ys)
join {xs} {ys} a b = record { all = all_append Octet xs ys a.all b.all }

zeros : (n : ℕ) → Octets (replicate n 0)
zeros zero = record { all = tt }
zeros (suc n) = record { all = (omega arith, (zeros n).all) }

words : (n : ℕ) → Octets (word n)
unfolding word
words n = omega arith

padded_bytes : (n : ℕ) {xs : Bytes} → Octets xs → Octets (padded n xs)
unfolding padded
padded_bytes n {xs} a = join a (zeros (n - length xs))

entry_bytes_lem : (kind symbol : ℕ) (args : List ℕ) (value : ℕ) → Octet kind → Octet symbol → length args ≤ 4 → All Octet args → Octet value
    → All Octet (entry_bytes kind symbol args value)
unfolding entry_bytes
entry_bytes_lem kind symbol args value k s few a v =
    let front : Octets (kind ∷ symbol ∷ length args ∷ []) = omega arith in
    let args : Octets args = record { all = a } in
    let back : Octets (value ∷ []) = omega arith in
    (join front (join (padded_bytes 4 args) back)).all

key_bytes_lem : (x : Entry) → FewKey x → ByteKey x → All Octet (key_bytes x)
unfolding key_bytes
key_bytes_lem x few b = entry_bytes_lem x.0.kind x.0.symbol x.0.args x.1 b.kind b.symbol few b.args b.value

fact_bytes_lem : (f : Fact) → FewFact f → ByteFact f → All Octet (fact_bytes f)
unfolding fact_bytes
fact_bytes_lem f few b = entry_bytes_lem 0 f.relation f.args 0 (omega arith) b.relation few b.args (omega arith)

-- A table, given that its entries are bytes if they have P and Q.
table_bytes_lem : {A : Type 0} (P Q : A → Type 0) (f : A → Bytes) → ((x : A) → P x → Q x → All Octet (f x)) → (xs : List A) → All P xs → All Q xs
    → Octets (flat (map f xs))
table_bytes_lem P Q f g xs p q = record
    { all = all_flat Octet (map f xs) (all_map (λ x. All Octet (f x)) (All Octet) f (λ x h. h) xs (all_both P Q (λ x. All Octet (f x)) g xs p q)) }

-- ---- images

pub sheet_bytes_lem : (lim : Limits) (x : Sheet) → StorableSheet lim x → ByteSheet x → All Octet (sheet_bytes lim x)
unfolding sheet_bytes sheet_head
sheet_bytes_lem lim x st b =
    let m = x.model in
    let counts = join (words m.created) (join (words (length m.keys)) (join (words (length m.facts)) (zeros 6))) in
    let head = join (words x.number) (join (words x.place) counts) in
    let keys = table_bytes_lem FewKey ByteKey key_bytes key_bytes_lem m.keys st.model.key_args b.keys in
    let facts = table_bytes_lem FewFact ByteFact fact_bytes fact_bytes_lem m.facts st.model.fact_args b.facts in
    let depths : Octets m.depths = record { all = b.depths } in
    (join head (join (padded_bytes (8 * lim.keys) keys) (join (padded_bytes (8 * lim.facts) facts) (padded_bytes lim.elements depths)))).all

pub pool_bytes_lem : (lim : Limits) (s : State) → StorableState lim s → ByteState s → All Octet (pool_bytes lim s)
unfolding pool_bytes pool_head pool_mark long most_slots
pool_bytes_lem lim s st b =
    let front : Octets (77 ∷ 68 ∷ 76 ∷ 1 ∷ 0 ∷ s.scheduler ∷ s.strategy ∷ 0 ∷ []) = omega arith in
    let next = join (words (s.next % 65536)) (words (s.next / 65536)) in
    let counts : Octets (length s.waiting ∷ length s.complete ∷ length s.bounded ∷ 0 ∷ []) = omega arith in
    let waiting : Octets s.waiting = record { all = b.waiting } in
    let complete : Octets s.complete = record { all = b.complete } in
    let bounded : Octets s.bounded = record { all = b.bounded } in
    let lists = join (padded_bytes 64 waiting) (join (padded_bytes 64 complete) (padded_bytes 64 bounded)) in
    let slots = table_bytes_lem (StorableSheet lim) ByteSheet (sheet_bytes lim) (sheet_bytes_lem lim) s.slots st.slots b.slots in
    (join (join front (join next (join counts lists))) slots).all
