-- The bytes that a working form is stored as, region behind region.
use Rattle.std.specs.Prelude.{◌≡◌, refl, ℕ, ◌*◌, ◌≤◌, List, [], ◌∷◌, ◌++◌, map, length, get_or, take, replicate}
use Rattle.std.proofs.Common.{sym, ap, ap₂, ◌∙◌, arith, append_assoc, length-append}
use Rattle.base.specs.Lists.{flat}
use Rattle.rules.specs.Reading.{Bytes}
use Rattle.rules.specs.Sheet.{Limits}
use Rattle.rules.specs.Image.{word, padded, part}
use Rattle.images.specs.Regions.{padded_length}
use Rattle.octets.specs.Patch.{patched, patched_next, patched_all, flat_length}
use Rattle.octets.specs.Words.{octets, octet, octets_length, octet_length}
use Rattle.limits.specs.Limits.{slot_size, slot_facts_at, slot_depths_at, keys_at, facts_at, depths_at}
use Rattle.sheets.specs.Form.{View, view_of, Formed}
use Rattle.sheets.specs.Parts.{part_length}

unfoldable pub head_bytes : (number place created keys facts : ℕ) → Bytes
head_bytes n p c k f = word n ++ (word p ++ (word c ++ (word k ++ (word f ++ replicate 6 0))))

-- A head as the five counts that stand in front of a form.
pub head_counted : (w : List ℕ) → 5 ≤ length w
    → padded 16 (flat (map word (take 5 w))) ≡ head_bytes (get_or w 0 0) (get_or w 1 0) (get_or w 2 0) (get_or w 3 0) (get_or w 4 0)
unfolding head_bytes padded flat word
head_counted (n ∷ p ∷ c ∷ k ∷ f ∷ w) h = refl
head_counted (n ∷ p ∷ c ∷ k ∷ []) h = absurd (omega arith)
head_counted (n ∷ p ∷ c ∷ []) h = absurd (omega arith)
head_counted (n ∷ p ∷ []) h = absurd (omega arith)
head_counted (n ∷ []) h = absurd (omega arith)
head_counted [] h = absurd (omega arith)

unfoldable pub table_bytes : ℕ → List ℕ → Bytes
table_bytes room xs = padded (8 * room) (flat (map octets xs))

unfoldable pub depth_bytes : ℕ → List ℕ → Bytes
depth_bytes room xs = padded room (flat (map octet xs))

unfoldable pub view_bytes : Limits → View → Bytes
view_bytes lim v = head_bytes v.number v.place v.created (length v.keys) (length v.facts)
    ++ (table_bytes lim.keys v.keys ++ (table_bytes lim.facts v.facts ++ depth_bytes lim.elements v.depths))

-- ---- lengths

pub head_size_lem : (n p c k f : ℕ) → length (head_bytes n p c k f) ≡ 16
unfolding head_bytes word
head_size_lem n p c k f = refl

pub table_size : (room : ℕ) (xs : List ℕ) → length xs ≤ room → length (table_bytes room xs) ≡ 8 * room
unfolding table_bytes
table_size room xs h = padded_length (8 * room) (flat (map octets xs)) (omega (arith, flat_length 8 octets octets_length xs))

pub depth_size : (room : ℕ) (xs : List ℕ) → length xs ≤ room → length (depth_bytes room xs) ≡ room
unfolding depth_bytes
depth_size room xs h = padded_length room (flat (map octet xs)) (omega (arith, flat_length 1 octet octet_length xs))

-- ---- a slot written region by region

pub stored : (lim : Limits) (w s s₁ s₂ s₃ s₄ : List ℕ) → Formed lim w → length s ≡ slot_size lim
    → s₁ ≡ patched 0 (head_bytes (get_or w 0 0) (get_or w 1 0) (get_or w 2 0) (get_or w 3 0) (get_or w 4 0)) s
    → s₂ ≡ patched 16 (table_bytes lim.keys (part keys_at (get_or w 3 0) w)) s₁
    → s₃ ≡ patched (slot_facts_at lim) (table_bytes lim.facts (part (facts_at lim) (get_or w 4 0) w)) s₂
    → s₄ ≡ patched (slot_depths_at lim) (depth_bytes lim.elements (part (depths_at lim) (get_or w 2 0) w)) s₃
    → s₄ ≡ view_bytes lim (view_of lim w)
unfolding view_bytes view_of
stored lim w s s₁ s₂ s₃ s₄ fd size e₁ e₂ e₃ e₄ =
    let ks = part keys_at (get_or w 3 0) w in
    let fs = part (facts_at lim) (get_or w 4 0) w in
    let ds = part (depths_at lim) (get_or w 2 0) w in
    let lk : length ks ≡ get_or w 3 0 = part_length keys_at (get_or w 3 0) w (omega (arith, fd.size, fd.keys)) in
    let lf : length fs ≡ get_or w 4 0 = part_length (facts_at lim) (get_or w 4 0) w (omega (arith, fd.size, fd.facts)) in
    let ld : length ds ≡ get_or w 2 0 = part_length (depths_at lim) (get_or w 2 0) w (omega (arith, fd.size, fd.created)) in
    let hb = head_bytes (get_or w 0 0) (get_or w 1 0) (get_or w 2 0) (get_or w 3 0) (get_or w 4 0) in
    let kb = table_bytes lim.keys ks in
    let fb = table_bytes lim.facts fs in
    let db = depth_bytes lim.elements ds in
    let zh : length hb ≡ 16 = head_size_lem (get_or w 0 0) (get_or w 1 0) (get_or w 2 0) (get_or w 3 0) (get_or w 4 0) in
    let zk : length kb ≡ 8 * lim.keys = table_size lim.keys ks (omega (arith, fd.keys)) in
    let zf : length fb ≡ 8 * lim.facts = table_size lim.facts fs (omega (arith, fd.facts)) in
    let zd : length db ≡ lim.elements = depth_size lim.elements ds (omega (arith, fd.created)) in
    let z₂ : length (hb ++ kb) ≡ slot_facts_at lim = omega (arith, length-append hb kb) in
    let z₃ : length (hb ++ kb ++ fb) ≡ slot_depths_at lim = omega (arith, length-append (hb ++ kb) fb) in
    let z₄ : length (hb ++ kb ++ fb ++ db) ≡ length s = omega (arith, length-append (hb ++ kb ++ fb) db) in
    let p₂ : s₂ ≡ patched 0 (hb ++ kb) s = e₂ ∙ ap (patched 16 kb) e₁ ∙ patched_next 0 16 hb kb s (omega arith) (omega arith) in
    let p₃ : s₃ ≡ patched 0 (hb ++ kb ++ fb) s = e₃ ∙ ap (patched (slot_facts_at lim) fb) p₂ ∙ patched_next 0 (slot_facts_at lim) (hb ++ kb) fb s (omega arith) (omega arith) in
    let p₄ : s₄ ≡ patched 0 (hb ++ kb ++ fb ++ db) s = e₄ ∙ ap (patched (slot_depths_at lim) db) p₃ ∙ patched_next 0 (slot_depths_at lim) (hb ++ kb ++ fb) db s (omega arith) (omega arith) in
    p₄ ∙ patched_all (hb ++ kb ++ fb ++ db) s z₄
    ∙ append_assoc (hb ++ kb) fb db ∙ append_assoc hb kb (fb ++ db)
    ∙ ap₂ (λ i j. head_bytes (get_or w 0 0) (get_or w 1 0) (get_or w 2 0) i j ++ (kb ++ (fb ++ db))) (sym lk) (sym lf)
