-- The keys below q come first, so the place where they end is theirs.
use Rattle.std.proofs.Common.{ℕ, ◌/◌, List, ltb, rules, arith, ltb-true, ltb-false, lt-ltb}
use Rattle.std.proofs.lemmas.List.Sorted.{IsPartitionPoint-from_clause}
use Rattle.std.specs.List.Sorted.{IsPartitionedBy}
use Rattle.tables.specs.Table.{Rising, rising_below, rank_point}
use Rattle.tables.proofs.rank.Goals as goal

split : (q : ℕ) (xs : List ℕ) → Rising xs → IsPartitionedBy (λ y. ltb (y / 256) q) xs
split q xs r i j d h l e = lt-ltb _ _ (rising_below q xs r d i j h l (ltb-true _ _ e))

pub returns : goal.returns
returns c =
    let p = IsPartitionPoint-from_clause (λ y. ltb (y / 256) c.args.q) c.args.t.now c.partition_point.result c.partition_point.ensures.partitioned (split c.args.q c.args.t.now c.requires) (λ a r f' k. search rules) in (
      rank_point c.args.q c.args.t.now c.requires c.partition_point.result c.partition_point.ensures.bound
          (λ i h. ltb-true _ _ (p.0 i 0 (omega arith) h)) (λ i h l. ltb-false _ _ (p.1 i 0 h l)),
      c.partition_point.ensures.bound,
    )
