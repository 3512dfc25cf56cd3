-- The keys from i on give the least depths.
use Prim.Native.Nat.{◌%◌}
use mathlib.Core.Path.{◌≡◌}
use Rattle.std.specs.Prelude.{min, get_or, map, None, Some, MatchOption}
use Rattle.std.proofs.Common.{sym, rules, length-set}
use Rattle.std.proofs.lemmas.List.{map-set, get_or-map, length-map}
use native.Mathlib.Omega.{arith}
use Rattle.sheetparts.specs.Ways.{key_met, lesser}
use Rattle.sheetparts.specs.Tests.{shown, key_value, key_depth}
use Rattle.sheetparts.proofs.fill.Goals as goal

pub loop-i-preserved : goal.loop-i-preserved
unfolding key_value key_depth
loop-i-preserved c =
    let o = get_or c.loop-i.t c.byte-e.result None in
    let deep = c.entry_depth.result in
    let fits : deep % 65536 ≡ deep = omega (arith, c.entry_depth.ensures.1) in
    let cut : MatchOption o (c.map_or.result ≡ deep % 65536) (λ least. c.map_or.result ≡ min least (deep % 65536)) = search rules in
    let low = lesser o deep c.map_or.result c.entry_depth.ensures.1 (rw fits at cut) in
    let here = get_or-map shown c.loop-i.t c.byte-e.result None 0 (omega (arith, c.loop-i.invariant.0, c.byte-e.ensures.1)) in (
      omega (arith, c.loop-i.invariant.0, length-set c.loop-i.t c.byte-e.result (Some c.map_or.result)),
      rw (map-set shown c.loop-i.t c.byte-e.result (Some c.map_or.result), low, sym here) (
          key_met (key_value c.args.s.now c.args.at) (key_depth c.args.s.now c.args.d c.args.at) _ _ _ _ (map shown c.loop-i.t) c.loop-i-test.true c.loop-i.auto.i
          c.byte-e.ensures.0 c.entry_depth.ensures.0 c.byte-e.ensures.1 c.loop-i.invariant.1 (omega (arith, c.loop-i.invariant.0, length-map c.loop-i.t shown))
          ),
    )

pub returns : goal.returns
returns c =
    let z : c.loop-i.i ≡ 0 = omega arith in
    rw z at c.loop-i.invariant.1
