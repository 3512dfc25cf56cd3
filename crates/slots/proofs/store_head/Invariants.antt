use Rattle.std.proofs.Common.{◌≡◌, map, take}
use Rattle.base.specs.Lists.{flat}
use Rattle.rules.specs.Image.{word}
use Rattle.octets.specs.Patch.{patched}
use Rattle.slots.proofs.store_head.Given as goal

abbrev pub invariant-loop-i : goal.invariant-loop-i
invariant-loop-i l = l.s ≡ patched 0 (flat (map word (take l.i l.counts))) l.initial.s
