use Rattle.std.proofs.Common.{◌≡◌, map, take}
use Rattle.base.specs.Lists.{flat}
use Rattle.octets.specs.Patch.{patched}
use Rattle.octets.specs.Words.{octet}
use Rattle.octets.proofs.store_bytes.Given as goal

abbrev pub invariant-loop-i : goal.invariant-loop-i
invariant-loop-i l = l.s ≡ patched l.at (flat (map octet (take l.i l.t))) l.initial.s
