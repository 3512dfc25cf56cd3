-- What is packed so far, and the arguments still to come.
use Rattle.firing.specs.Origins.{element_octet, origin_done, packs_start, packs_never, packs_next, packs_end}
use Rattle.look.specs.Digits.{start}
use Rattle.rules.specs.Reading.{num}
use lib.Seq.{length-take-le, get_or-take}
use lib.ListN.{get_or, take}
use native.Mathlib.Omega.{arith}
use Prim.Native.Nat.{◌+◌}
use mathlib.Core.Path.{◌≡◌, sym}
use Rattle.firing.proofs.origin_key.Goals as goal

pub loop-i-init : goal.loop-i-init
loop-i-init c = rw c.begin-key.ensures.1 (packs_start c.args.text.now c.args.at c.num16-n.result (take c.args.v c.args.env.now) c.begin-key.result.number)

pub returns-then-j-v : goal.returns-then-j-v
returns-then-j-v c =
    let w = length-take-le c.args.v c.args.env.now c.requires.1.0 in
    let f : c.begin-key.result.number ≡ start (3 + num c.args.text.now c.args.at) (num c.args.text.now (c.args.at + 2)) (num c.args.text.now (c.args.at + 4)) = omega arith in
    origin_done c.args.text.now c.args.at (take c.args.v c.args.env.now) c.begin-key.result.number c.num16-n.result 0 c.num16-n.ensures.0 f
    (packs_never c.args.text.now c.args.at c.num16-n.result (take c.args.v c.args.env.now) c.begin-key.result.number c.loop-i.i c.loop-i.key.number c.loop-i.key.weight (omega arith) c.loop-i.invariant (omega arith) 0)

pub place-key-requires : goal.place-key-requires
place-key-requires c = element_octet c.args.env.now c.args.v c.num16-j.result c.requires.1 (omega arith)

pub loop-i-preserved : goal.loop-i-preserved
loop-i-preserved c =
    let w = length-take-le c.args.v c.args.env.now c.requires.1.0 in
    let e : get_or (take c.args.v c.args.env.now) c.num16-j.result 0 ≡ get_or c.args.env.now c.num16-j.result 0 = get_or-take c.args.v c.args.env.now c.num16-j.result 0 (omega arith) in
    rw (c.place-key.ensures.0, c.place-key.ensures.1, ← e) (packs_next c.args.text.now c.args.at c.num16-n.result (take c.args.v c.args.env.now) c.begin-key.result.number c.loop-i.i c.loop-i.key.number c.loop-i.key.weight (omega arith) c.loop-i.invariant c.num16-j.result (sym c.num16-j.ensures.0) (omega arith))

pub returns : goal.returns
returns c =
    let w = length-take-le c.args.v c.args.env.now c.requires.1.0 in
    let f : c.begin-key.result.number ≡ start (3 + num c.args.text.now c.args.at) (num c.args.text.now (c.args.at + 2)) (num c.args.text.now (c.args.at + 4)) = omega arith in
    origin_done c.args.text.now c.args.at (take c.args.v c.args.env.now) c.begin-key.result.number c.num16-n.result c.loop-i.key.number c.num16-n.ensures.0 f
    (packs_end c.args.text.now c.args.at c.num16-n.result (take c.args.v c.args.env.now) c.begin-key.result.number c.loop-i.i c.loop-i.key.number c.loop-i.key.weight (omega arith) c.loop-i.invariant)
