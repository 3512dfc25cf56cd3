-- The numbers that were read are those that stand there.
use Rattle.octets.specs.Words.{numbers_read}
use Rattle.octets.proofs.load_words.Goals as goal

pub returns : goal.returns
returns c = numbers_read c.args.s.now _ c.args.at _ c.read_u64_into.auto.dst c.requires c.read_u64_into.ensures
