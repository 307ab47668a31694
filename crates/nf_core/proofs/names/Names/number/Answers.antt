use Rattle.std.proofs.Common.{refl}
use Rattle.nf_core.proofs.Public.EachOnceLemmas.{position-place_of}
use Rattle.nf_core.proofs.names.Names.number.Goals as goal

pub unwrap-requires : goal.unwrap-requires
unwrap-requires c = rw (c.find.ensures, position-place_of c.args.self.now c.args.name.now c.requires) refl
