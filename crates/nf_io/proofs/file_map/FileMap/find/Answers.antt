use Rattle.nf_io.proofs.FileLemmas.{IsFound, IsFound-position}
use Rattle.nf_io.proofs.file_map.FileMap.find.Goals as goal

pub returns : goal.returns
returns c =
    let found : IsFound c.args.self.now c.args.name.now c.first_named.result = rw c.first_named.ensures (IsFound-position c.args.self.now c.args.name.now) in
    record { known = found.known; asked = found.asked; bytes = found.bytes }
