use Rattle.std.proofs.Common.{◌≡◌, ◌<◌, ◌^◌, length, ap, arith}
use Rattle.nf_core.specs.inner.Numbered.{members_seen}
use Rattle.nf_core.specs.Written.{keys_under}
use Rattle.nf_core.proofs.NumberedTermLemmas.{few_keys_under}
use Rattle.nf_core.proofs.numbered_terms.Members.place.Goals as goal

pub overflow_cast-result : goal.overflow_cast-result
overflow_cast-result c =
    let few : length (keys_under (members_seen c.args.self.now) c.args.label.now) < 2 ^ 32 = few_keys_under (members_seen c.args.self.now) c.args.label.now c.requires.few in
    let is : length c.in-Some.keys.now ≡ length (keys_under (members_seen c.args.self.now) c.args.label.now) = ap length c.in-Some.ensures in
    omega (arith, few, is)
