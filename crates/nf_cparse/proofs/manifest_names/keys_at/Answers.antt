use Rattle.nf_cparse.specs.inner.ManifestParts.{IsKeyAt, IsLineEnd}
use Rattle.nf_cparse.proofs.ListedLemmas.{so_far_more, so_far_ends}
use Rattle.nf_cparse.proofs.ManifestNameLemmas.{key_apart, key_same, line_end_same}
use Rattle.nf_cparse.proofs.manifest_names.keys_at.Goals as goal

pub keys-preserved : goal.keys-preserved
keys-preserved c = rw c.in_ok-push.ensures.ok (so_far_more IsKeyAt IsLineEnd key_apart key_same line_end_same c.args.bytes.now c.keys.keys c.keys.rest.now c.in_ok-key.next.now c.in_ok-key.key c.keys.invariant
    (record { behind = c.in-Some.key.now; space = c.in-Some.ensures; word = c.in_ok-key.ensures.ok }))

pub returns-in-Some-behind-clause-ok : goal.returns-in-Some-behind-clause-ok
returns-in-Some-behind-clause-ok c = so_far_ends IsKeyAt IsLineEnd c.args.bytes.now c.keys.keys c.keys.rest.now c.in-Some-behind.rest.now c.keys.invariant c.in-Some-behind.ensures
