use Rattle.nf_modules.specs.inner.Places.{number_in}
use Rattle.nf_modules.proofs.ModulePlaceLemmas.{places_unnamed, added, refused}
use Rattle.nf_modules.proofs.places.add_module.Goals as goal

pub returns-in-Some-clause-ok : goal.returns-in-Some-clause-ok
returns-in-Some-clause-ok c = added (number_in c.args.places.now) (number_in c.add_name.new.places) c.args.added.now c.in-Some.name c.args.place c.in-Some.is c.add_name.result c.add_name.ensures.ok c.add_name.ensures.absent

pub returns-in-Some-clause-err : goal.returns-in-Some-clause-err
returns-in-Some-clause-err c = refused (number_in c.args.places.now) (number_in c.args.places.now) c.args.added.now c.in-Some.name c.args.place c.in-Some.is c.add_name.result c.add_name.ensures.err

pub returns-in-None-clause-ok : goal.returns-in-None-clause-ok
returns-in-None-clause-ok c = λ ms last are. places_unnamed (number_in c.args.places.now) ms c.args.added.now c.in-None.is are
