use Rattle.pure_pattern.specs.Held.{seen}
use Rattle.pure_pattern.proofs.PartLaws.{becomes-within}
use Rattle.pure_pattern.proofs.FollowLaws.{followed-long, followed-patterns, followed-sides, followed-low, followed-images, followed-low_images, followed-never, followed-new, replaced-stepped, set-stepped}
use Rattle.pure_pattern.proofs.step.step.Goals as goal

pub treated-requires-clause-long : goal.treated-requires-clause-long
treated-requires-clause-long c = (followed-long c.args.maxidx c.args.done c.requires.known.0 c.args.first (seen c.args.held).pairs c.args.held.binds.items c.requires.known.1).0

pub treated-requires-clause-patterns : goal.treated-requires-clause-patterns
treated-requires-clause-patterns c = (followed-patterns c.args.maxidx c.args.done c.requires.known.0 c.args.first (seen c.args.held).pairs c.args.held.binds.items c.requires.known.1).0

pub treated-requires-clause-within : goal.treated-requires-clause-within
treated-requires-clause-within c = (followed-sides c.args.maxidx c.args.done c.requires.known.0 c.args.first (seen c.args.held).pairs c.args.held.binds.items c.requires.known.1).0

pub replaced-requires-clause-pairs : goal.replaced-requires-clause-pairs
replaced-requires-clause-pairs c =
    becomes-within _ c.args.first c.in-Ok-Becomes.pairs.items (rw c.in-Ok-Becomes.field-0-is at c.in-Ok-Becomes.ensures.treated) (followed-sides c.args.maxidx c.args.done c.requires.known.0 c.args.first (seen c.args.held).pairs c.args.held.binds.items c.requires.known.1).0

pub replaced-requires-clause-within : goal.replaced-requires-clause-within
replaced-requires-clause-within c = record {
  sides = (followed-sides c.args.maxidx c.args.done c.requires.known.0 c.args.first (seen c.args.held).pairs c.args.held.binds.items c.requires.known.1).1;
  images = followed-images c.args.maxidx c.args.done c.requires.known.0 c.args.first (seen c.args.held).pairs c.args.held.binds.items c.requires.known.1;
}

pub returns-in-Ok-Becomes : goal.returns-in-Ok-Becomes
returns-in-Ok-Becomes c o f =
    replaced-stepped c.args.maxidx c.args.done o c.args.first c.args.held c.in-Ok-Becomes.pairs.items c.replaced.result f c.requires.less (rw c.in-Ok-Becomes.field-0-is at c.in-Ok-Becomes.ensures.treated) c.replaced.ensures

pub set_given-requires-clause-pairs : goal.set_given-requires-clause-pairs
set_given-requires-clause-pairs c = followed-low c.args.maxidx c.args.done c.requires.known.0 c.args.first (seen c.args.held).pairs c.args.held.binds.items c.requires.known.1

pub set_given-requires-clause-images : goal.set_given-requires-clause-images
set_given-requires-clause-images c = followed-low_images c.args.maxidx c.args.done c.requires.known.0 c.args.first (seen c.args.held).pairs c.args.held.binds.items c.requires.known.1

pub returns-in-Ok-Sets : goal.returns-in-Ok-Sets
returns-in-Ok-Sets c o f =
    set-stepped c.args.maxidx c.args.done o c.args.first c.args.held c.in-Ok-Sets.binds.items c.set_given.result f c.requires.less (rw c.in-Ok-Sets.field-0-is at c.in-Ok-Sets.ensures.treated) c.set_given.ensures

pub returns-in-Ok-Never : goal.returns-in-Ok-Never
returns-in-Ok-Never c o f = followed-never c.args.maxidx c.args.done o c.args.first (seen c.args.held).pairs c.args.held.binds.items f c.requires.less (rw c.in-Ok-Never.field-0-is at c.in-Ok-Never.ensures.treated)

pub returns-in-Err-Big : goal.returns-in-Err-Big
returns-in-Err-Big c o f = followed-new c.args.maxidx c.args.done o c.args.first (seen c.args.held).pairs c.args.held.binds.items f c.requires.less (rw c.in-Err-Big.field-0-is at c.in-Err-Big.ensures.treated)
