use Rattle.pure_unify.proofs.branch.next_image.Goals as goal

pub image_from-requires-clause-few : goal.image_from-requires-clause-few
image_from-requires-clause-few c = c.requires.variable

pub image_from-requires-clause-countable : goal.image_from-requires-clause-countable
image_from-requires-clause-countable c = c.requires.head
