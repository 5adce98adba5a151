use Rattle.pure_resolve.proofs.settle.kept_or_settled.Goals as goal

pub settled-requires-clause-typed : goal.settled-requires-clause-typed
settled-requires-clause-typed g c = (c.requires.long.typ, c.requires.long.typed)
