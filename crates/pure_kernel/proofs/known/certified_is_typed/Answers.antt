use Rattle.pure_kernel.proofs.known.certified_is_typed.Goals as goal

pub returns : goal.returns
returns c = λ h. (h.typ, h.typed)
