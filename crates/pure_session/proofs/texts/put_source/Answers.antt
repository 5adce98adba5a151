use Rattle.std.proofs.Common.{false, ◌⊎◌}
use Rattle.pure_text.specs.Lists.{AnyOf}
use Rattle.pure_graph.specs.SessionNames.{Gives, GivesInside, IsSpelled}
use Rattle.pure_session.proofs.SetLemmas.{gains-nothing, gains-as, each-slice}
use Rattle.pure_session.proofs.TokenLemmas.{spelled-given, spelled-fault}
use Rattle.pure_session.proofs.texts.put_source.Goals as goal

pub put_tokens-requires : goal.put_tokens-requires
put_tokens-requires c = rw c.as_slice.ensures.value (each-slice c.args.source.now 0 c.in_ok-end.end c.in-Ok.found.items c.in-Ok.ensures.slices)

pub returns-in_ok-put_tokens-in-Ok : goal.returns-in_ok-put_tokens-in-Ok
returns-in_ok-put_tokens-in-Ok c =
    gains-as c.args.texts.now c.put_tokens.new.texts (λ t. AnyOf (λ token. Gives c.args.source.now false token t ⊎ GivesInside c.args.source.now token t) c.as_slice.result.now) (IsSpelled c.args.source.now) c.in_ok-put_tokens-in-Ok.ensures
    (λ t. rw c.as_slice.ensures.value (spelled-given c.args.source.now c.in-Ok.found.items (rw c.in_ok-end.ensures at c.in-Ok.ensures.ok) t))

pub returns-in-Err-At : goal.returns-in-Err-At
returns-in-Err-At c = gains-nothing c.args.texts.now (IsSpelled c.args.source.now) (λ t g. spelled-fault c.args.source.now c.in-Err-At.field-0-0 t (rw (c.in-Err-At.field-0-is, c.in_ok-end.ensures) at c.in-Err-At.ensures.fault) g)
