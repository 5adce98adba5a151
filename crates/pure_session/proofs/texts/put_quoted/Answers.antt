use Rattle.std.proofs.Common.{true, ◌+◌, ◌-◌}
use Rattle.pure_text.specs.Lists.{AnyOf}
use Rattle.pure_graph.specs.SessionNames.{Gives, GivesInside}
use Rattle.pure_session.proofs.SetLemmas.{gains-nothing, gains-as, each-slice}
use Rattle.pure_session.proofs.TokenLemmas.{inside-given, inside-fault}
use Rattle.pure_session.proofs.texts.put_quoted.Goals as goal

pub put_spellings-requires : goal.put_spellings-requires
put_spellings-requires c = rw c.as_slice.ensures.value (each-slice c.args.source.now (c.args.quote.now.from + 1) (c.args.quote.now.to - 1) c.in-Ok.found.items c.in-Ok.ensures.slices)

pub returns-in_ok-put_spellings-in-Ok : goal.returns-in_ok-put_spellings-in-Ok
returns-in_ok-put_spellings-in-Ok c =
    gains-as c.args.texts.now c.put_spellings.new.texts (λ t. AnyOf (λ token. Gives c.args.source.now true token t) c.as_slice.result.now) (GivesInside c.args.source.now c.args.quote.now) c.in_ok-put_spellings-in-Ok.ensures
    (λ t. rw c.as_slice.ensures.value (inside-given c.args.source.now c.args.quote.now c.in-Ok.found.items c.requires.quoted c.in-Ok.ensures.ok t))

pub returns-in-Err-At : goal.returns-in-Err-At
returns-in-Err-At c = gains-nothing c.args.texts.now (GivesInside c.args.source.now c.args.quote.now) (λ t g. inside-fault c.args.source.now c.args.quote.now c.in-Err-At.field-0-0 t (rw c.in-Err-At.field-0-is at c.in-Err-At.ensures.fault) g)
