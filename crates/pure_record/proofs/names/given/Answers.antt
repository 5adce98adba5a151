use Rattle.std.proofs.Common.{◌∙◌, ap}
use Rattle.pure_record.specs.Lexemes.{spelling_of}
use Rattle.pure_record.specs.Spelled.{only}
use Rattle.pure_record.proofs.NameLemmas.{names-only}
use Rattle.pure_record.proofs.names.given.Goals as goal

pub returns-in_ok-texts-in-Some : goal.returns-in_ok-texts-in-Some
returns-in_ok-texts-in-Some c =
    names-only c.args.source.now c.args.token c.in_ok-texts-in-Some.texts
    (c.in_ok-texts-in-Some.ensures ∙ ap only (c.spelling_of.ensures ∙ ap (spelling_of c.args.token.kind) c.in-Some.ensures))
