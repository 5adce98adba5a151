use Rattle.std.proofs.Common.{map}
use Rattle.pure_script.specs.Seen.{seen_have}
use Rattle.pure_declare.proofs.MayLaws.{named_in}
use Rattle.pure_declare.proofs.may.are_named_in.Goals as goal

pub returns-in-Some : goal.returns-in-Some
returns-in-Some c = named_in c.args.names.now c.args.lemma c.in-Some.text.now c.are_haves_named.result (map seen_have c.args.haves.now) c.in-Some.ensures c.are_haves_named.ensures
