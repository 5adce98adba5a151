use Rattle.std.proofs.Common.{map}
use Rattle.pure_lookup.specs.Meaning.{full_text}
use Rattle.pure_script.specs.Seen.{seen_have}
use Rattle.pure_declare.proofs.MayLaws.{lemma_named}
use Rattle.pure_declare.proofs.may.is_lemma_named.Goals as goal

pub returns-in-Some : goal.returns-in-Some
returns-in-Some c = lemma_named c.args.names.now c.in-Some.lemma (full_text c.args.theory.now c.args.base.now) c.are_named_in.result (map seen_have c.args.haves.now) c.in-Some.ensures c.are_named_in.ensures
