use Rattle.std.proofs.Common.{◌≡◌, ◌++◌, map, drop}
use Rattle.std.specs.List.{filter_map}
use Rattle.pure_session.specs.Refused.{all_refused}
use Rattle.pure_graph.specs.Seen.{seen_files}
use Rattle.pure_graph.specs.Session.{refusal_of, shown}
use Rattle.pure_session.proofs.reason.refused_files.Given as goal

abbrev pub invariant-loop-file : goal.invariant-loop-file
invariant-loop-file l =
    all_refused l.refused.items ++ map shown (filter_map refusal_of (seen_files (drop l.file-index l.files))) ≡ map shown (filter_map refusal_of (seen_files l.files))
