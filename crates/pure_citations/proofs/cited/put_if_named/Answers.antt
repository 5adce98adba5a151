use Rattle.std.proofs.Common.{sym, ◌∙◌, true≢false}
use Rattle.pure_citations.proofs.CitedCode.{named-put, named-not}
use Rattle.pure_citations.proofs.cited.put_if_named.Goals as goal

pub returns-then-has_name : goal.returns-then-has_name
returns-then-has_name c = named-put c.args.entries.now c.args.place c.index-entries-place.result c.args.name c.requires c.index-entries-place.is (c.has_name.ensures.0 c.if-has_name.true) c.args.row.now.items c.put.new.row.items c.in_ok-put.ensures

pub returns : goal.returns
returns c = named-not c.args.entries.now c.args.place c.index-entries-place.result c.args.name c.requires c.index-entries-place.is (λ e. true≢false (sym (c.has_name.ensures.1 e) ∙ c.if-has_name.false)) c.args.row.now.items
